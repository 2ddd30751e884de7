-- A number that says in which way a link began. Only contracts know it; no code computes it.
use Rattle.std.specs.Prelude.{◌++◌, ◌*◌, ℕ, zero, suc, List, [], ◌∷◌}
use Rattle.sp_base.specs.declared.addr.Host.{Host}
use Rattle.sp_base.specs.declared.addr.Host.TheVariants as hosts
use Rattle.sp_base.specs.declared.addr.Addr.{Addr}
use Rattle.sp_base.specs.declared.addr.Addr.TheVariants as addrs
use Rattle.sp_base.specs.declared.framing.Framing.{Framing}
use Rattle.sp_base.specs.declared.framing.Framing.TheVariants as framings
use Rattle.sp_links.specs.declared.way.Way.{Way}
use Rattle.sp_links.specs.declared.way.Way.TheVariants as ways

-- 2 to the a, times 2 b + 1: a different number, above 0, for each pair
unfoldable pub pair_number : ℕ → ℕ → ℕ
pair_number zero b = suc (2 * b)
pair_number (suc a) b = 2 * pair_number a b

-- a different number for each list
unfoldable pub list_number : List ℕ → ℕ
list_number [] = 0
list_number (x ∷ xs) = pair_number x (list_number xs)

abbrev pub host_numbers : Host → List ℕ
host_numbers (hosts.V4 a b c d) = 1 ∷ a ∷ b ∷ c ∷ d ∷ []
host_numbers hosts.Any = 0 ∷ []

abbrev pub addr_numbers : Addr → List ℕ
addr_numbers (addrs.Tcp host port) = 0 ∷ port ∷ host_numbers host
addr_numbers (addrs.Inproc name) = 1 ∷ name
addr_numbers (addrs.Ws host port path) = 2 ∷ port ∷ (host_numbers host ++ path)
addr_numbers (addrs.Ipc path) = 3 ∷ path

abbrev pub framing_number : Framing → ℕ
framing_number framings.Tcp = 0
framing_number framings.Ipc = 1

abbrev pub way_numbers : Way → List ℕ
way_numbers (ways.Greeting framing) = 0 ∷ framing_number framing ∷ []
way_numbers (ways.Serves path) = 1 ∷ path
way_numbers (ways.Asks addr start) = 2 ∷ start ∷ addr_numbers addr

-- a different number for each way
unfoldable pub way_number : Way → ℕ
way_number way = list_number (way_numbers way)

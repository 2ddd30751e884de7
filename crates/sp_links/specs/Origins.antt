-- Where the links of a run come from, and so in which ways they begin.
use Rattle.std.specs.Prelude.{◌≡◌, ◌+◌, ◌⊎◌, ℕ, ⊤, List, [], ◌∷◌}
use Rattle.sp_base.specs.declared.role.Role.{Role}
use Rattle.sp_base.specs.declared.addr.Addr.{Addr}
use Rattle.sp_base.specs.declared.addr.Addr.TheVariants as addrs
use Rattle.sp_base.specs.declared.framing.Framing.TheVariants as framings
use Rattle.sp_links.specs.Ways.{Ways}
use Rattle.sp_links.specs.declared.way.Way.{Way}
use Rattle.sp_links.specs.declared.way.Way.TheVariants as ways
use Rattle.sp_links.specs.Openings.{openings}

-- the addresses at which it listens, those that it dials, the number from which the keys are made, and the receive limits
-- of its ends
pub record Origins : Type 0 where
  pub listens : List Addr
  pub dials : List Addr
  pub dice : ℕ
  pub limits : List ℕ

abbrev pub IsAmong : {A : Type 0} → A → List A → Type 0
IsAmong x [] = ⊥
IsAmong x (y ∷ ys) = (y ≡ x) ⊎ IsAmong x ys

-- how a link begins that was accepted at this address
abbrev pub serving : Addr → Way
serving (addrs.Tcp host port) = ways.Greeting framings.Tcp
serving (addrs.Ws host port path) = ways.Serves path
serving (addrs.Inproc name) = ways.Greeting framings.Tcp
serving (addrs.Ipc path) = ways.Greeting framings.Ipc

-- how a link begins that was dialed to this address, where the key is made from this number
abbrev pub asking : Addr → ℕ → Way
asking (addrs.Tcp host port) start = ways.Greeting framings.Tcp
asking (addrs.Ws host port path) start = ways.Asks (addrs.Ws host port path) start
asking (addrs.Inproc name) start = ways.Greeting framings.Tcp
asking (addrs.Ipc path) start = ways.Greeting framings.Ipc

-- a link of the run may begin in this way
abbrev pub IsKnown : Origins → Way → Type 0
IsKnown o (ways.Greeting framing) = ⊤
IsKnown o (ways.Serves path) = (addr : Addr) × IsAmong addr o.listens × (serving addr ≡ ways.Serves path)
IsKnown o (ways.Asks addr start) = IsAmong addr o.dials × ((n : ℕ) × (start ≡ o.dice + n))

-- the ways in which links of a run of this role begin
abbrev pub run_ways : Role → Origins → Ways
run_ways role o = openings role (IsKnown o)

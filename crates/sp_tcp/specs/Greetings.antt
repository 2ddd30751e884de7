-- What a greeting returns for the bytes that were fed.
use Rattle.std.specs.Prelude.{◌≡◌, ◌≤◌, ◌<◌, ◌++◌, ℕ, Bool, true, false, List, length, take}
use Rattle.sp_base.specs.Outside.{IsPrefix}
use Rattle.sp_base.specs.SpTcp.{hello}
use Rattle.sp_base.specs.Roles.{role_number, role_peer}
use Rattle.sp_base.specs.declared.role.Role.{Role}
use Rattle.sp_tcp.specs.declared.greeting.Greeted.{Greeted}
use Rattle.sp_tcp.specs.declared.greeting.Greeted.TheVariants as g

-- the greeting of the peer's role
abbrev pub peer_hello : Role → List ℕ
peer_hello role = hello (role_number (role_peer role))

-- the two greetings of a role, and how many bytes of the second came; while it waits for more, only these were fed
pub record AreGreetings (role : Role) (own peer : List ℕ) (seen : ℕ) (waits : Bool) (fed : List ℕ) : Type 0 where
  pub own_is : own ≡ hello (role_number role)
  pub peer_is : peer ≡ peer_hello role
  pub within : seen ≤ 8
  pub begun : waits ≡ true → fed ≡ take seen peer

-- More: what was fed is a proper prefix of the peer's greeting. Peer: with a part of the piece it is that greeting.
-- Bad: neither of the two is a prefix of the other.
abbrev pub FedAs : Greeted → List ℕ → List ℕ → List ℕ → Bool → Type 0
FedAs g.More piece peer fed is_open = IsPrefix (fed ++ piece) peer × (length (fed ++ piece) < length peer) × (is_open ≡ true)
FedAs (g.Peer rest) piece peer fed is_open = ((head : List ℕ) × (tail : List ℕ) × (piece ≡ head ++ tail) × (fed ++ head ≡ peer) × (length tail ≡ rest)) × (is_open ≡ false)
FedAs g.Bad piece peer fed is_open = ¬ IsPrefix (fed ++ piece) peer × ¬ IsPrefix peer (fed ++ piece) × (is_open ≡ false)

-- The pipes of a req that count as roomy: which of them a call forgets.
use Rattle.std.specs.Prelude.{◌≡◌, ◌==◌, ◌&&◌, ℕ, true, not, List}
use Rattle.sp_history.specs.Lists.{has}
use Rattle.proto_reqrep.specs.declared.req.Request.{Request as Machine}
use Rattle.sp_proto.specs.Machines.{Served}
use Rattle.proto_reqrep.specs.Reqs.{places_left, roomy_of, work_left}

-- none is forgotten
abbrev pub KeepsAll : List ℕ → List ℕ → Type 0
KeepsAll us vs = (q : ℕ) → has us q ≡ true → has vs q ≡ true

-- this one is forgotten, and no other
abbrev pub DropsOnly : ℕ → List ℕ → List ℕ → Type 0
DropsOnly p us vs = (q : ℕ) → has vs q ≡ (not (q == p) && has us q)

abbrev pub KeepsRoomy : Machine → Machine → Type 0
KeepsRoomy m n = KeepsAll (roomy_of m) (roomy_of n)

abbrev pub DropsRoomy : ℕ → Machine → Machine → Type 0
DropsRoomy p m n = DropsOnly p (roomy_of m) (roomy_of n)

-- one offer fewer, and one place more
abbrev pub HasServed : Machine → Machine → Type 0
HasServed m n = Served (work_left m) (work_left n) (places_left m) (places_left n)

-- The places of open contexts.
use Rattle.std.specs.Prelude.{ℕ, List, Option}
use Rattle.proto_rep.specs.declared.rep.Source.{Source}

-- an open context, and the request that its next send answers
pub record ReplyContext : Type 0 where
  pub ctx : ℕ
  pub stored : Option Source

-- the places, in the order of their contexts' numbers
pub record PlacesView : Type 0 where
  pub items : List ReplyContext

-- an entry of the map
abbrev pub place_of : ℕ × Option Source → ReplyContext
place_of e = record { ctx = e.0; stored = e.1 }

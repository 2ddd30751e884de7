-- What messages and wires show.
use Rattle.std.specs.Prelude.{◌++◌, ℕ, List}
pub use Rattle.sp_base.specs.Wires.{WireName, OverLink, OverLanes, Nameless, WireView}

pub record MessageView : Type 0 where
  pub header : List ℕ
  pub body : List ℕ

-- the bytes that a message is on a wire
abbrev pub wire_text : MessageView → List ℕ
wire_text m = m.header ++ m.body

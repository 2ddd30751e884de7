-- What the values of this crate show.
use Rattle.std.specs.Prelude.{ℕ, Bool, List}
use Rattle.sp_base.specs.Views.{LinkView}
use Rattle.sp_base.specs.declared.framing.Framing.{Framing}
use Rattle.sp_base.specs.declared.role.Role.{Role}
use Rattle.sp_msg.specs.Views.{WireView}

-- the own role, what was fed of the peer's greeting, and whether more may be fed
pub record GreetingView : Type 0 where
  pub role : Role
  pub fed : List ℕ
  pub is_open : Bool

-- bytes that came and were not taken yet, and how much room there is after them
pub record InletView : Type 0 where
  pub unread : List ℕ
  pub room : ℕ

-- the texts that are not wholly written, and how many bytes of the first one's frame are
pub record OutletView : Type 0 where
  pub waiting : List (List ℕ)
  pub sent : ℕ

-- the bytes of one write, and their maximum number
pub record WriteStageView : Type 0 where
  pub bytes : List ℕ
  pub most : ℕ

-- what the wire shows, what its link shows, the maximum length of a body, and how messages are framed
pub record TcpView : Type 0 where
  pub wire : WireView
  pub link : LinkView
  pub max : ℕ
  pub framing : Framing

-- What contracts see of the ends of a run.
use Rattle.std.specs.Prelude.{ℕ, List, []}
use Rattle.sp_base.specs.Views.{NetView}
use Rattle.sp_base.specs.declared.role.Role.{Role}
use Rattle.sp_ends.specs.declared.newcomer.Newcomer.{Newcomer}
use Rattle.sp_ends.specs.declared.name_dialer.NameDialer.{NameDialer}
use Rattle.sp_ends.specs.declared.dialer.Dialer.{Dialer}
use Rattle.sp_ends.specs.declared.listener.Listener.{Listener}
use Rattle.sp_links.specs.Origins.{Origins}

-- what there was when the run began: the net, and where the links come from
pub record Beginning : Type 0 where
  pub net : NetView
  pub origins : Origins

-- what contracts see of the ends over links: the role, the number from which the keys are made and how many links of
-- WebSocket were dialed, the listeners, the addresses that are dialed, and the links that are being opened
pub record LinkEndsView (L : Type 0) : Type 0 where
  pub role : Role
  pub dice : ℕ
  pub asked : ℕ
  pub listeners : List Listener
  pub dialers : List Dialer
  pub newcomers : List (Newcomer L)

-- the same for the names within the process: those that are listened on, and those that are dialed
pub record NamesView : Type 0 where
  pub names : List (List ℕ)
  pub callers : List NameDialer

-- all ends of a run
pub record EndsView (L : Type 0) : Type 0 where
  pub links : LinkEndsView L
  pub names : NamesView

-- no end
abbrev pub no_links : {L : Type 0} → Role → ℕ → LinkEndsView L
no_links role dice = record { role = role; dice = dice; asked = 0; listeners = []; dialers = []; newcomers = [] }

abbrev pub no_ends : {L : Type 0} → Role → ℕ → EndsView L
no_ends role dice = record { links = no_links role dice; names = record { names = []; callers = [] } }

-- All rounds of a run.
use Rattle.std.proofs.Common.{◌≡◌, refl, ap, ◌∙◌, List, [], ◌∷◌, Bool, false, length}
use Rattle.sp_base.specs.Views.{LinkView, NetView}
use Rattle.sp_history.specs.declared.entry.Entry.{Entry}
use Rattle.sp_history.specs.declared.entry.Entry.TheVariants.{Tick}
use Rattle.sp_history.specs.Past.{now}
use Rattle.sp_history.specs.Found.{ticks}
use Rattle.sp_socket.specs.Singles.{SingleView}
use Rattle.sp_ends.specs.EndViews.{LinkEndsView, Beginning}
use Rattle.sp_ends.specs.EndsTurns.{SameEnds}
use Rattle.cat_play.specs.Scripts.{has_ticked}
use Rattle.cat_play.specs.declared.status.Status.{Status}
use Rattle.cat_play.specs.declared.status.Status.TheVariants as status
use Rattle.cat_rounds.specs.declared.player.Player.{Player}
use Rattle.cat_rounds.specs.declared.rounds.Round.TheVariants as rounds
use Rattle.cat_rounds.specs.RunRounds.{RunStands, RoundStands, is_dry_at}

no_tick : (past : List Entry) → has_ticked past ≡ false → ticks past ≡ []
no_tick [] h = refl
no_tick (Tick t due ∷ past) h = cc
no_tick (e ∷ past) h = no_tick past h

pub no_ticks : (past : List Entry) → has_ticked past ≡ false → length (ticks past) ≡ 0
no_ticks past h = ap length (no_tick past h)

pub never : (past : List Entry) → has_ticked past ≡ false → now past ≡ 0
never [] h = refl
never (Tick t due ∷ past) h = cc
never (e ∷ past) h = never past h

pub same_ends : {L : Type 0} (e : LinkEndsView L) → SameEnds e e
same_ends e = record { role = refl; dice = refl; listeners = refl; dials = refl }

pub same_then : {L : Type 0} (a b c : LinkEndsView L) → SameEnds a b → SameEnds b c → SameEnds a c
same_then a b c f g = record { role = g.role ∙ f.role; dice = g.dice ∙ f.dice; listeners = g.listeners ∙ f.listeners; dials = g.dials ∙ f.dials }

-- with what holds when a link was missed for want of memory
pub run_at : {L : Type 0} (seen : L → LinkView) (start : Beginning) (net : NetView) (s : SingleView) (e : LinkEndsView L) (p : Player) (is_dry : Bool) → RunStands seen start s e p net is_dry → RunStands seen start s e p net (is_dry_at s)
run_at seen start net s e p is_dry run = record { sound = run.sound; play = run.play; ends_stand = run.ends_stand; dry = refl }

-- what holds after a round with which the run ends
pub round_over : {L : Type 0} (seen : L → LinkView) (start : Beginning) (net : NetView) (why : Status) (s : SingleView) (e : LinkEndsView L) (p : Player) → RoundStands seen start (rounds.Ends why) s e p net → RunStands seen start s e p net (is_dry_at s)
round_over seen start net status.Done s e p run = run_at seen start net s e p false run
round_over seen start net (status.Usage at) s e p run = run_at seen start net s e p false run
round_over seen start net status.SendTimedOut s e p run = run_at seen start net s e p false run
round_over seen start net status.Over s e p run = run_at seen start net s e p false run
round_over seen start net status.NetFault s e p run = run_at seen start net s e p false run
round_over seen start net status.OutFault s e p run = run_at seen start net s e p false run
round_over seen start net status.FileFault s e p run = run_at seen start net s e p false run
round_over seen start net status.NoMemory s e p (is_dry, run) = run_at seen start net s e p is_dry run

-- What is known of a run while its parts are in use.
use Rattle.std.proofs.Common.{◌≡◌, sym, subst, ℕ, Bool}
use Rattle.sp_base.specs.Views.{LinkView, NetView}
use Rattle.sp_socket.specs.Singles.{SingleView}
use Rattle.sp_ends.specs.EndViews.{LinkEndsView, Beginning}
use Rattle.cat_rounds.specs.declared.player.Player.{Player}
use Rattle.cat_rounds.specs.PlayerSteps.{Stands}
use Rattle.cat_rounds.specs.Parts.{RunPartsView, IsRunning, IsAt}
use Rattle.cat_rounds.specs.RunRounds.{LinksStand, RunStands}

-- ---- The two halves of what holds

pub running_of : (s : SingleView) (p : Player) (t : ℕ) → Stands s p t → IsRunning s p
running_of s p t x = record { sound = x.sound; play = x.play }

pub at_of : (s : SingleView) (p : Player) (t : ℕ) → Stands s p t → IsAt s p t
at_of s p t x = record { now_is = x.now_is; topics_on = x.topics_on }

pub stands_of : (s : SingleView) (p : Player) (t : ℕ) → IsRunning s p → IsAt s p t → Stands s p t
stands_of s p t r a = record { play = r.play; sound = r.sound; now_is = a.now_is; topics_on = a.topics_on }

pub links_of : {L : Type 0} (seen : L → LinkView) (start : Beginning) (s : SingleView) (e : LinkEndsView L) (p : Player) (net : NetView) (is_dry : Bool) → RunStands seen start s e p net is_dry → LinksStand seen start s e net is_dry
links_of seen start s e p net is_dry run = record { ends_stand = run.ends_stand; dry = run.dry }

pub run_of : {L : Type 0} (seen : L → LinkView) (start : Beginning) (s : SingleView) (e : LinkEndsView L) (p : Player) (net : NetView) (is_dry : Bool) → IsRunning s p → LinksStand seen start s e net is_dry → RunStands seen start s e p net is_dry
run_of seen start s e p net is_dry r links = record { sound = r.sound; play = r.play; ends_stand = links.ends_stand; dry = links.dry }

-- ---- The parts in use are those that contracts see

pub stands_in : {L : Type 0} (a b : RunPartsView L) (t : ℕ) → a ≡ b → IsRunning a.single a.player → IsAt b.single b.player t → Stands a.single a.player t
stands_in a b t is r at =
    stands_of a.single a.player t r (subst (λ (v : RunPartsView _). IsAt v.single v.player t) (sym is) at)

pub running_in : {L : Type 0} (a b : RunPartsView L) → a ≡ b → IsRunning a.single a.player → IsRunning b.single b.player
running_in a b is r = subst (λ (v : RunPartsView _). IsRunning v.single v.player) is r

pub links_in : {L : Type 0} (seen : L → LinkView) (start : Beginning) (a b : RunPartsView L) (net : NetView) (is_dry : Bool) → a ≡ b → LinksStand seen start b.single b.ends.links net is_dry → LinksStand seen start a.single a.ends.links net is_dry
links_in seen start a b net is_dry is links =
    subst (λ (v : RunPartsView _). LinksStand seen start v.single v.ends.links net is_dry) (sym is) links

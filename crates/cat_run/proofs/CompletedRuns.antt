-- A run or a drill that nothing stops comes to its end.
use Rattle.std.specs.Prelude.{ℕ, List, Option, Some, None}
use Rattle.std.proofs.Common.{sym, subst}
use Rattle.turn_lock.specs.declared.turn.Turn.{Turn}
use Rattle.sp_base.specs.Outside.{Rose}
use Rattle.sp_history.specs.declared.entry.Entry.{Entry}
use Rattle.sp_links.specs.Ways.{Ways}
use Rattle.cat_text.specs.declared.plan.Plan.{Plan}
use Rattle.cat_text.specs.declared.plan.Plan.TheVariants as plans
use Rattle.cat_text.specs.declared.plan.CatPlan.{CatPlan}
use Rattle.cat_play.specs.declared.status.Status.{Status}
use Rattle.cat_play.specs.declared.status.Status.TheVariants as status
use Rattle.cat_play.specs.Running.{World, run_setting, RunsAs, RunsDrill, DrillsTo, ComesToEnd}
use Rattle.cat_play.proofs.Completing.{opened, unopened}
use Rattle.sp_history.specs.Past.{past_of}
use Rattle.cat_run.specs.Timely.{CompletesAs}

drilled : (s : Status) (n : ℕ) (r : List (Turn Entry)) (old new : World) → DrillsTo s n r old new → (Rose old.sink.faults new.sink.faults → ⊥) → ComesToEnd s
drilled status.Done n r old new d well = tt
drilled (status.Usage at) n r old new d well = d
drilled status.SendTimedOut n r old new d well = tt
drilled status.Over n r old new d well = d
drilled status.NetFault n r old new d well = d
drilled status.OutFault n r old new d well = absurd (well d.1)
drilled status.FileFault n r old new d well = d
drilled status.NoMemory n r old new d well = tt

pub drill_completes : (s : Status) (n : ℕ) (r : Option (List (Turn Entry))) (old new : World) → RunsDrill s n r old new → (Rose old.sink.faults new.sink.faults → ⊥) → ComesToEnd s
drill_completes s n None old new runs = λ well. subst ComesToEnd (sym runs.0) tt
drill_completes s n (Some r) old new runs = λ well. drilled s n r old new runs.1 well

pub completes : (ways : CatPlan → Ways) (s : Status) (p : Plan) (dice : ℕ) (r : Option (List (Turn Entry))) (old new : World) → RunsAs ways s p dice r old new → CompletesAs s p old new
completes ways s (plans.Cat plan) dice None old new runs = λ spared. unopened s plan old new runs.0.0 spared
completes ways s (plans.Cat plan) dice (Some r) old new runs = λ spared. opened s (run_setting plan.role dice) plan runs.0.0 (past_of r) old new runs.0.2.ended spared
completes ways s (plans.Drill n) dice r old new runs = drill_completes s n r old new runs.0

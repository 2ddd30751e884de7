-- Whether the sink failed, by what a part of a run returned.
use Rattle.std.proofs.Common.{◌≡◌, refl, sym, ◌∙◌, subst, ℕ, Bool, true, false}
use Rattle.sp_base.specs.Outside.{Rose}
use Rattle.sp_base.specs.Views.{SinkView}
use Rattle.cat_play.specs.declared.status.Status.{Status}
use Rattle.cat_play.specs.declared.status.Status.TheVariants as status
use Rattle.cat_rounds.specs.declared.player.StepResult.{StepResult}
use Rattle.cat_rounds.specs.declared.player.StepResult.TheVariants as steps
use Rattle.cat_rounds.specs.declared.rounds.Round.{Round}
use Rattle.cat_rounds.specs.declared.rounds.Round.TheVariants as rounds
use Rattle.cat_rounds.specs.PlayerSteps.{Sinks, is_failed_step}
use Rattle.cat_rounds.specs.RunRounds.{is_failed_run, is_failed_round}

-- no fault was counted before
pub sinks_then : (failed : Bool) (a b c : SinkView) → b.faults ≡ a.faults → Sinks failed b c → Sinks failed a c
sinks_then true a b c same fault = subst (λ (n : ℕ). Rose n c.faults) same fault
sinks_then false a b c same kept = kept ∙ same

pub step_faultless : (r : StepResult) (a b : SinkView) → (r ≡ steps.OutFault → ⊥) → b.faults ≡ a.faults → Sinks (is_failed_step r) a b
step_faultless steps.Begun a b n same = same
step_faultless steps.Rests a b n same = same
step_faultless steps.OutFault a b n same = absurd (n refl)
step_faultless steps.NoMemory a b n same = same

pub run_faultless : (r : Status) (a b : SinkView) → (r ≡ status.OutFault → ⊥) → b.faults ≡ a.faults → Sinks (is_failed_run r) a b
run_faultless status.Done a b n same = same
run_faultless (status.Usage at) a b n same = same
run_faultless status.SendTimedOut a b n same = same
run_faultless status.Over a b n same = same
run_faultless status.NetFault a b n same = same
run_faultless status.OutFault a b n same = absurd (n refl)
run_faultless status.FileFault a b n same = same
run_faultless status.NoMemory a b n same = same

pub round_faultless : (r : Round) (a b : SinkView) → (r ≡ rounds.Ends status.OutFault → ⊥) → b.faults ≡ a.faults → Sinks (is_failed_round r) a b
round_faultless (rounds.Goes moved) a b n same = same
round_faultless (rounds.Ends why) a b n same = run_faultless why a b (λ e. n (subst (λ (s : Status). rounds.Ends why ≡ rounds.Ends s) e refl)) same

-- a run whose output did not fail counted no fault
pub is_faultless : (r : Status) (a b : SinkView) → Sinks (is_failed_run r) a b → (r ≡ status.OutFault → ⊥) → b.faults ≡ a.faults
is_faultless status.Done a b same n = same
is_faultless (status.Usage at) a b same n = same
is_faultless status.SendTimedOut a b same n = same
is_faultless status.Over a b same n = same
is_faultless status.NetFault a b same n = same
is_faultless status.OutFault a b fault n = absurd (n refl)
is_faultless status.FileFault a b same n = same
is_faultless status.NoMemory a b same n = same

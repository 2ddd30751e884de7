-- A run ends in time, comes to its end where nothing stops it, and refuses a plan that listens twice on one name.
use Rattle.std.specs.Prelude.{ℕ, ⊤, List, Option}
use Rattle.turn_lock.specs.declared.turn.Turn.{Turn}
use Rattle.sp_history.specs.declared.entry.Entry.{Entry}
use Rattle.cat_text.specs.declared.plan.Plan.{Plan}
use Rattle.cat_text.specs.declared.plan.Plan.TheVariants as plans
use Rattle.cat_play.specs.declared.status.Status.{Status}
use Rattle.sp_base.specs.Outside.{Rose}
use Rattle.cat_rounds.specs.Built.{ListensOnce}
use Rattle.cat_play.specs.Running.{World, EndsPlan, IsSpared, ComesToEnd}

-- the rounds after the end of the plan's play have their excuse
abbrev pub EndsAs : Status → Plan → ℕ → Option (List (Turn Entry)) → World → World → Type 0
EndsAs s (plans.Cat plan) dice record_ old new = EndsPlan s plan dice record_ old new
EndsAs s (plans.Drill count) dice record_ old new = ⊤

-- where nothing failed and rounds are left, the status is done, a send that timed out, or out of memory
abbrev pub CompletesAs : Status → Plan → World → World → Type 0
CompletesAs s (plans.Cat plan) old new = IsSpared plan old new → ComesToEnd s
CompletesAs s (plans.Drill count) old new = (Rose old.sink.faults new.sink.faults → ⊥) → ComesToEnd s

-- a plan that listens twice on one name within the process can end only in these ways: a network fault, a file fault,
-- out of memory
abbrev pub IsOnce : Status → Plan → Type 0
IsOnce s (plans.Cat plan) = ListensOnce s plan.ends
IsOnce s (plans.Drill count) = ⊤

-- Who cancels an operation is a caller.
use Rattle.std.proofs.Common.{◌≡◌, refl, ap, sym, ◌∙◌, subst, List, [], ◌∷◌, ◌++◌, ℕ, ◌≤◌, inl, inr}
use Rattle.std.specs.Prelude.{◌⊎◌}
use Rattle.turn_lock.specs.declared.turn.Turn.{Turn}
use Rattle.aio_word.specs.Views.{Stands}
use Rattle.sp_base.specs.declared.OpName.{OpName}
use Rattle.sp_history.specs.declared.entry.Cause.TheVariants.{Cancelled, TimedOut, Closed, Superseded, SurveyOver}
use Rattle.sp_history.specs.declared.entry.Ending.{Ending}
use Rattle.sp_history.specs.declared.entry.Ending.TheVariants.{Won, Gone}
use Rattle.sp_history.specs.declared.entry.Entry.{Entry}
use Rattle.sp_history.specs.declared.entry.Entry.TheVariants.{End}
use Rattle.sp_history.specs.declared.setting.Setting.{Setting}
use Rattle.sp_history.specs.Past.{past_of, ends, pending}
use Rattle.sp_history.specs.Legal.{Legal, AreAllowed, Allowed, MayCome, MayEndAs}
use Rattle.sp_history.proofs.Backing.{legal_allowed}
use Rattle.sp_history.proofs.OnceHolds.{has_value}
use Rattle.sp_socket.proofs.EndsByCaller.{stands_end}

abbrev CancelledBy : Setting → List Entry → Type 0
CancelledBy z before = (op : OpName) (by : ℕ) → Stands (op, Gone Cancelled by) (ends before) → (1 ≤ by) × (by ≤ z.callers)

abbrev IsCaller : Setting → Ending → Type 0
IsCaller z (Gone Cancelled by) = (1 ≤ by) × (by ≤ z.callers)
IsCaller z _ = Unit {0}

of_caller : (z : Setting) (k : ℕ) (before : List Entry) (op : OpName) (ending : Ending) → MayCome z k before (End op ending) → IsCaller z ending
of_caller z k before op (Gone Cancelled by) a = let s = has_value (pending before op) (MayEndAs z before (Gone Cancelled by)) a in s.2
of_caller z k before op (Gone TimedOut by) a = tt
of_caller z k before op (Gone Closed by) a = tt
of_caller z k before op (Gone Superseded by) a = tt
of_caller z k before op (Gone SurveyOver by) a = tt
of_caller z k before op (Won r) a = tt

step : (z : Setting) (k : ℕ) (before : List Entry) (e : Entry) → CancelledBy z before → Allowed z k before e → CancelledBy z (e ∷ before)
step z k before (End other ending) h a = λ op by s. go op by (stands_end (op, Gone Cancelled by) (other, ending) (ends before) s)
  where
    go : (op : OpName) (by : ℕ) → Stands (op, Gone Cancelled by) (ends before) ⊎ (◌≡◌ {A = OpName × Ending} (other, ending) (op, Gone Cancelled by)) → (1 ≤ by) × (by ≤ z.callers)
    go op by (inl s) = h op by s
    go op by (inr s) = subst (IsCaller z) (ap (λ (x : OpName × Ending). x.1) s) (of_caller z k before other ending a.itself)
step z k before _ h a = h

all_by : (z : Setting) (past : List Entry) → AreAllowed z past → CancelledBy z past
all_by z [] a = λ op by s. absurd s
all_by z (e ∷ past) a = step z a.0.0 past e (all_by z past a.1) a.0.1

pub cancelled_by : (z : Setting) (h : List (Turn Entry)) (op : OpName) (by : ℕ) → Legal z h → Stands (op, Gone Cancelled by) (ends (past_of h)) → (1 ≤ by) × (by ≤ z.callers)
cancelled_by z h op by l = all_by z (past_of h) (legal_allowed z h l) op by

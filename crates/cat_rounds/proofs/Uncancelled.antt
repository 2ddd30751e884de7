-- What a finished socket shows about what was cancelled and what timed out, as rules of each entry.
use Rattle.std.proofs.Common.{◌≡◌, inl, inr, refl, sym, subst, List, [], ◌∷◌, ◌++◌, ℕ, Bool, true, false}
use Rattle.std.specs.Prelude.{◌||◌, IsTrue, if◌then◌else◌}
use Rattle.std.specs.List.{list_any}
use Rattle.sp_base.specs.declared.OpName.{OpName}
use Rattle.aio_word.specs.Views.{Stands}
use Rattle.sp_history.specs.declared.entry.Cause.TheVariants as causes
use Rattle.sp_history.specs.declared.entry.Ending.TheVariants.{Won, Gone}
use Rattle.sp_history.specs.declared.entry.Entry.{Entry}
use Rattle.sp_history.specs.declared.entry.Entry.TheVariants.{End, Tick}
use Rattle.sp_history.specs.Lists.{same_op}
use Rattle.sp_history.specs.Past.{ends, is_closed}
use Rattle.sp_history.proofs.OnceHolds.{same_op-refl}
use Rattle.sp_socket.specs.Due.{AllWereDue}
use Rattle.sp_socket.specs.Singles.{AreUncancelled}
use Rattle.cat_play.specs.Scripts.{open_part}
use Rattle.sp_ends.specs.Entries.{each}
use Rattle.cat_play.specs.Playing.{is_uncancelled}
use Rattle.sp_ends.specs.LinkRecords.{was_due, times_out_rightly}

or_true : (b : Bool) → (b || true) ≡ true
or_true true = refl
or_true false = refl

-- ---- What was cancelled

stands_before : {A : Type 0} (x : A) (xs ys : List A) → Stands x xs → Stands x (xs ++ ys)
stands_before x [] ys h = elim h [ ]
stands_before x (y ∷ xs) ys (inl e) = inl e
stands_before x (y ∷ xs) ys (inr s) = inr (stands_before x xs ys s)

stands_last : {A : Type 0} (x : A) (xs : List A) → Stands x (xs ++ x ∷ [])
stands_last x [] = inl refl
stands_last x (y ∷ xs) = inr (stands_last x xs)

less : (e : Entry) (past : List Entry) → AreUncancelled (e ∷ past) → AreUncancelled past
less (End o x) past none op by s =
    none op by (stands_before (op, Gone causes.Cancelled by) (ends past) ((o, x) ∷ []) s)
less _ past none op by s = none op by s

one_uncancelled : (e : Entry) (past : List Entry) → AreUncancelled (e ∷ past) → is_uncancelled past e ≡ true
one_uncancelled (End op (Gone causes.Cancelled by)) past none =
    elim (none op by (stands_last (op, Gone causes.Cancelled by) (ends past))) [ ]
one_uncancelled (End op (Gone causes.TimedOut by)) past none = refl
one_uncancelled (End op (Gone causes.Closed by)) past none = refl
one_uncancelled (End op (Gone causes.Superseded by)) past none = refl
one_uncancelled (End op (Gone causes.SurveyOver by)) past none = refl
one_uncancelled (End op (Won r)) past none = refl
one_uncancelled _ past none = refl

all_uncancelled : (past : List Entry) → AreUncancelled past → IsTrue (each is_uncancelled past)
all_uncancelled [] none = refl
all_uncancelled (e ∷ past) none = rw (one_uncancelled e past none) (all_uncancelled past (less e past none))

pub uncancelled_each : (past : List Entry) → AreUncancelled past → IsTrue (each is_uncancelled (open_part past))
uncancelled_each [] none = refl
uncancelled_each (e ∷ past) none =
    go (is_closed (e ∷ past)) (uncancelled_each past (less e past none)) (all_uncancelled (e ∷ past) none)
  where
    go : (b : Bool) → IsTrue (each is_uncancelled (open_part past)) → IsTrue (each is_uncancelled (e ∷ past)) → IsTrue (each is_uncancelled (if b then open_part past else e ∷ past))
    go true before all = before
    go false before all = all

-- ---- What timed out

named : (op : OpName) (due : List OpName) → Stands op due → list_any (same_op op) due ≡ true
named op [] s = elim s [ ]
named op (o ∷ due) (inl e) =
    subst (λ (n : OpName). (same_op op n || list_any (same_op op) due) ≡ true) (sym e) (rw (same_op-refl op) refl)
named op (o ∷ due) (inr s) = rw (named op due s) (or_true (same_op op o))

was_due_there : (op : OpName) (past : List Entry) (at : ℕ) (due : List OpName) → Stands (Tick at due) past → Stands op due → was_due past op ≡ true
was_due_there op [] at due s n = elim s [ ]
was_due_there op (e ∷ past) at due (inl is) n =
    subst (λ (d : Entry). was_due (d ∷ past) op ≡ true) (sym is) (rw (named op due n) refl)
was_due_there op (e ∷ past) at due (inr s) n = more e (was_due_there op past at due s n)
  where
    more : (e : Entry) → was_due past op ≡ true → was_due (e ∷ past) op ≡ true
    more (Tick t list) h = rw h (or_true (list_any (same_op op) list))
    more _ h = h

pub due_each : (past : List Entry) → AllWereDue past → IsTrue (each times_out_rightly past)
due_each [] all = refl
due_each (End op (Gone causes.TimedOut by) ∷ past) ((at, due, ticks, is), all) =
    rw (was_due_there op past at due ticks is) (due_each past all)
due_each (End op (Gone causes.Cancelled by) ∷ past) all = due_each past all
due_each (End op (Gone causes.Closed by) ∷ past) all = due_each past all
due_each (End op (Gone causes.Superseded by) ∷ past) all = due_each past all
due_each (End op (Gone causes.SurveyOver by) ∷ past) all = due_each past all
due_each (End op (Won r) ∷ past) all = due_each past all
due_each (e ∷ past) all = due_each past all

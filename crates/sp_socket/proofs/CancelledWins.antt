-- What a caller has cancelled is what was cancelled in the history.
use Rattle.std.proofs.Common.{◌≡◌, refl, ap, sym, ◌∙◌, subst, List, [], ◌∷◌, ℕ, map, inl, inr, arith}
use Rattle.std.specs.Prelude.{⊤}
use Rattle.turn_lock.specs.declared.turn.Turn.{Turn}
use Rattle.sp_base.specs.declared.OpName.{OpName}
use Rattle.aio_word.specs.declared.phase.Phase.{Phase}
use Rattle.aio_word.specs.declared.phase.Phase.TheVariants as phase
use Rattle.aio_word.specs.declared.rule.ShownOperation as word
use Rattle.aio_word.specs.Views.{Stands}
use Rattle.sp_history.specs.declared.entry.Cause.TheVariants.{Cancelled, TimedOut, Closed, Superseded, SurveyOver}
use Rattle.sp_history.specs.declared.entry.Ending.{Ending}
use Rattle.sp_history.specs.declared.entry.Ending.TheVariants.{Won, Gone}
use Rattle.sp_history.specs.declared.entry.Entry.{Entry}
use Rattle.sp_history.specs.declared.setting.Setting.{Setting}
use Rattle.sp_history.specs.Past.{past_of, ends}
use Rattle.sp_history.specs.Legal.{Legal}
use Rattle.core_state.specs.Ends.{decided, end_of}
use Rattle.sp_socket.specs.Due.{op_of}
use Rattle.sp_socket.specs.Passes.{PassView}
use Rattle.sp_socket.specs.Finishing.{HasItsWins}
use Rattle.sp_socket.specs.Singles.{with_cancelled, cancelled_in, AreCancelled, AreUncancelled}
use Rattle.sp_socket.proofs.Cancelled.{cancelled_by}
use Rattle.sp_socket.proofs.EndsByCaller.{stands_map}

abbrev IsCancel : Phase → Type 0
IsCancel phase.Cancelled = ⊤
IsCancel _ = ⊥

-- ---- Wins by a cancel

-- what was cancelled stays among those that were
kept_with : (p : Phase) (op x : OpName) (ops : List OpName) → Stands x ops → Stands x (with_cancelled p op ops)
kept_with phase.Cancelled op x ops h = inr h
kept_with phase.Idle op x ops h = h
kept_with phase.Pending op x ops h = h
kept_with phase.Won op x ops h = h
kept_with phase.Shut op x ops h = h
kept_with phase.Superseded op x ops h = h
kept_with phase.SurveyOver op x ops h = h
kept_with phase.Expired op x ops h = h

-- a win by a cancel is one of them
found_in : (ws : List word.ShownOperation) (e : word.ShownOperation) → e.phase ≡ phase.Cancelled → Stands e ws → Stands (op_of e) (cancelled_in ws)
found_in [] e c h = absurd h
found_in (w ∷ ws) e c (inl is) =
    subst (λ (x : word.ShownOperation). Stands (op_of x) (cancelled_in (w ∷ ws))) is (subst (λ (p : Phase). Stands (op_of w) (with_cancelled p (op_of w) (cancelled_in ws))) (sym (ap (λ (x : word.ShownOperation). x.phase) is ∙ c)) (inl refl))
found_in (w ∷ ws) e c (inr h) = kept_with w.phase (op_of w) (op_of e) (cancelled_in ws) (found_in ws e c h)

-- it was won by a cancel
abbrev IsWonBy : List word.ShownOperation → OpName → Type 0
IsWonBy ws op = (e : word.ShownOperation) × Stands e ws × (e.phase ≡ phase.Cancelled) × (op_of e ≡ op)

win_of : (ws : List word.ShownOperation) (op : OpName) → Stands op (cancelled_in ws) → IsWonBy ws op
win_of [] op h = absurd h
win_of (w ∷ ws) op h = go w.phase refl (λ s. win_of ws op s) h
  where
    later : IsWonBy ws op → IsWonBy (w ∷ ws) op
    later x = (x.0, inr x.1, x.2, x.3)

    go : (p : Phase) → w.phase ≡ p → (Stands op (cancelled_in ws) → IsWonBy ws op) → Stands op (with_cancelled p (op_of w) (cancelled_in ws)) → IsWonBy (w ∷ ws) op
    go phase.Cancelled is rest (inl s) = (w, inl refl, is, s)
    go phase.Cancelled is rest (inr s) = later (rest s)
    go phase.Idle is rest s = later (rest s)
    go phase.Pending is rest s = later (rest s)
    go phase.Won is rest s = later (rest s)
    go phase.Shut is rest s = later (rest s)
    go phase.Superseded is rest s = later (rest s)
    go phase.SurveyOver is rest s = later (rest s)
    go phase.Expired is rest s = later (rest s)

-- ---- Ends by a cancel

module _ {A B : Type 0} where
  from_map : (f : A → B) (y : B) (xs : List A) → Stands y (map f xs) → (x : A) × Stands x xs × (f x ≡ y)
  from_map f y [] h = absurd h
  from_map f y (x ∷ xs) (inl h) = (x, inl refl, h)
  from_map f y (x ∷ xs) (inr h) = let r = from_map f y xs h in (r.0, inr r.1, r.2)

named : (op : OpName) (ending : Ending) → op_of (end_of op ending) ≡ op
named op (Won r) = refl
named op (Gone cause by) = refl

is_cancelled : (op : OpName) (ending : Ending) → (end_of op ending).phase ≡ phase.Cancelled → (by : ℕ) × (ending ≡ Gone Cancelled by)
is_cancelled op (Gone Cancelled by) e = (by, refl)
is_cancelled op (Gone TimedOut by) e = absurd (subst IsCancel (sym e) tt)
is_cancelled op (Gone Closed by) e = absurd (subst IsCancel (sym e) tt)
is_cancelled op (Gone Superseded by) e = absurd (subst IsCancel (sym e) tt)
is_cancelled op (Gone SurveyOver by) e = absurd (subst IsCancel (sym e) tt)
is_cancelled op (Won r) e = absurd (subst IsCancel (sym e) tt)

-- ---- The one caller

module _ (z : Setting) (h : List (Turn Entry)) (p : PassView) (one : z.callers ≡ 1) (l : Legal z h) (number : p.number ≡ 1) (has : HasItsWins h p) where
  ended : (op : OpName) → Stands op (cancelled_in p.wins) → (by : ℕ) × Stands (op, Gone Cancelled by) (ends (past_of h))
  ended op s =
      let w = win_of p.wins op s in
      let e = w.0 in
      let m = from_map decided e (ends (past_of h)) ((has e).0 w.1).0 in
      let x = m.0 in
      let c = is_cancelled x.0 x.1 (ap (λ (y : word.ShownOperation). y.phase) m.2 ∙ w.2) in
      let name : x.0 ≡ op = sym (named x.0 x.1) ∙ (ap op_of m.2 ∙ w.3) in
      (c.0, subst (λ (o : OpName). Stands (o, Gone Cancelled c.0) (ends (past_of h))) name (subst (λ (n : Ending). Stands (x.0, n) (ends (past_of h))) c.1 m.1))

  won : (op : OpName) (by : ℕ) → Stands (op, Gone Cancelled by) (ends (past_of h)) → Stands op (cancelled_in p.wins)
  won op by s =
      let r = cancelled_by z h op by l s in
      let e = decided (op, Gone Cancelled by) in
      let by_is : by ≡ p.number = omega (arith, r.0, r.1, one, number) in
      let w = (has e).1 (stands_map decided (op, Gone Cancelled by) (ends (past_of h)) s, by_is) in
      found_in p.wins e refl w

  pub are_cancelled : AreCancelled (cancelled_in p.wins) (past_of h)
  are_cancelled = λ op. ((λ s. ended op s), (λ s. won op s.0 s.1))

-- where the caller cancelled nothing, nothing was cancelled
pub none_cancelled : (ops : List OpName) (past : List Entry) → ops ≡ [] → AreCancelled ops past → AreUncancelled past
none_cancelled ops past none are = λ op by s. subst (λ (os : List OpName). Stands op os) none ((are op).1 (by, s))

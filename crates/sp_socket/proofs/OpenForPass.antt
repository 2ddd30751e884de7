-- What is open for a pass after one more turn.
use Rattle.std.proofs.Common.{◌≡◌, ap, sym, ◌∙◌, subst, List, [], ◌∷◌, ◌++◌, ℕ, true}
use Rattle.std.specs.Prelude.{Option, Result, Ok, Err, IfOk}
use Rattle.std.proofs.lemmas.List.{append_cancel_right}
use Rattle.turn_lock.specs.declared.turn.Turn.{Turn}
use Rattle.turn_lock.specs.History.{turns_of}
use Rattle.sp_base.specs.declared.OpName.{OpName}
use Rattle.sp_history.specs.declared.entry.RecordedAct.{RecordedAct}
use Rattle.sp_history.specs.declared.entry.Entry.{Entry}
use Rattle.sp_history.specs.declared.setting.Setting.{Setting}
use Rattle.sp_history.specs.Past.{past_of}
use Rattle.sp_history.specs.Legal.{Legal}
use Rattle.core_state.specs.declared.causes.BeginError.{BeginError}
use Rattle.sp_core.specs.declared.calls.collect.Collected.{Collected}
use Rattle.sp_core.specs.declared.calls.collect.Collected.TheVariants as collected
use Rattle.sp_core.specs.Collecting.{IsOpen, CollectedBy}
use Rattle.sp_history.specs.Changes.{none_of}
use Rattle.sp_history.specs.Found.{IsOpenOf, collects}
use Rattle.sp_history.proofs.Appending.{LegalFrom-prefix}
use Rattle.sp_history.proofs.OpenOperations.{open_in_both, open_after, open_begun}
use Rattle.sp_core.specs.Standing.{BeganBy, HasBegin, began}
use Rattle.sp_core.specs.declared.label.CoreLabel.{CoreLabel}
use Rattle.sp_socket.specs.declared.pass_parts.PassParts.{PassParts}
use Rattle.sp_socket.specs.Passes.{PassView, TurnsOf, pass_of}
use Rattle.sp_socket.specs.Turns.{TookTurn}
use Rattle.sp_socket.specs.Open.{IsOpenFor, OpensFor, LeavesOpen, KeepsOpen, KeepsOthers}
use Rattle.sp_socket.proofs.Acting.{own_more, Went, took_here}
use Rattle.sp_socket.proofs.BegunOnce.{closed_before}
use Rattle.sp_socket.proofs.NoneTaken.{leaves, none_settling, none_in, not_collected}

module _ (says : Setting → List (Turn Entry) → Turn Entry → Type 0) (before after : PassView) (t : TookTurn says before after) (same : after.number ≡ before.number) where
  legal_turn : Legal t.label.setting (t.past ++ t.turn ∷ [])
  legal_turn = subst (Legal t.label.setting) t.seen t.legal

  own_past : before.mine ≡ turns_of before.number t.past
  own_past =
      let k = before.number in
      append_cancel_right before.mine (turns_of k t.past) (t.turn ∷ []) (sym t.mine ∙ t.exact ∙ ap (λ (i : ℕ). turns_of i after.seen) same ∙ ap (turns_of k) t.seen ∙ own_more k t.past t.turn t.number)

  -- what is open in the whole history is open for the pass
  for_pass : (op : OpName) → IsOpenOf before.number op (past_of (t.past ++ t.turn ∷ [])) → IsOpenFor after op
  for_pass op o =
      let k = before.number in
      let mine : turns_of k (t.past ++ t.turn ∷ []) ≡ after.mine = ap (turns_of k) (sym t.seen) ∙ ap (λ (i : ℕ). turns_of i after.seen) (sym same) ∙ sym t.exact in
      subst (λ (n : ℕ). IsOpen n op after.mine) (sym same) (subst (IsOpen k op) mine ((open_in_both t.label.setting k (t.past ++ t.turn ∷ []) op legal_turn).1 o))

  -- and what was open for the pass was open in the whole history
  was_open : (op : OpName) → IsOpenFor before op → IsOpenOf before.number op (past_of t.past)
  was_open op o =
      (open_in_both t.label.setting before.number t.past op (LegalFrom-prefix t.label.setting [] t.past t.turn legal_turn).0).0 (subst (IsOpen before.number op) own_past o)

  -- what the turn doesn't collect is still open
  pub keeps_one : (op : OpName) → none_of (collects op) t.turn.entries ≡ true → IsOpenFor before op → IsOpenFor after op
  keeps_one op n o = for_pass op (open_after t.label.setting t.past t.turn before.number op legal_turn (was_open op o) n)

  pub keeps : LeavesOpen t.past t.turn → KeepsOpen before after
  keeps n = λ op o. keeps_one op (n op (subst (λ (i : ℕ). IsOpenOf i op (past_of t.past)) (sym t.number) (was_open op o))) o

  -- what the turn has begun is open, and wasn't
  pub opens : (op : OpName) (c : ℕ) (act : RecordedAct) (d : Option ℕ) → HasBegin op before.number c act d t.turn → OpensFor before after op
  opens op c act d b = (
    for_pass op (open_begun t.label.setting t.past t.turn b.early b.late op before.number c act d legal_turn b.entries (none_settling op b.late b.late_settles)),
    λ was. closed_before t.label.setting t.past t.turn op before.number c act d legal_turn b before.number (was_open op was),
  )

-- the same, for what the lock and the core said about the turn
pub kept : (says : Setting → List (Turn Entry) → Turn Entry → Type 0) (t0 t1 t2 : TurnsOf) (h k : PassParts) (x : Turn Entry) (label : CoreLabel) (before : PassView) → before ≡ pass_of t0 h → Went says t0 t1 t2 h k x label → t2.number ≡ before.number → LeavesOpen t1.seen x → KeepsOpen before (pass_of t2 k)
kept says t0 t1 t2 h k x label before is w same n =
    subst (λ (b : PassView). KeepsOpen b (pass_of t2 k)) (sym is)
    (keeps says (pass_of t0 h) (pass_of t2 k) (took_here says t0 t1 t2 h k x label w) (same ∙ ap (λ (b : PassView). b.number) is) n)

-- the same, by what the core returned
pub begun_open : (says : Setting → List (Turn Entry) → Turn Entry → Type 0) (r : Result OpName BeginError) (c : ℕ) (act : RecordedAct) (d : Option ℕ) (before after : PassView) → TookTurn says before after → ((z : Setting) (h : List (Turn Entry)) (t : Turn Entry) → says z h t → BeganBy r z h t before.number c act d) → after.number ≡ before.number → IfOk r (OpensFor before after)
begun_open says (Err e) c act d before after t told same = tt
begun_open says (Ok op) c act d before after t told same = opens says before after t same op c act d (told t.label.setting t.past t.turn t.said)

-- the same where a message may come back
pub began_open : {M : Type 0} (P : OpName → Type 0) (r : Result OpName (BeginError × M)) → IfOk (began r) P → IfOk r P
began_open P (Ok op) h = h
began_open P (Err e) h = tt

-- what was not collected is still open
pub others_open : (r : Collected) (op : OpName) (before after : PassView) → TookTurn (λ z h t. CollectedBy r op before.number h t) before after → after.number ≡ before.number → KeepsOthers r op before after
others_open (collected.NotYet o) op before after t same = keeps (λ z h u. CollectedBy (collected.NotYet o) op before.number h u) before after t same (leaves t.past t.turn (none_in t.turn.entries t.said.1))
others_open (collected.Ended outcome) op before after t same = λ other n o.
    keeps_one (λ z h u. CollectedBy (collected.Ended outcome) op before.number h u) before after t same other (not_collected outcome op other before.number t.past t.turn t.said n) o

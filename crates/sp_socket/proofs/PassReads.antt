-- What a pass reads of an operation that it collects.
use Rattle.std.proofs.Common.{◌≡◌, ap, sym, ◌∙◌, subst, List, ℕ, Some}
use Rattle.turn_lock.specs.declared.turn.Turn.{Turn}
use Rattle.turn_lock.specs.History.{turns_of}
use Rattle.turn_lock.specs.Passes.{IsSameCaller}
use Rattle.sp_base.specs.declared.OpName.{OpName}
use Rattle.aio_word.specs.declared.phase.Phase.{Phase}
use Rattle.aio_word.specs.declared.phase.Phase.TheVariants as phase
use Rattle.aio_word.specs.declared.rule.WordsView.{WordsView}
use Rattle.sp_history.specs.declared.entry.Entry.{Entry}
use Rattle.sp_history.specs.declared.setting.Setting.{Setting}
use Rattle.sp_history.specs.Past.{caller_of, past_of}
use Rattle.sp_history.specs.Once.{took_count}
use Rattle.sp_history.specs.Legal.{Legal}
use Rattle.sp_core.specs.declared.calls.collect.Collected.{Collected}
use Rattle.sp_core.specs.declared.calls.collect.Collected.TheVariants as collected
use Rattle.sp_core.specs.Collecting.{IsOpen, ReadFor}
use Rattle.core_state.specs.Reads.{ReadAs}
use Rattle.sp_socket.specs.declared.pass_parts.PassParts.{PassParts}
use Rattle.sp_socket.specs.Passes.{PassView, TurnsOf, pass_of}
use Rattle.sp_socket.specs.Open.{IsOpenFor}
use Rattle.sp_socket.specs.Turns.{ReadsAs, ReadsFor}
use Rattle.sp_history.proofs.OpenOperations.{open_in_both}

-- an operation that is open for the pass is still open in what it has seen since
pub open_now : (p : PassView) (t0 t1 : TurnsOf) (h : PassParts) (op : OpName) (k : ℕ) (z : Setting) → p ≡ pass_of t0 h → IsSameCaller t0 t1 → t1.mine ≡ t0.mine → t1.mine ≡ turns_of t1.number t1.seen → Legal z t1.seen → k ≡ t1.number → IsOpenFor p op → IsOpen k op t1.seen
open_now p t0 t1 h op k z is same mine exact legal number o =
    let o0 : IsOpenFor (pass_of t0 h) op = subst (λ (x : PassView). IsOpenFor x op) is o in
    let n : t0.number ≡ k = sym same.0 ∙ sym number in
    let m : t0.mine ≡ turns_of k t1.seen = sym mine ∙ exact ∙ ap (λ (i : ℕ). turns_of i t1.seen) (sym number) in
    (open_in_both z k t1.seen op legal).0 (
      subst (λ (ts : List (Turn Entry)). caller_of (past_of ts) op ≡ Some k) m (o0.0 ∙ ap (λ (i : ℕ). Some i) n),
      subst (λ (ts : List (Turn Entry)). took_count (past_of ts) op ≡ 0) m o0.1,
    )

reads_as : (op : OpName) (p : Phase) (by : ℕ) (t0 t2 : TurnsOf) (h k : PassParts) → ReadAs op p by h.seat.view k.seat.view → ReadsAs op p by (pass_of t0 h) (pass_of t2 k)
reads_as op p by t0 t2 h k r = record { others = r.others; are_others = r.are_others; read = ap (λ x. x.reads) r.read; wins = ap (λ x. x.wins) r.read }

pub reads_for : (result : Collected) (op : OpName) (t0 t2 : TurnsOf) (h k : PassParts) → ReadFor result op h.seat.view k.seat.view → ReadsFor result op (pass_of t0 h) (pass_of t2 k)
reads_for (collected.NotYet o) op t0 t2 h k r = reads_as op phase.Pending 0 t0 t2 h k r
reads_for (collected.Ended outcome) op t0 t2 h k r = (r.0, r.1, r.2, reads_as op r.0 r.1 t0 t2 h k r.3)

-- collecting wins nothing
pub no_win : (result : Collected) (op : OpName) (v w : WordsView) → ReadFor result op v w → w.wins ≡ v.wins
no_win (collected.NotYet o) op v w r = ap (λ x. x.wins) r.read
no_win (collected.Ended outcome) op v w r = ap (λ x. x.wins) r.3.read

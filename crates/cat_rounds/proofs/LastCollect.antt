-- The last collecting, after the close.
use Rattle.std.proofs.Common.{◌≡◌, refl, ap, sym, ◌∙◌, subst, List, ◌∷◌, ◌≤◌, false, Some, arith}
use Rattle.turn_lock.specs.declared.turn.Turn.{Turn}
use Rattle.sp_base.specs.declared.OpName.{OpName}
use Rattle.sp_history.specs.declared.entry.Entry.{Entry}
use Rattle.sp_history.specs.declared.entry.Entry.TheVariants.{Down, Out, Full, End, Dry, Begin}
use Rattle.sp_history.specs.declared.parts.Begun.{Begun}
use Rattle.sp_history.specs.declared.setting.Setting.{Setting}
use Rattle.sp_history.specs.Once.{begin_count, end_count}
use Rattle.sp_history.specs.Past.{past_of, pending}
use Rattle.sp_history.proofs.Appending.{past_of-append}
use Rattle.sp_history.proofs.Filters.{pending_means}
use Rattle.sp_core.specs.declared.calls.collect.Collected.{Collected}
use Rattle.sp_core.specs.Moving.{IsSettling, AreSettling}
use Rattle.sp_core.specs.Collecting.{CollectedBy}
use Rattle.sp_socket.specs.Turns.{AllEnded}
use Rattle.sp_socket.specs.Singles.{SingleView, TookOne}
use Rattle.sp_ends.specs.Entries.{AddsNone, moves_calls, moves_ends}
use Rattle.cat_play.proofs.Stepping.{stays}
use Rattle.cat_rounds.specs.PlayerSteps.{begins_or_ticks, CollectsLast}
use Rattle.cat_rounds.proofs.Silent.{adds_one}
use Rattle.cat_rounds.proofs.BeginOrder.{end_grows}
use Rattle.cat_rounds.proofs.Settling.{ends_step, settling_silent}
use Rattle.cat_rounds.proofs.Begins.{at_new, goes_on_by}
use Rattle.cat_rounds.proofs.CollectedByPlay.{collected_none}

begins_none : (e : Entry) → IsSettling e → begins_or_ticks e ≡ false
begins_none (Down p why) h = refl
begins_none (Out p b) h = refl
begins_none (Full p) h = refl
begins_none (End op ending) h = refl
begins_none (Dry c) h = refl
begins_none _ h = elim h [ ]

pub collects_last : (s s' : SingleView) (r : Collected) (op : OpName) → (took : TookOne (λ z h t. CollectedBy r op 1 h t) s s') → CollectsLast s s'
collects_last s s' r op took =
    record {
      setting = took.setting;
      sound = record { legal = took.legal; settled = took.settled };
      cancelled = took.cancelled;
      links = (goes_on_by s s' took (collected_none moves_ends ends_step (λ o k. refl) r op s.seen took.turn took.said)).links;
      turns = subst (λ (h : List (Turn Entry)). AddsNone begins_or_ticks s.seen h) (sym took.seen) (adds_one begins_or_ticks s.seen took.turn (collected_none begins_or_ticks begins_none (λ o k. refl) r op s.seen took.turn took.said));
    }

begin_step : (op : OpName) (e : Entry) (past : List Entry) → moves_calls e ≡ false → begin_count (e ∷ past) op ≡ begin_count past op
begin_step op (Begin other k c act d) past h = cc
begin_step op _ past h = refl

-- where each operation has ended, none is pending after a turn that only settles
pub none_is_pending : {says : Setting → List (Turn Entry) → Turn Entry → Type 0} (s s' : SingleView) (took : TookOne says s s') (op : OpName) (b : Begun) → AreSettling took.turn.entries → AllEnded s.seen → pending (past_of s'.seen) op ≡ Some b → ⊥
none_is_pending s s' took op b settles ended is =
    let unended = (pending_means s'.setting s'.seen op took.legal).0 (rw is refl) in
    let begins : begin_count (past_of s'.seen) op ≡ begin_count (past_of s.seen) op =
    at_new s s' took (λ z h. begin_count (past_of h) op ≡ begin_count (past_of s.seen) op) (ap (λ past. begin_count past op) (past_of-append s.seen took.turn) ∙ stays (λ past. begin_count past op) (begin_step op) took.turn.entries (past_of s.seen) (settling_silent took.turn.entries settles)) in
    let grows : end_count (past_of s.seen) op ≤ end_count (past_of s'.seen) op =
    at_new s s' took (λ z h. end_count (past_of s.seen) op ≤ end_count (past_of h) op) (subst (λ (past : List Entry). end_count (past_of s.seen) op ≤ end_count past op) (sym (past_of-append s.seen took.turn)) (end_grows took.turn.entries (past_of s.seen) op)) in
    let a = unended.0 in
    let e = unended.1 in
    let all = (ended op).1 in
    omega (arith, a, e, begins, grows, all)

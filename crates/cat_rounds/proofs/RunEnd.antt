-- The end of a run: from the close to the record.
use Rattle.std.proofs.Common.{◌≡◌, ap, sym, ◌∙◌, subst, ℕ, List, [], ◌∷◌, ◌++◌, Option, Some, None}
use Rattle.turn_lock.specs.declared.turn.Turn.{Turn}
use Rattle.sp_base.specs.Views.{LinkView, NetView}
use Rattle.sp_base.specs.Wires.{WireView}
use Rattle.sp_base.specs.declared.OpName.{OpName}
use Rattle.sp_history.specs.declared.entry.Entry.{Entry}
use Rattle.sp_history.specs.declared.entry.Totals.{Totals}
use Rattle.sp_history.specs.declared.setting.Setting.{Setting}
use Rattle.sp_history.specs.Past.{past_of}
use Rattle.sp_history.specs.Legal.{Legal}
use Rattle.sp_history.specs.Settled.{Settled}
use Rattle.core_state.specs.declared.pipes.DownPipe.{DownPipe}
use Rattle.sp_core.specs.Closing.{ClosesSo, ClosedBy}
use Rattle.sp_core.specs.Collecting.{IsOpen}
use Rattle.sp_core.specs.Parts.{HasWires}
use Rattle.sp_socket.specs.Singles.{SingleView, TookOne, AreUncancelled, FinishedAs, cancelled_of}
use Rattle.cat_rounds.specs.Parts.{IsSoundRun}
use Rattle.sp_socket.specs.Due.{AllWereDue}
use Rattle.sp_ends.specs.EndViews.{LinkEndsView, Beginning}
use Rattle.sp_ends.specs.RunLinks.{EndsStand, SameCounts}
use Rattle.sp_ends.specs.LeftLinks.{LinksLeft, ClosedCleared}
use Rattle.sp_ends.proofs.EndsStay.{linkless}
use Rattle.cat_play.specs.Scripts.{under_way, ends_received}
use Rattle.sp_ends.specs.Entries.{AddsNone, moves_ends}
use Rattle.cat_play.proofs.Stepping.{under_way_stays}
use Rattle.cat_rounds.specs.declared.player.Player.{Player}
use Rattle.cat_rounds.specs.Lasting.{play_of, PlayStands, IsUnderWay}
use Rattle.cat_rounds.specs.PlayerSteps.{begins_or_ticks, CollectsLast}
use Rattle.cat_rounds.specs.RunRounds.{AreCleared}
use Rattle.cat_rounds.specs.Built.{FinishesTo}
use Rattle.cat_rounds.proofs.Silent.{adds_one, adds_then}
use Rattle.cat_rounds.proofs.Through.{received_stays}
use Rattle.cat_rounds.proofs.ClosedPlays.{IsClosedPlay, closing_play, close_linkless, past_closed, silent_before_close}
use Rattle.cat_rounds.proofs.WrittenBeforeClose.{closed_cleared}
use Rattle.sp_socket.proofs.CancelledWins.{none_cancelled}
use Rattle.cat_rounds.proofs.Uncancelled.{uncancelled_each, due_each}

-- what is under way stays under way with the close
pub hand_closed : (op : Option OpName) (callers : ℕ) (h : List (Turn Entry)) (t : Turn Entry) → ClosesSo callers (past_of h) t → ((o : OpName) → IsOpen 1 o h → IsOpen 1 o (h ++ t ∷ [])) → IsUnderWay op h → IsUnderWay op (h ++ t ∷ [])
hand_closed op callers h t c keeps was = go op was
  where
    same : under_way (past_of (h ++ t ∷ [])) ≡ under_way (past_of h)
    same = ap under_way (past_closed callers h t c) ∙ under_way_stays (c.ends ++ c.down_entries) (past_of h) (silent_before_close callers (past_of h) t c)

    go : (op : Option OpName) → IsUnderWay op h → IsUnderWay op (h ++ t ∷ [])
    go None under = same ∙ under
    go (Some o) (under, open_) = (same ∙ under, keeps o open_)

-- a socket was closed, and what had ended was collected, to the record
pub record IsEnding (totals : Totals) (s s' s'' : SingleView) (p : Player) (record_ : List (Turn Entry)) : Type 0 where
  pub sound : IsSoundRun s
  pub play : PlayStands s.setting s.seen p
  pub closing : TookOne (λ z h t. ClosedBy totals z.callers h t) s s'
  pub last : CollectsLast s' s''
  pub nothing : p.op ≡ None → s''.seen ≡ s'.seen
  pub whole : record_ ≡ s''.seen

module _ (totals : Totals) (s s' s'' : SingleView) (p : Player) (record_ : List (Turn Entry)) (e : IsEnding totals s s' s'' p record_) where
  pub setting_kept : s''.setting ≡ s.setting
  setting_kept = e.last.setting ∙ e.closing.setting

  abbrev base : List (Turn Entry)
  base = s.seen ++ e.closing.turn ∷ []

  -- its turns after the close
  begins_none : AddsNone begins_or_ticks base record_
  begins_none =
      subst (λ (h : List (Turn Entry)). AddsNone begins_or_ticks h record_) e.closing.seen (subst (λ (h : List (Turn Entry)). AddsNone begins_or_ticks s'.seen h) (sym e.whole) e.last.turns)

  pub links_none : AddsNone moves_ends s.seen record_
  links_none =
      adds_then moves_ends s.seen base record_ (adds_one moves_ends s.seen e.closing.turn (close_linkless s.setting.callers (past_of s.seen) e.closing.turn (e.closing.said.first e.play.is_open))) (subst (λ (h : List (Turn Entry)). AddsNone moves_ends h record_) e.closing.seen (subst (λ (h : List (Turn Entry)). AddsNone moves_ends s'.seen h) (sym e.whole) e.last.links))

  pub legal_record : Legal s.setting record_
  legal_record =
      subst (λ (z : Setting). Legal z record_) setting_kept (subst (λ (h : List (Turn Entry)). Legal s''.setting h) (sym e.whole) e.last.sound.legal)

  pub play_closes : IsClosedPlay s.setting (play_of p.script) s.seen record_
  play_closes =
      closing_play s.setting (play_of p.script) totals s.setting.callers s.seen e.closing.turn record_ e.play.is_open e.play.so_far e.closing.said begins_none

  received_kept : p.op ≡ None → ends_received (past_of record_) ≡ ends_received (past_of s.seen)
  received_kept free =
      let c = e.closing.said.first e.play.is_open in
      ap (λ (h : List (Turn Entry)). ends_received (past_of h)) (e.whole ∙ (e.nothing free ∙ e.closing.seen))
      ∙ (ap ends_received (past_closed s.setting.callers s.seen e.closing.turn c)
      ∙ received_stays (c.ends ++ c.down_entries) (past_of s.seen) (silent_before_close s.setting.callers (past_of s.seen) e.closing.turn c))

  settled_record : Settled s.setting record_
  settled_record =
      subst (λ (z : Setting). Settled z record_) setting_kept (subst (λ (h : List (Turn Entry)). Settled s''.setting h) (sym e.whole) e.last.sound.settled)

  all_cleared : AreCleared (past_of s.seen) → ClosedCleared (past_of record_)
  all_cleared cleared =
      closed_cleared s.setting totals s.setting.callers begins_or_ticks s.seen e.closing.turn record_ e.sound.legal e.play.is_open cleared e.closing.said begins_none legal_record

  -- what held of the links still holds
  pub ends_stand : {L : Type 0} (seen : L → LinkView) (start : Beginning) (net : NetView) (ends : LinkEndsView L) → EndsStand seen s.setting start s.seen net ends → EndsStand seen s.setting start record_ net ends
  ends_stand seen start net ends was =
      linkless seen s.setting start net s.seen record_ ends links_none legal_record was

  pub finishes : {L W : Type 0} (seen : L → LinkView) (shown : W → WireView) (wires : List (DownPipe W)) (start : Beginning) (net net' : NetView) (ends : LinkEndsView L) → FinishedAs shown s'' wires record_ → LinksLeft s.setting start record_ net' → SameCounts net net'
      → FinishesTo seen start s ends p net net' record_
  finishes seen shown wires start net net' ends fin left counts =
      record {
        links = links_none;
        legal = legal_record;
        settled = settled_record;
        texts_are = play_closes.texts_are;
        counts_are = play_closes.counts;
        timed = play_closes.timed;
        received = received_kept;
        closed = play_closes.closed;
        plays = record { so_far = play_closes.so_far; uncancelled = uncancelled_each (past_of record_) (subst (λ (h : List (Turn Entry)). AreUncancelled (past_of h)) (sym e.whole) (none_cancelled (cancelled_of s'') (past_of s''.seen) (e.last.cancelled ∙ (e.closing.cancelled ∙ e.sound.uncancelled)) fin.cancelled)) };
        due = due_each (past_of record_) (subst (λ (h : List (Turn Entry)). AllWereDue (past_of h)) (sym e.whole) fin.due);
        cleared = all_cleared;
        left_ = left;
        counts = counts;
      }

  pub wires_are : {W : Type 0} (shown : W → WireView) (wires : List (DownPipe W)) → FinishedAs shown s'' wires record_ → HasWires shown wires s.setting (past_of record_)
  wires_are shown wires fin =
      subst (λ (z : Setting). HasWires shown wires z (past_of record_)) setting_kept (subst (λ (h : List (Turn Entry)). HasWires shown wires s''.setting (past_of h)) (sym e.whole) fin.wires_are)

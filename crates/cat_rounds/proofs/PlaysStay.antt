-- What holds of a play still holds after turns that no rule concerns.
use Rattle.std.proofs.Common.{◌≡◌, refl, ap, sym, ◌∙◌, subst, List, [], ◌∷◌, ◌++◌, Bool, true, false, Some, None, Option}
use Rattle.turn_lock.specs.declared.turn.Turn.{Turn}
use Rattle.sp_base.specs.declared.OpName.{OpName}
use Rattle.sp_history.specs.declared.entry.Entry.{Entry}
use Rattle.sp_history.specs.declared.setting.Setting.{Setting}
use Rattle.sp_history.specs.Changes.{none_of}
use Rattle.sp_history.specs.Swept.{IsSwept}
use Rattle.sp_history.specs.Past.{onto, past_of, is_closed, caller_of}
use Rattle.sp_history.specs.Once.{took_count}
use Rattle.sp_history.proofs.Appending.{past_of-append}
use Rattle.cat_play.specs.Plans.{Play}
use Rattle.cat_play.specs.Scripts.{under_way, last_result, last_send, counted, timed_out, timed_out_in, texts}
use Rattle.cat_play.specs.Playing.{has_tick, was_swept}
use Rattle.sp_ends.specs.Entries.{AddsNone, moves_calls}
use Rattle.cat_play.proofs.Stepping.{under_way_stays, last_result_stays, is_left_stays, open_is}
use Rattle.cat_play.proofs.Staying.{counted_stays, texts_stay}
use Rattle.cat_rounds.specs.declared.player.PlayEnd.{PlayEnd}
use Rattle.cat_rounds.specs.declared.player.PlayEnd.TheVariants as overs
use Rattle.cat_rounds.specs.declared.player.Player.{Player}
use Rattle.cat_rounds.specs.Lasting.{play_of, PlayStands, IsLast, IsDue, IsOver, IsUnderWay, HasServed}
use Rattle.cat_rounds.proofs.Silent.{keeps_all, last_send_stays, closed_stays, caller_stays, took_stays, so_far_stays, serve_sweeps}
use Rattle.cat_rounds.proofs.Through.{timed_in_stays}

pub timed_stays : (receives : Bool) (entries past : List Entry) → is_closed past ≡ false → none_of moves_calls entries ≡ true → timed_out receives (onto entries past) ≡ timed_out receives past
timed_stays receives entries past open_ none =
    ap (timed_out_in receives) (open_is (onto entries past) (closed_stays entries past none ∙ open_)) ∙ (timed_in_stays receives entries past none ∙ sym (ap (timed_out_in receives) (open_is past open_)))

-- whether it is over depends only on the count and on what timed out
pub over_kept : (o : PlayEnd) (z : Setting) (play : Play) (past more : List Entry) → counted z play more ≡ counted z play past → ((receives : Bool) → timed_out receives more ≡ timed_out receives past) → IsOver o z play past → IsOver o z play more
over_kept overs.Open z play past more count timed h = rw (count, timed true, timed false) h
over_kept overs.Finished z play past more count timed h = rw (count, timed true) h
over_kept overs.SendTimedOut z play past more count timed h = rw (timed false) h

hand_stays : (op : Option OpName) (h : List (Turn Entry)) (t : Turn Entry) → none_of moves_calls t.entries ≡ true → IsUnderWay op h → IsUnderWay op (h ++ t ∷ [])
hand_stays None h t none was = ap under_way (past_of-append h t) ∙ (under_way_stays t.entries (past_of h) none ∙ was)
hand_stays (Some op) h t none (under, (caller, took)) =
    (ap under_way (past_of-append h t) ∙ (under_way_stays t.entries (past_of h) none ∙ under), (ap (λ past. caller_of past op) (past_of-append h t) ∙ (caller_stays op t.entries (past_of h) none ∙ caller), ap (λ past. took_count past op) (past_of-append h t) ∙ (took_stays op t.entries (past_of h) none ∙ took)))

turn_stays : (z : Setting) (p : Player) (h : List (Turn Entry)) (t : Turn Entry) → none_of moves_calls t.entries ≡ true → PlayStands z h p → PlayStands z (h ++ t ∷ []) p
turn_stays z p h t none was =
    record {
      role = was.role;
      surveys = was.surveys;
      carries = was.carries;
      is_open = ap is_closed is ∙ (closed_stays t.entries (past_of h) none ∙ was.is_open);
      so_far = so_far_stays z (play_of p.script) h t was.is_open none was.so_far;
      hand = hand_stays p.op h t none was.hand;
      last = subst (λ r. IsLast p.last r) (sym (ap last_result is ∙ last_result_stays t.entries (past_of h) none)) was.last;
      sent = ap last_send is ∙ (last_send_stays t.entries (past_of h) none ∙ was.sent);
      due = subst (λ n. IsDue p.script.count p.due n) (sym count) was.due;
      over = over_kept p.over z (play_of p.script) (past_of h) (past_of (h ++ t ∷ [])) count timed was.over;
      idle = λ e. ap Rattle.cat_play.specs.Playing.is_left is ∙ (is_left_stays t.entries (past_of h) none ∙ was.idle e);
    }
  where
    is : past_of (h ++ t ∷ []) ≡ onto t.entries (past_of h)
    is = past_of-append h t

    count : counted z (play_of p.script) (past_of (h ++ t ∷ [])) ≡ counted z (play_of p.script) (past_of h)
    count = ap (counted z (play_of p.script)) is ∙ counted_stays z (play_of p.script) t.entries (past_of h) was.is_open none

    timed : (receives : Bool) → timed_out receives (past_of (h ++ t ∷ [])) ≡ timed_out receives (past_of h)
    timed receives = ap (timed_out receives) is ∙ timed_stays receives t.entries (past_of h) was.is_open none

pub play_stays : (z : Setting) (p : Player) (h h' : List (Turn Entry)) → AddsNone moves_calls h h' → PlayStands z h p → PlayStands z h' p
play_stays z p h h' more was = keeps_all moves_calls (λ g. PlayStands z g p) (turn_stays z p) h h' more was

-- ---- Rounds

pub a_serve_serves : (z : Setting) (h : List (Turn Entry)) (t : Turn Entry) → has_tick t ≡ false → IsSwept z (past_of h) t → HasServed z (h ++ t ∷ [])
a_serve_serves z h t none swept ticked = serve_sweeps z h t none swept

-- ---- What is printed

pub texts_stay_so : (play : Play) (h h' : List (Turn Entry)) → is_closed (past_of h) ≡ false → AddsNone moves_calls h h' → texts play (past_of h') ≡ texts play (past_of h)
texts_stay_so play h h' open_ more =
    (keeps_all moves_calls (λ g. (is_closed (past_of g) ≡ false) × (texts play (past_of g) ≡ texts play (past_of h))) step h h' more (open_, refl)).1
  where
    step : (g : List (Turn Entry)) (t : Turn Entry) → none_of moves_calls t.entries ≡ true → (is_closed (past_of g) ≡ false) × (texts play (past_of g) ≡ texts play (past_of h)) → (is_closed (past_of (g ++ t ∷ [])) ≡ false) × (texts play (past_of (g ++ t ∷ [])) ≡ texts play (past_of h))
    step g t none (o, same) = (
      ap is_closed (past_of-append g t) ∙ (closed_stays t.entries (past_of g) none ∙ o),
      ap (texts play) (past_of-append g t) ∙ (texts_stay play t.entries (past_of g) o none ∙ same),
    )

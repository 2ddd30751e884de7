-- A tick begins a round of the play.
use Rattle.std.proofs.Common.{◌≡◌, refl, ap, sym, ◌∙◌, subst, List, [], ◌∷◌, ◌++◌, ℕ, ◌+◌, ◌≤◌, Bool, true, false, arith, length, Option, Some, None}
use Rattle.std.specs.Prelude.{◌&&◌, not, max}
use Rattle.turn_lock.specs.declared.turn.Turn.{Turn}
use Rattle.sp_base.specs.declared.OpName.{OpName}
use Rattle.sp_history.specs.declared.entry.Entry.{Entry}
use Rattle.sp_history.specs.declared.entry.Entry.TheVariants.{Tick, NoUp}
use Rattle.sp_history.specs.declared.setting.Setting.{Setting}
use Rattle.sp_history.specs.Changes.{none_of}
use Rattle.sp_history.specs.Past.{onto, past_of, now, is_closed, due_at, topics}
use Rattle.sp_history.specs.Found.{ticks}
use Rattle.sp_core.specs.Standing.{HasFirst}
use Rattle.sp_core.specs.Collecting.{DueFrom, IsOpen}
use Rattle.sp_socket.specs.Singles.{Ticks}
use Rattle.cat_play.specs.Plans.{Play}
use Rattle.cat_play.specs.Scripts.{under_way, last_result, last_send, count_in, counted, texts_in, texts, timed_out, timed_out_in}
use Rattle.cat_play.specs.Playing.{is_left}
use Rattle.sp_ends.specs.LinkRecords.{has_dry_miss}
use Rattle.sp_ends.specs.Entries.{moves_calls, moves_ends}
use Rattle.cat_play.specs.Steps.{HasOne, MayPlay}
use Rattle.cat_play.proofs.Stepping.{stays, goes_on, open_is, under_way_stays, last_result_stays, is_left_stays}
use Rattle.cat_play.proofs.Staying.{counted_stays, texts_stay}
use Rattle.cat_play.proofs.OneEntryTurns.{turn_of_one}
use Rattle.cat_rounds.specs.declared.player.Player.{Player}
use Rattle.cat_rounds.specs.Lasting.{play_of, PlayStands, IsUnderWay, IsLast, IsDue, MayTick, AreOn}
use Rattle.cat_rounds.proofs.Silent.{last_send_stays, now_stays, closed_stays}
use Rattle.cat_rounds.proofs.TopicsStay.{topics_stay, still_on}
use Rattle.cat_rounds.proofs.Settling.{settling_silent, settling_linkless}
use Rattle.cat_rounds.proofs.PlaysStay.{timed_stays, over_kept}
use Rattle.cat_rounds.proofs.Through.{turn_past}

-- the tick that an open socket adds
abbrev pub tick_of : List (Turn Entry) → ℕ → Entry
tick_of h n = Tick (max (now (past_of h)) n) (due_at (past_of h) (max (now (past_of h)) n))

pub first_tick : (h : List (Turn Entry)) (t : Turn Entry) (n : ℕ) → is_closed (past_of h) ≡ false → Ticks h t n → HasFirst (tick_of h n) t
first_tick h t n open_ (due, d) = (subst (λ (b : Bool). DueFrom b (past_of h) t (max (now (past_of h)) n) [] due) open_ d).0

pub ticks_step : (e : Entry) (past : List Entry) → moves_calls e ≡ false → ticks (e ∷ past) ≡ ticks past
ticks_step (Tick t due) past h = cc
ticks_step _ past h = refl

dry_step : (e : Entry) (past : List Entry) → moves_ends e ≡ false → has_dry_miss (e ∷ past) ≡ has_dry_miss past
dry_step (NoUp place miss) past h = cc
dry_step _ past h = refl

none_step : (f : Entry → Bool) (e : Entry) (es : List Entry) → none_of f (e ∷ es) ≡ true → (f e ≡ false) × (none_of f es ≡ true)
none_step f e es h = go (f e) (none_of f es) h
  where
    go : (a b : Bool) → (not a && b) ≡ true → (a ≡ false) × (b ≡ true)
    go true b h = cc
    go false b h = (refl, h)

pub dry_stays : (es past : List Entry) → none_of moves_ends es ≡ true → has_dry_miss (onto es past) ≡ has_dry_miss past
dry_stays [] past h = refl
dry_stays (e ∷ es) past h =
    let s = none_step moves_ends e es h in
    dry_stays es (e ∷ past) s.1 ∙ dry_step e past s.0

length_more : (xs : List ℕ) (x : ℕ) → length (xs ++ x ∷ []) ≡ length xs + 1
length_more [] x = refl
length_more (y ∷ xs) x = let e = length_more xs x in omega (arith, e)

module _ (z : Setting) (h : List (Turn Entry)) (t : Turn Entry) (n : ℕ) (p : Player) (first : HasFirst (tick_of h n) t) (was : PlayStands z h p) (may : MayTick z h p) where
  abbrev play : Play
  play = play_of p.script

  abbrev tick : Entry
  tick = tick_of h n

  abbrev more : List Entry
  more = tick ∷ past_of h

  silent : none_of moves_calls first.late ≡ true
  silent = settling_silent first.late first.late_settles

  past_is : past_of (h ++ t ∷ []) ≡ onto first.late more
  past_is = turn_past h t [] first.late tick first.entries

  one : HasOne tick t [] first.late
  one = record { stands = first.entries; before = refl; after = silent; no_close = refl }

  may_play : MayPlay z play (past_of h) tick
  may_play = record { topics = refl; alternate = refl; verbs = refl; data_ = refl; deadlines = refl; spaced = refl; rounds = may.busy; collected = rw may.collected refl }

  counted_is : counted z play (past_of (h ++ t ∷ [])) ≡ counted z play (past_of h)
  counted_is =
      ap (counted z play) past_is ∙ counted_stays z play first.late more was.is_open silent ∙ ap (count_in z play) (open_is more was.is_open) ∙ sym (ap (count_in z play) (open_is (past_of h) was.is_open))

  timed_is : (receives : Bool) → timed_out receives (past_of (h ++ t ∷ [])) ≡ timed_out receives (past_of h)
  timed_is receives =
      ap (timed_out receives) past_is ∙ timed_stays receives first.late more was.is_open silent ∙ ap (timed_out_in receives) (open_is more was.is_open) ∙ sym (ap (timed_out_in receives) (open_is (past_of h) was.is_open))

  pub ticked_texts : texts play (past_of (h ++ t ∷ [])) ≡ texts play (past_of h)
  ticked_texts =
      ap (texts play) past_is ∙ texts_stay play first.late more was.is_open silent ∙ ap (texts_in play) (open_is more was.is_open) ∙ sym (ap (texts_in play) (open_is (past_of h) was.is_open))

  under_is : under_way (past_of (h ++ t ∷ [])) ≡ under_way (past_of h)
  under_is = ap under_way past_is ∙ under_way_stays first.late more silent

  left_is : under_way (past_of h) ≡ None → is_left (past_of (h ++ t ∷ [])) ≡ false
  left_is free = ap is_left past_is ∙ (is_left_stays first.late more silent ∙ rw free refl)

  hand_is : ((op : OpName) → IsOpen 1 op h → IsOpen 1 op (h ++ t ∷ [])) → (o : Option OpName) → IsUnderWay o h → IsUnderWay o (h ++ t ∷ [])
  hand_is keep None u = under_is ∙ u
  hand_is keep (Some op) u = (under_is ∙ u.0, keep op u.1)

  pub ticked_play : ((op : OpName) → IsOpen 1 op h → IsOpen 1 op (h ++ t ∷ [])) → PlayStands z (h ++ t ∷ []) p
  ticked_play keep =
      record {
        role = was.role;
        surveys = was.surveys;
        carries = was.carries;
        is_open = ap is_closed past_is ∙ (closed_stays first.late more silent ∙ was.is_open);
        so_far = goes_on z play h t was.is_open was.so_far (turn_of_one z play h t tick [] first.late one may_play refl (λ e ticked. may.served ticked));
        hand = hand_is keep p.op was.hand;
        last = subst (λ (r : _). IsLast p.last r) (sym (ap last_result past_is ∙ last_result_stays first.late more silent)) was.last;
        sent = ap last_send past_is ∙ (last_send_stays first.late more silent ∙ was.sent);
        due = subst (IsDue p.script.count p.due) (sym counted_is) was.due;
        over = over_kept p.over z play (past_of h) (past_of (h ++ t ∷ [])) counted_is timed_is was.over;
        idle = λ free. left_is (free_under free);
      }
    where
      free_under : p.op ≡ None → under_way (past_of h) ≡ None
      free_under free = subst (λ (o : Option OpName). IsUnderWay o h) free was.hand

  pub ticked_now : now (past_of h) ≤ n → n ≡ now (past_of (h ++ t ∷ []))
  ticked_now less = sym (ap now past_is ∙ (now_stays first.late more silent ∙ omega (arith, less)))

  pub ticked_ticks : length (ticks (past_of (h ++ t ∷ []))) ≡ length (ticks (past_of h)) + 1
  ticked_ticks = ap (λ (past : List Entry). length (ticks past)) past_is ∙ (ap length (stays ticks ticks_step first.late more silent) ∙ length_more (ticks (past_of h)) (max (now (past_of h)) n))

  pub ticked_dry : has_dry_miss (past_of (h ++ t ∷ [])) ≡ has_dry_miss (past_of h)
  ticked_dry = ap has_dry_miss past_is ∙ dry_stays first.late more (settling_linkless first.late first.late_settles)

  pub ticked_topics : AreOn p.script.topics (past_of (h ++ t ∷ []))
  ticked_topics = still_on p.script.topics (past_of h) (past_of (h ++ t ∷ [])) (ap (λ (past : List Entry). topics past 0) past_is ∙ topics_stay first.late more silent) may.topics_on

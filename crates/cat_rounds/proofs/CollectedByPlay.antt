-- A collecting of the play: what holds after it, what it counts, and what it prints.
use Rattle.std.proofs.Common.{◌≡◌, refl, ap, sym, ◌∙◌, subst, List, [], ◌∷◌, ◌++◌, ℕ, ◌+◌, ◌-◌, ◌≤◌, Bool, true, false, Some, None, Option, inl, inr, arith, append_assoc}
use Rattle.std.specs.Prelude.{◌==◌, ◌⊎◌, ◌||◌, ◌&&◌, IsTrue, is_some, is_none, nat_le, if◌then◌else◌}
use Rattle.std.proofs.lemmas.Bool.Decides.{nat_tests}
use Rattle.std.proofs.lemmas.Grind.{flat_map-append}
use Rattle.turn_lock.specs.declared.turn.Turn.{Turn}
use Rattle.sp_base.specs.Outside.{grown, IsPrefix}
use Rattle.sp_base.specs.declared.OpName.{OpName}
use Rattle.sp_history.specs.declared.entry.RecordedAct.{RecordedAct}
use Rattle.sp_history.specs.declared.entry.RecordedAct.TheVariants.{Recv, Send}
use Rattle.sp_history.specs.declared.entry.Cause.TheVariants.{Cancelled, TimedOut, Closed, Superseded, SurveyOver}
use Rattle.sp_history.specs.declared.entry.Completion.TheVariants.{Received, Sent}
use Rattle.sp_history.specs.declared.entry.RecordedMessage.{RecordedMessage}
use Rattle.sp_history.specs.declared.entry.Ending.{Ending}
use Rattle.sp_history.specs.declared.entry.Ending.TheVariants.{Won, Gone}
use Rattle.sp_history.specs.declared.entry.Entry.{Entry}
use Rattle.sp_history.specs.declared.entry.Entry.TheVariants.{Took}
use Rattle.sp_history.specs.declared.parts.Begun.{Begun}
use Rattle.sp_history.specs.declared.setting.Setting.{Setting}
use Rattle.sp_history.specs.Changes.{none_of}
use Rattle.sp_history.specs.Legal.{Legal}
use Rattle.sp_history.specs.Found.{act_of, end_of}
use Rattle.sp_history.specs.Past.{past_of, now, pending}
use Rattle.sp_history.proofs.OnceHolds.{ends_once}
use Rattle.sp_history.proofs.StandingEntries.{begin_is_found, end_is_found}
use Rattle.sp_core.specs.declared.calls.collect.Collected.{Collected}
use Rattle.sp_core.specs.declared.calls.collect.Collected.TheVariants as collected
use Rattle.core_state.specs.declared.outcome.Outcome.{Outcome}
use Rattle.core_state.specs.declared.outcome.Outcome.TheVariants as outcomes
use Rattle.core_state.specs.Ends.{outcome_of, back_of}
use Rattle.sp_core.specs.Moving.{IsSettling}
use Rattle.sp_core.specs.Collecting.{CollectedBy, HasTook, HasEnded}
use Rattle.sp_socket.specs.Singles.{SingleView, TookOne}
use Rattle.cat_rounds.specs.Parts.{IsSoundRun}
use Rattle.cat_text.specs.Printing.{print}
use Rattle.cat_play.specs.Plans.{Play}
use Rattle.cat_play.specs.Scripts.{asks_anew, under_way, counted, counts_for, over, has_reached, timed_out, is_timed_out, is_kind, texts, text_of, joined, is_received, ends_received}
use Rattle.cat_play.specs.Playing.{alternates, is_left}
use Rattle.sp_ends.specs.Entries.{each}
use Rattle.cat_play.specs.Running.{IsCutShort}
use Rattle.cat_play.specs.Steps.{HasOne}
use Rattle.sp_ends.specs.Entries.{moves_ends}
use Rattle.cat_rounds.specs.declared.next.LastCollected.{LastCollected}
use Rattle.cat_rounds.specs.declared.next.LastCollected.TheVariants as lasts
use Rattle.cat_rounds.specs.declared.player.PlayEnd.{PlayEnd}
use Rattle.cat_rounds.specs.declared.player.PlayEnd.TheVariants as overs
use Rattle.cat_rounds.specs.declared.player.Collecting.{Collecting}
use Rattle.cat_rounds.specs.declared.player.Collecting.TheVariants as collecting
use Rattle.cat_rounds.specs.declared.player.Player.{Player}
use Rattle.cat_rounds.specs.Lasting.{play_of, is_survey_over, PlayStands, IsOver, IsLast, IsDue, IsUnderWay, HasPrinted}
use Rattle.cat_rounds.specs.PlayerSteps.{Stands, GoesOnBy, NotedAs, PutsFor, Puts, PrintedThen, less_due, is_last_item, over_after, over_for, counts_for_last}
use Rattle.cat_rounds.proofs.Silent.{append_nil}
use Rattle.cat_rounds.proofs.Settling.{settling_silent, settling_linkless, none_around, none_settling}
use Rattle.cat_rounds.proofs.BeginOrder.{goes_on_while_busy, pending_is_not_left}
use Rattle.cat_play.proofs.Stepping.{open_is}
use Rattle.cat_rounds.proofs.Through.{TookLeaves, took_leaves, took_goes_on}
use Rattle.cat_rounds.proofs.Begins.{at_new, sound_new, goes_on_by}
use Rattle.cat_rounds.proofs.Surveying.{over_is, counts_same}
use Rattle.cat_rounds.proofs.WhatCounts.{received_counts, sent_counts, over_counts, gone_counts}

-- ---- No other entry

pub collected_none : (f : Entry → Bool) → ((e : Entry) → IsSettling e → f e ≡ false) → ((op : OpName) (k : ℕ) → f (Took op k) ≡ false)
    → (r : Collected) (op : OpName) (h : List (Turn Entry)) (t : Turn Entry) → CollectedBy r op 1 h t → none_of f t.entries ≡ true
collected_none f settles took (collected.NotYet o) op h t by = none_settling f settles t.entries by.1
collected_none f settles took (collected.Ended outcome) op h t by =
    let has = by.0 in
    subst (λ (es : List Entry). none_of f es ≡ true) (sym has.entries) (none_around f has.early (Took op 1) has.late (none_settling f settles has.early has.early_settles) (took op 1) (none_settling f settles has.late has.late_settles))

-- ---- Counting

-- what is not over: no count is reached, and nothing timed out
parts : (a b c : Bool) → (a || b || c) ≡ false → (a ≡ false) × (b ≡ false) × (c ≡ false)
parts false false false h = (refl, refl, refl)
parts false false true h = cc
parts false true c h = cc
parts true b c h = cc

going_is_open : (o : PlayEnd) (z : Setting) (play : Play) (past : List Entry) → IsOver o z play past → over z play past ≡ false → o ≡ overs.Open
going_is_open overs.Open z play past is h = refl
going_is_open overs.Finished z play past is h = go _ (timed_out false past) is h
  where
    go : {B : Type 0} → (a c : Bool) → a ≡ true → (a || c) ≡ false → B
    go true c e k = cc
    go false c e k = cc
going_is_open overs.SendTimedOut z play past is h = go (has_reached play.count (counted z play past) || timed_out true past) _ is h
  where
    go : {B : Type 0} → (a c : Bool) → c ≡ true → (a || c) ≡ false → B
    go true c e k = cc
    go false c e k = cc

-- one more, if it counts
abbrev one_more : Bool → ℕ → ℕ
one_more c n = if c then n + 1 else n

pub due_is_some : (count due : Option ℕ) (n : ℕ) → IsDue count due n → has_reached count n ≡ false → due ≡ Some 0 → ⊥
due_is_some None due n is r e = cc
due_is_some (Some k) None n is r e = cc
due_is_some (Some k) (Some d) n is r e =
    let z : d ≡ 0 = some_same d 0 e in
    let less : (n ≤ k) → n ≡ k → ⊥ = λ a b. reached r b in
    less (omega arith) (omega arith)
  where
    some_same : (a b : ℕ) → Some a ≡ Some b → a ≡ b
    some_same a b h = cc

    reached : nat_le k n ≡ false → n ≡ k → ⊥
    reached h e = grind (arith, nat_tests)

due_after : (c : Bool) (count due : Option ℕ) (n : ℕ) → IsDue count due n → has_reached count n ≡ false → IsDue count (less_due c due) (one_more c n)
due_after false None due n is r = is
due_after false (Some k) None n is r = is
due_after false (Some k) (Some d) n is r = is
due_after true None None n is r = refl
due_after true None (Some d) n is r = cc
due_after true (Some k) None n is r = is
due_after true (Some k) (Some d) n is r = one k d n is r
  where
    one : (k d n : ℕ) → n + d ≡ k → nat_le k n ≡ false → (n + 1) + (d - 1) ≡ k
    one k d n is r = grind (arith, nat_tests)

over_next : (c : Bool) (count due : Option ℕ) (n : ℕ) → IsDue count due n → has_reached count n ≡ false
    → ((is_last_item c due ≡ true) × (has_reached count (one_more c n) ≡ true)) ⊎ ((is_last_item c due ≡ false) × (has_reached count (one_more c n) ≡ false))
over_next false count due n is r = inr (refl, r)
over_next true None None n is r = inr (refl, refl)
over_next true None (Some d) n is r = cc
over_next true (Some k) None n is r = elim is [ ]
over_next true (Some k) (Some d) n is r = go (d == 1) refl
  where
    last : (k d n : ℕ) → n + d ≡ k → (d == 1) ≡ true → nat_le k (n + 1) ≡ true
    last k d n is e = grind (arith, nat_tests)

    more : (k d n : ℕ) → n + d ≡ k → nat_le k n ≡ false → (d == 1) ≡ false → nat_le k (n + 1) ≡ false
    more k d n is r e = grind (arith, nat_tests)

    go : (b : Bool) → (d == 1) ≡ b → (((d == 1) ≡ true) × (nat_le k (n + 1) ≡ true)) ⊎ (((d == 1) ≡ false) × (nat_le k (n + 1) ≡ false))
    go true e = inl (e, last k d n is e)
    go false e = inr (e, more k d n is r e)

-- ---- What holds

-- an operation of the player was collected, and ended like this
pub record IsCollected (s s' : SingleView) (p : Player) (op : OpName) (act : RecordedAct) (ending : Ending) : Type 0 where
  pub setting : s'.setting ≡ s.setting
  pub sound : IsSoundRun s'
  pub goes_on : GoesOnBy s s'
  pub leaves : TookLeaves s.setting (play_of p.script) op ending s.seen s'.seen
  pub act_is : act_of (past_of s'.seen) op ≡ Some act
  pub stands : (last : LastCollected) (due : Option ℕ) (o : PlayEnd) (q : Player) → IsLast last (Some ending) → IsDue p.script.count due (counted s.setting (play_of p.script) (past_of s'.seen)) → IsOver o s.setting (play_of p.script) (past_of s'.seen)
      → PlayStands s'.setting s'.seen (record p { op = None; last = last; due = due; over = o; text = q.text })

pub is_collected : {says : Setting → List (Turn Entry) → Turn Entry → Type 0} (s s' : SingleView) (took : TookOne says s s') (p : Player) (t : ℕ) (op : OpName) (b : Begun) (ending : Ending)
    → HasTook op 1 took.turn → HasEnded op 1 b ending (past_of (s.seen ++ took.turn ∷ [])) → Stands s p t → p.op ≡ Some op → IsCollected s s' p op b.act ending
is_collected s s' took p t op b ending has ended was holds =
    record {
      setting = took.setting;
      sound = sound_new s s' took was.sound;
      goes_on = goes_on_by s s' took (subst (λ (es : List Entry). none_of moves_ends es ≡ true) (sym has.entries) (none_around moves_ends has.early (Took op 1) has.late (settling_linkless has.early has.early_settles) refl (settling_linkless has.late has.late_settles)));
      leaves = at_new s s' took (λ z h. TookLeaves s.setting (play_of p.script) op ending s.seen h) leaves;
      act_is = at_new s s' took (λ z h. act_of (past_of h) op ≡ Some b.act) found_act;
      stands = λ last due o q is_last is_due is_over. at_new s s' took (λ z h. PlayStands z h (record p { op = None; last = last; due = due; over = o; text = q.text })) (play_now last due o q is_last (subst (λ (h : List (Turn Entry)). IsDue p.script.count due (counted s.setting (play_of p.script) (past_of h))) took.seen is_due) (subst (λ (h : List (Turn Entry)). IsOver o s.setting (play_of p.script) (past_of h)) took.seen is_over));
    }
  where
    legal : Legal s.setting (s.seen ++ took.turn ∷ [])
    legal = subst (λ (z : Setting). Legal z (s.seen ++ took.turn ∷ [])) took.setting (subst (λ (h : List (Turn Entry)). Legal s'.setting h) took.seen took.legal)

    one : HasOne (Took op 1) took.turn has.early has.late
    one = record { stands = has.entries; before = settling_silent has.early has.early_settles; after = settling_silent has.late has.late_settles; no_close = refl }

    under : under_way (past_of s.seen) ≡ Some op
    under = held p.op holds was.play.hand
      where
        held : (o : Option OpName) → o ≡ Some op → IsUnderWay o s.seen → under_way (past_of s.seen) ≡ Some op
        held None e u = cc
        held (Some other) e u = u.0 ∙ e

    found_end : end_of (past_of (s.seen ++ took.turn ∷ [])) op ≡ Some ending
    found_end =
        let once = ends_once s.setting (s.seen ++ took.turn ∷ []) op legal in
        let a = once.ended in
        let b = once.begun in
        end_is_found (past_of (s.seen ++ took.turn ∷ [])) op ending ended.ended (omega (arith, a, b))

    found_act : act_of (past_of (s.seen ++ took.turn ∷ [])) op ≡ Some b.act
    found_act =
        (begin_is_found (past_of (s.seen ++ took.turn ∷ [])) op 1 b.ctx b.act ended.deadline ended.begun (ends_once s.setting (s.seen ++ took.turn ∷ []) op legal).begun).0

    leaves : TookLeaves s.setting (play_of p.script) op ending s.seen (s.seen ++ took.turn ∷ [])
    leaves = took_leaves s.setting (play_of p.script) s.seen took.turn has.early has.late op 1 ending was.play.role legal one was.play.is_open found_end

    play_now : (last : LastCollected) (due : Option ℕ) (o : PlayEnd) (q : Player) → IsLast last (Some ending) → IsDue p.script.count due (counted s.setting (play_of p.script) (past_of (s.seen ++ took.turn ∷ []))) → IsOver o s.setting (play_of p.script) (past_of (s.seen ++ took.turn ∷ []))
        → PlayStands s.setting (s.seen ++ took.turn ∷ []) (record p { op = None; last = last; due = due; over = o; text = q.text })
    play_now last due o q is_last is_due is_over =
        record {
          role = was.play.role;
          surveys = was.play.surveys;
          carries = was.play.carries;
          is_open = leaves.open_;
          so_far = took_goes_on s.setting (play_of p.script) s.seen took.turn has.early has.late op 1 one was.play.is_open under was.play.so_far;
          hand = leaves.free;
          last = subst (λ r. IsLast last r) (sym leaves.result) is_last;
          sent = leaves.sent ∙ was.play.sent;
          due = is_due;
          over = is_over;
          idle = λ e. leaves.left_;
        }

-- while an operation is under way the play is not over
pub busy_is_open : (s : SingleView) (p : Player) (t : ℕ) (op : OpName) → Stands s p t → p.op ≡ Some op → over s.setting (play_of p.script) (past_of s.seen) ≡ false
busy_is_open s p t op was holds =
    goes_on_while_busy s.setting (play_of p.script) op (past_of s.seen) was.play.is_open was.play.so_far.verbs (held p.op holds was.play.hand)
  where
    held : (o : Option OpName) → o ≡ Some op → IsUnderWay o s.seen → under_way (past_of s.seen) ≡ Some op
    held None e u = cc
    held (Some other) e u = u.0 ∙ e

-- so something is due
pub busy_is_due : (s : SingleView) (p : Player) (t : ℕ) (op : OpName) → Stands s p t → p.op ≡ Some op → p.due ≡ Some 0 → ⊥
busy_is_due s p t op was holds =
    due_is_some p.script.count p.due (counted s.setting (play_of p.script) (past_of s.seen)) was.play.due (parts _ _ _ (busy_is_open s p t op was holds)).0

-- ---- What the player records

drop_false : (a b : Bool) → (a && false || b) ≡ b
drop_false true b = refl
drop_false false b = refl

-- an item counts, or doesn't, and nothing timed out
over_won : (c : Bool) (z : Setting) (play : Play) (past more : List Entry) (due : Option ℕ) (o : PlayEnd) → counted z play more ≡ one_more c (counted z play past) → ((r : Bool) → timed_out r more ≡ timed_out r past)
    → o ≡ overs.Open → IsDue play.count due (counted z play past) → over z play past ≡ false → IsOver (over_after (is_last_item c due) o) z play more
over_won c z play past more due o count timed open_ is_due going = go (over_next c play.count due (counted z play past) is_due before.0)
  where
    before : (has_reached play.count (counted z play past) ≡ false) × (timed_out true past ≡ false) × (timed_out false past ≡ false)
    before = parts _ _ _ going

    finished : has_reached play.count (one_more c (counted z play past)) ≡ true → IsOver overs.Finished z play more
    finished r = rw (count, r) refl

    still : has_reached play.count (one_more c (counted z play past)) ≡ false → IsOver overs.Open z play more
    still r = rw (count, r, timed true, timed false, before.1, before.2) refl

    go : ((is_last_item c due ≡ true) × (has_reached play.count (one_more c (counted z play past)) ≡ true)) ⊎ ((is_last_item c due ≡ false) × (has_reached play.count (one_more c (counted z play past)) ≡ false))
        → IsOver (over_after (is_last_item c due) o) z play more
    go (inl (e, r)) = subst (λ (b : Bool). IsOver (over_after b o) z play more) (sym e) (finished r)
    go (inr (e, r)) = subst (λ (b : Bool). IsOver (over_after b o) z play more) (sym e) (subst (λ (x : PlayEnd). IsOver x z play more) (sym open_) (still r))

over_timed : (act : RecordedAct) (z : Setting) (play : Play) (op : OpName) (past more : List Entry) (by : ℕ) → act_of more op ≡ Some act → ((r : Bool) → timed_out r more ≡ (is_kind r (act_of more op) && is_timed_out (Some (Gone TimedOut by)) || timed_out r past))
    → IsOver (over_for (is_none (back_of act))) z play more
over_timed Recv z play op past more by found timed = last_or (has_reached play.count (counted z play more)) (timed_out true more) (timed true ∙ rw found refl)
  where
    last_or : (a b : Bool) → b ≡ true → (a || b) ≡ true
    last_or true b e = refl
    last_or false b e = e
over_timed (Send m) z play op past more by found timed = timed false ∙ rw found refl

pub noted_stands : (s s' : SingleView) (p p' : Player) (t : ℕ) (op : OpName) (b : Begun) (ending : Ending) (held : Option OpName) → IsCollected s s' p op b.act ending → Stands s p t → p.op ≡ Some op → held ≡ None
    → NotedAs (is_survey_over p.last_send t) (outcome_of b ending) (record p { op = held }) p' → PlayStands s'.setting s'.seen p'
noted_stands s s' p p' t op b ending held coll was holds none noted =
    go ending coll (subst (λ (o : Option OpName). NotedAs is_over (outcome_of b ending) (record p { op = o }) p') none noted)
  where
    is_over : Bool
    is_over = is_survey_over p.last_send t

    before : ℕ
    before = counted s.setting (play_of p.script) (past_of s.seen)

    going : over s.setting (play_of p.script) (past_of s.seen) ≡ false
    going = busy_is_open s p t op was holds

    open_ : p.over ≡ overs.Open
    open_ = going_is_open p.over s.setting (play_of p.script) (past_of s.seen) was.play.over going

    -- what counts, by what the player knows of its survey
    counts : (x : Ending) (c : Bool) → IsCollected s s' p op b.act x → counts_for p.script.role (is_some p.script.body) is_over (Some x) ≡ c → counted s.setting (play_of p.script) (past_of s'.seen) ≡ one_more c before
    counts x c k is =
        k.leaves.count
        ∙ ap (λ (y : Bool). if y then before + 1 else before) (sym (counts_same p.script.role (is_some p.script.body) is_over (asks_anew s.setting (past_of s.seen)) (Some x) (over_is s p t was)) ∙ is)

    -- it didn't time out
    untimed : (x : Ending) (c : Bool) (last : LastCollected) (q : Player) → is_timed_out (Some x) ≡ false → IsCollected s s' p op b.act x → IsLast last (Some x) → counts_for p.script.role (is_some p.script.body) is_over (Some x) ≡ c
        → PlayStands s'.setting s'.seen (record p { op = None; last = last; due = less_due c p.due; over = over_after (is_last_item c p.due) p.over; text = q.text })
    untimed x c last q in_time k is_last is =
        let count = counts x c k is in
        k.stands last (less_due c p.due) (over_after (is_last_item c p.due) p.over) q is_last (subst (λ (m : ℕ). IsDue p.script.count (less_due c p.due) m) (sym count) (due_after c p.script.count p.due before was.play.due (parts _ _ _ going).0)) (over_won c s.setting (play_of p.script) (past_of s.seen) (past_of s'.seen) p.due p.over count (λ r. k.leaves.timed r ∙ (ap (λ y. is_kind r (act_of (past_of s'.seen) op) && y || timed_out r (past_of s.seen)) in_time ∙ drop_false (is_kind r (act_of (past_of s'.seen) op)) (timed_out r (past_of s.seen)))) open_ was.play.due going)

    -- it timed out
    timed : (by : ℕ) → IsCollected s s' p op b.act (Gone TimedOut by) → PlayStands s'.setting s'.seen (record p { op = None; last = lasts.Gone; over = over_for (is_none (back_of b.act)) })
    timed by k =
        let count = counts (Gone TimedOut by) false k (gone_counts p.script.role (is_some p.script.body) is_over TimedOut by (λ e. cc)) in
        k.stands lasts.Gone p.due (over_for (is_none (back_of b.act))) p tt (subst (λ (m : ℕ). IsDue p.script.count p.due m) (sym count) was.play.due) (over_timed b.act s.setting (play_of p.script) op (past_of s.seen) (past_of s'.seen) by k.act_is k.leaves.timed)

    same : (q : Player) → p' ≡ q → PlayStands s'.setting s'.seen q → PlayStands s'.setting s'.seen p'
    same q is h = subst (λ (x : Player). PlayStands s'.setting s'.seen x) (sym is) h

    go : (x : Ending) → IsCollected s s' p op b.act x → NotedAs is_over (outcome_of b x) (record p { op = None }) p' → PlayStands s'.setting s'.seen p'
    go (Won (Received m)) k noted =
        same _ noted (untimed (Won (Received m)) (counts_for_last p.script is_over lasts.Received) lasts.Received p' refl k tt (received_counts p.script.role (is_some p.script.body) is_over m))
    go (Won Sent) k noted =
        same _ noted (untimed (Won Sent) (counts_for_last p.script is_over lasts.Sent) lasts.Sent p' refl k tt (sent_counts p.script.role (is_some p.script.body) is_over))
    go (Gone SurveyOver by) k noted =
        same _ noted (untimed (Gone SurveyOver by) (counts_for_last p.script is_over lasts.SurveyOver) lasts.SurveyOver p refl k tt (over_counts p.script.role (is_some p.script.body) is_over by))
    go (Gone TimedOut by) k noted = same _ noted (timed by k)
    go (Gone Cancelled by) k noted =
        same _ noted (untimed (Gone Cancelled by) false lasts.Gone p refl k tt (gone_counts p.script.role (is_some p.script.body) is_over Cancelled by (λ e. cc)))
    go (Gone Closed by) k noted =
        same _ noted (untimed (Gone Closed by) false lasts.Gone p refl k tt (gone_counts p.script.role (is_some p.script.body) is_over Closed by (λ e. cc)))
    go (Gone Superseded by) k noted =
        same _ noted (untimed (Gone Superseded by) false lasts.Gone p refl k tt (gone_counts p.script.role (is_some p.script.body) is_over Superseded by (λ e. cc)))

-- ---- What is printed

grown_twice : (b : Option (List ℕ)) (x y : List ℕ) → grown (grown b x) y ≡ grown b (x ++ y)
grown_twice None x y = refl
grown_twice (Some s) x y = ap (λ z. Some z) (append_assoc s x y)

joined_more : (ts : List (List ℕ)) (t : List ℕ) → joined (ts ++ t ∷ []) ≡ joined ts ++ t
joined_more ts t = flat_map-append (λ x. x) ts (t ∷ []) ∙ ap (λ ys. joined ts ++ ys) (append_nil t)

-- all texts except the last are in the sink, and a prefix of the last
cut : (ts : List (List ℕ)) (t prefix : List ℕ) → IsPrefix prefix t → IsCutShort (ts ++ t ∷ []) (joined ts ++ prefix)
cut ts t prefix f = inr (ts, t, prefix, refl, f, refl)

pub noted_prints : (result : Collecting) (s s' : SingleView) (p p' : Player) (op : OpName) (b : Begun) (ending : Ending) (before was now : Option (List ℕ)) → IsCollected s s' p op b.act ending → p'.script ≡ p.script → p'.op ≡ None
    → PutsFor (outcome_of b ending) result p' was now → HasPrinted before was s.seen p → PrintedThen result before now s'.seen p'
noted_prints result s s' p p' op b ending before was now k same free puts had =
    by_ending ending puts (ap (λ sc. texts (play_of sc) (past_of s'.seen)) same ∙ k.leaves.texts_are) k.leaves.received
  where
    nothing : (result ≡ collecting.Free) × (now ≡ was) → texts (play_of p'.script) (past_of s'.seen) ≡ texts (play_of p.script) (past_of s.seen) ++ [] → PrintedThen result before now s'.seen p'
    nothing (free, kept) all =
        subst (λ (r : Collecting). PrintedThen r before now s'.seen p') (sym free) (kept ∙ (had ∙ ap (λ ts. grown before (joined ts)) (sym (all ∙ append_nil (texts (play_of p.script) (past_of s.seen))))))

    by_result : (r : Collecting) (m : RecordedMessage) → Puts r p' (record { header = m.header; body = m.body }) was now → texts (play_of p'.script) (past_of s'.seen) ≡ texts (play_of p.script) (past_of s.seen) ++ print p'.script.format m.body ∷ [] → ends_received (past_of s'.seen) ≡ true
        → PrintedThen r before now s'.seen p'
    by_result collecting.Free m put all ends =
        put
        ∙ (ap (λ w. grown w (print p'.script.format m.body)) had
        ∙ (grown_twice before (joined (texts (play_of p.script) (past_of s.seen))) (print p'.script.format m.body)
        ∙ ap (λ xs. grown before xs) (sym (ap joined all ∙ joined_more (texts (play_of p.script) (past_of s.seen)) (print p'.script.format m.body)))))
    by_result collecting.NotYet m put all ends = elim put [ ]
    by_result collecting.OutFault m (prefix, rest, is, put) all ends = (
      (
        joined (texts (play_of p.script) (past_of s.seen)) ++ prefix,
        subst (λ (ts : List (List ℕ)). IsCutShort ts (joined (texts (play_of p.script) (past_of s.seen)) ++ prefix)) (sym all) (cut (texts (play_of p.script) (past_of s.seen)) (print p'.script.format m.body) prefix (rest, is)),
        put ∙ (ap (λ w. grown w prefix) had ∙ grown_twice before (joined (texts (play_of p.script) (past_of s.seen))) prefix),
      ),
      free,
      ends,
    )
    by_result collecting.NoMemory m put all ends = (
      joined (texts (play_of p.script) (past_of s.seen)) ++ [],
      subst (λ (ts : List (List ℕ)). IsCutShort ts (joined (texts (play_of p.script) (past_of s.seen)) ++ [])) (sym all) (cut (texts (play_of p.script) (past_of s.seen)) (print p'.script.format m.body) [] (print p'.script.format m.body, refl)),
      put ∙ (had ∙ ap (λ xs. grown before xs) (sym (append_nil (joined (texts (play_of p.script) (past_of s.seen)))))),
    )

    by_ending : (x : Ending) → PutsFor (outcome_of b x) result p' was now → texts (play_of p'.script) (past_of s'.seen) ≡ texts (play_of p.script) (past_of s.seen) ++ text_of (play_of p.script) (Some x) → ends_received (past_of s'.seen) ≡ is_received (Some x) → PrintedThen result before now s'.seen p'
    by_ending (Won (Received m)) put all ends = by_result result m put (all ∙ ap (λ sc. texts (play_of p.script) (past_of s.seen) ++ print sc.format m.body ∷ []) (sym same)) ends
    by_ending (Won Sent) put all ends = nothing put all
    by_ending (Gone cause by) put all ends = nothing put all

pub noted_script : (is_over : Bool) (o : Outcome) (old new : Player) → NotedAs is_over o old new → new.script ≡ old.script
noted_script is_over (outcomes.Received m) old new noted = ap (λ q. q.script) noted
noted_script is_over outcomes.Sent old new noted = ap (λ q. q.script) noted
noted_script is_over (outcomes.Gone TimedOut by back) old new noted = ap (λ q. q.script) noted
noted_script is_over (outcomes.Gone Cancelled by back) old new noted = ap (λ q. q.script) noted
noted_script is_over (outcomes.Gone Closed by back) old new noted = ap (λ q. q.script) noted
noted_script is_over (outcomes.Gone Superseded by back) old new noted = ap (λ q. q.script) noted
noted_script is_over (outcomes.Gone SurveyOver by back) old new noted = ap (λ q. q.script) noted

pub noted_op : (is_over : Bool) (o : Outcome) (old new : Player) → NotedAs is_over o old new → new.op ≡ old.op
noted_op is_over (outcomes.Received m) old new noted = ap (λ q. q.op) noted
noted_op is_over outcomes.Sent old new noted = ap (λ q. q.op) noted
noted_op is_over (outcomes.Gone TimedOut by back) old new noted = ap (λ q. q.op) noted
noted_op is_over (outcomes.Gone Cancelled by back) old new noted = ap (λ q. q.op) noted
noted_op is_over (outcomes.Gone Closed by back) old new noted = ap (λ q. q.op) noted
noted_op is_over (outcomes.Gone Superseded by back) old new noted = ap (λ q. q.op) noted
noted_op is_over (outcomes.Gone SurveyOver by back) old new noted = ap (λ q. q.op) noted

-- ---- What has not ended

is_under : (o : Option OpName) (op : OpName) (h : List (Turn Entry)) → o ≡ Some op → IsUnderWay o h → under_way (past_of h) ≡ Some op
is_under None op h e u = cc
is_under (Some other) op h e u = u.0 ∙ e

pub stays_busy : (s : SingleView) (p : Player) (t : ℕ) (op : OpName) → Stands s p t → p.op ≡ Some op → is_some (under_way (past_of s.seen)) ≡ true
stays_busy s p t op was holds = rw (is_under p.op op s.seen holds was.play.hand) refl

pub not_left : (s : SingleView) (p : Player) (t : ℕ) (op : OpName) (b : Begun) → Stands s p t → p.op ≡ Some op → pending (past_of s.seen) op ≡ Some b → is_left (past_of s.seen) ≡ false
not_left s p t op b was holds is =
    pending_is_not_left s.setting s.seen op was.sound.legal (subst (λ (past : List Entry). IsTrue (each alternates past)) (open_is (past_of s.seen) was.play.is_open) was.play.so_far.alternate) (is_under p.op op s.seen holds was.play.hand) (rw is refl)

-- what is pending after the turn is pending now
pub pending_now : {says : Setting → List (Turn Entry) → Turn Entry → Type 0} (s s' : SingleView) (took : TookOne says s s') (op : OpName) (b : Begun) → pending (past_of (s.seen ++ took.turn ∷ [])) op ≡ Some b → pending (past_of s'.seen) op ≡ Some b
pending_now s s' took op b is = at_new s s' took (λ z h. pending (past_of h) op ≡ Some b) is

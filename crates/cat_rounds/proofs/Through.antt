-- A turn with one begin or one collecting, and otherwise silent entries: what then holds of the play.
use Rattle.std.proofs.Common.{◌≡◌, refl, ap, sym, ◌∙◌, subst, List, [], ◌∷◌, ◌++◌, ℕ, ◌+◌, ◌≤◌, Bool, true, false, arith, Option, Some, None}
use Rattle.std.specs.Prelude.{not, ◌&&◌, ◌||◌, if◌then◌else◌, is_some}
use Rattle.std.proofs.lemmas.Bool.Decides.{nat_tests}
use Rattle.turn_lock.specs.declared.turn.Turn.{Turn}
use Rattle.sp_base.specs.declared.OpName.{OpName}
use Rattle.sp_history.specs.declared.entry.RecordedAct.{RecordedAct}
use Rattle.sp_history.specs.declared.entry.RecordedAct.TheVariants.{Recv, Send}
use Rattle.sp_history.specs.declared.entry.Ending.{Ending}
use Rattle.sp_history.specs.declared.entry.Entry.{Entry}
use Rattle.sp_history.specs.declared.entry.Entry.TheVariants.{Begin, Took, Tick, Close}
use Rattle.sp_history.specs.declared.setting.Setting.{Setting}
use Rattle.sp_history.specs.Changes.{none_of}
use Rattle.sp_history.specs.Once.{end_count}
use Rattle.sp_history.specs.Past.{onto, past_of, is_closed, now, topics}
use Rattle.sp_history.specs.Legal.{Legal, AreAllowed, Allowed, is_uncollected}
use Rattle.sp_history.specs.Found.{act_of, end_of}
use Rattle.sp_history.proofs.Appending.{past_of-append, onto-append}
use Rattle.sp_history.proofs.OnceHolds.{same_op-refl, ends_once}
use Rattle.sp_history.proofs.Backing.{legal_allowed}
use Rattle.cat_play.specs.Plans.{Play}
use Rattle.cat_play.specs.Scripts.{under_way, last_result, last_send, asks_anew, is_receive_next, counts_for, is_counted, count_in, counted, texts_in, texts, text_of, timed_out_in, timed_out, is_timed_out, over, is_kind, is_received, ends_received}
use Rattle.cat_play.specs.Playing.{PlaysSoFar, is_left, is_surveyor, waits_for_pipe, deadline_for, same_option, carries_data, is_spaced, is_send}
use Rattle.sp_ends.specs.Entries.{moves_calls}
use Rattle.cat_play.specs.Steps.{is_close, MayPlay, HasOne}
use Rattle.cat_play.proofs.Stepping.{stays, goes_on, open_is, under_way_stays, last_result_stays, is_left_stays}
use Rattle.cat_play.proofs.Staying.{over_stays}
use Rattle.cat_play.proofs.OneEntryTurns.{turn_of_one}
use Rattle.cat_rounds.specs.Lasting.{AreOn}
use Rattle.cat_rounds.proofs.TopicsStay.{topics_stay, still_on}
use Rattle.cat_rounds.proofs.Silent.{last_send_stays, now_stays, closed_stays}
use Rattle.cat_rounds.proofs.Surveying.{SameSurvey, asks_stay, silent_surveys, next_stays, counts_same}
use Rattle.cat_rounds.proofs.BeginOrder.{uncollected_has_end, end_stays, over_in, open_over}

-- ---- The past of the turn

pub turn_past : (h : List (Turn Entry)) (t : Turn Entry) (early late : List Entry) (e : Entry) → t.entries ≡ early ++ e ∷ late → past_of (h ++ t ∷ []) ≡ onto late (e ∷ onto early (past_of h))
turn_past h t early late e is =
    past_of-append h t ∙ (ap (λ es. onto es (past_of h)) is ∙ onto-append early (e ∷ late) (past_of h))

-- what the entry leaves unchanged, the turn leaves unchanged
pub through : {A : Type 0} (f : List Entry → A) → ((entries past : List Entry) → none_of moves_calls entries ≡ true → f (onto entries past) ≡ f past)
    → (h : List (Turn Entry)) (t : Turn Entry) (e : Entry) (early late : List Entry) → HasOne e t early late → f (e ∷ onto early (past_of h)) ≡ f (onto early (past_of h)) → f (past_of (h ++ t ∷ [])) ≡ f (past_of h)
through f stay h t e early late one mid =
    ap f (turn_past h t early late e one.stands) ∙ (stay late (e ∷ onto early (past_of h)) one.after ∙ (mid ∙ stay early (past_of h) one.before))

-- what the entry changes, the turn changes
pub upon : {A : Type 0} (f : List Entry → A) → ((entries past : List Entry) → none_of moves_calls entries ≡ true → f (onto entries past) ≡ f past)
    → (h : List (Turn Entry)) (t : Turn Entry) (e : Entry) (early late : List Entry) → HasOne e t early late → f (past_of (h ++ t ∷ [])) ≡ f (e ∷ onto early (past_of h))
upon f stay h t e early late one =
    ap f (turn_past h t early late e one.stands) ∙ stay late (e ∷ onto early (past_of h)) one.after

-- ---- What one more entry counts, prints and ends, by the whole past where it is open

count_step : (z : Setting) (play : Play) (e : Entry) (past : List Entry) → moves_calls e ≡ false → count_in z play (e ∷ past) ≡ count_in z play past
count_step z play (Took op k) past h = cc
count_step z play _ past h = refl

pub count_in_stays : (z : Setting) (play : Play) (entries past : List Entry) → none_of moves_calls entries ≡ true → count_in z play (onto entries past) ≡ count_in z play past
count_in_stays z play = stays (count_in z play) (count_step z play)

texts_step : (play : Play) (e : Entry) (past : List Entry) → moves_calls e ≡ false → texts_in play (e ∷ past) ≡ texts_in play past
texts_step play (Took op k) past h = cc
texts_step play _ past h = refl

pub texts_in_stay : (play : Play) (entries past : List Entry) → none_of moves_calls entries ≡ true → texts_in play (onto entries past) ≡ texts_in play past
texts_in_stay play = stays (texts_in play) (texts_step play)

timed_step : (receives : Bool) (e : Entry) (past : List Entry) → moves_calls e ≡ false → timed_out_in receives (e ∷ past) ≡ timed_out_in receives past
timed_step receives (Took op k) past h = cc
timed_step receives _ past h = refl

pub timed_in_stays : (receives : Bool) (entries past : List Entry) → none_of moves_calls entries ≡ true → timed_out_in receives (onto entries past) ≡ timed_out_in receives past
timed_in_stays receives = stays (timed_out_in receives) (timed_step receives)

received_step : (e : Entry) (past : List Entry) → moves_calls e ≡ false → ends_received (e ∷ past) ≡ ends_received past
received_step (Begin op k c act d) past h = cc
received_step (Took op k) past h = cc
received_step (Tick t due) past h = cc
received_step _ past h = refl

pub received_stays : (entries past : List Entry) → none_of moves_calls entries ≡ true → ends_received (onto entries past) ≡ ends_received past
received_stays = stays ends_received received_step

act_step : (op : OpName) (e : Entry) (past : List Entry) → moves_calls e ≡ false → act_of (e ∷ past) op ≡ act_of past op
act_step op (Begin other k c act d) past h = cc
act_step op _ past h = refl

act_stays : (op : OpName) (entries past : List Entry) → none_of moves_calls entries ≡ true → act_of (onto entries past) op ≡ act_of past op
act_stays op = stays (λ past. act_of past op) (act_step op)

-- ---- A begin

pub stays_open : (h : List (Turn Entry)) (t : Turn Entry) (early late : List Entry) (e : Entry) → HasOne e t early late → is_closed (past_of h) ≡ false → is_closed (past_of (h ++ t ∷ [])) ≡ false
stays_open h t early late e one open_ =
    through is_closed closed_stays h t e early late one (no_close e one.no_close) ∙ open_
  where
    no_close : (e : Entry) → is_close e ≡ false → is_closed (e ∷ onto early (past_of h)) ≡ is_closed (onto early (past_of h))
    no_close (Close totals) h = cc
    no_close _ h = refl

-- what a turn with this begin leaves
pub record BeginLeaves (z : Setting) (play : Play) (op : OpName) (act : RecordedAct) (h h' : List (Turn Entry)) : Type 0 where
  pub open_ : is_closed (past_of h') ≡ false
  pub under : under_way (past_of h') ≡ Some op
  pub result : last_result (past_of h') ≡ last_result (past_of h)
  pub received : act ≡ Recv → last_send (past_of h') ≡ last_send (past_of h)
  pub count : counted z play (past_of h') ≡ counted z play (past_of h)
  pub texts_are : texts play (past_of h') ≡ texts play (past_of h)
  pub timed : (receives : Bool) → timed_out receives (past_of h') ≡ timed_out receives (past_of h)
  pub over_is : over z play (past_of h') ≡ over z play (past_of h)
  pub left_ : is_left (past_of h') ≡ is_left (past_of h)
  pub now_is : now (past_of h') ≡ now (past_of h)
  pub topics_are : topics (past_of h') 0 ≡ topics (past_of h) 0

pub begin_leaves : (z : Setting) (play : Play) (h : List (Turn Entry)) (t : Turn Entry) (early late : List Entry) (op : OpName) (k c : ℕ) (act : RecordedAct) (d : Option ℕ)
    → HasOne (Begin op k c act d) t early late → is_closed (past_of h) ≡ false → BeginLeaves z play op act h (h ++ t ∷ [])
begin_leaves z play h t early late op k c act d one open_ =
    record {
      open_ = open_more;
      under = upon under_way under_way_stays h t _ early late one;
      result = through last_result last_result_stays h t _ early late one refl;
      received = λ e. through last_send last_send_stays h t _ early late one (by_act act e);
      count = ap (count_in z play) (open_is (past_of (h ++ t ∷ [])) open_more) ∙ (through (count_in z play) (count_in_stays z play) h t _ early late one refl ∙ sym (ap (count_in z play) (open_is (past_of h) open_)));
      texts_are = ap (texts_in play) (open_is (past_of (h ++ t ∷ [])) open_more) ∙ (through (texts_in play) (texts_in_stay play) h t _ early late one refl ∙ sym (ap (texts_in play) (open_is (past_of h) open_)));
      timed = λ r. ap (timed_out_in r) (open_is (past_of (h ++ t ∷ [])) open_more) ∙ (through (timed_out_in r) (timed_in_stays r) h t _ early late one refl ∙ sym (ap (timed_out_in r) (open_is (past_of h) open_)));
      over_is = open_over z play (past_of (h ++ t ∷ [])) open_more ∙ (through (over_in z play) over_in_stays h t _ early late one refl ∙ sym (open_over z play (past_of h) open_));
      left_ = through is_left is_left_stays h t _ early late one refl;
      now_is = through now now_stays h t _ early late one refl;
      topics_are = through (λ (past : List Entry). topics past 0) topics_stay h t _ early late one refl;
    }
  where
    open_more : is_closed (past_of (h ++ t ∷ [])) ≡ false
    open_more = stays_open h t early late (Begin op k c act d) one open_

    by_act : (a : RecordedAct) → a ≡ Recv → last_send (Begin op k c a d ∷ onto early (past_of h)) ≡ last_send (onto early (past_of h))
    by_act Recv e = refl
    by_act (Send m) e = cc

    over_in_stays : (entries past : List Entry) → none_of moves_calls entries ≡ true → over_in z play (onto entries past) ≡ over_in z play past
    over_in_stays entries past none =
        rw (count_in_stays z play entries past none, timed_in_stays true entries past none, timed_in_stays false entries past none) refl

-- a turn that begins a send records its moment
pub send_notes : (h : List (Turn Entry)) (t : Turn Entry) (early late : List Entry) (op : OpName) (k c : ℕ) (act : RecordedAct) (d : Option ℕ)
    → HasOne (Begin op k c act d) t early late → is_kind false (Some act) ≡ true → last_send (past_of (h ++ t ∷ [])) ≡ Some (now (past_of h))
send_notes h t early late op k c Recv d one kind = cc
send_notes h t early late op k c (Send m) d one kind =
    upon last_send last_send_stays h t _ early late one ∙ ap (λ n. Some n) (now_stays early (past_of h) one.before)

-- ---- The begin may come

same_self : (d : Option ℕ) → same_option d d ≡ true
same_self None = refl
same_self (Some a) = grind (arith, nat_tests)

-- the facts of a begin that may come, before its turn
pub record MayBeginNow (z : Setting) (play : Play) (past : List Entry) (op : OpName) (k : ℕ) (act : RecordedAct) (d : Option ℕ) : Type 0 where
  pub open_ : is_closed past ≡ false
  pub role : z.role ≡ play.role
  pub pipe : (is_send (Begin op k 0 act d) && waits_for_pipe play past) ≡ false
  pub topics_on : AreOn play.topics past
  pub free : under_way past ≡ None
  pub going : over z play past ≡ false
  pub next : is_kind (is_receive_next z play past) (Some act) ≡ true
  pub data_ : carries_data play past (Begin op k 0 act d) ≡ true
  pub deadline : d ≡ deadline_for play past act
  pub spaced : is_spaced play past (Begin op k 0 act d) ≡ true

begin_may : (z : Setting) (play : Play) (past entries : List Entry) (op : OpName) (k : ℕ) (act : RecordedAct) (d : Option ℕ) → none_of moves_calls entries ≡ true → MayBeginNow z play past op k act d → MayPlay z play (onto entries past) (Begin op k 0 act d)
begin_may z play past entries op k act d none may =
    record {
      topics = still_on play.topics past (onto entries past) (topics_stay entries past none) may.topics_on;
      alternate = rw (under_way_stays entries past none, may.free) refl;
      verbs = both (over z play (onto entries past)) _ (over_stays z play entries past may.open_ none ∙ may.going) kind_now;
      data_ = data_kept act may.data_;
      deadlines = rw (may.deadline, deadline_kept act) (same_self (deadline_for play past act));
      spaced = spaced_kept act may.spaced;
      rounds = refl;
      collected = refl;
    }
  where
    both : (a b : Bool) → a ≡ false → b ≡ true → (not a && b) ≡ true
    both a b e f = rw (e, f) refl

    kind_now : is_kind (is_receive_next z play (onto entries past)) (Some act) ≡ true
    kind_now = ap (λ n. is_kind n (Some act)) (next_stays z play entries past may.role none (last_result_stays entries past none)) ∙ may.next

    data_kept : (a : RecordedAct) → carries_data play past (Begin op k 0 a d) ≡ true → carries_data play (onto entries past) (Begin op k 0 a d) ≡ true
    data_kept Recv h = refl
    data_kept (Send m) h = h

    deadline_kept : (a : RecordedAct) → deadline_for play (onto entries past) a ≡ deadline_for play past a
    deadline_kept Recv = rw (now_stays entries past none) refl
    deadline_kept (Send m) = rw (now_stays entries past none) refl

    spaced_kept : (a : RecordedAct) → is_spaced play past (Begin op k 0 a d) ≡ true → is_spaced play (onto entries past) (Begin op k 0 a d) ≡ true
    spaced_kept Recv h = refl
    spaced_kept (Send m) h = rw (last_send_stays entries past none, now_stays entries past none) h

-- so the turn continues the play
pub begin_goes_on : (z : Setting) (play : Play) (h : List (Turn Entry)) (t : Turn Entry) (early late : List Entry) (op : OpName) (k : ℕ) (act : RecordedAct) (d : Option ℕ)
    → HasOne (Begin op k 0 act d) t early late → MayBeginNow z play (past_of h) op k act d → PlaysSoFar z play h → PlaysSoFar z play (h ++ t ∷ [])
begin_goes_on z play h t early late op k act d one may was =
    goes_on z play h t may.open_ was (turn_of_one z play h t (Begin op k 0 act d) early late one (begin_may z play (past_of h) early op k act d one.before may) may.pipe (λ tick. cc))

-- ---- A collecting

-- what a turn leaves that collects the operation, which ended like this
pub record TookLeaves (z : Setting) (play : Play) (op : OpName) (ending : Ending) (h h' : List (Turn Entry)) : Type 0 where
  pub open_ : is_closed (past_of h') ≡ false
  pub free : under_way (past_of h') ≡ None
  pub result : last_result (past_of h') ≡ Some ending
  pub received : ends_received (past_of h') ≡ is_received (Some ending)
  pub sent : last_send (past_of h') ≡ last_send (past_of h)
  pub count : counted z play (past_of h') ≡ (if counts_for play.role (is_some play.body) (asks_anew z (past_of h)) (Some ending) then counted z play (past_of h) + 1 else counted z play (past_of h))
  pub texts_are : texts play (past_of h') ≡ texts play (past_of h) ++ text_of play (Some ending)
  pub timed : (receives : Bool) → timed_out receives (past_of h') ≡ (is_kind receives (act_of (past_of h') op) && is_timed_out (Some ending) || timed_out receives (past_of h))
  pub left_ : is_left (past_of h') ≡ false
  pub now_is : now (past_of h') ≡ now (past_of h)
  pub topics_are : topics (past_of h') 0 ≡ topics (past_of h) 0

-- the operation had ended when it was collected
allowed_before : (z : Setting) (entries past : List Entry) → AreAllowed z (onto entries past) → AreAllowed z past
allowed_before z [] past a = a
allowed_before z (x ∷ entries) past a = (allowed_before z entries (x ∷ past) a).1

ended_before : (z : Setting) (past : List Entry) (op : OpName) (k : ℕ) → AreAllowed z (Took op k ∷ past) → is_some (end_of past op) ≡ true
ended_before z past op k allowed = uncollected_has_end past op (itself allowed.0)
  where
    itself : ((j : ℕ) × Allowed z j past (Took op k)) → is_uncollected past op ≡ true
    itself (j, a) = a.itself.2

-- and the end that is found last was found then
ended_so : (z : Setting) (h : List (Turn Entry)) (t : Turn Entry) (early late : List Entry) (op : OpName) (k : ℕ) (ending : Ending)
    → Legal z (h ++ t ∷ []) → HasOne (Took op k) t early late → end_of (past_of (h ++ t ∷ [])) op ≡ Some ending → end_of (onto early (past_of h)) op ≡ Some ending
ended_so z h t early late op k ending legal one found = go (end_of (onto early (past_of h)) op) refl some
  where
    is : past_of (h ++ t ∷ []) ≡ onto late (Took op k ∷ onto early (past_of h))
    is = turn_past h t early late (Took op k) one.stands

    some : is_some (end_of (onto early (past_of h)) op) ≡ true
    some = ended_before z (onto early (past_of h)) op k (allowed_before z late (Took op k ∷ onto early (past_of h)) (subst (λ (p : List Entry). AreAllowed z p) is (legal_allowed z (h ++ t ∷ []) legal)))

    once : end_count (onto late (Took op k ∷ onto early (past_of h))) op ≤ 1
    once =
        let o = ends_once z (h ++ t ∷ []) op legal in
        let a = o.ended in
        let b = o.begun in
        let m : end_count (past_of (h ++ t ∷ [])) op ≤ 1 = omega (arith, a, b) in
        subst (λ (p : List Entry). end_count p op ≤ 1) is m

    go : (o : Option Ending) → end_of (onto early (past_of h)) op ≡ o → is_some o ≡ true → o ≡ Some ending
    go None e s = cc
    go (Some x) e s =
        sym (end_stays late (Took op k ∷ onto early (past_of h)) op x e once) ∙ (ap (λ p. end_of p op) (sym is) ∙ found)

pub took_leaves : (z : Setting) (play : Play) (h : List (Turn Entry)) (t : Turn Entry) (early late : List Entry) (op : OpName) (k : ℕ) (ending : Ending)
    → z.role ≡ play.role → Legal z (h ++ t ∷ []) → HasOne (Took op k) t early late → is_closed (past_of h) ≡ false → end_of (past_of (h ++ t ∷ [])) op ≡ Some ending → TookLeaves z play op ending h (h ++ t ∷ [])
took_leaves z play h t early late op k ending role legal one open_ found =
    record {
      open_ = open_more;
      free = upon under_way under_way_stays h t _ early late one;
      result = upon last_result last_result_stays h t _ early late one ∙ there;
      received = upon ends_received received_stays h t _ early late one ∙ rw (closed_stays early (past_of h) one.before ∙ open_) (ap is_received there);
      sent = through last_send last_send_stays h t _ early late one refl;
      count = counts;
      texts_are = prints;
      timed = times;
      left_ = upon is_left is_left_stays h t _ early late one;
      now_is = through now now_stays h t _ early late one refl;
      topics_are = through (λ (past : List Entry). topics past 0) topics_stay h t _ early late one refl;
    }
  where
    open_more : is_closed (past_of (h ++ t ∷ [])) ≡ false
    open_more = stays_open h t early late (Took op k) one open_

    there : end_of (onto early (past_of h)) op ≡ Some ending
    there = ended_so z h t early late op k ending legal one found

    same_survey : SameSurvey play.role (asks_anew z (Took op k ∷ onto early (past_of h))) (asks_anew z (past_of h))
    same_survey s =
        asks_stay z (Took op k ∷ []) (onto early (past_of h)) (ap is_surveyor role ∙ s) refl
        ∙ asks_stay z early (past_of h) (ap is_surveyor role ∙ s) (silent_surveys early one.before)

    counts : counted z play (past_of (h ++ t ∷ [])) ≡ (if counts_for play.role (is_some play.body) (asks_anew z (past_of h)) (Some ending) then counted z play (past_of h) + 1 else counted z play (past_of h))
    counts =
        let r : Bool = asks_anew z (past_of h) in
        let is : is_counted z play (Took op k ∷ onto early (past_of h)) ≡ counts_for play.role (is_some play.body) r (Some ending) =
        ap (λ last. counts_for play.role (is_some play.body) (asks_anew z (Took op k ∷ onto early (past_of h))) last) there
        ∙ counts_same play.role (is_some play.body) (asks_anew z (Took op k ∷ onto early (past_of h))) r (Some ending) same_survey in
        let n : count_in z play (onto early (past_of h)) ≡ counted z play (past_of h) =
        count_in_stays z play early (past_of h) one.before ∙ sym (ap (count_in z play) (open_is (past_of h) open_)) in
        let a : counted z play (past_of (h ++ t ∷ [])) ≡ count_in z play (Took op k ∷ onto early (past_of h)) =
        ap (count_in z play) (open_is (past_of (h ++ t ∷ [])) open_more) ∙ upon (count_in z play) (count_in_stays z play) h t (Took op k) early late one in
        a
        ∙ (ap (λ b. if b then count_in z play (onto early (past_of h)) + 1 else count_in z play (onto early (past_of h))) is
        ∙ ap (λ m. if counts_for play.role (is_some play.body) r (Some ending) then m + 1 else m) n)

    prints : texts play (past_of (h ++ t ∷ [])) ≡ texts play (past_of h) ++ text_of play (Some ending)
    prints =
        let n : texts_in play (onto early (past_of h)) ≡ texts play (past_of h) =
        texts_in_stay play early (past_of h) one.before ∙ sym (ap (texts_in play) (open_is (past_of h) open_)) in
        let a : texts play (past_of (h ++ t ∷ [])) ≡ texts_in play (Took op k ∷ onto early (past_of h)) =
        ap (texts_in play) (open_is (past_of (h ++ t ∷ [])) open_more) ∙ upon (texts_in play) (texts_in_stay play) h t (Took op k) early late one in
        a
        ∙ (ap (λ o. texts_in play (onto early (past_of h)) ++ text_of play o) there
        ∙ ap (λ ts. ts ++ text_of play (Some ending)) n)

    act_is : act_of (onto early (past_of h)) op ≡ act_of (past_of (h ++ t ∷ [])) op
    act_is = sym (upon (λ p. act_of p op) (act_stays op) h t (Took op k) early late one)

    times : (receives : Bool) → timed_out receives (past_of (h ++ t ∷ [])) ≡ (is_kind receives (act_of (past_of (h ++ t ∷ [])) op) && is_timed_out (Some ending) || timed_out receives (past_of h))
    times r =
        let n : timed_out_in r (onto early (past_of h)) ≡ timed_out r (past_of h) =
        timed_in_stays r early (past_of h) one.before ∙ sym (ap (timed_out_in r) (open_is (past_of h) open_)) in
        let a : timed_out r (past_of (h ++ t ∷ [])) ≡ timed_out_in r (Took op k ∷ onto early (past_of h)) =
        ap (timed_out_in r) (open_is (past_of (h ++ t ∷ [])) open_more) ∙ upon (timed_out_in r) (timed_in_stays r) h t (Took op k) early late one in
        a
        ∙ (ap (λ o. is_kind r (act_of (onto early (past_of h)) op) && is_timed_out o || timed_out_in r (onto early (past_of h))) there
        ∙ (ap (λ w. is_kind r w && is_timed_out (Some ending) || timed_out_in r (onto early (past_of h))) act_is
        ∙ ap (λ b. is_kind r (act_of (past_of (h ++ t ∷ [])) op) && is_timed_out (Some ending) || b) n))

-- the collecting may come
pub took_goes_on : (z : Setting) (play : Play) (h : List (Turn Entry)) (t : Turn Entry) (early late : List Entry) (op : OpName) (k : ℕ)
    → HasOne (Took op k) t early late → is_closed (past_of h) ≡ false → under_way (past_of h) ≡ Some op → PlaysSoFar z play h → PlaysSoFar z play (h ++ t ∷ [])
took_goes_on z play h t early late op k one open_ under was =
    goes_on z play h t open_ was (turn_of_one z play h t (Took op k) early late one may refl (λ tick. cc))
  where
    may : MayPlay z play (onto early (past_of h)) (Took op k)
    may = record { topics = refl; alternate = rw (under_way_stays early (past_of h) one.before, under) (same_op-refl op); verbs = refl; data_ = refl; deadlines = refl; spaced = refl; rounds = refl; collected = refl }

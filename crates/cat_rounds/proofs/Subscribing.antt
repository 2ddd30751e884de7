-- Topics are added before the first round.
use Rattle.std.proofs.Common.{◌≡◌, refl, ap, sym, ◌∙◌, subst, List, [], ◌∷◌, ◌++◌, ℕ, zero, suc, get_or, ◌≤◌, ◌<◌, ◌+◌, Bool, true, false, arith, length, take, Option, Some, None, Ok, Err, inl, inr}
use Rattle.std.specs.Prelude.{◌⊎◌, ◌==◌, ◌||◌, ◌&&◌, IsTrue}
use Rattle.std.specs.List.{list_any, list_all, AllByRecursion}
use Rattle.std.proofs.lemmas.List.Folds.{list_any-append, list_any_at, list_all_more}
use Rattle.std.proofs.lemmas.Bool.Decides.{nat_tests}
use Rattle.turn_lock.specs.declared.turn.Turn.{Turn}
use Rattle.sp_base.specs.Outside.{grown}
use Rattle.sp_base.specs.Views.{LinkView, NetView, PaceView}
use Rattle.sp_base.specs.declared.OpName.{OpName}
use Rattle.sp_history.specs.declared.entry.Entry.{Entry}
use Rattle.sp_history.specs.declared.entry.Entry.TheVariants.{Begin, Topic}
use Rattle.sp_history.specs.declared.entry.Switch.TheVariants.{On}
use Rattle.sp_history.specs.declared.setting.Setting.{Setting}
use Rattle.sp_history.specs.Changes.{none_of}
use Rattle.sp_history.specs.Legal.{has_topic}
use Rattle.sp_history.specs.Lists.{has, same_bytes}
use Rattle.sp_history.specs.Past.{onto, past_of, topics, ctxs, is_closed}
use Rattle.sp_history.specs.Setting.{has_topics}
use Rattle.sp_history.proofs.Appending.{past_of-append}
use Rattle.core_state.specs.declared.causes.TopicError.{TopicError}
use Rattle.core_state.specs.declared.causes.TopicError.TheVariants as topic
use Rattle.sp_core.specs.Contexts.{SubscribedBy, RefusedTopic}
use Rattle.sp_core.specs.Moving.{AreSettling}
use Rattle.sp_core.specs.Standing.{HasFirst}
use Rattle.sp_socket.specs.Singles.{SingleView, TookOne}
use Rattle.cat_rounds.specs.Parts.{IsSoundRun}
use Rattle.sp_ends.specs.EndViews.{Beginning, LinkEndsView}
use Rattle.cat_play.specs.Plans.{Play}
use Rattle.cat_play.specs.declared.status.Status.TheVariants as status
use Rattle.cat_play.specs.Scripts.{joined, has_ticked, has_begun, under_way, last_result, last_send, counted, count_in, texts, texts_in, timed_out, timed_out_in}
use Rattle.sp_ends.specs.Entries.{each}
use Rattle.cat_play.specs.Playing.{keeps_topics, is_left}
use Rattle.sp_ends.specs.Entries.{moves_calls, moves_ends}
use Rattle.cat_play.specs.Steps.{MayPlay, HasOne}
use Rattle.cat_play.proofs.Stepping.{stays, goes_on, open_is, under_way_stays, last_result_stays, is_left_stays}
use Rattle.cat_play.proofs.OneEntryTurns.{turn_of_one}
use Rattle.cat_rounds.specs.declared.player.Player.{Player}
use Rattle.cat_rounds.specs.Lasting.{play_of, PlayStands, IsUnderWay, IsLast, IsDue, AreOn, HasPrinted, MayTick}
use Rattle.cat_rounds.specs.RunRounds.{RunStands, PacedTo}
use Rattle.cat_rounds.specs.SubscribedTopics.{CanSubscribe, IsBefore, Prepares}
use Rattle.cat_rounds.proofs.Silent.{adds_one, adds_nothing, last_send_stays, ticked_stays}
use Rattle.cat_rounds.proofs.Settling.{settling_silent, settling_linkless, none_around}
use Rattle.cat_rounds.proofs.PlaysStay.{play_stays, texts_stay_so, over_kept}
use Rattle.cat_rounds.proofs.TopicsStay.{topics_stay}
use Rattle.cat_rounds.proofs.Through.{through, upon, stays_open, count_in_stays, texts_in_stay, timed_in_stays}
use Rattle.cat_rounds.proofs.Begins.{at_new, sound_new, goes_on_by, ctx_zero}
use Rattle.cat_rounds.proofs.Rounding.{goes_then}
use Rattle.cat_rounds.proofs.WholeRounds.{run_linkless}
use Rattle.cat_rounds.proofs.AllRounds.{no_ticks}
use lib.Pointwise.{bytes_decides}

-- ---- What silent entries leave

begun_step : (e : Entry) (past : List Entry) → moves_calls e ≡ false → has_begun (e ∷ past) ≡ has_begun past
begun_step (Begin op k c act d) past h = cc
begun_step _ past h = refl

begun_stays : (entries past : List Entry) → none_of moves_calls entries ≡ true → has_begun (onto entries past) ≡ has_begun past
begun_stays = stays has_begun begun_step

-- ---- A turn that changes no topic

pub prepares_nothing : (s : SingleView) (p : Player) → IsBefore s p → Prepares s s p
prepares_nothing s p was =
    record { before = was; goes_on = record { setting = refl; links = adds_nothing moves_ends s.seen }; texts_are = refl; stays_on = λ t on. on }

pub prepares_then : (a b c : SingleView) (p : Player) → Prepares a b p → Prepares b c p → Prepares a c p
prepares_then a b c p f g =
    record {
      before = g.before;
      goes_on = goes_then a b c f.goes_on g.goes_on;
      texts_are = g.texts_are ∙ f.texts_are;
      stays_on = λ t on. g.stays_on t (f.stays_on t on);
    }

module _ {says : Setting → List (Turn Entry) → Turn Entry → Type 0} (s s' : SingleView) (took : TookOne says s s') (p : Player) (was : IsBefore s p) where
  abbrev h : List (Turn Entry)
  h = s.seen

  abbrev t : Turn Entry
  t = took.turn

  abbrev play : Play
  play = play_of p.script

  silent_before : none_of moves_calls t.entries ≡ true → IsBefore s' p
  silent_before none =
      record {
        play = at_new s s' took (λ z g. PlayStands z g p) (play_stays s.setting p h (h ++ t ∷ []) (adds_one moves_calls h t none) was.play);
        sound = sound_new s s' took was.sound;
        free = was.free;
        unticked = at_new s s' took (λ z g. has_ticked (past_of g) ≡ false) (ap has_ticked (past_of-append h t) ∙ (ticked_stays t.entries (past_of h) none ∙ was.unticked));
        unbegun = at_new s s' took (λ z g. has_begun (past_of g) ≡ false) (ap has_begun (past_of-append h t) ∙ (begun_stays t.entries (past_of h) none ∙ was.unbegun));
      }

  silent_topics : none_of moves_calls t.entries ≡ true → topics (past_of s'.seen) 0 ≡ topics (past_of h) 0
  silent_topics none = at_new s s' took (λ z g. topics (past_of g) 0 ≡ topics (past_of h) 0) (ap (λ (past : List Entry). topics past 0) (past_of-append h t) ∙ topics_stay t.entries (past_of h) none)

  pub silent_prepares : AreSettling t.entries → Prepares s s' p
  silent_prepares settles =
      let none = settling_silent t.entries settles in
      record {
        before = silent_before none;
        goes_on = goes_on_by s s' took (settling_linkless t.entries settles);
        texts_are = at_new s s' took (λ z g. texts play (past_of g) ≡ texts play (past_of h)) (texts_stay_so play h (h ++ t ∷ []) was.play.is_open (adds_one moves_calls h t none));
        stays_on = λ u on. ap (λ (ts : List (List ℕ)). has_topic ts u) (silent_topics none) ∙ on;
      }

-- ---- A turn that adds a topic

first_or : (a b : Bool) → a ≡ true → (a || b) ≡ true
first_or true b e = refl
first_or false b e = cc

last_or : (a b : Bool) → b ≡ true → (a || (b || false)) ≡ true
last_or true b e = refl
last_or false b e = rw e refl

topic_more : (ts : List (List ℕ)) (u v : List ℕ) → has_topic ts v ≡ true → has_topic (ts ++ u ∷ []) v ≡ true
topic_more ts u v on = list_any-append (λ w. same_bytes w v) ts (u ∷ []) ∙ first_or (list_any (λ w. same_bytes w v) ts) _ on

topic_last : (ts : List (List ℕ)) (u : List ℕ) → has_topic (ts ++ u ∷ []) u ≡ true
topic_last ts u = list_any-append (λ w. same_bytes w u) ts (u ∷ []) ∙ last_or (list_any (λ w. same_bytes w u) ts) (same_bytes u u) ((bytes_decides u u).1 refl)

planned_topic : (play : Play) (past : List Entry) (u : List ℕ) → has_topic play.topics u ≡ true → has_begun past ≡ false → keeps_topics play past (Topic 0 u On) ≡ true
planned_topic play past u planned unbegun = rw (planned, unbegun) refl

module _ {says : Setting → List (Turn Entry) → Turn Entry → Type 0} (s s' : SingleView) (took : TookOne says s s') (p : Player) (was : IsBefore s p) (u : List ℕ) (first : HasFirst (Topic 0 u On) took.turn) (planned : has_topic p.script.topics u ≡ true) where
  abbrev e : Entry
  e = Topic 0 u On

  abbrev more : List Entry
  more = past_of (s.seen ++ took.turn ∷ [])

  one : HasOne e took.turn [] first.late
  one = record { stands = first.entries; before = refl; after = settling_silent first.late first.late_settles; no_close = refl }

  may : MayPlay s.setting (play_of p.script) (past_of s.seen) e
  may = record { topics = planned_topic (play_of p.script) (past_of s.seen) u planned was.unbegun; alternate = refl; verbs = refl; data_ = refl; deadlines = refl; spaced = refl; rounds = refl; collected = refl }

  open_more : is_closed more ≡ false
  open_more = stays_open s.seen took.turn [] first.late e one was.play.is_open

  count : counted s.setting (play_of p.script) more ≡ counted s.setting (play_of p.script) (past_of s.seen)
  count = ap (count_in s.setting (play_of p.script)) (open_is more open_more) ∙ (through (count_in s.setting (play_of p.script)) (count_in_stays s.setting (play_of p.script)) s.seen took.turn e [] first.late one refl ∙ sym (ap (count_in s.setting (play_of p.script)) (open_is (past_of s.seen) was.play.is_open)))

  timed : (receives : Bool) → timed_out receives more ≡ timed_out receives (past_of s.seen)
  timed r = ap (timed_out_in r) (open_is more open_more) ∙ (through (timed_out_in r) (timed_in_stays r) s.seen took.turn e [] first.late one refl ∙ sym (ap (timed_out_in r) (open_is (past_of s.seen) was.play.is_open)))

  same_texts : texts (play_of p.script) more ≡ texts (play_of p.script) (past_of s.seen)
  same_texts = ap (texts_in (play_of p.script)) (open_is more open_more) ∙ (through (texts_in (play_of p.script)) (texts_in_stay (play_of p.script)) s.seen took.turn e [] first.late one refl ∙ sym (ap (texts_in (play_of p.script)) (open_is (past_of s.seen) was.play.is_open)))

  under : under_way (past_of s.seen) ≡ None
  under = subst (λ (o : Option OpName). IsUnderWay o s.seen) was.free was.play.hand

  topic_play : PlayStands s.setting (s.seen ++ took.turn ∷ []) p
  topic_play =
      record {
        role = was.play.role;
        surveys = was.play.surveys;
        carries = was.play.carries;
        is_open = open_more;
        so_far = goes_on s.setting (play_of p.script) s.seen took.turn was.play.is_open was.play.so_far (turn_of_one s.setting (play_of p.script) s.seen took.turn e [] first.late one may refl (λ tick. cc));
        hand = subst (λ (o : Option OpName). IsUnderWay o (s.seen ++ took.turn ∷ [])) (sym was.free) (through under_way under_way_stays s.seen took.turn e [] first.late one refl ∙ under);
        last = subst (λ (r : _). IsLast p.last r) (sym (through last_result last_result_stays s.seen took.turn e [] first.late one refl)) was.play.last;
        sent = through last_send last_send_stays s.seen took.turn e [] first.late one refl ∙ was.play.sent;
        due = subst (λ (n : ℕ). IsDue p.script.count p.due n) (sym count) was.play.due;
        over = over_kept p.over s.setting (play_of p.script) (past_of s.seen) more count timed was.play.over;
        idle = λ free. through is_left is_left_stays s.seen took.turn e [] first.late one refl ∙ was.play.idle free;
      }

  on_now : topics more 0 ≡ topics (past_of s.seen) 0 ++ u ∷ []
  on_now = upon (λ (past : List Entry). topics past 0) topics_stay s.seen took.turn e [] first.late one

  pub topic_prepares : Prepares s s' p × (has_topic (topics (past_of s'.seen) 0) u ≡ true)
  topic_prepares = (
    record {
      before = record {
        play = at_new s s' took (λ z g. PlayStands z g p) topic_play;
        sound = sound_new s s' took was.sound;
        free = was.free;
        unticked = at_new s s' took (λ z g. has_ticked (past_of g) ≡ false) (through has_ticked ticked_stays s.seen took.turn e [] first.late one refl ∙ was.unticked);
        unbegun = at_new s s' took (λ z g. has_begun (past_of g) ≡ false) (through has_begun begun_stays s.seen took.turn e [] first.late one refl ∙ was.unbegun);
      };
      goes_on = goes_on_by s s' took (subst (λ (es : List Entry). none_of moves_ends es ≡ true) (sym first.entries) (none_around moves_ends [] e first.late refl refl (settling_linkless first.late first.late_settles)));
      texts_are = at_new s s' took (λ z g. texts (play_of p.script) (past_of g) ≡ texts (play_of p.script) (past_of s.seen)) same_texts;
      stays_on = λ v on. at_new s s' took (λ z g. has_topic (topics (past_of g) 0) v ≡ true) (ap (λ (ts : List (List ℕ)). has_topic ts v) on_now ∙ topic_more (topics (past_of s.seen) 0) u v on);
    },
    at_new s s' took (λ z g. has_topic (topics (past_of g) 0) u ≡ true) (ap (λ (ts : List (List ℕ)). has_topic ts u) on_now ∙ topic_last (topics (past_of s.seen) 0) u),
  )

-- ---- One topic

-- it was there, or it is added
pub subscribed : (s s' : SingleView) (p : Player) (u : List ℕ) → TookOne (λ z h t. SubscribedBy (Ok tt) z h t 0 u) s s' → IsBefore s p → has_topic p.script.topics u ≡ true → Prepares s s' p × (has_topic (topics (past_of s'.seen) 0) u ≡ true)
subscribed s s' p u took was planned = go took.said.2
  where
    go : ((has_topic (topics (past_of s.seen) 0) u ≡ true) × AreSettling took.turn.entries) ⊎ ((has_topic (topics (past_of s.seen) 0) u ≡ false) × HasFirst (Topic 0 u On) took.turn) → Prepares s s' p × (has_topic (topics (past_of s'.seen) 0) u ≡ true)
    go (inl (there, settles)) = let r = silent_prepares s s' took p was settles in (r, r.stays_on u there)
    go (inr (not_there, first)) = topic_prepares s s' took p was u first planned

-- the context of the play is there
pub has_zero : (s : SingleView) (p : Player) → IsBefore s p → has (ctxs (past_of s.seen)) 0 ≡ true
has_zero s p was = ap (λ (cs : List ℕ). has cs 0) (ctx_zero (play_of p.script) (past_of s.seen) (subst (λ (past : List Entry). IsTrue (each (keeps_topics (play_of p.script)) past)) (open_is (past_of s.seen) was.play.is_open) was.play.so_far.topics))

-- so a topic isn't refused because it is missing
pub no_entry : (s s' : SingleView) (p : Player) (u : List ℕ) (why : TopicError) → why ≡ topic.NoEntry → IsBefore s p → TookOne (λ z h t. SubscribedBy (Err why) z h t 0 u) s s' → ⊥
no_entry s s' p u why is was took = refused (subst (λ (e : TopicError). AreSettling took.turn.entries × RefusedTopic true e s.setting (past_of s.seen) 0 u) is took.said)
  where
    refused : AreSettling took.turn.entries × RefusedTopic true topic.NoEntry s.setting (past_of s.seen) 0 u → ⊥
    refused (settles, (open_, has_them, none)) = let there = has_zero s p was in cc

-- ---- All of them

-- where the topics stay, those that were there still are
pub are_still_on : (ts us vs : List (List ℕ)) → ((t : List ℕ) → has_topic us t ≡ true → has_topic vs t ≡ true) → IsTrue (list_all (has_topic us) ts) → IsTrue (list_all (has_topic vs) ts)
are_still_on [] us vs keep on = refl
are_still_on (t ∷ ts) us vs keep on =
    rw (keep t (first_of (has_topic us t) _ on)) (are_still_on ts us vs keep (rest_of (has_topic us t) _ on))
  where
    first_of : (a b : Bool) → (a && b) ≡ true → a ≡ true
    first_of true b h = refl
    first_of false b h = cc

    rest_of : (a b : Bool) → (a && b) ≡ true → b ≡ true
    rest_of true b h = h
    rest_of false b h = cc

-- one more topic is there
pub on_next : (ts us : List (List ℕ)) (i : ℕ) (t : List ℕ) → i < length ts → t ≡ get_or ts i t → IsTrue (list_all (has_topic us) (take i ts)) → has_topic us t ≡ true → IsTrue (list_all (has_topic us) (take (i + 1) ts))
on_next ts us i t l e on here =
    list_all_more (has_topic us) ts i t l ∙ both (list_all (has_topic us) (take i ts)) (has_topic us (get_or ts i t)) on (ap (has_topic us) (sym e) ∙ here)
  where
    both : (a b : Bool) → a ≡ true → b ≡ true → (a && b) ≡ true
    both true b h k = k
    both false b h k = cc

-- an item is one of the list
pub is_planned : (ts : List (List ℕ)) (i : ℕ) (t : List ℕ) → i < length ts → t ≡ get_or ts i t → has_topic ts t ≡ true
is_planned ts i t l e = list_any_at (λ w. same_bytes w t) ts i t l (ap (λ (w : List ℕ). same_bytes w t) (sym e) ∙ (bytes_decides t t).1 refl)

pub is_short : (ts : List (List ℕ)) (i : ℕ) (t : List ℕ) → i < length ts → t ≡ get_or ts i t → AllByRecursion (λ u. length u ≤ 1024) ts → length t ≤ 1024
is_short [] i t l e all = absurd (omega (arith, l))
is_short (u ∷ ts) zero t l e all = subst (λ (v : List ℕ). length v ≤ 1024) (sym e) all.0
is_short (u ∷ ts) (suc i) t l e all = is_short ts i t (omega (arith, l)) e all.1

-- the socket takes topics, where there are some
pub is_supported : (z : Setting) (ts : List (List ℕ)) (i : ℕ) → i < length ts → CanSubscribe z ts → IsTrue (has_topics z)
is_supported z ts i l can = go (has_topics z) can.supported
  where
    some : (length ts == 0) ≡ false
    some = grind (arith, nat_tests, l)

    go : (b : Bool) → (b || (length ts == 0)) ≡ true → b ≡ true
    go true k = refl
    go false k = (let s = some in cc)

-- ---- Before the first round

pub fresh_before : (s : SingleView) (p : Player) → s.seen ≡ [] → PlayStands s.setting s.seen p → IsSoundRun s → IsBefore s p
fresh_before s p empty play sound =
    record {
      play = play;
      sound = sound;
      free = none p.op (subst (λ (h : List (Turn Entry)). IsUnderWay p.op h) empty play.hand);
      unticked = ap (λ (h : List (Turn Entry)). has_ticked (past_of h)) empty;
      unbegun = ap (λ (h : List (Turn Entry)). has_begun (past_of h)) empty;
    }
  where
    none : (o : Option OpName) → IsUnderWay o [] → o ≡ None
    none None u = refl
    none (Some op) u = let bad = u.0 in cc

-- what holds of the run still holds after them
pub prepared_run : {L : Type 0} (seen : L → LinkView) (start : Beginning) (net : NetView) (s s' : SingleView) (e : LinkEndsView L) (p : Player) → Prepares s s' p → RunStands seen start s e p net false → RunStands seen start s' e p net false
prepared_run seen start net s s' e p g run = run_linkless seen start net s s' e p g.goes_on g.before.play g.before.sound run.dry run.ends_stand

-- the first tick may come
pub first_may_tick : (s : SingleView) (p : Player) → IsBefore s p → AreOn p.script.topics (past_of s.seen) → MayTick s.setting s.seen p
first_may_tick s p was on =
    record {
      served = λ ticked. (let never = was.unticked in cc);
      collected = was.play.idle was.free;
      topics_on = on;
      busy = rw was.unticked refl;
    }

pub prepared_prints : (before text : Option (List ℕ)) (s s' : SingleView) (p : Player) → Prepares s s' p → HasPrinted before text s.seen p → HasPrinted before text s'.seen p
prepared_prints before text s s' p g had = had ∙ ap (λ (ts : List (List ℕ)). grown before (joined ts)) (sym g.texts_are)

-- the pace gave no turn
pub unpaced : (pace : PaceView) (s : SingleView) (p : Player) → IsBefore s p → PacedTo status.NoMemory pace pace (past_of s.seen)
unpaced pace s p was =
    let none = no_ticks (past_of s.seen) was.unticked in
    record { left = omega (arith, none); few = omega (arith, none); over = λ is. cc; not_over = λ is. refl }

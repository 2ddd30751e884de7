-- A begin of the play: what it leaves where it was refused, and where the operation is under way.
use Rattle.std.proofs.Common.{◌≡◌, refl, ap, sym, ◌∙◌, subst, List, [], ◌∷◌, ◌++◌, ℕ, Bool, true, false, Some, None, Option, inl, inr, arith}
use Rattle.std.specs.Prelude.{◌⊎◌, ◌||◌, ◌&&◌, not, IsTrue, is_some, nat_lt, ◌^◌, ◌-◌}
use Rattle.std.proofs.lemmas.Bool.Decides.{nat_tests}
use Rattle.turn_lock.specs.declared.turn.Turn.{Turn}
use Rattle.sp_base.specs.declared.OpName.{OpName}
use Rattle.sp_base.specs.declared.role.Role.{Role}
use Rattle.sp_base.specs.declared.role.Role.TheVariants as roles
use Rattle.sp_base.specs.Roles.{can_send, can_receive}
use Rattle.sp_history.specs.declared.entry.RecordedAct.{RecordedAct}
use Rattle.sp_history.specs.declared.entry.RecordedAct.TheVariants.{Recv, Send}
use Rattle.sp_history.specs.declared.entry.RecordedMessage.{RecordedMessage}
use Rattle.sp_history.specs.declared.entry.Ending.{Ending}
use Rattle.sp_history.specs.declared.entry.Entry.{Entry}
use Rattle.sp_history.specs.declared.entry.Entry.TheVariants.{Begin, Ctx}
use Rattle.sp_history.specs.declared.setting.Setting.{Setting}
use Rattle.sp_history.specs.Changes.{none_of}
use Rattle.sp_history.specs.Lists.{has}
use Rattle.sp_history.specs.Legal.{is_state, is_free, state_for, does}
use Rattle.sp_history.specs.Found.{is_taken, has_no_slot}
use Rattle.sp_history.specs.Past.{past_of, is_closed, ctxs, now, begins}
use Rattle.sp_history.proofs.Appending.{past_of-append}
use Rattle.sp_history.proofs.Slots.{no_slot_where}
use Rattle.core_state.specs.declared.causes.BeginError.{BeginError}
use Rattle.core_state.specs.declared.causes.BeginError.TheVariants as error
use Rattle.sp_core.specs.Moving.{AreSettling}
use Rattle.core_state.specs.OperationsStand.{AllTaken}
use Rattle.sp_core.specs.Standing.{HasBegin, RefusedFor}
use Rattle.sp_core.specs.Collecting.{IsOpen}
use Rattle.sp_socket.specs.Singles.{SingleView, TookOne}
use Rattle.cat_rounds.specs.Parts.{IsSoundRun}
use Rattle.cat_play.specs.Plans.{Play}
use Rattle.cat_play.specs.Scripts.{under_way, last_result, last_send, receives_next, asks_anew, is_receive_next, over, texts, is_kind}
use Rattle.cat_play.specs.Playing.{is_send, keeps_topics, is_left, may_rest, found_over, is_refused, is_kept_back, waits_for_pipe, waits_for_interval, deadline_for, carries_data, is_spaced}
use Rattle.sp_ends.specs.Entries.{each}
use Rattle.sp_ends.specs.Entries.{AddsNone, moves_calls, moves_ends}
use Rattle.cat_play.specs.Steps.{HasOne}
use Rattle.cat_play.proofs.Stepping.{is_left_stays, last_result_stays, open_is}
use Rattle.cat_rounds.specs.declared.player.PlayEnd.{PlayEnd}
use Rattle.cat_rounds.specs.declared.player.PlayEnd.TheVariants as overs
use Rattle.cat_rounds.specs.declared.player.Player.{Player}
use Rattle.cat_rounds.specs.Lasting.{play_of, PlayStands, IsOver, IsLast, IsDue, HasPlayed, AreOn}
use Rattle.cat_rounds.specs.PlayerSteps.{Stands, GoesOnBy, Rested, step_for}
use Rattle.cat_rounds.proofs.TopicsStay.{still_on, on_turn}
use Rattle.cat_rounds.proofs.Silent.{adds_one, now_stays}
use Rattle.cat_rounds.proofs.Settling.{settling_silent, settling_linkless, none_around}
use Rattle.cat_rounds.proofs.PlaysStay.{play_stays, texts_stay_so, over_kept}
use Rattle.cat_rounds.proofs.Through.{BeginLeaves, begin_leaves, send_notes, MayBeginNow, begin_goes_on}
use Rattle.cat_rounds.proofs.Surveying.{next_stays}

-- ---- Roles

may_receive : (role : Role) (b r : Bool) (last : Option Ending) → receives_next role b r last ≡ true → can_receive role ≡ true
may_receive roles.Push b r last h = cc
may_receive roles.Pub b r last h = cc
may_receive _ b r last h = refl

may_send : (role : Role) (b r : Bool) (last : Option Ending) → receives_next role b r last ≡ false → can_send role ≡ true
may_send roles.Pull b r last h = cc
may_send roles.Sub b r last h = cc
may_send _ b r last h = refl

-- ---- A turn of a single caller

-- what holds of the history and the setting holds of the socket
pub at_new : {says : Setting → List (Turn Entry) → Turn Entry → Type 0} (s s' : SingleView) (took : TookOne says s s') (P : Setting → List (Turn Entry) → Type 0) → P s.setting (s.seen ++ took.turn ∷ []) → P s'.setting s'.seen
at_new s s' took P p = subst (λ (z : Setting). P z s'.seen) (sym took.setting) (subst (λ (h : List (Turn Entry)). P s.setting h) (sym took.seen) p)

pub sound_new : {says : Setting → List (Turn Entry) → Turn Entry → Type 0} (s s' : SingleView) (took : TookOne says s s') → IsSoundRun s → IsSoundRun s'
sound_new s s' took was = record { legal = took.legal; settled = took.settled; uncancelled = took.cancelled ∙ was.uncancelled }

pub goes_on_by : {says : Setting → List (Turn Entry) → Turn Entry → Type 0} (s s' : SingleView) (took : TookOne says s s') → none_of moves_ends took.turn.entries ≡ true → GoesOnBy s s'
goes_on_by s s' took none =
    record { setting = took.setting; links = subst (λ (h : List (Turn Entry)). AddsNone moves_ends s.seen h) (sym took.seen) (adds_one moves_ends s.seen took.turn none) }

-- ---- A turn that no rule concerns

pub silent_stands : {says : Setting → List (Turn Entry) → Turn Entry → Type 0} (s s' : SingleView) (took : TookOne says s s') (p : Player) (t : ℕ) → none_of moves_calls took.turn.entries ≡ true → Stands s p t → Stands s' p t
silent_stands s s' took p t none was =
    record {
      play = at_new s s' took (λ z h. PlayStands z h p) (play_stays s.setting p s.seen (s.seen ++ took.turn ∷ []) (adds_one moves_calls s.seen took.turn none) was.play);
      sound = sound_new s s' took was.sound;
      now_is = at_new s s' took (λ z h. t ≡ now (past_of h)) (was.now_is ∙ sym (ap now (past_of-append s.seen took.turn) ∙ now_stays took.turn.entries (past_of s.seen) none));
      topics_on = at_new s s' took (λ z h. AreOn p.script.topics (past_of h)) (on_turn p.script.topics s.seen took.turn none was.topics_on);
    }

pub silent_texts : {says : Setting → List (Turn Entry) → Turn Entry → Type 0} (s s' : SingleView) (took : TookOne says s s') (play : Play) → none_of moves_calls took.turn.entries ≡ true → is_closed (past_of s.seen) ≡ false → texts play (past_of s'.seen) ≡ texts play (past_of s.seen)
silent_texts s s' took play none open_ =
    at_new s s' took (λ z h. texts play (past_of h) ≡ texts play (past_of s.seen)) (texts_stay_so play s.seen (s.seen ++ took.turn ∷ []) open_ (adds_one moves_calls s.seen took.turn none))

silent_left : {says : Setting → List (Turn Entry) → Turn Entry → Type 0} (s s' : SingleView) (took : TookOne says s s') → none_of moves_calls took.turn.entries ≡ true → is_left (past_of s.seen) ≡ false → is_left (past_of s'.seen) ≡ false
silent_left s s' took none left =
    at_new s s' took (λ z h. is_left (past_of h) ≡ false) (ap is_left (past_of-append s.seen took.turn) ∙ (is_left_stays took.turn.entries (past_of s.seen) none ∙ left))

-- ---- Why a begin was refused

-- the context on which everything is played is open
pub ctx_zero : (play : Play) (past : List Entry) → IsTrue (each (keeps_topics play) past) → ctxs past ≡ 0 ∷ []
ctx_zero play [] h = refl
ctx_zero play (Ctx c gate ∷ past) h = cc
ctx_zero play (e ∷ past) h = ctx_zero play past (rest (keeps_topics play past e) h)
  where
    rest : (a : Bool) → (a && each (keeps_topics play) past) ≡ true → each (keeps_topics play) past ≡ true
    rest true k = k
    rest false k = cc

all_taken : (z : Setting) (past : List Entry) → AllTaken z past → has_no_slot z past ≡ true
all_taken z past h = no_slot_where z past (λ i l. one i (h i l))
  where
    or_true : (b : Bool) → (b || true) ≡ true
    or_true true = refl
    or_true false = refl

    not_less : (n : ℕ) → n ≡ 2 ^ 40 - 1 → not (nat_lt n (2 ^ 40 - 1)) ≡ true
    not_less n e = grind (arith, nat_tests)

    one : (i : ℕ) → (is_free past i ≡ false) ⊎ (begins past i ≡ 2 ^ 40 - 1) → is_taken past i ≡ true
    one i (inl e) = rw e refl
    one i (inr e) = rw (not_less (begins past i) e) (or_true (not (is_free past i)))

state_of_send : (role : Role) (z : Setting) (past : List Entry) (m n : RecordedMessage) → state_for role z past 0 (Send m) ≡ state_for role z past 0 (Send n)
state_of_send roles.Req z past m n = refl
state_of_send roles.Surveyor z past m n = refl
state_of_send roles.Rep z past m n = refl
state_of_send roles.Respondent z past m n = refl
state_of_send roles.Pair0 z past m n = refl
state_of_send roles.Pair1 z past m n = refl
state_of_send roles.Pub z past m n = refl
state_of_send roles.Sub z past m n = refl
state_of_send roles.Push z past m n = refl
state_of_send roles.Pull z past m n = refl
state_of_send roles.Bus z past m n = refl

kept_back : (z : Setting) (past : List Entry) (b : Bool) (act : RecordedAct) → is_kind b (Some act) ≡ true → is_state z past 0 act ≡ true → is_kept_back z past b ≡ true
kept_back z past true Recv k s = s
kept_back z past true (Send m) k s = cc
kept_back z past false Recv k s = cc
kept_back z past false (Send m) k s = rw (state_of_send z.role z past (record { header = []; body = [] }) m) s

first_or : (a b : Bool) → a ≡ true → (a || b) ≡ true
first_or a b e = rw e refl

last_or : (a b : Bool) → b ≡ true → (a || b) ≡ true
last_or true b e = refl
last_or false b e = e

rests : (z : Setting) (play : Play) (past : List Entry) → is_refused z play past ≡ true → may_rest z play past ≡ true
rests z play past e =
    last_or (over z play past || not (is_receive_next z play past) && (waits_for_pipe play past || waits_for_interval play past) || found_over z play past) (is_refused z play past) e

does_it : (role : Role) (b r : Bool) (last : Option Ending) (act : RecordedAct) → is_kind (receives_next role b r last) (Some act) ≡ true → does role act ≡ true
does_it role b r last Recv k = may_receive role b r last k
does_it role b r last (Send m) k = may_send role b r last (flip (receives_next role b r last) k)
  where
    flip : (x : Bool) → not x ≡ true → x ≡ false
    flip true h = cc
    flip false h = refl

refused_means : (z : Setting) (play : Play) (past : List Entry) (act : RecordedAct) (e : BeginError) → z.role ≡ play.role → is_closed past ≡ false → IsTrue (each (keeps_topics play) past)
    → is_kind (is_receive_next z play past) (Some act) ≡ true → RefusedFor e z past 0 act → (e ≡ error.NoMemory → ⊥) → is_refused z play past ≡ true
refused_means z play past act error.Closed role open_ topics kind why not_memory = cc
refused_means z play past act error.NotSupported role open_ topics kind (open_too, why) not_memory =
    let d : does z.role act ≡ true = subst (λ (r : Role). does r act ≡ true) (sym role) (does_it play.role (is_some play.body) (asks_anew z past) (last_result past) act kind) in
    let bad : (true && true) ≡ false = subst (λ (b : Bool). (b && true) ≡ false) d why in
    cc
refused_means z play past act error.NoEntry role open_ topics kind (open_too, (does_so, why)) not_memory =
    let bad : has (0 ∷ []) 0 ≡ false = subst (λ (cs : List ℕ). has cs 0 ≡ false) (ctx_zero play past topics) why in
    cc
refused_means z play past act error.State role open_ topics kind (open_too, (does_so, is_there, why)) not_memory =
    first_or _ (has_no_slot z past) (kept_back z past (is_receive_next z play past) act kind why)
refused_means z play past act error.Busy role open_ topics kind (open_too, checks, taken) not_memory = last_or _ (has_no_slot z past) (all_taken z past taken)
refused_means z play past act error.NoMemory role open_ topics kind why not_memory = elim (not_memory refl) [ ]

-- where a begin was refused for another cause than being out of memory, nothing can begin
pub refused_rests : {says : Setting → List (Turn Entry) → Turn Entry → Type 0} (s s' : SingleView) (took : TookOne says s s') (p : Player) (t : ℕ) (act : RecordedAct) (e : BeginError)
    → AreSettling took.turn.entries → Stands s p t → is_left (past_of s.seen) ≡ false → is_kind (is_receive_next s.setting (play_of p.script) (past_of s.seen)) (Some act) ≡ true
    → RefusedFor e s.setting (past_of (s.seen ++ took.turn ∷ [])) 0 act → (e ≡ error.NoMemory → ⊥) → HasPlayed s'.setting s'.seen p
refused_rests s s' took p t act e settles was left kind why not_memory =
    record {
      collected = silent_left s s' took (settling_silent took.turn.entries settles) left;
      busy = last_or _ _ (at_new s s' took (λ z h. may_rest z (play_of p.script) (past_of h) ≡ true) (rests s.setting (play_of p.script) more refused));
    }
  where
    more : List Entry
    more = past_of (s.seen ++ took.turn ∷ [])

    stands : PlayStands s.setting (s.seen ++ took.turn ∷ []) p
    stands = play_stays s.setting p s.seen (s.seen ++ took.turn ∷ []) (adds_one moves_calls s.seen took.turn (settling_silent took.turn.entries settles)) was.play

    silent : none_of moves_calls took.turn.entries ≡ true
    silent = settling_silent took.turn.entries settles

    next : is_receive_next s.setting (play_of p.script) more ≡ is_receive_next s.setting (play_of p.script) (past_of s.seen)
    next =
        ap (is_receive_next s.setting (play_of p.script)) (past_of-append s.seen took.turn)
        ∙ next_stays s.setting (play_of p.script) took.turn.entries (past_of s.seen) was.play.role silent (last_result_stays took.turn.entries (past_of s.seen) silent)

    refused : is_refused s.setting (play_of p.script) more ≡ true
    refused =
        refused_means s.setting (play_of p.script) more act e stands.role stands.is_open (subst (λ (past : List Entry). IsTrue (each (keeps_topics (play_of p.script)) past)) (open_is more stands.is_open) stands.so_far.topics) (ap (λ b. is_kind b (Some act)) next ∙ kind) why not_memory

-- ---- An operation is under way

-- the facts of a begin that the player makes
pub record Makes (s : SingleView) (p : Player) (op : OpName) (act : RecordedAct) (d : Option ℕ) : Type 0 where
  pub free : p.op ≡ None
  pub open_ : p.over ≡ overs.Open
  pub next : is_kind (is_receive_next s.setting (play_of p.script) (past_of s.seen)) (Some act) ≡ true
  pub data_ : carries_data (play_of p.script) (past_of s.seen) (Begin op 1 0 act d) ≡ true
  pub deadline : d ≡ deadline_for (play_of p.script) (past_of s.seen) act
  pub spaced : is_spaced (play_of p.script) (past_of s.seen) (Begin op 1 0 act d) ≡ true
  pub pipe : (is_send (Begin op 1 0 act d) && waits_for_pipe (play_of p.script) (past_of s.seen)) ≡ false

-- what holds after it, where the player records this for its last send
pub record HasBegun (s s' : SingleView) (p : Player) (t : ℕ) (op : OpName) (sent : Option ℕ) : Type 0 where
  pub stands : Stands s' (record p { op = Some op; last_send = sent }) t
  pub goes_on : GoesOnBy s s'
  pub played : is_left (past_of s.seen) ≡ false → HasPlayed s'.setting s'.seen (record p { op = Some op; last_send = sent })
  pub texts_are : texts (play_of p.script) (past_of s'.seen) ≡ texts (play_of p.script) (past_of s.seen)

has_one : (op : OpName) (act : RecordedAct) (d : Option ℕ) (t : Turn Entry) → (b : HasBegin op 1 0 act d t) → HasOne (Begin op 1 0 act d) t b.early b.late
has_one op act d t b = record { stands = b.entries; before = settling_silent b.early b.early_settles; after = settling_silent b.late b.late_settles; no_close = refl }

under_none : (o : Option OpName) (h : List (Turn Entry)) → o ≡ None → Rattle.cat_rounds.specs.Lasting.IsUnderWay o h → under_way (past_of h) ≡ None
under_none None h e u = u
under_none (Some op) h e u = cc

is_open : (o : PlayEnd) (z : Setting) (play : Play) (past : List Entry) → o ≡ overs.Open → IsOver o z play past → over z play past ≡ false
is_open overs.Open z play past e h = h
is_open overs.Finished z play past e h = cc
is_open overs.SendTimedOut z play past e h = cc

-- what the player records for its last send
abbrev pub noted : RecordedAct → Option ℕ → ℕ → Option ℕ
noted Recv sent t = sent
noted (Send m) sent t = Some t

pub has_begun : {says : Setting → List (Turn Entry) → Turn Entry → Type 0} (s s' : SingleView) (took : TookOne says s s') (p : Player) (t : ℕ) (op : OpName) (act : RecordedAct) (d : Option ℕ)
    → HasBegin op 1 0 act d took.turn → IsOpen 1 op s'.seen → Stands s p t → Makes s p op act d → HasBegun s s' p t op (noted act p.last_send t)
has_begun s s' took p t op act d begin opens was makes =
    record {
      stands =
          record {
            play = at_new s s' took (λ z h. IsOpen 1 op h → PlayStands z h (record p { op = Some op; last_send = noted act p.last_send t })) play_now opens;
            sound = sound_new s s' took was.sound;
            now_is = at_new s s' took (λ z h. t ≡ now (past_of h)) (was.now_is ∙ sym leaves.now_is);
            topics_on = at_new s s' took (λ z h. AreOn p.script.topics (past_of h)) (still_on p.script.topics (past_of s.seen) (past_of (s.seen ++ took.turn ∷ [])) leaves.topics_are was.topics_on);
          };
      goes_on = goes_on_by s s' took (subst (λ (es : List Entry). none_of moves_ends es ≡ true) (sym begin.entries) (none_around moves_ends begin.early (Begin op 1 0 act d) begin.late (settling_linkless begin.early begin.early_settles) refl (settling_linkless begin.late begin.late_settles)));
      played = λ left. at_new s s' took (λ z h. HasPlayed z h (record p { op = Some op; last_send = noted act p.last_send t })) (record { collected = leaves.left_ ∙ left; busy = rw leaves.under refl });
      texts_are = at_new s s' took (λ z h. texts (play_of p.script) (past_of h) ≡ texts (play_of p.script) (past_of s.seen)) leaves.texts_are;
    }
  where
    one : HasOne (Begin op 1 0 act d) took.turn begin.early begin.late
    one = has_one op act d took.turn begin

    leaves : BeginLeaves s.setting (play_of p.script) op act s.seen (s.seen ++ took.turn ∷ [])
    leaves = begin_leaves s.setting (play_of p.script) s.seen took.turn begin.early begin.late op 1 0 act d one was.play.is_open

    may : MayBeginNow s.setting (play_of p.script) (past_of s.seen) op 1 act d
    may =
        record {
          open_ = was.play.is_open;
          role = was.play.role;
          pipe = makes.pipe;
          topics_on = was.topics_on;
          free = under_none p.op s.seen makes.free was.play.hand;
          going = is_open p.over s.setting (play_of p.script) (past_of s.seen) makes.open_ was.play.over;
          next = makes.next;
          data_ = makes.data_;
          deadline = makes.deadline;
          spaced = makes.spaced;
        }

    sent_now : (a : RecordedAct) → a ≡ act → last_send (past_of (s.seen ++ took.turn ∷ [])) ≡ noted a p.last_send t
    sent_now Recv e = leaves.received (sym e) ∙ was.play.sent
    sent_now (Send m) e =
        send_notes s.seen took.turn begin.early begin.late op 1 0 act d one (subst (λ (a : RecordedAct). is_kind false (Some a) ≡ true) e refl) ∙ ap (λ n. Some n) (sym was.now_is)

    play_now : IsOpen 1 op (s.seen ++ took.turn ∷ []) → PlayStands s.setting (s.seen ++ took.turn ∷ []) (record p { op = Some op; last_send = noted act p.last_send t })
    play_now open_ =
        record {
          role = was.play.role;
          surveys = was.play.surveys;
          carries = was.play.carries;
          is_open = leaves.open_;
          so_far = begin_goes_on s.setting (play_of p.script) s.seen took.turn begin.early begin.late op 1 act d one may was.play.so_far;
          hand = (leaves.under, open_);
          last = subst (λ r. IsLast p.last r) (sym leaves.result) was.play.last;
          sent = sent_now act refl;
          due = subst (λ n. IsDue p.script.count p.due n) (sym leaves.count) was.play.due;
          over = over_kept p.over s.setting (play_of p.script) (past_of s.seen) (past_of (s.seen ++ took.turn ∷ [])) leaves.count leaves.timed was.play.over;
          idle = λ e. cc;
        }

-- a step whose begin was refused rests, except when out of memory
pub rested_after : (e : BeginError) (s : SingleView) (p : Player) → ((e ≡ error.NoMemory → ⊥) → HasPlayed s.setting s.seen p) → Rested (step_for e) s p
rested_after error.NoMemory s p h = tt
rested_after error.Closed s p h = h (λ e. cc)
rested_after error.NotSupported s p h = h (λ e. cc)
rested_after error.NoEntry s p h = h (λ e. cc)
rested_after error.State s p h = h (λ e. cc)
rested_after error.Busy s p h = h (λ e. cc)

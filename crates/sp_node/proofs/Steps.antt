-- What each call leaves of a node.
use Rattle.std.proofs.Common.{◌≡◌, refl, ap, sym, ◌∙◌, subst, inl, inr, List, [], ◌∷◌, ◌++◌, ℕ, zero, suc, ◌≤◌, Bool, true, false, arith, Option, None, append_assoc}
use Rattle.std.specs.Prelude.{max, not, ◌&&◌, Result, Ok, Err}
use Rattle.turn_lock.specs.declared.turn.Turn.{Turn}
use Rattle.sp_base.specs.Views.{LinkView, NetView}
use Rattle.sp_base.specs.declared.OpName.{OpName}
use Rattle.sp_msg.specs.Views.{MessageView}
use Rattle.sp_proto.specs.Kinds.{text_of}
use Rattle.sp_history.specs.declared.entry.Ending.TheVariants.{Won}
use Rattle.sp_history.specs.declared.entry.Completion.TheVariants.{Received}
use Rattle.sp_history.specs.declared.entry.ContextChange.TheVariants.{Shut}
use Rattle.sp_history.specs.declared.entry.Entry.{Entry}
use Rattle.sp_history.specs.declared.entry.Entry.TheVariants.{Up, Met, NoUp, Taken, Tick, Close, Begin, End, Took, Ctx, Down, Out, Full, Dry}
use Rattle.sp_history.specs.declared.entry.RecordedAct.{RecordedAct}
use Rattle.sp_history.specs.declared.entry.RecordedAct.TheVariants as acts
use Rattle.sp_history.specs.declared.entry.Totals.{Totals}
use Rattle.sp_history.specs.declared.parts.Begun.{Begun}
use Rattle.sp_history.specs.declared.setting.Setting.{Setting}
use Rattle.sp_history.specs.Changes.{none_of}
use Rattle.sp_history.specs.Once.{took_count}
use Rattle.sp_history.specs.Past.{onto, past_of, is_closed, now, due_at, caller_of, pend, up}
use Rattle.sp_history.specs.Found.{IsOpenOf}
use Rattle.sp_history.specs.Legal.{Legal}
use Rattle.sp_history.specs.Settled.{Settled}
use Rattle.sp_history.proofs.Appending.{past_of-append}
use Rattle.core_state.specs.declared.causes.BeginError.{BeginError}
use Rattle.core_state.specs.declared.causes.CtxError.{CtxError}
use Rattle.core_state.specs.declared.causes.NowError.{NowError}
use Rattle.core_state.specs.declared.causes.TopicError.{TopicError}
use Rattle.core_state.specs.declared.outcome.Outcome.{Outcome}
use Rattle.core_state.specs.declared.served.Served.{Served}
use Rattle.sp_core.specs.declared.calls.collect.Collected.{Collected}
use Rattle.sp_core.specs.declared.calls.collect.Collected.TheVariants as collected
use Rattle.sp_core.specs.CallSays.{ServesPipes}
use Rattle.sp_core.specs.Closing.{AreEndsOf, GoesDownAs, AreDownsOf, ClosesSo, ClosedBy}
use Rattle.sp_core.specs.Collecting.{CollectedBy, DueFrom, IsOpen}
use Rattle.sp_core.specs.Contexts.{OpenedBy, IsCtxEnd, AreCtxEnds, ShutBy, SubscribedBy, UnsubscribedBy}
use Rattle.sp_core.specs.Immediate.{IsLost, AreLost, HasLost, ReceivedNow}
use Rattle.sp_core.specs.Moving.{IsSettling, AreSettling}
use Rattle.sp_core.specs.Serving.{IsServing, AreServing}
use Rattle.sp_core.specs.Standing.{HasFirst, HasBegin, BeganBy}
use Rattle.sp_socket.specs.Singles.{SingleView, TookOne, Ticks, KeepsOpen, IsSound, IsNow, IsStill}
use Rattle.sp_socket.proofs.BegunOnce.{closed_before}
use Rattle.sp_ends.specs.LinkRecords.{has_dry_miss}
use Rattle.sp_ends.specs.Entries.{AddsNone, moves_calls, moves_ends}
use Rattle.sp_ends.specs.EndViews.{LinkEndsView, Beginning}
use Rattle.sp_ends.specs.RunLinks.{EndsStand}
use Rattle.sp_ends.specs.SocketSteps.{IsDry, Quietly}
use Rattle.sp_ends.proofs.LaterEntries.{entries_leave}
use Rattle.sp_ends.proofs.EndsStay.{linkless, none_sub, same_now, same_dry}
use Rattle.sp_ends.specs.EndsTurns.{EndsTicked}
use Rattle.sp_ends.proofs.TickedEnds.{ticked}
use Rattle.sp_node.specs.Nodes.{NodeView, NodeStands, IsLater, GoesOn, TicksFirst}
use Rattle.sp_node.specs.Waits.{WaitsFor, Flushes}
use Rattle.sp_node.proofs.Entries.{append_nil, keeps_all, adds_one, none_settling, settling_silent, none_around, now_stays, closed_stays, caller_stays, took_stays, at_new, sound_new}

-- ---- Entries that leave a node as it is

none_both : (f : Entry → Bool) (a b : List Entry) → none_of f a ≡ true → none_of f b ≡ true → none_of f (a ++ b) ≡ true
none_both f [] b h k = k
none_both f (e ∷ a) b h k = go (f e) h (none_both f a b)
  where
    go : (x : Bool) → (not x && none_of f a) ≡ true → (none_of f a ≡ true → none_of f b ≡ true → none_of f (a ++ b) ≡ true) → (not x && none_of f (a ++ b)) ≡ true
    go true h again = cc
    go false h again = again h k

-- with the entry a link moves, the moment comes, or the socket closes
abbrev pub moves_node : Entry → Bool
moves_node (Up p place limit name) = true
moves_node (Met place) = true
moves_node (NoUp place miss) = true
moves_node (Taken p) = true
moves_node (Tick t due) = true
moves_node (Close totals) = true
moves_node _ = false

node_ends : (e : Entry) → moves_node e ≡ false → moves_ends e ≡ false
node_ends (Up p place limit name) h = cc
node_ends (Met place) h = cc
node_ends (NoUp place miss) h = cc
node_ends (Taken p) h = cc
node_ends (Tick t due) h = cc
node_ends _ h = refl

pub no_ends_in : (es : List Entry) → none_of moves_node es ≡ true → none_of moves_ends es ≡ true
no_ends_in = none_sub moves_node moves_ends node_ends

same_closed : (e : Entry) (past : List Entry) → moves_node e ≡ false → is_closed (e ∷ past) ≡ is_closed past
same_closed (Close totals) past h = cc
same_closed _ past h = refl

settle_step : (e : Entry) → IsSettling e → moves_node e ≡ false
settle_step (Down p why) h = refl
settle_step (Out p b) h = refl
settle_step (Full p) h = refl
settle_step (End op ending) h = refl
settle_step (Dry c) h = refl
settle_step _ h = elim h [ ]

pub settling_still : (es : List Entry) → AreSettling es → none_of moves_node es ≡ true
settling_still = none_settling moves_node settle_step

serve_step : (e : Entry) → IsServing e → moves_node e ≡ false
serve_step (Up p place limit name) s = absurd s
serve_step (Met place) s = absurd s
serve_step (NoUp place miss) s = absurd s
serve_step (Taken p) s = absurd s
serve_step (Tick t due) s = absurd s
serve_step (Close totals) s = absurd s
serve_step _ s = refl

serving_still : (es : List Entry) → AreServing es → none_of moves_node es ≡ true
serving_still [] s = refl
serving_still (e ∷ es) s = rw (serve_step e s.0) (serving_still es s.1)

-- ---- What each call records

pub begins_still : (r : Result OpName BeginError) (z : Setting) (h : List (Turn Entry)) (t : Turn Entry) (k c : ℕ) (act : RecordedAct) (d : Option ℕ) → BeganBy r z h t k c act d → none_of moves_node t.entries ≡ true
begins_still (Ok op) z h t k c act d b =
    subst (λ (es : List Entry). none_of moves_node es ≡ true) (sym b.entries) (none_around moves_node b.early (Begin op k c act d) b.late (settling_still b.early b.early_settles) refl (settling_still b.late b.late_settles))
begins_still (Err e) z h t k c act d b = settling_still t.entries b.0

pub collects_still : (r : Collected) (op : OpName) (k : ℕ) (h : List (Turn Entry)) (t : Turn Entry) → CollectedBy r op k h t → none_of moves_node t.entries ≡ true
collects_still (collected.NotYet o) op k h t b = settling_still t.entries b.1
collects_still (collected.Ended outcome) op k h t (has, rest) =
    subst (λ (es : List Entry). none_of moves_node es ≡ true) (sym has.entries) (none_around moves_node has.early (Took op k) has.late (settling_still has.early has.early_settles) refl (settling_still has.late has.late_settles))

pub serves_still : (r : Served) (z : Setting) (h : List (Turn Entry)) (t : Turn Entry) → ServesPipes r z h t → none_of moves_node t.entries ≡ true
serves_still r z h t s = serving_still t.entries s.2.kinds

pub subscribes_still : (r : Result (Unit {0}) TopicError) (z : Setting) (h : List (Turn Entry)) (t : Turn Entry) (c : ℕ) (b : List ℕ) → SubscribedBy r z h t c b → none_of moves_node t.entries ≡ true
subscribes_still (Ok done) z h t c b (may, short, inl (there, settles)) = settling_still t.entries settles
subscribes_still (Ok done) z h t c b (may, short, inr (there, first)) =
    rw first.entries (settling_still first.late first.late_settles)
subscribes_still (Err e) z h t c b s = settling_still t.entries s.0

lost_still : (k c callers : ℕ) (es : List Entry) → IsLost k c callers es → none_of moves_node es ≡ true
lost_still k c callers es l = rw l.entries (settling_still l.late l.late_settles)

all_lost_still : (n k c callers : ℕ) (es : List Entry) → AreLost n k c callers es → none_of moves_node es ≡ true
all_lost_still zero k c callers es is = rw is refl
all_lost_still (suc n) k c callers es (prefix, last, is, before, one) =
    rw is (none_both moves_node prefix last (all_lost_still n k c callers prefix before) (lost_still k c callers last one))

has_lost_still : (k c callers : ℕ) (es : List Entry) → HasLost k c callers es → none_of moves_node es ≡ true
has_lost_still k c callers es l =
    rw l.entries (none_both moves_node l.early l.lost (settling_still l.early l.early_settles) (all_lost_still l.count k c callers l.lost l.are_lost))

pub tries_still : (r : Result MessageView NowError) (z : Setting) (h : List (Turn Entry)) (t : Turn Entry) (k c : ℕ) → ReceivedNow r z h t k c → none_of moves_node t.entries ≡ true
tries_still (Ok m) z h t k c r =
    rw r.entries (none_both moves_node r.prefix (Begin r.op k c acts.Recv None ∷ End r.op (Won (Received (text_of m))) ∷ Took r.op k ∷ r.late) (has_lost_still k c z.callers r.prefix r.prefix_lost) (settling_still r.late r.late_settles))
tries_still (Err e) z h t k c r = has_lost_still k c z.callers t.entries r.0

pub opens_still : (r : Result ℕ CtxError) (z : Setting) (h : List (Turn Entry)) (t : Turn Entry) → OpenedBy r z h t → none_of moves_node t.entries ≡ true
opens_still (Ok c) z h t (is, first, may) = rw first.entries (settling_still first.late first.late_settles)
opens_still (Err e) z h t o = settling_still t.entries o.0

ctx_end_still : (callers c : ℕ) (past : List Entry) (e : Entry) → IsCtxEnd callers c past e → moves_node e ≡ false
ctx_end_still callers c past (End op ending) h = refl
ctx_end_still callers c past _ h = elim h [ ]

ctx_ends_still : (callers c : ℕ) (past es : List Entry) → AreCtxEnds callers c past es → none_of moves_node es ≡ true
ctx_ends_still callers c past [] h = refl
ctx_ends_still callers c past (e ∷ es) (one, more) = rw (ctx_end_still callers c past e one) (ctx_ends_still callers c (e ∷ past) es more)

pub shuts_still : (r : Result (Unit {0}) CtxError) (z : Setting) (h : List (Turn Entry)) (t : Turn Entry) (c : ℕ) → ShutBy r z h t c → none_of moves_node t.entries ≡ true
shuts_still (Ok done) z h t c (may, s) =
    rw s.entries (none_both moves_node s.ends (Ctx c Shut ∷ s.late) (ctx_ends_still z.callers c (past_of h) s.ends s.ended) (settling_still s.late s.late_settles))
shuts_still (Err e) z h t c s = settling_still t.entries s.0

pub unsubscribes_still : (r : Result (Unit {0}) TopicError) (z : Setting) (h : List (Turn Entry)) (t : Turn Entry) (c : ℕ) (b : List ℕ) → UnsubscribedBy r z h t c b → none_of moves_node t.entries ≡ true
unsubscribes_still (Ok done) z h t c b (may, there, first) = rw first.entries (settling_still first.late first.late_settles)
unsubscribes_still (Err e) z h t c b s = settling_still t.entries s.0

-- ---- A turn of the socket that leaves it

module _ {says : Setting → List (Turn Entry) → Turn Entry → Type 0} (s s' : SingleView) (took : TookOne says s s') where
  pub later_one : IsLater s s'
  later_one = record { setting = took.setting; turns = took.turn ∷ []; seen = took.seen; cancelled = took.cancelled }

  pub legal_one : Legal s.setting (s.seen ++ took.turn ∷ [])
  legal_one = subst (λ (g : List (Turn Entry)). Legal s.setting g) took.seen (subst (λ (z : Setting). Legal z s'.seen) took.setting took.legal)

  past_is : past_of (s.seen ++ took.turn ∷ []) ≡ onto took.turn.entries (past_of s.seen)
  past_is = past_of-append s.seen took.turn

  module _ {L : Type 0} (seen : L → LinkView) (start : Beginning) (net : NetView) (e : LinkEndsView L) (t : ℕ) (dry closed : Bool) where
    -- the same but for whether it is closed
    but_closed : (closed' : Bool) → none_of moves_ends took.turn.entries ≡ true → is_closed (past_of s'.seen) ≡ closed' → NodeStands seen start s e net t dry closed → NodeStands seen start s' e net t dry closed'
    but_closed closed' none is was =
        record {
          sound = sound_new s s' took;
          ends_stand = at_new s s' took (λ z h. EndsStand seen z start h net e) (linkless seen s.setting start net s.seen (s.seen ++ took.turn ∷ []) e (adds_one moves_ends s.seen took.turn none) legal_one was.ends_stand);
          dry_is = at_new s s' took (λ z h. has_dry_miss (past_of h) ≡ dry) (ap has_dry_miss past_is ∙ (entries_leave moves_ends has_dry_miss same_dry took.turn.entries (past_of s.seen) none ∙ was.dry_is));
          now_is = at_new s s' took (λ z h. t ≡ now (past_of h)) (was.now_is ∙ sym (ap now past_is ∙ entries_leave moves_ends now same_now took.turn.entries (past_of s.seen) none));
          closed_is = is;
        }

    pub still : none_of moves_node took.turn.entries ≡ true → NodeStands seen start s e net t dry closed → NodeStands seen start s' e net t dry closed
    still none was =
        but_closed closed (no_ends_in took.turn.entries none) (at_new s s' took (λ z h. is_closed (past_of h) ≡ closed) (ap is_closed past_is ∙ (entries_leave moves_node is_closed same_closed took.turn.entries (past_of s.seen) none ∙ was.closed_is))) was

-- ---- A call without a turn

pub stays_still : (s s' : SingleView) {L : Type 0} (seen : L → LinkView) (start : Beginning) (net : NetView) (e : LinkEndsView L) (t : ℕ) (dry closed : Bool) → IsStill s s' → NodeStands seen start s e net t dry closed → NodeStands seen start s' e net t dry closed
stays_still s s' seen start net e t dry closed i was =
    record {
      sound = record { legal = along (λ z h. Legal z h) was.sound.legal; settled = along (λ z h. Settled z h) was.sound.settled };
      ends_stand = along (λ z h. EndsStand seen z start h net e) was.ends_stand;
      dry_is = along (λ z h. has_dry_miss (past_of h) ≡ dry) was.dry_is;
      now_is = along (λ z h. t ≡ now (past_of h)) was.now_is;
      closed_is = along (λ z h. is_closed (past_of h) ≡ closed) was.closed_is;
    }
  where
    along : (P : Setting → List (Turn Entry) → Type 0) → P s.setting s.seen → P s'.setting s'.seen
    along P p = subst (λ (z : Setting). P z s'.seen) (sym i.setting) (subst (λ (h : List (Turn Entry)). P s.setting h) (sym i.seen) p)

-- ---- Later

pub later_none : (s : SingleView) → IsLater s s
later_none s = record { setting = refl; turns = []; seen = sym (append_nil s.seen); cancelled = refl }

pub later_then : (a b c : SingleView) → IsLater a b → IsLater b c → IsLater a c
later_then a b c x y =
    record { setting = y.setting ∙ x.setting; turns = x.turns ++ y.turns; seen = y.seen ∙ (ap (λ (h : List (Turn Entry)). h ++ y.turns) x.seen ∙ append_assoc a.seen x.turns y.turns); cancelled = y.cancelled ∙ x.cancelled }

pub later_quiet : (s s' : SingleView) → Quietly s s' → IsLater s s'
later_quiet s s' q = record { setting = q.setting; turns = q.silent.0; seen = q.silent.1; cancelled = q.cancelled }

pub ticks_first : (s s' : SingleView) (n : ℕ) → TookOne (λ z h t. Ticks h t n) s s' → TicksFirst s s'
ticks_first s s' n took = record { at = n; turn = took.turn; turns = []; seen = took.seen; ticks = took.said }

pub ticks_later : (a b c : SingleView) → TicksFirst a b → IsLater b c → TicksFirst a c
ticks_later a b c x y =
    record { at = x.at; turn = x.turn; turns = x.turns ++ y.turns; seen = y.seen ∙ (ap (λ (h : List (Turn Entry)). h ++ y.turns) x.seen ∙ append_assoc a.seen (x.turn ∷ x.turns) y.turns); ticks = x.ticks }

pub goes_same : {L : Type 0} (v : NodeView L) → GoesOn v v
goes_same v = record { later = later_none v.single; open_ = λ op o. o }

pub goes_then : {L : Type 0} (a b c : NodeView L) → GoesOn a b → GoesOn b c → GoesOn a c
goes_then a b c x y = record { later = later_then a.single b.single c.single x.later y.later; open_ = λ op o. y.open_ op (x.open_ op o) }

-- what was open before an operation began isn't it
pub begun_apart : {says : Setting → List (Turn Entry) → Turn Entry → Type 0} (s s' : SingleView) (took : TookOne says s s') (op : OpName) (c : ℕ) (act : RecordedAct) (d : Option ℕ) → HasBegin op 1 c act d took.turn → (other : OpName) → IsOpen 1 other s.seen → op ≡ other → ⊥
begun_apart s s' took op c act d begun other o same =
    closed_before s.setting s.seen took.turn op 1 c act d (legal_one s s' took) begun 1 (subst (λ (x : OpName). IsOpenOf 1 x (past_of s.seen)) (sym same) o)

-- later, then a begin, then a wait for what was begun
pub goes_waits : {L : Type 0} (old at_begin begun new : NodeView L) (op : OpName) (outcome : Outcome) → GoesOn old at_begin → GoesOn at_begin begun → ((other : OpName) → IsOpen 1 other at_begin.single.seen → op ≡ other → ⊥) → WaitsFor outcome op begun.single new.single → GoesOn old new
goes_waits old at_begin begun new op outcome x y apart waits =
    record {
      later = later_then old.single begun.single new.single (later_then old.single at_begin.single begun.single x.later y.later) (later_then begun.single waits.last new.single waits.later (later_one waits.last new.single waits.collects));
      open_ = λ other o. (let was = x.open_ other o in waits.others other (apart other was) (y.open_ other was));
    }

pub told : {says also : Setting → List (Turn Entry) → Turn Entry → Type 0} (s s' : SingleView) → ((z : Setting) (h : List (Turn Entry)) (t : Turn Entry) → says z h t → also z h t) → TookOne says s s' → TookOne also s s'
told s s' f t = record { turn = t.turn; setting = t.setting; seen = t.seen; number = t.number; legal = t.legal; settled = t.settled; said = f s.setting s.seen t.turn t.said; cancelled = t.cancelled }

-- ---- The tick

-- behind the tick of a turn
pub record HasTicked {L : Type 0} (seen : L → LinkView) (start : Beginning) (net : NetView) (s' : SingleView) (e : LinkEndsView L) (n : ℕ) (dry : Bool) : Type 0 where
  pub links : EndsTicked seen s'.setting start s'.seen net e
  pub sound : IsSound s'
  pub dry_is : IsDry dry s'
  pub now_is : IsNow n s'
  pub is_open : is_closed (past_of s'.seen) ≡ false

abbrev tick_of : List (Turn Entry) → ℕ → Entry
tick_of h n = Tick (max (now (past_of h)) n) (due_at (past_of h) (max (now (past_of h)) n))

first_tick : (h : List (Turn Entry)) (t : Turn Entry) (n : ℕ) → is_closed (past_of h) ≡ false → Ticks h t n → HasFirst (tick_of h n) t
first_tick h t n open_ (due, d) = (subst (λ (b : Bool). DueFrom b (past_of h) t (max (now (past_of h)) n) [] due) open_ d).0

pub ticks_on : {L : Type 0} (seen : L → LinkView) (start : Beginning) (net : NetView) (s s' : SingleView) (e : LinkEndsView L) (t n : ℕ) (dry : Bool) → TookOne (λ z h u. Ticks h u n) s s' → t ≤ n → NodeStands seen start s e net t dry false → HasTicked seen start net s' e n dry
ticks_on seen start net s s' e t n dry took less was =
    let z = s.setting in
    let h = s.seen in
    let u = took.turn in
    let first = first_tick h u n was.closed_is took.said in
    let more : List Entry = tick_of h n ∷ past_of h in
    let quiet = settling_still first.late first.late_settles in
    let silent = settling_silent first.late first.late_settles in
    let ends = no_ends_in first.late quiet in
    let past : past_of (h ++ u ∷ []) ≡ onto first.late more = past_of-append h u ∙ ap (λ (es : List Entry). onto es (past_of h)) first.entries in
    let at : max (now (past_of h)) (max (now (past_of h)) n) ≡ n = (let is = was.now_is in omega (arith, less, is)) in
    record {
      links = at_new s s' took (λ y g. EndsTicked seen y start g net e) (ticked seen z start net h u _ _ first e (legal_one s s' took) was.ends_stand);
      sound = sound_new s s' took;
      dry_is = at_new s s' took (λ y g. has_dry_miss (past_of g) ≡ dry) (ap has_dry_miss past ∙ (entries_leave moves_ends has_dry_miss same_dry first.late more ends ∙ was.dry_is));
      now_is = at_new s s' took (λ y g. n ≡ now (past_of g)) (sym (ap now past ∙ (now_stays first.late more silent ∙ at)));
      is_open = at_new s s' took (λ y g. is_closed (past_of g) ≡ false) (ap is_closed past ∙ (entries_leave moves_node is_closed same_closed first.late more quiet ∙ was.closed_is));
    }

-- ---- The turn of the ends

now_turn : (n : ℕ) (h : List (Turn Entry)) (t : Turn Entry) → none_of moves_calls t.entries ≡ true → n ≡ now (past_of h) → n ≡ now (past_of (h ++ t ∷ []))
now_turn n h t none was = was ∙ sym (ap now (past_of-append h t) ∙ now_stays t.entries (past_of h) none)

closed_turn : (h : List (Turn Entry)) (t : Turn Entry) → none_of moves_calls t.entries ≡ true → is_closed (past_of h) ≡ false → is_closed (past_of (h ++ t ∷ [])) ≡ false
closed_turn h t none was = ap is_closed (past_of-append h t) ∙ (closed_stays t.entries (past_of h) none ∙ was)

open_turn : (op : OpName) (h : List (Turn Entry)) (t : Turn Entry) → none_of moves_calls t.entries ≡ true → IsOpen 1 op h → IsOpen 1 op (h ++ t ∷ [])
open_turn op h t none (begun, untaken) =
    (ap (λ (past : List Entry). caller_of past op) (past_of-append h t) ∙ (caller_stays op t.entries (past_of h) none ∙ begun), ap (λ (past : List Entry). took_count past op) (past_of-append h t) ∙ (took_stays op t.entries (past_of h) none ∙ untaken))

pub quiet_open : (s s' : SingleView) → Quietly s s' → KeepsOpen s s'
quiet_open s s' q op was = keeps_all moves_calls (λ h. IsOpen 1 op h) (open_turn op) s.seen s'.seen q.silent was

pub turns_on : {L : Type 0} (seen : L → LinkView) (start : Beginning) (net net' : NetView) (s s' : SingleView) (e e' : LinkEndsView L) (n : ℕ) (dry dry' : Bool) → Quietly s s' → IsSound s' → IsDry dry' s' → EndsStand seen s'.setting start s'.seen net' e' → HasTicked seen start net s e n dry → NodeStands seen start s' e' net' n dry' false
turns_on seen start net net' s s' e e' n dry dry' q sound is_dry stand was =
    record {
      sound = sound;
      ends_stand = stand;
      dry_is = is_dry;
      now_is = keeps_all moves_calls (λ h. n ≡ now (past_of h)) (now_turn n) s.seen s'.seen q.silent was.now_is;
      closed_is = keeps_all moves_calls (λ h. is_closed (past_of h) ≡ false) closed_turn s.seen s'.seen q.silent was.is_open;
    }

-- ---- The close

ended_none : (callers : ℕ) (ss : List Begun) (es : List Entry) → AreEndsOf callers ss es → none_of moves_ends es ≡ true
ended_none callers [] es is = rw is refl
ended_none callers (s ∷ ss) es (cause, by, rest, is, may, more) = rw is (ended_none callers ss rest more)

down_none : (p : ℕ) (es : List Entry) → GoesDownAs p es → none_of moves_ends es ≡ true
down_none p es (inl is) = rw is refl
down_none p es (inr (inl is)) = rw is refl
down_none p es (inr (inr (why, other, is))) = rw is refl

downs_none : (ps : List ℕ) (es : List Entry) → AreDownsOf ps es → none_of moves_ends es ≡ true
downs_none [] es is = rw is refl
downs_none (p ∷ ps) es (downs, rest, is, went_down, more) =
    rw is (none_both moves_ends downs rest (down_none p downs went_down) (downs_none ps rest more))

closing_none : (callers : ℕ) (past : List Entry) (t : Turn Entry) → ClosesSo callers past t → none_of moves_ends t.entries ≡ true
closing_none callers past t c =
    rw c.entries (none_both moves_ends c.ends (c.down_entries ++ Close c.totals ∷ []) (ended_none callers (pend past) c.ends c.ended) (none_both moves_ends c.down_entries (Close c.totals ∷ []) (downs_none (up past) c.down_entries c.gone_down) refl))

closed_none : (b : Bool) (totals : Totals) (callers : ℕ) (h : List (Turn Entry)) (t : Turn Entry) → is_closed (past_of h) ≡ b → ClosedBy totals callers h t → none_of moves_ends t.entries ≡ true
closed_none true totals callers h t is c = rw (c.second is) refl
closed_none false totals callers h t is c = closing_none callers (past_of h) t (c.first is)

pub closes_on : {L : Type 0} (seen : L → LinkView) (start : Beginning) (net : NetView) (totals : Totals) (s s' : SingleView) (e : LinkEndsView L) (t : ℕ) (dry closed : Bool) → TookOne (λ z h u. ClosedBy totals z.callers h u) s s' → is_closed (past_of s'.seen) ≡ true → NodeStands seen start s e net t dry closed → NodeStands seen start s' e net t dry true
closes_on seen start net totals s s' e t dry closed took is was =
    but_closed s s' took seen start net e t dry closed true (closed_none (is_closed (past_of s.seen)) totals s.setting.callers s.seen took.turn refl took.said) is was

-- ---- What waits to be written

-- the same where the node went on before
pub flushes_later : (b : Bool) (s0 s1 s2 : SingleView) → IsLater s0 s1 → Flushes b s1 s2 → Flushes b s0 s2
flushes_later b s0 s1 s2 x f =
    record { before = f.before; later = later_then s0 s1 f.before x f.later; served = f.served; last = f.last; waits = f.waits }

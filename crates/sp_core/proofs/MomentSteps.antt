-- The core goes from one moment of its turn to the next.
use Rattle.std.proofs.Common.{◌≡◌, ◌≢◌, refl, ap, sym, ◌∙◌, subst, List, [], ◌∷◌, ◌++◌, append_assoc, ℕ, ◌+◌, ◌≤◌, Bool, true, false, arith, Some, None, length}
use Rattle.std.specs.Prelude.{not, ◌||◌, ◌&&◌, IsTrue}
use Rattle.sp_base.specs.declared.OpName.{OpName}
use Rattle.std.specs.Prelude.{Option, MatchOption}
use Rattle.std.specs.Option.{option_map}
use Rattle.sp_msg.specs.Views.{MessageView, WireView}
use Rattle.sp_history.specs.declared.entry.Cause.{Cause}
use Rattle.sp_history.specs.declared.entry.Cause.TheVariants.{Cancelled, TimedOut, Closed, Superseded, SurveyOver}
use Rattle.sp_history.specs.declared.entry.Entry.{Entry}
use Rattle.sp_history.specs.declared.entry.Entry.TheVariants.{Unkept, End, Begin, Full, Down, Out}
use Rattle.sp_history.specs.declared.entry.Ending.{Ending}
use Rattle.sp_history.specs.declared.entry.Ending.TheVariants.{Won, Gone}
use Rattle.sp_history.specs.declared.entry.Completion.TheVariants.{Sent}
use Rattle.sp_history.specs.declared.entry.RecordedAct.{RecordedAct}
use Rattle.sp_history.specs.declared.entry.RecordedAct.TheVariants.{Recv, Send}
use Rattle.sp_history.specs.declared.entry.RecordedMessage.{RecordedMessage}
use Rattle.sp_history.specs.declared.entry.Why.{Why}
use Rattle.sp_history.specs.declared.entry.Why.TheVariants as whys
use Rattle.sp_history.specs.declared.setting.Setting.{Setting}
use Rattle.sp_history.specs.declared.parts.Begun.{Begun}
use Rattle.std.specs.Prelude.{nat_eq}
use Rattle.std.proofs.lemmas.Bool.Decides.{nat_tests}
use Rattle.sp_history.specs.Setting.{floods}
use Rattle.sp_history.specs.Lists.{has, without, same_bytes}
use Rattle.sp_history.specs.Past.{pending, up, is_closed}
use Rattle.sp_history.specs.Sends.{unclaimed, is_sent, targets_of}
use Rattle.sp_history.specs.Legal.{Calm, MayEndAs, MayGo, goes_on, is_part_of_send, comes_after_close, unshut, is_closing, is_recv}
use Rattle.sp_history.specs.Moments.{Moment, past, also, Lawful}
use Rattle.sp_proto.specs.Kinds.{text_of}
use Rattle.sp_proto.specs.Machines.{CanSend, message_of}
use Rattle.sp_core.specs.declared.owner.Core.{Core}
use Rattle.core_state.specs.declared.op_words.OpWords.{OpWords}
use Rattle.core_state.specs.declared.op_words.Decision.{Decision}
use Rattle.core_state.specs.declared.op_words.Decision.TheVariants as decision
use Rattle.core_state.specs.Ends.{IsCallers, view_of, back_of}
use Rattle.sp_core.specs.Moving.{IsSettling, AreSettling, with_entries, Later}
use Rattle.core_state.specs.OpWordsStand.{OpWordsStand, DecidedAs}
use Rattle.core_state.specs.OperationsStand.{OperationsStand, done_count}
use Rattle.core_state.specs.declared.pipes.Pipes.{Pipes}
use Rattle.core_state.specs.Wires.{ShowsWhy}
use Rattle.core_state.specs.Pipes.{PipesStand}
use Rattle.sp_core.specs.Owning.{Owns}
use Rattle.core_state.specs.Tallies.{Tallies}
use Rattle.core_state.proofs.Lawfuls.{one_more, closed_none, pipes_closed}

or_left : (a b : Bool) → a ≡ true → (a || b) ≡ true
or_left true b h = refl
or_left false b h = absurd cc

or_true : (a : Bool) → (a || true) ≡ true
or_true true = refl
or_true false = refl

-- at a calm moment any entry is allowed
pub goes : (z : Setting) (before : List Entry) (e : Entry) → Calm z before → goes_on z before e ≡ true
goes z (Unkept p ∷ before) e h = let u : true ≡ false = h.unkept_gone in absurd cc
goes z before e h = or_left (not (unclaimed z before)) (is_part_of_send z e) (ap not h.outs_claimed)

-- where an operation is pending or a pipe is up, the socket is open
pub pending_open : (t : Moment) (op : OpName) (s : Begun) (e : Entry) → Lawful t → pending (past t) op ≡ Some s → IsTrue (is_closed (past t)) → IsTrue (comes_after_close e)
pending_open t op s e l p c = let none = closed_none t l c in let k : None ≡ Some s = rw none at p in absurd cc

pub up_open : (t : Moment) (p : ℕ) (e : Entry) → Lawful t → has (up (past t)) p ≡ true → IsTrue (is_closed (past t)) → IsTrue (comes_after_close e)
up_open t p e l h c = let none = pipes_closed t l c in let k : false ≡ true = rw none at h in absurd cc

-- ---- An operation ends

-- an operation that is pending ends
pub may_end : (t : Moment) (op : OpName) (s : Begun) (ending : Ending) → Lawful t → Calm t.z (past t) → pending (past t) op ≡ Some s → MayEndAs t.z (past t) ending s → Lawful (also t (End op ending))
may_end t op s ending l calm p m =
    one_more t (End op ending) l (record {
      goes_on = goes t.z (past t) (End op ending) calm;
      after_close = pending_open t op s (End op ending) l p;
      itself = rw p m;
    }) refl

-- it shuts no context, nor the socket
abbrev pub IsOfTurn : Ending → Type 0
IsOfTurn (Won r) = Unit {0}
IsOfTurn (Gone cause by) = cause ≢ Closed

pub callers_open : (cause : Cause) → IsCallers cause → cause ≢ Closed
callers_open Cancelled h = λ q. cc
callers_open TimedOut h = λ q. cc
callers_open Closed h = absurd h
callers_open Superseded h = absurd h
callers_open SurveyOver h = absurd h

same_unshut : (op : OpName) (ending : Ending) (before : List Entry) → IsOfTurn ending → unshut (End op ending ∷ before) ≡ unshut before
same_unshut op (Won r) before h = refl
same_unshut op (Gone Cancelled by) before h = refl
same_unshut op (Gone TimedOut by) before h = refl
same_unshut op (Gone Closed by) before h = absurd (h refl)
same_unshut op (Gone Superseded by) before h = refl
same_unshut op (Gone SurveyOver by) before h = refl

calm_ended : (z : Setting) (op : OpName) (ending : Ending) (before : List Entry) → IsOfTurn ending → Calm z before → Calm z (End op ending ∷ before)
calm_ended z op ending before h calm =
    record {
      condemned_gone = calm.condemned_gone;
      outs_claimed = refl;
      unkept_gone = refl;
      all_shut = same_unshut op ending before h ∙ calm.all_shut;
      closed_all = calm.closed_all;
    }

-- a caller's end is allowed
pub callers_end : (t : Moment) (s : Begun) (cause : Cause) (by : ℕ) → IsCallers cause → 1 ≤ by → by ≤ t.z.callers → MayGo t.z (past t) s cause by
callers_end t s Cancelled by h a b = (a, b)
callers_end t s TimedOut by h a b = (a, b)
callers_end t s Closed by h a b = absurd h
callers_end t s Superseded by h a b = absurd h
callers_end t s SurveyOver by h a b = absurd h

-- ---- What changes nothing for the pipes

why_same : (z : Setting) (op : OpName) (ending : Ending) (before : List Entry) (p : ℕ) (why : Why) (w : WireView) → ShowsWhy z before p why w → ShowsWhy z (End op ending ∷ before) p why w
why_same z op ending before p whys.Ended w h = h
why_same z op ending before p whys.Failed w h = h
why_same z op ending before p whys.Malformed w h = h
why_same z op ending before p whys.Refusal w h = h
why_same z op ending before p whys.Closed w h = h
why_same z op ending before p whys.NoMemory w h = h

why_begun : (z : Setting) (op : OpName) (k c : ℕ) (act : RecordedAct) (deadline : Option ℕ) (before : List Entry) (p : ℕ) (why : Why) (w : WireView) → ShowsWhy z before p why w → ShowsWhy z (Begin op k c act deadline ∷ before) p why w
why_begun z op k c act deadline before p whys.Ended w h = h
why_begun z op k c act deadline before p whys.Failed w h = h
why_begun z op k c act deadline before p whys.Malformed w h = h
why_begun z op k c act deadline before p whys.Refusal w h = h
why_begun z op k c act deadline before p whys.Closed w h = h
why_begun z op k c act deadline before p whys.NoMemory w h = h

module _ {W : Type 0} (shown : W → WireView) where
  pub pipes_ended : (l : Pipes W) (t : Moment) (op : OpName) (ending : Ending) → PipesStand shown l t → PipesStand shown l (also t (End op ending))
  pipes_ended l t op ending h =
      record {
        up_is = h.up_is;
        up_wires = λ i d m. let q = h.up_wires i d m in record { agrees = q.agrees; is_open = q.is_open };
        down_is = h.down_is;
        down_wires = λ i d m. let q = h.down_wires i d m in record { agrees = q.agrees; why_is = q.why_is; shows = why_same t.z op ending (past t) _ _ _ q.shows };
        in_order = h.in_order;
        limits = h.limits;
        count_is = h.count_is;
        down_room = h.down_room;
        few = h.few;
        marks = h.marks;
      }

  pub pipes_begun : (l : Pipes W) (t : Moment) (op : OpName) (k c : ℕ) (act : RecordedAct) (deadline : Option ℕ) → PipesStand shown l t → PipesStand shown l (also t (Begin op k c act deadline))
  pipes_begun l t op k c act deadline h =
      record {
        up_is = h.up_is;
        up_wires = λ i d m. let q = h.up_wires i d m in record { agrees = q.agrees; is_open = q.is_open };
        down_is = h.down_is;
        down_wires = λ i d m. let q = h.down_wires i d m in record { agrees = q.agrees; why_is = q.why_is; shows = why_begun t.z op k c act deadline (past t) _ _ _ q.shows };
        in_order = h.in_order;
        limits = h.limits;
        count_is = h.count_is;
        down_room = h.down_room;
        few = h.few;
        marks = h.marks;
      }

module _ {P W : Type 0} (ties : P → Moment → Type 0) (room : P → ℕ) (shown : W → WireView) where
  pub ended : (c d : Core P W) (t : Moment) (op : OpName) (s : Begun) (ending : Ending) → Owns ties room shown [] c t → pending (past t) op ≡ Some s → MayEndAs t.z (past t) ending s → IsOfTurn ending
      → ties d.proto (also t (End op ending)) → OpWordsStand d.op_words (also t (End op ending)) → OperationsStand [] d.operations (also t (End op ending)) → d.pipes ≡ c.pipes → Tallies d.tally (also t (End op ending)) → d.closed ≡ c.closed → length d.operations.free.items + done_count d.operations ≤ room d.proto
      → Owns ties room shown [] d (also t (End op ending))
  ended c d t op s ending g p m h pr de sh li ta cl ro =
      record {
        lawful = may_end t op s ending g.lawful g.calm p m;
        calm = calm_ended t.z op ending (past t) h g.calm;
        proto = pr;
        op_words = de;
        operations = sh;
        pipes = rw li (pipes_ended shown c.pipes t op ending g.pipes);
        tally = ta;
        closed = g.closed ∙ sym cl;
        room_is = omega (arith, ro);
      }

  -- only the machine has changed, and stands for the same moment
  pub with_proto : (drawn : List ℕ) (c : Core P W) (p : P) (t : Moment) → Owns ties room shown drawn c t → ties p t → room c.proto ≤ room p → Owns ties room shown drawn (record c { proto = p }) t
  with_proto drawn c p t g h r =
      record {
        lawful = g.lawful;
        calm = g.calm;
        proto = h;
        op_words = g.op_words;
        operations = g.operations;
        pipes = g.pipes;
        tally = g.tally;
        closed = g.closed;
        room_is = omega (arith, g.room_is, r);
      }

-- ---- Later moments

pub settling-append : (a b : List Entry) → AreSettling a → AreSettling b → AreSettling (a ++ b)
settling-append [] b h k = k
settling-append (e ∷ a) b h k = (h.0, settling-append a b h.1 k)

pub later-now : (t : Moment) → Later t t
later-now t = ([], tt, refl)

pub later-one : (t : Moment) (e : Entry) → IsSettling e → Later t (also t e)
later-one t e h = (e ∷ [], (h, tt), refl)

pub later-two : (t : Moment) (d e : Entry) → IsSettling d → IsSettling e → Later t (also (also t d) e)
later-two t d e h k = (e ∷ d ∷ [], (k, (h, tt)), refl)

pub later-trans : (t u v : Moment) → Later t u → Later u v → Later t v
later-trans t u v a b =
    (b.0 ++ a.0, settling-append b.0 a.0 b.1 a.1, b.2 ∙ ap (λ (x : Moment). with_entries x b.0) a.2 ∙ ap (λ xs. record { z = t.z; caller = t.caller; before = t.before; turn = xs }) (sym (append_assoc b.0 a.0 t.turn)))

-- ---- What an operation returns

pub back_is : (act : RecordedAct) (r : Option MessageView) → option_map text_of r ≡ message_of act → r ≡ back_of act
back_is Recv None h = refl
back_is Recv (Some m) h = cc
back_is (Send m) None h = cc
back_is (Send m) (Some v) h = let same : text_of v ≡ m = cc in ap (λ (x : RecordedMessage). Some (view_of x)) same

pub some_of : (r : Option MessageView) (m : RecordedMessage) → option_map text_of r ≡ Some m → (v : MessageView) × (r ≡ Some v)
some_of None m h = cc
some_of (Some v) m h = (v, refl)

-- ---- A message goes out

pub same_bytes-refl : (xs : List ℕ) → same_bytes xs xs ≡ true
same_bytes-refl [] = refl
same_bytes-refl (x ∷ xs) = let same : nat_eq x x ≡ true = grind (arith, nat_tests) in rw (same, same_bytes-refl xs) refl

sent_here : (t : Moment) (op : OpName) (p : ℕ) (s : Begun) (b : List ℕ) → CanSend t op p s b → is_sent t.z (Out p b ∷ past t) s ≡ true
sent_here t op p s b k = rw (k.one_target, k.target, k.bytes, same_bytes-refl b, k.first) refl

-- only a send has a target
is_a_send : (z : Setting) (before : List Entry) (op : OpName) (act : RecordedAct) (p : ℕ) → has (targets_of z before op act) p ≡ true → not (is_recv act) ≡ true
is_a_send z before op Recv p h = cc
is_a_send z before op (Send m) p h = refl

and_false : (a b : Bool) → b ≡ false → (a && b) ≡ false
and_false true b h = h
and_false false b h = refl

pub full_lawful : (t : Moment) (p : ℕ) → Lawful t → Calm t.z (past t) → has (up (past t)) p ≡ true → Lawful (also t (Full p))
full_lawful t p l calm h = one_more t (Full p) l (record { goes_on = goes t.z (past t) (Full p) calm; after_close = up_open t p (Full p) l h; itself = h }) refl

pub down_lawful : (t : Moment) (p : ℕ) (why : Why) → Lawful t → Calm t.z (past t) → has (up (past t)) p ≡ true → Lawful (also t (Down p why))
down_lawful t p why l calm h = one_more t (Down p why) l (record { goes_on = goes t.z (past t) (Down p why) calm; after_close = up_open t p (Down p why) l h; itself = (h, λ c. let q : false ≡ true = rw calm.condemned_gone at c in absurd cc) }) refl

pub out_lawful : (t : Moment) (p : ℕ) (b : List ℕ) → Lawful t → Calm t.z (past t) → has (up (past t)) p ≡ true → Lawful (also t (Out p b))
out_lawful t p b l calm h = one_more t (Out p b) l (record { goes_on = goes t.z (past t) (Out p b) calm; after_close = up_open t p (Out p b) l h; itself = h }) refl

pub sent_lawful : (t : Moment) (op : OpName) (p : ℕ) (s : Begun) (b : List ℕ) → Lawful t → Calm t.z (past t) → CanSend t op p s b → Lawful (also (also t (Out p b)) (End op (Won Sent)))
sent_lawful t op p s b l calm can =
    one_more (also t (Out p b)) (End op (Won Sent)) (out_lawful t p b l calm can.is_up) (record {
      goes_on = or_true _;
      after_close = pending_open t op s (End op (Won Sent)) l can.pending;
      itself = rw can.pending (is_a_send t.z (past t) s.op s.act p can.target, sent_here t op p s b can);
    }) refl

pub not_closing : (z : Setting) (p : ℕ) (why : Why) (before : List Entry) → why ≢ whys.Closed → is_closing (Down p why ∷ before) ≡ is_closing before
not_closing z p whys.Ended before n = refl
not_closing z p whys.Failed before n = refl
not_closing z p whys.Malformed before n = refl
not_closing z p whys.Refusal before n = refl
not_closing z p whys.Closed before n = absurd (n refl)
not_closing z p whys.NoMemory before n = refl

module _ {P W : Type 0} (ties : P → Moment → Type 0) (room : P → ℕ) (shown : W → WireView) where
  -- only the words have changed, and stand for the same moment
  pub with_op_words : (drawn : List ℕ) (c : Core P W) (d : OpWords) (t : Moment) → Owns ties room shown drawn c t → OpWordsStand d t → Owns ties room shown drawn (record c { op_words = d }) t
  with_op_words drawn c d t g h =
      record { lawful = g.lawful; calm = g.calm; proto = g.proto; op_words = h; operations = g.operations; pipes = g.pipes; tally = g.tally; closed = g.closed; room_is = g.room_is }

  -- only the pipes have changed
  pub with_pipes : (drawn : List ℕ) (c : Core P W) (l : Pipes W) (t : Moment) → Owns ties room shown drawn c t → PipesStand shown l t → Owns ties room shown drawn (record c { pipes = l }) t
  with_pipes drawn c l t g h =
      record { lawful = g.lawful; calm = g.calm; proto = g.proto; op_words = g.op_words; operations = g.operations; pipes = h; tally = g.tally; closed = g.closed; room_is = g.room_is }

  -- the pipe was found full
  pub found_full : (c d : Core P W) (t : Moment) (p : ℕ) → Owns ties room shown [] c t → has (up (past t)) p ≡ true → ties d.proto (also t (Full p)) → room c.proto ≤ room d.proto → PipesStand shown d.pipes (also t (Full p)) → Tallies d.tally (also t (Full p)) → d.op_words ≡ c.op_words → d.operations ≡ c.operations → d.closed ≡ c.closed
      → Owns ties room shown [] d (also t (Full p))
  found_full c d t p g h pr ro li ta de sh cl =
      record {
        lawful = full_lawful t p g.lawful g.calm h;
        calm = record { condemned_gone = g.calm.condemned_gone; outs_claimed = and_false (floods t.z.role) _ g.calm.outs_claimed; unkept_gone = refl; all_shut = g.calm.all_shut; closed_all = g.calm.closed_all };
        proto = pr;
        op_words = rw de g.op_words;
        operations = rw sh g.operations;
        pipes = li;
        tally = ta;
        closed = g.closed ∙ sym cl;
        room_is = omega (arith, g.room_is, ro, ap (λ x. length x.free.items) sh, ap done_count sh);
      }

  -- the pipe went down
  pub went_down : (c d : Core P W) (t : Moment) (p : ℕ) (why : Why) → Owns ties room shown [] c t → has (up (past t)) p ≡ true → why ≢ whys.Closed → ties d.proto (also t (Down p why)) → room c.proto ≤ room d.proto → PipesStand shown d.pipes (also t (Down p why)) → Tallies d.tally (also t (Down p why)) → d.op_words ≡ c.op_words → d.operations ≡ c.operations → d.closed ≡ c.closed
      → Owns ties room shown [] d (also t (Down p why))
  went_down c d t p why g h n pr ro li ta de sh cl =
      record {
        lawful = down_lawful t p why g.lawful g.calm h;
        calm = record { condemned_gone = ap (λ xs. without xs p) g.calm.condemned_gone; outs_claimed = and_false (floods t.z.role) _ g.calm.outs_claimed; unkept_gone = refl; all_shut = g.calm.all_shut; closed_all = not_closing t.z p why (past t) n ∙ g.calm.closed_all };
        proto = pr;
        op_words = rw de g.op_words;
        operations = rw sh g.operations;
        pipes = li;
        tally = ta;
        closed = g.closed ∙ sym cl;
        room_is = omega (arith, g.room_is, ro, ap (λ x. length x.free.items) sh, ap done_count sh);
      }

  -- the message was put on the pipe, and the send has ended
  pub sent : (c d : Core P W) (t : Moment) (op : OpName) (p : ℕ) (s : Begun) (b : List ℕ) → Owns ties room shown [] c t → CanSend t op p s b → ties d.proto (also (also t (Out p b)) (End op (Won Sent))) → OpWordsStand d.op_words (also t (End op (Won Sent))) → OperationsStand [] d.operations (also t (End op (Won Sent))) → PipesStand shown d.pipes (also t (Out p b)) → Tallies d.tally (also (also t (Out p b)) (End op (Won Sent))) → d.closed ≡ c.closed → length d.operations.free.items + done_count d.operations ≤ room d.proto
      → Owns ties room shown [] d (also (also t (Out p b)) (End op (Won Sent)))
  sent c d t op p s b g can pr de sh li ta cl ro =
      record {
        lawful = sent_lawful t op p s b g.lawful g.calm can;
        calm = record { condemned_gone = g.calm.condemned_gone; outs_claimed = refl; unkept_gone = refl; all_shut = g.calm.all_shut; closed_all = g.calm.closed_all };
        proto = pr;
        op_words = de;
        operations = sh;
        pipes = pipes_ended shown d.pipes (also t (Out p b)) op (Won Sent) li;
        tally = ta;
        closed = g.closed ∙ sym cl;
        room_is = omega (arith, ro);
      }

pub none_left : (r : Option MessageView) (P : MessageView → Type 0) → MatchOption r ⊥ P → ((m : MessageView) → r ≡ Some m → ⊥) → ⊥
none_left None P h n = h
none_left (Some m) P h n = n m refl

-- the decision is a caller's
pub is_gone : (made : Decision) (cause : Cause) (by : ℕ) (op : OpName) (t : Moment) (d : OpWords) → made ≡ decision.Gone cause by → DecidedAs made op t d → DecidedAs (decision.Gone cause by) op t d
is_gone made cause by op t d e h = subst (λ (x : Decision). DecidedAs x op t d) e h

-- A receive is begun, won and collected in one turn.
use Rattle.std.proofs.Common.{◌≡◌, refl, ap, sym, ◌∙◌, subst, List, [], ◌∷◌, ◌++◌, ℕ, suc, ◌+◌, ◌<◌, ◌≤◌, Bool, true, false, cond, arith, Option, Some, None, length, append_assoc, append-nil, inl, inr}
use Rattle.std.specs.Prelude.{not, find, ◌&&◌, ◌||◌, ◌==◌, ◌⊎◌, IsTrue, Result, Ok, Err}
use Rattle.std.specs.Option.{option_map, is_some}
use Rattle.std.specs.List.{list_any, list_all}
use Rattle.std.proofs.lemmas.Bool.{or_parts}
use Rattle.std.proofs.lemmas.Bool.Decides.{nat_tests}
use Rattle.turn_lock.specs.declared.turn.Turn.{Turn}
use Rattle.sp_base.specs.declared.OpName.{OpName}
use Rattle.sp_base.specs.declared.role.Role.{Role}
use Rattle.sp_base.specs.declared.role.Role.TheVariants as role
use Rattle.sp_msg.specs.Views.{WireView, MessageView}
use Rattle.aio_word.specs.Views.{Stands}
use Rattle.sp_history.specs.declared.setting.Setting.{Setting}
use Rattle.sp_history.specs.declared.entry.RecordedAct.TheVariants.{Recv}
use Rattle.sp_history.specs.declared.entry.Cause.{Cause}
use Rattle.sp_history.specs.declared.entry.Ending.{Ending}
use Rattle.sp_history.specs.declared.entry.Ending.TheVariants.{Won, Gone}
use Rattle.sp_history.specs.declared.entry.Completion.TheVariants.{Received, Sent}
use Rattle.sp_history.specs.declared.entry.Entry.{Entry}
use Rattle.sp_history.specs.declared.entry.Entry.TheVariants.{Begin, End, Took}
use Rattle.sp_history.specs.declared.parts.Begun.{Begun}
use Rattle.sp_history.specs.declared.parts.OperationEnd.{OperationEnd}
use Rattle.sp_history.specs.declared.parts.Item.{Item}
use Rattle.sp_history.specs.declared.parts.Orphan.{Orphan}
use Rattle.sp_history.specs.Lists.{is_nil, head_of, same_op}
use Rattle.sp_history.specs.Setting.{has_requests}
use Rattle.sp_history.specs.Past.{pend, pending, uncollected, is_of, caller_of, onto, past_of}
use Rattle.sp_history.specs.Once.{took_count, begin_count}
use Rattle.sp_history.specs.Kept.{kept}
use Rattle.sp_history.specs.Requests.{requests, live_on}
use Rattle.sp_history.specs.Legal.{is_recv, is_recv_on, is_at, is_state, state_for, Allowed}
use Rattle.sp_history.specs.Settled.{receive_settled}
use Rattle.sp_history.specs.Moments.{Moment, Lawful, past, also, turn_of}
use Rattle.sp_history.proofs.LegalTurns.{stands_in}
use Rattle.sp_history.proofs.OnceHolds.{same_op-refl, same_op-slot, same_op-eq}
use Rattle.sp_proto.specs.Kinds.{text_of}
use Rattle.sp_proto.specs.Machines.{CanGive, IsIdle}
use Rattle.sp_core.specs.Collecting.{IsOpenBefore}
use Rattle.sp_history.specs.declared.entry.RecordedMessage.{RecordedMessage}
use Rattle.sp_core.specs.declared.owner.Core.{Core}
use Rattle.core_state.specs.declared.operations.Operations.{Operations}
use Rattle.core_state.specs.declared.outcome.Outcome.TheVariants as out
use Rattle.core_state.specs.Ends.{outcome_of, view_of}
use Rattle.core_state.specs.OperationsStand.{OperationsStand, done_count, AllTaken}
use Rattle.core_state.proofs.Lawfuls.{by_steps, counted}
use Rattle.sp_core.specs.Immediate.{IsGiven, IsCallersEnd, AreLost, HasLost, RefusedNow, ReceivedNow, LostTo, TriedTo, NowTo, tried}
use Rattle.sp_core.specs.Moving.{AreSettling, Later}
use Rattle.aio_word.specs.declared.phase.Phase.TheVariants as phase
use Rattle.aio_word.specs.declared.rule.ShownOperation as word
use Rattle.aio_word.specs.Results.{of_op}
use Rattle.core_state.specs.declared.causes.NowError.{NowError}
use Rattle.sp_core.specs.Looking.{HasLooked, ends_in}
use Rattle.core_state.specs.Reads.{Grows}
use Rattle.sp_core.specs.Owning.{Owns, CanBegin}
use Rattle.core_state.specs.OpWordsStand.{IsNext}
use Rattle.sp_core.specs.Standing.{StandsFor, Turns, IsSettled}
use Rattle.sp_core.proofs.ContextLooks.{looked_in_order, stands_left}
use Rattle.core_state.proofs.FreedSlots.{ended_at, weight, ended_at-append, one_at}
use Rattle.sp_core.proofs.TurnEnds.{later_z, later_caller, later_before, later_turn, settling-order, goes_on, turn_ends}

-- ---- The receive can be given what is kept

both_not : (a b : Bool) → (not a && not b) ≡ true → (a ≡ false) × (b ≡ false)
both_not true b h = absurd cc
both_not false true h = absurd cc
both_not false false h = (refl, refl)

none_named : (ss : List Begun) (op : OpName) → list_any (is_at op.slot) ss ≡ false → find (is_of op) ss ≡ None
none_named [] op h = refl
none_named (s ∷ ss) op h =
    let parts = or_parts (is_at op.slot s) (list_any (is_at op.slot) ss) h in
    go (is_of op s) refl parts.0 (none_named ss op parts.1)
  where
    go : (b : Bool) → is_of op s ≡ b → is_at op.slot s ≡ false → find (is_of op) ss ≡ None → cond b (Some s) (find (is_of op) ss) ≡ None
    go true e n again =
        let same : s.op.slot ≡ op.slot = same_op-slot s.op op e in
        absurd (apart s.op.slot op.slot same n)
      where
        apart : (m n : ℕ) → m ≡ n → (m == n) ≡ false → ⊥
        apart m n e h = grind (arith, nat_tests)
    go false e n again = again

find_last : (p : Begun → Bool) (ss : List Begun) (s : Begun) → find p ss ≡ None → p s ≡ true → find p (ss ++ s ∷ []) ≡ Some s
find_last p [] s n h = ap (λ (b : Bool). cond b (Some s) None) h
find_last p (x ∷ xs) s n h = go (p x) n (find_last p xs s)
  where
    go : (b : Bool) → cond b (Some x) (find p xs) ≡ None → (find p xs ≡ None → p s ≡ true → find p (xs ++ s ∷ []) ≡ Some s) → cond b (Some x) (find p (xs ++ s ∷ [])) ≡ Some s
    go true n again = absurd cc
    go false n again = again n h

none_on : (z : Setting) (before : List Entry) (c : ℕ) (ss : List Begun) → list_all (receive_settled z before) ss ≡ true → is_nil (kept z before c) ≡ false → find (is_recv_on c) ss ≡ None
none_on z before c [] h n = refl
none_on z before c (s ∷ ss) h n = go (is_recv s.act) refl (s.ctx == c) refl h (none_on z before c ss)
  where
    go : (r : Bool) → is_recv s.act ≡ r → (b : Bool) → (s.ctx == c) ≡ b → ((not r || is_nil (kept z before s.ctx)) && list_all (receive_settled z before) ss) ≡ true
        → (list_all (receive_settled z before) ss ≡ true → is_nil (kept z before c) ≡ false → find (is_recv_on c) ss ≡ None) → cond (r && b) (Some s) (find (is_recv_on c) ss) ≡ None
    go true e true k h again =
        let same : s.ctx ≡ c = equal s.ctx c k in
        absurd (no (is_nil (kept z before s.ctx)) (ap (λ (d : ℕ). is_nil (kept z before d)) same ∙ n) h)
      where
        equal : (a b : ℕ) → (a == b) ≡ true → a ≡ b
        equal a b h = grind (arith, nat_tests)

        no : (b : Bool) → b ≡ false → (b && list_all (receive_settled z before) ss) ≡ true → ⊥
        no true q h = cc
        no false q h = cc
    go true e false k h again = again (rest (is_nil (kept z before s.ctx)) h) n
      where
        rest : (b : Bool) → (b && list_all (receive_settled z before) ss) ≡ true → list_all (receive_settled z before) ss ≡ true
        rest true h = h
        rest false h = absurd cc
    go false e b k h again = again h n

-- a role with requests has one of the context where it doesn't refuse a receive
has_live : (z : Setting) (before : List Entry) (c : ℕ) → IsTrue (has_requests z) → is_state z before c Recv ≡ false → is_some (live_on z before c) ≡ true
has_live z before c r n = go z.role z.raw r n
  where
    live : (a b : Bool) → ((not a || b) && true) ≡ false → a ≡ true
    live true b h = refl
    live false b h = absurd cc

    alone : (a : Bool) → (not a && true) ≡ false → a ≡ true
    alone true h = refl
    alone false h = absurd cc

    go : (ro : Role) (raw : Bool) → has_requests (record z { role = ro; raw = raw }) ≡ true → (state_for ro z before c Recv && not raw) ≡ false → is_some (live_on z before c) ≡ true
    go role.Req false h k = live _ _ k
    go role.Surveyor false h k = alone _ k
    go role.Req true h k = absurd cc
    go role.Surveyor true h k = absurd cc
    go role.Pair0 raw h k = absurd cc
    go role.Pair1 raw h k = absurd cc
    go role.Pub raw h k = absurd cc
    go role.Sub raw h k = absurd cc
    go role.Rep raw h k = absurd cc
    go role.Push raw h k = absurd cc
    go role.Pull raw h k = absurd cc
    go role.Respondent raw h k = absurd cc
    go role.Bus raw h k = absurd cc

some_kept : (is : List Item) → is_nil is ≡ false → (i : Item) × (option_map (λ (x : Item). x.message) (head_of is) ≡ Some i.message)
some_kept [] h = absurd cc
some_kept (i ∷ is) h = (i, refl)

abbrev pub now_begun : OpName → ℕ → Begun
now_begun op c = record { op = op; ctx = c; act = Recv }

pub can_now : (t : Moment) (op : OpName) (c : ℕ) → IsIdle t → CanBegin t c Recv → IsNext t op → is_nil (kept t.z (past t) c) ≡ false → (i : Item) × CanGive (also t (Begin op t.caller c Recv None)) op (now_begun op c) i.message
can_now t op c idle can next n =
    let ss = pend (past t) in
    let one = some_kept (kept t.z (past t) c) n in
    let unnamed = none_named ss op (both_not _ _ next.free).0 in
    let alone = none_on t.z (past t) c ss idle.settled.receives n in (
      one.0,
      record {
        pending = find_last (is_of op) ss (now_begun op c) unnamed (same_op-refl op);
        may = record {
          is_receive = refl;
          first_pending = ap (option_map (λ (s : Begun). s.op)) (find_last (is_recv_on c) ss (now_begun op c) alone (same c));
          oldest = one.1;
          live = λ r. no_orphan (requests t.z (past t)).orphans idle.settled.finished (has_live t.z (past t) c r can.no_state);
        };
      },
    )
  where
    same : (n : ℕ) → (true && (n == n)) ≡ true
    same n = grind (arith, nat_tests)

    no_orphan : (os : List Orphan) → os ≡ [] → is_some (live_on t.z (past t) c) ≡ true → is_some (cond (list_any (λ (o : Orphan). same_op o.op op) os) None (live_on t.z (past t) c)) ≡ true
    no_orphan [] e h = h
    no_orphan (o ∷ os) e h = absurd cc

-- ---- The receive is its caller's

caller_begun : (before : List Entry) (op : OpName) (k : ℕ) → caller_of before op ≡ Some k → 1 ≤ begin_count before op
caller_begun [] op k h = absurd cc
caller_begun (Begin other j c a d ∷ before) op k h = go (same_op other op) h (caller_begun before op k)
  where
    go : (b : Bool) → cond b (Some j) (caller_of before op) ≡ Some k → (caller_of before op ≡ Some k → 1 ≤ begin_count before op) → 1 ≤ cond b (begin_count before op + 1) (begin_count before op)
    go true h again = omega arith
    go false h again = again h
caller_begun (_ ∷ before) op k h = caller_begun before op k h

abbrev Untaken : OpName → List Entry → Type 0
Untaken op before = begin_count before op ≡ 0 → took_count before op ≡ 0

untaken_next : (z : Setting) (op : OpName) (k : ℕ) (before : List Entry) (e : Entry) → Untaken op before → Allowed z k before e → Untaken op (e ∷ before)
untaken_next z op k before (Begin other j c a d) h l = λ n. h (less (same_op other op) n)
  where
    less : (b : Bool) → cond b (begin_count before op + 1) (begin_count before op) ≡ 0 → begin_count before op ≡ 0
    less true n = omega (arith, n)
    less false n = n
untaken_next z op k before (Took other j) h l = λ n. go (same_op other op) refl n (caller_begun before other k l.itself.1) (h n)
  where
    go : (b : Bool) → same_op other op ≡ b → begin_count before op ≡ 0 → 1 ≤ begin_count before other → took_count before op ≡ 0 → cond b (took_count before op + 1) (took_count before op) ≡ 0
    go true e n c m =
        let is : begin_count before other ≡ 0 = ap (begin_count before) (same_op-eq other op e) ∙ n in
        absurd (omega (arith, is, c))
    go false e n c m = m
untaken_next z op k before _ h l = h

none_begun : (n g b : ℕ) → (0 < n → g ≤ b) → g ≡ b + 1 → n ≡ 0
none_begun n g b h e = grind arith

pub open_now : (t : Moment) (op : OpName) (c : ℕ) (ending : Ending) → Lawful t → IsNext t op → IsOpenBefore t.caller op (past (also (also t (Begin op t.caller c Recv None)) (End op ending)))
open_now t op c ending l next =
    let fresh : begin_count (past t) op ≡ 0 = none_begun _ _ _ (counted t op l).2 next.generation in
    (ap (λ (b : Bool). cond b (Some t.caller) (caller_of (past t) op)) (same_op-refl op), by_steps t (Untaken op) (λ n. refl) (untaken_next t.z op) l fresh)

pub slot_left : (t : Moment) (op : OpName) → IsNext t op → AllTaken t.z (past t) → ⊥
slot_left t op n all = elim (all op.slot n.inside) [
  | inl f ↦ let q : true ≡ false = sym n.free ∙ f in absurd cc
  | inr w ↦ let g = n.generation in let m = n.not_worn in absurd (omega (arith, g, m, w))
]

module _ {P W : Type 0} (ties : P → Moment → Type 0) (room : P → ℕ) (shown : W → WireView) where
  -- the slot that was drawn is returned
  pub goes_back : (c : Core P W) (s : Operations) (slot : ℕ) (t : Moment) → Owns ties room shown (slot ∷ []) c t → OperationsStand [] s t → (length s.free.items ≡ length c.operations.free.items + 1) × (done_count s ≡ done_count c.operations) → Owns ties room shown [] (record c { operations = s }) t
  goes_back c s slot t g sh same = record { lawful = g.lawful; calm = g.calm; proto = g.proto; op_words = g.op_words; operations = sh; pipes = g.pipes; tally = g.tally; closed = g.closed; room_is = omega (arith, g.room_is, same.0, same.1) }

-- ---- Its outcome

none_at : (i : ℕ) (es : List OperationEnd) (e : OperationEnd) → ended_at i es ≡ 0 → Stands e es → is_at i e.begun ≡ true → ⊥
none_at i [] e n s h = s
none_at i (x ∷ xs) e n (inl s) h = go (is_at i x.begun) (ap (λ (y : OperationEnd). is_at i y.begun) s ∙ h) n
  where
    go : (b : Bool) → b ≡ true → cond b (ended_at i xs + 1) (ended_at i xs) ≡ 0 → ⊥
    go true e n = omega (arith, n)
    go false e n = cc
none_at i (x ∷ xs) e n (inr s) h = go (is_at i x.begun) n (none_at i xs e)
  where
    go : (b : Bool) → cond b (ended_at i xs + 1) (ended_at i xs) ≡ 0 → (ended_at i xs ≡ 0 → Stands e xs → is_at i e.begun ≡ true → ⊥) → ⊥
    go true n again = omega (arith, n)
    go false n again = again n s h

at_last : (i : ℕ) (es : List OperationEnd) (x e : OperationEnd) → ended_at i es ≡ 0 → is_at i e.begun ≡ true → Stands e (es ++ x ∷ []) → e ≡ x
at_last i [] x e n h (inl s) = sym s
at_last i [] x e n h (inr s) = absurd s
at_last i (y ∷ ys) x e n h (inl s) = absurd (none_at i (y ∷ ys) e n (inl s) h)
at_last i (y ∷ ys) x e n h (inr s) = go (is_at i y.begun) n (λ m. at_last i ys x e m h s)
  where
    go : (b : Bool) → cond b (ended_at i ys + 1) (ended_at i ys) ≡ 0 → (ended_at i ys ≡ 0 → e ≡ x) → e ≡ x
    go true n again = absurd (omega (arith, n))
    go false n again = again n

-- the operation that ended last, and was not collected
pub the_last : (t : Moment) (op : OpName) (s : Begun) (ending : Ending) (e : OperationEnd) → Lawful (also t (End op ending)) → pending (past t) op ≡ Some s → s.op ≡ op → Stands e (uncollected (past (also t (End op ending)))) → e.begun.op ≡ op → e ≡ record { begun = s; ending = ending }
the_last t op s ending e l p named st same =
    let x : OperationEnd = record { begun = s; ending = ending } in
    let i = op.slot in
    let shape : uncollected (past (also t (End op ending))) ≡ uncollected (past t) ++ x ∷ [] = rw p refl in
    let here : is_at i s ≡ true = subst (λ (o : OpName). (o.slot == i) ≡ true) (sym named) (equal i) in
    let most = one_at (also t (End op ending)) i l in
    let count : ended_at i (uncollected (past (also t (End op ending)))) ≡ ended_at i (uncollected (past t)) + 1 = ap (ended_at i) shape ∙ ended_at-append i (uncollected (past t)) x ∙ ap (λ (b : Bool). ended_at i (uncollected (past t)) + weight b) here in
    let none : ended_at i (uncollected (past t)) ≡ 0 = omega (arith, most, count) in
    at_last i (uncollected (past t)) x e none (subst (λ (o : OpName). (o.slot == i) ≡ true) (sym same) (equal i)) (subst (Stands e) shape st)
  where
    equal : (n : ℕ) → (n == n) ≡ true
    equal n = grind (arith, nat_tests)

-- ---- The turn

order_of : (es turn : List Entry) (b e k : Entry) → onto (es ++ k ∷ e ∷ b ∷ turn) [] ≡ onto turn [] ++ b ∷ e ∷ k ∷ onto es []
order_of es turn b e k = stands_in es k (e ∷ b ∷ turn) ∙ ap (λ (xs : List Entry). xs ++ k ∷ onto es []) (stands_in [] e (b ∷ turn) ∙ ap (λ (xs : List Entry). xs ++ e ∷ []) (stands_in [] b turn)) ∙ tidy (onto turn [])
  where
    tidy : (xs : List Entry) → ((xs ++ b ∷ []) ++ e ∷ []) ++ k ∷ onto es [] ≡ xs ++ b ∷ e ∷ k ∷ onto es []
    tidy [] = refl
    tidy (x ∷ xs) = ap (λ (ys : List Entry). x ∷ ys) (tidy xs)

pub try_order : (t u : Moment) (op : OpName) (c : ℕ) (ending : Ending) → (l : Later (tried t op c ending) u) → onto u.turn [] ≡ onto t.turn [] ++ Begin op t.caller c Recv None ∷ End op ending ∷ Took op t.caller ∷ onto l.0 []
try_order t u op c ending l = ap (λ (xs : List Entry). onto xs []) (later_turn (tried t op c ending) u l) ∙ order_of l.0 t.turn (Begin op t.caller c Recv None) (End op ending) (Took op t.caller)

pub lost_none : (c : ℕ) (t : Moment) → LostTo c t t
lost_none c t = record { same = refl; count = 0; lost = []; entries = sym (append-nil (onto t.turn [])); are_lost = refl }

later_same : (t u : Moment) (op : OpName) (c : ℕ) (ending : Ending) → Later (tried t op c ending) u → u ≡ record { z = t.z; caller = t.caller; before = t.before; turn = u.turn }
later_same t u op c ending l = λ i. record { z = later_z (tried t op c ending) u l i; caller = later_caller (tried t op c ending) u l i; before = later_before (tried t op c ending) u l i; turn = u.turn }

pub lost_more : (c : ℕ) (t v u : Moment) → LostTo c t v → TriedTo (let r : Result (Option MessageView) _ = Ok None in r) c v u → LostTo c t u
lost_more c t v u s r =
    let same : u ≡ record { z = t.z; caller = t.caller; before = t.before; turn = u.turn } = later_same v u r.0 c (Gone r.1 r.2) r.4 ∙ ap (λ (x : Moment). let y : Moment = record { z = x.z; caller = x.caller; before = x.before; turn = u.turn } in y) s.same in
    let caller : v.caller ≡ t.caller = ap (λ (x : Moment). x.caller) s.same in
    let z_is : v.z ≡ t.z = ap (λ (x : Moment). x.z) s.same in
    let last : List Entry = Begin r.0 v.caller c Recv None ∷ End r.0 (Gone r.1 r.2) ∷ Took r.0 v.caller ∷ onto r.4.0 [] in
    record {
      same = same;
      count = suc s.count;
      lost = s.lost ++ last;
      entries = try_order v u r.0 c (Gone r.1 r.2) r.4 ∙ ap (λ (xs : List Entry). xs ++ last) s.entries ∙ append_assoc (onto t.turn []) s.lost last;
      are_lost = (
        s.lost,
        last,
        refl,
        s.are_lost,
        record {
          op = r.0;
          cause = r.1;
          by = r.2;
          late = onto r.4.0 [];
          entries = ap (λ (k : ℕ). Begin r.0 k c Recv None ∷ End r.0 (Gone r.1 r.2) ∷ Took r.0 k ∷ onto r.4.0 []) caller;
          by_caller = subst (λ (z : Setting). IsCallersEnd z.callers r.1 r.2) z_is r.3;
          late_settles = settling-order r.4.0 r.4.1;
        },
      );
    }

-- ---- What a try returns

module _ (t u : Moment) (op : OpName) (c callers : ℕ) (im : RecordedMessage) (ending : Ending) where
  pub got : (m : MessageView) → IsGiven callers im ending → out.Received m ≡ outcome_of (now_begun op c) ending → Later (tried t op c ending) u → Later (tried t op c (Won (Received (text_of m)))) u
  got m h e l = go ending h e l
    where
      same : (i : RecordedMessage) → out.Received m ≡ out.Received (view_of i) → i ≡ text_of m
      same i q = ap text_of (λ j. view j)
        where
          view : view_of i ≡ m
          view = cc

      go : (en : Ending) → IsGiven callers im en → out.Received m ≡ outcome_of (now_begun op c) en → Later (tried t op c en) u → Later (tried t op c (Won (Received (text_of m)))) u
      go (Won (Received i)) h e l = subst (λ (x : RecordedMessage). Later (tried t op c (Won (Received x))) u) (same i e) l
      go (Won Sent) h e l = absurd cc
      go (Gone cause by) h e l = absurd cc

  pub missed : (cause : Cause) (by : ℕ) (back : Option MessageView) → IsGiven callers im ending → out.Gone cause by back ≡ outcome_of (now_begun op c) ending → Later (tried t op c ending) u → (why : Cause) × (k : ℕ) × IsCallersEnd callers why k × Later (tried t op c (Gone why k)) u
  missed cause by back h e l = go ending h e l
    where
      go : (en : Ending) → IsGiven callers im en → out.Gone cause by back ≡ outcome_of (now_begun op c) en → Later (tried t op c en) u → (why : Cause) × (k : ℕ) × IsCallersEnd callers why k × Later (tried t op c (Gone why k)) u
      go (Won (Received i)) h e l = absurd cc
      go (Won Sent) h e l = absurd cc
      go (Gone why k) h e l = (why, k, h, l)

pub never_sent : (op : OpName) (c callers : ℕ) (im : RecordedMessage) (ending : Ending) → IsGiven callers im ending → out.Sent ≡ outcome_of (now_begun op c) ending → ⊥
never_sent op c callers im (Won (Received i)) h e = cc
never_sent op c callers im (Won Sent) h e = cc
never_sent op c callers im (Gone cause by) h e = cc

-- ---- The whole turn

ends_prefix : (op : OpName) (xs ys : List Entry) → ends_in op xs ≡ true → ends_in op (xs ++ ys) ≡ true
ends_prefix op [] ys h = absurd cc
ends_prefix op (End other ending ∷ xs) ys h = go (same_op other op) h (ends_prefix op xs ys)
  where
    go : (b : Bool) → (b || ends_in op xs) ≡ true → (ends_in op xs ≡ true → ends_in op (xs ++ ys) ≡ true) → (b || ends_in op (xs ++ ys)) ≡ true
    go true h again = refl
    go false h again = again h
ends_prefix op (_ ∷ xs) ys h = ends_prefix op xs ys h

looked_on : (c : ℕ) (before turn more : List Entry) (old mid new : List word.ShownOperation) → HasLooked c before turn old mid → Grows mid new → HasLooked c before (onto turn [] ++ more) old new
looked_on c before turn more old mid new l g =
    let o = looked_in_order c before turn old mid l in
    record {
      more = o.more ++ g.more;
      grew = g.is ∙ ap (λ (xs : List word.ShownOperation). xs ++ g.more) o.grew ∙ append_assoc old o.more g.more;
      each = λ op s p e. go o.more op (o.each op s p e);
    }
  where
    go : (xs : List word.ShownOperation) (op : OpName) → (ends_in op (onto turn []) ≡ true) ⊎ Stands (of_op op phase.Pending 0) xs → (ends_in op (onto turn [] ++ more) ≡ true) ⊎ Stands (of_op op phase.Pending 0) (xs ++ g.more)
    go xs op (inl h) = inl (ends_prefix op (onto turn []) more h)
    go xs op (inr h) = inr (stands_left (of_op op phase.Pending 0) xs g.more h)

module _ {P W : Type 0} (ties : P → Moment → Type 0) (room : P → ℕ) (shown : W → WireView) where
  lost_turns : (c d : Core P W) (h : List (Turn Entry)) (k ctx : ℕ) (t u v : Moment) → Turns ties room shown [] c h k t → LostTo ctx t v → u ≡ record { z = v.z; caller = v.caller; before = v.before; turn = u.turn } → Owns ties room shown [] d u → Turns ties room shown [] d h k u
  lost_turns c d h k ctx t u v s l e g =
      goes_on ties room shown c d [] [] h k t u s (ap (λ (x : Moment). x.z) e ∙ ap (λ (x : Moment). x.z) l.same) (ap (λ (x : Moment). x.before) e ∙ ap (λ (x : Moment). x.before) l.same) (ap (λ (x : Moment). x.caller) e ∙ ap (λ (x : Moment). x.caller) l.same) g

  prefix_lost : (c : Core P W) (h : List (Turn Entry)) (k ctx : ℕ) (z : Setting) (t v : Moment) → Turns ties room shown [] c h k t → AreSettling t.turn → t.z ≡ z → (l : LostTo ctx t v) → HasLost k ctx z.callers (onto t.turn [] ++ l.lost)
  prefix_lost c h k ctx z t v s quiet z_is l = record {
    early = onto t.turn [];
    lost = l.lost;
    count = l.count;
    entries = refl;
    early_settles = settling-order t.turn quiet;
    are_lost = subst (λ (x : Setting). AreLost l.count k ctx x.callers l.lost) z_is (subst (λ (n : ℕ). AreLost l.count n ctx t.z.callers l.lost) s.caller l.are_lost);
  }

  pub received_so : (c d : Core P W) (z : Setting) (h : List (Turn Entry)) (k ctx : ℕ) (t u : Moment) (r : Result MessageView NowError) (old mid new : List word.ShownOperation) → Turns ties room shown [] c h k t → AreSettling t.turn → t.z ≡ z → HasLooked ctx (past_of h) t.turn old mid → Grows mid new
      → Owns ties room shown [] d u → IsSettled u → NowTo r ctx t u
      → (v : Turn Entry) × (v.number ≡ k) × StandsFor ties room shown d (h ++ v ∷ []) × ReceivedNow r z h v k ctx × HasLooked ctx (past_of h) v.entries old new
  received_so c d z h k ctx t u (Ok m) old mid new s quiet z_is looked grew g settled n =
      let v = n.0 in
      let l = n.1 in
      let ending : Ending = Won (Received (text_of m)) in
      let op = n.2.0 in
      let done = turn_ends ties room shown d h k u (lost_turns c d h k ctx t u v s l (later_same v u op ctx ending n.2.1) g) settled in
      let caller : v.caller ≡ k = ap (λ (x : Moment). x.caller) l.same ∙ s.caller in
      let last : List Entry = Begin op v.caller ctx Recv None ∷ End op ending ∷ Took op v.caller ∷ onto n.2.1.0 [] in
      let entries : onto u.turn [] ≡ (onto t.turn [] ++ l.lost) ++ last = try_order v u op ctx ending n.2.1 ∙ ap (λ (xs : List Entry). xs ++ last) l.entries in
      let named : last ≡ Begin op k ctx Recv None ∷ End op ending ∷ Took op k ∷ onto n.2.1.0 [] = ap (λ (j : ℕ). Begin op j ctx Recv None ∷ End op ending ∷ Took op j ∷ onto n.2.1.0 []) caller in (
        turn_of u,
        done.0,
        done.1,
        record {
          prefix = onto t.turn [] ++ l.lost;
          op = op;
          late = onto n.2.1.0 [];
          entries = entries ∙ ap (λ (xs : List Entry). (onto t.turn [] ++ l.lost) ++ xs) named;
          prefix_lost = prefix_lost c h k ctx z t v s quiet z_is l;
          late_settles = settling-order n.2.1.0 n.2.1.1;
        },
        subst (λ (xs : List Entry). HasLooked ctx (past_of h) xs old new) (sym (entries ∙ append_assoc (onto t.turn []) l.lost last)) (looked_on ctx (past_of h) t.turn (l.lost ++ last) old mid new looked grew),
      )
  received_so c d z h k ctx t u (Err e) old mid new s quiet z_is looked grew g settled n =
      let v = n.0 in
      let l = n.1 in
      let same : u ≡ v = n.2.0 in
      let done = turn_ends ties room shown d h k u (lost_turns c d h k ctx t u v s l (same_moment u v same) g) settled in
      let entries : onto u.turn [] ≡ onto t.turn [] ++ l.lost = ap (λ (x : Moment). onto x.turn []) same ∙ l.entries in
      let v_z : v.z ≡ z = ap (λ (x : Moment). x.z) l.same ∙ z_is in
      let at_end : past v ≡ past_of (h ++ turn_of u ∷ []) = ap past (sym same) ∙ sym done.2 in (
        turn_of u,
        done.0,
        done.1,
        (
          subst (λ (xs : List Entry). HasLost k ctx z.callers xs) (sym entries) (prefix_lost c h k ctx z t v s quiet z_is l),
          subst (λ (xs : List Entry). RefusedNow e z xs ctx) at_end (subst (λ (x : Setting). RefusedNow e x (past v) ctx) v_z n.2.1),
        ),
        subst (λ (xs : List Entry). HasLooked ctx (past_of h) xs old new) (sym entries) (looked_on ctx (past_of h) t.turn l.lost old mid new looked grew),
      )
    where
      same_moment : (a b : Moment) → a ≡ b → a ≡ record { z = b.z; caller = b.caller; before = b.before; turn = a.turn }
      same_moment a b e = λ i. record { z = (e i).z; caller = (e i).caller; before = (e i).before; turn = a.turn }

pub now_z : (r : Result MessageView NowError) (c : ℕ) (t u : Moment) → NowTo r c t u → u.z ≡ t.z
now_z (Ok m) c t u n = later_z (tried n.0 n.2.0 c (Won (Received (text_of m)))) u n.2.1 ∙ ap (λ (x : Moment). x.z) n.1.same
now_z (Err e) c t u n = ap (λ (x : Moment). x.z) n.2.0 ∙ ap (λ (x : Moment). x.z) n.1.same

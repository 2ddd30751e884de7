-- A pull stands for its history after each call.
use Rattle.std.proofs.Common.{◌≡◌, refl, ap, sym, ◌∙◌, subst, List, [], ◌∷◌, ◌++◌, ℕ, ◌+◌, Bool, true, false, cond, arith, Some, None, length, length-append, ◌<◌, ◌≤◌}
use Rattle.std.specs.VecDeque.{deque_capacity}
use Rattle.std.proofs.lemmas.List.{map-append}
use Rattle.sp_msg.specs.Views.{MessageView}
use Rattle.std.specs.Prelude.{Option, map, find, filter, is_some, not, ◌&&◌, ◌||◌, ◌==◌}
use Rattle.std.proofs.lemmas.Bool.Decides.{nat_tests}
use Rattle.std.specs.List.{list_all, list_any}
use Rattle.std.specs.Option.{option_map}
use Rattle.sp_base.specs.declared.OpName.{OpName}
use Rattle.sp_base.specs.declared.role.Role.{Role}
use Rattle.sp_base.specs.declared.role.Role.TheVariants as role
use Rattle.sp_history.specs.declared.setting.Setting.{Setting}
use Rattle.sp_history.specs.declared.entry.Entry.{Entry}
use Rattle.sp_history.specs.declared.entry.Entry.TheVariants.{Up, Down, Frame, Begin, End}
use Rattle.sp_history.specs.declared.entry.Why.{Why}
use Rattle.sp_history.specs.declared.entry.WireNumbers.{WireNumbers}
use Rattle.sp_history.specs.declared.parts.Item.{Item}
use Rattle.sp_history.specs.Frames.{breaks_rule, is_too_long}
use Rattle.sp_history.specs.Once.{AreDistinct}
use Rattle.sp_history.specs.declared.entry.RecordedAct.{RecordedAct}
use Rattle.sp_history.specs.declared.entry.RecordedAct.TheVariants.{Recv, Send}
use Rattle.sp_history.specs.declared.entry.Cause.{Cause}
use Rattle.sp_history.specs.declared.entry.Ending.TheVariants.{Won, Gone}
use Rattle.sp_history.specs.declared.entry.Completion.TheVariants.{Received}
use Rattle.sp_history.specs.declared.entry.RecordedMessage.{RecordedMessage}
use Rattle.sp_history.specs.declared.parts.Begun.{Begun}
use Rattle.sp_history.specs.Setting.{floods, is_reply}
use Rattle.sp_history.specs.Lists.{has, without, head_of, is_nil}
use Rattle.sp_history.specs.Past.{is_of, without_begun, pend, pending, up, ups}
use Rattle.sp_history.specs.Kept.{pool, kept, wanted, is_from, has_none_of, takes, add_for}
use Rattle.sp_history.specs.Frames.{item_of as of_frame}
use Rattle.sp_history.specs.Settled.{receive_settled, has_full}
use Rattle.sp_history.specs.Legal.{is_recv, is_at}
use Rattle.sp_history.specs.Moments.{Moment, Lawful, past, also}
use Rattle.proto_shared.specs.Waits.{Holds, is_receive, is_send}
use Rattle.proto_shared.proofs.Splits.{find_passing, without_passing}
use Rattle.proto_shared.proofs.Firsts.{first_found, passes_first, first_on, no_receives, none_kept, no_sends, first_is, none_first}
use Rattle.sp_proto.specs.declared.Act.{Act as Asked}
use Rattle.sp_proto.specs.declared.Act.TheVariants as asked
use Rattle.sp_proto.specs.Kinds.{Kind, entry_act, text_of}
use Rattle.sp_proto.specs.Machines.{CanGive, CanSend, IsIdle}
use Rattle.proto_pipeline.specs.declared.pull.Pull.{Pull}
use Rattle.proto_pipeline.specs.declared.pull.Kept.{Kept}
use Rattle.proto_pipeline.specs.Sources.{mark_at}
use Rattle.proto_pipeline.specs.Pulls.{Ties, AreSingle, item_of, places_for, receiver_of, mark_of}
use Rattle.proto_pipeline.proofs.Ports.{has_without, has_append}
use Rattle.proto_pipeline.proofs.Sourced.{marks_up, marks_down, marks_frame, marks_given, came_frame, came_given, single_frame, counted_up, counted_down}
use Rattle.proto_pipeline.proofs.Reserved.{places_most, places_up, places_down, places_frame, places_give, apart_more, apart_without}

pub is_pull : (m : Pull) (t : Moment) → Ties m t → t.z.role ≡ role.Pull
is_pull m t h = ap (λ (k : Kind). k.role) h.kind

pub kept_pull : (z : Setting) (before : List Entry) (c : ℕ) → z.role ≡ role.Pull → kept z before c ≡ pool z before 0
kept_pull z before c h = rw h refl

pub any_from : (p : ℕ) (ks : List Kept) → list_any (is_from p) (map item_of ks) ≡ list_any (λ (k : Kept). k.pipe == p) ks
any_from p [] = refl
any_from p (k ∷ ks) = ap (λ b. (k.pipe == p) || b) (any_from p ks)

pub wants_means : (z : Setting) (before : List Entry) (p : ℕ) (ks : List Kept) → z.role ≡ role.Pull → map item_of ks ≡ pool z before 0 → not (list_any (λ (k : Kept). k.pipe == p) ks) ≡ wanted z before p
wants_means z before p ks h e = ap not (sym (any_from p ks)) ∙ ap (has_none_of p) (e ∙ sym (kept_pull z before 0 h)) ∙ rw h refl

-- what is kept of the pipe, as the pull knows it or finds it
pub wants_known : (z : Setting) (before : List Entry) (us : List ℕ) (p : ℕ) (b : Bool) → z.role ≡ role.Pull → Some b ≡ mark_of us (pool z before 0) p → not b ≡ wanted z before p
wants_known z before us p b h e = go (has us p) e
  where
    some_inj : (x y : Bool) → Some x ≡ Some y → x ≡ y
    some_inj x y q = cc

    go : (a : Bool) → Some b ≡ cond a (Some (list_any (is_from p) (pool z before 0))) None → not b ≡ wanted z before p
    go true q = ap not (some_inj _ _ q) ∙ ap (has_none_of p) (sym (kept_pull z before 0 h)) ∙ rw h refl
    go false q = absurd cc

-- ---- Offers

nothing_kept : (is : List Item) (ks : List Kept) → ks ≡ [] → map item_of ks ≡ is → is ≡ []
nothing_kept is ks e h = sym h ∙ ap (map item_of) e

none_sent : (ss : List Begun) → filter is_send ss ≡ [] → head_of (filter is_send ss) ≡ None
none_sent ss h = ap head_of h

receives_wait : (m : Pull) (t : Moment) → Ties m t → None ≡ receiver_of m.kept.items (pend (past t)) → list_all (receive_settled t.z (past t)) (pend (past t)) ≡ true
receives_wait m t h e = go m.kept.items refl e
  where
    go : (ks : List Kept) → m.kept.items ≡ ks → None ≡ receiver_of ks (pend (past t)) → list_all (receive_settled t.z (past t)) (pend (past t)) ≡ true
    go [] k q =
        let nil = nothing_kept (pool t.z (past t) 0) m.kept.items k h.items in
        none_kept t.z (past t) (λ c. kept_pull t.z (past t) c (is_pull m t h) ∙ nil) (pend (past t))
    go (v ∷ vs) k q = no_receives t.z (past t) (pend (past t)) (none_first (filter is_receive (pend (past t))) q)

pub idle : (m : Pull) (t : Moment) → Ties m t → None ≡ receiver_of m.kept.items (pend (past t)) → IsIdle t
idle m t h wait =
    record {
      settled =
          record {
            receives = receives_wait m t h wait;
            sends = no_sends t.z (past t) (has_full t.turn) (pend (past t)) (none_sent (pend (past t)) h.receives);
            again = λ q. let k : false ≡ true = rw (is_pull m t h) at q in absurd cc;
            finished = rw (is_pull m t h) refl;
          };
      no_flood = λ q. let k : false ≡ true = rw (is_pull m t h) at q in absurd cc;
    }

pub gives : (m : Pull) (t : Moment) (op : OpName) → Ties m t → Some op ≡ receiver_of m.kept.items (pend (past t)) → (s : Begun) × (text : RecordedMessage) × CanGive t op s text
gives m t op h e = go m.kept.items refl e
  where
    go : (ks : List Kept) → m.kept.items ≡ ks → Some op ≡ receiver_of ks (pend (past t)) → (s : Begun) × (text : RecordedMessage) × CanGive t op s text
    go [] k q = absurd cc
    go (v ∷ vs) k q =
        let s = first_is (filter is_receive (pend (past t))) op q in
        let items : item_of v ∷ map item_of vs ≡ pool t.z (past t) 0 = sym (ap (map item_of) k) ∙ h.items in
        let can : CanGive t s.0.op s.0 (text_of v.message) =
        record {
          pending = first_found is_receive (pend (past t)) s.0 h.pending.apart s.1;
          may =
              record {
                is_receive = passes_first is_receive (pend (past t)) s.0 s.1;
                first_pending = first_on (pend (past t)) s.0 s.1;
                oldest = rw (kept_pull t.z (past t) s.0.ctx (is_pull m t h), ← items) refl;
                live = λ q. let no : false ≡ true = rw (is_pull m t h) at q in absurd cc;
              };
        } in
        (s.0, text_of v.message, subst (λ (o : OpName). CanGive t o s.0 (text_of v.message)) s.2 can)

-- ---- Taking out

-- what is pending is a receive
pub a_receive : (m : Pull) (t : Moment) (op : OpName) (s : Begun) → Ties m t → pending (past t) op ≡ Some s → is_recv s.act ≡ true
a_receive m t op s h p = go (is_recv s.act) refl
  where
    go : (b : Bool) → is_recv s.act ≡ b → b ≡ true
    go true e = refl
    go false e =
        let found : find (is_of op) (filter is_send (pend (past t))) ≡ Some s = find_passing is_send (pend (past t)) op s p (ap not e) in
        let none : None ≡ Some s = sym (ap (find (is_of op)) h.receives) ∙ found in
        absurd cc

no_target : (a : RecordedAct) (n : ℕ) (r : Bool) → is_recv a ≡ true → a ≡ Recv
no_target Recv n r h = refl
no_target (Send x) n r h = absurd cc

pub no_send : {A : Type 0} (m : Pull) (t : Moment) (op : OpName) (p : ℕ) (s : Begun) (b : List ℕ) → Ties m t → CanSend t op p s b → A
no_send m t op p s b h c =
    let recv : s.act ≡ Recv = no_target s.act 0 true (a_receive m t op s h c.pending) in
    let k : false ≡ true = rw recv at c.target in
    absurd cc

still_receives : (ss : List Begun) (op : OpName) → filter is_send ss ≡ [] → filter is_send (without_begun ss op) ≡ []
still_receives ss op h = without_passing is_send ss op ∙ ap (λ (xs : List Begun). without_begun xs op) h

left_of : (a b : Bool) → (not a && b) ≡ true → a ≡ false
left_of true b h = absurd cc
left_of false b h = refl

begun_ties : (m n : Pull) (t : Moment) (op : OpName) (c : ℕ) (deadline : Option ℕ) → Ties m t → Holds n.waiting (pend (past t) ++ record { op = op; ctx = c; act = Recv } ∷ []) → n ≡ record m { waiting = n.waiting } → Ties n (also t (Begin op t.caller c Recv deadline))
begun_ties m n t op c deadline h holds same =
    record {
      kind = rw same h.kind;
      items = rw same h.items;
      pending = holds;
      receives = more (pend (past t)) h.receives;
      contexts = h.contexts;
      sources = rw same h.sources;
      counted = rw same h.counted;
      known = h.known;
      came = h.came;
      single = h.single;
      apart = h.apart;
      places = rw same h.places;
    }
  where
    more : (ss : List Begun) → filter is_send ss ≡ [] → filter is_send (ss ++ record { op = op; ctx = c; act = Recv } ∷ []) ≡ []
    more [] e = refl
    more (s ∷ ss) e = step (is_recv s.act) e (more ss)
      where
        step : (b : Bool) → cond (not b) (s ∷ filter is_send ss) (filter is_send ss) ≡ [] → (filter is_send ss ≡ [] → filter is_send (ss ++ record { op = op; ctx = c; act = Recv } ∷ []) ≡ []) → cond (not b) (s ∷ filter is_send (ss ++ record { op = op; ctx = c; act = Recv } ∷ [])) (filter is_send (ss ++ record { op = op; ctx = c; act = Recv } ∷ [])) ≡ []
        step true q again = again q
        step false q again = absurd cc

pub begun_act : (m n : Pull) (t : Moment) (op : OpName) (c : ℕ) (a : Asked) (deadline : Option ℕ) → a ≡ asked.Recv → Lawful (also t (Begin op t.caller c (entry_act a) deadline)) → Ties m t
    → (list_any (is_at op.slot) (pend (past t)) ≡ false → Holds n.waiting (pend (past t) ++ record { op = op; ctx = c; act = Recv } ∷ [])) → n ≡ record m { waiting = n.waiting } → Ties n (also t (Begin op t.caller c (entry_act a) deadline))
begun_act m n t op c a deadline e l h holds same =
    subst (λ (x : Asked). Ties n (also t (Begin op t.caller c (entry_act x) deadline))) (sym e) (begun_ties m n t op c deadline h (holds (left_of _ _ l.turn.0.itself.slot_free)) same)

pub lost_ties : (m n : Pull) (t : Moment) (op : OpName) (cause : Cause) (by : ℕ) → Ties m t → Holds n.waiting (without_begun (pend (past t)) op) → n ≡ record m { waiting = n.waiting } → Ties n (also t (End op (Gone cause by)))
lost_ties m n t op cause by h holds same =
    record {
      kind = rw same h.kind;
      items = rw same h.items;
      pending = holds;
      receives = still_receives (pend (past t)) op h.receives;
      contexts = h.contexts;
      sources = rw same h.sources;
      counted = rw same h.counted;
      known = h.known;
      came = h.came;
      single = h.single;
      apart = h.apart;
      places = rw same h.places;
    }

-- the first message that was kept, where the receive gets it
pub given_ties : (m n : Pull) (t : Moment) (op : OpName) (s : Begun) (text : RecordedMessage) (k : Kept) → Ties m t → CanGive t op s text → Holds n.waiting (without_begun (pend (past t)) op) → m.kept.items ≡ k ∷ n.kept.items → deque_capacity n.kept ≡ deque_capacity m.kept
    → ((q : ℕ) → mark_at n.sources q ≡ cond (k.pipe == q) (option_map (λ _. false) (mark_at m.sources k.pipe)) (mark_at m.sources q)) → length n.sources ≡ length m.sources
    → (n.raw ≡ m.raw) × (n.options ≡ m.options) → (text_of k.message ≡ text) × Ties n (also t (End op (Won (Received text))))
given_ties m n t op s text k h c holds f cap marks count same =
    let items_are : item_of k ∷ map item_of n.kept.items ≡ pool t.z (past t) 0 = sym (ap (map item_of) f) ∙ h.items in
    let oldest : Some (text_of k.message) ≡ Some text = rw (kept_pull t.z (past t) s.ctx (is_pull m t h), ← items_are) at c.may.oldest in
    let left : map item_of n.kept.items ≡ pool t.z (past (also t (End op (Won (Received text))))) 0 = rw (c.pending, is_pull m t h, ← items_are) refl in
    let places : length m.kept.items + places_for (item_of k ∷ map item_of n.kept.items) (up (past t)) ≤ deque_capacity m.kept = subst (λ (is : List Item). length m.kept.items + places_for is (up (past t)) ≤ deque_capacity m.kept) (sym items_are) h.places in
    let single : AreSingle (item_of k ∷ map item_of n.kept.items) = subst AreSingle (sym items_are) h.single in
    let sources : (q : ℕ) → mark_at m.sources q ≡ mark_of (up (past t)) (item_of k ∷ map item_of n.kept.items) q = subst (λ (is : List Item). (q : ℕ) → mark_at m.sources q ≡ mark_of (up (past t)) is q) (sym items_are) h.sources in
    let came : (q : ℕ) → list_any (is_from q) (item_of k ∷ map item_of n.kept.items) ≡ true → q ≤ ups (past t) = subst (λ (is : List Item). (q : ℕ) → list_any (is_from q) is ≡ true → q ≤ ups (past t)) (sym items_are) h.came in
    let one = places_give (map item_of n.kept.items) (item_of k) (up (past t)) h.apart in
    let counted = h.counted in (
      cc,
      record {
        kind = rw (same.0, same.1) h.kind;
        items = left;
        pending = holds;
        receives = still_receives (pend (past t)) op h.receives;
        contexts = h.contexts;
        sources = λ q. marks q ∙ marks_given (mark_at m.sources) (up (past t)) (map item_of n.kept.items) (item_of k) q sources single.0 ∙ ap (λ (is : List Item). mark_of (up (past t)) is q) left;
        counted = rw count counted;
        known = h.known;
        came = subst (λ (is : List Item). (q : ℕ) → list_any (is_from q) is ≡ true → q ≤ ups (past t)) left (λ q e. came_given (map item_of n.kept.items) (item_of k) (ups (past t)) q came e);
        single = subst AreSingle left single.1;
        apart = h.apart;
        places = subst (λ (is : List Item). length n.kept.items + places_for is (up (past t)) ≤ deque_capacity n.kept) left (omega (arith, places, one, cap, ap length f));
      },
    )

pub none_given : {A : Type 0} (m : Pull) (t : Moment) (op : OpName) (s : Begun) (text : RecordedMessage) → Ties m t → CanGive t op s text → m.kept.items ≡ [] → A
none_given m t op s text h c e =
    let items_are : [] ≡ pool t.z (past t) 0 = sym (ap (map item_of) e) ∙ h.items in
    let oldest : None ≡ Some text = rw (kept_pull t.z (past t) s.ctx (is_pull m t h), ← items_are) at c.may.oldest in
    absurd cc

-- ---- What it never does

pub no_flood : {A : Type 0} (m : Pull) (t : Moment) → Ties m t → floods t.z.role ≡ true → A
no_flood m t h f = let k : false ≡ true = rw (is_pull m t h) at f in absurd cc

-- ---- What is kept

none_left : (n : ℕ) (ks : List Kept) → n ≡ length ks → (n == 0) ≡ is_nil (map item_of ks)
none_left n [] e = grind (arith, nat_tests)
none_left n (k ∷ ks) e = grind (arith, nat_tests)

pub keeps_means : (m : Pull) (t : Moment) (c n : ℕ) (b : Bool) → Ties m t → n ≡ length m.kept.items → b ≡ (n == 0) → not b ≡ not (is_nil (kept t.z (past t) c))
keeps_means m t c n b h e k =
    ap not (k ∙ none_left n m.kept.items e ∙ ap is_nil (h.items ∙ sym (kept_pull t.z (past t) c (is_pull m t h))))

-- ---- Pipes and frames

pool_down : (z : Setting) (before : List Entry) (p : ℕ) (why : Why) → z.role ≡ role.Pull → pool z before 0 ≡ pool z (Down p why ∷ before) 0
pool_down z before p why h = go z.role (pool z before 0) h
  where
    go : (r : Role) (is : List Item) → r ≡ role.Pull → is ≡ cond (is_reply r) (filter (λ (i : Item). not (is_from p i)) is) is
    go r is h = rw h refl

pub down_ties : (m n : Pull) (t : Moment) (p : ℕ) (why : Why) → Lawful (also t (Down p why)) → Ties m t → ((q : ℕ) → mark_at n.sources q ≡ cond (p == q) None (mark_at m.sources q)) → length n.sources + cond (is_some (mark_at m.sources p)) 1 0 ≡ length m.sources
    → (n.kept ≡ m.kept) × (n.waiting ≡ m.waiting) × (n.raw ≡ m.raw) × (n.options ≡ m.options) → Ties n (also t (Down p why))
down_ties m n t p why l h e count same =
    let still = pool_down t.z (past t) p why (is_pull m t h) in
    let fewer = places_down (pool t.z (past t) 0) (up (past t)) p in
    let places = h.places in
    record {
      kind = rw (same.2, same.3) h.kind;
      items = rw same.0 h.items ∙ still;
      pending = rw same.1 h.pending;
      receives = h.receives;
      contexts = h.contexts;
      sources = λ q. e q ∙ marks_down (up (past t)) (pool t.z (past t) 0) p q (mark_at m.sources q) (h.sources q) ∙ ap (λ (is : List Item). mark_of (without (up (past t)) p) is q) still;
      counted = counted_down (up (past t)) (pool t.z (past t) 0) p (length m.sources) (length n.sources) (mark_at m.sources p) l.turn.0.itself.0 (h.sources p) count h.counted;
      known = λ q k. h.known q (has_without (up (past t)) p q k);
      came = subst (λ (is : List Item). (q : ℕ) → list_any (is_from q) is ≡ true → q ≤ ups (past t)) still h.came;
      single = subst AreSingle still h.single;
      apart = apart_without (up (past t)) p h.apart;
      places = subst (λ (is : List Item). length n.kept.items + places_for is (without (up (past t)) p) ≤ deque_capacity n.kept) still (rw same.0 (omega (arith, places, fewer)));
    }

above : (p last : ℕ) (b : Bool) → p ≡ last + 1 → (b ≡ true → p ≤ last) → b ≡ false
above p last true e h = let low = h refl in absurd (omega (arith, low, e))
above p last false e h = refl

pub up_ties : (m n : Pull) (t : Moment) (p place limit : ℕ) (name : WireNumbers) → Lawful (also t (Up p place limit name)) → Ties m t → ((q : ℕ) → mark_at n.sources q ≡ cond (p == q) (Some false) (mark_at m.sources q)) → length n.sources ≡ length m.sources + cond (is_some (mark_at m.sources p)) 0 1
    → n.kept.items ≡ m.kept.items → length m.kept.items + length m.sources + 1 ≤ deque_capacity n.kept → (n.waiting ≡ m.waiting) × (n.raw ≡ m.raw) × (n.options ≡ m.options) → Ties n (also t (Up p place limit name))
up_ties m n t p place limit name l h e count k room same =
    let next : p ≡ ups (past t) + 1 = l.turn.0.itself.0 in
    let more = places_up (pool t.z (past t) 0) (up (past t)) p in
    let most = places_most (pool t.z (past t) 0) (up (past t)) in
    let counted = h.counted in
    record {
      kind = rw (same.1, same.2) h.kind;
      items = ap (map item_of) k ∙ h.items;
      pending = rw same.0 h.pending;
      receives = h.receives;
      contexts = h.contexts;
      sources = λ q. e q ∙ marks_up (up (past t)) (pool t.z (past t) 0) p q (mark_at m.sources q) (above p (ups (past t)) _ next (h.came p)) (h.sources q);
      counted = counted_up (up (past t)) (pool t.z (past t) 0) p (length m.sources) (length n.sources) (mark_at m.sources p) (above p (ups (past t)) _ next (h.known p)) (h.sources p) count h.counted;
      known = λ q g. low q next (has (up (past t)) q) refl (sym (has_append (up (past t)) p q) ∙ g);
      came = λ q g. let c = h.came q g in omega (arith, c, next);
      single = h.single;
      apart = subst (λ (q : ℕ). AreDistinct (up (past t) ++ q ∷ [])) (sym next) (apart_more (up (past t)) (ups (past t)) h.known h.apart);
      places = omega (arith, room, more, most, counted, ap length k);
    }
  where
    low : (q : ℕ) → p ≡ ups (past t) + 1 → (b : Bool) → has (up (past t)) q ≡ b → (b || ((p == q) || false)) ≡ true → q ≤ ups (past t) + 1
    low q next true e g = let m = h.known q e in omega (arith, m)
    low q next false e g = equal (p == q) refl g
      where
        equal : (b : Bool) → (p == q) ≡ b → (b || false) ≡ true → q ≤ ups (past t) + 1
        equal true k g = let same : p ≡ q = grind (arith, nat_tests) in omega (arith, same, next)
        equal false k g = absurd cc

module _ (z : Setting) (before : List Entry) (p : ℕ) (b : List ℕ) (h : z.role ≡ role.Pull) (short : is_too_long before p b ≡ false) where
  taken_in : takes z before 0 p b ≡ true
  taken_in = rw (h, short) refl

  bare_item : of_frame z p b ≡ Some (record { pipe = p; words = []; message = record { header = []; body = b } })
  bare_item = rw h refl

  comes_last : (i : Item) (is : List Item) → add_for z.role z (Some i) is ≡ is ++ i ∷ []
  comes_last i is = go z.role h
    where
      go : (r : Role) → r ≡ role.Pull → add_for r z (Some i) is ≡ is ++ i ∷ []
      go r h = rw h refl

  pool_frame : pool z before 0 ++ record { pipe = p; words = []; message = record { header = []; body = b } } ∷ [] ≡ pool z (Frame p b ∷ before) 0
  pool_frame = sym (ap (λ (x : Bool). cond x (add_for z.role z (of_frame z p b) (pool z before 0)) (pool z before 0)) taken_in ∙ ap (λ (o : Option Item). add_for z.role z o (pool z before 0)) bare_item ∙ comes_last _ (pool z before 0))

-- no item of the pipe is kept
pub unkept : (m : Pull) (t : Moment) (p : ℕ) (b : List ℕ) → Lawful (also t (Frame p b)) → Ties m t → list_any (is_from p) (pool t.z (past t) 0) ≡ false
unkept m t p b l h =
    let w : wanted t.z (past t) p ≡ true = l.turn.0.itself.1 in
    let none = no (list_any (λ (k : Kept). k.pipe == p) m.kept.items) (wants_means t.z (past t) p m.kept.items (is_pull m t h) h.items ∙ w) in
    ap (list_any (is_from p)) (sym h.items) ∙ any_from p m.kept.items ∙ none
  where
    no : (x : Bool) → not x ≡ true → x ≡ false
    no true e = absurd cc
    no false e = refl

-- there is a place for it
pub has_place : (m : Pull) (t : Moment) (p : ℕ) (b : List ℕ) → Lawful (also t (Frame p b)) → Ties m t → length m.kept.items < deque_capacity m.kept
has_place m t p b l h =
    let i : Item = record { pipe = p; words = []; message = record { header = []; body = b } } in
    let one = places_frame (pool t.z (past t) 0) i (up (past t)) l.turn.0.itself.0 (unkept m t p b l h) in
    let places = h.places in
    omega (arith, one, places)

pub frame_ties : (m n : Pull) (t : Moment) (p : ℕ) (v : MessageView) → is_too_long (past t) p v.body ≡ false → Lawful (also t (Frame p v.body)) → v.header ≡ [] → Ties m t → n.kept.items ≡ m.kept.items ++ record { pipe = p; message = v } ∷ [] → deque_capacity m.kept ≤ deque_capacity n.kept
    → ((q : ℕ) → mark_at n.sources q ≡ cond (p == q) (option_map (λ _. true) (mark_at m.sources p)) (mark_at m.sources q)) → length n.sources ≡ length m.sources
    → (n.waiting ≡ m.waiting) × (n.raw ≡ m.raw) × (n.options ≡ m.options) → Ties n (also t (Frame p v.body))
frame_ties m n t p v short l bare h e cap marks count same =
    let i : Item = record { pipe = p; words = []; message = record { header = []; body = v.body } } in
    let last : item_of (record { pipe = p; message = v }) ≡ i = ap (λ (x : List ℕ). let y : Item = record { pipe = p; words = []; message = record { header = x; body = v.body } } in y) bare in
    let grown = pool_frame t.z (past t) p v.body (is_pull m t h) short in
    let is_up : has (up (past t)) p ≡ true = l.turn.0.itself.0 in
    let none = unkept m t p v.body l h in
    let one = places_frame (pool t.z (past t) 0) i (up (past t)) is_up none in
    let places = h.places in
    let counted = h.counted in
    record {
      kind = rw (same.1, same.2) h.kind;
      items = ap (map item_of) e ∙ map-append item_of m.kept.items _ ∙ ap (λ (x : Item). map item_of m.kept.items ++ x ∷ []) last ∙ ap (λ (is : List Item). is ++ i ∷ []) h.items ∙ grown;
      pending = rw same.0 h.pending;
      receives = h.receives;
      contexts = h.contexts;
      sources = λ q. marks q ∙ marks_frame (mark_at m.sources) (up (past t)) (pool t.z (past t) 0) i q h.sources is_up ∙ ap (λ (is : List Item). mark_of (up (past t)) is q) grown;
      counted = rw count counted;
      known = h.known;
      came = subst (λ (is : List Item). (q : ℕ) → list_any (is_from q) is ≡ true → q ≤ ups (past t)) grown (λ q g. came_frame (pool t.z (past t) 0) i (ups (past t)) q h.came (h.known p is_up) g);
      single = subst AreSingle grown (single_frame (pool t.z (past t) 0) i h.single none);
      apart = h.apart;
      places = subst (λ (is : List Item). length n.kept.items + places_for is (up (past t)) ≤ deque_capacity n.kept) grown (omega (arith, one, places, cap, ap length e, length-append m.kept.items (record { pipe = p; message = v } ∷ [])));
    }

pub well_formed : (m : Pull) (t : Moment) (b : List ℕ) → Ties m t → breaks_rule t.z b ≡ false
well_formed m t b h = rw (is_pull m t h) refl

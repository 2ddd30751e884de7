-- A rep stands for its history after each call.
use Rattle.std.proofs.Common.{◌≡◌, ◌≢◌, refl, ap, sym, ◌∙◌, subst, List, [], ◌∷◌, ◌++◌, ℕ, Bool, true, false, cond, arith, Option, Some, None, length, map}
use Rattle.std.specs.Prelude.{filter, not, ◌&&◌, ◌||◌, ◌==◌}
use Rattle.std.specs.List.{list_any, list_all}
use Rattle.std.specs.Option.{option_map}
use Rattle.std.proofs.lemmas.Bool.Decides.{nat_tests}
use Rattle.std.proofs.lemmas.List.{map-append}
use Rattle.sp_base.specs.declared.OpName.{OpName}
use Rattle.sp_history.specs.declared.setting.Setting.{Setting}
use Rattle.sp_history.specs.declared.entry.Entry.{Entry}
use Rattle.sp_history.specs.declared.entry.Entry.TheVariants.{Begin, Up, Down, Full, Ctx, Close}
use Rattle.sp_history.specs.declared.entry.ContextChange.TheVariants.{Open, Shut}
use Rattle.sp_history.specs.declared.entry.RecordedAct.{RecordedAct}
use Rattle.sp_history.specs.declared.entry.Totals.{Totals}
use Rattle.sp_history.specs.declared.entry.Why.{Why}
use Rattle.sp_history.specs.declared.entry.WireNumbers.{WireNumbers}
use Rattle.sp_history.specs.declared.parts.Begun.{Begun}
use Rattle.sp_history.specs.declared.parts.Item.{Item}
use Rattle.sp_history.specs.declared.parts.Origin.{Origin}
use Rattle.sp_history.specs.Lists.{has, without, is_nil, same_op}
use Rattle.sp_history.specs.Setting.{floods, has_stored}
use Rattle.sp_history.specs.Past.{pend, up, ups, ctxs}
use Rattle.sp_history.specs.Kept.{route, pool, kept, wanted, stored, is_from, has_none_of}
use Rattle.sp_history.specs.Settled.{has_full}
use Rattle.sp_history.specs.Legal.{is_at}
use Rattle.sp_history.specs.Moments.{Moment, Lawful, past, also, next}
use Rattle.sp_history.proofs.OnceHolds.{same_op-refl}
use Rattle.sp_proto.specs.Kinds.{Kind}
use Rattle.proto_rep.specs.declared.rep.Reply.{Reply}
use Rattle.proto_rep.specs.declared.rep.KeptRequest.{KeptRequest}
use Rattle.proto_rep.specs.declared.rep.Source.{Source}
use Rattle.proto_rep.specs.Places.{ReplyContext}
use Rattle.proto_rep.specs.declared.replies.PendingReply.{PendingReply}
use Rattle.proto_rep.specs.declared.operations.ReplyOperation.{ReplyOperation}
use Rattle.proto_requests.specs.Ports.{PortView, marked, cleared, is_below}
use Rattle.proto_requests.specs.Ordered.{is_before}
use Rattle.proto_rep.specs.Reps.{Ties, item_of, origin_of, origin_at, ctx_of, Routed, AreOfContexts, role_of}
use Rattle.proto_rep.specs.Operations.{Holds, begun_of, act_of}
use Rattle.proto_rep.specs.Replies.{AreStuck, StayPassed}
use Rattle.proto_requests.proofs.NamesApart.{apart_more}
use Rattle.proto_requests.proofs.OpenContexts.{seen_before}
use Rattle.proto_requests.proofs.KnownPipes.{up_knows, known_below, fresh_knows, full_knows, down_knows}
use Rattle.proto_rep.proofs.PlacesOfContexts.{opens_none, shut_ctxs, shut_origins}
use Rattle.proto_rep.specs.declared.rep.ReplyRole.{ReplyRole}
use Rattle.proto_rep.specs.declared.rep.ReplyRole.TheVariants as sides
use Rattle.proto_rep.proofs.Roles.{replies, no_floods}
use Rattle.proto_requests.proofs.NumbersIn.{has_first, has_still}
use Rattle.proto_rep.proofs.Stuck.{none_stuck, marked_stuck, more_stuck, stay_stuck}

pub is_rep : (m : Reply) (t : Moment) → Ties m t → t.z.role ≡ role_of m.role
is_rep m t h = ap (λ (k : Kind). k.role) h.kind

pub is_raw : (m : Reply) (t : Moment) → Ties m t → t.z.raw ≡ m.raw
is_raw m t h = ap (λ (k : Kind). k.raw) h.kind

pub kept_rep : (y : ReplyRole) (z : Setting) (before : List Entry) (c : ℕ) → z.role ≡ role_of y → kept z before c ≡ pool z before 0
kept_rep sides.Rep z before c h = rw h refl
kept_rep sides.Respondent z before c h = rw h refl

-- ---- Frames are wanted

any_from : (p : ℕ) (ks : List KeptRequest) → list_any (is_from p) (map item_of ks) ≡ list_any (λ (k : KeptRequest). k.pipe == p) ks
any_from p [] = refl
any_from p (k ∷ ks) = ap (λ b. (k.pipe == p) || b) (any_from p ks)

pub wants_means : (y : ReplyRole) (z : Setting) (before : List Entry) (p : ℕ) (ks : List KeptRequest) → z.role ≡ role_of y → map item_of ks ≡ pool z before 0 → not (list_any (λ (k : KeptRequest). k.pipe == p) ks) ≡ wanted z before p
wants_means y z before p ks h e = ap not (sym (any_from p ks)) ∙ ap (has_none_of p) (e ∙ sym (kept_rep y z before 0 h)) ∙ wanted_is y z before p h
  where
    wanted_is : (y : ReplyRole) (z : Setting) (before : List Entry) (p : ℕ) → z.role ≡ role_of y → has_none_of p (kept z before 0) ≡ wanted z before p
    wanted_is sides.Rep z before p h = rw h refl
    wanted_is sides.Respondent z before p h = rw h refl

-- ---- What is kept for a context

none_left : {A : Type 0} (f : KeptRequest → A) (n : ℕ) (ks : List KeptRequest) → n ≡ length ks → (n == 0) ≡ is_nil (map f ks)
none_left f n [] e = grind (arith, nat_tests)
none_left f n (k ∷ ks) e = grind (arith, nat_tests)

pub keeps_means : (m : Reply) (t : Moment) (c n : ℕ) (b : Bool) → Ties m t → n ≡ length m.kept.items → b ≡ (n == 0) → not b ≡ not (is_nil (kept t.z (past t) c))
keeps_means m t c n b h e k =
    ap not (k ∙ none_left item_of n m.kept.items e ∙ ap is_nil (h.items ∙ sym (kept_rep m.role t.z (past t) c (is_rep m t h))))

-- ---- Pipes

kept_without : (p : ℕ) (ks : List KeptRequest) → map item_of (filter (λ (k : KeptRequest). not (k.pipe == p)) ks) ≡ filter (λ i. not (is_from p i)) (map item_of ks)
kept_without p [] = refl
kept_without p (k ∷ ks) = go (k.pipe == p) (kept_without p ks)
  where
    go : (b : Bool) → map item_of (filter (λ (k : KeptRequest). not (k.pipe == p)) ks) ≡ filter (λ i. not (is_from p i)) (map item_of ks)
        → map item_of (cond (not b) (k ∷ filter (λ (k : KeptRequest). not (k.pipe == p)) ks) (filter (λ (k : KeptRequest). not (k.pipe == p)) ks)) ≡ cond (not b) (item_of k ∷ filter (λ i. not (is_from p i)) (map item_of ks)) (filter (λ i. not (is_from p i)) (map item_of ks))
    go true h = h
    go false h = ap (λ (rest : List Item). item_of k ∷ rest) h

pool_down : (y : ReplyRole) (z : Setting) (before : List Entry) (p : ℕ) (why : Why) → z.role ≡ role_of y → pool z (Down p why ∷ before) 0 ≡ filter (λ i. not (is_from p i)) (pool z before 0)
pool_down y z before p why h = ap (λ b. cond b (filter (λ i. not (is_from p i)) (pool z before 0)) (pool z before 0)) (replies y z h)

pub up_below : (m : Reply) (t : Moment) (p place limit : ℕ) (name : WireNumbers) → Lawful (also t (Up p place limit name)) → Ties m t → list_all (is_below p) m.ports.items ≡ true
up_below m t p place limit name l h = known_below m.ports.items (up (past t)) (ups (past t)) p (λ q. has_full t.turn q) h.pipes l.turn.0.itself.0

pub up_ties : (m n : Reply) (t : Moment) (p place limit : ℕ) (name : WireNumbers) → Lawful (also t (Up p place limit name)) → Ties m t → n.ports.items ≡ m.ports.items ++ record { pipe = p; is_full = false } ∷ [] → n.kept ≡ m.kept → n.waiting ≡ m.waiting → n.places ≡ m.places
    → (n.raw ≡ m.raw) × (n.options ≡ m.options) × (n.role ≡ m.role) → Ties n (also t (Up p place limit name))
up_ties m n t p place limit name l h e f w g same =
    record {
      kind = rw (same.0, same.1, same.2) h.kind;
      most = rw same.1 h.most;
      pipes = up_knows n.ports.items m.ports.items (up (past t)) (ups (past t)) p (λ q. has_full t.turn q) h.pipes l.turn.0.itself.0 e;
      items = rw f h.items;
      waits = h.waits;
      holds = rw w h.holds;
      pending = h.pending;
      apart = h.apart;
      contexts = rw g h.contexts;
      of_contexts = h.of_contexts;
      stored = rw g h.stored;
      routed = h.routed;
      stuck = rw (same.0, e, w) (more_stuck m.raw (record { pipe = p; is_full = false }) m.ports.items m.waiting.replies h.stuck);
    }

pub down_ties : (m n : Reply) (t : Moment) (p : ℕ) (why : Why) → Ties m t → n.ports.items ≡ filter (λ (x : PortView). not (x.pipe == p)) m.ports.items → n.kept.items ≡ filter (λ (k : KeptRequest). not (k.pipe == p)) m.kept.items
    → ((ws : List ReplyOperation) → Holds m.waiting ws → Holds n.waiting ws) → (AreStuck m.raw m.ports.items m.waiting.replies → AreStuck m.raw n.ports.items n.waiting.replies) → n.places ≡ m.places → (n.raw ≡ m.raw) × (n.options ≡ m.options) × (n.role ≡ m.role)
    → Ties n (also t (Down p why))
down_ties m n t p why h e f w x l same =
    record {
      kind = rw (same.0, same.1, same.2) h.kind;
      most = rw same.1 h.most;
      pipes = down_knows n.ports.items m.ports.items t p why h.pipes e;
      items = ap (map item_of) f ∙ kept_without p m.kept.items ∙ ap (filter (λ i. not (is_from p i))) h.items ∙ sym (pool_down m.role t.z (past t) p why (is_rep m t h));
      waits = h.waits;
      holds = w h.waits h.holds;
      pending = h.pending;
      apart = h.apart;
      contexts = rw l h.contexts;
      of_contexts = h.of_contexts;
      stored = rw l h.stored;
      routed = h.routed;
      stuck = rw same.0 (x h.stuck);
    }

pub full_ties : (m n : Reply) (t : Moment) (p : ℕ) → Lawful (also t (Full p)) → Ties m t → n.ports.items ≡ map (marked p) m.ports.items → n.kept ≡ m.kept → n.waiting ≡ m.waiting → n.places ≡ m.places → (n.raw ≡ m.raw) × (n.options ≡ m.options) × (n.role ≡ m.role) → Ties n (also t (Full p))
full_ties m n t p l h e f w g same =
    record {
      kind = rw (same.0, same.1, same.2) h.kind;
      most = rw same.1 h.most;
      pipes = full_knows n.ports.items m.ports.items t p l h.pipes e;
      items = rw f h.items;
      waits = h.waits;
      holds = rw w h.holds;
      pending = h.pending;
      apart = h.apart;
      contexts = rw g h.contexts;
      of_contexts = h.of_contexts;
      stored = rw g h.stored;
      routed = h.routed;
      stuck = rw (same.0, e, w) (marked_stuck m.raw p m.ports.items m.waiting.replies h.stuck);
    }

pub fresh_ties : (m n : Reply) (t : Moment) (k : ℕ) → Ties m t → n.ports.items ≡ map cleared m.ports.items → n.kept ≡ m.kept → ((ws : List ReplyOperation) → Holds m.waiting ws → Holds n.waiting ws) → n.waiting.replies.passed ≡ [] → n.places ≡ m.places → (n.raw ≡ m.raw) × (n.options ≡ m.options) × (n.role ≡ m.role) → Ties n (next t k)
fresh_ties m n t k h e f w x g same =
    record {
      kind = rw (same.0, same.1, same.2) h.kind;
      most = rw same.1 h.most;
      pipes = fresh_knows n.ports.items m.ports.items (up (past t)) (ups (past t)) (λ q. has_full t.turn q) h.pipes e;
      items = rw f h.items;
      waits = h.waits;
      holds = w h.waits h.holds;
      pending = h.pending;
      apart = h.apart;
      contexts = rw g h.contexts;
      of_contexts = h.of_contexts;
      stored = rw g h.stored;
      routed = h.routed;
      stuck = none_stuck n.raw n.ports.items n.waiting.replies x;
    }

-- ---- Operations that wait are looked at, or have more room

pub waiting_ties : (m n : Reply) (t : Moment) → Ties m t → ((ws : List ReplyOperation) → Holds m.waiting ws → Holds n.waiting ws) → (AreStuck m.raw m.ports.items m.waiting.replies → AreStuck m.raw m.ports.items n.waiting.replies) → n.ports ≡ m.ports → n.kept ≡ m.kept → n.places ≡ m.places
    → (n.raw ≡ m.raw) × (n.options ≡ m.options) × (n.role ≡ m.role) → Ties n t
waiting_ties m n t h w s p f g same =
    record {
      kind = rw (same.0, same.1, same.2) h.kind;
      most = rw same.1 h.most;
      pipes = rw p h.pipes;
      items = rw f h.items;
      waits = h.waits;
      holds = w h.waits h.holds;
      pending = h.pending;
      apart = h.apart;
      contexts = rw g h.contexts;
      of_contexts = h.of_contexts;
      stored = rw g h.stored;
      routed = h.routed;
      stuck = rw (same.0, p) (s h.stuck);
    }

-- ---- Contexts

or_left : (a b : Bool) → a ≡ true → (a || b) ≡ true
or_left a b h = rw h refl

of_contexts_opened : (cs ds : List ℕ) (ss : List Begun) → AreOfContexts cs ss → AreOfContexts (cs ++ ds) ss
of_contexts_opened cs ds [] h = h
of_contexts_opened cs ds (s ∷ ss) h = (has_first cs ds s.ctx h.0, of_contexts_opened cs ds ss h.1)

pub opened_before : (m : Reply) (t : Moment) (c : ℕ) → Lawful (also t (Ctx c Open)) → Ties m t → list_all (is_before ctx_of c) m.places.items ≡ true
opened_before m t c l h = seen_before ctx_of m.places.items t c l h.contexts

pub opened_ties : (m n : Reply) (t : Moment) (c : ℕ) → Ties m t → n.places.items ≡ m.places.items ++ record { ctx = c; stored = None } ∷ [] → n.ports ≡ m.ports → n.kept ≡ m.kept → n.waiting ≡ m.waiting → (n.raw ≡ m.raw) × (n.options ≡ m.options) × (n.role ≡ m.role) → Ties n (also t (Ctx c Open))
opened_ties m n t c h e p f w same =
    record {
      kind = rw (same.0, same.1, same.2) h.kind;
      most = rw same.1 h.most;
      pipes = rw p h.pipes;
      items = rw f h.items;
      waits = h.waits;
      holds = rw w h.holds;
      pending = h.pending;
      apart = h.apart;
      contexts = ap (map ctx_of) e ∙ map-append ctx_of m.places.items (record { ctx = c; stored = None } ∷ []) ∙ ap (λ (cs : List ℕ). cs ++ c ∷ []) h.contexts;
      of_contexts = of_contexts_opened (ctxs (past t)) (c ∷ []) (pend (past t)) h.of_contexts;
      stored = λ d. ap (origin_at d) e ∙ opens_none c m.places.items d ∙ h.stored d;
      routed = h.routed;
      stuck = rw (same.0, p, w) h.stuck;
    }

of_contexts_shut : (cs : List ℕ) (c : ℕ) (ss : List Begun) → AreOfContexts cs ss → list_any (λ (s : Begun). s.ctx == c) ss ≡ false → AreOfContexts (without cs c) ss
of_contexts_shut cs c [] h k = h
of_contexts_shut cs c (s ∷ ss) h k = go (s.ctx == c) refl k (of_contexts_shut cs c ss h.1)
  where
    go : (b : Bool) → (s.ctx == c) ≡ b → (b || list_any (λ (s : Begun). s.ctx == c) ss) ≡ false → (list_any (λ (s : Begun). s.ctx == c) ss ≡ false → AreOfContexts (without cs c) ss) → AreOfContexts (without cs c) (s ∷ ss)
    go true e k again = absurd cc
    go false e k again = (has_still cs c s.ctx h.0 e, again k)

swapped : (b e : Bool) (o : Option Origin) → cond e None (cond b o None) ≡ cond b (cond e None o) None
swapped true e o = refl
swapped false true o = refl
swapped false false o = refl

pool_shut : (z : Setting) (before : List Entry) (c : ℕ) → c ≢ 0 → pool z (Ctx c Shut ∷ before) 0 ≡ pool z before 0
pool_shut z before c h =
    let away : (c == 0) ≡ false = grind (arith, nat_tests) in rw away refl

pub shut_ties : (m n : Reply) (t : Moment) (c : ℕ) → Lawful (also t (Ctx c Shut)) → Ties m t → n.places.items ≡ filter (λ (x : ReplyContext). not (x.ctx == c)) m.places.items → n.ports ≡ m.ports → n.kept ≡ m.kept → n.waiting ≡ m.waiting → (n.raw ≡ m.raw) × (n.options ≡ m.options) × (n.role ≡ m.role) → Ties n (also t (Ctx c Shut))
shut_ties m n t c l h e p f w same =
    record {
      kind = rw (same.0, same.1, same.2) h.kind;
      most = rw same.1 h.most;
      pipes = rw p h.pipes;
      items = rw f h.items ∙ sym (pool_shut t.z (past t) c l.turn.0.itself.0);
      waits = h.waits;
      holds = rw w h.holds;
      pending = h.pending;
      apart = h.apart;
      contexts = ap (map ctx_of) e ∙ shut_ctxs c m.places.items ∙ ap (λ cs. without cs c) h.contexts;
      of_contexts = of_contexts_shut (ctxs (past t)) c (pend (past t)) h.of_contexts l.turn.0.itself.2;
      stored = λ d. ap (origin_at d) e ∙ shut_origins c m.places.items d ∙ ap (λ (o : Option Origin). cond (c == d) None o) (h.stored d) ∙ swapped (has_stored t.z) (c == d) _;
      routed = h.routed;
      stuck = rw (same.0, p, w) h.stuck;
    }

-- ---- Begin

of_contexts_more : (cs : List ℕ) (ss : List Begun) (s : Begun) → AreOfContexts cs ss → has cs s.ctx ≡ true → AreOfContexts cs (ss ++ s ∷ [])
of_contexts_more cs [] s h k = (k, h)
of_contexts_more cs (r ∷ ss) s h k = (h.0, of_contexts_more cs ss s h.1 k)

left_of : (a b : Bool) → (not a && b) ≡ true → a ≡ false
left_of a b h = elim a as (λ v. (not v && b) ≡ true → v ≡ false) [ true ↦ λ q. absurd cc | false ↦ λ q. refl ] h

-- the sends that waited, and one more
routed_more : (routes : OpName → Option Origin) (x : Option Origin) (op : OpName) (ws : List ReplyOperation) (w : ReplyOperation) → w.op ≡ op → list_any (is_at op.slot) (map begun_of ws) ≡ false → Routed routes ws
    → ((r : PendingReply) → w.answer ≡ Some r → option_map origin_of r.source ≡ x) → Routed (λ o. cond (same_op op o) x (routes o)) (ws ++ w ∷ [])
routed_more routes x op [] w i h k n = (λ r e. n r e ∙ sym (ap (λ b. cond b x (routes w.op)) (subst (λ (o : OpName). same_op op o ≡ true) (sym i) (same_op-refl op))), k)
routed_more routes x op (v ∷ ws) w i h k n = go (is_at op.slot (begun_of v)) refl h (routed_more routes x op ws w i)
  where
    differ : (m n : ℕ) → (m == n) ≡ false → (n == m) ≡ false
    differ m n h = grind (arith, nat_tests)

    go : (b : Bool) → is_at op.slot (begun_of v) ≡ b → (b || list_any (is_at op.slot) (map begun_of ws)) ≡ false
        → (list_any (is_at op.slot) (map begun_of ws) ≡ false → Routed routes ws → ((r : PendingReply) → w.answer ≡ Some r → option_map origin_of r.source ≡ x) → Routed (λ o. cond (same_op op o) x (routes o)) (ws ++ w ∷ []))
        → Routed (λ o. cond (same_op op o) x (routes o)) (v ∷ ws ++ w ∷ [])
    go true e h again = absurd cc
    go false e h again =
        let other : same_op op v.op ≡ false = rw (differ v.op.slot op.slot e) refl in
        (λ r q. k.0 r q ∙ sym (ap (λ b. cond b x (routes v.op)) other), again h k.1 n)

pub begun_ties : (m n : Reply) (t : Moment) (w : ReplyOperation) (a : RecordedAct) (source : Option Source) (deadline : Option ℕ) → Lawful (also t (Begin w.op t.caller w.ctx a deadline)) → (h : Ties m t) → act_of w.answer ≡ a → ((r : PendingReply) → w.answer ≡ Some r → r.source ≡ source)
    → option_map origin_of source ≡ origin_at w.ctx m.places.items → ((d : ℕ) → origin_at d n.places.items ≡ cond (w.ctx == d) None (origin_at d m.places.items)) → map ctx_of n.places.items ≡ map ctx_of m.places.items
    → Holds n.waiting (h.waits ++ w ∷ []) → StayPassed m.waiting.replies n.waiting.replies → n.ports ≡ m.ports → n.kept ≡ m.kept → (n.raw ≡ m.raw) × (n.options ≡ m.options) × (n.role ≡ m.role) → Ties n (also t (Begin w.op t.caller w.ctx a deadline))
begun_ties m n t w a source deadline l h i j u v x e y p f same =
    let may = l.turn.0.itself in
    let free = left_of _ _ may.slot_free in
    record {
      kind = rw (same.0, same.1, same.2) h.kind;
      most = rw same.1 h.most;
      pipes = rw p h.pipes;
      items = rw f h.items;
      waits = h.waits ++ w ∷ [];
      holds = e;
      pending =
          map-append begun_of h.waits (w ∷ []) ∙ ap (λ (ss : List Begun). ss ++ begun_of w ∷ []) h.pending
          ∙ ap (λ (b : RecordedAct). pend (past t) ++ record { op = w.op; ctx = w.ctx; act = b } ∷ []) i;
      apart = apart_more (pend (past t)) (record { op = w.op; ctx = w.ctx; act = a }) h.apart free;
      contexts = x ∙ h.contexts;
      of_contexts = of_contexts_more (ctxs (past t)) (pend (past t)) (record { op = w.op; ctx = w.ctx; act = a }) h.of_contexts may.ctx_open;
      stored = λ d. v d ∙ ap (λ (o : Option Origin). cond (w.ctx == d) None o) (h.stored d) ∙ swapped (has_stored t.z) (w.ctx == d) _;
      routed = routed_more (λ o. route t.z (past t) o) (stored t.z (past t) w.ctx) w.op h.waits w refl (rw h.pending free) h.routed (λ r q. ap (option_map origin_of) (j r q) ∙ u ∙ h.stored w.ctx);
      stuck = stay_stuck m n p same.0 y h.stuck;
    }

-- ---- Closed

nothing : (b : Bool) → cond {A = Option Origin} b None None ≡ None
nothing true = refl
nothing false = refl

pub closed_ties : (m n : Reply) (t : Moment) (totals : Totals) → Ties m t → n.kept.items ≡ [] → map ctx_of n.places.items ≡ map ctx_of m.places.items → ((d : ℕ) → origin_at d n.places.items ≡ None) → n.ports ≡ m.ports → n.waiting ≡ m.waiting → (n.raw ≡ m.raw) × (n.options ≡ m.options) × (n.role ≡ m.role)
    → Ties n (also t (Close totals))
closed_ties m n t totals h f x v p w same =
    record {
      kind = rw (same.0, same.1, same.2) h.kind;
      most = rw same.1 h.most;
      pipes = rw p h.pipes;
      items = ap (map item_of) f;
      waits = h.waits;
      holds = rw w h.holds;
      pending = h.pending;
      apart = h.apart;
      contexts = x ∙ h.contexts;
      of_contexts = h.of_contexts;
      stored = λ d. v d ∙ sym (nothing (has_stored t.z));
      routed = h.routed;
      stuck = rw (same.0, p, w) h.stuck;
    }

-- ---- What a rep never does

pub never_floods : {A : Type 0} (m : Reply) (t : Moment) → Ties m t → floods t.z.role ≡ true → A
never_floods m t h f = let k : false ≡ true = sym (no_floods m.role t.z (is_rep m t h)) ∙ f in absurd cc

-- The history that a rep stands for after an end.
use Rattle.std.proofs.Common.{◌≡◌, refl, ap, sym, ◌∙◌, subst, List, [], ◌∷◌, ◌++◌, ℕ, Bool, true, false, cond, arith, Option, Some, None, map}
use Rattle.std.specs.Prelude.{find, filter, drop, not, ◌||◌, ◌==◌}
use Rattle.std.specs.Option.{option_map}
use Rattle.std.proofs.lemmas.Bool.Decides.{nat_tests}
use Rattle.sp_base.specs.declared.OpName.{OpName}
use Rattle.sp_base.specs.declared.role.Role.{Role}
use Rattle.sp_base.specs.declared.role.Role.TheVariants as role
use Rattle.sp_msg.specs.Views.{MessageView}
use Rattle.sp_history.specs.declared.setting.Setting.{Setting}
use Rattle.sp_history.specs.declared.entry.Entry.{Entry}
use Rattle.sp_history.specs.declared.entry.Entry.TheVariants.{End, Out}
use Rattle.sp_history.specs.declared.entry.RecordedAct.TheVariants.{Recv, Send}
use Rattle.sp_history.specs.declared.entry.Cause.{Cause}
use Rattle.sp_history.specs.declared.entry.Ending.TheVariants.{Won, Gone}
use Rattle.sp_history.specs.declared.entry.Completion.TheVariants.{Received, Sent}
use Rattle.sp_history.specs.declared.entry.RecordedMessage.{RecordedMessage}
use Rattle.sp_history.specs.declared.parts.Begun.{Begun}
use Rattle.sp_history.specs.declared.parts.Item.{Item}
use Rattle.sp_history.specs.declared.parts.LiveRequest.{LiveRequest}
use Rattle.sp_history.specs.declared.parts.Origin.{Origin}
use Rattle.sp_history.specs.Lists.{has, is_number}
use Rattle.sp_history.specs.Setting.{has_stored}
use Rattle.sp_history.specs.Past.{is_of, without_begun, pend, pending, up, ctxs}
use Rattle.sp_history.specs.Kept.{route, pool, kept, stored}
use Rattle.sp_history.specs.Requests.{request_of}
use Rattle.sp_history.specs.Sends.{may_go, is_origin, traced, targets, bytes_of, bytes_for}
use Rattle.sp_history.specs.Once.{AreApart}
use Rattle.sp_history.specs.Moments.{Moment, past, also}
use Rattle.sp_proto.specs.Kinds.{text_of}
use Rattle.sp_proto.specs.Readings.{reading}
use Rattle.sp_proto.specs.Machines.{CanGive, CanSend, CanDrop, message_of}
use Rattle.proto_rep.specs.declared.rep.Reply.{Reply}
use Rattle.proto_rep.specs.declared.rep.KeptRequest.{KeptRequest}
use Rattle.proto_rep.specs.declared.rep.Source.{Source}
use Rattle.proto_rep.specs.Places.{ReplyContext}
use Rattle.proto_rep.specs.declared.replies.PendingReply.{PendingReply}
use Rattle.proto_rep.specs.declared.operations.ReplyOperation.{ReplyOperation}
use Rattle.proto_rep.specs.Reps.{Ties, Stands, item_of, origin_of, origin_at, ctx_of, out_text, words_of, Routed, AreOfContexts, Given, role_of}
use Rattle.proto_rep.specs.Operations.{Holds, begun_of, act_of, is_for, without_first}
use Rattle.proto_rep.specs.Replies.{StayPassed, target_of}
use Rattle.proto_rep.proofs.OperationsLeft.{find_begun, without_all}
use Rattle.proto_requests.proofs.NamesApart.{apart_without}
use Rattle.sp_history.specs.Lists.{head_of}
use Rattle.sp_history.specs.Kept.{is_on_pool, is_on_ctx, given_from, origin_of as from_item}
use Rattle.sp_history.specs.Sends.{targets_of, bytes_of_act}
use Rattle.proto_rep.proofs.Replied.{is_rep, is_raw, kept_rep}
use Rattle.proto_rep.specs.declared.rep.ReplyRole.{ReplyRole}
use Rattle.proto_rep.specs.declared.rep.ReplyRole.TheVariants as sides
use Rattle.proto_rep.proofs.Roles.{stores}
use Rattle.proto_rep.proofs.Stuck.{stay_stuck}

-- the pending operation
pub the_op : (m : Reply) (t : Moment) (op : OpName) (s : Begun) → (h : Ties m t) → pending (past t) op ≡ Some s → (w : ReplyOperation) × (find (is_for op) h.waits ≡ Some w) × (begun_of w ≡ s)
the_op m t op s h p =
    let q : find (is_of op) (map begun_of h.waits) ≡ Some s = rw h.pending p in find_begun op h.waits s q

-- no two have the same name
pub all_apart : (m : Reply) (t : Moment) → (h : Ties m t) → AreApart (map begun_of h.waits)
all_apart m t h = subst (λ (ss : List Begun). AreApart ss) (sym h.pending) h.apart

left_over : (m : Reply) (t : Moment) (op : OpName) → (h : Ties m t) → map begun_of (without_first op h.waits) ≡ without_begun (pend (past t)) op
left_over m t op h = without_all op h.waits (all_apart m t h op) ∙ ap (λ (ss : List Begun). without_begun ss op) h.pending

of_contexts_without : (cs : List ℕ) (ss : List Begun) (op : OpName) → AreOfContexts cs ss → AreOfContexts cs (without_begun ss op)
of_contexts_without cs [] op h = h
of_contexts_without cs (s ∷ ss) op h = go (is_of op s) (of_contexts_without cs ss op h.1)
  where
    go : (b : Bool) → AreOfContexts cs (without_begun ss op) → AreOfContexts cs (cond (not b) (s ∷ without_begun ss op) (without_begun ss op))
    go true k = k
    go false k = (h.0, k)

routed_without : (routes : OpName → Option Origin) (op : OpName) (ws : List ReplyOperation) → Routed routes ws → Routed routes (without_first op ws)
routed_without routes op [] h = h
routed_without routes op (w ∷ ws) h = go (is_for op w) (routed_without routes op ws h.1)
  where
    go : (b : Bool) → Routed routes (without_first op ws) → Routed routes (cond b ws (w ∷ without_first op ws))
    go true k = h.1
    go false k = (h.0, k)

-- the operation is no longer pending
ended : (m n : Reply) (t : Moment) (op : OpName) → (h : Ties m t) → Holds n.waiting (without_first op h.waits) → StayPassed m.waiting.replies n.waiting.replies → n.ports ≡ m.ports → n.kept ≡ m.kept → n.places ≡ m.places → (n.raw ≡ m.raw) × (n.options ≡ m.options) × (n.role ≡ m.role)
    → Stands n (record (reading t) { pend = without_begun (pend (past t)) op })
ended m n t op h e u p f g same =
    record {
      kind = rw (same.0, same.1, same.2) h.kind;
      most = rw same.1 h.most;
      pipes = rw p h.pipes;
      items = rw f h.items;
      waits = without_first op h.waits;
      holds = e;
      pending = left_over m t op h;
      apart = apart_without (pend (past t)) op h.apart;
      contexts = rw g h.contexts;
      of_contexts = of_contexts_without (ctxs (past t)) (pend (past t)) op h.of_contexts;
      stored = rw g h.stored;
      routed = routed_without (λ o. route t.z (past t) o) op h.waits h.routed;
      stuck = stay_stuck m n p same.0 u h.stuck;
    }

pub lost_ties : (m n : Reply) (t : Moment) (op : OpName) (cause : Cause) (by : ℕ) → (h : Ties m t) → Holds n.waiting (without_first op h.waits) → StayPassed m.waiting.replies n.waiting.replies → n.ports ≡ m.ports → n.kept ≡ m.kept → n.places ≡ m.places → (n.raw ≡ m.raw) × (n.options ≡ m.options) × (n.role ≡ m.role)
    → Ties n (also t (End op (Gone cause by)))
lost_ties m n t op cause by h e u p f g same = ended m n t op h e u p f g same

pub dropped_ties : (m n : Reply) (t : Moment) (op : OpName) → (h : Ties m t) → Holds n.waiting (without_first op h.waits) → StayPassed m.waiting.replies n.waiting.replies → n.ports ≡ m.ports → n.kept ≡ m.kept → n.places ≡ m.places → (n.raw ≡ m.raw) × (n.options ≡ m.options) × (n.role ≡ m.role)
    → Ties n (also t (End op (Won Sent)))
dropped_ties m n t op h e u p f g same = ended m n t op h e u p f g same

pub sent_ties : (m n : Reply) (t : Moment) (op : OpName) (p : ℕ) (b : List ℕ) → (h : Ties m t) → Holds n.waiting (without_first op h.waits) → StayPassed m.waiting.replies n.waiting.replies → n.ports ≡ m.ports → n.kept ≡ m.kept → n.places ≡ m.places → (n.raw ≡ m.raw) × (n.options ≡ m.options) × (n.role ≡ m.role)
    → Ties n (also (also t (Out p b)) (End op (Won Sent)))
sent_ties m n t op p b h e u r f g same = ended m n t op h e u r f g same

-- ---- What is given

context_of : (cs : List ℕ) (ss : List Begun) (op : OpName) (s : Begun) → AreOfContexts cs ss → find (is_of op) ss ≡ Some s → has cs s.ctx ≡ true
context_of cs [] op s h k = absurd cc
context_of cs (r ∷ ss) op s h k = go (is_of op r) k (context_of cs ss op s h.1)
  where
    some_inj : Some r ≡ Some s → r ≡ s
    some_inj q = cc

    go : (b : Bool) → cond b (Some r) (find (is_of op) ss) ≡ Some s → (find (is_of op) ss ≡ Some s → has cs s.ctx ≡ true) → has cs s.ctx ≡ true
    go true k again = subst (λ (q : Begun). has cs q.ctx ≡ true) (some_inj k) h.0
    go false k again = again k

on_pool : (y : ReplyRole) (z : Setting) (s : Begun) → z.role ≡ role_of y → is_on_pool z 0 (Some s) ≡ true
on_pool sides.Rep z s h = rw h refl
on_pool sides.Respondent z s h = rw h refl

pool_given : (y : ReplyRole) (z : Setting) (before : List Entry) (op : OpName) (s : Begun) (m : RecordedMessage) → z.role ≡ role_of y → pending before op ≡ Some s → pool z (End op (Won (Received m)) ∷ before) 0 ≡ drop 1 (pool z before 0)
pool_given y z before op s m h p = ap (λ b. cond b (drop 1 (pool z before 0)) (pool z before 0)) (ap (is_on_pool z 0) p ∙ on_pool y z s h)

stored_raw : (y : ReplyRole) (z : Setting) (before : List Entry) (c : ℕ) → z.role ≡ role_of y → z.raw ≡ true → stored z before c ≡ None
stored_raw sides.Rep z before c h r = rw (h, r) refl
stored_raw sides.Respondent z before c h r = rw (h, r) refl

stored_given : (y : ReplyRole) (z : Setting) (before : List Entry) (op : OpName) (s : Begun) (m : RecordedMessage) (i : Item) (is : List Item) (c : ℕ) → z.role ≡ role_of y → z.raw ≡ false → pending before op ≡ Some s → i ∷ is ≡ pool z before 0
    → stored z (End op (Won (Received m)) ∷ before) c ≡ cond (s.ctx == c) (Some (record { pipe = i.pipe; words = i.words })) (stored z before c)
stored_given y z before op s m i is c h r p e =
    let k : kept z before c ≡ i ∷ is = kept_rep y z before c h ∙ sym e in
    let on : has_stored z ≡ true = stores y z h r in
    let rest : Option Origin = given_from z before c in
    ap (λ b. cond b (cond (is_on_ctx c (pending before op)) (option_map from_item (head_of (kept z before c))) rest) None) on
    ∙ ap (λ (o : Option Begun). cond (is_on_ctx c o) (option_map from_item (head_of (kept z before c))) rest) p
    ∙ ap (λ (xs : List Item). cond (s.ctx == c) (option_map from_item (head_of xs)) rest) k
    ∙ sym (ap (λ b. cond (s.ctx == c) (Some (record { pipe = i.pipe; words = i.words })) (cond b rest None)) on)

module _ (m n : Reply) (t : Moment) (op : OpName) (s : Begun) (text : RecordedMessage) where
  none_given : {A : Type 0} → Ties m t → CanGive t op s text → m.kept.items ≡ [] → A
  none_given h c e =
      let items_are : [] ≡ pool t.z (past t) 0 = sym (ap (map item_of) e) ∙ h.items in
      let oldest : None ≡ Some text = rw (kept_rep m.role t.z (past t) s.ctx (is_rep m t h), ← items_are) at c.may.oldest in
      absurd cc

  given_stored : (k : KeptRequest) (ks : List KeptRequest) → Ties m t → CanGive t op s text → m.kept.items ≡ k ∷ ks → (b : Bool) → m.raw ≡ b
      → (m.raw ≡ true → n.places ≡ m.places)
      → (m.raw ≡ false → has (map ctx_of m.places.items) s.ctx ≡ true → (d : ℕ) → origin_at d n.places.items ≡ cond (s.ctx == d) (Some (record { pipe = k.pipe; words = k.words })) (origin_at d m.places.items))
      → (d : ℕ) → origin_at d n.places.items ≡ stored t.z (past (also t (End op (Won (Received text))))) d
  given_stored k ks h c f true r u v d =
      let raw : t.z.raw ≡ true = is_raw m t h ∙ r in
      ap (λ (xs : List ReplyContext). origin_at d xs) (rw (u r) refl) ∙ h.stored d ∙ stored_raw m.role t.z (past t) d (is_rep m t h) raw ∙ sym (stored_raw m.role t.z (past (also t (End op (Won (Received text))))) d (is_rep m t h) raw)
  given_stored k ks h c f false r u v d =
      let raw : t.z.raw ≡ false = is_raw m t h ∙ r in
      let items_are : item_of k ∷ map item_of ks ≡ pool t.z (past t) 0 = sym (ap (map item_of) f) ∙ h.items in
      let within : has (map ctx_of m.places.items) s.ctx ≡ true = rw h.contexts (context_of (ctxs (past t)) (pend (past t)) op s h.of_contexts c.pending) in
      v r within d ∙ ap (λ (o : Option Origin). cond (s.ctx == d) (Some (record { pipe = k.pipe; words = k.words })) o) (h.stored d)
      ∙ sym (stored_given m.role t.z (past t) op s text (item_of k) (map item_of ks) d (is_rep m t h) raw c.pending items_are)

  pub given_ties : (r : Option MessageView) (k : Option KeptRequest) → (h : Ties m t) → CanGive t op s text → Given s.ctx r m n k → Holds n.waiting (without_first op h.waits) → StayPassed m.waiting.replies n.waiting.replies → n.ports ≡ m.ports → (n.raw ≡ m.raw) × (n.options ≡ m.options) × (n.role ≡ m.role)
      → (option_map text_of r ≡ Some text) × Ties n (also t (End op (Won (Received text))))
  given_ties r None h c g e u p same = none_given h c g.1
  given_ties r (Some k) h c g e u p same =
      let items_are : item_of k ∷ map item_of n.kept.items ≡ pool t.z (past t) 0 = sym (ap (map item_of) g.1) ∙ h.items in
      let oldest : Some (text_of k.message) ≡ Some text = rw (kept_rep m.role t.z (past t) s.ctx (is_rep m t h), ← items_are) at c.may.oldest in (
        ap (option_map text_of) g.0 ∙ oldest,
        record {
          kind = rw (same.0, same.1, same.2) h.kind;
          most = rw same.1 h.most;
          pipes = rw p h.pipes;
          items = ap (drop 1) items_are ∙ sym (pool_given m.role t.z (past t) op s text (is_rep m t h) c.pending);
          waits = without_first op h.waits;
          holds = e;
          pending = left_over m t op h;
          apart = apart_without (pend (past t)) op h.apart;
          contexts = g.2 ∙ h.contexts;
          of_contexts = of_contexts_without (ctxs (past t)) (pend (past t)) op h.of_contexts;
          stored = given_stored k n.kept.items h c g.1 m.raw refl g.3 g.4;
          routed = routed_without (λ o. route t.z (past t) o) op h.waits h.routed;
          stuck = stay_stuck m n p same.0 u h.stuck;
        },
      )

-- ---- What goes out

-- back to where its request came from
goes_back : (s : Option Source) (p : ℕ) → is_origin (option_map origin_of s) p ≡ is_number (option_map (λ (x : Source). x.pipe) s) p
goes_back None p = refl
goes_back (Some s) p = refl

-- where a send may go
pub may_go_is : (y : ReplyRole) (raw : Bool) (r : PendingReply) (o : Option Origin) (p : ℕ) → option_map origin_of r.source ≡ o → may_go (role_of y) raw o r.message.header p ≡ is_number (target_of raw r) p
may_go_is sides.Rep true r o p h = refl
may_go_is sides.Respondent true r o p h = refl
may_go_is sides.Rep false r o p h = ap (λ (q : Option Origin). may_go role.Rep false q r.message.header p) (sym h) ∙ goes_back r.source p
may_go_is sides.Respondent false r o p h = ap (λ (q : Option Origin). may_go role.Respondent false q r.message.header p) (sym h) ∙ goes_back r.source p

filter_is : (P Q : ℕ → Bool) (us : List ℕ) → ((u : ℕ) → P u ≡ Q u) → filter P us ≡ filter Q us
filter_is P Q [] h = refl
filter_is P Q (u ∷ us) h = rw (h u) (ap (λ (rest : List ℕ). cond (Q u) (u ∷ rest) rest) (filter_is P Q us h))

pub targets_are : (y : ReplyRole) (z : Setting) (before : List Entry) (raw : Bool) (w : ReplyOperation) (r : PendingReply) → z.role ≡ role_of y → z.raw ≡ raw → w.answer ≡ Some r → option_map origin_of r.source ≡ route z before w.op
    → targets z before (begun_of w) ≡ filter (is_number (target_of raw r)) (up before)
targets_are y z before raw w r h k e o =
    ap (λ (x : Option PendingReply). targets_of z before w.op (act_of x)) e
    ∙ ap (λ (x : Role). filter (may_go x z.raw (route z before w.op) r.message.header) (up before)) h
    ∙ ap (λ (x : Bool). filter (may_go (role_of y) x (route z before w.op) r.message.header) (up before)) k
    ∙ filter_is (may_go (role_of y) raw (route z before w.op) r.message.header) (is_number (target_of raw r)) (up before) (λ u. may_go_is y raw r (route z before w.op) u o)

-- the request that a pending send answers
pub route_of : (routes : OpName → Option Origin) (P : ReplyOperation → Bool) (ws : List ReplyOperation) (w : ReplyOperation) (r : PendingReply) → Routed routes ws → find P ws ≡ Some w → w.answer ≡ Some r → option_map origin_of r.source ≡ routes w.op
route_of routes P [] w r h f e = absurd cc
route_of routes P (v ∷ ws) w r h f e = go (P v) f (λ k. route_of routes P ws w r h.1 k e)
  where
    some_inj : Some v ≡ Some w → v ≡ w
    some_inj q = cc

    go : (b : Bool) → cond b (Some v) (find P ws) ≡ Some w → (find P ws ≡ Some w → option_map origin_of r.source ≡ routes w.op) → option_map origin_of r.source ≡ routes w.op
    go true f again =
        let is : v ≡ w = some_inj f in
        subst (λ (x : ReplyOperation). option_map origin_of r.source ≡ routes x.op) is (h.0 r (ap (λ (x : ReplyOperation). x.answer) is ∙ e))
    go false f again = again f

-- the words lead it there
leads_back : (s : Option Source) (p : ℕ) (body : List ℕ) → is_number (option_map (λ (x : Source). x.pipe) s) p ≡ true → traced (option_map origin_of s) body ≡ Some (words_of s ++ body)
leads_back None p body k = absurd cc
leads_back (Some s) p body k = refl

pub out_bytes : (y : ReplyRole) (raw : Bool) (r : PendingReply) (o : Option Origin) (q : Option LiveRequest) (p : ℕ) → option_map origin_of r.source ≡ o → is_number (target_of raw r) p ≡ true → bytes_for (role_of y) raw o q (text_of r.message) ≡ Some (out_text raw r)
out_bytes sides.Rep true r o q p h k = refl
out_bytes sides.Respondent true r o q p h k = refl
out_bytes sides.Rep false r o q p h k = ap (λ (x : Option Origin). traced x r.message.body) (sym h) ∙ leads_back r.source p r.message.body k
out_bytes sides.Respondent false r o q p h k = ap (λ (x : Option Origin). traced x r.message.body) (sym h) ∙ leads_back r.source p r.message.body k

has_filter : (P : ℕ → Bool) (us : List ℕ) (p : ℕ) → has (filter P us) p ≡ true → P p ≡ true
has_filter P [] p h = absurd cc
has_filter P (u ∷ us) p h = go (P u) refl h (has_filter P us p)
  where
    equal_of : (m n : ℕ) → (m == n) ≡ true → m ≡ n
    equal_of m n h = grind (arith, nat_tests)

    step : P u ≡ true → (b : Bool) → (u == p) ≡ b → (b || has (filter P us) p) ≡ true → (has (filter P us) p ≡ true → P p ≡ true) → P p ≡ true
    step e true f h again = subst (λ n. P n ≡ true) (equal_of u p f) e
    step e false f h again = again h

    go : (b : Bool) → P u ≡ b → has (cond b (u ∷ filter P us) (filter P us)) p ≡ true → (has (filter P us) p ≡ true → P p ≡ true) → P p ≡ true
    go true e h again = step e (u == p) refl h again
    go false e h again = again h

-- what goes out for a send that can go
pub goes_out : (m : Reply) (t : Moment) (op : OpName) (p : ℕ) (s : Begun) (b : List ℕ) (w : ReplyOperation) (r : PendingReply) → (h : Ties m t) → CanSend t op p s b → find (is_for op) h.waits ≡ Some w → begun_of w ≡ s → w.answer ≡ Some r → out_text m.raw r ≡ b
goes_out m t op p s b w r h c f e g =
    let from : option_map origin_of r.source ≡ route t.z (past t) w.op = route_of (λ o. route t.z (past t) o) (is_for op) h.waits w r h.routed f g in
    let targets_is = targets_are m.role t.z (past t) m.raw w r (is_rep m t h) (is_raw m t h) g from in
    let there : has (targets t.z (past t) (begun_of w)) p ≡ true = subst (λ (q : Begun). has (targets t.z (past t) q) p ≡ true) (sym e) c.target in
    let number : is_number (target_of m.raw r) p ≡ true = has_filter (is_number (target_of m.raw r)) (up (past t)) p (sym (ap (λ us. has us p) targets_is) ∙ there) in
    let bytes : bytes_of t.z (past t) (begun_of w) ≡ Some b = subst (λ (q : Begun). bytes_of t.z (past t) q ≡ Some b) (sym e) c.bytes in
    some_inj (sym (bytes_is from number) ∙ bytes)
  where
    some_inj : Some (out_text m.raw r) ≡ Some b → out_text m.raw r ≡ b
    some_inj q = cc

    bytes_is : option_map origin_of r.source ≡ route t.z (past t) w.op → is_number (target_of m.raw r) p ≡ true → bytes_of t.z (past t) (begun_of w) ≡ Some (out_text m.raw r)
    bytes_is o k =
        ap (λ (x : Option PendingReply). bytes_of_act t.z (past t) (begun_of w) (act_of x)) g
        ∙ ap (λ (x : Role). bytes_for x t.z.raw (route t.z (past t) w.op) (request_of t.z (past t) (begun_of w)) (text_of r.message)) (is_rep m t h)
        ∙ ap (λ (x : Bool). bytes_for (role_of m.role) x (route t.z (past t) w.op) (request_of t.z (past t) (begun_of w)) (text_of r.message)) (is_raw m t h)
        ∙ out_bytes m.role m.raw r (route t.z (past t) w.op) (request_of t.z (past t) (begun_of w)) p o k

pub recv_isnt_send : {A : Type 0} (m : Reply) (t : Moment) (op : OpName) (p : ℕ) (s : Begun) (b : List ℕ) (w : ReplyOperation) → CanSend t op p s b → begun_of w ≡ s → w.answer ≡ None → A
recv_isnt_send m t op p s b w c e g =
    let act : s.act ≡ Recv = ap (λ (q : Begun). q.act) (sym e) ∙ ap act_of g in
    let k : false ≡ true = rw act at c.target in
    absurd cc

pub recv_isnt_answer : {A : Type 0} (t : Moment) (op : OpName) (s : Begun) (w : ReplyOperation) → CanDrop t op s → begun_of w ≡ s → w.answer ≡ None → A
recv_isnt_answer t op s w c e g =
    let act : s.act ≡ Recv = ap (λ (q : Begun). q.act) (sym e) ∙ ap act_of g in
    let k : true ≡ false = rw act at c.is_send in
    absurd cc

pub send_isnt_recv : {A : Type 0} (t : Moment) (op : OpName) (s : Begun) (text : RecordedMessage) (w : ReplyOperation) (r : PendingReply) → CanGive t op s text → begun_of w ≡ s → w.answer ≡ Some r → A
send_isnt_recv t op s text w r c e g =
    let act : s.act ≡ Send (text_of r.message) = ap (λ (q : Begun). q.act) (sym e) ∙ ap act_of g in
    let k : false ≡ true = rw act at c.may.is_receive in
    absurd cc

-- ---- Taken out

pub taken : (m : Reply) (t : Moment) (op : OpName) (s : Begun) (w : ReplyOperation) → (h : Ties m t) → pending (past t) op ≡ Some s → Some w ≡ find (is_for op) h.waits → begun_of w ≡ s
taken m t op s w h p e = let v = the_op m t op s h p in ap begun_of (some_inj v.0 (e ∙ v.1)) ∙ v.2
  where
    some_inj : (v : ReplyOperation) → Some w ≡ Some v → w ≡ v
    some_inj v q = cc

pub none_taken : {A : Type 0} (m : Reply) (t : Moment) (op : OpName) (s : Begun) → (h : Ties m t) → pending (past t) op ≡ Some s → None ≡ find (is_for op) h.waits → A
none_taken m t op s h p e = let v = the_op m t op s h p in let k : None ≡ Some v.0 = e ∙ v.1 in absurd cc

pub its_message : (s : Begun) (w : ReplyOperation) (r : PendingReply) → begun_of w ≡ s → w.answer ≡ Some r → Some (text_of r.message) ≡ message_of s.act
its_message s w r e g = sym (ap (λ (x : Option PendingReply). message_of (act_of x)) g) ∙ ap (λ (q : Begun). message_of q.act) e

pub no_message : (s : Begun) (w : ReplyOperation) → begun_of w ≡ s → w.answer ≡ None → None ≡ message_of s.act
no_message s w e g = sym (ap (λ (x : Option PendingReply). message_of (act_of x)) g) ∙ ap (λ (q : Begun). message_of q.act) e

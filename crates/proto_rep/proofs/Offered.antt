-- What a rep offers.
use Rattle.std.proofs.Common.{◌≡◌, refl, ap, sym, ◌∙◌, subst, List, [], ◌∷◌, ℕ, Bool, true, false, cond, arith, Option, Some, None, map}
use Rattle.std.specs.Prelude.{◌⊎◌, find, filter, not, is_some, ◌&&◌, ◌||◌, ◌==◌}
use Rattle.std.specs.List.{list_all, list_any}
use Rattle.std.specs.Option.{option_map}
use Rattle.std.proofs.lemmas.Bool.Decides.{nat_tests}
use Rattle.sp_base.specs.declared.role.Role.{Role}
use Rattle.sp_history.specs.declared.setting.Setting.{Setting}
use Rattle.sp_history.specs.declared.entry.Entry.{Entry}
use Rattle.sp_history.specs.declared.entry.RecordedAct.TheVariants.{Recv}
use Rattle.sp_history.specs.declared.parts.Begun.{Begun}
use Rattle.sp_history.specs.Lists.{has, is_nil, is_number, same_op}
use Rattle.sp_history.specs.Setting.{is_reply, is_pair1, has_hops}
use Rattle.sp_history.specs.Past.{is_of, up}
use Rattle.sp_history.specs.Kept.{route, pool, kept}
use Rattle.sp_history.specs.Requests.{request_of}
use Rattle.sp_history.specs.Sends.{targets, begun_before, unclaimed, bytes_for}
use Rattle.sp_history.specs.Settled.{receive_settled, send_settled, has_full}
use Rattle.sp_history.specs.Legal.{Calm, is_recv, is_recv_on}
use Rattle.sp_history.specs.Moments.{Moment, past}
use Rattle.sp_history.proofs.OnceHolds.{same_op-refl}
use Rattle.sp_proto.specs.Kinds.{text_of}
use Rattle.sp_proto.specs.Machines.{CanGive, CanSend, CanDrop, IsIdle}
use Rattle.proto_rep.specs.declared.rep.Reply.{Reply}
use Rattle.proto_rep.specs.declared.rep.KeptRequest.{KeptRequest}
use Rattle.proto_rep.specs.declared.replies.PendingReply.{PendingReply}
use Rattle.proto_rep.specs.declared.operations.ReplyOperation.{ReplyOperation}
use Rattle.proto_requests.specs.Ports.{PortView, port_of}
use Rattle.proto_requests.specs.declared.ports.Destination.{Destination}
use Rattle.proto_requests.specs.declared.ports.Destination.TheVariants as ways
use Rattle.proto_rep.specs.Reps.{Ties, item_of, origin_of, out_text, Routed, role_of}
use Rattle.proto_rep.specs.Operations.{begun_of, act_of, is_receive, is_ready, is_ready_to, can_go, can_go_to, answer_offer, SendsFirst}
use Rattle.proto_rep.specs.Replies.{isnt_full, key_of, target_of, way_of, way_offer}
use Rattle.proto_rep.proofs.OperationsLeft.{find_own}
use Rattle.proto_requests.proofs.Piping.{goes_on, is_full_at, nowhere_up, has_number, all_full}
use Rattle.std.proofs.Common.{inl, inr}
use Rattle.proto_rep.proofs.RepEnds.{all_apart, targets_are, route_of, out_bytes}
use Rattle.sp_proto.specs.Machines.{IsOffered}
use Rattle.sp_proto.specs.declared.Offer.{Offer}
use Rattle.sp_history.specs.Sends.{targets_of, bytes_of_act, lacks_hops, has_no_way}
use Rattle.proto_rep.proofs.Replied.{is_rep, is_raw, kept_rep}
use Rattle.proto_rep.specs.declared.rep.ReplyRole.{ReplyRole}
use Rattle.proto_rep.proofs.Roles.{replies, no_pair, no_floods, asks_nothing, no_resends}
use Rattle.sp_history.specs.Requests.{asked, no_requests}

-- ---- Idle

both : (a b : Bool) → a ≡ true → b ≡ true → (a && b) ≡ true
both a b h k = rw (h, k) refl

receives_kept : (y : ReplyRole) (z : Setting) (before : List Entry) (ws : List ReplyOperation) → z.role ≡ role_of y → pool z before 0 ≡ [] → list_all (receive_settled z before) (map begun_of ws) ≡ true
receives_kept y z before [] h e = refl
receives_kept y z before (w ∷ ws) h e = both _ _ (either (is_recv (act_of w.answer)) (ap is_nil (kept_rep y z before w.ctx h ∙ e))) (receives_kept y z before ws h e)
  where
    either : (b : Bool) → is_nil (kept z before w.ctx) ≡ true → (not b || is_nil (kept z before w.ctx)) ≡ true
    either true k = k
    either false k = refl

receives_none : (z : Setting) (before : List Entry) (ws : List ReplyOperation) → find is_receive ws ≡ None → list_all (receive_settled z before) (map begun_of ws) ≡ true
receives_none z before [] h = refl
receives_none z before (w ∷ ws) h = go w.answer h (receives_none z before ws)
  where
    go : (r : Option PendingReply) → cond (not (is_some r)) (Some w) (find is_receive ws) ≡ None → (find is_receive ws ≡ None → list_all (receive_settled z before) (map begun_of ws) ≡ true)
        → ((not (is_recv (act_of r)) || is_nil (kept z before w.ctx)) && list_all (receive_settled z before) (map begun_of ws)) ≡ true
    go None h again = absurd cc
    go (Some r) h again = again h

not_nil : (us : List ℕ) (q : ℕ) → has us q ≡ true → is_nil (filter (is_number (Some q)) us) ≡ false
not_nil [] q h = absurd cc
not_nil (u ∷ us) q h = go (q == u) refl (u == q) refl h (not_nil us q)
  where
    turned : (m n : ℕ) → (m == n) ≡ false → (n == m) ≡ true → ⊥
    turned m n h k = grind (arith, nat_tests)

    go : (a : Bool) → (q == u) ≡ a → (b : Bool) → (u == q) ≡ b → (b || has us q) ≡ true → (has us q ≡ true → is_nil (filter (is_number (Some q)) us) ≡ false) → is_nil (cond a (u ∷ filter (is_number (Some q)) us) (filter (is_number (Some q)) us)) ≡ false
    go true e b f h again = refl
    go false e true f h again = absurd (turned q u e f)
    go false e false f h again = again h

-- a send that isn't ready finds its pipe full
full_targets : (y : ReplyRole) (z : Setting) (before : List Entry) (full : ℕ → Bool) (raw : Bool) (w : ReplyOperation) (r : PendingReply) → z.role ≡ role_of y → z.raw ≡ raw → w.answer ≡ Some r → option_map origin_of r.source ≡ route z before w.op
    → isnt_full (way_of raw (map (port_of full) (up before)) r) ≡ false → (q : ℕ) × (targets z before (begun_of w) ≡ filter (is_number (Some q)) (up before)) × (has (up before) q ≡ true) × (full q ≡ true)
full_targets y z before full raw w r h k e o f =
    let at = is_full_at full (up before) (target_of raw r) (is_full_way (way_of raw (map (port_of full) (up before)) r) f) in
    (at.0, targets_are y z before raw w r h k e o ∙ ap (λ (to : Option ℕ). filter (is_number to) (up before)) at.1, at.2, at.3)
  where
    is_full_way : (x : Destination) → isnt_full x ≡ false → x ≡ ways.Full
    is_full_way ways.Full h = refl
    is_full_way ways.Nowhere h = absurd cc
    is_full_way (ways.To p) h = absurd cc

settled_send : (y : ReplyRole) (z : Setting) (before : List Entry) (full : ℕ → Bool) (raw : Bool) (w : ReplyOperation) → z.role ≡ role_of y → z.raw ≡ raw → ((r : PendingReply) → w.answer ≡ Some r → option_map origin_of r.source ≡ route z before w.op)
    → is_ready raw (map (port_of full) (up before)) w ≡ false → send_settled z before full (begun_of w) ≡ true
settled_send y z before full raw w h k o f = go w.answer refl
  where
    holds : (b : Bool) (us : List ℕ) (lacks : Bool) (q : ℕ) → us ≡ filter (is_number (Some q)) (up before) → has (up before) q ≡ true → full q ≡ true
        → (b || list_all full us && not (is_reply z.role && is_nil us || (is_pair1 z.role && z.raw) && lacks)) ≡ true
    holds true us lacks q e g i = refl
    holds false us lacks q e g i = rw (e, all_full full (up before) q i, not_nil (up before) q g, replies y z h, no_pair y z h) refl

    go : (x : Option PendingReply) → w.answer ≡ x → send_settled z before full (begun_of w) ≡ true
    go None e = ap (λ (x : Option PendingReply). is_recv (act_of x) || list_all full (targets z before (begun_of w)) && not (has_no_way z before (begun_of w))) e
    go (Some r) e =
        let at = full_targets y z before full raw w r h k e (o r e) (sym (ap (λ (x : Option PendingReply). can_go raw (map (port_of full) (up before)) x) e) ∙ f) in
        holds (is_recv (act_of w.answer)) (targets z before (begun_of w)) (lacks_hops (act_of w.answer)) at.0 at.1 at.2 at.3

sends_settled : (y : ReplyRole) (z : Setting) (before : List Entry) (full : ℕ → Bool) (raw : Bool) (ws : List ReplyOperation) → z.role ≡ role_of y → z.raw ≡ raw → Routed (λ o. route z before o) ws → find (is_ready raw (map (port_of full) (up before))) ws ≡ None
    → list_all (send_settled z before full) (map begun_of ws) ≡ true
sends_settled y z before full raw [] h k o f = refl
sends_settled y z before full raw (w ∷ ws) h k o f = go (is_ready raw (map (port_of full) (up before)) w) refl f (sends_settled y z before full raw ws h k o.1)
  where
    go : (b : Bool) → is_ready raw (map (port_of full) (up before)) w ≡ b → cond b (Some w) (find (is_ready raw (map (port_of full) (up before))) ws) ≡ None
        → (find (is_ready raw (map (port_of full) (up before))) ws ≡ None → list_all (send_settled z before full) (map begun_of ws) ≡ true) → list_all (send_settled z before full) (map begun_of (w ∷ ws)) ≡ true
    go true e f again = absurd cc
    go false e f again = both _ _ (settled_send y z before full raw w h k o.0 e) (again f)

pub idle : (m : Reply) (t : Moment) → (h : Ties m t) → (m.kept.items ≡ []) ⊎ (find is_receive h.waits ≡ None) → find (is_ready m.raw m.ports.items) h.waits ≡ None → IsIdle t
idle m t h r f =
    record {
      settled =
          record {
            receives = rw (← h.pending) (receives r);
            sends = rw (← h.pending) (sends_settled m.role t.z (past t) (λ q. has_full t.turn q) m.raw h.waits (is_rep m t h) (is_raw m t h) h.routed (ap (λ (xs : List PortView). find (is_ready m.raw xs) h.waits) (sym h.pipes.ports) ∙ f));
            again = λ q. let k : false ≡ true = sym (no_resends m.role t.z (is_rep m t h)) ∙ q in absurd cc;
            finished = ap (λ b. (cond b (asked t.z (past t)) no_requests).orphans) (asks_nothing m.role t.z (is_rep m t h));
          };
      no_flood = λ q. let k : false ≡ true = sym (no_floods m.role t.z (is_rep m t h)) ∙ q in absurd cc;
    }
  where
    receives : (m.kept.items ≡ []) ⊎ (find is_receive h.waits ≡ None) → list_all (receive_settled t.z (past t)) (map begun_of h.waits) ≡ true
    receives (inl e) = receives_kept m.role t.z (past t) h.waits (is_rep m t h) (sym h.items ∙ ap (map item_of) e)
    receives (inr e) = receives_none t.z (past t) h.waits e

-- ---- Give

first_on : (ws : List ReplyOperation) (w : ReplyOperation) → find is_receive ws ≡ Some w → option_map (λ (s : Begun). s.op) (find (is_recv_on w.ctx) (map begun_of ws)) ≡ Some w.op
first_on [] w h = absurd cc
first_on (v ∷ ws) w h = go v.answer refl h (first_on ws w)
  where
    some_inj : Some v ≡ Some w → v ≡ w
    some_inj q = cc

    same_number : (n : ℕ) → (n == n) ≡ true
    same_number n = grind (arith, nat_tests)

    go : (r : Option PendingReply) → v.answer ≡ r → cond (not (is_some r)) (Some v) (find is_receive ws) ≡ Some w → (find is_receive ws ≡ Some w → option_map (λ (s : Begun). s.op) (find (is_recv_on w.ctx) (map begun_of ws)) ≡ Some w.op)
        → option_map (λ (s : Begun). s.op) (cond (is_recv (act_of r) && (v.ctx == w.ctx)) (Some (record { op = v.op; ctx = v.ctx; act = act_of r })) (find (is_recv_on w.ctx) (map begun_of ws))) ≡ Some w.op
    go None e h again =
        let is : v ≡ w = some_inj h in
        subst
        (λ (x : ReplyOperation). option_map (λ (s : Begun). s.op) (cond (x.ctx == w.ctx) (Some (record { op = x.op; ctx = x.ctx; act = Recv })) (find (is_recv_on w.ctx) (map begun_of ws))) ≡ Some w.op)
        (sym is)
        (ap (λ b. option_map (λ (s : Begun). s.op) (cond b (Some (record { op = w.op; ctx = w.ctx; act = Recv })) (find (is_recv_on w.ctx) (map begun_of ws)))) (same_number w.ctx))
    go (Some r) e h again = again h

receives_act : (ws : List ReplyOperation) (w : ReplyOperation) → find is_receive ws ≡ Some w → is_recv (act_of w.answer) ≡ true
receives_act [] w h = absurd cc
receives_act (v ∷ ws) w h = go v.answer refl h (receives_act ws w)
  where
    some_inj : Some v ≡ Some w → v ≡ w
    some_inj q = cc

    go : (r : Option PendingReply) → v.answer ≡ r → cond (not (is_some r)) (Some v) (find is_receive ws) ≡ Some w → (find is_receive ws ≡ Some w → is_recv (act_of w.answer) ≡ true) → is_recv (act_of w.answer) ≡ true
    go None e h again = ap (λ (x : ReplyOperation). is_recv (act_of x.answer)) (sym (some_inj h)) ∙ ap (λ (x : Option PendingReply). is_recv (act_of x)) e
    go (Some r) e h again = again h

pub can_give : (m : Reply) (t : Moment) (k : KeptRequest) (ks : List KeptRequest) (w : ReplyOperation) → (h : Ties m t) → m.kept.items ≡ k ∷ ks → find is_receive h.waits ≡ Some w → CanGive t w.op (begun_of w) (text_of k.message)
can_give m t k ks w h e f =
    let apart = all_apart m t h in
    record {
      pending = ap (find (is_of w.op)) (sym h.pending) ∙ find_own is_receive h.waits w f apart;
      may =
          record {
            is_receive = receives_act h.waits w f;
            first_pending = ap (λ (ss : List Begun). option_map (λ (s : Begun). s.op) (find (is_recv_on w.ctx) ss)) (sym h.pending) ∙ first_on h.waits w f;
            oldest = rw (kept_rep m.role t.z (past t) w.ctx (is_rep m t h), ← h.items, e) refl;
            live = λ q. let no : false ≡ true = sym (asks_nothing m.role t.z (is_rep m t h)) ∙ q in absurd cc;
          };
    }

-- ---- Send and Drop

-- what goes to another pipe, or to none, doesn't go to this one
has_other : (to : Option ℕ) (us : List ℕ) (p : ℕ) → (key_of to == key_of (Some p)) ≡ false → has (filter (is_number to) us) p ≡ false
has_other None us p h = none us
  where
    none : (us : List ℕ) → has (filter (is_number None) us) p ≡ false
    none [] = refl
    none (u ∷ us) = none us
has_other (Some q) us p h = has_number us q p ∙ ap (λ b. b && has us p) (differ h)
  where
    differ : (key_of (Some q) == key_of (Some p)) ≡ false → (q == p) ≡ false
    differ e = grind (arith, nat_tests)

no_earlier : (y : ReplyRole) (z : Setting) (before : List Entry) (full : ℕ → Bool) (raw : Bool) (ws : List ReplyOperation) (w : ReplyOperation) (p : ℕ) → z.role ≡ role_of y → z.raw ≡ raw → Routed (λ o. route z before o) ws
    → find (is_ready_to raw (map (port_of full) (up before)) (key_of (Some p))) ws ≡ Some w → full p ≡ false → list_any (λ other. has (targets z before other) p) (begun_before w.op (map begun_of ws)) ≡ false
no_earlier y z before full raw [] w p h k o f n = absurd cc
no_earlier y z before full raw (v ∷ ws) w p h k o f n = go (is_ready_to raw (map (port_of full) (up before)) (key_of (Some p)) v) refl f (no_earlier y z before full raw ws w p h k o.1)
  where
    some_inj : Some v ≡ Some w → v ≡ w
    some_inj q = cc

    equal_of : (m n : ℕ) → (m == n) ≡ true → m ≡ n
    equal_of m n h = grind (arith, nat_tests)

    misses : (q : ℕ) → full q ≡ true → (b : Bool) → (q == p) ≡ b → (b && has (up before) p) ≡ false
    misses q e true f = let k : true ≡ false = sym e ∙ ap full (equal_of q p f) ∙ n in absurd cc
    misses q e false f = refl

    same_pipe : (r : PendingReply) → v.answer ≡ Some r → (b : Bool) → (key_of (target_of raw r) == key_of (Some p)) ≡ b → (b && isnt_full (way_of raw (map (port_of full) (up before)) r)) ≡ false → has (targets z before (begun_of v)) p ≡ false
    same_pipe r e true i g =
        let at = full_targets y z before full raw v r h k e (o.0 r e) g in
        ap (λ us. has us p) at.1 ∙ has_number (up before) at.0 p ∙ misses at.0 at.3 (at.0 == p) refl
    same_pipe r e false i g = ap (λ us. has us p) (targets_are y z before raw v r h k e (o.0 r e)) ∙ has_other (target_of raw r) (up before) p i

    hasnt : (x : Option PendingReply) → v.answer ≡ x → is_ready_to raw (map (port_of full) (up before)) (key_of (Some p)) v ≡ false → has (targets z before (begun_of v)) p ≡ false
    hasnt None e g = ap (λ (x : Option PendingReply). has (targets_of z before v.op (act_of x)) p) e
    hasnt (Some r) e g = same_pipe r e (key_of (target_of raw r) == key_of (Some p)) refl (sym (ap (λ (x : Option PendingReply). can_go_to raw (map (port_of full) (up before)) (key_of (Some p)) x) e) ∙ g)

    skip : (b : Bool) → has (targets z before (begun_of v)) p ≡ false → list_any (λ other. has (targets z before other) p) (begun_before w.op (map begun_of ws)) ≡ false
        → list_any (λ other. has (targets z before other) p) (cond b [] (begun_of v ∷ begun_before w.op (map begun_of ws))) ≡ false
    skip true e i = refl
    skip false e i = rw e i

    go : (b : Bool) → is_ready_to raw (map (port_of full) (up before)) (key_of (Some p)) v ≡ b → cond b (Some v) (find (is_ready_to raw (map (port_of full) (up before)) (key_of (Some p))) ws) ≡ Some w
        → (find (is_ready_to raw (map (port_of full) (up before)) (key_of (Some p))) ws ≡ Some w → full p ≡ false → list_any (λ other. has (targets z before other) p) (begun_before w.op (map begun_of ws)) ≡ false)
        → list_any (λ other. has (targets z before other) p) (begun_before w.op (map begun_of (v ∷ ws))) ≡ false
    go true e f again =
        let is : v ≡ w = some_inj f in
        subst (λ (x : ReplyOperation). list_any (λ other. has (targets z before other) p) (cond (same_op v.op x.op) [] (begun_of v ∷ begun_before x.op (map begun_of ws))) ≡ false) is
        (ap (λ b. list_any (λ other. has (targets z before other) p) (cond b [] (begun_of v ∷ begun_before v.op (map begun_of ws)))) (same_op-refl v.op))
    go false e f again = skip (same_op v.op w.op) (hasnt v.answer refl e) (again f n)

is_same : (n : ℕ) → (n == n) ≡ true
is_same n = grind (arith, nat_tests)

pub can_send : (m : Reply) (t : Moment) (w : ReplyOperation) (r : PendingReply) (p k : ℕ) → (h : Ties m t) → find (is_ready_to m.raw m.ports.items k) h.waits ≡ Some w → key_of (target_of m.raw r) ≡ k → w.answer ≡ Some r → way_of m.raw m.ports.items r ≡ ways.To p → CanSend t w.op p (begun_of w) (out_text m.raw r)
can_send m t w r p k h f i e g =
    let full : ℕ → Bool = λ q. has_full t.turn q in
    let apart = all_apart m t h in
    let way = goes_on full (up (past t)) (target_of m.raw r) p (ap (λ (xs : List PortView). way_of m.raw xs r) (sym h.pipes.ports) ∙ g) in
    let from : option_map origin_of r.source ≡ route t.z (past t) w.op = route_of (λ o. route t.z (past t) o) (is_ready_to m.raw m.ports.items k) h.waits w r h.routed f e in
    let key : key_of (Some p) ≡ k = ap key_of (sym way.0) ∙ i in
    let found : find (is_ready_to m.raw (map (port_of full) (up (past t))) (key_of (Some p))) h.waits ≡ Some w = ap (λ (xs : List PortView). find (is_ready_to m.raw xs (key_of (Some p))) h.waits) (sym h.pipes.ports) ∙ ap (λ (n : ℕ). find (is_ready_to m.raw m.ports.items n) h.waits) key ∙ f in
    let number : is_number (target_of m.raw r) p ≡ true = ap (λ (to : Option ℕ). is_number to p) way.0 ∙ is_same p in
    record {
      pending = ap (find (is_of w.op)) (sym h.pending) ∙ find_own (is_ready_to m.raw m.ports.items k) h.waits w f apart;
      is_up = way.1;
      target =
          ap (λ us. has us p) (targets_are m.role t.z (past t) m.raw w r (is_rep m t h) (is_raw m t h) e from) ∙ ap (λ (to : Option ℕ). has (filter (is_number to) (up (past t))) p) way.0
          ∙ has_number (up (past t)) p p ∙ both _ _ (is_same p) way.1;
      bytes =
          ap (λ (x : Option PendingReply). bytes_of_act t.z (past t) (begun_of w) (act_of x)) e
          ∙ ap (λ (x : Role). bytes_for x t.z.raw (route t.z (past t) w.op) (request_of t.z (past t) (begun_of w)) (text_of r.message)) (is_rep m t h)
          ∙ ap (λ (x : Bool). bytes_for (role_of m.role) x (route t.z (past t) w.op) (request_of t.z (past t) (begun_of w)) (text_of r.message)) (is_raw m t h)
          ∙ out_bytes m.role m.raw r (route t.z (past t) w.op) (request_of t.z (past t) (begun_of w)) p from number;
      first = ap not (ap (λ (ss : List Begun). list_any (λ other. has (targets t.z (past t) other) p) (begun_before w.op ss)) (sym h.pending) ∙ no_earlier m.role t.z (past t) full m.raw h.waits w p (is_rep m t h) (is_raw m t h) h.routed found way.2);
      not_full = way.2;
      one_target = no_floods m.role t.z (is_rep m t h);
    }

pub can_drop : (m : Reply) (t : Moment) (w : ReplyOperation) (r : PendingReply) (k : ℕ) → Calm t.z (past t) → (h : Ties m t) → find (is_ready_to m.raw m.ports.items k) h.waits ≡ Some w → w.answer ≡ Some r → way_of m.raw m.ports.items r ≡ ways.Nowhere → CanDrop t w.op (begun_of w)
can_drop m t w r k q h f e g =
    let full : ℕ → Bool = λ q. has_full t.turn q in
    let apart = all_apart m t h in
    let none = nowhere_up full (up (past t)) (target_of m.raw r) (ap (λ (xs : List PortView). way_of m.raw xs r) (sym h.pipes.ports) ∙ g) in
    let from : option_map origin_of r.source ≡ route t.z (past t) w.op = route_of (λ o. route t.z (past t) o) (is_ready_to m.raw m.ports.items k) h.waits w r h.routed f e in
    record {
      pending = ap (find (is_of w.op)) (sym h.pending) ∙ find_own (is_ready_to m.raw m.ports.items k) h.waits w f apart;
      is_send = ap (λ (x : Option PendingReply). is_recv (act_of x)) e;
      nowhere = all (is_reply t.z.role) (targets t.z (past t) (begun_of w)) (has_hops t.z && lacks_hops (act_of w.answer)) (unclaimed t.z (past t)) (replies m.role t.z (is_rep m t h)) (targets_are m.role t.z (past t) m.raw w r (is_rep m t h) (is_raw m t h) e from ∙ none) q.outs_claimed;
    }
  where
    all : (x : Bool) (us : List ℕ) (y b : Bool) → x ≡ true → us ≡ [] → b ≡ false → ((x && is_nil us || y) && not b) ≡ true
    all x us y b h k n = rw (h, k, n) refl

-- what is left to offer where no receive can be given anything
pub sends_right : (m : Reply) (t : Moment) (x : Offer) → Calm t.z (past t) → (h : Ties m t) → (m.kept.items ≡ []) ⊎ (find is_receive h.waits ≡ None) → SendsFirst m.raw m.ports.items h.waits x → IsOffered x t
sends_right m t x q h r (None, none, e) = subst (λ (y : Offer). IsOffered y t) (sym e) (idle m t h r none)
sends_right m t x q h r (Some w, (k, first), e) = subst (λ (y : Offer). IsOffered y t) (sym e) (replies_right w.answer refl (ready h.waits first))
  where
    equal_of : (m n : ℕ) → (m == n) ≡ true → m ≡ n
    equal_of m n h = grind (arith, nat_tests)

    left : (a b : Bool) → (a && b) ≡ true → a ≡ true
    left true b n = refl
    left false b n = absurd cc

    right : (a b : Bool) → (a && b) ≡ true → b ≡ true
    right true b n = n
    right false b n = absurd cc

    ready : (ws : List ReplyOperation) → find (is_ready_to m.raw m.ports.items k) ws ≡ Some w → can_go_to m.raw m.ports.items k w.answer ≡ true
    ready [] f = absurd cc
    ready (v ∷ ws) f = step (is_ready_to m.raw m.ports.items k v) refl f (ready ws)
      where
        some_inj : Some v ≡ Some w → v ≡ w
        some_inj q = cc

        step : (b : Bool) → is_ready_to m.raw m.ports.items k v ≡ b → cond b (Some v) (find (is_ready_to m.raw m.ports.items k) ws) ≡ Some w → (find (is_ready_to m.raw m.ports.items k) ws ≡ Some w → can_go_to m.raw m.ports.items k w.answer ≡ true) → can_go_to m.raw m.ports.items k w.answer ≡ true
        step true i f again = ap (λ (u : ReplyOperation). can_go_to m.raw m.ports.items k u.answer) (sym (some_inj f)) ∙ i
        step false i f again = again f

    ways_right : (p : PendingReply) (y : Destination) → key_of (target_of m.raw p) ≡ k → w.answer ≡ Some p → way_of m.raw m.ports.items p ≡ y → isnt_full y ≡ true → IsOffered (way_offer w.op y) t
    ways_right p ways.Full i g l n = absurd cc
    ways_right p ways.Nowhere i g l n = (begun_of w, can_drop m t w p k q h first g l)
    ways_right p (ways.To u) i g l n = (begun_of w, out_text m.raw p, can_send m t w p u k h first i g l)

    replies_right : (y : Option PendingReply) → w.answer ≡ y → can_go_to m.raw m.ports.items k y ≡ true → IsOffered (answer_offer m.raw m.ports.items w.op y) t
    replies_right None g n = absurd cc
    replies_right (Some p) g n =
        ways_right p (way_of m.raw m.ports.items p) (equal_of _ _ (left (key_of (target_of m.raw p) == k) (isnt_full (way_of m.raw m.ports.items p)) n)) g refl (right (key_of (target_of m.raw p) == k) (isnt_full (way_of m.raw m.ports.items p)) n)

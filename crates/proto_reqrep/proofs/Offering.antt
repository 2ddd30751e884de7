-- What a req offers.
use Rattle.std.proofs.Common.{◌≡◌, refl, ap, sym, ◌∙◌, subst, List, [], ◌∷◌, ℕ, ◌+◌, ◌≤◌, Bool, true, false, cond, arith, Option, Some, None, map, inl, inr, length, suc, nat_cmp, is_lt, Less, Equal, Greater}
use Rattle.std.specs.Prelude.{IfSome, IfNone, find, filter, not, is_some, nat_lt, IsTrue, ◌⊎◌, ◌&&◌, ◌||◌, ◌==◌}
use Rattle.std.specs.List.{list_any, list_all}
use Rattle.std.specs.Option.{option_map}
use Rattle.std.proofs.lemmas.Bool.Decides.{nat_tests}
use Rattle.sp_base.specs.declared.OpName.{OpName}
use Rattle.sp_base.specs.declared.role.Role.{Role}
use Rattle.sp_base.specs.declared.role.Role.TheVariants as role
use Rattle.sp_msg.specs.Views.{MessageView, wire_text}
use Rattle.sp_history.specs.declared.entry.Entry.{Entry}
use Rattle.sp_history.specs.declared.entry.RecordedAct.TheVariants.{Send}
use Rattle.sp_history.specs.declared.entry.Cause.TheVariants as causes
use Rattle.sp_history.specs.declared.entry.RecordedMessage.{RecordedMessage}
use Rattle.sp_history.specs.declared.parts.Begun.{Begun}
use Rattle.sp_history.specs.declared.parts.Item.{Item}
use Rattle.sp_history.specs.declared.parts.LiveRequest.{LiveRequest}
use Rattle.sp_history.specs.declared.parts.Requests.{Requests}
use Rattle.sp_history.specs.declared.setting.Setting.{Setting}
use Rattle.sp_history.specs.Lists.{has, head_of, is_nil, same_op}
use Rattle.sp_history.specs.Setting.{is_reply, is_pair1, has_hops, has_requests, resends}
use Rattle.sp_history.specs.Past.{is_of, pending, up, ups, ctxs}
use Rattle.sp_history.specs.Kept.{kept, route, replies_of}
use Rattle.sp_history.specs.Requests.{requests, is_orphan, wire_of, live_on, request_of as asked_of, no_requests}
use Rattle.sp_history.specs.Sends.{may_go, targets, targets_of, bytes_of, bytes_of_act, bytes_for, begun_before, is_due_again, lacks_hops, has_no_way}
use Rattle.sp_history.specs.Settled.{has_full, is_dry, receive_settled, send_settled, request_settled}
use Rattle.sp_history.specs.Legal.{is_recv, is_recv_on}
use Rattle.sp_history.specs.Once.{AreApart, AreDistinct, occurs}
use Rattle.sp_history.specs.Moments.{Moment, past}
use Rattle.sp_history.proofs.OnceHolds.{same_op-refl, occurs-find}
use Rattle.sp_proto.specs.Kinds.{text_of}
use Rattle.sp_proto.specs.Machines.{CanGive, CanSend, CanFinish, CanAgain, IsIdle, IsOffered}
use Rattle.sp_proto.specs.Readings.{out_last}
use Rattle.sp_proto.specs.declared.Offer.{Offer}
use Rattle.sp_proto.specs.declared.Offer.TheVariants as offers
use Rattle.proto_requests.specs.Ports.{port_of, is_free, is_free_behind, is_pipe, next_port, or_else, way_at, where_is, next_number as next_pipe, PortView}
use Rattle.proto_requests.specs.declared.ports.Destination.TheVariants as ways
use Rattle.proto_reqrep.specs.declared.req.Request.{Request as Machine}
use Rattle.proto_live_requests.specs.declared.live.Live.{Live}
use Rattle.proto_reqrep.specs.declared.req.Asking.{Asking}
use Rattle.proto_requests.proofs.Spotted.{none_find, unmapped}
use Rattle.sp_proto.specs.Kinds.{act_of}
use Rattle.proto_live_requests.specs.LiveRequests.{is_live_on, live_ctx, request_of, dry_at}
use Rattle.proto_reqrep.specs.Reqs.{gets, answers, IsGift, is_receiving_on, Ties, IsNextPipe, roomy_of, next_of, has_room, passing, way_of, roomy_port, chosen_port, begun_of, is_sending, is_due, due_in, IsOut, IsDueOn, IsSeen, AreReady, is_given, HasLive}
use Rattle.proto_live_requests.proofs.DueRequests.{none_at}
use Rattle.proto_live_requests.proofs.RequestLives.{found_ctx}
use Rattle.proto_reqrep.proofs.Orphaned.{orphan_found, all_finished}
use Rattle.proto_reqrep.proofs.OwnedRequests.{owned_at}
use Rattle.proto_reqrep.proofs.ReqStands.{is_req_role, is_raw, flag, live_is, kept_is}
use Rattle.proto_reqrep.proofs.ReqArrivals.{given_is}
use Rattle.proto_reqrep.proofs.ReqWins.{due_is}
use Rattle.proto_requests.proofs.TestValues.{equal_of, same_number, some_inj}

both : (a b : Bool) → a ≡ true → b ≡ true → (a && b) ≡ true
both a b h k = rw (h, k) refl

pub found_true : {A : Type 0} (P : A → Bool) (xs : List A) (x : A) → find P xs ≡ Some x → P x ≡ true
found_true P [] x h = absurd cc
found_true P (y ∷ xs) x h = go (P y) refl h (found_true P xs x)
  where
    go : (b : Bool) → P y ≡ b → cond b (Some y) (find P xs) ≡ Some x → (find P xs ≡ Some x → P x ≡ true) → P x ≡ true
    go true e h again = ap P (sym (some_inj y x h)) ∙ e
    go false e h again = again h

pub none_any : {A : Type 0} (P : A → Bool) (xs : List A) → find P xs ≡ None → list_any P xs ≡ false
none_any P [] h = refl
none_any P (x ∷ xs) h = go (P x) h (none_any P xs)
  where
    go : (b : Bool) → cond b (Some x) (find P xs) ≡ None → (find P xs ≡ None → list_any P xs ≡ false) → (b || list_any P xs) ≡ false
    go true h again = absurd cc
    go false h again = again h

-- where no name occurs twice, it is the operation of its name
find_own : (P : Asking → Bool) (ws : List Asking) (w : Asking) → find P ws ≡ Some w → AreApart (map begun_of ws) → find (is_of w.op) (map begun_of ws) ≡ Some (begun_of w)
find_own P [] w h a = absurd cc
find_own P (x ∷ ws) w h a = go (P x) h (λ q. find_own P ws w q (rest_apart a))
  where
    rest_apart : AreApart (map begun_of (x ∷ ws)) → AreApart (map begun_of ws)
    rest_apart a op = step (same_op x.op op) (a op)
      where
        step : (b : Bool) → cond b (occurs (map begun_of ws) op + 1) (occurs (map begun_of ws) op) ≤ 1 → occurs (map begun_of ws) op ≤ 1
        step true k = omega (arith, k)
        step false k = k

    twice : (b : Bool) → cond b (occurs (map begun_of ws) w.op + 1) (occurs (map begun_of ws) w.op) ≤ 1 → 1 ≤ occurs (map begun_of ws) w.op → find (is_of w.op) (map begun_of ws) ≡ Some (begun_of w)
        → cond b (Some (begun_of x)) (find (is_of w.op) (map begun_of ws)) ≡ Some (begun_of w)
    twice true k l again = absurd (omega (arith, k, l))
    twice false k l again = again

    go : (b : Bool) → cond b (Some x) (find P ws) ≡ Some w → (find P ws ≡ Some w → find (is_of w.op) (map begun_of ws) ≡ Some (begun_of w)) → cond (same_op x.op w.op) (Some (begun_of x)) (find (is_of w.op) (map begun_of ws)) ≡ Some (begun_of w)
    go true q more =
        let is : x ≡ w = some_inj x w q in
        subst (λ (v : Asking). cond (same_op v.op w.op) (Some (begun_of v)) (find (is_of w.op) (map begun_of ws)) ≡ Some (begun_of w)) (sym is) (ap (λ b. cond b (Some (begun_of w)) (find (is_of w.op) (map begun_of ws))) (same_op-refl w.op))
    go false q more =
        let again = more q in
        twice (same_op x.op w.op) (a w.op) (occurs-find (map begun_of ws) w.op (begun_of w) again) again

own_pending : (m : Machine) (t : Moment) (P : Asking → Bool) (w : Asking) → Ties m t → find P m.waiting.items ≡ Some w → pending (past t) w.op ≡ Some (begun_of w)
own_pending m t P w h f = ap (find (is_of w.op)) (sym h.3.pending) ∙ find_own P m.waiting.items w f (subst (λ (l : List Begun). AreApart l) (sym h.3.pending) h.3.apart)

-- ---- Finish

pub can_finish : (m : Machine) (t : Moment) (P : Asking → Bool) (w : Asking) → Ties m t → find P m.waiting.items ≡ Some w → w.is_orphan ≡ true → CanFinish t w.op (begun_of w) causes.Superseded
can_finish m t P w h f o =
    let it : is_orphan (requests t.z (past t)) w.op ≡ true = flag m t P w h f ∙ o in
    record { pending = own_pending m t P w h f; is_finish = inl refl; may = (refl, orphan_found (requests t.z (past t)).orphans w.op it h.3.causes) }

-- ---- Give

first_of : (a b : Bool) → (a && b) ≡ true → a ≡ true
first_of true b h = refl
first_of false b h = absurd cc

second_of : (a b : Bool) → (a && b) ≡ true → b ≡ true
second_of true b h = h
second_of false b h = absurd cc

recv_is : (o : Option MessageView) → is_recv (act_of o) ≡ not (is_some o)
recv_is None = refl
recv_is (Some x) = refl

first_on : (c : ℕ) (ws : List Asking) → find (is_recv_on c) (map begun_of ws) ≡ option_map begun_of (find (is_receiving_on c) ws)
first_on c [] = refl
first_on c (w ∷ ws) = ap (λ b. cond (b && (w.ctx == c)) (Some (begun_of w)) (find (is_recv_on c) (map begun_of ws))) (recv_is w.message) ∙ go (is_receiving_on c w) (first_on c ws)
  where
    go : (b : Bool) → find (is_recv_on c) (map begun_of ws) ≡ option_map begun_of (find (is_receiving_on c) ws) → cond b (Some (begun_of w)) (find (is_recv_on c) (map begun_of ws)) ≡ option_map begun_of (cond b (Some w) (find (is_receiving_on c) ws))
    go true h = refl
    go false h = h

-- the first that can be given a message is the first on its context
pub first_gift : (m : Machine) (ws : List Asking) (w : Asking) → find (gets m) ws ≡ Some w → find (is_receiving_on w.ctx) ws ≡ Some w
first_gift m [] w h = absurd cc
first_gift m (v ∷ ws) w h = go (gets m v) refl h (λ q. first_gift m ws w q)
  where
    on : gets m v ≡ true → v ≡ w → is_receiving_on w.ctx v ≡ true
    on e is = subst (λ (x : Asking). is_receiving_on x.ctx v ≡ true) is (both _ _ (first_of (not (is_sending v)) _ e) (same_number v.ctx))

    go : (b : Bool) → gets m v ≡ b → cond b (Some v) (find (gets m) ws) ≡ Some w → (find (gets m) ws ≡ Some w → find (is_receiving_on w.ctx) ws ≡ Some w) → cond (is_receiving_on w.ctx v) (Some v) (find (is_receiving_on w.ctx) ws) ≡ Some w
    go true e h again = let it = on e (some_inj v w h) in rw it h
    go false e h again = step (is_receiving_on w.ctx v) refl (again h)
      where
        step : (b : Bool) → is_receiving_on w.ctx v ≡ b → find (is_receiving_on w.ctx) ws ≡ Some w → cond b (Some v) (find (is_receiving_on w.ctx) ws) ≡ Some w
        step false k more = more
        step true k more =
            let given : is_given m.raw m.kept.items m.live.items v.ctx ≡ true = ap (is_given m.raw m.kept.items m.live.items) (equal_of v.ctx w.ctx (second_of (not (is_sending v)) (v.ctx == w.ctx) k)) ∙ second_of (not (is_sending w)) _ (found_true (gets m) ws w h) in
            let bad : true ≡ false = sym (both _ _ (first_of (not (is_sending v)) (v.ctx == w.ctx) k) given) ∙ e in absurd cc

pub gift_given : (m : Machine) (ws : List Asking) (w : Asking) → find (gets m) ws ≡ Some w → is_given m.raw m.kept.items m.live.items w.ctx ≡ true
gift_given m ws w f = second_of (not (is_sending w)) _ (found_true (gets m) ws w f)

-- the one that was searched for
pub found_gift : (m : Machine) (op : OpName) → Some op ≡ option_map (λ (w : Asking). w.op) (find (gets m) m.waiting.items) → IsGift m op
found_gift m op e = go (find (gets m) m.waiting.items) refl e
  where
    go : (o : Option Asking) → find (gets m) m.waiting.items ≡ o → Some op ≡ option_map (λ (w : Asking). w.op) o → IsGift m op
    go None f e = absurd cc
    go (Some w) f e = (w, first_gift m m.waiting.items w f, sym (some_inj op w.op e), gift_given m m.waiting.items w f)

-- none can be given a message
pub no_gift : (m : Machine) → None ≡ option_map (λ (w : Asking). w.op) (find (gets m) m.waiting.items) → find (gets m) m.waiting.items ≡ None
no_gift m e = unmapped _ _ e

pub no_reply : (m : Machine) → m.raw ≡ false → list_any (answers m.live.items) m.waiting.items ≡ false → find (gets m) m.waiting.items ≡ None
no_reply m r e = ap (λ b. find (λ (v : Asking). not (is_sending v) && is_given b m.kept.items m.live.items v.ctx) m.waiting.items) r ∙ none_find (answers m.live.items) m.waiting.items e

pub no_answers : (m : Machine) → m.raw ≡ false → find (gets m) m.waiting.items ≡ None → list_any (answers m.live.items) m.waiting.items ≡ false
no_answers m r e = none_any (answers m.live.items) m.waiting.items (sym (ap (λ b. find (λ (v : Asking). not (is_sending v) && is_given b m.kept.items m.live.items v.ctx) m.waiting.items) r) ∙ e)

pub nil_is : {A : Type 0} (xs : List A) → is_nil xs ≡ (length xs == 0)
nil_is [] = refl
nil_is (x ∷ xs) = more (length xs)
  where
    more : (n : ℕ) → false ≡ (suc n == 0)
    more n = grind (arith, nat_tests)

-- a raw req without a message gives none; otherwise its first receive gets it
pub raw_none : (m : Machine) → m.raw ≡ true → is_nil m.kept.items ≡ true → None ≡ option_map (λ (w : Asking). w.op) (find (gets m) m.waiting.items)
raw_none m r e = sym (ap (option_map (λ (w : Asking). w.op)) (ap (λ b. find (λ (v : Asking). not (is_sending v) && is_given b m.kept.items m.live.items v.ctx) m.waiting.items) r ∙ ap (λ b. find (λ (v : Asking). not (is_sending v) && not b) m.waiting.items) e ∙ none m.waiting.items))
  where
    shut : (b : Bool) → (b && not true) ≡ false
    shut true = refl
    shut false = refl

    none : (ws : List Asking) → find (λ (v : Asking). not (is_sending v) && not true) ws ≡ None
    none [] = refl
    none (w ∷ ws) = ap (λ b. cond b (Some w) (find (λ (v : Asking). not (is_sending v) && not true) ws)) (shut (not (is_sending w))) ∙ none ws

pub can_give : (m : Machine) (t : Moment) (w : Asking) → Ties m t → list_any (λ (v : Asking). v.is_orphan) m.waiting.items ≡ false → find (is_receiving_on w.ctx) m.waiting.items ≡ Some w → is_given m.raw m.kept.items m.live.items w.ctx ≡ true → (x : RecordedMessage) × CanGive t w.op (begun_of w) x
can_give m t w h o f given = go (kept t.z (past t) w.ctx) refl
  where
    receive : is_sending w ≡ false
    receive = flip (is_sending w) (first_of (not (is_sending w)) (w.ctx == w.ctx) (found_true (is_receiving_on w.ctx) m.waiting.items w f))
      where
        flip : (b : Bool) → not b ≡ true → b ≡ false
        flip true q = absurd cc
        flip false q = refl

    alive : (i : Item) (is : List Item) → kept t.z (past t) w.ctx ≡ i ∷ is → IsTrue (has_requests t.z) → is_some (asked_of t.z (past t) (begun_of w)) ≡ true
    alive i is e q = step m.raw refl
      where
        own : is_orphan (requests t.z (past t)) w.op ≡ false
        own = flag m t (is_receiving_on w.ctx) w h f ∙ none_at (λ (v : Asking). v.is_orphan) (is_receiving_on w.ctx) m.waiting.items w o f

        cooked : m.raw ≡ true → true ≡ false
        cooked r = sym q ∙ raw_none t.z (is_req_role m t h) (is_raw m t h ∙ r)
          where
            raw_none : (z : Setting) → z.role ≡ role.Req → z.raw ≡ true → has_requests z ≡ false
            raw_none z i j = rw (i, j) refl

        live : (b : Option Live) → find (is_live_on w.ctx) m.live.items ≡ b → m.raw ≡ false → is_some (live_on t.z (past t) w.ctx) ≡ true
        live (Some x) k r = ap is_some (live_is m t w.ctx h ∙ ap (option_map request_of) k)
        live None k r =
            let bad : i ∷ is ≡ [] = sym e ∙ kept_is m t w.ctx h r ∙ ap (λ (b : Option Live). replies_of (option_map request_of b)) k in absurd cc

        step : (b : Bool) → m.raw ≡ b → is_some (asked_of t.z (past t) (begun_of w)) ≡ true
        step true r = let bad : true ≡ false = cooked r in absurd cc
        step false r = ap (λ b. is_some (cond {A = Option LiveRequest} b None (live_on t.z (past t) w.ctx))) own ∙ live (find (is_live_on w.ctx) m.live.items) refl r

    go : (is : List Item) → kept t.z (past t) w.ctx ≡ is → (x : RecordedMessage) × CanGive t w.op (begun_of w) x
    go [] e = let bad : true ≡ false = sym given ∙ given_is m t w.ctx h ∙ ap (λ (l : List Item). not (is_nil l)) e in absurd cc
    go (i ∷ is) e = (
      i.message,
      record {
        pending = own_pending m t (is_receiving_on w.ctx) w h f;
        may =
            record {
              is_receive = recv_is w.message ∙ ap not receive;
              first_pending = ap (λ (ss : List Begun). option_map (λ (s : Begun). s.op) (find (is_recv_on w.ctx) ss)) (sym h.3.pending) ∙ ap (option_map (λ (s : Begun). s.op)) (first_on w.ctx m.waiting.items ∙ ap (option_map begun_of) f);
              oldest = ap (λ (l : List Item). option_map (λ (i : Item). i.message) (head_of l)) e;
              live = λ q. alive i is e q;
            };
      },
    )

-- ---- Idle

receives_settled : (m : Machine) (t : Moment) → Ties m t → (ws : List Asking) → find (gets m) ws ≡ None → list_all (receive_settled t.z (past t)) (map begun_of ws) ≡ true
receives_settled m t h [] f = refl
receives_settled m t h (w ∷ ws) f = go (is_sending w) refl (is_given m.raw m.kept.items m.live.items w.ctx) refl f (receives_settled m t h ws)
  where
    go : (s : Bool) → is_sending w ≡ s → (g : Bool) → is_given m.raw m.kept.items m.live.items w.ctx ≡ g → cond (not s && g) (Some w) (find (gets m) ws) ≡ None → (find (gets m) ws ≡ None → list_all (receive_settled t.z (past t)) (map begun_of ws) ≡ true)
        → (receive_settled t.z (past t) (begun_of w) && list_all (receive_settled t.z (past t)) (map begun_of ws)) ≡ true
    go true e g k f again = both _ _ (rw (recv_is w.message, e) refl) (again f)
    go false e true k f again = absurd cc
    go false e false k f again =
        let none : is_nil (kept t.z (past t) w.ctx) ≡ true = flip (is_nil (kept t.z (past t) w.ctx)) (sym (given_is m t w.ctx h) ∙ k) in
        both _ _ (rw none (either (is_recv (act_of w.message)))) (again f)
      where
        flip : (b : Bool) → not b ≡ false → b ≡ true
        flip true q = refl
        flip false q = absurd cc

        either : (b : Bool) → (not b || true) ≡ true
        either true = refl
        either false = refl

all_but : (full : ℕ → Bool) (P : ℕ → Bool) (us : List ℕ) → list_all full us ≡ true → list_all full (filter P us) ≡ true
all_but full P [] h = refl
all_but full P (u ∷ us) h = go (full u) refl (P u) h (all_but full P us)
  where
    go : (a : Bool) → full u ≡ a → (b : Bool) → (a && list_all full us) ≡ true → (list_all full us ≡ true → list_all full (filter P us) ≡ true) → list_all full (cond b (u ∷ filter P us) (filter P us)) ≡ true
    go true e true h again = rw e (again h)
    go true e false h again = again h
    go false e b h again = absurd cc

-- a send is settled where all pipes are full, and any receive
sends_settled : (m : Machine) (t : Moment) (full : ℕ → Bool) → Ties m t → (ws : List Asking) → (list_all full (up (past t)) ≡ true) ⊎ (find is_sending ws ≡ None) → list_all (send_settled t.z (past t) full) (map begun_of ws) ≡ true
sends_settled m t full h [] f = refl
sends_settled m t full h (w ∷ ws) (inl f) = both _ _ (go w.message refl) (sends_settled m t full h ws (inl f))
  where
    -- a req has no send that goes nowhere
    way : (r : Role) (none raw lacks : Bool) → r ≡ role.Req → not (is_reply r && none || (is_pair1 r && raw) && lacks) ≡ true
    way r none raw lacks e = rw e refl

    go : (x : Option MessageView) → w.message ≡ x → send_settled t.z (past t) full (begun_of w) ≡ true
    go None e = ap (λ (x : Option MessageView). is_recv (act_of x) || list_all full (targets t.z (past t) (begun_of w)) && not (has_no_way t.z (past t) (begun_of w))) e
    go (Some x) e =
        ap (λ (y : Option MessageView). is_recv (act_of y) || list_all full (targets_of t.z (past t) w.op (act_of y)) && not (is_reply t.z.role && is_nil (targets_of t.z (past t) w.op (act_of y)) || has_hops t.z && lacks_hops (act_of y))) e
        ∙ both _ _ (all_but full (may_go t.z.role t.z.raw (route t.z (past t) w.op) x.header) (up (past t)) f) (way t.z.role (is_nil (targets_of t.z (past t) w.op (Send (text_of x)))) t.z.raw (lacks_hops (Send (text_of x))) (is_req_role m t h))
sends_settled m t full h (w ∷ ws) (inr f) = go w.message refl f (λ q. sends_settled m t full h ws (inr q))
  where
    go : (x : Option MessageView) → w.message ≡ x → cond (is_some x) (Some w) (find is_sending ws) ≡ None → (find is_sending ws ≡ None → list_all (send_settled t.z (past t) full) (map begun_of ws) ≡ true) → list_all (send_settled t.z (past t) full) (map begun_of (w ∷ ws)) ≡ true
    go None e k again = both _ _ (ap (λ (x : Option MessageView). is_recv (act_of x) || list_all full (targets t.z (past t) (begun_of w)) && not (has_no_way t.z (past t) (begun_of w))) e) (again k)
    go (Some x) e k again = absurd cc

-- a request is settled where all pipes are full, or it is not due, or its context is dry
again_settled : (m : Machine) (t : Moment) (full : ℕ → Bool) (h : Ties m t) (xs : List Live) → ((c : ℕ) → has (map live_ctx xs) c ≡ true → has (ctxs (past t)) c ≡ true)
    → (list_all full (up (past t)) ≡ true) ⊎ (list_any (due_in m) xs ≡ false) → list_all (request_settled t.z (past t) full) (map request_of xs) ≡ true
again_settled m t full h [] o f = refl
again_settled m t full h (x ∷ xs) o (inl f) = both _ _ (rw f (middle (not (is_due_again t.z (past t) (request_of x))) (is_dry (past t) x.ctx))) (again_settled m t full h xs (λ c k. o c (more (x.ctx == c) k)) (inl f))
  where
    more : (b : Bool) {y : Bool} → y ≡ true → (b || y) ≡ true
    more true k = refl
    more false k = k

    middle : (a b : Bool) → (a || true || b) ≡ true
    middle true b = refl
    middle false b = refl
again_settled m t full h (x ∷ xs) o (inr f) = go (is_due m.options.resend m.tick m.ports.items m.contexts.items x) refl f (λ q. again_settled m t full h xs (λ c k. o c (more (x.ctx == c) k)) (inr q))
  where
    more : (b : Bool) {y : Bool} → y ≡ true → (b || y) ≡ true
    more true k = refl
    more false k = k

    last : (a b : Bool) → (a || b || true) ≡ true
    last true b = refl
    last false true = refl
    last false false = refl

    one : is_due m.options.resend m.tick m.ports.items m.contexts.items x ≡ false → (d : Bool) → dry_at x.ctx m.contexts.items ≡ d → request_settled t.z (past t) full (request_of x) ≡ true
    one e true k =
        let open_ : has (ctxs (past t)) x.ctx ≡ true = o x.ctx (ap (λ b. b || has (map live_ctx xs) x.ctx) (same_number x.ctx)) in
        let dry : is_dry (past t) x.ctx ≡ true = sym (h.4.dryness x.ctx open_) ∙ k in
        rw dry (last (not (is_due_again t.z (past t) (request_of x))) (list_all full (up (past t))))
    one e false k =
        let due : is_due_again t.z (past t) (request_of x) ≡ false = sym (due_is m t h x k) ∙ e in
        rw due refl

    go : (b : Bool) → is_due m.options.resend m.tick m.ports.items m.contexts.items x ≡ b → (b || list_any (due_in m) xs) ≡ false
        → (list_any (due_in m) xs ≡ false → list_all (request_settled t.z (past t) full) (map request_of xs) ≡ true) → list_all (request_settled t.z (past t) full) (map request_of (x ∷ xs)) ≡ true
    go true e k again = absurd cc
    go false e k again = both _ _ (one e (dry_at x.ctx m.contexts.items) refl) (again k)

all_full : (full : ℕ → Bool) (us : List ℕ) → find is_free (map (port_of full) us) ≡ None → list_all full us ≡ true
all_full full [] f = refl
all_full full (u ∷ us) f = go (full u) refl f (all_full full us)
  where
    go : (b : Bool) → full u ≡ b → cond (not b) (Some (port_of full u)) (find is_free (map (port_of full) us)) ≡ None → (find is_free (map (port_of full) us) ≡ None → list_all full us ≡ true) → (b && list_all full us) ≡ true
    go true e f again = again f
    go false e f again = absurd cc

idle : (m : Machine) (t : Moment) → Ties m t → list_any (λ (v : Asking). v.is_orphan) m.waiting.items ≡ false → find (gets m) m.waiting.items ≡ None
    → (list_all (λ q. has_full t.turn q) (up (past t)) ≡ true) ⊎ (find is_sending m.waiting.items ≡ None) → (list_all (λ q. has_full t.turn q) (up (past t)) ≡ true) ⊎ (list_any (due_in m) m.live.items ≡ false) → IsIdle t
idle m t h o g s d =
    record {
      settled =
          record {
            receives = rw (← h.3.pending) (receives_settled m t h m.waiting.items g);
            sends = rw (← h.3.pending) (sends_settled m t (λ q. has_full t.turn q) h m.waiting.items s);
            again = λ q. rw (← h.3.live) (again_settled m t (λ q. has_full t.turn q) h m.live.items h.4.of_contexts d);
            finished = all_finished m.waiting.items (requests t.z (past t)) h.3.orphans o;
          };
      no_flood = λ q. let k : false ≡ true = rw (is_req_role m t h) at q in absurd cc;
    }

no_port : (o : Option PortView) → None ≡ option_map (λ (x : PortView). x.pipe) o → o ≡ None
no_port None e = refl
no_port (Some x) e = absurd cc

some_port : (o : Option PortView) (p : ℕ) → Some p ≡ option_map (λ (x : PortView). x.pipe) o → (q : PortView) × (o ≡ Some q) × (q.pipe ≡ p)
some_port None p e = absurd cc
some_port (Some x) p e = (x, refl, sym (some_inj p x.pipe e))

-- there is no other
no_second : {A : Type 0} (x y : Option A) → or_else x y ≡ None → y ≡ None
no_second None y e = e
no_second (Some x) y e = absurd cc

pub idle_full : (m : Machine) (t : Moment) → Ties m t → list_any (λ (v : Asking). v.is_orphan) m.waiting.items ≡ false → find (gets m) m.waiting.items ≡ None → None ≡ chosen_port m → IsIdle t
idle_full m t h o g f = let full = all_full (λ q. has_full t.turn q) (up (past t)) (ap (find is_free) (sym h.1.ports) ∙ no_second _ _ (no_port _ (sym (no_second _ _ (sym f))))) in idle m t h o g (inl full) (inl full)

-- ---- Send and Again

free_is : (full : ℕ → Bool) (us : List ℕ) (x : PortView) → find is_free (map (port_of full) us) ≡ Some x → (has us x.pipe ≡ true) × (full x.pipe ≡ false)
free_is full [] x f = absurd cc
free_is full (u ∷ us) x f = go (full u) refl f (free_is full us x)
  where
    or_right : (a b : Bool) → b ≡ true → (a || b) ≡ true
    or_right true b h = refl
    or_right false b h = h

    go : (b : Bool) → full u ≡ b → cond (not b) (Some (port_of full u)) (find is_free (map (port_of full) us)) ≡ Some x → (find is_free (map (port_of full) us) ≡ Some x → (has us x.pipe ≡ true) × (full x.pipe ≡ false)) → (((u == x.pipe) || has us x.pipe) ≡ true) × (full x.pipe ≡ false)
    go true e f again = let k = again f in (or_right (u == x.pipe) _ k.0, k.1)
    go false e f again =
        let is : u ≡ x.pipe = ap (λ (y : PortView). y.pipe) (some_inj (port_of full u) x f) in
        (ap (λ b. b || has us x.pipe) (subst (λ n. (u == n) ≡ true) is (same_number u)), subst (λ n. full n ≡ false) is e)

behind_is : (full : ℕ → Bool) (last : ℕ) (us : List ℕ) (x : PortView) → find (is_free_behind last) (map (port_of full) us) ≡ Some x → (has us x.pipe ≡ true) × (full x.pipe ≡ false)
behind_is full last [] x f = absurd cc
behind_is full last (u ∷ us) x f = go (full u) refl (nat_lt last u) f (behind_is full last us x)
  where
    or_right : (a b : Bool) → b ≡ true → (a || b) ≡ true
    or_right true b h = refl
    or_right false b h = h

    go : (b : Bool) → full u ≡ b → (a : Bool) → cond (not b && a) (Some (port_of full u)) (find (is_free_behind last) (map (port_of full) us)) ≡ Some x
        → (find (is_free_behind last) (map (port_of full) us) ≡ Some x → (has us x.pipe ≡ true) × (full x.pipe ≡ false)) → (((u == x.pipe) || has us x.pipe) ≡ true) × (full x.pipe ≡ false)
    go true e a f again = let k = again f in (or_right (u == x.pipe) _ k.0, k.1)
    go false e false f again = let k = again f in (or_right (u == x.pipe) _ k.0, k.1)
    go false e true f again =
        let is : u ≡ x.pipe = ap (λ (y : PortView). y.pipe) (some_inj (port_of full u) x f) in
        (ap (λ b. b || has us x.pipe) (subst (λ n. (u == n) ≡ true) is (same_number u)), subst (λ n. full n ≡ false) is e)

next_is : (full : ℕ → Bool) (last : ℕ) (us : List ℕ) (x : PortView) → next_port last (map (port_of full) us) ≡ Some x → (has us x.pipe ≡ true) × (full x.pipe ≡ false)
next_is full last us x f = go (find (is_free_behind last) (map (port_of full) us)) refl f
  where
    go : (o : Option PortView) → find (is_free_behind last) (map (port_of full) us) ≡ o → or_else o (find is_free (map (port_of full) us)) ≡ Some x → (has us x.pipe ≡ true) × (full x.pipe ≡ false)
    go None e k = free_is full us x k
    go (Some y) e k = behind_is full last us x (e ∙ k)

-- the first of the pipes, by number
find_mapped : (P : PortView → Bool) (full : ℕ → Bool) (us : List ℕ) → find P (map (port_of full) us) ≡ option_map (port_of full) (find (λ q. P (port_of full q)) us)
find_mapped P full [] = refl
find_mapped P full (u ∷ us) = go (P (port_of full u)) (find_mapped P full us)
  where
    go : (b : Bool) → find P (map (port_of full) us) ≡ option_map (port_of full) (find (λ q. P (port_of full q)) us)
        → cond b (Some (port_of full u)) (find P (map (port_of full) us)) ≡ option_map (port_of full) (cond b (Some u) (find (λ q. P (port_of full q)) us))
    go true e = refl
    go false e = e

or_mapped : (f : ℕ → PortView) (x y : Option ℕ) → or_else (option_map f x) (option_map f y) ≡ option_map f (or_else x y)
or_mapped f None y = refl
or_mapped f (Some x) y = refl

next_mapped : (full : ℕ → Bool) (last : ℕ) (us : List ℕ) → next_port last (map (port_of full) us) ≡ option_map (port_of full) (next_pipe (λ q. not (full q)) last us)
next_mapped full last us =
    ap (λ (o : Option PortView). or_else o (find is_free (map (port_of full) us))) (find_mapped (is_free_behind last) full us)
    ∙ ap (or_else (option_map (port_of full) (find (λ q. is_free_behind last (port_of full q)) us))) (find_mapped is_free full us) ∙ or_mapped (port_of full) _ _

-- a pipe can be taken if it is up and not full
way_is : (full : ℕ → Bool) (p : ℕ) (us : List ℕ) → way_of (way_at p (find (is_pipe p) (map (port_of full) us))) ≡ passing (λ q. has us q && not (full q)) (Some p)
way_is full p [] = refl
way_is full p (u ∷ us) = go (u == p) refl (way_is full p us)
  where
    here : (b : Bool) → way_of (cond b ways.Full (ways.To p)) ≡ cond (not b) (Some p) None
    here true = refl
    here false = refl

    go : (b : Bool) → (u == p) ≡ b → way_of (way_at p (find (is_pipe p) (map (port_of full) us))) ≡ cond (has us p && not (full p)) (Some p) None
        → way_of (way_at p (cond b (Some (port_of full u)) (find (is_pipe p) (map (port_of full) us)))) ≡ cond ((b || has us p) && not (full p)) (Some p) None
    go true e again = here (full u) ∙ ap (λ n. cond (not (full n)) (Some p) None) (equal_of u p e)
    go false e again = again

ways_are : (full : ℕ → Bool) (us : List ℕ) (o : Option ℕ) → way_of (where_is (map (port_of full) us) o) ≡ passing (λ q. has us q && not (full q)) o
ways_are full us None = refl
ways_are full us (Some p) = way_is full p us

-- the roomy pipe that is taken
roomy_is : (m : Machine) (t : Moment) → Ties m t → roomy_port m ≡ passing (has_room t) (next_of (out_last (past t)) (roomy_of m))
roomy_is m t h =
    ap (λ (ps : List PortView). way_of (where_is ps (next_of m.last_pipe (roomy_of m)))) h.1.ports ∙ ways_are (λ q. has_full t.turn q) (up (past t)) (next_of m.last_pipe (roomy_of m))
    ∙ ap (λ n. passing (has_room t) (next_of n (roomy_of m))) h.0.outs

-- the next of all pipes
round_is : (m : Machine) (t : Moment) → Ties m t → option_map (λ (x : PortView). x.pipe) (next_port m.last_pipe m.ports.items) ≡ next_pipe (λ q. not (has_full t.turn q)) (out_last (past t)) (up (past t))
round_is m t h =
    ap (λ (o : Option PortView). option_map (λ (x : PortView). x.pipe) o)
    (ap (next_port m.last_pipe) h.1.ports ∙ ap (λ n. next_port n (map (port_of (λ q. has_full t.turn q)) (up (past t)))) h.0.outs ∙ next_mapped (λ q. has_full t.turn q) (out_last (past t)) (up (past t)))
    ∙ number (next_pipe (λ q. not (has_full t.turn q)) (out_last (past t)) (up (past t)))
  where
    number : (o : Option ℕ) → option_map (λ (x : PortView). x.pipe) (option_map (port_of (λ q. has_full t.turn q)) o) ≡ o
    number None = refl
    number (Some n) = refl

-- it is the next one in the round
pub is_next : (m : Machine) (t : Moment) (p : ℕ) → Ties m t → Some p ≡ chosen_port m → IsNextPipe (roomy_of m) t p
is_next m t p h f =
    sym (f ∙ ap (λ (o : Option ℕ). or_else o (option_map (λ (x : PortView). x.pipe) (next_port m.last_pipe m.ports.items))) (roomy_is m t h) ∙ ap (or_else (passing (has_room t) (next_of (out_last (past t)) (roomy_of m)))) (round_is m t h))

-- what is taken is up and not full
chosen_free : (m : Machine) (t : Moment) (p : ℕ) → Ties m t → Some p ≡ chosen_port m → (has (up (past t)) p ≡ true) × (has_full t.turn p ≡ false)
chosen_free m t p h f = go (roomy_port m) refl f
  where
    passed : (o : Option ℕ) → passing (has_room t) o ≡ Some p → has_room t p ≡ true
    passed None e = absurd cc
    passed (Some q) e = step (has_room t q) refl e
      where
        step : (b : Bool) → has_room t q ≡ b → cond b (Some q) None ≡ Some p → has_room t p ≡ true
        step true k e = subst (λ n. has_room t n ≡ true) (some_inj q p e) k
        step false k e = absurd cc

    flip : (b : Bool) → not b ≡ true → b ≡ false
    flip true q = absurd cc
    flip false q = refl

    go : (o : Option ℕ) → roomy_port m ≡ o → Some p ≡ or_else o (option_map (λ (x : PortView). x.pipe) (next_port m.last_pipe m.ports.items)) → (has (up (past t)) p ≡ true) × (has_full t.turn p ≡ false)
    go (Some q) e f =
        let room : has_room t p ≡ true = passed (next_of (out_last (past t)) (roomy_of m)) (sym (roomy_is m t h) ∙ e ∙ sym f) in
        (first_of (has (up (past t)) p) (not (has_full t.turn p)) room, flip (has_full t.turn p) (second_of (has (up (past t)) p) (not (has_full t.turn p)) room))
    go None e f =
        let q = some_port (next_port m.last_pipe m.ports.items) p f in
        let it = next_is (λ n. has_full t.turn n) m.last_pipe (up (past t)) q.0 (ap (next_port m.last_pipe) (sym h.1.ports) ∙ q.1) in
        (subst (λ n. has (up (past t)) n ≡ true) q.2 it.0, subst (λ n. has_full t.turn n ≡ false) q.2 it.1)

no_earlier : (z : Setting) (before : List Entry) (p : ℕ) (ws : List Asking) (w : Asking) → find is_sending ws ≡ Some w → list_any (λ other. has (targets z before other) p) (begun_before w.op (map begun_of ws)) ≡ false
no_earlier z before p [] w f = absurd cc
no_earlier z before p (v ∷ ws) w f = go v.message refl f (no_earlier z before p ws w)
  where
    skip : (b : Bool) → has (targets z before (begun_of v)) p ≡ false → list_any (λ other. has (targets z before other) p) (begun_before w.op (map begun_of ws)) ≡ false
        → list_any (λ other. has (targets z before other) p) (cond b [] (begun_of v ∷ begun_before w.op (map begun_of ws))) ≡ false
    skip true e i = refl
    skip false e i = rw e i

    go : (x : Option MessageView) → v.message ≡ x → cond (is_some x) (Some v) (find is_sending ws) ≡ Some w → (find is_sending ws ≡ Some w → list_any (λ other. has (targets z before other) p) (begun_before w.op (map begun_of ws)) ≡ false)
        → list_any (λ other. has (targets z before other) p) (begun_before w.op (map begun_of (v ∷ ws))) ≡ false
    go None e f again = skip (same_op v.op w.op) (ap (λ (x : Option MessageView). has (targets_of z before v.op (act_of x)) p) e) (again f)
    go (Some x) e f again =
        let is : v ≡ w = some_inj v w f in
        subst (λ (x : Asking). list_any (λ other. has (targets z before other) p) (cond (same_op v.op x.op) [] (begun_of v ∷ begun_before x.op (map begun_of ws))) ≡ false) is
        (ap (λ b. list_any (λ other. has (targets z before other) p) (cond b [] (begun_of v ∷ begun_before v.op (map begun_of ws)))) (same_op-refl v.op))

all_of : (P : ℕ → Bool) (us : List ℕ) (p : ℕ) → ((u : ℕ) → P u ≡ true) → has us p ≡ true → has (filter P us) p ≡ true
all_of P [] p k h = h
all_of P (u ∷ us) p k h = rw (k u) (go (u == p) h (all_of P us p k))
  where
    go : (b : Bool) → (b || has us p) ≡ true → (has us p ≡ true → has (filter P us) p ≡ true) → (b || has (filter P us) p) ≡ true
    go true h again = refl
    go false h again = again h

pub can_send : (m : Machine) (t : Moment) (w : Asking) (p : ℕ) → Ties m t → list_any (λ (v : Asking). v.is_orphan) m.waiting.items ≡ false → find is_sending m.waiting.items ≡ Some w → has (up (past t)) p ≡ true → has_full t.turn p ≡ false → (b : List ℕ) × CanSend t w.op p (begun_of w) b
can_send m t w p h o f u n = go w.message refl
  where
    bytes : (x : MessageView) → w.message ≡ Some x → (v : Bool) → m.raw ≡ v → (b : List ℕ) × (bytes_of t.z (past t) (begun_of w) ≡ Some b)
    bytes x e v r = (
      its v r,
      ap (λ (y : Option MessageView). bytes_of_act t.z (past t) (begun_of w) (act_of y)) e ∙ ap (λ (y : Role). bytes_for y t.z.raw (route t.z (past t) w.op) (asked_of t.z (past t) (begun_of w)) (text_of x)) (is_req_role m t h)
          ∙ ap (λ q. bytes_for role.Req q (route t.z (past t) w.op) (asked_of t.z (past t) (begun_of w)) (text_of x)) (is_raw m t h ∙ r) ∙ end_ v r,
    )
      where
        live : m.raw ≡ false → HasLive m.live.items w
        live q = owned_at m.live.items is_sending m.waiting.items w (h.3.owned q) f (none_at (λ (v : Asking). v.is_orphan) is_sending m.waiting.items w o f)

        its : (v : Bool) → m.raw ≡ v → List ℕ
        its true q = wire_text x
        its false q = wire_of (request_of (live q).0)

        end_ : (v : Bool) (q : m.raw ≡ v) → bytes_for role.Req v (route t.z (past t) w.op) (asked_of t.z (past t) (begun_of w)) (text_of x) ≡ Some (its v q)
        end_ true q = refl
        end_ false q =
            let own : is_orphan (requests t.z (past t)) w.op ≡ false = flag m t is_sending w h f ∙ none_at (λ (v : Asking). v.is_orphan) is_sending m.waiting.items w o f in
            ap (λ b. option_map wire_of (cond {A = Option LiveRequest} b None (live_on t.z (past t) w.ctx))) own ∙ ap (option_map wire_of) (live_is m t w.ctx h ∙ ap (option_map request_of) (live q).1)

    everywhere : (x : MessageView) (y : Role) → y ≡ role.Req → (q : ℕ) → may_go y t.z.raw (route t.z (past t) w.op) x.header q ≡ true
    everywhere x y e q = rw e refl

    go : (x : Option MessageView) → w.message ≡ x → (b : List ℕ) × CanSend t w.op p (begun_of w) b
    go None e = let bad : false ≡ true = sym (ap is_some e) ∙ found_true is_sending m.waiting.items w f in absurd cc
    go (Some x) e =
        let k = bytes x e m.raw refl in (
          k.0,
          record {
            pending = own_pending m t is_sending w h f;
            is_up = u;
            target = ap (λ (y : Option MessageView). has (targets_of t.z (past t) w.op (act_of y)) p) e ∙ all_of (may_go t.z.role t.z.raw (route t.z (past t) w.op) x.header) (up (past t)) p (everywhere x t.z.role (is_req_role m t h)) u;
            bytes = k.1;
            first = ap not (ap (λ (ss : List Begun). list_any (λ other. has (targets t.z (past t) other) p) (begun_before w.op ss)) (sym h.3.pending) ∙ no_earlier t.z (past t) p m.waiting.items w f);
            not_full = n;
            one_target = rw (is_req_role m t h) refl;
          },
        )

-- the request that is found is the one of its context
pub found_alone : (P : Live → Bool) (xs : List Live) (x : Live) → AreDistinct (map live_ctx xs) → find P xs ≡ Some x → find (is_live_on x.ctx) xs ≡ Some x
found_alone P [] x d f = absurd cc
found_alone P (y ∷ xs) x d f = go (P y) f (found_alone P xs x d.1)
  where
    there : (vs : List Live) → find P vs ≡ Some x → has (map live_ctx vs) x.ctx ≡ true
    there [] k = absurd cc
    there (v ∷ vs) k = step (P v) k (there vs)
      where
        or_right : (a b : Bool) → b ≡ true → (a || b) ≡ true
        or_right true b h = refl
        or_right false b h = h

        step : (b : Bool) → cond b (Some v) (find P vs) ≡ Some x → (find P vs ≡ Some x → has (map live_ctx vs) x.ctx ≡ true) → ((v.ctx == x.ctx) || has (map live_ctx vs) x.ctx) ≡ true
        step true k again = ap (λ b. b || has (map live_ctx vs) x.ctx) (subst (λ (z : Live). (v.ctx == z.ctx) ≡ true) (some_inj v x k) (same_number v.ctx))
        step false k again = or_right (v.ctx == x.ctx) _ (again k)

    go : (b : Bool) → cond b (Some y) (find P xs) ≡ Some x → (find P xs ≡ Some x → find (is_live_on x.ctx) xs ≡ Some x) → cond (y.ctx == x.ctx) (Some y) (find (is_live_on x.ctx) xs) ≡ Some x
    go true k again =
        let is : y ≡ x = some_inj y x k in
        ap (λ b. cond b (Some y) (find (is_live_on x.ctx) xs)) (subst (λ (z : Live). (y.ctx == z.ctx) ≡ true) is (same_number y.ctx)) ∙ k
    go false k again = step (y.ctx == x.ctx) refl (again k)
      where
        step : (b : Bool) → (y.ctx == x.ctx) ≡ b → find (is_live_on x.ctx) xs ≡ Some x → cond b (Some y) (find (is_live_on x.ctx) xs) ≡ Some x
        step true e more =
            let away : has (map live_ctx xs) x.ctx ≡ false = subst (λ n. has (map live_ctx xs) n ≡ false) (equal_of y.ctx x.ctx e) d.0 in
            let bad : true ≡ false = sym (there xs k) ∙ away in absurd cc
        step false e more = more

pub can_again : (m : Machine) (t : Moment) (c p : ℕ) (x : Live) → Ties m t → find (is_live_on c) m.live.items ≡ Some x → due_in m x ≡ true → has (up (past t)) p ≡ true → has_full t.turn p ≡ false → CanAgain t x.ctx p (request_of x)
can_again m t c p x h f it u n =
    let alone = found_alone (is_live_on c) m.live.items x h.3.places f in
    let open_ : has (ctxs (past t)) x.ctx ≡ true = h.4.of_contexts x.ctx (there m.live.items alone) in
    let wet : dry_at x.ctx m.contexts.items ≡ false = not_dry _ _ _ it in
    record {
      sends_again = cooked m.raw refl alone;
      ctx_open = open_;
      live = live_is m t x.ctx h ∙ ap (option_map request_of) alone;
      due = sym (due_is m t h x wet) ∙ it;
      not_dry = sym (h.4.dryness x.ctx open_) ∙ wet;
      is_up = u;
      not_full = n;
    }
  where
    not_dry : (a b d : Bool) → (not a && (b && not d)) ≡ true → d ≡ false
    not_dry a b false k = refl
    not_dry true b true k = absurd cc
    not_dry false true true k = absurd cc
    not_dry false false true k = absurd cc

    there : (vs : List Live) → find (is_live_on x.ctx) vs ≡ Some x → has (map live_ctx vs) x.ctx ≡ true
    there [] k = absurd cc
    there (v ∷ vs) k = step (v.ctx == x.ctx) k (there vs)
      where
        step : (b : Bool) → cond b (Some v) (find (is_live_on x.ctx) vs) ≡ Some x → (find (is_live_on x.ctx) vs ≡ Some x → has (map live_ctx vs) x.ctx ≡ true) → (b || has (map live_ctx vs) x.ctx) ≡ true
        step true k again = refl
        step false k again = again k

    cooked : (b : Bool) → m.raw ≡ b → find (is_live_on x.ctx) m.live.items ≡ Some x → resends t.z ≡ true
    cooked false r k = rw (is_req_role m t h, is_raw m t h ∙ r) refl
    cooked true r k =
        let none : requests t.z (past t) ≡ no_requests = raw_none t.z (is_req_role m t h) (is_raw m t h ∙ r) in
        let empty : map request_of m.live.items ≡ [] = h.3.live ∙ ap (λ (q : Requests). q.live) none in
        absurd (nothing m.live.items empty k)
      where
        raw_none : (z : Setting) → z.role ≡ role.Req → z.raw ≡ true → requests z (past t) ≡ no_requests
        raw_none z i j = rw (i, j) refl

        nothing : (vs : List Live) → map request_of vs ≡ [] → find (is_live_on x.ctx) vs ≡ Some x → ⊥
        nothing [] e k = absurd cc
        nothing (v ∷ vs) e k = absurd cc

pub out_right : (m : Machine) (t : Moment) (n : ℕ) (y : Offer) → Ties m t → list_any (λ (v : Asking). v.is_orphan) m.waiting.items ≡ false → find (gets m) m.waiting.items ≡ None → Some n ≡ chosen_port m → IsOut m n y → IsOffered y t
out_right m t n y h o g f = go y
  where
    free : (has (up (past t)) n ≡ true) × (has_full t.turn n ≡ false)
    free = chosen_free m t n h f

    go : (y : Offer) → IsOut m n y → IsOffered y t
    go offers.Idle k = idle m t h o g (inr k.0) (inr k.1)
    go (offers.Send op p) k =
        let z = can_send m t k.0 p h o k.1 (subst (λ v. has (up (past t)) v ≡ true) k.3 free.0) (subst (λ v. has_full t.turn v ≡ false) k.3 free.1) in
        (begun_of k.0, z.0, subst (λ (op : OpName). CanSend t op p (begun_of k.0) z.0) k.2 z.1)
    go (offers.Again c p) k =
        let x = k.0 in
        (request_of x.0, subst (λ v. CanAgain t v p (request_of x.0)) (found_ctx c m.live.items x.0 x.1) (can_again m t c p x.0 h x.1 x.2 (subst (λ v. has (up (past t)) v ≡ true) k.1 free.0) (subst (λ v. has_full t.turn v ≡ false) k.1 free.1)))
    go (offers.Give op) k = absurd k
    go (offers.Flood op) k = absurd k
    go (offers.Drop op) k = absurd k
    go (offers.Finish op cause) k = absurd k

-- ---- What was found

pub some_as : {A : Type 0} (P Q : A → Type 0) (r : Option A) → ((x : A) → P x → Q x) → IfSome r P → IfSome r Q
some_as P Q None k h = tt
some_as P Q (Some x) k h = k x h

-- the context of the first that is due
pub searched_due : (m : Machine) (c : ℕ) → AreDistinct (map live_ctx m.live.items) → option_map live_ctx (find (due_in m) m.live.items) ≡ Some c → IsDueOn m c
searched_due m c d e = go (find (due_in m) m.live.items) refl e
  where
    go : (o : Option Live) → find (due_in m) m.live.items ≡ o → option_map live_ctx o ≡ Some c → IsDueOn m c
    go None f e = absurd cc
    go (Some x) f e = (x, subst (λ n. find (is_live_on n) m.live.items ≡ Some x) (some_inj x.ctx c e) (found_alone (due_in m) m.live.items x d f), found_true (due_in m) m.live.items x f)

pub given_found : (m : Machine) (r : Option OpName) → r ≡ option_map (λ (w : Asking). w.op) (find (gets m) m.waiting.items) → IfSome r (λ op. IsGift m op)
given_found m None e = tt
given_found m (Some op) e = found_gift m op e

pub no_reply_left : (m : Machine) (r : Option OpName) → m.raw ≡ false → IfNone r (list_any (answers m.live.items) m.waiting.items ≡ false) → IfNone r (find (gets m) m.waiting.items ≡ None)
no_reply_left m None q e = no_reply m q e
no_reply_left m (Some op) q e = tt

pub gift_offered : (m : Machine) (t : Moment) (op : OpName) → Ties m t → list_any (λ (v : Asking). v.is_orphan) m.waiting.items ≡ false → IsGift m op → IsOffered (offers.Give op) t
gift_offered m t op h o g = let k = can_give m t g.0 h o g.1 g.3 in (begun_of g.0, k.0, subst (λ (op : OpName). CanGive t op (begun_of g.0) k.0) g.2 k.1)

-- ---- A req that looks at other things

pub ties_ready : (m n : Machine) (t : Moment) → n ≡ record m { ready = n.ready } → (AreReady m.ready m.live.items m.waiting.items → AreReady n.ready m.live.items m.waiting.items) → Ties m t → Ties n t
ties_ready m n t e k h = subst (λ (x : Machine). Ties x t) (sym e) (h.0, h.1, h.2, h.3, h.4, (h.5.0, k h.5.1))

pub ties_dues : (m n : Machine) (t : Moment) → n ≡ record m { dues = n.dues } → (IsSeen m (ups (past t)) → IsSeen n (ups (past t))) → Ties m t → Ties n t
ties_dues m n t e k h = subst (λ (x : Machine). Ties x t) (sym e) (h.0, h.1, h.2, h.3, h.4, (subst (λ (x : Machine). IsSeen x (ups (past t))) e (k h.5.0), h.5.1))

-- ---- The numbers after one

-- the first of the range after a number
pub first_behind : (last : ℕ) (ks : List ℕ) → head_of (filter (λ q. is_lt (nat_cmp last q) && not false) ks) ≡ find (nat_lt last) ks
first_behind last [] = refl
first_behind last (k ∷ ks) = step (nat_lt last k) (last == k) (first_behind last ks)
  where
    step : (a b : Bool) → head_of (filter (λ q. is_lt (nat_cmp last q) && not false) ks) ≡ find (nat_lt last) ks
        → head_of (cond (is_lt (cond a Less (cond b Equal Greater)) && not false) (k ∷ filter (λ q. is_lt (nat_cmp last q) && not false) ks) (filter (λ q. is_lt (nat_cmp last q) && not false) ks)) ≡ cond a (Some k) (find (nat_lt last) ks)
    step true b h = refl
    step false true h = h
    step false false h = h

-- where there is none after the number, the first of all
pub first_round : (last : ℕ) (o : Option ℕ) (ks : List ℕ) → None ≡ find (nat_lt last) ks → o ≡ head_of ks → o ≡ next_of last ks
first_round last o ks e f = f ∙ head_is ks ∙ ap (λ (x : Option ℕ). or_else x (find (λ q. true) ks)) e
  where
    head_is : (us : List ℕ) → head_of us ≡ find (λ q. true) us
    head_is [] = refl
    head_is (u ∷ us) = refl

pub first_onward : (last p : ℕ) (ks : List ℕ) → Some p ≡ find (nat_lt last) ks → Some p ≡ next_of last ks
first_onward last p ks e = ap (λ (x : Option ℕ). or_else x (find (λ q. true) ks)) e

-- The history that a req stands for when operations begin, frames and ticks come, and when it closes; and what it
-- checks before that.
use Rattle.std.proofs.Common.{◌≡◌, ◌≢◌, refl, ap, sym, ◌∙◌, subst, List, [], ◌∷◌, ◌++◌, ℕ, ◌+◌, ◌^◌, ◌<◌, ◌≤◌, max, Bool, true, false, cond, arith, Option, Some, None, map, length}
use Rattle.std.specs.Prelude.{find, filter, drop, take, not, is_some, nat_lt, ◌&&◌, ◌||◌, ◌==◌}
use Rattle.std.specs.List.{list_any}
use Rattle.std.specs.Option.{option_map}
use Rattle.std.proofs.lemmas.Bool.Decides.{nat_tests}
use Rattle.std.proofs.lemmas.List.{with_items_is}
use Rattle.std.specs.Prelude.{Vec, Result, Ok, Err}
use Rattle.sp_msg.specs.Messages.{Trimmed}
use Rattle.sp_msg.specs.declared.message.Short.{Short}
use Rattle.sp_history.specs.declared.entry.Why.{Why}
use Rattle.std.specs.Vec.{with_items}
use Rattle.sp_base.specs.declared.OpName.{OpName}
use Rattle.sp_base.specs.declared.role.Role.{Role}
use Rattle.sp_base.specs.declared.role.Role.TheVariants as role
use Rattle.sp_msg.specs.Views.{MessageView}
use Rattle.sp_history.specs.declared.setting.Setting.{Setting}
use Rattle.sp_history.specs.declared.entry.Entry.{Entry}
use Rattle.sp_history.specs.declared.entry.Entry.TheVariants.{Begin, Down, Frame, Unkept, Ctx, Tick, Close}
use Rattle.sp_history.specs.declared.entry.ContextChange.TheVariants.{Shut}
use Rattle.sp_history.specs.declared.entry.RecordedAct.{RecordedAct}
use Rattle.sp_history.specs.declared.entry.RecordedAct.TheVariants.{Recv, Send}
use Rattle.sp_history.specs.declared.entry.RecordedMessage.{RecordedMessage}
use Rattle.sp_history.specs.declared.entry.Totals.{Totals}
use Rattle.sp_history.specs.declared.parts.Begun.{Begun}
use Rattle.sp_history.specs.declared.parts.Item.{Item}
use Rattle.sp_history.specs.declared.parts.LiveRequest.{LiveRequest}
use Rattle.sp_history.specs.declared.parts.Requests.{Requests}
use Rattle.sp_history.specs.declared.parts.How.TheVariants as how
use Rattle.sp_history.specs.Lists.{has, is_nil, first_word}
use Rattle.sp_history.specs.Setting.{is_reply, has_topics}
use Rattle.sp_history.proofs.Malformed.{by_rule}
use Rattle.sp_history.specs.Frames.{breaks_rule, is_too_long, malformed, malformed_for, plain_item, item_for, item_of as item_in}
use Rattle.sp_history.specs.Past.{pend, up, ups, ctxs, topics, now}
use Rattle.sp_history.specs.Kept.{pool, kept, replies_of, add_for, add_item, is_wanted_by, wanted, has_none_of, is_from}
use Rattle.sp_history.specs.Requests.{requests, end_on, after_moment, over_at, with_frame, live_on, begin_on, next_id}
use Rattle.sp_history.specs.Settled.{has_full, is_dry}
use Rattle.sp_history.specs.Legal.{is_recv}
use Rattle.std.specs.Int.{w32, from_be_bytes}
use Rattle.sp_history.specs.Once.{AreDistinct}
use Rattle.sp_history.specs.Moments.{Moment, Lawful, past, also}
use Rattle.sp_history.proofs.Requesting.{frame_makes, begun_makes, tick_makes, close_makes}
use Rattle.sp_proto.specs.Kinds.{Kind, text_of}
use Rattle.proto_reqrep.specs.declared.req.Request.{Request as Machine}
use Rattle.proto_live_requests.specs.declared.live.Live.{Live}
use Rattle.proto_live_requests.specs.declared.live.KeptReply.{KeptReply}
use Rattle.proto_reqrep.specs.declared.req.Asking.{Asking}
use Rattle.sp_proto.specs.Kinds.{act_of}
use Rattle.proto_live_requests.specs.LiveRequests.{without_live, live_ctx, is_live_on, request_of, with_reply, item_of, context_number, live_id, keeps_reply}
use Rattle.proto_reqrep.specs.Reqs.{Ties, IsSeen, AreReady, Asked, begun_of, is_receiving_on, orphaned, HasLive, HaveLive, Opened, SetTo, ask_state, Keeps, free_number, is_given, Asks, KeepsRaw}
use Rattle.proto_requests.specs.FirstFound.{with_found}
use Rattle.proto_requests.specs.Ids.{raw_item, number_after}
use Rattle.proto_reqrep.proofs.Requested.{ended, reply_came, begun_one, begun_new}
use Rattle.sp_history.specs.Legal.{is_recv_on, is_state}
use Rattle.proto_requests.specs.Ports.{Knows}
use Rattle.proto_live_requests.specs.ReqContexts.{ReqContextView}
use Rattle.proto_live_requests.proofs.RequestLives.{ctx_less, gone_on}
use Rattle.proto_reqrep.proofs.ReqStands.{is_req_role, is_raw, asks, asks_nothing, req_is, raw_same, live_is, kept_is, kept_raw}
use Rattle.proto_reqrep.proofs.OwnedRequests.{all_marked}
use Rattle.proto_live_requests.proofs.LiveIndexes.{length_same}
use Rattle.proto_reqrep.proofs.RequestsDue.{begun_seen}
use Rattle.proto_reqrep.proofs.Hinted.{asked_ready}
use Rattle.proto_live_requests.proofs.Outgoing.{ctxs_kept}
use Rattle.sp_history.proofs.LiveRequests.{next_is_new}
use Rattle.sp_history.specs.Requests.{has_id, next_number, free_from}
use Rattle.sp_history.specs.Legal.{does, state_for}
use Rattle.sp_base.specs.Roles.{has_contexts as role_has_contexts}
use Rattle.sp_history.specs.Setting.{has_contexts}
use Rattle.std.specs.Prelude.{zero, suc, ◌%◌, ◌-◌}
use Rattle.std.proofs.Math.Nat.{mod-add-mod}
use Rattle.sp_proto.specs.Machines.{Frames}
use Rattle.sp_proto.specs.Readings.{out_last}
use Rattle.sp_proto.specs.declared.Verdict.{Verdict}
use Rattle.sp_proto.specs.declared.Verdict.TheVariants as verdict
use Rattle.sp_proto.specs.Kinds.{verb_of, kind_of}
use Rattle.sp_proto.specs.declared.Verb.{Verb}
use Rattle.sp_proto.specs.declared.Verb.TheVariants as verbs
use Rattle.proto_requests.proofs.TestValues.{equal_of, same_number}

left_of : (a b : Bool) → (not a && b) ≡ true → a ≡ false
left_of true b q = absurd cc
left_of false b q = refl

-- ---- A receive begins

pub recv_asked : (m : Machine) (t : Moment) (op : OpName) (c : ℕ) (d : Option ℕ) → Lawful (also t (Begin op t.caller c Recv d)) → Ties m t
    → Asked m.raw m.live.items m.last_id (m.waiting.items ++ record { op = op; ctx = c; message = None; is_orphan = false } ∷ []) (pend (past t) ++ record { op = op; ctx = c; act = Recv } ∷ []) (requests t.z (past t))
recv_asked m t op c d l h =
    begun_one m.raw m.live.items m.last_id m.waiting.items (pend (past t)) (requests t.z (past t)) (record { op = op; ctx = c; message = None; is_orphan = false }) refl (left_of _ _ l.turn.0.itself.slot_free) (λ r. refl) receives live h.3
  where
    state : m.raw ≡ false → (not (is_some (live_on t.z (past t) c)) || list_any (is_recv_on c) (pend (past t))) ≡ false
    state r = cooked_state t.z (is_req_role m t h) (is_raw m t h ∙ r) l.turn.0.itself.no_state
      where
        plain : (b : Bool) → (b && true) ≡ false → b ≡ false
        plain true q = absurd cc
        plain false q = refl

        cooked_state : (z : Setting) → z.role ≡ role.Req → z.raw ≡ false → is_state z (past t) c Recv ≡ false → (not (is_some (live_on z (past t) c)) || list_any (is_recv_on c) (pend (past t))) ≡ false
        cooked_state z i j k = plain (not (is_some (live_on z (past t) c)) || list_any (is_recv_on c) (pend (past t))) (sym (ap (λ (y : Role). state_for y z (past t) c Recv && not z.raw) i ∙ ap (λ q. state_for role.Req z (past t) c Recv && not q) j) ∙ k)

    first_of : (a b : Bool) → (a || b) ≡ false → a ≡ false
    first_of true b k = absurd cc
    first_of false b k = refl

    rest_of : (a b : Bool) → (a || b) ≡ false → b ≡ false
    rest_of true b k = absurd cc
    rest_of false b k = k

    as_receives : (ws : List Asking) → list_any (is_recv_on c) (map begun_of ws) ≡ list_any (is_receiving_on c) ws
    as_receives [] = refl
    as_receives (w ∷ ws) = go w.message (as_receives ws)
      where
        go : (x : Option MessageView) → list_any (is_recv_on c) (map begun_of ws) ≡ list_any (is_receiving_on c) ws
            → (is_recv (act_of x) && (w.ctx == c) || list_any (is_recv_on c) (map begun_of ws)) ≡ (not (is_some x) && (w.ctx == c) || list_any (is_receiving_on c) ws)
        go None k = ap (λ b. (w.ctx == c) || b) k
        go (Some x) k = k

    receives : m.raw ≡ false → list_any (is_receiving_on c) m.waiting.items ≡ false
    receives r = sym (as_receives m.waiting.items) ∙ ap (list_any (is_recv_on c)) h.3.pending ∙ rest_of (not (is_some (live_on t.z (past t) c))) (list_any (is_recv_on c) (pend (past t))) (state r)

    live : m.raw ≡ false → HasLive m.live.items (record { op = op; ctx = c; message = None; is_orphan = false })
    live r = go (find (is_live_on c) m.live.items) refl (first_of (not (is_some (live_on t.z (past t) c))) (list_any (is_recv_on c) (pend (past t))) (state r))
      where
        go : (o : Option Live) → find (is_live_on c) m.live.items ≡ o → not (is_some (live_on t.z (past t) c)) ≡ false → HasLive m.live.items (record { op = op; ctx = c; message = None; is_orphan = false })
        go None e k = let bad : true ≡ false = sym (ap (λ (o : Option LiveRequest). not (is_some o)) (live_is m t c h ∙ ap (option_map request_of) e)) ∙ k in absurd cc
        go (Some x) e k = (x, e, tt)

-- ---- A send begins

pub send_raw_asked : (m : Machine) (t : Moment) (op : OpName) (c : ℕ) (x : MessageView) (d : Option ℕ) → m.raw ≡ true → Lawful (also t (Begin op t.caller c (Send (text_of x)) d)) → Ties m t
    → Asked m.raw m.live.items m.last_id (m.waiting.items ++ record { op = op; ctx = c; message = Some x; is_orphan = false } ∷ []) (pend (past t) ++ record { op = op; ctx = c; act = Send (text_of x) } ∷ []) (requests t.z (Begin op t.caller c (Send (text_of x)) d ∷ past t))
send_raw_asked m t op c x d r l h =
    subst (λ (q : Requests). Asked m.raw m.live.items m.last_id (m.waiting.items ++ record { op = op; ctx = c; message = Some x; is_orphan = false } ∷ []) (pend (past t) ++ record { op = op; ctx = c; act = Send (text_of x) } ∷ []) q)
    (raw_same t.z (past t) (Begin op t.caller c (Send (text_of x)) d ∷ past t) (asks_nothing t.z (is_req_role m t h) (is_raw m t h ∙ r)))
    (begun_one m.raw m.live.items m.last_id m.waiting.items (pend (past t)) (requests t.z (past t)) (record { op = op; ctx = c; message = Some x; is_orphan = false }) refl (left_of _ _ l.turn.0.itself.slot_free) (λ q. no_ r q) (λ q. no_ r q) (λ q. no_ r q) h.3)
  where
    no_ : {A : Type 0} → m.raw ≡ true → m.raw ≡ false → A
    no_ a b = let bad : true ≡ false = sym a ∙ b in absurd cc

after_is : (n : ℕ) → number_after n ≡ 2 ^ 31 + (n + 1) % 2 ^ 31
after_is n = let k = mod-add-mod n 1 (2 ^ 31) in omega (arith, k)

frees_same : (tries n : ℕ) (xs : List Live) → free_number tries xs n ≡ free_from tries (map request_of xs) n
frees_same zero n xs = refl
frees_same (suc tries) n xs =
    ap (λ b. cond b (free_number tries xs (number_after n)) n) (same xs)
    ∙ ap (λ k. cond (list_any (has_id n) (map request_of xs)) k n) (frees_same tries (number_after n) xs ∙ ap (free_from tries (map request_of xs)) (after_is n))
  where
    same : (xs : List Live) → list_any (λ (x : Live). x.id == n) xs ≡ list_any (has_id n) (map request_of xs)
    same [] = refl
    same (x ∷ xs) = ap (λ b. (x.id == n) || b) (same xs)

long_same : (xs : List Live) → length xs ≡ length (map request_of xs)
long_same [] = refl
long_same (x ∷ xs) = let k = long_same xs in omega (arith, k)

pub send_asked : (m n : Machine) (t : Moment) (op : OpName) (c : ℕ) (x : MessageView) (d : Option ℕ) → m.raw ≡ false → Lawful (also t (Begin op t.caller c (Send (text_of x)) d)) → Ties m t → Asks c x.body m n
    → Asked n.raw n.live.items n.last_id (n.waiting.items ++ record { op = op; ctx = c; message = Some x; is_orphan = false } ∷ []) (pend (past t) ++ record { op = op; ctx = c; act = Send (text_of x) } ∷ []) (requests t.z (Begin op t.caller c (Send (text_of x)) d ∷ past t))
send_asked m n t op c x d r l h a =
    let y = a.0 in
    let rs = requests t.z (past t) in
    let after : Requests = end_on (c ∷ []) how.Replaced (pend (past t)) rs in
    let has_some = asks t.z (is_req_role m t h) (is_raw m t h ∙ r) in
    let less = without_live c m.live.items in
    let first = ended m.raw m.live.items m.last_id m.waiting.items (pend (past t)) rs c how.Replaced refl h.3 in
    let w : Asking = record { op = op; ctx = c; message = Some x; is_orphan = false } in
    let same_last : m.last_id ≡ rs.last_id = h.3.last_id in
    let id_is : next_id t.z after ≡ y.id =
    ap (λ k. free_from k after.live (next_number t.z.options.dice rs.last_id)) (ap length (sym first.live) ∙ sym (long_same less))
    ∙ ap (λ (k : List LiveRequest). free_from (length less) k (next_number t.z.options.dice rs.last_id)) (sym first.live)
    ∙ ap (λ (k : Option ℕ). free_from (length less) (map request_of less) (next_number t.z.options.dice k)) (sym same_last)
    ∙ ap (λ (k : Kind). free_from (length less) (map request_of less) (next_number k.options.dice m.last_id)) h.0.kind
    ∙ sym (frees_same (length less) (next_number m.options.dice m.last_id) less) ∙ sym a.1.1 in
    let few : length after.live < 2 ^ 31 = subst (λ k. k < 2 ^ 31) (long_same less ∙ ap length first.live) a.2 in
    let new : has (map live_id less) y.id ≡ false =
    ids_same less y.id ∙ ap (λ (l : List LiveRequest). list_any (has_id y.id) l) first.live ∙ ap (λ k. list_any (has_id k) after.live) (sym id_is) ∙ next_is_new t.z after few in
    let made = begun_new m.raw less m.last_id (map (orphaned c) m.waiting.items) (pend (past t)) after c m.tick w y t.z x.body refl refl x refl refl (left_of _ _ l.turn.0.itself.slot_free) (all_marked c c m.waiting.items (same_number c)) (gone_on c m.live.items h.3.places) new id_is
    a.1.0 a.1.2 a.1.3 a.1.4 a.1.5 a.1.6 a.1.7 first in
    let makes : begin_on t.z m.tick c x.body after ≡ requests t.z (Begin op t.caller c (Send (text_of x)) d ∷ past t) =
    ap (λ k. begin_on t.z k c x.body after) h.0.moment ∙ sym (begun_makes t.z (past t) op t.caller c (text_of x) d has_some) in
    rw (a.3, a.4, a.5, a.6) (subst (λ (q : Requests). Asked m.raw (less ++ y ∷ []) (Some y.id) (map (orphaned c) m.waiting.items ++ w ∷ []) (pend (past t) ++ record { op = op; ctx = c; act = Send (text_of x) } ∷ []) q) makes made)
  where
    ids_same : (xs : List Live) (k : ℕ) → has (map live_id xs) k ≡ list_any (has_id k) (map request_of xs)
    ids_same [] k = refl
    ids_same (y ∷ xs) k = ap (λ b. (y.id == k) || b) (ids_same xs k)

pub send_opened : (m n : Machine) (c : ℕ) (body : List ℕ) (cs : List ℕ) (dry : ℕ → Bool) → Asks c body m n → has cs c ≡ true → Opened m.live.items m.contexts.items cs dry → Opened n.live.items n.contexts.items cs dry
send_opened m n c body cs dry a k h =
    rw (a.3, a.12) (record { of_contexts = λ d q. go d (has (map live_ctx (without_live c m.live.items)) d) refl (sym (two (without_live c m.live.items) d) ∙ q); contexts = h.contexts; dryness = h.dryness })
  where
    two : (xs : List Live) (d : ℕ) → has (map live_ctx (xs ++ a.0 ∷ [])) d ≡ (has (map live_ctx xs) d || (a.0.ctx == d))
    two [] d = last (a.0.ctx == d)
      where
        last : (b : Bool) → (b || false) ≡ b
        last true = refl
        last false = refl
    two (x ∷ xs) d = ap (λ b. (x.ctx == d) || b) (two xs d) ∙ sym (assoc (x.ctx == d) (has (map live_ctx xs) d) (a.0.ctx == d))
      where
        assoc : (p q r : Bool) → ((p || q) || r) ≡ (p || (q || r))
        assoc true q r = refl
        assoc false q r = refl

    go : (d : ℕ) (b : Bool) → has (map live_ctx (without_live c m.live.items)) d ≡ b → (has (map live_ctx (without_live c m.live.items)) d || (a.0.ctx == d)) ≡ true → has cs d ≡ true
    go d true e q = h.of_contexts d (ctx_less c d m.live.items e)
    go d false e q =
        let on : (a.0.ctx == d) ≡ true = sym (ap (λ b. b || (a.0.ctx == d)) e) ∙ q in
        subst (λ n. has cs n ≡ true) (sym a.1.0 ∙ equal_of a.0.ctx d on) k

-- ---- A frame comes

short_is : (b : List ℕ) → first_word b ≡ None → nat_lt (length b) 4 ≡ true
short_is b e = go (nat_lt (length b) 4) refl
  where
    go : (q : Bool) → nat_lt (length b) 4 ≡ q → q ≡ true
    go true f = refl
    go false f = let bad : is_some (first_word b) ≡ true = ap (λ q. is_some (cond q None (Some (from_be_bytes w32 (take 4 b))))) f in let no_ : is_some (first_word b) ≡ false = ap is_some e in let no2 : true ≡ false = sym bad ∙ no_ in absurd cc

long_is : (b : List ℕ) → first_word b ≢ None → nat_lt (length b) 4 ≡ false
long_is b e = go (nat_lt (length b) 4) refl
  where
    go : (q : Bool) → nat_lt (length b) 4 ≡ q → q ≡ false
    go false f = refl
    go true f = absurd (e (ap (λ q. cond q None (Some (from_be_bytes w32 (take 4 b)))) f))

pub malformed_is : (m : Machine) (t : Moment) (b : List ℕ) → Ties m t → breaks_rule t.z b ≡ nat_lt (length b) 4
malformed_is m t b h = go t.z.role (is_req_role m t h)
  where
    go : (r : Role) → r ≡ role.Req → malformed_for r t.z.options.ttl b ≡ nat_lt (length b) 4
    go r e = rw e refl

pub short_frame : (m : Machine) (t : Moment) (b : List ℕ) → Ties m t → first_word b ≡ None → breaks_rule t.z b ≡ true
short_frame m t b h e = malformed_is m t b h ∙ short_is b e

pub long_frame : (m : Machine) (t : Moment) (b : List ℕ) → Ties m t → first_word b ≢ None → breaks_rule t.z b ≡ false
long_frame m t b h e = malformed_is m t b h ∙ long_is b e

-- a frame that is malformed changes no request
pub short_asked : (m : Machine) (t : Moment) (p : ℕ) (b : List ℕ) → Ties m t → malformed t.z (past t) p b ≡ true → Asked m.raw m.live.items m.last_id m.waiting.items (pend (past t)) (requests t.z (Frame p b ∷ past t))
short_asked m t p b h e = go m.raw refl
  where
    same : (rs : List LiveRequest) → map (with_frame t.z (past t) p b) rs ≡ rs
    same [] = refl
    same (r ∷ rs) = ap (λ (q : LiveRequest). q ∷ map (with_frame t.z (past t) p b) rs) (one r) ∙ ap (λ (rest : List LiveRequest). r ∷ rest) (same rs)
      where
        one : (r : LiveRequest) → with_frame t.z (past t) p b r ≡ r
        one r = rw e refl

    go : (v : Bool) → m.raw ≡ v → Asked m.raw m.live.items m.last_id m.waiting.items (pend (past t)) (requests t.z (Frame p b ∷ past t))
    go true r = subst (λ (q : Requests). Asked m.raw m.live.items m.last_id m.waiting.items (pend (past t)) q) (raw_same t.z (past t) (Frame p b ∷ past t) (asks_nothing t.z (is_req_role m t h) (is_raw m t h ∙ r))) h.3
    go false r =
        let after : requests t.z (Frame p b ∷ past t) ≡ requests t.z (past t) =
        frame_makes t.z (past t) p b (asks t.z (is_req_role m t h) (is_raw m t h ∙ r)) ∙ ap (λ (l : List LiveRequest). record (requests t.z (past t)) { live = l }) (same (requests t.z (past t)).live) in
        subst (λ (q : Requests). Asked m.raw m.live.items m.last_id m.waiting.items (pend (past t)) q) (sym after) h.3

pub reply_asked : (m : Machine) (t : Moment) (p n : ℕ) (b : List ℕ) (k : KeptReply) → is_too_long (past t) p b ≡ false → m.raw ≡ false → Ties m t → first_word b ≡ Some n → item_of k ≡ plain_item p (drop 4 b) → Asked m.raw (with_reply n k m.live.items) m.last_id m.waiting.items (pend (past t)) (requests t.z (Frame p b ∷ past t))
reply_asked m t p n b k short r h f i =
    let some : first_word b ≢ None = λ q. let bad : Some n ≡ None = sym f ∙ q in absurd cc in
    subst (λ (q : Requests). Asked m.raw (with_reply n k m.live.items) m.last_id m.waiting.items (pend (past t)) q) (sym (frame_makes t.z (past t) p b (asks t.z (is_req_role m t h) (is_raw m t h ∙ r))))
    (reply_came m.raw m.live.items m.last_id m.waiting.items (pend (past t)) (requests t.z (past t)) t.z (past t) p n b k (is_req_role m t h) (by_rule t.z (past t) p b short ∙ long_frame m t b h some) f i h.3)

pub raw_asked : (m : Machine) (t : Moment) (e : List Entry) → m.raw ≡ true → Ties m t → Asked m.raw m.live.items m.last_id m.waiting.items (pend (past t)) (requests t.z e)
raw_asked m t e r h = subst (λ (q : Requests). Asked m.raw m.live.items m.last_id m.waiting.items (pend (past t)) q) (raw_same t.z (past t) e (asks_nothing t.z (is_req_role m t h) (is_raw m t h ∙ r))) h.3

pub raw_frame : (m : Machine) (t : Moment) (p : ℕ) (b : List ℕ) (ks : List KeptReply) → is_too_long (past t) p b ≡ false → m.raw ≡ true → Ties m t → first_word b ≢ None → map item_of ks ≡ map item_of m.kept.items ++ raw_item p b ∷ [] → map item_of ks ≡ pool t.z (Frame p b ∷ past t) 0
raw_frame m t p b ks short r h f e = e ∙ ap (λ (is : List Item). is ++ raw_item p b ∷ []) (h.2 r) ∙ sym (go t.z (is_req_role m t h) (is_raw m t h ∙ r) (by_rule t.z (past t) p b short ∙ long_frame m t b h f))
  where
    go : (z : Setting) → z.role ≡ role.Req → z.raw ≡ true → malformed z (past t) p b ≡ false → pool z (Frame p b ∷ past t) 0 ≡ pool z (past t) 0 ++ raw_item p b ∷ []
    go z i j k =
        ap (λ q. cond (not q && cond (has_topics z) (has (ctxs (past t)) 0 && is_wanted_by (topics (past t) 0) b) (0 == 0)) (add_for z.role z (item_in z p b) (pool z (past t) 0)) (pool z (past t) 0)) k
        ∙ ap (λ q. cond (cond q (has (ctxs (past t)) 0 && is_wanted_by (topics (past t) 0) b) (0 == 0)) (add_for z.role z (item_in z p b) (pool z (past t) 0)) (pool z (past t) 0)) (no_topics z i)
        ∙ ap (λ (y : Role). add_for y z (item_in z p b) (pool z (past t) 0)) i
        ∙ ap (λ (y : Role). add_item (item_for y z.raw z.options.ttl p b) (pool z (past t) 0)) i
        ∙ ap (λ q. add_item (item_for role.Req q z.options.ttl p b) (pool z (past t) 0)) j
      where
        no_topics : (z : Setting) → z.role ≡ role.Req → has_topics z ≡ false
        no_topics z i = rw i refl

pub raw_short : (m : Machine) (t : Moment) (p : ℕ) (b : List ℕ) → m.raw ≡ true → Ties m t → malformed t.z (past t) p b ≡ true → map item_of m.kept.items ≡ pool t.z (Frame p b ∷ past t) 0
raw_short m t p b r h e = h.2 r ∙ sym (ap (λ q. cond (not q && cond (has_topics t.z) (has (ctxs (past t)) 0 && is_wanted_by (topics (past t) 0) b) (0 == 0)) (add_for t.z.role t.z (item_in t.z p b) (pool t.z (past t) 0)) (pool t.z (past t) 0)) e)

-- raw, the history that it stands for after a frame
pub raw_frames : (m n : Machine) (t : Moment) (p : ℕ) (b : List ℕ) (v : Verdict) → is_too_long (past t) p b ≡ false → m.raw ≡ true → Ties m t → n ≡ record m { kept = n.kept } → KeepsRaw v p b m.kept.items n.kept.items → Frames (Ties n) v t p b
raw_frames m n t p b verdict.Fine short r h s k =
    (long_frame m t b h k.0, subst (λ (y : Machine). Ties y (also t (Frame p b))) (sym s) (h.0, h.1, λ q. raw_frame m t p b n.kept.items short r h k.0 k.1, raw_asked m t (Frame p b ∷ past t) r h, h.4, h.5))
raw_frames m n t p b verdict.Malformed short r h s k =
    let bad = short_frame m t b h k.0 in
    (bad, subst (λ (y : Machine). Ties y (also t (Frame p b))) (sym s) (h.0, h.1, λ q. ap (map item_of) k.1 ∙ raw_short m t p b r h (by_rule t.z (past t) p b short ∙ bad), raw_asked m t (Frame p b ∷ past t) r h, h.4, h.5))
raw_frames m n t p b verdict.NoMemory short r h s k =
    (long_frame m t b h k.0, subst (λ (y : Machine). Ties y (also (also t (Frame p b)) (Unkept p))) (sym s) (h.0, h.1, λ q. ap (map item_of) k.1 ∙ h.2 r, raw_asked m t (Unkept p ∷ Frame p b ∷ past t) r h, h.4, h.5))
raw_frames m n t p b (verdict.Dry c) short r h s k = absurd k

-- ---- A tick, and the close

pub ticked_asked : (m : Machine) (t : Moment) (n : ℕ) (due : List OpName) → Ties m t → Asked m.raw m.live.items m.last_id m.waiting.items (pend (past t)) (requests t.z (Tick n due ∷ past t))
unfolding after_moment
ticked_asked m t n due h = go m.raw refl
  where
    go : (v : Bool) → m.raw ≡ v → Asked m.raw m.live.items m.last_id m.waiting.items (pend (past t)) (requests t.z (Tick n due ∷ past t))
    go true r = raw_asked m t (Tick n due ∷ past t) r h
    go false r =
        let after : requests t.z (Tick n due ∷ past t) ≡ requests t.z (past t) =
        tick_makes t.z (past t) n due (asks t.z (is_req_role m t h) (is_raw m t h ∙ r)) ∙ ap (λ q. cond q (requests t.z (past t)) (end_on (over_at t.z n (requests t.z (past t))) how.Over (pend (past t)) (requests t.z (past t)))) (req_is t.z (is_req_role m t h)) in
        subst (λ (q : Requests). Asked m.raw m.live.items m.last_id m.waiting.items (pend (past t)) q) (sym after) h.3

pub later : (a b : ℕ) → a ≤ b → max a b ≡ b
later a b h = omega (arith, h)

pub closed_asked : (m : Machine) (t : Moment) (totals : Totals) → Lawful (also t (Close totals)) → Ties m t → Asked m.raw [] m.last_id m.waiting.items (pend (past t)) (requests t.z (Close totals ∷ past t))
closed_asked m t totals l h =
    subst (λ (q : Requests). Asked m.raw [] m.last_id m.waiting.items (pend (past t)) q) (sym (close_makes t.z (past t) totals))
    (record {
      live = refl;
      last_id = h.3.last_id;
      ids = tt;
      places = tt;
      sound = tt;
      pending = h.3.pending;
      apart = h.3.apart;
      orphans = h.3.orphans;
      causes = h.3.causes;
      single = h.3.single;
      owned = λ q. none m.waiting.items (h.3.pending ∙ l.turn.0.itself.0);
    })
  where
    none : (ws : List Asking) → map begun_of ws ≡ [] → HaveLive [] ws
    none [] e = tt
    none (w ∷ ws) e = absurd cc

pub closed_opened : (m : Machine) (t : Moment) → Ties m t → Opened [] m.contexts.items (ctxs (past t)) (λ c. is_dry (past t) c)
closed_opened m t h = record { of_contexts = λ c q. absurd cc; contexts = h.4.contexts; dryness = h.4.dryness }

-- ---- What it finds before

pub wants_all : (m : Machine) (t : Moment) (p : ℕ) (b : Bool) → Ties m t → (m.raw ≡ true → b ≡ not (list_any (λ (k : KeptReply). k.pipe == p) m.kept.items)) → (m.raw ≡ false → b ≡ true) → b ≡ wanted t.z (past t) p
wants_all m t p b h f g = go m.raw refl
  where
    from_same : (ks : List KeptReply) → list_any (is_from p) (map item_of ks) ≡ list_any (λ (k : KeptReply). k.pipe == p) ks
    from_same [] = refl
    from_same (k ∷ ks) = ap (λ q. (k.pipe == p) || q) (from_same ks)

    raw_is : (z : Setting) → z.role ≡ role.Req → z.raw ≡ true → has_none_of p (kept z (past t) 0) ≡ wanted z (past t) p
    raw_is z i j = rw (i, j) refl

    cooked_is : (z : Setting) → z.role ≡ role.Req → z.raw ≡ false → true ≡ wanted z (past t) p
    cooked_is z i j = rw (i, j) refl

    go : (v : Bool) → m.raw ≡ v → b ≡ wanted t.z (past t) p
    go true r =
        f r ∙ ap not (sym (from_same m.kept.items)) ∙ ap (has_none_of p) (h.2 r ∙ sym (kept_raw t.z (past t) 0 (is_req_role m t h) (is_raw m t h ∙ r))) ∙ raw_is t.z (is_req_role m t h) (is_raw m t h ∙ r)
    go false r = g r ∙ cooked_is t.z (is_req_role m t h) (is_raw m t h ∙ r)

-- none of the pipe is kept when a frame of it comes
pub none_kept : (m : Machine) (t : Moment) (p : ℕ) (b : List ℕ) → Lawful (also t (Frame p b)) → Ties m t → m.raw ≡ true → list_any (λ (k : KeptReply). k.pipe == p) m.kept.items ≡ false
none_kept m t p b l h r = no _ (wants_all m t p _ h (λ e. refl) (λ e. let bad : true ≡ false = sym r ∙ e in absurd cc) ∙ l.turn.0.itself.1)
  where
    no : (b : Bool) → not b ≡ true → b ≡ false
    no true e = absurd cc
    no false e = refl

-- a message is there for the context
pub given_is : (m : Machine) (t : Moment) (c : ℕ) → Ties m t → is_given m.raw m.kept.items m.live.items c ≡ not (is_nil (kept t.z (past t) c))
given_is m t c h = go m.raw refl
  where
    nil_same : (ks : List KeptReply) → is_nil ks ≡ is_nil (map item_of ks)
    nil_same [] = refl
    nil_same (k ∷ ks) = refl

    away : (xs : List Live) → has (map live_ctx xs) c ≡ false → list_any (keeps_reply c) xs ≡ false
    away [] k = refl
    away (x ∷ xs) k = step (x.ctx == c) (is_some x.reply) k (away xs)
      where
        step : (a b : Bool) → (a || has (map live_ctx xs) c) ≡ false → (has (map live_ctx xs) c ≡ false → list_any (keeps_reply c) xs ≡ false) → (a && b || list_any (keeps_reply c) xs) ≡ false
        step true b k again = absurd cc
        step false b k again = again k

    replies : (xs : List Live) → AreDistinct (map live_ctx xs) → list_any (keeps_reply c) xs ≡ not (is_nil (replies_of (option_map request_of (find (is_live_on c) xs))))
    replies [] d = refl
    replies (x ∷ xs) d = step (x.ctx == c) refl x.reply (replies xs d.1)
      where
        step : (a : Bool) → (x.ctx == c) ≡ a → (k : Option KeptReply) → list_any (keeps_reply c) xs ≡ not (is_nil (replies_of (option_map request_of (find (is_live_on c) xs))))
            → (a && is_some k || list_any (keeps_reply c) xs) ≡ not (is_nil (replies_of (option_map request_of (cond a (Some (record { ctx = x.ctx; id = x.id; copy = x.copy; birth = x.birth; last_out = x.last_out; reply = k })) (find (is_live_on c) xs)))))
        step true e None again = away xs (subst (λ n. has (map live_ctx xs) n ≡ false) (equal_of x.ctx c e) d.0)
        step true e (Some k) again = refl
        step false e k again = again

    go : (v : Bool) → m.raw ≡ v → is_given m.raw m.kept.items m.live.items c ≡ not (is_nil (kept t.z (past t) c))
    go true r =
        ap (λ q. is_given q m.kept.items m.live.items c) r ∙ ap not (nil_same m.kept.items ∙ ap is_nil (h.2 r ∙ sym (kept_raw t.z (past t) c (is_req_role m t h) (is_raw m t h ∙ r))))
    go false r = ap (λ q. is_given q m.kept.items m.live.items c) r ∙ replies m.live.items h.3.places ∙ ap (λ (is : List Item). not (is_nil is)) (sym (kept_is m t c h r))

pub does_is : (m : Machine) (t : Moment) (c : ℕ) (act : RecordedAct) (b : Bool) → Ties m t → ((c == 0) || not m.raw) ≡ b → (does t.z.role act && ((c == 0) || has_contexts t.z)) ≡ b
does_is m t c act b h e =
    ap (λ (r : Role). does r act && ((c == 0) || role_has_contexts r && not t.z.raw)) (is_req_role m t h) ∙ ap (λ q. q && ((c == 0) || not t.z.raw)) (both act) ∙ ap (λ q. (c == 0) || not q) (is_raw m t h) ∙ e
  where
    both : (act : RecordedAct) → does role.Req act ≡ true
    both Recv = refl
    both (Send x) = refl

pub open_is : (m : Machine) (t : Moment) (c : ℕ) (ss : List ReqContextView) (b o : Bool) → Ties m t → ss ≡ m.contexts.items → o ≡ list_any (λ (s : ReqContextView). s.ctx == c) ss → o ≡ b → has (ctxs (past t)) c ≡ b
open_is m t c ss b o h e k f = ap (λ cs. has cs c) (sym h.4.contexts) ∙ same m.contexts.items ∙ ap (list_any (λ (s : ReqContextView). s.ctx == c)) (sym e) ∙ sym k ∙ f
  where
    same : (ss : List ReqContextView) → has (map context_number ss) c ≡ list_any (λ (s : ReqContextView). s.ctx == c) ss
    same [] = refl
    same (s ∷ ss) = ap (λ b. (s.ctx == c) || b) (same ss)

pub send_state : (m : Machine) (t : Moment) (c : ℕ) (x : RecordedMessage) → Ties m t → is_state t.z (past t) c (Send x) ≡ false
send_state m t c x h = ap (λ (r : Role). state_for r t.z (past t) c (Send x) && not t.z.raw) (is_req_role m t h)

some_any : {A : Type 0} (P : A → Bool) (xs : List A) → is_some (find P xs) ≡ list_any P xs
some_any P [] = refl
some_any P (x ∷ xs) = go (P x) (some_any P xs)
  where
    go : (b : Bool) → is_some (find P xs) ≡ list_any P xs → is_some (cond b (Some x) (find P xs)) ≡ (b || list_any P xs)
    go true h = refl
    go false h = h

pub recv_state : (m : Machine) (t : Moment) (c : ℕ) → Ties m t → is_state t.z (past t) c Recv ≡ (ask_state m.waiting.items m.live.items c verbs.Recv && not m.raw)
recv_state m t c h =
    ap (λ (r : Role). state_for r t.z (past t) c Recv && not t.z.raw) (is_req_role m t h) ∙ ap (λ q. state_for role.Req t.z (past t) c Recv && not q) (is_raw m t h)
    ∙ ap (λ (o : Option LiveRequest). (not (is_some o) || list_any (is_recv_on c) (pend (past t))) && not m.raw) (live_is m t c h)
    ∙ ap (λ q. (not q || list_any (is_recv_on c) (pend (past t))) && not m.raw) (some_same (find (is_live_on c) m.live.items) ∙ some_any (is_live_on c) m.live.items)
    ∙ ap (λ (ss : List Begun). (not (list_any (is_live_on c) m.live.items) || list_any (is_recv_on c) ss) && not m.raw) (sym h.3.pending)
    ∙ ap (λ q. (not (list_any (is_live_on c) m.live.items) || q) && not m.raw) (as_receives m.waiting.items)
  where
    some_same : (o : Option Live) → is_some (option_map request_of o) ≡ is_some o
    some_same None = refl
    some_same (Some x) = refl

    as_receives : (ws : List Asking) → list_any (is_recv_on c) (map begun_of ws) ≡ list_any (is_receiving_on c) ws
    as_receives [] = refl
    as_receives (w ∷ ws) = go w.message (as_receives ws)
      where
        go : (x : Option MessageView) → list_any (is_recv_on c) (map begun_of ws) ≡ list_any (is_receiving_on c) ws
            → (is_recv (act_of x) && (w.ctx == c) || list_any (is_recv_on c) (map begun_of ws)) ≡ (not (is_some x) && (w.ctx == c) || list_any (is_receiving_on c) ws)
        go None k = ap (λ b. (w.ctx == c) || b) k
        go (Some x) k = k

pub refused_for : (m : Machine) (t : Moment) (c : ℕ) (v : Verb) (act : RecordedAct) (b s : Bool) → Ties m t → verb_of act ≡ v → s ≡ ask_state m.waiting.items m.live.items c v → (s && not m.raw) ≡ b → is_state t.z (past t) c act ≡ b
refused_for m t c v Recv b s h e k f = recv_state m t c h ∙ ap (λ (u : Verb). ask_state m.waiting.items m.live.items c u && not m.raw) e ∙ ap (λ q. q && not m.raw) (sym k) ∙ f
refused_for m t c v (Send x) b s h e k f = send_state m t c x h ∙ ap (λ (u : Verb). ask_state m.waiting.items m.live.items c u && not m.raw) e ∙ ap (λ q. q && not m.raw) (sym k) ∙ f

pub never_raw : (m : Machine) (t : Moment) (c : ℕ) (act : RecordedAct) → Ties m t → m.raw ≡ true → is_state t.z (past t) c act ≡ false
never_raw m t c act h r = ap (λ q. state_for t.z.role t.z (past t) c act && not q) (is_raw m t h ∙ r) ∙ none (state_for t.z.role t.z (past t) c act)
  where
    none : (b : Bool) → (b && false) ≡ false
    none true = refl
    none false = refl

-- a context of a raw socket is never shut; for a cooked one nothing is kept separately
pub shut_items : (m : Machine) (t : Moment) (c : ℕ) → Lawful (also t (Ctx c Shut)) → Ties m t → m.raw ≡ true → map item_of m.kept.items ≡ pool t.z (Ctx c Shut ∷ past t) 0
shut_items m t c l h r = h.2 r ∙ sym (away (c == 0) refl)
  where
    away : (b : Bool) → (c == 0) ≡ b → cond b [] (pool t.z (past t) 0) ≡ pool t.z (past t) 0
    away false e = refl
    away true e = absurd (l.turn.0.itself.0 (equal_of c 0 e))

-- ---- The same with other names

pub asked_live : {raw : Bool} {xs ys : List Live} {id : Option ℕ} {ws : List Asking} {ss : List Begun} {rs : Requests} → ys ≡ xs → Asked raw xs id ws ss rs → Asked raw ys id ws ss rs
asked_live e h = rw e h

pub asked_ops : {raw : Bool} {xs : List Live} {id : Option ℕ} {ws vs : List Asking} {ss : List Begun} {rs : Requests} → vs ≡ ws → Asked raw xs id ws ss rs → Asked raw xs id vs ss rs
asked_ops e h = rw e h

pub opened_live : {xs ys : List Live} {ss : List ReqContextView} {cs : List ℕ} {dry : ℕ → Bool} → ys ≡ xs → Opened xs ss cs dry → Opened ys ss cs dry
opened_live e h = rw e h

pub opened_contexts : {xs : List Live} {ss rs : List ReqContextView} {cs : List ℕ} {dry : ℕ → Bool} → rs ≡ ss → Opened xs ss cs dry → Opened xs rs cs dry
opened_contexts e h = rw e h

pub down_items : (m : Machine) (t : Moment) (p : ℕ) (why : Why) → Ties m t → m.raw ≡ true → map item_of m.kept.items ≡ pool t.z (Down p why ∷ past t) 0
down_items m t p why h r = h.2 r ∙ sym (go t.z.role (is_req_role m t h))
  where
    go : (y : Role) → y ≡ role.Req → cond (is_reply y) (filter (λ i. not (is_from p i)) (pool t.z (past t) 0)) (pool t.z (past t) 0) ≡ pool t.z (past t) 0
    go y e = rw e refl

-- ---- Free numbers

pub free_none : (tries n : ℕ) (xs : List Live) → tries ≡ 0 → n ≡ free_number tries xs n
free_none tries n xs e = rw e refl

pub free_stop : (tries n : ℕ) (xs : List Live) → list_any (λ (x : Live). x.id == n) xs ≡ false → n ≡ free_number tries xs n
free_stop zero n xs e = refl
free_stop (suc tries) n xs e = sym (ap (λ b. cond b (free_number tries xs (number_after n)) n) e)

pub free_on : (tries n : ℕ) (xs : List Live) → tries ≢ 0 → list_any (λ (x : Live). x.id == n) xs ≡ true → free_number (tries - 1) xs (number_after n) ≡ free_number tries xs n
free_on zero n xs k e = absurd (k refl)
free_on (suc tries) n xs k e = ap (λ j. free_number j xs (number_after n)) (less tries) ∙ sym (ap (λ b. cond b (free_number tries xs (number_after n)) n) e)
  where
    less : (n : ℕ) → suc n - 1 ≡ n
    less n = omega arith

pub found_written : {Z : Type 0} (P : Live → Bool) (f : Live → Live) (v : Vec Live Z) (xs ys : List Live) → ys ≡ v.items → xs ≡ with_found P f ys → (with_items v xs).items ≡ with_found P f v.items
found_written P f v xs ys e h =
    let long : length xs ≡ length ys = ap length h ∙ length_same P f ys in
    with_items_is v xs (long ∙ ap length e ∙ sym v.ok.0) ∙ h ∙ ap (with_found P f) e

-- contexts of requests that get a reply stay
pub ctxs_replied : (n : ℕ) (k : KeptReply) (xs ys : List Live) → ys ≡ with_reply n k xs → map live_ctx ys ≡ map live_ctx xs
ctxs_replied n k xs ys e = ap (map live_ctx) e ∙ ctxs_kept n k xs

pub some_word : (b : List ℕ) (n : ℕ) → first_word b ≡ Some n → first_word b ≢ None
some_word b n h k = let bad : Some n ≡ None = sym h ∙ k in absurd cc

-- what is left of a frame after its id
pub trimmed_is : {U : Type 0} (p : ℕ) (old new : MessageView) (r : Result U Short) → Trimmed 4 old new r → old.header ≡ [] → first_word old.body ≢ None → ◌≡◌ {A = Item} (record { pipe = p; words = []; message = text_of new }) (plain_item p (drop 4 old.body))
trimmed_is p old new (Ok u) h e f = ap (λ (v : MessageView). record { pipe = p; words = []; message = text_of v }) h.1 ∙ ap (λ (l : List ℕ). record { pipe = p; words = []; message = record { header = l; body = drop 4 old.body } }) e
trimmed_is p old new (Err u) h e f = let long : nat_lt (length old.body) 4 ≡ false = long_is old.body f in absurd (short (length old.body) h.0 long)
  where
    short : (n : ℕ) → n < 4 → nat_lt n 4 ≡ false → ⊥
    short n a b = grind (arith, nat_tests)

-- a send of a cooked req began
pub all_begun : (m n : Machine) (t : Moment) (op : OpName) (c : ℕ) (x : MessageView) (d : Option ℕ) (ws : List Asking) → m.raw ≡ false → Lawful (also t (Begin op t.caller c (Send (text_of x)) d)) → Ties m t → Asks c x.body m n
    → ws ≡ n.waiting.items ++ record { op = op; ctx = c; message = Some x; is_orphan = false } ∷ []
    → SetTo n.raw n.options n.tick n.last_pipe (kind_of t.z) (now (past t)) (out_last (past t)) × Knows n.ports.items (up (past t)) (ups (past t)) (λ q. has_full t.turn q) × Keeps n.raw n.kept.items (pool t.z (past t) 0)
    × Asked n.raw n.live.items n.last_id ws (pend (past t) ++ record { op = op; ctx = c; act = Send (text_of x) } ∷ []) (requests t.z (Begin op t.caller c (Send (text_of x)) d ∷ past t)) × Opened n.live.items n.contexts.items (ctxs (past t)) (λ q. is_dry (past t) q)
    × (IsSeen n (ups (past t)) × AreReady n.ready n.live.items ws)
all_begun m n t op c x d ws r l h a e = (
  rw (a.6, a.7, a.8, a.11) h.0,
  rw a.9 h.1,
  rw (a.6, a.10) h.2,
  asked_ops e (send_asked m n t op c x d r l h a),
  send_opened m n c x.body (ctxs (past t)) (λ q. is_dry (past t) q) a l.turn.0.itself.ctx_open h.4,
  (begun_seen m n c (ups (past t)) x.body a h.3.places h.5.0, asked_ready m n c x.body op x ws a e h.5.1),
)

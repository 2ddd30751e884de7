-- A req stands for its history after an operation was won, or a request went out again.
use Rattle.std.proofs.Common.{◌≡◌, refl, ap, sym, ◌∙◌, subst, List, ◌∷◌, ◌++◌, ℕ, ◌<◌, Bool, true, false, arith, Option, Some, None, map, length}
use Rattle.std.specs.Prelude.{find, drop, not, is_some, nat_le, ◌+◌, ◌*◌, ◌&&◌, ◌||◌, ◌==◌}
use Rattle.proto_requests.specs.Backlogs.{BacklogView}
use Rattle.proto_live_requests.specs.Lives.{LivesView}
use Rattle.proto_live_requests.specs.Dues.{DuesView, AreSeen}
use Rattle.proto_live_requests.proofs.DueRequests.{seen_less}
use Rattle.proto_reqrep.proofs.RequestsDue.{out_now}
use Rattle.proto_reqrep.proofs.Hinted.{ready_live, ready_fewer, keeps_less, keeps_same}
use Rattle.std.specs.List.{list_any}
use Rattle.std.specs.Option.{option_map}
use Rattle.sp_base.specs.declared.OpName.{OpName}
use Rattle.sp_msg.specs.Views.{MessageView, wire_text}
use Rattle.sp_history.specs.declared.entry.Entry.TheVariants.{End, Out, Dry}
use Rattle.sp_history.specs.declared.entry.Ending.TheVariants.{Won}
use Rattle.sp_history.specs.declared.entry.Completion.TheVariants.{Received, Sent}
use Rattle.sp_history.specs.declared.entry.RecordedMessage.{RecordedMessage}
use Rattle.sp_history.specs.declared.parts.Begun.{Begun}
use Rattle.sp_history.specs.declared.parts.LastOut.{LastOut}
use Rattle.sp_history.specs.declared.parts.LiveRequest.{LiveRequest}
use Rattle.sp_history.specs.Lists.{has, head_of, word, is_nil}
use Rattle.sp_history.specs.Sends.{is_due_again, is_lost}
use Rattle.sp_history.specs.Kept.{pool}
use Rattle.sp_history.specs.Past.{pend, up, ups, ctxs, now}
use Rattle.sp_history.specs.Requests.{requests, wire_of}
use Rattle.sp_history.specs.Moments.{Moment, past, also}
use Rattle.sp_history.specs.Settled.{is_dry, has_full}
use Rattle.sp_history.specs.declared.setting.Options.{Options}
use Rattle.sp_proto.specs.Kinds.{Kind, text_of, kind_of}
use Rattle.sp_proto.specs.Machines.{CanGive, CanSend, CanAgain}
use Rattle.sp_proto.specs.Readings.{out_last}
use Rattle.proto_requests.specs.Ports.{is_pipe, free_count, PortView, Knows}
use Rattle.proto_reqrep.specs.declared.req.Request.{Request as Machine}
use Rattle.proto_live_requests.specs.declared.live.Live.{Live}
use Rattle.proto_live_requests.specs.declared.live.KeptReply.{KeptReply}
use Rattle.proto_reqrep.specs.declared.req.Asking.{Asking}
use Rattle.proto_requests.specs.Waits.{WaitsView}
use Rattle.proto_live_requests.specs.ReqContexts.{ReqContextView}
use Rattle.proto_live_requests.specs.LiveRequests.{NotesOut, item_of, is_live_on, without_live, sent_at, reply_in, live_ctx, request_of, dried, dry_at, items_of}
use Rattle.proto_reqrep.specs.Reqs.{Ties, late_in, dry_in, AreReady, is_asked, without_first, work_left, is_due, is_late_in, due_count, SetTo, Keeps, Asked, Opened}
use Rattle.proto_requests.specs.FirstFound.{with_found}
use Rattle.proto_reqrep.proofs.ReqStands.{given_raw, given_cooked, given_items, given_oldest, given_message}
use Rattle.proto_reqrep.proofs.RequestMoments.{sent_raw, sent_raw_bytes, sent_cooked, sent_bytes, ctxs_sent, opened_as, opened_less, again_asked, again_live, again_cooked, dried_opened}
use Rattle.proto_reqrep.proofs.ReqArrivals.{asked_live, asked_ops, opened_live, opened_contexts}
use Rattle.proto_live_requests.proofs.LiveIndexes.{length_same}
use Rattle.proto_reqrep.proofs.WorkLeft.{less_waiting, fewer_live, fewer_due, fewer_ops, same_live, none_due, not_due, up_is, less_due, count_falls, count_narrowed, due_before, dry_not_due}
use Rattle.proto_live_requests.proofs.RequestLives.{found_ctx}
use Rattle.proto_requests.proofs.TestValues.{not_both, same_number}

-- what went out on a pipe that is up is not due
sent_not_due : (m : Machine) (t : Moment) (p : ℕ) → Ties m t → has (up (past t)) p ≡ true → (x : Live) → is_due m.options.resend m.tick m.ports.items m.contexts.items (sent_at (record { pipe = p; when = m.tick }) x) ≡ false
sent_not_due m t p h u x = not_due m.options.resend m.tick p m.ports.items m.contexts.items x h.0.resend (ap (list_any (is_pipe p)) h.1.ports ∙ up_is _ (up (past t)) p ∙ u)

-- ---- The pipe of the last Out

set_same : {raw : Bool} {options : Options} {tick last other t out : ℕ} {k : Kind} → other ≡ last → SetTo raw options tick last k t out → SetTo raw options tick other k t out
set_same e h = record { kind = h.kind; resend = h.resend; moment = h.moment; outs = e ∙ h.outs }

set_on : {raw : Bool} {options : Options} {tick last other t out p : ℕ} {k : Kind} → other ≡ p → SetTo raw options tick last k t out → SetTo raw options tick other k t p
set_on e h = record { kind = h.kind; resend = h.resend; moment = h.moment; outs = e }

set_out : {raw : Bool} {options : Options} {tick last t out p : ℕ} {k : Kind} → SetTo raw options tick last k t out → SetTo raw options tick p k t p
set_out h = record { kind = h.kind; resend = h.resend; moment = h.moment; outs = refl }

module _ (m n : Machine) (ws : WaitsView Asking) (t : Moment) (op : OpName) (s : Begun) (w : Asking) (h : Ties m t) (f : Some w ≡ find (is_asked op) m.waiting.items) (e : ws.items ≡ without_first op m.waiting.items)
    (same : n ≡ record { raw = m.raw; options = m.options; tick = m.tick; last_id = m.last_id; last_pipe = n.last_pipe; ports = m.ports; roomy = n.roomy; retried = m.retried; kept = n.kept; live = n.live; dues = n.dues; waiting = ws; ready = m.ready; contexts = m.contexts }) where
  abbrev is : Machine
  is = record { raw = m.raw; options = m.options; tick = m.tick; last_id = m.last_id; last_pipe = n.last_pipe; ports = m.ports; roomy = n.roomy; retried = m.retried; kept = n.kept; live = n.live; dues = n.dues; waiting = ws; ready = m.ready; contexts = m.contexts }

  pub given_all : (text : RecordedMessage) (r : Option MessageView) → CanGive t op s text → w.message ≡ None → n.last_pipe ≡ m.last_pipe → n.dues ≡ m.dues
      → (m.raw ≡ true → (r ≡ option_map (λ (k : KeptReply). k.message) (head_of m.kept.items)) × (n.kept.items ≡ drop 1 m.kept.items) × (n.live ≡ m.live))
      → (m.raw ≡ false → (r ≡ reply_in (find (is_live_on w.ctx) m.live.items)) × (n.live.items ≡ without_live w.ctx m.live.items) × (n.kept ≡ m.kept))
      → (option_map text_of r ≡ Some text) × Ties n (also t (End op (Won (Received text)))) × (work_left n < work_left m)
  given_all text r g none pipe dues raw cooked = go m.raw refl
    where
      go : (b : Bool) → m.raw ≡ b → (option_map text_of r ≡ Some text) × Ties n (also t (End op (Won (Received text)))) × (work_left n < work_left m)
      go true q =
          let k = raw q in
          let live = ap (λ (v : LivesView). v.items) k.2 in
          let ties : Ties is (also t (End op (Won (Received text)))) = (set_same pipe h.0, h.1, λ v. ap (map item_of) k.1 ∙ given_items m t op s w text h g f v, asked_live live (asked_ops e (given_raw m t op s w text h g f q)), opened_live live h.4, (rw (dues, live) h.5.0, rw live (ready_fewer m.ready m.live.items (is_asked op) m.waiting.items ws.items e h.5.1))) in
          let ops = fewer_ops (is_asked op) m.waiting.items ws.items w f e in
          let less : work_left is < work_left m = rw k.2 (less_waiting _ _ _ _ _ _ _ (omega arith) (omega arith) ops) in (
            ap (option_map text_of) k.0 ∙ given_oldest m t op s w text h g f q,
            subst (λ (x : Machine). Ties x (also t (End op (Won (Received text))))) (sym same) ties,
            subst (λ (x : Machine). work_left x < work_left m) (sym same) less,
          )
      go false q =
          let k = cooked q in
          let ties : Ties is (also t (End op (Won (Received text)))) =
          (set_same pipe h.0, h.1, λ v. not_both v q, asked_live k.1 (asked_ops e (given_cooked m t op s w text h g f q none)), opened_live k.1 (opened_less w.ctx m.live.items m.contexts.items _ _ h.4), (rw dues (seen_less m.dues (late_in m) (dry_in m) (ups (past t)) (is_live_on w.ctx) m.live.items n.live.items k.1 h.5.0), ready_live m.ready m.live.items n.live.items ws.items (λ v x. keeps_less v (is_live_on w.ctx) m.live.items n.live.items k.1 x) (ready_fewer m.ready m.live.items (is_asked op) m.waiting.items ws.items e h.5.1))) in
          let ops = fewer_ops (is_asked op) m.waiting.items ws.items w f e in
          let less : work_left is < work_left m = less_waiting _ _ _ _ _ _ _ (fewer_live w.ctx m.live.items n.live.items k.1) (fewer_due _ w.ctx m.live.items n.live.items k.1) ops in (
            ap (option_map text_of) k.0 ∙ given_message m t op s w text h g f q,
            subst (λ (x : Machine). Ties x (also t (End op (Won (Received text))))) (sym same) ties,
            subst (λ (x : Machine). work_left x < work_left m) (sym same) less,
          )

  pub sent_all : (p : ℕ) (b : List ℕ) (x r : MessageView) → CanSend t op p s b → w.message ≡ Some x → n.kept ≡ m.kept → n.last_pipe ≡ p → (m.raw ≡ true → (r ≡ x) × (n.live ≡ m.live) × (n.dues ≡ m.dues)) → (m.raw ≡ false → NotesOut m.dues n.dues m.live.items w.ctx (record { pipe = p; when = m.tick }))
      → (m.raw ≡ false → n.live.items ≡ with_found (is_live_on w.ctx) (sent_at (record { pipe = p; when = m.tick })) m.live.items) → (m.raw ≡ false → (y : Live) → find (is_live_on w.ctx) m.live.items ≡ Some y → wire_text r ≡ word y.id ++ x.body)
      → (wire_text r ≡ b) × Ties n (also (also t (Out p b)) (End op (Won Sent))) × (work_left n < work_left m)
  sent_all p b x r g some kept pipe raw notes cooked bytes = go m.raw refl
    where
      go : (v : Bool) → m.raw ≡ v → (wire_text r ≡ b) × Ties n (also (also t (Out p b)) (End op (Won Sent))) × (work_left n < work_left m)
      go true q =
          let k = raw q in
          let live = ap (λ (v : LivesView). v.items) k.1 in
          let ties : Ties is (also (also t (Out p b)) (End op (Won Sent))) = (set_on pipe h.0, h.1, λ v. ap (λ (y : BacklogView KeptReply). map item_of y.items) kept ∙ h.2 v, asked_live live (asked_ops e (sent_raw m t op p s b w x h g f some q)), opened_live live h.4, (rw (k.2, live) h.5.0, rw live (ready_fewer m.ready m.live.items (is_asked op) m.waiting.items ws.items e h.5.1))) in
          let ops = fewer_ops (is_asked op) m.waiting.items ws.items w f e in
          let less : work_left is < work_left m = rw k.1 (less_waiting _ _ _ _ _ _ _ (omega arith) (omega arith) ops) in (
            ap wire_text k.0 ∙ sent_raw_bytes m t op p s b w x h g f some q,
            subst (λ (y : Machine). Ties y (also (also t (Out p b)) (End op (Won Sent)))) (sym same) ties,
            subst (λ (y : Machine). work_left y < work_left m) (sym same) less,
          )
      go false q =
          let live = cooked q in
          let y = sent_bytes m t op p s b w x h g f some q in
          let ties : Ties is (also (also t (Out p b)) (End op (Won Sent))) =
          (set_on pipe h.0, h.1, λ v. not_both v q, asked_live live (asked_ops e (sent_cooked m t op p s b w x h g f some q)), opened_as m.live.items n.live.items m.contexts.items _ _ (ap (map live_ctx) live ∙ ctxs_sent w.ctx (record { pipe = p; when = m.tick }) m.live.items) h.4, (let now = out_now m t p h g.is_up in rw live (notes q (late_in m) (dry_in m) (ups (past t)) now.0 now.1 h.5.0), ready_live m.ready m.live.items n.live.items ws.items (λ v k. sym (keeps_same v (is_live_on w.ctx) (sent_at (record { pipe = p; when = m.tick })) m.live.items n.live.items (λ z. refl) live) ∙ k) (ready_fewer m.ready m.live.items (is_asked op) m.waiting.items ws.items e h.5.1))) in
          let ops = fewer_ops (is_asked op) m.waiting.items ws.items w f e in
          let less : work_left is < work_left m =
          less_waiting _ _ _ _ _ _ _ (same_live _ _ m.live.items n.live.items live) (none_due _ w.ctx (sent_at (record { pipe = p; when = m.tick })) m.live.items n.live.items (λ z o. sent_not_due m t p h g.is_up z) live) ops in (
            bytes q y.0 y.1 ∙ y.2,
            subst (λ (y : Machine). Ties y (also (also t (Out p b)) (End op (Won Sent)))) (sym same) ties,
            subst (λ (y : Machine). work_left y < work_left m) (sym same) less,
          )

-- ---- Whether a request is due

-- as the history has it, where its context is not dry
pub due_is : (m : Machine) (t : Moment) → Ties m t → (x : Live) → dry_at x.ctx m.contexts.items ≡ false → is_due m.options.resend m.tick m.ports.items m.contexts.items x ≡ is_due_again t.z (past t) (request_of x)
due_is m t h x d = rw d (plain (is_some x.reply) (is_late_in m.options.resend m.tick m.ports.items x.last_out) ∙ ap (λ b. b && is_late_in m.options.resend m.tick m.ports.items x.last_out) (nil_is x.reply) ∙ ap (λ b. is_nil (items_of x.reply) && b) (late x.last_out))
  where
    plain : (a b : Bool) → (not a && (b && true)) ≡ (not a && b)
    plain true b = refl
    plain false true = refl
    plain false false = refl

    nil_is : (o : Option KeptReply) → not (is_some o) ≡ is_nil (items_of o)
    nil_is None = refl
    nil_is (Some k) = refl

    late : (o : Option LastOut) → is_late_in m.options.resend m.tick m.ports.items o ≡ is_lost t.z (past t) o
    late None = refl
    late (Some o) =
        ap (λ (ps : List PortView). not (list_any (is_pipe o.pipe) ps) || nat_le (o.when + m.options.resend) m.tick) h.1.ports ∙ ap (λ b. not b || nat_le (o.when + m.options.resend) m.tick) (up_is (λ q. has_full t.turn q) (up (past t)) o.pipe)
        ∙ ap (λ n. not (has (up (past t)) o.pipe) || nat_le (o.when + m.options.resend) n) h.0.moment ∙ ap (λ (k : Kind). not (has (up (past t)) o.pipe) || nat_le (o.when + k.options.resend) (now (past t))) (sym h.0.kind)

-- ---- A request goes out again

pub none_again : {A : Type 0} (m : Machine) (t : Moment) (c p : ℕ) (r : LiveRequest) → Ties m t → CanAgain t c p r → {xs : List Live} → find (is_live_on c) xs ≡ None → xs ≡ m.live.items → A
none_again m t c p r h g f e =
    let y = again_live m t c p r h g in
    let bad : None ≡ Some y.0 = sym f ∙ ap (find (is_live_on c)) e ∙ y.1 in absurd cc

-- it is due, as far as the machine knows
due_now : (m : Machine) (t : Moment) (c p : ℕ) (r : LiveRequest) (h : Ties m t) (g : CanAgain t c p r) → is_due m.options.resend m.tick m.ports.items m.contexts.items (again_live m t c p r h g).0 ≡ true
due_now m t c p r h g =
    let y = again_live m t c p r h g in
    let rr : request_of y.0 ≡ r = y.2 in
    let due : is_due_again t.z (past t) (request_of y.0) ≡ true = ap (is_due_again t.z (past t)) rr ∙ g.due in
    let on : y.0.ctx ≡ c = found_ctx c m.live.items y.0 y.1 in
    let not_dry : dry_at y.0.ctx m.contexts.items ≡ false = ap (λ n. dry_at n m.contexts.items) on ∙ h.4.dryness c g.ctx_open ∙ g.not_dry in
    due_is m t h y.0 not_dry ∙ due

pub again_dry : (m : Machine) (t : Moment) (c p : ℕ) (r : LiveRequest) → Ties m t → CanAgain t c p r → (ss : List ReqContextView) (v : DuesView) → ss ≡ map (dried c) m.contexts.items → AreSeen v (late_in m) (λ q. dry_at q ss) (ups (past t)) m.live.items
    → SetTo m.raw m.options m.tick m.last_pipe (kind_of t.z) (now (past t)) (out_last (past t)) × Knows m.ports.items (up (past t)) (ups (past t)) (λ q. has_full t.turn q) × Keeps m.raw m.kept.items (pool t.z (Dry c ∷ past t) 0)
    × Asked m.raw m.live.items m.last_id m.waiting.items (pend (past t)) (requests t.z (past t)) × Opened m.live.items ss (ctxs (past t)) (λ d. (c == d) || is_dry (past t) d)
    × (AreSeen v (late_in m) (λ q. dry_at q ss) (ups (past t)) m.live.items × AreReady m.ready m.live.items m.waiting.items)
again_dry m t c p r h g ss v e s = (h.0, h.1, λ v. not_both v (again_cooked m t c p r h g), h.3, opened_contexts e (dried_opened c m.live.items m.contexts.items (ctxs (past t)) (λ d. is_dry (past t) d) h.4), (s, h.5.1))

pub dry_less : (m : Machine) (t : Moment) (c p : ℕ) (r : LiveRequest) → Ties m t → CanAgain t c p r → (ss : List ReqContextView) → ss ≡ map (dried c) m.contexts.items
    → free_count m.ports.items * (length m.live.items + 1) + due_count (is_due m.options.resend m.tick m.ports.items ss) m.live.items + length m.waiting.items < work_left m
dry_less m t c p r h g ss e =
    let y = again_live m t c p r h g in
    let f : ℕ → Bool = λ d. dry_at d (map (dried c) m.contexts.items) in
    let dry : dry_at c (map (dried c) m.contexts.items) ≡ true = (dried_opened c m.live.items m.contexts.items (ctxs (past t)) (λ d. is_dry (past t) d) h.4).dryness c g.ctx_open ∙ same c in
    rw e (less_due _ _ _ _ _ (count_narrowed (is_due m.options.resend m.tick m.ports.items m.contexts.items) (is_due m.options.resend m.tick m.ports.items (map (dried c) m.contexts.items)) c m.live.items y.0 y.1 (due_now m t c p r h g)
    (λ x q. due_before m.options.resend m.tick c m.ports.items m.contexts.items x q) (λ x o. dry_not_due m.options.resend m.tick c m.ports.items (map (dried c) m.contexts.items) x o dry)))
  where
    same : (c : ℕ) → ((c == c) || is_dry (past t) c) ≡ true
    same c = ap (λ b. b || is_dry (past t) c) (same_number c)

pub again_out : (m : Machine) (t : Moment) (c p : ℕ) (r : LiveRequest) → Ties m t → CanAgain t c p r → (xs : List Live) (v : DuesView) (x : MessageView) → xs ≡ with_found (is_live_on c) (sent_at (record { pipe = p; when = m.tick })) m.live.items → NotesOut m.dues v m.live.items c (record { pipe = p; when = m.tick })
    → ((y : Live) → find (is_live_on c) m.live.items ≡ Some y → wire_text x ≡ word y.id ++ y.copy.body)
    → (wire_text x ≡ wire_of r) × (SetTo m.raw m.options m.tick p (kind_of t.z) (now (past t)) p × Knows m.ports.items (up (past t)) (ups (past t)) (λ q. has_full t.turn q) × Keeps m.raw m.kept.items (pool t.z (past t) 0)
    × Asked m.raw xs m.last_id m.waiting.items (pend (past t)) (requests t.z (Out p (wire_of r) ∷ past t)) × Opened xs m.contexts.items (ctxs (past t)) (λ d. is_dry (past t) d) × (AreSeen v (late_in m) (dry_in m) (ups (past t)) xs × AreReady m.ready xs m.waiting.items))
again_out m t c p r h g xs v x e f w =
    let y = again_live m t c p r h g in (
      w y.0 y.1 ∙ ap wire_of y.2,
      (set_out h.0, h.1, h.2, asked_live e (again_asked m t c p r h g), opened_as m.live.items xs m.contexts.items _ _ (ap (map live_ctx) e ∙ ctxs_sent c (record { pipe = p; when = m.tick }) m.live.items) h.4, (let now = out_now m t p h g.is_up in rw e (f (late_in m) (dry_in m) (ups (past t)) now.0 now.1 h.5.0), ready_live m.ready m.live.items xs m.waiting.items (λ v q. sym (keeps_same v (is_live_on c) (sent_at (record { pipe = p; when = m.tick })) m.live.items xs (λ z. refl) e) ∙ q) h.5.1)),
    )

pub out_less : (m : Machine) (t : Moment) (c p : ℕ) (r : LiveRequest) → Ties m t → CanAgain t c p r → (xs : List Live) → xs ≡ with_found (is_live_on c) (sent_at (record { pipe = p; when = m.tick })) m.live.items
    → free_count m.ports.items * (length xs + 1) + due_count (is_due m.options.resend m.tick m.ports.items m.contexts.items) xs + length m.waiting.items < work_left m
out_less m t c p r h g xs e =
    let y = again_live m t c p r h g in
    let long = length_same (is_live_on c) (sent_at (record { pipe = p; when = m.tick })) m.live.items in
    rw (e, long) (less_due _ _ _ _ _ (count_falls (is_due m.options.resend m.tick m.ports.items m.contexts.items) c (sent_at (record { pipe = p; when = m.tick })) m.live.items y.0 y.1 (due_now m t c p r h g) (λ z o. sent_not_due m t p h g.is_up z)))

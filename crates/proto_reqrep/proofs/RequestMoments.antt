-- The history that a req stands for when requests begin and go out, frames come, and contexts open and shut.
use Rattle.std.proofs.Common.{◌≡◌, ◌≢◌, refl, ap, sym, ◌∙◌, subst, List, [], ◌∷◌, ◌++◌, ℕ, ◌+◌, ◌<◌, Bool, true, false, cond, arith, Option, Some, None, map, rules}
use Rattle.std.specs.Prelude.{find, filter, not, is_some, ◌&&◌, ◌||◌, ◌==◌}
use Rattle.std.specs.List.{list_any, list_all}
use Rattle.std.specs.Option.{option_map}
use Rattle.std.proofs.lemmas.Bool.Decides.{nat_tests}
use Rattle.std.proofs.lemmas.List.{map-append}
use Rattle.sp_base.specs.declared.OpName.{OpName}
use Rattle.sp_base.specs.declared.role.Role.{Role}
use Rattle.sp_base.specs.declared.role.Role.TheVariants as role
use Rattle.sp_msg.specs.Views.{MessageView, wire_text}
use Rattle.sp_history.specs.declared.entry.Entry.{Entry}
use Rattle.sp_history.specs.declared.entry.Entry.TheVariants.{End, Out, Ctx}
use Rattle.sp_history.specs.declared.entry.ContextChange.TheVariants.{Open, Shut}
use Rattle.sp_history.specs.declared.entry.RecordedAct.TheVariants.{Send}
use Rattle.sp_history.specs.declared.entry.Ending.TheVariants.{Won}
use Rattle.sp_history.specs.declared.entry.Completion.TheVariants.{Sent}
use Rattle.sp_history.specs.declared.parts.Begun.{Begun}
use Rattle.sp_history.specs.declared.parts.LiveRequest.{LiveRequest}
use Rattle.sp_history.specs.declared.parts.Requests.{Requests}
use Rattle.sp_history.specs.declared.parts.How.TheVariants as how
use Rattle.sp_history.specs.Lists.{has, without, is_nil, word}
use Rattle.sp_history.specs.Past.{without_begun, pend, ctxs, opened}
use Rattle.sp_history.specs.Kept.{route}
use Rattle.sp_history.specs.Requests.{requests, no_requests, asked, is_orphan, end_on, without_orphan, after_end, of_live, change_live, with_out, wire_of, live_on, request_of as asked_of}
use Rattle.sp_history.specs.Sends.{is_lost}
use Rattle.sp_history.specs.Sends.{bytes_of_act, bytes_for}
use Rattle.sp_history.specs.Settled.{is_dry}
use Rattle.sp_history.specs.Moments.{Moment, Lawful, past, also}
use Rattle.sp_history.proofs.Requesting.{end_makes, out_makes, shut_makes}
use Rattle.sp_history.specs.declared.setting.Options.{Options}
use Rattle.sp_proto.specs.Kinds.{text_of, start, setting_of}
use Rattle.sp_proto.specs.Readings.{reading}
use Rattle.sp_proto.specs.Machines.{CanSend, CanAgain}
use Rattle.proto_reqrep.specs.declared.req.Request.{Request as Machine}
use Rattle.proto_live_requests.specs.declared.live.Live.{Live}
use Rattle.proto_reqrep.specs.declared.req.Asking.{Asking}
use Rattle.sp_proto.specs.Kinds.{act_of}
use Rattle.proto_live_requests.specs.LiveRequests.{without_live, live_ctx, is_live_on, request_of, sent_at, dry_at, dried, wetted, context_number}
use Rattle.proto_reqrep.specs.Reqs.{Ties, Asked, req_kind, begun_of, is_asked, is_sending, is_sending_on, without_first, HaveLive, IsOf, Opened}
use Rattle.proto_requests.specs.FirstFound.{with_found}
use Rattle.proto_reqrep.proofs.OwnedRequests.{owned_at, only_send}
use Rattle.proto_requests.specs.Ordered.{is_before}
use Rattle.proto_requests.specs.Ports.{Knows}
use Rattle.proto_requests.proofs.OpenContexts.{lawful_before, seen_before}
use Rattle.proto_reqrep.proofs.Requested.{taken, ended_alone, gone_out}
use Rattle.sp_history.specs.declared.parts.LastOut.{LastOut}
use Rattle.proto_live_requests.specs.ReqContexts.{ReqContextView}
use Rattle.proto_live_requests.proofs.RequestLives.{ctx_less, gone_on}
use Rattle.proto_requests.proofs.NumbersIn.{has_still, has_first}
use Rattle.proto_reqrep.proofs.ReqStands.{is_req_role, is_raw, asks, asks_nothing, raw_same, raw_end, live_is, flag, is_begun}
use Rattle.sp_history.proofs.LiveRequests.{next_not_dry}
use Rattle.proto_requests.proofs.TestValues.{equal_of, some_inj, turned}

-- ---- A send goes out

module _ (m : Machine) (t : Moment) (op : OpName) (p : ℕ) (s : Begun) (b : List ℕ) (w : Asking) (x : MessageView) (h : Ties m t) (g : CanSend t op p s b) (f : Some w ≡ find (is_asked op) m.waiting.items) (e : w.message ≡ Some x) where
  sent_its : begun_of w ≡ s
  sent_its = is_begun m t op s w h g.pending f

  its_act : s.act ≡ Send (text_of x)
  its_act = ap (λ (q : Begun). q.act) (sym sent_its) ∙ ap act_of e

  its_bytes : bytes_for t.z.role t.z.raw (route t.z (past t) s.op) (asked_of t.z (past t) s) (text_of x) ≡ Some b
  its_bytes = sym (ap (bytes_of_act t.z (past t) s) its_act) ∙ g.bytes

  pub sent_raw_bytes : m.raw ≡ true → wire_text x ≡ b
  sent_raw_bytes r = some_inj _ _ (sym (raw_bytes t.z.role t.z.raw (is_req_role m t h) (is_raw m t h ∙ r)) ∙ its_bytes)
    where
      raw_bytes : (y : Role) (v : Bool) → y ≡ role.Req → v ≡ true → bytes_for y v (route t.z (past t) s.op) (asked_of t.z (past t) s) (text_of x) ≡ Some (wire_text x)
      raw_bytes y v i j = rw (i, j) refl

  abbrev pub sent_past : List Entry
  sent_past = End op (Won Sent) ∷ Out p b ∷ past t

  pub sent_raw : m.raw ≡ true → Asked m.raw m.live.items m.last_id (without_first op m.waiting.items) (pend sent_past) (requests t.z sent_past)
  sent_raw r =
      let nothing = asks_nothing t.z (is_req_role m t h) (is_raw m t h ∙ r) in
      subst (λ (rs : Requests). Asked m.raw m.live.items m.last_id (without_first op m.waiting.items) (pend sent_past) rs)
      (ap (without_orphan op) (raw_same t.z (past t) (Out p b ∷ past t) nothing) ∙ raw_end t.z (Out p b ∷ past t) op (Won Sent) nothing)
      (taken m.raw m.live.items m.last_id m.waiting.items (pend (past t)) (requests t.z (past t)) op h.3)

  -- the live request of a send that goes out
  sent_request : m.raw ≡ false → (is_orphan (requests t.z (past t)) s.op ≡ false) × ((y : Live) × (find (is_live_on w.ctx) m.live.items ≡ Some y) × (wire_of (request_of y) ≡ b))
  sent_request r = go (is_orphan (requests t.z (past t)) s.op) refl
    where
      ctx_is : w.ctx ≡ s.ctx
      ctx_is = ap (λ (q : Begun). q.ctx) sent_its

      cooked : option_map wire_of (asked_of t.z (past t) s) ≡ Some b
      cooked = sym (cooked_bytes t.z.role t.z.raw (is_req_role m t h) (is_raw m t h ∙ r)) ∙ its_bytes
        where
          cooked_bytes : (y : Role) (v : Bool) → y ≡ role.Req → v ≡ false → bytes_for y v (route t.z (past t) s.op) (asked_of t.z (past t) s) (text_of x) ≡ option_map wire_of (asked_of t.z (past t) s)
          cooked_bytes y v i j = rw (i, j) refl

      found : (o : Option Live) → find (is_live_on w.ctx) m.live.items ≡ o → option_map wire_of (live_on t.z (past t) s.ctx) ≡ Some b → (y : Live) × (find (is_live_on w.ctx) m.live.items ≡ Some y) × (wire_of (request_of y) ≡ b)
      found None q k =
          let none : live_on t.z (past t) s.ctx ≡ None = live_is m t s.ctx h ∙ ap (λ n. option_map request_of (find (is_live_on n) m.live.items)) (sym ctx_is) ∙ ap (option_map request_of) q in
          let bad : None ≡ Some b = sym (ap (option_map wire_of) none) ∙ k in absurd cc
      found (Some y) q k =
          let one : live_on t.z (past t) s.ctx ≡ Some (request_of y) = live_is m t s.ctx h ∙ ap (λ n. option_map request_of (find (is_live_on n) m.live.items)) (sym ctx_is) ∙ ap (option_map request_of) q in
          (y, q, some_inj _ _ (sym (ap (option_map wire_of) one) ∙ k))

      go : (o : Bool) → is_orphan (requests t.z (past t)) s.op ≡ o → (is_orphan (requests t.z (past t)) s.op ≡ false) × ((y : Live) × (find (is_live_on w.ctx) m.live.items ≡ Some y) × (wire_of (request_of y) ≡ b))
      go true q = let bad : None ≡ Some b = sym (ap (λ v. option_map wire_of (cond {A = Option LiveRequest} v None (live_on t.z (past t) s.ctx))) q) ∙ cooked in absurd cc
      go false q = (q, found (find (is_live_on w.ctx) m.live.items) refl (sym (ap (λ v. option_map wire_of (cond {A = Option LiveRequest} v None (live_on t.z (past t) s.ctx))) q) ∙ cooked))

  sent_flag : m.raw ≡ false → w.is_orphan ≡ false
  sent_flag r = sym (flag m t (is_asked op) w h (sym f)) ∙ ap (λ (q : Begun). is_orphan (requests t.z (past t)) q.op) sent_its ∙ (sent_request r).0

  -- what goes out for it
  pub sent_bytes : m.raw ≡ false → (y : Live) × (find (is_live_on w.ctx) m.live.items ≡ Some y) × (word y.id ++ x.body ≡ b)
  sent_bytes r =
      let y = (sent_request r).1 in
      let own = owned_at m.live.items (is_asked op) m.waiting.items w (h.3.owned r) (sym f) (sent_flag r) in
      let is : own.0 ≡ y.0 = some_inj _ _ (sym own.1 ∙ y.1) in
      let of : IsOf y.0 (Some x) = subst (λ (o : Option MessageView). IsOf y.0 o) e (subst (λ (l : Live). IsOf l w.message) is own.2) in
      (y.0, y.1, ap (λ (l : List ℕ). word y.0.id ++ l) (sym of.0) ∙ y.2)

  pub sent_cooked : m.raw ≡ false → Asked m.raw (with_found (is_live_on w.ctx) (sent_at (record { pipe = p; when = m.tick })) m.live.items) m.last_id (without_first op m.waiting.items) (pend sent_past) (requests t.z sent_past)
  sent_cooked r =
      let rs = requests t.z (past t) in
      let left = without_begun (pend (past t)) op in
      let has_some = asks t.z (is_req_role m t h) (is_raw m t h ∙ r) in
      let request = sent_request r in
      let y = request.1 in
      let own = sent_flag r in
      let out : LastOut = record { pipe = p; when = m.tick } in
      let first = taken m.raw m.live.items m.last_id m.waiting.items (pend (past t)) rs op h.3 in
      let sending : is_sending w ≡ true = ap is_some e in
      let lone = only_send op m.waiting.items w (h.3.single r) (sym f) sending own in
      let second = gone_out m.raw m.live.items m.last_id (without_first op m.waiting.items) left (without_orphan op rs) w.ctx m.tick p y.0 y.1 (λ q. lone) first in
      let after : requests t.z (Out p b ∷ past t) ≡ change_live (with_out m.tick p (wire_of (request_of y.0))) rs =
      out_makes t.z (past t) p b has_some ∙ ap (λ n. change_live (with_out n p b) rs) (sym h.0.moment) ∙ ap (λ (l : List ℕ). change_live (with_out m.tick p l) rs) (sym y.2) in
      let same_orphans : is_orphan (requests t.z (Out p b ∷ past t)) s.op ≡ false = ap (λ (q : Requests). is_orphan q s.op) after ∙ request.0 in
      let makes : requests t.z sent_past ≡ without_orphan op (requests t.z (Out p b ∷ past t)) =
      end_makes t.z (Out p b ∷ past t) op (Won Sent) has_some ∙ ap (λ (o : Option Begun). without_orphan op (after_end t.z (Won Sent) (of_live (requests t.z (Out p b ∷ past t)) o) left (requests t.z (Out p b ∷ past t)))) g.pending
      ∙ ap (λ q. without_orphan op (after_end t.z (Won Sent) (cond {A = Option Begun} q None (Some s)) left (requests t.z (Out p b ∷ past t)))) same_orphans in
      subst (λ (q : Requests). Asked m.raw (with_found (is_live_on w.ctx) (sent_at out) m.live.items) m.last_id (without_first op m.waiting.items) (pend sent_past) q) (sym (makes ∙ ap (without_orphan op) after)) second

-- contexts of requests that go out stay
pub ctxs_sent : (c : ℕ) (o : LastOut) (xs : List Live) → map live_ctx (with_found (is_live_on c) (sent_at o) xs) ≡ map live_ctx xs
ctxs_sent c o [] = refl
ctxs_sent c o (x ∷ xs) = go (x.ctx == c) (ctxs_sent c o xs)
  where
    go : (b : Bool) → map live_ctx (with_found (is_live_on c) (sent_at o) xs) ≡ map live_ctx xs → map live_ctx (cond b (sent_at o x ∷ xs) (x ∷ with_found (is_live_on c) (sent_at o) xs)) ≡ x.ctx ∷ map live_ctx xs
    go true h = refl
    go false h = ap (λ (rest : List ℕ). x.ctx ∷ rest) h

pub opened_as : (xs ys : List Live) (ss : List ReqContextView) (cs : List ℕ) (dry : ℕ → Bool) → map live_ctx ys ≡ map live_ctx xs → Opened xs ss cs dry → Opened ys ss cs dry
opened_as xs ys ss cs dry e h = record { of_contexts = λ c k. h.of_contexts c (ap (λ l. has l c) (sym e) ∙ k); contexts = h.contexts; dryness = h.dryness }

pub opened_less : (c : ℕ) (xs : List Live) (ss : List ReqContextView) (cs : List ℕ) (dry : ℕ → Bool) → Opened xs ss cs dry → Opened (without_live c xs) ss cs dry
opened_less c xs ss cs dry h = record { of_contexts = λ d k. h.of_contexts d (ctx_less c d xs k); contexts = h.contexts; dryness = h.dryness }

-- ---- A request goes out again

module _ (m : Machine) (t : Moment) (c p : ℕ) (r : LiveRequest) (h : Ties m t) (g : CanAgain t c p r) where
  pub again_cooked : m.raw ≡ false
  again_cooked = go m.raw refl
    where
      go : (b : Bool) → m.raw ≡ b → b ≡ false
      go false e = refl
      go true e = let k : false ≡ true = rw (is_req_role m t h, is_raw m t h ∙ e) at g.sends_again in absurd cc

  pub again_live : (y : Live) × (find (is_live_on c) m.live.items ≡ Some y) × (request_of y ≡ r)
  again_live = go (find (is_live_on c) m.live.items) refl
    where
      go : (o : Option Live) → find (is_live_on c) m.live.items ≡ o → (y : Live) × (find (is_live_on c) m.live.items ≡ Some y) × (request_of y ≡ r)
      go None e = let bad : None ≡ Some r = sym (live_is m t c h ∙ ap (option_map request_of) e) ∙ g.live in absurd cc
      go (Some y) e = (y, e, some_inj _ _ (sym (live_is m t c h ∙ ap (option_map request_of) e) ∙ g.live))

  pub again_asked : Asked m.raw (with_found (is_live_on c) (sent_at (record { pipe = p; when = m.tick })) m.live.items) m.last_id m.waiting.items (pend (past t)) (requests t.z (Out p (wire_of r) ∷ past t))
  again_asked =
      let rs = requests t.z (past t) in
      let has_some = asks t.z (is_req_role m t h) (is_raw m t h ∙ again_cooked) in
      let y = again_live in
      let after : requests t.z (Out p (wire_of r) ∷ past t) ≡ change_live (with_out m.tick p (wire_of (request_of y.0))) rs =
      out_makes t.z (past t) p (wire_of r) has_some ∙ ap (λ n. change_live (with_out n p (wire_of r)) rs) (sym h.0.moment) ∙ ap (λ (q : LiveRequest). change_live (with_out m.tick p (wire_of q)) rs) (sym y.2) in
      subst (λ (q : Requests). Asked m.raw (with_found (is_live_on c) (sent_at (record { pipe = p; when = m.tick })) m.live.items) m.last_id m.waiting.items (pend (past t)) q) (sym after)
      (gone_out m.raw m.live.items m.last_id m.waiting.items (pend (past t)) rs c m.tick p y.0 y.1 (λ q. no_send m.waiting.items (h.3.owned q)) h.3)
    where
      went : again_live.0.last_out ≢ None
      went n =
          let lost : is_lost t.z (past t) r.last_out ≡ true = second (is_nil r.replies) (is_lost t.z (past t) r.last_out) g.due in
          let none : r.last_out ≡ None = ap (λ (q : LiveRequest). q.last_out) (sym again_live.2) ∙ n in
          let bad : false ≡ true = sym (ap (is_lost t.z (past t)) none) ∙ lost in cc
        where
          second : (a b : Bool) → (a && b) ≡ true → b ≡ true
          second true b q = q
          second false b q = absurd cc

      no_send : (ws : List Asking) → HaveLive m.live.items ws → list_any (λ (v : Asking). not v.is_orphan && is_sending_on c v) ws ≡ false
      no_send [] o = refl
      no_send (w ∷ ws) o = let k : list_any (λ (v : Asking). not v.is_orphan && is_sending_on c v) ws ≡ false = no_send ws o.1 in rw k (go w.is_orphan refl (w.ctx == c) refl w.message refl)
        where
          go : (l : Bool) → w.is_orphan ≡ l → (e : Bool) → (w.ctx == c) ≡ e → (v : Option MessageView) → w.message ≡ v → (not l && (is_some w.message && e) || false) ≡ false
          go true a e b v q = refl
          go false a e b None q = rw q refl
          go false a false b (Some v) q = rw q refl
          go false a true b (Some v) q =
              let k = o.0 a in
              let is : k.0 ≡ again_live.0 = some_inj _ _ (sym k.1 ∙ ap (λ n. find (is_live_on n) m.live.items) (equal_of w.ctx c b) ∙ again_live.1) in
              let of : IsOf again_live.0 (Some v) = subst (λ (u : Option MessageView). IsOf again_live.0 u) q (subst (λ (l : Live). IsOf l w.message) is k.2) in
              absurd (went of.1)

-- ---- A context is dry

pub dried_opened : (c : ℕ) (xs : List Live) (ss : List ReqContextView) (cs : List ℕ) (dry : ℕ → Bool) → Opened xs ss cs dry → Opened xs (map (dried c) ss) cs (λ d. (c == d) || dry d)
dried_opened c xs ss cs dry h = record { of_contexts = h.of_contexts; contexts = same ss ∙ h.contexts; dryness = λ d k. marks d ss (ap (λ l. has l d) h.contexts ∙ k) ∙ ap (λ b. (c == d) || b) (h.dryness d k) }
  where
    same : (ss : List ReqContextView) → map context_number (map (dried c) ss) ≡ map context_number ss
    same [] = refl
    same (s ∷ ss) = ap (λ (rest : List ℕ). s.ctx ∷ rest) (same ss)

    -- for another context nothing changes
    other : (d : ℕ) (ss : List ReqContextView) → (c == d) ≡ false → dry_at d (map (dried c) ss) ≡ dry_at d ss
    other d [] e = refl
    other d (s ∷ ss) e = let k = other d ss e in rw k (go (s.ctx == d) refl (s.ctx == c) refl s.is_dry)
      where
        third : (l m n : ℕ) → (l == m) ≡ true → (l == n) ≡ true → (n == m) ≡ false → ⊥
        third l m n a b k = grind (arith, nat_tests)

        go : (a : Bool) → (s.ctx == d) ≡ a → (b : Bool) → (s.ctx == c) ≡ b → (y : Bool) → (a && (y || b) || dry_at d ss) ≡ (a && y || dry_at d ss)
        go false f b g y = refl
        go true f false g true = refl
        go true f false g false = refl
        go true f true g y = absurd (third s.ctx d c f g e)

    it : (d : ℕ) (ss : List ReqContextView) → (c == d) ≡ true → has (map context_number ss) d ≡ true → dry_at d (map (dried c) ss) ≡ true
    it d [] e k = absurd cc
    it d (s ∷ ss) e k = go (s.ctx == d) refl (s.ctx == c) refl s.is_dry k (it d ss e)
      where
        third : (l m n : ℕ) → (l == m) ≡ true → (l == n) ≡ false → (n == m) ≡ true → ⊥
        third l m n a b k = grind (arith, nat_tests)

        go : (a : Bool) → (s.ctx == d) ≡ a → (b : Bool) → (s.ctx == c) ≡ b → (y : Bool) → (a || has (map context_number ss) d) ≡ true → (has (map context_number ss) d ≡ true → dry_at d (map (dried c) ss) ≡ true) → (a && (y || b) || dry_at d (map (dried c) ss)) ≡ true
        go false f b g y k again = again k
        go true f true g true k again = refl
        go true f true g false k again = refl
        go true f false g y k again = absurd (third s.ctx d c f g e)

    marks : (d : ℕ) (ss : List ReqContextView) → has (map context_number ss) d ≡ true → dry_at d (map (dried c) ss) ≡ ((c == d) || dry_at d ss)
    marks d ss k = go (c == d) refl
      where
        go : (b : Bool) → (c == d) ≡ b → dry_at d (map (dried c) ss) ≡ (b || dry_at d ss)
        go true e = it d ss e k
        go false e = other d ss e

pub wetted_opened : (xs : List Live) (ss : List ReqContextView) (cs : List ℕ) (dry : ℕ → Bool) → Opened xs ss cs dry → Opened xs (map wetted ss) cs (λ d. false)
wetted_opened xs ss cs dry h = record { of_contexts = h.of_contexts; contexts = same ss ∙ h.contexts; dryness = λ d k. none d ss }
  where
    same : (ss : List ReqContextView) → map context_number (map wetted ss) ≡ map context_number ss
    same [] = refl
    same (s ∷ ss) = ap (λ (rest : List ℕ). s.ctx ∷ rest) (same ss)

    none : (d : ℕ) (ss : List ReqContextView) → dry_at d (map wetted ss) ≡ false
    none d [] = refl
    none d (s ∷ ss) = rw (none d ss) (go (s.ctx == d))
      where
        go : (a : Bool) → (a && false || false) ≡ false
        go true = refl
        go false = refl

-- ---- Contexts are opened and shut

pub opened_before : (m : Machine) (t : Moment) (c : ℕ) → Lawful (also t (Ctx c Open)) → Ties m t → list_all (is_before context_number c) m.contexts.items ≡ true
opened_before m t c l h = seen_before context_number m.contexts.items t c l h.4.contexts

pub opened_more : (m : Machine) (t : Moment) (c : ℕ) → Lawful (also t (Ctx c Open)) → Ties m t → Opened m.live.items (m.contexts.items ++ record { ctx = c; is_dry = false } ∷ []) (ctxs (past t) ++ c ∷ []) (λ d. is_dry (past t) d)
opened_more m t c l h =
    record {
      of_contexts = λ d k. has_first (ctxs (past t)) (c ∷ []) d (h.4.of_contexts d k);
      contexts = map-append context_number m.contexts.items (record { ctx = c; is_dry = false } ∷ []) ∙ ap (λ (cs : List ℕ). cs ++ c ∷ []) h.4.contexts;
      dryness = λ d k. one m.contexts.items d ∙ go d (has (ctxs (past t)) d) refl k;
    }
  where
    new : c ≡ opened (past t) + 1
    new = l.turn.0.itself.1

    one : (ss : List ReqContextView) (d : ℕ) → dry_at d (ss ++ record { ctx = c; is_dry = false } ∷ []) ≡ dry_at d ss
    one [] d = last (c == d)
      where
        last : (b : Bool) → (b && false || false) ≡ false
        last true = refl
        last false = refl
    one (s ∷ ss) d = ap (λ b. (s.ctx == d) && s.is_dry || b) (one ss d)

    absent : (ss : List ReqContextView) (d : ℕ) → has (map context_number ss) d ≡ false → dry_at d ss ≡ false
    absent [] d k = refl
    absent (s ∷ ss) d k = step (s.ctx == d) s.is_dry k (absent ss d)
      where
        step : (a y : Bool) → (a || has (map context_number ss) d) ≡ false → (has (map context_number ss) d ≡ false → dry_at d ss ≡ false) → (a && y || dry_at d ss) ≡ false
        step true y k again = absurd cc
        step false y k again = again k

    is_last : (cs : List ℕ) (d : ℕ) → has cs d ≡ false → has (cs ++ c ∷ []) d ≡ true → (c == d) ≡ true
    is_last [] d a b = tail (c == d) b
      where
        tail : (x : Bool) → (x || false) ≡ true → x ≡ true
        tail true q = refl
        tail false q = absurd cc
    is_last (x ∷ cs) d a b = step (x == d) a b (is_last cs d)
      where
        step : (y : Bool) → (y || has cs d) ≡ false → (y || has (cs ++ c ∷ []) d) ≡ true → (has cs d ≡ false → has (cs ++ c ∷ []) d ≡ true → (c == d) ≡ true) → (c == d) ≡ true
        step true a b again = absurd cc
        step false a b again = again a b

    go : (d : ℕ) (b : Bool) → has (ctxs (past t)) d ≡ b → has (ctxs (past t) ++ c ∷ []) d ≡ true → dry_at d m.contexts.items ≡ is_dry (past t) d
    go d true e k = h.4.dryness d e
    go d false e k =
        let is : c ≡ d = equal_of c d (is_last (ctxs (past t)) d e k) in
        let above : opened (past t) < d = omega (arith, new, is) in
        absent m.contexts.items d (ap (λ cs. has cs d) h.4.contexts ∙ e) ∙ sym (next_not_dry t.z (past t) d (lawful_before t (Ctx c Open) l) above)

pub shut_opened : (m : Machine) (t : Moment) (c : ℕ) (ss : List ReqContextView) → Ties m t → ss ≡ filter (λ (s : ReqContextView). not (s.ctx == c)) m.contexts.items → Opened (without_live c m.live.items) ss (without (ctxs (past t)) c) (λ d. is_dry (past t) d)
shut_opened m t c ss h e =
    record {
      of_contexts = λ d k. has_still (ctxs (past t)) c d (h.4.of_contexts d (ctx_less c d m.live.items k)) (away d k);
      contexts = ap (map context_number) e ∙ less m.contexts.items ∙ ap (λ cs. without cs c) h.4.contexts;
      dryness = λ d k. let q = there (ctxs (past t)) d k in ap (dry_at d) e ∙ stays d m.contexts.items q.1 ∙ h.4.dryness d q.0;
    }
  where
    less : (ss : List ReqContextView) → map context_number (filter (λ (s : ReqContextView). not (s.ctx == c)) ss) ≡ without (map context_number ss) c
    less [] = refl
    less (s ∷ ss) = go (s.ctx == c) (less ss)
      where
        go : (b : Bool) → map context_number (filter (λ (s : ReqContextView). not (s.ctx == c)) ss) ≡ without (map context_number ss) c
            → map context_number (cond (not b) (s ∷ filter (λ (s : ReqContextView). not (s.ctx == c)) ss) (filter (λ (s : ReqContextView). not (s.ctx == c)) ss)) ≡ cond (not b) (s.ctx ∷ without (map context_number ss) c) (without (map context_number ss) c)
        go true k = k
        go false k = ap (λ (rest : List ℕ). s.ctx ∷ rest) k

    away : (d : ℕ) → has (map live_ctx (without_live c m.live.items)) d ≡ true → (d == c) ≡ false
    away d k = go (d == c) refl
      where
        go : (b : Bool) → (d == c) ≡ b → b ≡ false
        go false q = refl
        go true q =
            let gone : has (map live_ctx (without_live c m.live.items)) d ≡ false = subst (λ n. has (map live_ctx (without_live c m.live.items)) n ≡ false) (sym (equal_of d c q)) (gone_on c m.live.items h.3.places) in
            let bad : true ≡ false = sym k ∙ gone in absurd cc

    there : (cs : List ℕ) (d : ℕ) → has (without cs c) d ≡ true → (has cs d ≡ true) × ((d == c) ≡ false)
    there [] d k = absurd cc
    there (x ∷ cs) d k = go (x == c) refl (x == d) refl k (there cs d)
      where
        other : (l m n : ℕ) → (l == m) ≡ false → (l == n) ≡ true → (n == m) ≡ false
        other l m n a b = grind (arith, nat_tests)

        go : (a : Bool) → (x == c) ≡ a → (b : Bool) → (x == d) ≡ b → has (cond (not a) (x ∷ without cs c) (without cs c)) d ≡ true → (has (without cs c) d ≡ true → (has cs d ≡ true) × ((d == c) ≡ false)) → ((b || has cs d) ≡ true) × ((d == c) ≡ false)
        go true f true g k again = let q = again k in (refl, q.1)
        go true f false g k again = again k
        go false f true g k again = (refl, other x c d f g)
        go false f false g k again = again (sym (ap (λ y. y || has (without cs c) d) g) ∙ k)

    stays : (d : ℕ) (ss : List ReqContextView) → (d == c) ≡ false → dry_at d (filter (λ (s : ReqContextView). not (s.ctx == c)) ss) ≡ dry_at d ss
    stays d [] q = refl
    stays d (s ∷ ss) q = go (s.ctx == c) refl (s.ctx == d) refl (stays d ss q)
      where
        third : (l m n : ℕ) → (l == m) ≡ true → (l == n) ≡ true → (n == m) ≡ false → ⊥
        third l m n a b k = grind (arith, nat_tests)

        go : (a : Bool) → (s.ctx == c) ≡ a → (b : Bool) → (s.ctx == d) ≡ b → dry_at d (filter (λ (s : ReqContextView). not (s.ctx == c)) ss) ≡ dry_at d ss
            → dry_at d (cond (not a) (s ∷ filter (λ (s : ReqContextView). not (s.ctx == c)) ss) (filter (λ (s : ReqContextView). not (s.ctx == c)) ss)) ≡ (b && s.is_dry || dry_at d ss)
        go true f true g k = absurd (third s.ctx c d f g q)
        go true f false g k = k
        go false f b g k = ap (λ y. y && s.is_dry || dry_at d (filter (λ (s : ReqContextView). not (s.ctx == c)) ss)) g ∙ ap (λ y. b && s.is_dry || y) k

pub shut_asked : (m : Machine) (t : Moment) (c : ℕ) → Lawful (also t (Ctx c Shut)) → Ties m t → Asked m.raw (without_live c m.live.items) m.last_id m.waiting.items (pend (past t)) (requests t.z (Ctx c Shut ∷ past t))
shut_asked m t c l h = go m.raw refl
  where
    none : (ws : List Asking) → list_any (λ (s : Begun). s.ctx == c) (map begun_of ws) ≡ false → list_any (λ (v : Asking). not v.is_orphan && (c == v.ctx)) ws ≡ false
    none [] k = refl
    none (w ∷ ws) k = step (w.ctx == c) refl w.is_orphan k (none ws)
      where
        step : (a : Bool) → (w.ctx == c) ≡ a → (o : Bool) → (a || list_any (λ (s : Begun). s.ctx == c) (map begun_of ws)) ≡ false → (list_any (λ (s : Begun). s.ctx == c) (map begun_of ws) ≡ false → list_any (λ (v : Asking). not v.is_orphan && (c == v.ctx)) ws ≡ false)
            → (not o && (c == w.ctx) || list_any (λ (v : Asking). not v.is_orphan && (c == v.ctx)) ws) ≡ false
        step true e o k again = absurd cc
        step false e true k again = again k
        step false e false k again = rw (turned w.ctx c false e) (again k)

    lone : list_any (λ (v : Asking). not v.is_orphan && (c == v.ctx)) m.waiting.items ≡ false
    lone = none m.waiting.items (ap (list_any (λ (s : Begun). s.ctx == c)) h.3.pending ∙ l.turn.0.itself.2)

    alone : Asked m.raw (without_live c m.live.items) m.last_id m.waiting.items (pend (past t)) (end_on (c ∷ []) how.Shut (pend (past t)) (requests t.z (past t)))
    alone = ended_alone m.raw m.live.items m.last_id m.waiting.items (pend (past t)) (requests t.z (past t)) c how.Shut lone h.3

    nothing_live : (xs : List Live) → map request_of xs ≡ [] → xs ≡ without_live c xs
    nothing_live [] k = refl
    nothing_live (x ∷ xs) k = absurd cc

    go : (b : Bool) → m.raw ≡ b → Asked m.raw (without_live c m.live.items) m.last_id m.waiting.items (pend (past t)) (requests t.z (Ctx c Shut ∷ past t))
    go false r = subst (λ (q : Requests). Asked m.raw (without_live c m.live.items) m.last_id m.waiting.items (pend (past t)) q) (sym (shut_makes t.z (past t) c (asks t.z (is_req_role m t h) (is_raw m t h ∙ r)))) alone
    go true r =
        let nothing = asks_nothing t.z (is_req_role m t h) (is_raw m t h ∙ r) in
        let empty : requests t.z (past t) ≡ no_requests = ap (λ q. cond q (asked t.z (past t)) no_requests) nothing in
        let bare = nothing_live m.live.items (h.3.live ∙ ap (λ (q : Requests). q.live) empty) in
        subst (λ (l : List Live). Asked m.raw l m.last_id m.waiting.items (pend (past t)) (requests t.z (Ctx c Shut ∷ past t))) bare
        (subst (λ (q : Requests). Asked m.raw m.live.items m.last_id m.waiting.items (pend (past t)) q) (raw_same t.z (past t) (Ctx c Shut ∷ past t) nothing) h.3)

-- ---- The start

-- nothing was asked
pub none_asked : (raw : Bool) (o : Options) (slots callers caller : ℕ) → Asked raw [] None [] (reading (start (setting_of (req_kind raw o) slots callers) caller)).pend (reading (start (setting_of (req_kind raw o) slots callers) caller)).requests
none_asked true o slots callers caller = record { live = refl; last_id = refl; ids = tt; places = tt; sound = tt; pending = refl; apart = λ op. omega arith; orphans = λ op. refl; causes = refl; single = λ r. tt; owned = λ r. tt }
none_asked false o slots callers caller = record { live = refl; last_id = refl; ids = tt; places = tt; sound = tt; pending = refl; apart = λ op. omega arith; orphans = λ op. refl; causes = refl; single = λ r. tt; owned = λ r. tt }

-- no context but the first is open
pub none_opened : (raw : Bool) (o : Options) (slots callers caller : ℕ) → Opened [] (record { ctx = 0; is_dry = false } ∷ []) (reading (start (setting_of (req_kind raw o) slots callers) caller)).ctxs (reading (start (setting_of (req_kind raw o) slots callers) caller)).dry
none_opened raw o slots callers caller = search rules

-- no pipe is known
pub none_known : (raw : Bool) (o : Options) (slots callers caller : ℕ) → Knows [] (reading (start (setting_of (req_kind raw o) slots callers) caller)).up (reading (start (setting_of (req_kind raw o) slots callers) caller)).ups (reading (start (setting_of (req_kind raw o) slots callers) caller)).full
none_known raw o slots callers caller = search rules

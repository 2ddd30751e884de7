-- A surveyor stands for its history when messages go out and operations end; and what it offers and returns.
use Rattle.std.proofs.Common.{◌≡◌, refl, ap, sym, ◌∙◌, subst, List, [], ◌∷◌, ◌++◌, ℕ, Bool, true, false, cond, Option, Some, None, map, length, inl, inr}
use Rattle.std.specs.Prelude.{find, filter, drop, not, is_some, ◌&&◌, ◌||◌, ◌==◌}
use Rattle.std.specs.List.{list_any, list_all}
use Rattle.std.specs.Option.{option_map}
use Rattle.sp_base.specs.declared.OpName.{OpName}
use Rattle.sp_base.specs.declared.role.Role.{Role}
use Rattle.sp_base.specs.declared.role.Role.TheVariants as role
use Rattle.sp_base.specs.Roles.{has_contexts as role_has_contexts}
use Rattle.sp_msg.specs.Views.{MessageView}
use Rattle.sp_history.specs.declared.setting.Setting.{Setting}
use Rattle.sp_history.specs.declared.entry.Entry.{Entry}
use Rattle.sp_history.specs.declared.entry.Entry.TheVariants.{Out, End}
use Rattle.sp_history.specs.declared.entry.RecordedAct.{RecordedAct}
use Rattle.sp_history.specs.declared.entry.RecordedAct.TheVariants.{Recv, Send}
use Rattle.sp_history.specs.declared.entry.Cause.{Cause}
use Rattle.sp_history.specs.declared.entry.Ending.{Ending}
use Rattle.sp_history.specs.declared.entry.Ending.TheVariants.{Won, Gone}
use Rattle.sp_history.specs.declared.entry.Completion.TheVariants.{Received, Sent}
use Rattle.sp_history.specs.declared.entry.RecordedMessage.{RecordedMessage}
use Rattle.sp_history.specs.declared.parts.Begun.{Begun}
use Rattle.sp_history.specs.declared.parts.Item.{Item}
use Rattle.sp_history.specs.declared.parts.Origin.{Origin}
use Rattle.sp_history.specs.declared.parts.LiveRequest.{LiveRequest}
use Rattle.sp_history.specs.declared.parts.Requests.{Requests}
use Rattle.sp_history.specs.declared.parts.How.TheVariants as how
use Rattle.sp_history.specs.Setting.{has_contexts, has_requests}
use Rattle.sp_history.specs.Lists.{has, head_of, is_nil, same_op, same_bytes}
use Rattle.sp_history.specs.Past.{is_of, without_begun, pend, pending, up, ctxs, now}
use Rattle.sp_history.specs.Kept.{pool, kept, pool_of, route, replies_of, is_on_pool, is_from, has_none_of, wanted}
use Rattle.sp_history.specs.Requests.{requests, no_requests, asked, is_on, is_orphan, end_on, change_live, with_out, with_taken, without_orphan, after_end, of_live, live_on, request_of, wire_of}
use Rattle.sp_history.specs.Sends.{may_go, targets, bytes_of}
use Rattle.sp_history.specs.Settled.{receive_settled, has_full}
use Rattle.sp_history.specs.Legal.{is_recv, is_recv_on, is_part_of_send, is_state, state_for, does, was_superseded, was_over}
use Rattle.sp_history.specs.Moments.{Moment, Lawful, past, also}
use Rattle.sp_history.specs.Once.{AreApart}
use Rattle.sp_history.proofs.Asking.{find_taken}
use Rattle.sp_history.proofs.Requesting.{end_makes, out_makes}
use Rattle.sp_proto.specs.Kinds.{text_of, verb_of}
use Rattle.sp_proto.specs.Machines.{CanGive, CanFlood, CanFinish, IsIdle, message_of}
use Rattle.sp_proto.specs.declared.Verb.{Verb}
use Rattle.sp_proto.specs.declared.Verb.TheVariants as verbs
use Rattle.proto_shared.specs.Copies.{Each, HasCopies, HasFlood}
use Rattle.proto_shared.proofs.Copying.{each_init}
use Rattle.proto_shared.proofs.Sending.{passes, a_send, won_send, the_flood, goes_to, goes_out, send_ends, receive_ends}
use Rattle.proto_shared.specs.Waits.{is_send}
use Rattle.proto_shared.proofs.Firsts.{no_sends}
use Rattle.proto_requests.specs.FirstFound.{with_found}
use Rattle.proto_survey.specs.declared.survey.Survey.{Survey}
use Rattle.proto_survey.specs.declared.survey.KeptResponse.{KeptResponse}
use Rattle.proto_survey.specs.declared.waiting.SurveyOperation.{SurveyOperation}
use Rattle.proto_survey.specs.declared.waiting.SurveyEnd.{SurveyEnd}
use Rattle.proto_survey.specs.declared.waiting.SurveyEnd.TheVariants as ends
use Rattle.proto_survey.specs.Lives.{SurveyView, view_of, survey_of, survey_ctx, survey_id, is_live_on, given_from, first_in, is_kept}
use Rattle.sp_proto.specs.Kinds.{act_of}
use Rattle.proto_survey.specs.Askings.{begun_of, is_asked, is_sending, without_first, cause_is, how_of, how_in}
use Rattle.proto_survey.specs.Surveys.{Ties, Asked, IsFlood, out_text, item_of, gets, is_given, survey_state}
use Rattle.proto_survey.proofs.SurveyLives.{equal_of, same_number, alone, keys_kept, map_of, find_of, any_of}
use Rattle.proto_survey.proofs.OrphanedOperations.{find_begun, begun_found, find_own, not_orphan, all_finished}
use Rattle.proto_survey.proofs.Asks.{taken, relive}
use Rattle.proto_survey.proofs.SurveyorMoments.{is_survey, is_raw, raw_asked, itself_mapped}
use Rattle.proto_survey.proofs.SurveySends.{surveys, surveys_nothing, no_req, it_floods, out_bytes, bytes_changed, wire_taken, other_orphan}

-- ---- The operation of a name

pub the_op : (m : Survey) (t : Moment) (op : OpName) (s : Begun) → Ties m t → pending (past t) op ≡ Some s → (w : SurveyOperation) × (find (is_asked op) m.waiting.items ≡ Some w) × (begun_of w ≡ s)
the_op m t op s h p = find_begun op m.waiting.items s (ap (find (is_of op)) h.0.4.pending ∙ p)

pub none_taken : {A : Type 0} (m : Survey) (t : Moment) (op : OpName) (s : Begun) → Ties m t → pending (past t) op ≡ Some s → None ≡ find (is_asked op) m.waiting.items → A
none_taken m t op s h p e = let v = the_op m t op s h p in let k : None ≡ Some v.0 = e ∙ v.1 in absurd cc

pub is_begun : (m : Survey) (t : Moment) (op : OpName) (s : Begun) (w : SurveyOperation) → Ties m t → pending (past t) op ≡ Some s → Some w ≡ find (is_asked op) m.waiting.items → begun_of w ≡ s
is_begun m t op s w h p e = let v = the_op m t op s h p in ap begun_of (some_inj v.0 (e ∙ v.1)) ∙ v.2
  where
    some_inj : (v : SurveyOperation) → Some w ≡ Some v → w ≡ v
    some_inj v q = cc

pub its_lost : (s : Begun) (w : SurveyOperation) → begun_of w ≡ s → option_map text_of w.message ≡ message_of s.act
its_lost s w e = go w.message ∙ ap (λ (q : Begun). message_of q.act) e
  where
    go : (o : Option MessageView) → option_map text_of o ≡ message_of (act_of o)
    go None = refl
    go (Some x) = refl

pub recv_is : (s : Begun) (w : SurveyOperation) → begun_of w ≡ s → w.message ≡ None → is_recv s.act ≡ true
recv_is s w e g = sym (ap (λ (q : Begun). is_recv q.act) e) ∙ ap (λ (o : Option MessageView). is_recv (act_of o)) g

pub send_is : (s : Begun) (w : SurveyOperation) → begun_of w ≡ s → is_some w.message ≡ true → is_recv s.act ≡ false
send_is s w e g = sym (ap (λ (q : Begun). is_recv q.act) e) ∙ go w.message g
  where
    go : (o : Option MessageView) → is_some o ≡ true → is_recv (act_of o) ≡ false
    go None q = absurd cc
    go (Some x) q = refl

pub none_in : (o : Option MessageView) → is_some o ≡ false → o ≡ None
none_in None q = refl
none_in (Some x) q = absurd cc

-- ---- It goes out

may_go_is : (r : Role) (raw : Bool) (o : Option Origin) (header : List ℕ) (p : ℕ) → r ≡ role.Surveyor → may_go r raw o header p ≡ true
may_go_is r raw o header p h = rw h refl

pub goes : (m : Survey) (t : Moment) (op : OpName) (s : Begun) (b : List ℕ) (p : ℕ) → Ties m t → CanFlood t op s b → has (up (past t)) p ≡ true → true ≡ has (targets t.z (past t) s) p
goes m t op s b p h c is_up =
    let sent = a_send s.act c.is_send in
    sym (goes_to t s sent.0 p sent.1 is_up ∙ may_go_is t.z.role t.z.raw (route t.z (past t) s.op) sent.0.header p (is_survey m t h))

module _ (m : Survey) (t : Moment) (p : ℕ) (b : List ℕ) (h : Ties m t) where
  out_asked : Asked m.live.items m.last_id m.waiting.items (pend (past t)) (requests t.z (Out p b ∷ past t))
  out_asked = go m.raw refl
    where
      f : LiveRequest → LiveRequest
      f = with_out (now (past t)) p b

      one_is : (r : LiveRequest) → survey_of r ≡ survey_of (f r)
      one_is r = step (same_bytes b (wire_of r))
        where
          step : (y : Bool) → survey_of r ≡ survey_of (cond y (record r { last_out = Some (record { pipe = p; when = now (past t) }) }) r)
          step true = refl
          step false = refl

      id_map : (xs : List SurveyView) → xs ≡ map (λ (y : SurveyView). y) xs
      id_map [] = refl
      id_map (x ∷ xs) = ap (λ (rest : List SurveyView). x ∷ rest) (id_map xs)

      go : (v : Bool) → m.raw ≡ v → Asked m.live.items m.last_id m.waiting.items (pend (past t)) (requests t.z (Out p b ∷ past t))
      go true r = raw_asked m t m.waiting.items (pend (past t)) (Out p b ∷ past t) r h h.0.4
      go false r =
          subst (λ (q : Requests). Asked m.live.items m.last_id m.waiting.items (pend (past t)) q) (sym (out_makes t.z (past t) p b (surveys t.z (is_survey m t h) (is_raw m t h ∙ r))))
          (relive m.live.items m.last_id m.waiting.items (pend (past t)) (requests t.z (past t)) f m.live.items (h.0.4.live ∙ id_map (map survey_of (requests t.z (past t)).live) ∙ map_of (λ (y : SurveyView). y) f one_is (requests t.z (past t)).live) refl refl h.0.4)

  pub flood_ties : (n : Survey) (op : OpName) (s : Begun) (copy : MessageView) → Lawful t → CanFlood t op s b → m.copies.items ≡ n.copies.items ++ copy ∷ [] → n ≡ record m { copies = n.copies } → (out_text m.raw m.last_id copy ≡ b) × Ties n (also t (Out p b))
  flood_ties n op s copy l c items same =
      let flood = the_flood _ _ t op s l h.1 c.pending c.is_send in
      let parts : IsFlood m.raw m.last_id m.copies.items (Some b) = subst (IsFlood m.raw m.last_id m.copies.items) c.bytes flood.2 in
      let last = each_init _ n.copies.items copy (subst (Each (λ (x : MessageView). out_text m.raw m.last_id x ≡ b)) items parts) in
      let bytes : bytes_of t.z (Out p b ∷ past t) s ≡ Some b = sym (out_bytes t.z (past t) p b s (is_survey m t h)) ∙ c.bytes in (
        last.1,
        subst (λ (x : Survey). Ties x (also t (Out p b))) (sym same) (
          (h.0.0, h.0.1, h.0.2, h.0.3, out_asked),
          goes_out _ _ _ _ t op s b p l h.1 c (subst (IsFlood m.raw m.last_id n.copies.items) (sym bytes) last.0),
        ),
      )

-- ---- Ends

raw_end : (z : Setting) (before : List Entry) (op : OpName) (ending : Ending) → has_requests z ≡ false → without_orphan op (requests z before) ≡ requests z (End op ending ∷ before)
raw_end z before op ending h = ap (λ q. without_orphan op (cond q (asked z before) no_requests)) h ∙ sym (ap (λ q. cond q (asked z (End op ending ∷ before)) no_requests) h)

-- an end that changes no survey
plain_end : (z : Setting) (before : List Entry) (op : OpName) (ending : Ending) → z.role ≡ role.Surveyor → ((o : Option Begun) (ss : List Begun) (rs : Requests) → after_end z ending o ss rs ≡ rs) → requests z (End op ending ∷ before) ≡ without_orphan op (requests z before)
plain_end z before op ending h k = go z.raw refl
  where
    go : (v : Bool) → z.raw ≡ v → requests z (End op ending ∷ before) ≡ without_orphan op (requests z before)
    go true r = sym (raw_end z before op ending (surveys_nothing z h r))
    go false r = end_makes z before op ending (surveys z h r) ∙ ap (without_orphan op) (k (of_live (requests z before) (pending before op)) (without_begun (pend before) op) (requests z before))

gone_same : (z : Setting) (cause : Cause) (by : ℕ) → z.role ≡ role.Surveyor → (o : Option Begun) (ss : List Begun) (rs : Requests) → after_end z (Gone cause by) o ss rs ≡ rs
gone_same z cause by h None ss rs = refl
gone_same z cause by h (Some s) ss rs = rw (no_req z h) refl

sent_same : (z : Setting) (o : Option Begun) (ss : List Begun) (rs : Requests) → after_end z (Won Sent) o ss rs ≡ rs
sent_same z None ss rs = refl
sent_same z (Some s) ss rs = refl

module _ (m : Survey) (t : Moment) (op : OpName) (s : Begun) (h : Ties m t) (p : pending (past t) op ≡ Some s) where
  -- a receive that ends doesn't concern a send
  stays : (ending : Ending) → is_recv s.act ≡ true → is_part_of_send t.z (End op ending) ≡ false → ((r : Begun) → same_op op r.op ≡ false → bytes_of t.z (past t) r ≡ bytes_of t.z (End op ending ∷ past t) r)
      → HasFlood (also t (End op ending)) (length m.copies.items) (λ (r : Begun). IsFlood m.raw m.last_id m.copies.items (bytes_of t.z (End op ending ∷ past t) r))
  stays ending is part same = receive_ends _ t op s ending h.0.4.apart p is part (λ r e. subst (IsFlood m.raw m.last_id m.copies.items) (same r e)) h.1

  plain_bytes : (ending : Ending) → ((o : Option Begun) (ss : List Begun) (rs : Requests) → after_end t.z ending o ss rs ≡ rs) → (r : Begun) → same_op op r.op ≡ false → bytes_of t.z (past t) r ≡ bytes_of t.z (End op ending ∷ past t) r
  plain_bytes ending k r e =
      let makes = plain_end t.z (past t) op ending (is_survey m t h) k in
      bytes_changed t.z (past t) (End op ending ∷ past t) r (λ (q : LiveRequest). q) (is_survey m t h) (λ q. refl)
      (λ f. (ap (λ (rs : Requests). is_orphan rs r.op) makes ∙ other_orphan op r.op e (requests t.z (past t)).orphans, ap (λ (rs : Requests). find (is_on r.ctx) rs.live) makes ∙ itself_mapped (live_on t.z (past t) r.ctx)))

  plain_asked : (ending : Ending) → ((o : Option Begun) (ss : List Begun) (rs : Requests) → after_end t.z ending o ss rs ≡ rs) → Asked m.live.items m.last_id (without_first op m.waiting.items) (without_begun (pend (past t)) op) (requests t.z (End op ending ∷ past t))
  plain_asked ending k =
      subst (λ (rs : Requests). Asked m.live.items m.last_id (without_first op m.waiting.items) (without_begun (pend (past t)) op) rs) (sym (plain_end t.z (past t) op ending (is_survey m t h) k)) (taken m.live.items m.last_id m.waiting.items (pend (past t)) (requests t.z (past t)) op h.0.4)

  -- a send is lost
  pub lost_send : (n : Survey) (cause : Cause) (by : ℕ) → is_recv s.act ≡ false → n.waiting.items ≡ without_first op m.waiting.items → n ≡ record m { waiting = n.waiting; copies = n.copies } → Ties n (also t (End op (Gone cause by)))
  lost_send n cause by is items same =
      subst (λ (x : Survey). Ties x (also t (End op (Gone cause by)))) (sym same) (
        (h.0.0, h.0.1, h.0.2, h.0.3, subst (λ (ws : List SurveyOperation). Asked m.live.items m.last_id ws (without_begun (pend (past t)) op) (requests t.z (End op (Gone cause by) ∷ past t))) (sym items) (plain_asked (Gone cause by) (gone_same t.z cause by (is_survey m t h)))),
        send_ends _ _ _ _ t op s (Gone cause by) h.1 p is,
      )

  pub lost_receive : (n : Survey) (cause : Cause) (by : ℕ) → is_recv s.act ≡ true → n.waiting.items ≡ without_first op m.waiting.items → n ≡ record m { waiting = n.waiting } → Ties n (also t (End op (Gone cause by)))
  lost_receive n cause by is items same =
      subst (λ (x : Survey). Ties x (also t (End op (Gone cause by)))) (sym same) (
        (h.0.0, h.0.1, h.0.2, h.0.3, subst (λ (ws : List SurveyOperation). Asked m.live.items m.last_id ws (without_begun (pend (past t)) op) (requests t.z (End op (Gone cause by) ∷ past t))) (sym items) (plain_asked (Gone cause by) (gone_same t.z cause by (is_survey m t h)))),
        stays (Gone cause by) is refl (plain_bytes (Gone cause by) (gone_same t.z cause by (is_survey m t h))),
      )

  -- a send went to its pipes
  pub flooded_ties : (n : Survey) → Lawful (also t (End op (Won Sent))) → n.waiting.items ≡ without_first op m.waiting.items → n ≡ record m { waiting = n.waiting; copies = n.copies } → Ties n (also t (End op (Won Sent)))
  flooded_ties n l items same =
      subst (λ (x : Survey). Ties x (also t (End op (Won Sent)))) (sym same) (
        (h.0.0, h.0.1, h.0.2, h.0.3, subst (λ (ws : List SurveyOperation). Asked m.live.items m.last_id ws (without_begun (pend (past t)) op) (requests t.z (End op (Won Sent) ∷ past t))) (sym items) (plain_asked (Won Sent) (sent_same t.z))),
        send_ends _ _ _ _ t op s (Won Sent) h.1 p (won_send t op s l p),
      )

-- ---- What is kept

kept_cooked : (z : Setting) (before : List Entry) (c : ℕ) → has_requests z ≡ true → kept z before c ≡ replies_of (live_on z before c)
kept_cooked z before c h = ap (λ q. cond q (replies_of (live_on z before c)) (pool z before (pool_of z c))) h

kept_raw : (z : Setting) (before : List Entry) (c : ℕ) → z.role ≡ role.Surveyor → z.raw ≡ true → kept z before c ≡ pool z before 0
kept_raw z before c h r = rw (h, r) refl

live_is : (m : Survey) (t : Moment) (c : ℕ) → Ties m t → find (is_live_on c) m.live.items ≡ option_map survey_of (live_on t.z (past t) c)
live_is m t c h = ap (find (is_live_on c)) h.0.4.live ∙ find_of c (requests t.z (past t)).live

pub given_is : (m : Survey) (t : Moment) (c : ℕ) → Ties m t → is_given m.raw m.kept.items m.live.items c ≡ not (is_nil (kept t.z (past t) c))
given_is m t c h = go m.raw refl
  where
    raw_nil : (ks : List KeptResponse) → not (is_nil ks) ≡ not (is_nil (map item_of ks))
    raw_nil [] = refl
    raw_nil (k ∷ ks) = refl

    cooked_nil : (o : Option LiveRequest) → is_kept (option_map survey_of o) ≡ not (is_nil (replies_of o))
    cooked_nil None = refl
    cooked_nil (Some r) = step r.replies
      where
        step : (is : List Item) → not (is_nil (map view_of is)) ≡ not (is_nil is)
        step [] = refl
        step (i ∷ is) = refl

    go : (v : Bool) → m.raw ≡ v → is_given v m.kept.items m.live.items c ≡ not (is_nil (kept t.z (past t) c))
    go true r = raw_nil m.kept.items ∙ ap (λ (is : List Item). not (is_nil is)) (h.0.3 r ∙ sym (kept_raw t.z (past t) c (is_survey m t h) (is_raw m t h ∙ r)))
    go false r = ap is_kept (live_is m t c h) ∙ cooked_nil (live_on t.z (past t) c) ∙ ap (λ (is : List Item). not (is_nil is)) (sym (kept_cooked t.z (past t) c (surveys t.z (is_survey m t h) (is_raw m t h ∙ r))))

pub wants_all : (m : Survey) (t : Moment) (p : ℕ) (b : Bool) → Ties m t → (m.raw ≡ true → b ≡ not (list_any (λ (k : KeptResponse). k.pipe == p) m.kept.items)) → (m.raw ≡ false → b ≡ true) → b ≡ wanted t.z (past t) p
wants_all m t p b h f g = go m.raw refl
  where
    from_same : (ks : List KeptResponse) → list_any (is_from p) (map item_of ks) ≡ list_any (λ (k : KeptResponse). k.pipe == p) ks
    from_same [] = refl
    from_same (k ∷ ks) = ap (λ q. (k.pipe == p) || q) (from_same ks)

    raw_is : (z : Setting) → z.role ≡ role.Surveyor → z.raw ≡ true → has_none_of p (kept z (past t) 0) ≡ wanted z (past t) p
    raw_is z i j = rw (i, j) refl

    cooked_is : (z : Setting) → z.role ≡ role.Surveyor → z.raw ≡ false → true ≡ wanted z (past t) p
    cooked_is z i j = rw (i, j) refl

    go : (v : Bool) → m.raw ≡ v → b ≡ wanted t.z (past t) p
    go true r = f r ∙ ap not (sym (from_same m.kept.items)) ∙ ap (has_none_of p) (h.0.3 r ∙ sym (kept_raw t.z (past t) 0 (is_survey m t h) (is_raw m t h ∙ r))) ∙ raw_is t.z (is_survey m t h) (is_raw m t h ∙ r)
    go false r = g r ∙ cooked_is t.z (is_survey m t h) (is_raw m t h ∙ r)

-- ---- A receive is given a message

module _ (m : Survey) (t : Moment) (op : OpName) (s : Begun) (text : RecordedMessage) (h : Ties m t) (g : CanGive t op s text) where
  abbrev pub given_past : List Entry
  given_past = End op (Won (Received text)) ∷ past t

  not_left : t.z.raw ≡ false → is_orphan (requests t.z (past t)) s.op ≡ false
  not_left r = go (is_orphan (requests t.z (past t)) s.op) refl (g.may.live (surveys t.z (is_survey m t h) r))
    where
      go : (b : Bool) → is_orphan (requests t.z (past t)) s.op ≡ b → is_some (request_of t.z (past t) s) ≡ true → b ≡ false
      go false e k = refl
      go true e k = let bad : false ≡ true = sym (ap (λ q. is_some (cond {A = Option LiveRequest} q None (live_on t.z (past t) s.ctx))) e) ∙ k in absurd cc

  given_makes : t.z.raw ≡ false → requests t.z given_past ≡ without_orphan op (change_live (with_taken s.ctx) (requests t.z (past t)))
  given_makes r =
      end_makes t.z (past t) op (Won (Received text)) (surveys t.z (is_survey m t h) r)
      ∙ ap (λ (x : Option Begun). without_orphan op (after_end t.z (Won (Received text)) (of_live (requests t.z (past t)) x) (without_begun (pend (past t)) op) (requests t.z (past t)))) g.pending
      ∙ ap (λ q. without_orphan op (after_end t.z (Won (Received text)) (cond q None (Some s)) (without_begun (pend (past t)) op) (requests t.z (past t)))) (not_left r)
      ∙ ap (λ q. without_orphan op (cond q (end_on (s.ctx ∷ []) how.Answered (without_begun (pend (past t)) op) (requests t.z (past t))) (change_live (with_taken s.ctx) (requests t.z (past t))))) (no_req t.z (is_survey m t h))

  given_bytes : (r : Begun) → same_op op r.op ≡ false → bytes_of t.z (past t) r ≡ bytes_of t.z given_past r
  given_bytes r e =
      bytes_changed t.z (past t) given_past r (with_taken s.ctx) (is_survey m t h) (wire_taken s.ctx)
      (λ f. (ap (λ (rs : Requests). is_orphan rs r.op) (given_makes f) ∙ other_orphan op r.op e (requests t.z (past t)).orphans, ap (λ (rs : Requests). find (is_on r.ctx) rs.live) (given_makes f) ∙ find_taken r.ctx s.ctx (requests t.z (past t)).live))

  given_floods : HasFlood (also t (End op (Won (Received text)))) (length m.copies.items) (λ (r : Begun). IsFlood m.raw m.last_id m.copies.items (bytes_of t.z given_past r))
  given_floods = stays m t op s h g.pending (Won (Received text)) g.may.is_receive refl given_bytes

  pub given_raw : (n : Survey) → m.raw ≡ true → n.waiting.items ≡ without_first op m.waiting.items → n.kept.items ≡ drop 1 m.kept.items → n ≡ record m { waiting = n.waiting; kept = n.kept } → Ties n (also t (End op (Won (Received text))))
  given_raw n r items rest same =
      subst (λ (x : Survey). Ties x (also t (End op (Won (Received text))))) (sym same) (
        (
          h.0.0,
          h.0.1,
          h.0.2,
          λ q. ap (map item_of) rest ∙ dropped m.kept.items ∙ ap (drop 1) (h.0.3 r) ∙ sym (ap (λ b. cond b (drop 1 (pool t.z (past t) 0)) (pool t.z (past t) 0)) (ap (is_on_pool t.z 0) g.pending ∙ on_pool t.z (is_survey m t h))),
          subst (λ (ws : List SurveyOperation). Asked m.live.items m.last_id ws (without_begun (pend (past t)) op) (requests t.z given_past)) (sym items)
              (subst (λ (rs : Requests). Asked m.live.items m.last_id (without_first op m.waiting.items) (without_begun (pend (past t)) op) rs) (raw_end t.z (past t) op (Won (Received text)) (surveys_nothing t.z (is_survey m t h) (is_raw m t h ∙ r))) (taken m.live.items m.last_id m.waiting.items (pend (past t)) (requests t.z (past t)) op h.0.4)),
        ),
        given_floods,
      )
    where
      dropped : (ks : List KeptResponse) → map item_of (drop 1 ks) ≡ drop 1 (map item_of ks)
      dropped [] = refl
      dropped (k ∷ ks) = refl

      on_pool : (z : Setting) → z.role ≡ role.Surveyor → is_on_pool z 0 (Some s) ≡ true
      on_pool z i = rw i refl

  pub oldest_raw : m.raw ≡ true → option_map text_of (option_map (λ (k : KeptResponse). k.message) (head_of m.kept.items)) ≡ Some text
  oldest_raw r =
      firsts m.kept.items ∙ ap (λ (is : List Item). option_map (λ (i : Item). i.message) (head_of is)) (h.0.3 r ∙ sym (kept_raw t.z (past t) s.ctx (is_survey m t h) (is_raw m t h ∙ r))) ∙ g.may.oldest
    where
      firsts : (ks : List KeptResponse) → option_map text_of (option_map (λ (k : KeptResponse). k.message) (head_of ks)) ≡ option_map (λ (i : Item). i.message) (head_of (map item_of ks))
      firsts [] = refl
      firsts (k ∷ ks) = refl

  pub given_cooked : (n : Survey) → m.raw ≡ false → n.waiting.items ≡ without_first op m.waiting.items → n.live.items ≡ with_found (is_live_on s.ctx) given_from m.live.items → n ≡ record m { waiting = n.waiting; live = n.live } → Ties n (also t (End op (Won (Received text))))
  given_cooked n r items rest same =
      let z_raw = is_raw m t h ∙ r in
      let lives : n.live.items ≡ map survey_of (map (with_taken s.ctx) (requests t.z (past t)).live) =
      rest ∙ alone survey_ctx s.ctx given_from m.live.items h.0.4.places ∙ ap (map one) h.0.4.live ∙ map_of one (with_taken s.ctx) one_is (requests t.z (past t)).live in
      let changed =
      relive m.live.items m.last_id m.waiting.items (pend (past t)) (requests t.z (past t)) (with_taken s.ctx) n.live.items lives
      (ap (map survey_id) rest ∙ keys_kept survey_id (is_live_on s.ctx) given_from (λ y. refl) m.live.items) (ap (map survey_ctx) rest ∙ keys_kept survey_ctx (is_live_on s.ctx) given_from (λ y. refl) m.live.items) h.0.4 in
      subst (λ (x : Survey). Ties x (also t (End op (Won (Received text))))) (sym same) (
        (
          h.0.0,
          h.0.1,
          h.0.2,
          λ q. let bad : true ≡ false = sym q ∙ r in absurd cc,
          subst (λ (ws : List SurveyOperation). Asked n.live.items m.last_id ws (without_begun (pend (past t)) op) (requests t.z given_past)) (sym items)
              (subst (λ (rs : Requests). Asked n.live.items m.last_id (without_first op m.waiting.items) (without_begun (pend (past t)) op) rs) (sym (given_makes z_raw)) (taken n.live.items m.last_id m.waiting.items (pend (past t)) (change_live (with_taken s.ctx) (requests t.z (past t))) op changed)),
        ),
        given_floods,
      )
    where
      one : SurveyView → SurveyView
      one y = cond (y.ctx == s.ctx) (given_from y) y

      one_is : (q : LiveRequest) → one (survey_of q) ≡ survey_of (with_taken s.ctx q)
      one_is q = go (q.ctx == s.ctx)
        where
          dropped : (is : List Item) → drop 1 (map view_of is) ≡ map view_of (drop 1 is)
          dropped [] = refl
          dropped (i ∷ is) = refl

          go : (b : Bool) → cond b (given_from (survey_of q)) (survey_of q) ≡ survey_of (cond b (record q { replies = drop 1 q.replies }) q)
          go true = ap (λ (ms : List MessageView). let y : SurveyView = record { ctx = q.ctx; id = q.id; birth = q.birth; replies = ms } in y) (dropped q.replies)
          go false = refl

  pub oldest_cooked : m.raw ≡ false → option_map text_of (first_in (find (is_live_on s.ctx) m.live.items)) ≡ Some text
  oldest_cooked r =
      ap (λ (o : Option SurveyView). option_map text_of (first_in o)) (live_is m t s.ctx h) ∙ firsts (live_on t.z (past t) s.ctx)
      ∙ ap (λ (is : List Item). option_map (λ (i : Item). i.message) (head_of is)) (sym (kept_cooked t.z (past t) s.ctx (surveys t.z (is_survey m t h) (is_raw m t h ∙ r)))) ∙ g.may.oldest
    where
      heads : (is : List Item) → option_map text_of (head_of (map view_of is)) ≡ option_map (λ (i : Item). i.message) (head_of is)
      heads [] = refl
      heads (i ∷ is) = refl

      firsts : (o : Option LiveRequest) → option_map text_of (first_in (option_map survey_of o)) ≡ option_map (λ (i : Item). i.message) (head_of (replies_of o))
      firsts None = refl
      firsts (Some q) = heads q.replies

-- ---- Offers

none_passes : (P : SurveyOperation → Bool) (ws : List SurveyOperation) → find P ws ≡ None → list_any P ws ≡ false
none_passes P [] h = refl
none_passes P (x ∷ ws) h = go (P x) h (none_passes P ws)
  where
    go : (b : Bool) → cond b (Some x) (find P ws) ≡ None → (find P ws ≡ None → list_any P ws ≡ false) → (b || list_any P ws) ≡ false
    go true q again = absurd cc
    go false q again = again q

never : (P Q : SurveyOperation → Bool) (ws : List SurveyOperation) (w : SurveyOperation) → find Q ws ≡ Some w → find P ws ≡ None → P w ≡ false
never P Q [] w h k = absurd cc
never P Q (x ∷ ws) w h k = go (Q x) (P x) refl h k (never P Q ws w)
  where
    some_inj : Some x ≡ Some w → x ≡ w
    some_inj q = cc

    go : (b a : Bool) → P x ≡ a → cond b (Some x) (find Q ws) ≡ Some w → cond a (Some x) (find P ws) ≡ None → (find Q ws ≡ Some w → find P ws ≡ None → P w ≡ false) → P w ≡ false
    go b true e q r again = absurd cc
    go true false e q r again = sym (ap P (some_inj q)) ∙ e
    go false false e q r again = again q r

pub its_pending : (m : Survey) (t : Moment) (P : SurveyOperation → Bool) (w : SurveyOperation) → Ties m t → find P m.waiting.items ≡ Some w → pending (past t) w.op ≡ Some (begun_of w)
its_pending m t P w h f =
    ap (find (is_of w.op)) (sym h.0.4.pending) ∙ begun_found w.op m.waiting.items w (find_own P m.waiting.items w f (subst (λ (l : List Begun). AreApart l) (sym h.0.4.pending) h.0.4.apart))

its_how : (m : Survey) (t : Moment) (P : SurveyOperation → Bool) (w : SurveyOperation) → Ties m t → find P m.waiting.items ≡ Some w → option_map how_of w.ended ≡ how_in (requests t.z (past t)).orphans w.op
its_how m t P w h f = h.0.4.ends w.op w (find_own P m.waiting.items w f (subst (λ (l : List Begun). AreApart l) (sym h.0.4.pending) h.0.4.apart))

pub can_flood : (m : Survey) (t : Moment) (w : SurveyOperation) → Lawful t → Ties m t → find is_sending m.waiting.items ≡ Some w → (s : Begun) × (b : List ℕ) × CanFlood t w.op s b
can_flood m t w l h f =
    let is : is_recv (act_of w.message) ≡ false = send_is (begun_of w) w refl (passes is_sending m.waiting.items w f) in
    let p = its_pending m t is_sending w h f in
    let flood = the_flood _ _ t w.op (begun_of w) l h.1 p is in
    let b = some_bytes (bytes_of t.z (past t) (begun_of w)) flood.2 in
    (begun_of w, b.0, record { pending = p; is_send = is; bytes = b.1; floods_all = it_floods t.z (is_survey m t h) })
  where
    some_bytes : (o : Option (List ℕ)) → IsFlood m.raw m.last_id m.copies.items o → (b : List ℕ) × (o ≡ Some b)
    some_bytes None k = absurd k
    some_bytes (Some b) k = (b, refl)

pub enough : (m : Survey) (t : Moment) (w : SurveyOperation) → Lawful t → Ties m t → find is_sending m.waiting.items ≡ Some w → HasCopies t.z (past t) (length m.copies.items)
enough m t w l h f = (the_flood _ _ t w.op (begun_of w) l h.1 (its_pending m t is_sending w h f) (send_is (begun_of w) w refl (passes is_sending m.waiting.items w f))).1

abbrev pub lone : SurveyOperation → Bool
lone w = is_some w.ended

not_sending : (o : Option MessageView) → is_some o ≡ false → is_recv (act_of o) ≡ true
not_sending None q = refl
not_sending (Some x) q = absurd cc

pub can_finish : (m : Survey) (t : Moment) (w : SurveyOperation) (e : SurveyEnd) (cause : Cause) → Ties m t → find is_sending m.waiting.items ≡ None → find lone m.waiting.items ≡ Some w → w.ended ≡ Some e → cause ≡ cause_is e → (s : Begun) × CanFinish t w.op s cause
can_finish m t w e cause h none f is q =
    let p = its_pending m t lone w h f in
    let recv : is_recv (act_of w.message) ≡ true = not_sending w.message (never is_sending lone m.waiting.items w f none) in
    let ended : how_in (requests t.z (past t)).orphans w.op ≡ Some (how_of e) = sym (its_how m t lone w h f) ∙ ap (option_map how_of) is in
    (begun_of w, subst (λ (k : Cause). CanFinish t w.op (begun_of w) k) (sym q) (go e p recv ended))
  where
    go : (e : SurveyEnd) → pending (past t) w.op ≡ Some (begun_of w) → is_recv (act_of w.message) ≡ true → how_in (requests t.z (past t)).orphans w.op ≡ Some (how_of e) → CanFinish t w.op (begun_of w) (cause_is e)
    go ends.Replaced p recv k = record { pending = p; is_finish = inl refl; may = (refl, ap was_superseded k) }
    go ends.Over p recv k = record { pending = p; is_finish = inr refl; may = (refl, recv, ap was_over k) }

module _ (K : ℕ → Bool) where
  first_here : (ws : List SurveyOperation) (w : SurveyOperation) → find (λ (x : SurveyOperation). not (is_sending x) && K x.ctx) ws ≡ Some w → K w.ctx ≡ true → find (is_recv_on w.ctx) (map begun_of ws) ≡ Some (begun_of w)
  first_here [] w h k = absurd cc
  first_here (x ∷ ws) w h k = go x.message refl (K x.ctx) refl h (λ q. first_here ws w q k)
    where
      some_inj : Some x ≡ Some w → x ≡ w
      some_inj q = cc

      away : K x.ctx ≡ false → (x.ctx == w.ctx) ≡ false
      away e = step (x.ctx == w.ctx) refl
        where
          step : (b : Bool) → (x.ctx == w.ctx) ≡ b → b ≡ false
          step false q = refl
          step true q = let bad : true ≡ false = sym k ∙ ap K (sym (equal_of x.ctx w.ctx q)) ∙ e in absurd cc

      go : (o : Option MessageView) → x.message ≡ o → (a : Bool) → K x.ctx ≡ a → cond (not (is_some o) && a) (Some x) (find (λ (x : SurveyOperation). not (is_sending x) && K x.ctx) ws) ≡ Some w
          → (find (λ (x : SurveyOperation). not (is_sending x) && K x.ctx) ws ≡ Some w → find (is_recv_on w.ctx) (map begun_of ws) ≡ Some (begun_of w)) → cond (is_recv (act_of x.message) && (x.ctx == w.ctx)) (Some (begun_of x)) (find (is_recv_on w.ctx) (map begun_of ws)) ≡ Some (begun_of w)
      go (Some y) e a f q again = ap (λ (o : Option MessageView). cond (is_recv (act_of o) && (x.ctx == w.ctx)) (Some (begun_of x)) (find (is_recv_on w.ctx) (map begun_of ws))) e ∙ again q
      go None e false f q again = ap (λ b. cond (is_recv (act_of x.message) && b) (Some (begun_of x)) (find (is_recv_on w.ctx) (map begun_of ws))) (away f) ∙ none (is_recv (act_of x.message)) ∙ again q
        where
          none : (b : Bool) → cond (b && false) (Some (begun_of x)) (find (is_recv_on w.ctx) (map begun_of ws)) ≡ find (is_recv_on w.ctx) (map begun_of ws)
          none true = refl
          none false = refl
      go None e true f q again =
          let is : x ≡ w = some_inj q in
          ap (λ (o : Option MessageView). cond (is_recv (act_of o) && (x.ctx == w.ctx)) (Some (begun_of x)) (find (is_recv_on w.ctx) (map begun_of ws))) e
          ∙ ap (λ b. cond b (Some (begun_of x)) (find (is_recv_on w.ctx) (map begun_of ws))) (ap (λ (y : SurveyOperation). x.ctx == y.ctx) (sym is) ∙ same_number x.ctx) ∙ ap (λ (y : SurveyOperation). Some (begun_of y)) is

pub parts : (a b : Bool) → (a && b) ≡ true → (a ≡ true) × (b ≡ true)
parts true b h = (refl, h)
parts false b h = absurd cc

-- a receive of these contexts
abbrev pub is_among : (ℕ → Bool) → SurveyOperation → Bool
is_among K w = not (is_sending w) && K w.ctx

pub can_give : (m : Survey) (t : Moment) (w : SurveyOperation) (K : ℕ → Bool) → Ties m t → find lone m.waiting.items ≡ None → find (is_among K) m.waiting.items ≡ Some w → ((c : ℕ) → K c ≡ true → is_given m.raw m.kept.items m.live.items c ≡ true) → (s : Begun) × (x : RecordedMessage) × CanGive t w.op s x
can_give m t w K h none f g = at (kept t.z (past t) w.ctx) refl (sym (given_is m t w.ctx h) ∙ g w.ctx both.1)
  where
    both : (not (is_sending w) ≡ true) × (K w.ctx ≡ true)
    both = parts (not (is_sending w)) (K w.ctx) (passes (is_among K) m.waiting.items w f)

    recv : is_recv (act_of w.message) ≡ true
    recv = not_sending w.message (turn (is_sending w) both.0)
      where
        turn : (b : Bool) → not b ≡ true → b ≡ false
        turn true q = absurd cc
        turn false q = refl

    not_ended : (o : Option SurveyEnd) → w.ended ≡ o → is_some o ≡ false → how_in (requests t.z (past t)).orphans w.op ≡ None
    not_ended None e q = sym (its_how m t (is_among K) w h f) ∙ ap (option_map how_of) e
    not_ended (Some x) e q = absurd cc

    alive : (i : Item) (rest : List Item) → kept t.z (past t) w.ctx ≡ i ∷ rest → has_requests t.z ≡ true → is_some (request_of t.z (past t) (begun_of w)) ≡ true
    alive i rest e q =
        ap (λ b. is_some (cond {A = Option LiveRequest} b None (live_on t.z (past t) w.ctx))) (not_orphan (requests t.z (past t)).orphans w.op (not_ended w.ended refl (never lone (is_among K) m.waiting.items w f none)))
        ∙ step (live_on t.z (past t) w.ctx) (sym (kept_cooked t.z (past t) w.ctx q) ∙ e)
      where
        step : (o : Option LiveRequest) → replies_of o ≡ i ∷ rest → is_some o ≡ true
        step None k = absurd cc
        step (Some r) k = refl

    at : (is : List Item) → kept t.z (past t) w.ctx ≡ is → not (is_nil (kept t.z (past t) w.ctx)) ≡ true → (s : Begun) × (x : RecordedMessage) × CanGive t w.op s x
    at [] e q = let bad : false ≡ true = sym (ap (λ (l : List Item). not (is_nil l)) e) ∙ q in absurd cc
    at (i ∷ rest) e q = (
      begun_of w,
      i.message,
      record {
        pending = its_pending m t (is_among K) w h f;
        may =
            record {
              is_receive = recv;
              first_pending = ap (λ (ss : List Begun). option_map (λ (first : Begun). first.op) (find (is_recv_on w.ctx) ss)) (sym h.0.4.pending) ∙ ap (option_map (λ (first : Begun). first.op)) (first_here K m.waiting.items w f both.1);
              oldest = ap (λ (l : List Item). option_map (λ (i : Item). i.message) (head_of l)) e;
              live = alive i rest e;
            };
      },
    )

pub idle : (m : Survey) (t : Moment) → Ties m t → find is_sending m.waiting.items ≡ None → find lone m.waiting.items ≡ None → find (gets m) m.waiting.items ≡ None → IsIdle t
idle m t h sends ended given =
    record {
      settled =
          record {
            receives = subst (λ (ss : List Begun). list_all (receive_settled t.z (past t)) ss ≡ true) h.0.4.pending (received m.waiting.items given);
            sends = no_sends t.z (past t) (has_full t.turn) (pend (past t)) (ap head_of (nothing_sent (pend (past t)) (subst (λ (ss : List Begun). list_any is_send ss ≡ false) h.0.4.pending (as_sends m.waiting.items (none_passes is_sending m.waiting.items sends)))));
            again = λ q. let k : false ≡ true = rw (is_survey m t h) at q in absurd cc;
            finished = all_finished t.z (past t) m.waiting.items h.0.4.pending h.0.4.ends (none_passes lone m.waiting.items ended);
          };
      no_flood = λ q. nothing_sent (pend (past t)) (subst (λ (ss : List Begun). list_any is_send ss ≡ false) h.0.4.pending (as_sends m.waiting.items (none_passes is_sending m.waiting.items sends)));
    }
  where
    as_sends : (ws : List SurveyOperation) → list_any is_sending ws ≡ false → list_any is_send (map begun_of ws) ≡ false
    as_sends [] q = refl
    as_sends (w ∷ ws) q = go w.message q (as_sends ws)
      where
        go : (o : Option MessageView) → (is_some o || list_any is_sending ws) ≡ false → (list_any is_sending ws ≡ false → list_any is_send (map begun_of ws) ≡ false) → (not (is_recv (act_of o)) || list_any is_send (map begun_of ws)) ≡ false
        go None k again = again k
        go (Some x) k again = absurd cc

    nothing_sent : (ss : List Begun) → list_any is_send ss ≡ false → filter is_send ss ≡ []
    nothing_sent [] q = refl
    nothing_sent (s ∷ ss) q = go (is_send s) q (nothing_sent ss)
      where
        go : (b : Bool) → (b || list_any is_send ss) ≡ false → (list_any is_send ss ≡ false → filter is_send ss ≡ []) → cond b (s ∷ filter is_send ss) (filter is_send ss) ≡ []
        go true k again = absurd cc
        go false k again = again k

    received : (ws : List SurveyOperation) → find (gets m) ws ≡ None → list_all (receive_settled t.z (past t)) (map begun_of ws) ≡ true
    received [] q = refl
    received (w ∷ ws) q = go w.message refl (is_given m.raw m.kept.items m.live.items w.ctx) (given_is m t w.ctx h) q (received ws)
      where
        go : (o : Option MessageView) → w.message ≡ o → (b : Bool) → b ≡ not (is_nil (kept t.z (past t) w.ctx)) → cond (not (is_some o) && b) (Some w) (find (gets m) ws) ≡ None → (find (gets m) ws ≡ None → list_all (receive_settled t.z (past t)) (map begun_of ws) ≡ true)
            → (receive_settled t.z (past t) (begun_of w) && list_all (receive_settled t.z (past t)) (map begun_of ws)) ≡ true
        go (Some x) e b f k again = ap (λ (o : Option MessageView). (not (is_recv (act_of o)) || is_nil (kept t.z (past t) w.ctx)) && list_all (receive_settled t.z (past t)) (map begun_of ws)) e ∙ again k
        go None e true f k again = absurd cc
        go None e false f k again =
            ap (λ (o : Option MessageView). (not (is_recv (act_of o)) || is_nil (kept t.z (past t) w.ctx)) && list_all (receive_settled t.z (past t)) (map begun_of ws)) e
            ∙ ap (λ b. b && list_all (receive_settled t.z (past t)) (map begun_of ws)) (twice (is_nil (kept t.z (past t) w.ctx)) f) ∙ again k
          where
            twice : (b : Bool) → false ≡ not b → b ≡ true
            twice true q = refl
            twice false q = absurd cc

-- ---- Checks

pub does_is : (m : Survey) (t : Moment) (c : ℕ) (act : RecordedAct) (b : Bool) → Ties m t → ((c == 0) || not m.raw) ≡ b → (does t.z.role act && ((c == 0) || has_contexts t.z)) ≡ b
does_is m t c act b h e =
    ap (λ (r : Role). does r act && ((c == 0) || role_has_contexts r && not t.z.raw)) (is_survey m t h) ∙ ap (λ q. q && ((c == 0) || not t.z.raw)) (both act) ∙ ap (λ q. (c == 0) || not q) (is_raw m t h) ∙ e
  where
    both : (act : RecordedAct) → does role.Surveyor act ≡ true
    both Recv = refl
    both (Send x) = refl

pub open_is : (m : Survey) (t : Moment) (c : ℕ) (cs : List ℕ) (b o : Bool) → Ties m t → cs ≡ m.contexts.items → o ≡ has cs c → o ≡ b → has (ctxs (past t)) c ≡ b
open_is m t c cs b o h e k f = ap (λ l. has l c) (sym h.0.2 ∙ sym e) ∙ sym k ∙ f

recv_state : (m : Survey) (t : Moment) (c : ℕ) → Ties m t → is_state t.z (past t) c Recv ≡ (not (list_any (is_live_on c) m.live.items) && not m.raw)
recv_state m t c h =
    ap (λ (r : Role). state_for r t.z (past t) c Recv && not t.z.raw) (is_survey m t h) ∙ ap (λ b. not (is_some (live_on t.z (past t) c)) && not b) (is_raw m t h)
    ∙ ap (λ b. not b && not m.raw) (same (live_on t.z (past t) c) ∙ ap (λ (o : Option SurveyView). is_some o) (sym (live_is m t c h)) ∙ sym (any_of c m.live.items))
  where
    same : (o : Option LiveRequest) → is_some o ≡ is_some (option_map survey_of o)
    same None = refl
    same (Some r) = refl

pub state_is : (m : Survey) (t : Moment) (c : ℕ) (act : RecordedAct) (v : Verb) → Ties m t → verb_of act ≡ v → is_state t.z (past t) c act ≡ survey_state m.raw m.live.items c v
state_is m t c act v h e = as_verb act ∙ ap (survey_state m.raw m.live.items c) e
  where
    none : (b : Bool) → (b && false) ≡ false
    none true = refl
    none false = refl

    both : (b : Bool) → (b && true) ≡ b
    both true = refl
    both false = refl

    as_recv : (r : Bool) → (not (list_any (is_live_on c) m.live.items) && not r) ≡ survey_state r m.live.items c verbs.Recv
    as_recv true = none (not (list_any (is_live_on c) m.live.items))
    as_recv false = both (not (list_any (is_live_on c) m.live.items))

    as_send : (r : Bool) → false ≡ survey_state r m.live.items c verbs.Send
    as_send true = refl
    as_send false = refl

    as_verb : (act : RecordedAct) → is_state t.z (past t) c act ≡ survey_state m.raw m.live.items c (verb_of act)
    as_verb Recv = recv_state m t c h ∙ as_recv m.raw
    as_verb (Send x) = ap (λ (r : Role). state_for r t.z (past t) c (Send x) && not t.z.raw) (is_survey m t h) ∙ as_send m.raw

-- ---- What can't be

pub not_received : {A : Type 0} (t : Moment) (op : OpName) (s : Begun) (text : RecordedMessage) → CanGive t op s text → is_recv s.act ≡ false → A
not_received t op s text g f = let bad : true ≡ false = sym g.may.is_receive ∙ f in absurd cc

pub not_sent : {A : Type 0} (t : Moment) (op : OpName) (s : Begun) → Lawful (also t (End op (Won Sent))) → is_recv s.act ≡ false → is_recv s.act ≡ true → A
not_sent t op s l f g = let bad : true ≡ false = sym g ∙ f in absurd cc

pub lone_ended : {A : Type 0} (m : Survey) (w : SurveyOperation) → find lone m.waiting.items ≡ Some w → w.ended ≡ None → A
lone_ended m w f n = let bad : false ≡ true = sym (ap (λ (o : Option SurveyEnd). is_some o) n) ∙ passes lone m.waiting.items w f in absurd cc

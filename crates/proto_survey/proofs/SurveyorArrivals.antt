-- A surveyor stands for its history when operations begin, and when frames come.
use Rattle.std.proofs.Common.{◌≡◌, ◌≢◌, refl, ap, sym, ◌∙◌, subst, List, [], ◌∷◌, ◌++◌, ℕ, zero, suc, ◌+◌, ◌<◌, ◌^◌, Bool, true, false, cond, arith, Option, Some, None, map, length}
use Rattle.std.specs.Prelude.{Result, Ok, Err, find, filter, drop, take, not, is_some, nat_lt, ◌%◌, ◌&&◌, ◌||◌, ◌==◌}
use Rattle.std.specs.List.{list_any}
use Rattle.std.specs.Option.{option_map}
use Rattle.std.specs.Int.{w32, from_be_bytes}
use Rattle.std.proofs.Math.Nat.{mod-add-mod}
use Rattle.std.proofs.lemmas.List.{map-append}
use Rattle.sp_base.specs.declared.OpName.{OpName}
use Rattle.sp_base.specs.declared.role.Role.{Role}
use Rattle.sp_base.specs.declared.role.Role.TheVariants as role
use Rattle.sp_msg.specs.Views.{MessageView}
use Rattle.sp_history.specs.declared.setting.Setting.{Setting}
use Rattle.sp_history.specs.declared.setting.Options.{Options}
use Rattle.sp_history.specs.declared.entry.Entry.{Entry}
use Rattle.sp_history.specs.declared.entry.Entry.TheVariants.{Begin, Frame, Unkept}
use Rattle.sp_history.specs.declared.entry.RecordedAct.{RecordedAct}
use Rattle.sp_history.specs.declared.entry.RecordedAct.TheVariants.{Recv, Send}
use Rattle.sp_history.specs.declared.parts.Begun.{Begun}
use Rattle.sp_history.specs.declared.parts.Item.{Item}
use Rattle.sp_history.specs.declared.parts.LiveRequest.{LiveRequest}
use Rattle.sp_history.specs.declared.parts.Requests.{Requests}
use Rattle.sp_history.specs.declared.parts.How.TheVariants as how
use Rattle.sp_history.specs.Lists.{has, first_word, is_number, is_nil, word}
use Rattle.sp_history.specs.Setting.{has_topics}
use Rattle.sp_history.proofs.Malformed.{by_rule}
use Rattle.sp_history.specs.Frames.{breaks_rule, is_too_long, malformed, malformed_for, plain_item, item_for, item_of as item_in}
use Rattle.sp_history.specs.Past.{pend, ctxs, topics, now}
use Rattle.sp_history.specs.Kept.{pool, route, add_for, add_item, is_wanted_by}
use Rattle.sp_history.specs.Requests.{requests, is_on, is_orphan, is_for, has_room, has_id, end_on, begin_on, is_bereft, next_id, next_number, free_from, with_frame, request_of, wire_of}
use Rattle.sp_history.specs.Sends.{bytes_of, bytes_for}
use Rattle.sp_history.specs.Legal.{is_at, sending}
use Rattle.sp_history.specs.Moments.{Moment, Lawful, past, also}
use Rattle.sp_history.proofs.Asking.{find_begun}
use Rattle.sp_history.proofs.LiveRequests.{next_is_new}
use Rattle.sp_history.proofs.Requesting.{begun_makes, frame_makes, unkept_makes}
use Rattle.sp_proto.specs.Kinds.{text_of}
use Rattle.sp_proto.specs.Machines.{NoFlood, Frames}
use Rattle.sp_proto.specs.declared.Verdict.{Verdict}
use Rattle.sp_proto.specs.declared.Verdict.TheVariants as verdict
use Rattle.sp_msg.specs.Messages.{Trimmed}
use Rattle.sp_msg.specs.declared.message.Short.{Short}
use Rattle.std.proofs.lemmas.Bool.Decides.{nat_tests}
use Rattle.proto_shared.specs.Copies.{Each, IsOnlyFlood, HasFlood}
use Rattle.proto_shared.proofs.FloodTurns.{no_flood, goes_on}
use Rattle.proto_shared.specs.Waits.{is_send}
use Rattle.proto_shared.proofs.Splits.{passing_append}
use Rattle.proto_requests.specs.Ids.{number_after, raw_item}
use Rattle.proto_requests.specs.FirstFound.{with_found}
use Rattle.proto_survey.specs.declared.survey.Survey.{Survey}
use Rattle.proto_survey.specs.declared.waiting.SurveyOperation.{SurveyOperation}
use Rattle.proto_survey.specs.declared.waiting.SurveyEnd.TheVariants as ends
use Rattle.proto_survey.specs.Lives.{SurveyView, view_of, survey_of, survey_ctx, survey_id, fresh_survey, has_number, with_reply, free_number}
use Rattle.proto_survey.specs.Askings.{begun_of, left_by, how_in}
use Rattle.proto_survey.specs.Surveys.{Ties, Asked, Asks, IsFlood, AreSame, KeepsRaw, out_text, without_live, item_of}
use Rattle.proto_survey.proofs.SurveyLives.{same_number, turned, without_is, gone_on, alone, keys_kept, map_of, ids_of, long_of}
use Rattle.proto_survey.proofs.OrphanedOperations.{fresh_how, fresh_left, left_like, not_orphan}
use Rattle.proto_survey.proofs.Asks.{left, relive, begun, born}
use Rattle.proto_survey.proofs.SurveyorMoments.{is_survey, is_raw, is_options, raw_asked, same_kept}
use Rattle.proto_survey.proofs.SurveySends.{surveys, no_req, it_floods, same_requests, frame_bytes}

left_of : (a b : Bool) → (not a && b) ≡ true → a ≡ false
left_of true b q = absurd cc
left_of false b q = refl

-- no operation of its slot is pending
free_slot : (t : Moment) (op : OpName) (c : ℕ) (act : RecordedAct) (d : Option ℕ) → Lawful (also t (Begin op t.caller c act d)) → list_any (is_at op.slot) (pend (past t)) ≡ false
free_slot t op c act d l = left_of _ _ l.turn.0.itself.slot_free

-- ---- A receive begins

pub recv_ties : (m n : Survey) (t : Moment) (op : OpName) (c : ℕ) (d : Option ℕ) → NoFlood t → Lawful (also t (Begin op t.caller c Recv d)) → Ties m t → n ≡ record m { waiting = n.waiting } → n.waiting.items ≡ m.waiting.items ++ record { op = op; ctx = c; message = None; ended = None } ∷ [] → Ties n (also t (Begin op t.caller c Recv d))
recv_ties m n t op c d calm l h same items =
    let w : SurveyOperation = record { op = op; ctx = c; message = None; ended = None } in
    let free = free_slot t op c Recv d l in
    let none : sending (pend (past t)) ≡ [] = calm (it_floods t.z (is_survey m t h)) in
    subst (λ (x : Survey). Ties x (also t (Begin op t.caller c Recv d))) (sym same) (
      (h.0.0, h.0.1, h.0.2, h.0.3, subst (λ (ws : List SurveyOperation). Asked m.live.items m.last_id ws (pend (past t) ++ begun_of w ∷ []) (requests t.z (past t))) (sym items) (begun m.live.items m.last_id m.waiting.items (pend (past t)) (requests t.z (past t)) w refl free (fresh_how t.z (past t) op free) h.0.4)),
      no_flood _ _ (also t (Begin op t.caller c Recv d)) (passing_append is_send (pend (past t)) (begun_of w) ∙ ap (λ (ss : List Begun). ss ++ []) none),
    )

-- ---- A send begins

same_copies : (raw : Bool) (id : Option ℕ) (b : List ℕ) (x : MessageView) (xs : List MessageView) → AreSame x xs → out_text raw id x ≡ b → Each (λ (y : MessageView). out_text raw id y ≡ b) xs
same_copies raw id b x [] h e = tt
same_copies raw id b x (y ∷ xs) h e = (ap (out_text raw id) h.0 ∙ e, same_copies raw id b x xs h.1 e)

module _ (m : Survey) (t : Moment) (op : OpName) (c : ℕ) (x : MessageView) (d : Option ℕ) (calm : NoFlood t) (l : Lawful (also t (Begin op t.caller c (Send (text_of x)) d))) (h : Ties m t) where
  abbrev pub sent_past : List Entry
  sent_past = Begin op t.caller c (Send (text_of x)) d ∷ past t

  abbrev pub sent_op : SurveyOperation
  sent_op = record { op = op; ctx = c; message = Some x; ended = None }

  -- it is the only send
  lone : sending (pend sent_past) ≡ begun_of sent_op ∷ []
  lone = passing_append is_send (pend (past t)) (begun_of sent_op) ∙ ap (λ (ss : List Begun). ss ++ begun_of sent_op ∷ []) (calm (it_floods t.z (is_survey m t h)))

  flooding : (raw : Bool) (id : Option ℕ) (copies : List MessageView) (b : List ℕ) → AreSame x copies → length copies ≡ m.pipes → out_text raw id x ≡ b → bytes_of t.z sent_past (begun_of sent_op) ≡ Some b → HasFlood (also t (Begin op t.caller c (Send (text_of x)) d)) (length copies) (λ (s : Begun). IsFlood raw id copies (bytes_of t.z sent_past s))
  flooding raw id copies b same long out bytes =
      λ again. subst (λ (ss : List Begun). IsOnlyFlood t.z sent_past (length copies) (λ (s : Begun). IsFlood raw id copies (bytes_of t.z sent_past s)) ss) (sym lone)
      (λ q. omega (arith, h.0.1, long), subst (IsFlood raw id copies) (sym bytes) (same_copies raw id b x copies same out), refl)

  pub raw_send_ties : (n : Survey) → m.raw ≡ true → n ≡ record m { copies = n.copies; waiting = n.waiting } → n.waiting.items ≡ m.waiting.items ++ sent_op ∷ [] → AreSame x n.copies.items → length n.copies.items ≡ m.pipes → Ties n (also t (Begin op t.caller c (Send (text_of x)) d))
  raw_send_ties n r same items copies long =
      subst (λ (y : Survey). Ties y (also t (Begin op t.caller c (Send (text_of x)) d))) (sym same) (
        (
          h.0.0,
          h.0.1,
          h.0.2,
          h.0.3,
          subst (λ (ws : List SurveyOperation). Asked m.live.items m.last_id ws (pend sent_past) (requests t.z sent_past)) (sym items)
              (raw_asked m t (m.waiting.items ++ sent_op ∷ []) (pend sent_past) sent_past r h (begun m.live.items m.last_id m.waiting.items (pend (past t)) (requests t.z (past t)) sent_op refl free (fresh_how t.z (past t) op free) h.0.4)),
        ),
        flooding m.raw m.last_id n.copies.items (x.header ++ x.body) copies long (ap (λ q. out_text q m.last_id x) r) bytes,
      )
    where
      free : list_any (is_at op.slot) (pend (past t)) ≡ false
      free = free_slot t op c (Send (text_of x)) d l

      bytes : bytes_of t.z sent_past (begun_of sent_op) ≡ Some (x.header ++ x.body)
      bytes = ap (λ (y : Role). bytes_for y t.z.raw (route t.z sent_past op) (request_of t.z sent_past (begun_of sent_op)) (text_of x)) (is_survey m t h) ∙ ap (λ q. bytes_for role.Surveyor q (route t.z sent_past op) (request_of t.z sent_past (begun_of sent_op)) (text_of x)) (is_raw m t h ∙ r)

  after_is : (k : ℕ) → number_after k ≡ 2 ^ 31 + (k + 1) % 2 ^ 31
  after_is k = let q = mod-add-mod k 1 (2 ^ 31) in omega (arith, q)

  frees_same : (tries k : ℕ) (rs : List LiveRequest) → free_number tries (map survey_of rs) k ≡ free_from tries rs k
  frees_same zero k rs = refl
  frees_same (suc tries) k rs =
      ap (λ b. cond b (free_number tries (map survey_of rs) (number_after k)) k) (same rs)
      ∙ ap (λ q. cond (list_any (has_id k) rs) q k) (frees_same tries (number_after k) rs ∙ ap (free_from tries rs) (after_is k))
    where
      same : (rs : List LiveRequest) → list_any (has_number k) (map survey_of rs) ≡ list_any (has_id k) rs
      same [] = refl
      same (r ∷ rs) = ap (λ b. (r.id == k) || b) (same rs)

  module _ (n : Survey) (r : m.raw ≡ false) (a : Asks c m n) where
    abbrev id : ℕ
    id = a.0

    abbrev after : Requests
    after = end_on (c ∷ []) how.Replaced (pend (past t)) (requests t.z (past t))

    abbrev less : List SurveyView
    less = filter (λ (y : SurveyView). not (has (c ∷ []) y.ctx)) m.live.items

    first : Asked less m.last_id (map (left_by (has (c ∷ [])) ends.Replaced) m.waiting.items) (pend (past t)) after
    first = left m.live.items m.last_id m.waiting.items (pend (past t)) (requests t.z (past t)) (c ∷ []) ends.Replaced h.0.4

    less_is : without_live c m.live.items ≡ less
    less_is = without_is c m.live.items h.0.4.places

    long_is : length less ≡ length after.live
    long_is = ap length first.live ∙ long_of after.live

    id_is : next_id t.z after ≡ id
    id_is =
        sym
        (a.1 ∙ ap (λ (l : List SurveyView). free_number (length l) l (next_number m.options.dice m.last_id)) less_is
        ∙ ap (λ k. free_number k less (next_number m.options.dice m.last_id)) long_is
        ∙ ap (λ (l : List SurveyView). free_number (length after.live) l (next_number m.options.dice m.last_id)) first.live
        ∙ frees_same (length after.live) (next_number m.options.dice m.last_id) after.live
        ∙ ap (λ (o : Options). free_from (length after.live) after.live (next_number o.dice m.last_id)) (sym (is_options m t h))
        ∙ ap (λ (o : Option ℕ). free_from (length after.live) after.live (next_number t.z.options.dice o)) h.0.4.last_id)

    few : length after.live < 2 ^ 31
    few = subst (λ k. k < 2 ^ 31) (ap length less_is ∙ long_is) a.2

    new : has (map survey_id less) id ≡ false
    new = ap (λ (l : List SurveyView). has (map survey_id l) id) first.live ∙ ids_of after.live id ∙ ap (λ k. list_any (has_id k) after.live) (sym id_is) ∙ next_is_new t.z after few

    free : list_any (is_at op.slot) (pend (past t)) ≡ false
    free = free_slot t op c (Send (text_of x)) d l

    no_end : how_in after.orphans op ≡ None
    no_end = fresh_left how.Replaced (requests t.z (past t)).orphans (is_bereft (c ∷ []) (requests t.z (past t))) (pend (past t)) op (fresh_how t.z (past t) op free) free

    makes : requests t.z sent_past ≡ begin_on t.z (now (past t)) c x.body after
    makes = begun_makes t.z (past t) op t.caller c (text_of x) d (surveys t.z (is_survey m t h) (is_raw m t h ∙ r))

    asked : Asked (less ++ fresh_survey c id m.tick ∷ []) (Some id) (map (left_by (has (c ∷ [])) ends.Replaced) m.waiting.items ++ sent_op ∷ []) (pend sent_past) (requests t.z sent_past)
    asked =
        subst (λ (rs : Requests). Asked (less ++ fresh_survey c id m.tick ∷ []) (Some id) (map (left_by (has (c ∷ [])) ends.Replaced) m.waiting.items ++ sent_op ∷ []) (pend sent_past) rs) (sym (makes ∙ ap (λ k. begin_on t.z k c x.body after) (sym h.0.0.moment)))
        (begun (less ++ fresh_survey c id m.tick ∷ []) (Some id) (map (left_by (has (c ∷ [])) ends.Replaced) m.waiting.items) (pend (past t)) (begin_on t.z m.tick c x.body after) sent_op refl free no_end
        (born less m.last_id (map (left_by (has (c ∷ [])) ends.Replaced) m.waiting.items) (pend (past t)) after t.z m.tick c id x.body id_is (gone_on c m.live.items) new first))

    bytes : bytes_of t.z sent_past (begun_of sent_op) ≡ Some (word id ++ x.body)
    bytes =
        ap (λ (y : Role). bytes_for y t.z.raw (route t.z sent_past op) (request_of t.z sent_past (begun_of sent_op)) (text_of x)) (is_survey m t h)
        ∙ ap (λ q. bytes_for role.Surveyor q (route t.z sent_past op) (request_of t.z sent_past (begun_of sent_op)) (text_of x)) (is_raw m t h ∙ r)
        ∙ ap (λ (rs : Requests). option_map wire_of (cond {A = Option LiveRequest} (is_orphan rs op) None (find (is_on c) rs.live))) makes
        ∙ ap (λ q. option_map wire_of (cond {A = Option LiveRequest} q None (find (is_on c) (begin_on t.z (now (past t)) c x.body after).live))) (not_orphan after.orphans op no_end)
        ∙ ap (option_map wire_of) (find_begun c (requests t.z (past t)).live (record { ctx = c; id = next_id t.z after; body = x.body; birth = now (past t); last_out = None; replies = [] }) ∙ ap (λ b. cond b (Some (record { ctx = c; id = next_id t.z after; body = x.body; birth = now (past t); last_out = None; replies = [] })) (find (is_on c) (requests t.z (past t)).live)) (same_number c))
        ∙ ap (λ k. Some (word k ++ x.body)) id_is

    flip : (e : ℕ) → (e == c) ≡ has (c ∷ []) e
    flip e = go (e == c) refl
      where
        go : (b : Bool) → (e == c) ≡ b → b ≡ ((c == e) || false)
        go true f = sym (ap (λ q. q || false) (turned e c true f))
        go false f = sym (ap (λ q. q || false) (turned e c false f))

    pub send_ties : (k : Survey) → k ≡ record n { copies = k.copies; waiting = k.waiting } → k.waiting.items ≡ n.waiting.items ++ sent_op ∷ [] → AreSame x k.copies.items → length k.copies.items ≡ m.pipes → Ties k (also t (Begin op t.caller c (Send (text_of x)) d))
    send_ties k same items copies long =
        let whole : k ≡ record m { last_id = n.last_id; live = n.live; waiting = k.waiting; copies = k.copies } = same ∙ ap (λ (y : Survey). record y { copies = k.copies; waiting = k.waiting }) a.6 in
        let lives : n.live.items ≡ less ++ fresh_survey c id m.tick ∷ [] = a.3 ∙ ap (λ (xs : List SurveyView). xs ++ fresh_survey c id m.tick ∷ []) less_is in
        let ops : k.waiting.items ≡ map (left_by (has (c ∷ [])) ends.Replaced) m.waiting.items ++ sent_op ∷ [] = items ∙ ap (λ (ws : List SurveyOperation). ws ++ sent_op ∷ []) (a.4 ∙ left_like (λ e. e == c) (has (c ∷ [])) ends.Replaced flip m.waiting.items) in
        subst (λ (y : Survey). Ties y (also t (Begin op t.caller c (Send (text_of x)) d))) (sym whole) (
          (h.0.0, h.0.1, h.0.2, h.0.3, subst (λ (i : Option ℕ). Asked n.live.items i k.waiting.items (pend sent_past) (requests t.z sent_past)) (sym a.5) (subst (λ (xs : List SurveyView). Asked xs (Some id) k.waiting.items (pend sent_past) (requests t.z sent_past)) (sym lives) (subst (λ (ws : List SurveyOperation). Asked (less ++ fresh_survey c id m.tick ∷ []) (Some id) ws (pend sent_past) (requests t.z sent_past)) (sym ops) asked))),
          flooding m.raw n.last_id k.copies.items (word id ++ x.body) copies long (ap (λ q. out_text q n.last_id x) r ∙ ap (λ (o : Option ℕ). out_text false o x) a.5) bytes,
        )

-- ---- A frame comes

short_is : (b : List ℕ) → first_word b ≡ None → nat_lt (length b) 4 ≡ true
short_is b e = go (nat_lt (length b) 4) refl
  where
    go : (q : Bool) → nat_lt (length b) 4 ≡ q → q ≡ true
    go true f = refl
    go false f = let bad : is_some (first_word b) ≡ true = ap (λ q. is_some (cond q None (Some (from_be_bytes w32 (take 4 b))))) f in let no_ : is_some (first_word b) ≡ false = ap is_some e in let no2 : true ≡ false = sym bad ∙ no_ in absurd cc

long_word : (b : List ℕ) → first_word b ≢ None → nat_lt (length b) 4 ≡ false
long_word b e = go (nat_lt (length b) 4) refl
  where
    go : (q : Bool) → nat_lt (length b) 4 ≡ q → q ≡ false
    go false f = refl
    go true f = absurd (e (ap (λ q. cond q None (Some (from_be_bytes w32 (take 4 b)))) f))

malformed_is : (m : Survey) (t : Moment) (b : List ℕ) → Ties m t → breaks_rule t.z b ≡ nat_lt (length b) 4
malformed_is m t b h = go t.z.role (is_survey m t h)
  where
    go : (r : Role) → r ≡ role.Surveyor → malformed_for r t.z.options.ttl b ≡ nat_lt (length b) 4
    go r e = rw e refl

pub short_frame : (m : Survey) (t : Moment) (b : List ℕ) → Ties m t → first_word b ≡ None → breaks_rule t.z b ≡ true
short_frame m t b h e = malformed_is m t b h ∙ short_is b e

pub long_frame : (m : Survey) (t : Moment) (b : List ℕ) → Ties m t → first_word b ≢ None → breaks_rule t.z b ≡ false
long_frame m t b h e = malformed_is m t b h ∙ long_word b e

pub some_word : (b : List ℕ) (n : ℕ) → first_word b ≡ Some n → first_word b ≢ None
some_word b n e q = let bad : Some n ≡ None = sym e ∙ q in cc

module _ (m : Survey) (t : Moment) (p : ℕ) (b : List ℕ) (h : Ties m t) where
  abbrev pub frame_past : List Entry
  frame_past = Frame p b ∷ past t

  frame_floods : HasFlood (also t (Frame p b)) (length m.copies.items) (λ (s : Begun). IsFlood m.raw m.last_id m.copies.items (bytes_of t.z frame_past s))
  frame_floods = goes_on _ t (Frame p b) refl refl refl (λ s e. subst (IsFlood m.raw m.last_id m.copies.items) (frame_bytes t.z (past t) p b s (is_survey m t h))) h.1

  -- a frame that is malformed changes no survey
  short_asked : malformed t.z (past t) p b ≡ true → Asked m.live.items m.last_id m.waiting.items (pend (past t)) (requests t.z frame_past)
  short_asked e = go m.raw refl
    where
      same : (rs : List LiveRequest) → map (with_frame t.z (past t) p b) rs ≡ rs
      same [] = refl
      same (r ∷ rs) = ap (λ (q : LiveRequest). q ∷ map (with_frame t.z (past t) p b) rs) (one r) ∙ ap (λ (rest : List LiveRequest). r ∷ rest) (same rs)
        where
          one : (r : LiveRequest) → with_frame t.z (past t) p b r ≡ r
          one r = rw e refl

      go : (v : Bool) → m.raw ≡ v → Asked m.live.items m.last_id m.waiting.items (pend (past t)) (requests t.z frame_past)
      go true r = raw_asked m t m.waiting.items (pend (past t)) frame_past r h h.0.4
      go false r =
          let after : requests t.z frame_past ≡ requests t.z (past t) = frame_makes t.z (past t) p b (surveys t.z (is_survey m t h) (is_raw m t h ∙ r)) ∙ ap (λ (l : List LiveRequest). record (requests t.z (past t)) { live = l }) (same (requests t.z (past t)).live) in
          subst (λ (q : Requests). Asked m.live.items m.last_id m.waiting.items (pend (past t)) q) (sym after) h.0.4

  short_pool : malformed t.z (past t) p b ≡ true → pool t.z (past t) 0 ≡ pool t.z frame_past 0
  short_pool e = sym (ap (λ q. cond (not q && cond (has_topics t.z) (has (ctxs (past t)) 0 && is_wanted_by (topics (past t) 0) b) (0 == 0)) (add_for t.z.role t.z (item_in t.z p b) (pool t.z (past t) 0)) (pool t.z (past t) 0)) e)

  pub malformed_ties : malformed t.z (past t) p b ≡ true → Ties m (also t (Frame p b))
  malformed_ties e = ((h.0.0, h.0.1, h.0.2, λ r. h.0.3 r ∙ short_pool e, short_asked e), frame_floods)

  -- there was no memory for the frame
  pub unkept_ties : Ties m (also (also t (Frame p b)) (Unkept p))
  unkept_ties = (
    (h.0.0, h.0.1, h.0.2, h.0.3, subst (λ (q : Requests). Asked m.live.items m.last_id m.waiting.items (pend (past t)) q) (sym (unkept_makes t.z (past t) p p b)) h.0.4),
    goes_on _ (also t (Frame p b)) (Unkept p) refl refl refl (λ s e. subst (IsFlood m.raw m.last_id m.copies.items) (sym (frame_bytes t.z (past t) p b s (is_survey m t h)) ∙ same_requests t.z (past t) (Unkept p ∷ frame_past) s (is_survey m t h) (unkept_makes t.z (past t) p p b))) frame_floods,
  )

  -- raw, the frame is kept
  pub raw_frame_ties : (n : Survey) → is_too_long (past t) p b ≡ false → m.raw ≡ true → first_word b ≢ None → n ≡ record m { kept = n.kept } → map item_of n.kept.items ≡ map item_of m.kept.items ++ raw_item p b ∷ [] → Ties n (also t (Frame p b))
  raw_frame_ties n short r f same items =
      subst (λ (y : Survey). Ties y (also t (Frame p b))) (sym same) (
        (h.0.0, h.0.1, h.0.2, λ q. items ∙ ap (λ (is : List Item). is ++ raw_item p b ∷ []) (h.0.3 r) ∙ sym (go t.z (is_survey m t h) (is_raw m t h ∙ r) (by_rule t.z (past t) p b short ∙ long_frame m t b h f)), raw_asked m t m.waiting.items (pend (past t)) frame_past r h h.0.4),
        frame_floods,
      )
    where
      go : (z : Setting) → z.role ≡ role.Surveyor → z.raw ≡ true → malformed z (past t) p b ≡ false → pool z frame_past 0 ≡ pool z (past t) 0 ++ raw_item p b ∷ []
      go z i j k =
          ap (λ q. cond (not q && cond (has_topics z) (has (ctxs (past t)) 0 && is_wanted_by (topics (past t) 0) b) (0 == 0)) (add_for z.role z (item_in z p b) (pool z (past t) 0)) (pool z (past t) 0)) k
          ∙ ap (λ q. cond (cond q (has (ctxs (past t)) 0 && is_wanted_by (topics (past t) 0) b) (0 == 0)) (add_for z.role z (item_in z p b) (pool z (past t) 0)) (pool z (past t) 0)) (no_topics z i)
          ∙ ap (λ (y : Role). add_for y z (item_in z p b) (pool z (past t) 0)) i
          ∙ ap (λ (y : Role). add_item (item_for y z.raw z.options.ttl p b) (pool z (past t) 0)) i
          ∙ ap (λ q. add_item (item_for role.Surveyor q z.options.ttl p b) (pool z (past t) 0)) j
        where
          no_topics : (z : Setting) → z.role ≡ role.Surveyor → has_topics z ≡ false
          no_topics z i = rw i refl

  -- cooked, the frame is a response
  module _ (short : is_too_long (past t) p b ≡ false) (k : ℕ) (v : MessageView) (r : m.raw ≡ false) (f : first_word b ≡ Some k) (e : v ≡ record { header = []; body = drop 4 b }) where
    abbrev reply_to : SurveyView → SurveyView
    reply_to y = cond (y.id == k) (with_reply m.options.queue v y) y

    one_is : (q : LiveRequest) → reply_to (survey_of q) ≡ survey_of (with_frame t.z (past t) p b q)
    one_is q = go (q.id == k) refl ∙ sym (ap survey_of whole)
      where
        more : LiveRequest
        more = record q { replies = q.replies ++ plain_item p (drop 4 b) ∷ [] }

        long_same : (is : List Item) → length (map view_of is) ≡ length is
        long_same [] = refl
        long_same (i ∷ is) = let g = long_same is in omega (arith, g)

        whole : with_frame t.z (past t) p b q ≡ cond ((k == q.id) && nat_lt (length q.replies) m.options.queue) more q
        whole =
            ap (λ c. cond (not c && is_for b q && has_room t.z q) more q) (by_rule t.z (past t) p b short ∙ long_frame m t b h (some_word b k f))
            ∙ ap (λ o. cond (is_number o q.id && has_room t.z q) more q) f
            ∙ ap (λ c. cond ((k == q.id) && cond c (is_some q.last_out && is_nil q.replies) (nat_lt (length q.replies) t.z.options.queue)) more q) (no_req t.z (is_survey m t h))
            ∙ ap (λ (o : Options). cond ((k == q.id) && nat_lt (length q.replies) o.queue) more q) (is_options m t h)

        last : (c : Bool) → cond c (record { ctx = q.ctx; id = q.id; birth = q.birth; replies = map view_of q.replies ++ v ∷ [] }) (survey_of q) ≡ survey_of (cond c more q)
        last true = ap (λ (ms : List MessageView). let y : SurveyView = record { ctx = q.ctx; id = q.id; birth = q.birth; replies = ms } in y) (ap (λ (w : MessageView). map view_of q.replies ++ w ∷ []) e ∙ sym (map-append view_of q.replies (plain_item p (drop 4 b) ∷ [])))
        last false = refl

        go : (c : Bool) → (q.id == k) ≡ c → cond c (with_reply m.options.queue v (survey_of q)) (survey_of q) ≡ survey_of (cond ((k == q.id) && nat_lt (length q.replies) m.options.queue) more q)
        go true g = ap (λ i. cond (nat_lt i m.options.queue) (record { ctx = q.ctx; id = q.id; birth = q.birth; replies = map view_of q.replies ++ v ∷ [] }) (survey_of q)) (long_same q.replies) ∙ last (nat_lt (length q.replies) m.options.queue) ∙ sym (ap (λ c. survey_of (cond (c && nat_lt (length q.replies) m.options.queue) more q)) (turned q.id k true g))
        go false g = sym (ap (λ c. survey_of (cond (c && nat_lt (length q.replies) m.options.queue) more q)) (turned q.id k false g))

    key_same : (key : SurveyView → ℕ) → ((y : SurveyView) (ms : List MessageView) → key (record { ctx = y.ctx; id = y.id; birth = y.birth; replies = ms }) ≡ key y) → (y : SurveyView) → key (with_reply m.options.queue v y) ≡ key y
    key_same key g y = go (nat_lt (length y.replies) m.options.queue)
      where
        go : (c : Bool) → key (cond c (record { ctx = y.ctx; id = y.id; birth = y.birth; replies = y.replies ++ v ∷ [] }) y) ≡ key y
        go true = g y (y.replies ++ v ∷ [])
        go false = refl

    pub reply_ties : (n : Survey) → n ≡ record m { live = n.live } → n.live.items ≡ with_found (has_number k) (with_reply m.options.queue v) m.live.items → Ties n (also t (Frame p b))
    reply_ties n same items =
        let lives : n.live.items ≡ map survey_of (map (with_frame t.z (past t) p b) (requests t.z (past t)).live) =
        items ∙ alone survey_id k (with_reply m.options.queue v) m.live.items h.0.4.ids ∙ ap (map reply_to) h.0.4.live ∙ map_of reply_to (with_frame t.z (past t) p b) one_is (requests t.z (past t)).live in
        let done : Asked n.live.items m.last_id m.waiting.items (pend (past t)) (requests t.z frame_past) =
        subst (λ (q : Requests). Asked n.live.items m.last_id m.waiting.items (pend (past t)) q) (sym (frame_makes t.z (past t) p b (surveys t.z (is_survey m t h) (is_raw m t h ∙ r))))
        (relive m.live.items m.last_id m.waiting.items (pend (past t)) (requests t.z (past t)) (with_frame t.z (past t) p b) n.live.items lives
        (ap (map survey_id) items ∙ keys_kept survey_id (has_number k) (with_reply m.options.queue v) (key_same survey_id (λ y ms. refl)) m.live.items)
        (ap (map survey_ctx) items ∙ keys_kept survey_ctx (has_number k) (with_reply m.options.queue v) (key_same survey_ctx (λ y ms. refl)) m.live.items) h.0.4) in
        subst (λ (y : Survey). Ties y (also t (Frame p b))) (sym same) (
          (h.0.0, h.0.1, h.0.2, λ q. let bad : true ≡ false = sym q ∙ r in absurd cc, done),
          frame_floods,
        )

-- what is left of a frame after its id
pub trimmed_is : {U : Type 0} (old new : MessageView) (r : Result U Short) → Trimmed 4 old new r → old.header ≡ [] → first_word old.body ≢ None → new ≡ record { header = []; body = drop 4 old.body }
trimmed_is old new (Ok u) h e f = h.1 ∙ ap (λ (l : List ℕ). let v : MessageView = record { header = l; body = drop 4 old.body } in v) e
trimmed_is old new (Err u) h e f = let long : nat_lt (length old.body) 4 ≡ false = long_word old.body f in absurd (short (length old.body) h.0 long)
  where
    short : (n : ℕ) → n < 4 → nat_lt n 4 ≡ false → ⊥
    short n a b = grind (arith, nat_tests)

-- a raw frame came, with any result
pub raw_frame_all : (m n : Survey) (t : Moment) (p : ℕ) (b : List ℕ) (r : Verdict) → is_too_long (past t) p b ≡ false → Ties m t → m.raw ≡ true → (n ≡ record m { kept = n.kept }) × KeepsRaw r p b m.kept.items n.kept.items → Frames (Ties n) r t p b
raw_frame_all m n t p b verdict.Fine short h r k = (long_frame m t b h k.1.0, raw_frame_ties m t p b h n short r k.1.0 k.0 k.1.1)
raw_frame_all m n t p b verdict.Malformed short h r k =
    let bad = short_frame m t b h k.1.0 in
    (bad, same_kept m n (also t (Frame p b)) k.0 k.1.1 (malformed_ties m t p b h (by_rule t.z (past t) p b short ∙ bad)))
raw_frame_all m n t p b verdict.NoMemory short h r k = (long_frame m t b h k.1.0, same_kept m n (also (also t (Frame p b)) (Unkept p)) k.0 k.1.1 (unkept_ties m t p b h))
raw_frame_all m n t p b (verdict.Dry c) short h r k = absurd k.1

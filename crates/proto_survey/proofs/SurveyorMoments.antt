-- A surveyor stands for its history after the calls for pipes, contexts, turns and time.
use Rattle.std.proofs.Common.{◌≡◌, ◌≢◌, refl, ap, sym, ◌∙◌, subst, List, [], ◌∷◌, ◌++◌, ℕ, ◌+◌, ◌-◌, ◌≤◌, max, Bool, true, false, cond, arith, Option, Some, None, map}
use Rattle.std.specs.Prelude.{filter, not, min, ◌^◌, ◌&&◌, ◌||◌, ◌==◌}
use Rattle.std.specs.List.{list_any, list_all}
use Rattle.std.specs.Option.{option_map}
use Rattle.sp_base.specs.declared.OpName.{OpName}
use Rattle.sp_base.specs.declared.role.Role.TheVariants as role
use Rattle.sp_history.specs.declared.setting.Setting.{Setting}
use Rattle.sp_history.specs.declared.setting.Options.{Options}
use Rattle.sp_history.specs.declared.entry.Entry.{Entry}
use Rattle.sp_history.specs.declared.entry.Entry.TheVariants.{Up, Down, Full, Ctx, Tick, Close}
use Rattle.sp_history.specs.declared.entry.ContextChange.TheVariants.{Open, Shut}
use Rattle.sp_history.specs.declared.entry.Totals.{Totals}
use Rattle.sp_history.specs.declared.entry.Why.{Why}
use Rattle.sp_history.specs.declared.entry.WireNumbers.{WireNumbers}
use Rattle.sp_history.specs.declared.parts.Begun.{Begun}
use Rattle.sp_history.specs.declared.parts.Orphan.{Orphan}
use Rattle.sp_history.specs.declared.parts.LiveRequest.{LiveRequest}
use Rattle.sp_history.specs.declared.parts.Requests.{Requests}
use Rattle.sp_history.specs.declared.parts.How.TheVariants as how
use Rattle.sp_history.specs.Lists.{has, head_of, same_op}
use Rattle.sp_history.specs.Past.{pend, now}
use Rattle.sp_history.specs.Kept.{pool}
use Rattle.sp_history.specs.Requests.{requests, no_requests, asked, is_orphan, orphan_of, end_on, over_at, after_moment, live_on, is_over as is_over_at}
use Rattle.sp_history.specs.Sends.{bytes_of}
use Rattle.sp_history.specs.Legal.{is_recv, sending}
use Rattle.sp_history.specs.Moments.{Moment, Lawful, past, also, next}
use Rattle.sp_history.proofs.Requesting.{shut_makes, tick_makes, close_makes, shut_elsewhere}
use Rattle.sp_proto.specs.Kinds.{Kind}
use Rattle.sp_proto.specs.Machines.{NoFlood}
use Rattle.proto_shared.proofs.Copying.{pool_down}
use Rattle.proto_shared.proofs.FloodTurns.{no_flood, goes_on, pipe_down, pipe_full, turn_begins}
use Rattle.proto_shared.proofs.PipeCounts.{counted_up, counted_down}
use Rattle.proto_requests.specs.Ordered.{is_before}
use Rattle.proto_requests.proofs.OpenContexts.{seen_before}
use Rattle.proto_survey.specs.declared.survey.Survey.{Survey}
use Rattle.proto_survey.specs.declared.waiting.SurveyOperation.{SurveyOperation}
use Rattle.proto_survey.specs.declared.waiting.SurveyEnd.TheVariants as ends
use Rattle.proto_survey.specs.Contexts.{itself}
use Rattle.proto_survey.specs.Lives.{SurveyView, survey_of, is_over, over_on, without_over}
use Rattle.proto_survey.specs.Askings.{left_by}
use Rattle.proto_survey.specs.Surveys.{Ties, Asked, IsFlood, without_live, item_of}
use Rattle.proto_survey.proofs.SurveyLives.{equal_of, same_number, without_is, over_is, none_over, none_on, filter_like}
use Rattle.proto_survey.proofs.OrphanedOperations.{left_like, none_left_by}
use Rattle.proto_survey.proofs.Asks.{none_bereft, left, shut}
use Rattle.proto_survey.proofs.SurveySends.{surveys, surveys_nothing, no_req, it_floods, raw_same, bytes_changed}

pub is_survey : (m : Survey) (t : Moment) → Ties m t → t.z.role ≡ role.Surveyor
is_survey m t h = ap (λ (k : Kind). k.role) h.0.0.kind

pub is_raw : (m : Survey) (t : Moment) → Ties m t → t.z.raw ≡ m.raw
is_raw m t h = ap (λ (k : Kind). k.raw) h.0.0.kind

pub is_options : (m : Survey) (t : Moment) → Ties m t → t.z.options ≡ m.options
is_options m t h = ap (λ (k : Kind). k.options) h.0.0.kind

-- raw, no survey is live
pub no_live : (m : Survey) (t : Moment) → Ties m t → m.raw ≡ true → m.live.items ≡ []
no_live m t h r = h.0.4.live ∙ ap (λ q. map survey_of (cond q (asked t.z (past t)) no_requests).live) (surveys_nothing t.z (is_survey m t h) (is_raw m t h ∙ r))

-- raw, the surveys and operations are tied to every past with these operations
pub raw_asked : (m : Survey) (t : Moment) (ws : List SurveyOperation) (ss : List Begun) (b : List Entry) → m.raw ≡ true → Ties m t → Asked m.live.items m.last_id ws ss (requests t.z (past t)) → Asked m.live.items m.last_id ws ss (requests t.z b)
raw_asked m t ws ss b r h a = subst (λ (rs : Requests). Asked m.live.items m.last_id ws ss rs) (raw_same t.z (past t) b (surveys_nothing t.z (is_survey m t h) (is_raw m t h ∙ r))) a

-- ---- Pipes

pub up_ties : (m n : Survey) (t : Moment) (p place limit : ℕ) (name : WireNumbers) → NoFlood t → Lawful (also t (Up p place limit name)) → Ties m t → n ≡ record m { pipes = min (m.pipes + 1) (2 ^ 64 - 1) } → Ties n (also t (Up p place limit name))
up_ties m n t p place limit name calm l h same =
    subst (λ (x : Survey). Ties x (also t (Up p place limit name))) (sym same) (
      (h.0.0, counted_up t p place limit name m.pipes l h.0.1, h.0.2, h.0.3, h.0.4),
      no_flood _ _ (also t (Up p place limit name)) (calm (it_floods t.z (is_survey m t h))),
    )

pub down_ties : (m n : Survey) (t : Moment) (p : ℕ) (why : Why) → Lawful (also t (Down p why)) → Ties m t → n ≡ record m { pipes = m.pipes - 1 } → Ties n (also t (Down p why))
down_ties m n t p why l h same =
    subst (λ (x : Survey). Ties x (also t (Down p why))) (sym same) (
      (h.0.0, counted_down t p why m.pipes l h.0.1, h.0.2, λ r. h.0.3 r ∙ pool_down t.z (past t) p why (it_floods t.z (is_survey m t h)), h.0.4),
      pipe_down _ _ t p why (it_floods t.z (is_survey m t h)) h.1,
    )

pub full_ties : (m : Survey) (t : Moment) (p : ℕ) → Ties m t → Ties m (also t (Full p))
full_ties m t p h = (h.0, pipe_full _ _ t p (it_floods t.z (is_survey m t h)) h.1)

-- ---- A turn begins

pub fresh_ties : (m : Survey) (t : Moment) (k : ℕ) → Lawful (next t k) → Ties m t → Ties m (next t k)
fresh_ties m t k l h = (h.0, turn_begins _ _ t k l (it_floods t.z (is_survey m t h)))

-- ---- Contexts

itself_numbered : (cs : List ℕ) → map itself cs ≡ cs
itself_numbered [] = refl
itself_numbered (c ∷ cs) = ap (λ (rest : List ℕ). c ∷ rest) (itself_numbered cs)

pub opened_before : (m : Survey) (t : Moment) (c : ℕ) → Lawful (also t (Ctx c Open)) → Ties m t → list_all (is_before itself c) m.contexts.items ≡ true
opened_before m t c l h = seen_before itself m.contexts.items t c l (itself_numbered m.contexts.items ∙ h.0.2)

pub opened_ties : (m n : Survey) (t : Moment) (c : ℕ) → Ties m t → n ≡ record m { contexts = n.contexts } → n.contexts.items ≡ m.contexts.items ++ c ∷ [] → Ties n (also t (Ctx c Open))
opened_ties m n t c h same items =
    subst (λ (x : Survey). Ties x (also t (Ctx c Open))) (sym same) (
      (h.0.0, h.0.1, items ∙ ap (λ (cs : List ℕ). cs ++ c ∷ []) h.0.2, h.0.3, h.0.4),
      goes_on _ t (Ctx c Open) refl refl refl (λ s e q. q) h.1,
    )

not_on : (c : ℕ) (f : Begun → Bool) (ss : List Begun) (s : Begun) → list_any (λ (x : Begun). x.ctx == c) ss ≡ false → head_of (filter f ss) ≡ Some s → (s.ctx == c) ≡ false
not_on c f [] s h k = absurd cc
not_on c f (x ∷ ss) s h k = go (x.ctx == c) refl h (f x) k (not_on c f ss s)
  where
    some_inj : Some x ≡ Some s → x ≡ s
    some_inj q = cc

    go : (a : Bool) → (x.ctx == c) ≡ a → (a || list_any (λ (x : Begun). x.ctx == c) ss) ≡ false → (b : Bool) → head_of (cond b (x ∷ filter f ss) (filter f ss)) ≡ Some s → (list_any (λ (x : Begun). x.ctx == c) ss ≡ false → head_of (filter f ss) ≡ Some s → (s.ctx == c) ≡ false) → (s.ctx == c) ≡ false
    go true e p b q again = absurd cc
    go false e p true q again = subst (λ (y : Begun). (y.ctx == c) ≡ false) (some_inj q) e
    go false e p false q again = again p q

pub itself_mapped : (o : Option LiveRequest) → o ≡ option_map (λ (r : LiveRequest). r) o
itself_mapped None = refl
itself_mapped (Some r) = refl

module _ (m : Survey) (t : Moment) (c : ℕ) (l : Lawful (also t (Ctx c Shut))) (h : Ties m t) where
  abbrev pub shut_past : List Entry
  shut_past = Ctx c Shut ∷ past t

  none_there : list_any (λ (s : Begun). s.ctx == c) (pend (past t)) ≡ false
  none_there = l.turn.0.itself.2

  shut_bytes : (s : Begun) → head_of (sending (pend (past t))) ≡ Some s → bytes_of t.z (past t) s ≡ bytes_of t.z shut_past s
  shut_bytes s e = bytes_changed t.z (past t) shut_past s (λ (r : LiveRequest). r) (is_survey m t h) (λ r. refl) (λ r. (orphan_same r, shut_elsewhere t.z (past t) c Shut s.ctx away ∙ itself_mapped (live_on t.z (past t) s.ctx)))
    where
      differ : (x y : ℕ) → (x == y) ≡ false → y ≢ x
      differ x y f = λ q. let no : (x == y) ≡ true = subst (λ n. (x == n) ≡ true) (sym q) (same_number x) in let bad : true ≡ false = sym no ∙ f in cc

      away : c ≢ s.ctx
      away = differ s.ctx c (not_on c (λ (x : Begun). not (is_recv x.act)) (pend (past t)) s none_there e)

      nothing_more : (os : List Orphan) → os ++ [] ≡ os
      nothing_more [] = refl
      nothing_more (o ∷ os) = ap (λ (rest : List Orphan). o ∷ rest) (nothing_more os)

      orphan_same : t.z.raw ≡ false → is_orphan (requests t.z shut_past) s.op ≡ is_orphan (requests t.z (past t)) s.op
      orphan_same r =
          ap (λ (rs : Requests). is_orphan rs s.op) (shut_makes t.z (past t) c (surveys t.z (is_survey m t h) r))
          ∙ ap (λ (ss : List Begun). list_any (λ (o : Orphan). same_op o.op s.op) ((requests t.z (past t)).orphans ++ map (orphan_of how.Shut) ss)) (none_bereft c (requests t.z (past t)) (pend (past t)) none_there)
          ∙ ap (λ (os : List Orphan). list_any (λ (o : Orphan). same_op o.op s.op) os) (nothing_more (requests t.z (past t)).orphans)

  shut_asked : (ys : List SurveyView) → ys ≡ without_live c m.live.items → Asked ys m.last_id m.waiting.items (pend (past t)) (requests t.z shut_past)
  shut_asked ys e = go m.raw refl
    where
      go : (r : Bool) → m.raw ≡ r → Asked ys m.last_id m.waiting.items (pend (past t)) (requests t.z shut_past)
      go true r =
          let none = no_live m t h r in
          subst (λ (xs : List SurveyView). Asked xs m.last_id m.waiting.items (pend (past t)) (requests t.z shut_past)) (none ∙ sym (e ∙ ap (without_live c) none)) (raw_asked m t m.waiting.items (pend (past t)) shut_past r h h.0.4)
      go false r =
          subst (λ (xs : List SurveyView). Asked xs m.last_id m.waiting.items (pend (past t)) (requests t.z shut_past)) (sym (e ∙ without_is c m.live.items h.0.4.places))
          (subst (λ (rs : Requests). Asked (filter (λ (x : SurveyView). not (has (c ∷ []) x.ctx)) m.live.items) m.last_id m.waiting.items (pend (past t)) rs) (sym (shut_makes t.z (past t) c (surveys t.z (is_survey m t h) (is_raw m t h ∙ r)))) (shut m.live.items m.last_id m.waiting.items (pend (past t)) (requests t.z (past t)) c none_there h.0.4))

  pub shut_ties : (n : Survey) → n ≡ record m { contexts = n.contexts; live = n.live } → n.contexts.items ≡ filter (λ d. not (d == c)) m.contexts.items → n.live.items ≡ without_live c m.live.items → Ties n (also t (Ctx c Shut))
  shut_ties n same contexts live =
      subst (λ (x : Survey). Ties x (also t (Ctx c Shut))) (sym same) (
        (h.0.0, h.0.1, contexts ∙ ap (filter (λ d. not (d == c))) h.0.2, λ r. h.0.3 r ∙ sym (ap (λ b. cond b [] (pool t.z (past t) 0)) (other c l.turn.0.itself.0)), shut_asked n.live.items live),
        goes_on _ t (Ctx c Shut) refl refl refl (λ s e. subst (IsFlood m.raw m.last_id m.copies.items) (shut_bytes s e)) h.1,
      )
    where
      other : (n : ℕ) → n ≢ 0 → (n == 0) ≡ false
      other n k = go (n == 0) refl
        where
          go : (b : Bool) → (n == 0) ≡ b → b ≡ false
          go true e = absurd (k (equal_of n 0 e))
          go false e = refl

-- ---- Time

over_there : (z : Setting) (n c : ℕ) (rs : List LiveRequest) → has (map (λ (r : LiveRequest). r.ctx) (filter (is_over_at z n) rs)) c ≡ over_on z.options.survey n (map survey_of rs) c
over_there z n c [] = refl
over_there z n c (r ∷ rs) = go (is_over_at z n r) (r.ctx == c) (over_there z n c rs)
  where
    go : (b a : Bool) → has (map (λ (r : LiveRequest). r.ctx) (filter (is_over_at z n) rs)) c ≡ over_on z.options.survey n (map survey_of rs) c
        → has (map (λ (r : LiveRequest). r.ctx) (cond b (r ∷ filter (is_over_at z n) rs) (filter (is_over_at z n) rs))) c ≡ ((r.ctx == c) && b || over_on z.options.survey n (map survey_of rs) c)
    go true a k = one (r.ctx == c) k
      where
        one : (x : Bool) → has (map (λ (r : LiveRequest). r.ctx) (filter (is_over_at z n) rs)) c ≡ over_on z.options.survey n (map survey_of rs) c → (x || has (map (λ (r : LiveRequest). r.ctx) (filter (is_over_at z n) rs)) c) ≡ (x && true || over_on z.options.survey n (map survey_of rs) c)
        one true k = refl
        one false k = k
    go false a k = k ∙ none (r.ctx == c)
      where
        none : (x : Bool) → over_on z.options.survey n (map survey_of rs) c ≡ (x && false || over_on z.options.survey n (map survey_of rs) c)
        none true = refl
        none false = refl

later : (a b : ℕ) → a ≤ b → max a b ≡ b
later a b h = omega (arith, h)

module _ (m : Survey) (t : Moment) (n : ℕ) (due : List OpName) (h : Ties m t) where
  abbrev pub tick_past : List Entry
  tick_past = Tick n due ∷ past t

  here : (c : ℕ) → over_on m.options.survey n m.live.items c ≡ has (over_at t.z n (requests t.z (past t))) c
  here c = sym (over_there t.z n c (requests t.z (past t)).live ∙ ap (λ (o : Options). over_on o.survey n (map survey_of (requests t.z (past t)).live) c) (is_options m t h) ∙ ap (λ (xs : List SurveyView). over_on m.options.survey n xs c) (sym h.0.4.live))

  ticked_asked : (xs : List SurveyView) (ws : List SurveyOperation) → xs ≡ without_over m.options.survey n m.live.items → ws ≡ map (left_by (over_on m.options.survey n m.live.items) ends.Over) m.waiting.items → Asked xs m.last_id ws (pend (past t)) (requests t.z tick_past)
  unfolding after_moment
  ticked_asked xs ws e f = go m.raw refl
    where
      cs : List ℕ
      cs = over_at t.z n (requests t.z (past t))

      go : (r : Bool) → m.raw ≡ r → Asked xs m.last_id ws (pend (past t)) (requests t.z tick_past)
      go true r =
          let none = no_live m t h r in
          let same : m.live.items ≡ xs = none ∙ sym (e ∙ ap (without_over m.options.survey n) none) in
          let ops : m.waiting.items ≡ ws = sym (f ∙ none_left_by (over_on m.options.survey n m.live.items) ends.Over (λ c. ap (λ (l : List SurveyView). over_on m.options.survey n l c) none) m.waiting.items) in
          subst (λ (l : List SurveyOperation). Asked xs m.last_id l (pend (past t)) (requests t.z tick_past)) ops (subst (λ (l : List SurveyView). Asked l m.last_id m.waiting.items (pend (past t)) (requests t.z tick_past)) same (raw_asked m t m.waiting.items (pend (past t)) tick_past r h h.0.4))
      go false r =
          let makes : requests t.z tick_past ≡ end_on cs how.Over (pend (past t)) (requests t.z (past t)) =
          tick_makes t.z (past t) n due (surveys t.z (is_survey m t h) (is_raw m t h ∙ r)) ∙ ap (λ q. cond q (requests t.z (past t)) (end_on cs how.Over (pend (past t)) (requests t.z (past t)))) (no_req t.z (is_survey m t h)) in
          let lives : xs ≡ filter (λ (x : SurveyView). not (has cs x.ctx)) m.live.items =
          e ∙ over_is (is_over m.options.survey n) m.live.items h.0.4.places ∙ filter_like (λ (x : SurveyView). not (over_on m.options.survey n m.live.items x.ctx)) (λ (x : SurveyView). not (has cs x.ctx)) (λ x. ap not (here x.ctx)) m.live.items in
          let ops : ws ≡ map (left_by (has cs) ends.Over) m.waiting.items = f ∙ left_like (over_on m.options.survey n m.live.items) (has cs) ends.Over here m.waiting.items in
          subst (λ (rs : Requests). Asked xs m.last_id ws (pend (past t)) rs) (sym makes)
          (subst (λ (l : List SurveyOperation). Asked xs m.last_id l (pend (past t)) (end_on cs how.Over (pend (past t)) (requests t.z (past t)))) (sym ops) (subst (λ (l : List SurveyView). Asked l m.last_id (map (left_by (has cs) ends.Over) m.waiting.items) (pend (past t)) (end_on cs how.Over (pend (past t)) (requests t.z (past t)))) (sym lives) (left m.live.items m.last_id m.waiting.items (pend (past t)) (requests t.z (past t)) cs ends.Over h.0.4)))

  pub ticked_ties : (x : Survey) → NoFlood t → Lawful (also t (Tick n due)) → x ≡ record m { tick = n; live = x.live; waiting = x.waiting } → x.live.items ≡ without_over m.options.survey n m.live.items → x.waiting.items ≡ map (left_by (over_on m.options.survey n m.live.items) ends.Over) m.waiting.items → Ties x (also t (Tick n due))
  ticked_ties x calm l same live ops =
      subst (λ (y : Survey). Ties y (also t (Tick n due))) (sym same) (
        (record { kind = h.0.0.kind; moment = sym (later (now (past t)) n l.turn.0.itself.0) }, h.0.1, h.0.2, h.0.3, ticked_asked x.live.items x.waiting.items live ops),
        no_flood _ _ (also t (Tick n due)) (calm (it_floods t.z (is_survey m t h))),
      )

  -- no survey is over
  pub quiet_ties : (x : Survey) → NoFlood t → Lawful (also t (Tick n due)) → x ≡ record m { tick = n } → list_any (is_over m.options.survey n) m.live.items ≡ false → Ties x (also t (Tick n due))
  quiet_ties x calm l same none =
      ticked_ties x calm l (same ∙ sym (ap (λ (y : Survey). record m { tick = n; live = y.live; waiting = y.waiting }) same)) (ap (λ (y : Survey). y.live.items) same ∙ sym (none_over (is_over m.options.survey n) m.live.items none))
      (ap (λ (y : Survey). y.waiting.items) same ∙ sym (none_left_by (over_on m.options.survey n m.live.items) ends.Over (λ c. none_on (is_over m.options.survey n) m.live.items c none) m.waiting.items))

-- ---- The close

pub closed_ties : (m n : Survey) (t : Moment) (totals : Totals) → Lawful (also t (Close totals)) → Ties m t → n ≡ record m { live = n.live; kept = n.kept } → n.live.items ≡ [] → n.kept.items ≡ [] → Ties n (also t (Close totals))
closed_ties m n t totals l h same live kept =
    subst (λ (x : Survey). Ties x (also t (Close totals))) (sym same) (
      (
        h.0.0,
        h.0.1,
        h.0.2,
        λ r. ap (map item_of) kept,
        subst (λ (rs : Requests). Asked n.live.items m.last_id m.waiting.items (pend (past t)) rs) (sym (close_makes t.z (past t) totals)) (subst (λ (xs : List SurveyView). Asked xs m.last_id m.waiting.items (pend (past t)) (record (requests t.z (past t)) { live = [] })) (sym live)
            (record {
              live = refl;
              last_id = h.0.4.last_id;
              ids = tt;
              places = tt;
              pending = h.0.4.pending;
              apart = h.0.4.apart;
              ends = h.0.4.ends;
            })),
      ),
      no_flood _ _ (also t (Close totals)) (ap sending l.turn.0.itself.0),
    )

-- the live surveys were overwritten by the same ones
pub same_live : (m n : Survey) (t : Moment) → n ≡ record m { live = n.live } → n.live.items ≡ m.live.items → Ties m t → Ties n t
same_live m n t same items h = subst (λ (x : Survey). Ties x t) (sym same) (
  (h.0.0, h.0.1, h.0.2, h.0.3, subst (λ (xs : List SurveyView). Asked xs m.last_id m.waiting.items (pend (past t)) (requests t.z (past t))) (sym items) h.0.4),
  h.1,
)

pub same_kept : (m n : Survey) (t : Moment) → n ≡ record m { kept = n.kept } → n.kept.items ≡ m.kept.items → Ties m t → Ties n t
same_kept m n t same items h = subst (λ (x : Survey). Ties x t) (sym same) ((h.0.0, h.0.1, h.0.2, λ r. ap (map item_of) items ∙ h.0.3 r, h.0.4), h.1)

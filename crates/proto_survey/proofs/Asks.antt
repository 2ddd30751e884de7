-- What each kind of entry does to the surveys and of the operations that wait.
use Rattle.std.proofs.Common.{◌≡◌, refl, ap, sym, ◌∙◌, subst, List, [], ◌∷◌, ◌++◌, ℕ, Bool, true, false, cond, Option, Some, None, map}
use Rattle.std.specs.Prelude.{filter, not, ◌&&◌, ◌||◌, ◌==◌}
use Rattle.std.specs.List.{list_any}
use Rattle.std.proofs.lemmas.List.{map-append}
use Rattle.sp_base.specs.declared.OpName.{OpName}
use Rattle.sp_history.specs.declared.setting.Setting.{Setting}
use Rattle.sp_history.specs.declared.parts.Begun.{Begun}
use Rattle.sp_history.specs.declared.parts.Orphan.{Orphan}
use Rattle.sp_history.specs.declared.parts.LiveRequest.{LiveRequest}
use Rattle.sp_history.specs.declared.parts.Requests.{Requests}
use Rattle.sp_history.specs.declared.parts.How.TheVariants as how
use Rattle.sp_history.specs.Lists.{has}
use Rattle.sp_history.specs.Past.{without_begun}
use Rattle.sp_history.specs.Requests.{end_on, begin_on, next_id, change_live, without_orphan, is_bereft, orphan_of, is_orphan}
use Rattle.sp_history.specs.Legal.{is_at}
use Rattle.sp_history.specs.Once.{AreApart}
use Rattle.proto_shared.proofs.Splits.{apart_without, apart_more}
use Rattle.proto_survey.specs.declared.waiting.SurveyOperation.{SurveyOperation}
use Rattle.proto_survey.specs.declared.waiting.SurveyEnd.{SurveyEnd}
use Rattle.proto_survey.specs.Lives.{SurveyView, survey_of, survey_ctx, survey_id, fresh_survey}
use Rattle.proto_survey.specs.Askings.{begun_of, without_first, left_by, how_of, how_in, Ends}
use Rattle.proto_survey.specs.Surveys.{Asked}
use Rattle.proto_survey.proofs.SurveyLives.{filter_of, distinct_left, distinct_more, turned as turned_to}
use Rattle.proto_survey.proofs.OrphanedOperations.{without_map, ends_taken, ends_left, begun_left, ends_more}

-- none of these operations is of the context
pub none_bereft : (c : ℕ) (rs : Requests) (ss : List Begun) → list_any (λ (s : Begun). s.ctx == c) ss ≡ false → filter (is_bereft (c ∷ []) rs) ss ≡ []
none_bereft c rs [] h = refl
none_bereft c rs (s ∷ ss) h = go (s.ctx == c) refl h (none_bereft c rs ss)
  where
    turned : (b : Bool) → (s.ctx == c) ≡ b → (c == s.ctx) ≡ b
    turned b e = turned_to s.ctx c b e

    go : (b : Bool) → (s.ctx == c) ≡ b → (b || list_any (λ (s : Begun). s.ctx == c) ss) ≡ false → (list_any (λ (s : Begun). s.ctx == c) ss ≡ false → filter (is_bereft (c ∷ []) rs) ss ≡ []) → cond (((c == s.ctx) || false) && not (is_orphan rs s.op)) (s ∷ filter (is_bereft (c ∷ []) rs) ss) (filter (is_bereft (c ∷ []) rs) ss) ≡ []
    go true e k again = absurd cc
    go false e k again = rw (turned false e) (again k)

module _ (xs : List SurveyView) (id : Option ℕ) (ws : List SurveyOperation) (ss : List Begun) (rs : Requests) where
  apart_ws : Asked xs id ws ss rs → AreApart (map begun_of ws)
  apart_ws h = subst AreApart (sym h.pending) h.apart

  -- an operation ended
  pub taken : (op : OpName) → Asked xs id ws ss rs → Asked xs id (without_first op ws) (without_begun ss op) (without_orphan op rs)
  taken op h =
      record {
        live = h.live;
        last_id = h.last_id;
        ids = h.ids;
        places = h.places;
        pending = without_map op ws (apart_ws h op) ∙ ap (λ (l : List Begun). without_begun l op) h.pending;
        apart = apart_without ss op h.apart;
        ends = ends_taken op rs.orphans ws (apart_ws h) h.ends;
      }

  -- the live requests were changed
  pub relive : (f : LiveRequest → LiveRequest) (ys : List SurveyView) → ys ≡ map survey_of (map f rs.live) → map survey_id ys ≡ map survey_id xs → map survey_ctx ys ≡ map survey_ctx xs → Asked xs id ws ss rs → Asked ys id ws ss (change_live f rs)
  relive f ys e i c h =
      record {
        live = e;
        last_id = h.last_id;
        ids = rw i h.ids;
        places = rw c h.places;
        pending = h.pending;
        apart = h.apart;
        ends = h.ends;
      }

  -- the surveys of these contexts end
  pub left : (cs : List ℕ) (e : SurveyEnd) → Asked xs id ws ss rs → Asked (filter (λ (x : SurveyView). not (has cs x.ctx)) xs) id (map (left_by (has cs) e) ws) ss (end_on cs (how_of e) ss rs)
  left cs e h =
      record {
        live = ap (filter (λ (x : SurveyView). not (has cs x.ctx))) h.live ∙ filter_of (λ (x : SurveyView). not (has cs x.ctx)) (λ (r : LiveRequest). not (has cs r.ctx)) (λ r. refl) rs.live;
        last_id = h.last_id;
        ids = distinct_left survey_id (λ (x : SurveyView). not (has cs x.ctx)) xs h.ids;
        places = distinct_left survey_ctx (λ (x : SurveyView). not (has cs x.ctx)) xs h.places;
        pending = begun_left (has cs) e ws ∙ h.pending;
        apart = h.apart;
        ends = subst (λ (l : List Begun). Ends (rs.orphans ++ map (orphan_of (how_of e)) (filter (is_bereft cs rs) l)) (map (left_by (has cs) e) ws)) h.pending (ends_left cs e rs ws (apart_ws h) h.ends);
      }

  -- the survey of a context on which nothing is pending ends
  pub shut : (c : ℕ) → list_any (λ (s : Begun). s.ctx == c) ss ≡ false → Asked xs id ws ss rs → Asked (filter (λ (x : SurveyView). not (has (c ∷ []) x.ctx)) xs) id ws ss (end_on (c ∷ []) how.Shut ss rs)
  shut c n h =
      record {
        live = ap (filter (λ (x : SurveyView). not (has (c ∷ []) x.ctx))) h.live ∙ filter_of (λ (x : SurveyView). not (has (c ∷ []) x.ctx)) (λ (r : LiveRequest). not (has (c ∷ []) r.ctx)) (λ r. refl) rs.live;
        last_id = h.last_id;
        ids = distinct_left survey_id (λ (x : SurveyView). not (has (c ∷ []) x.ctx)) xs h.ids;
        places = distinct_left survey_ctx (λ (x : SurveyView). not (has (c ∷ []) x.ctx)) xs h.places;
        pending = h.pending;
        apart = h.apart;
        ends = subst (λ (os : List Orphan). Ends os ws) (sym (more rs.orphans ∙ refl)) h.ends;
      }
    where
      more : (os : List Orphan) → os ++ map (orphan_of how.Shut) (filter (is_bereft (c ∷ []) rs) ss) ≡ os
      more [] = ap (map (orphan_of how.Shut)) (none_bereft c rs ss n)
      more (o ∷ os) = ap (λ (rest : List Orphan). o ∷ rest) (more os)

  -- an operation begins
  pub begun : (w : SurveyOperation) → w.ended ≡ None → list_any (is_at w.op.slot) ss ≡ false → how_in rs.orphans w.op ≡ None → Asked xs id ws ss rs → Asked xs id (ws ++ w ∷ []) (ss ++ begun_of w ∷ []) rs
  begun w n free k h =
      record {
        live = h.live;
        last_id = h.last_id;
        ids = h.ids;
        places = h.places;
        pending = map-append begun_of ws (w ∷ []) ∙ ap (λ (l : List Begun). l ++ begun_of w ∷ []) h.pending;
        apart = apart_more ss (begun_of w) h.apart free;
        ends = ends_more rs.orphans ws w n k h.ends;
      }

  -- a survey begins
  pub born : (z : Setting) (t c n : ℕ) (body : List ℕ) → next_id z rs ≡ n → has (map survey_ctx xs) c ≡ false → has (map survey_id xs) n ≡ false → Asked xs id ws ss rs → Asked (xs ++ fresh_survey c n t ∷ []) (Some n) ws ss (begin_on z t c body rs)
  born z t c n body e free new h =
      record {
        live = ap (λ (l : List SurveyView). l ++ fresh_survey c n t ∷ []) h.live ∙ ap (λ k. map survey_of rs.live ++ fresh_survey c k t ∷ []) (sym e) ∙ sym (map-append survey_of rs.live (record { ctx = c; id = next_id z rs; body = body; birth = t; last_out = None; replies = [] } ∷ []));
        last_id = ap (λ k. Some k) (sym e);
        ids = distinct_more survey_id xs (fresh_survey c n t) h.ids new;
        places = distinct_more survey_ctx xs (fresh_survey c n t) h.places free;
        pending = h.pending;
        apart = h.apart;
        ends = h.ends;
      }

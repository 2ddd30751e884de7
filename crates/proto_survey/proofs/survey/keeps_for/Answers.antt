use Rattle.std.proofs.Common.{◌≡◌, ◌∙◌, sym, ap, rules, slice_index_or}
use Rattle.std.specs.Prelude.{not}
use Rattle.sp_history.specs.Lists.{is_nil}
use Rattle.proto_requests.proofs.Positions.{found_at, not_found}
use Rattle.proto_survey.specs.Lives.{SurveyView, is_live_on, is_kept}
use Rattle.proto_survey.proofs.survey.keeps_for.Goals as goal

pub returns-in-None : goal.returns-in-None
returns-in-None c = sym (ap is_kept (not_found (is_live_on c.args.c) c.args.live.now (sym c.in-None.ensures)))

pub returns-in-Some : goal.returns-in-Some
returns-in-Some c =
    let at : c.index-live-i.result ≡ slice_index_or c.args.live.now c.in-Some.i c.index-live-i.result = search rules in
    ap not c.is_empty.ensures ∙ ap (λ (x : SurveyView). not (is_nil x.replies)) at ∙ sym (ap is_kept (found_at (is_live_on c.args.c) c.args.live.now c.in-Some.i c.index-live-i.result (sym c.in-Some.ensures)))

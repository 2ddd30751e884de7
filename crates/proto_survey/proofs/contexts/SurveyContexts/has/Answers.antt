use Rattle.std.proofs.Common.{◌∙◌, ap, refl, ℕ}
use Rattle.sp_history.specs.Lists.{has}
use Rattle.proto_requests.proofs.NumberedEntries.{found_any}
use Rattle.proto_survey.specs.Contexts.{ContextsView, itself}
use Rattle.proto_survey.proofs.contexts.SurveyContexts.has.Goals as goal

pub returns : goal.returns
returns c =
    let n = c.c.inside.0 in
    c.contains_key.ensures ∙ found_any itself (λ (e : ℕ × ℕ). e.0) (λ e. refl) n c.self.inside.surveys.entries ∙ ap (λ (v : ContextsView). has v.items n) c.self.view_is ∙ ap (has c.args.self.now.items) c.c.view_is

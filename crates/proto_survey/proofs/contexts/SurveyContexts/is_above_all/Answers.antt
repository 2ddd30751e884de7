use Rattle.std.proofs.Common.{◌∙◌, ap, refl, ℕ}
use Rattle.std.specs.Prelude.{nat_lt}
use Rattle.std.specs.List.{list_all}
use Rattle.proto_requests.specs.Ordered.{is_before}
use Rattle.proto_requests.proofs.NumberedEntries.{one_before}
use Rattle.proto_survey.specs.Contexts.{ContextsView, itself}
use Rattle.proto_survey.proofs.contexts.SurveyContexts.is_above_all.Goals as goal

pub returns-in-Some : goal.returns-in-Some
returns-in-Some c = λ h.
    let all = ap (λ (v : ContextsView). list_all (is_before itself c.args.c) v.items) c.self.view_is ∙ h in
    ap (nat_lt c.in-Some.last.now) c.c.view_is ∙ one_before itself (λ (e : ℕ × ℕ). e.0) (λ e. refl) c.args.c _ c.in-Some.last.now _ c.self.inside.surveys.entries all c.in-Some.ensures.last

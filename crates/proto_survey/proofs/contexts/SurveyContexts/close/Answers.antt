use Rattle.std.proofs.Common.{◌∙◌, ap, refl, ℕ}
use Rattle.std.specs.Prelude.{filter, not, ◌==◌}
use Rattle.std.specs.Map.{keys_of}
use Rattle.proto_requests.proofs.NumberedEntries.{less_seen}
use Rattle.proto_survey.specs.Contexts.{ContextsView, itself}
use Rattle.proto_survey.proofs.contexts.SurveyContexts.close.Goals as goal

pub returns : goal.returns
returns c =
    let n = c.c.inside.0 in
    ap (λ fs. keys_of fs) c.remove.ensures.entries ∙ less_seen itself (λ (e : ℕ × ℕ). e.0) (λ e. refl) n c.self.inside.surveys.entries c.len-len.ensures.ordered ∙ ap (λ (v : ContextsView). filter (λ (d : ℕ). not (d == n)) v.items) c.self.view_is
    ∙ ap (λ (k : ℕ). filter (λ (d : ℕ). not (d == k)) c.args.self.now.items) c.c.view_is

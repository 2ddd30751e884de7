use Rattle.std.proofs.Common.{◌∙◌, ap, refl, ◌++◌, ◌∷◌, [], ℕ}
use Rattle.std.specs.List.{list_all}
use Rattle.std.specs.Map.{keys_of}
use Rattle.std.proofs.lemmas.List.{map-append}
use Rattle.proto_requests.specs.Ordered.{is_before}
use Rattle.proto_requests.proofs.NumberedEntries.{more_entries}
use Rattle.proto_survey.specs.Contexts.{ContextsView, itself}
use Rattle.proto_survey.proofs.contexts.SurveyContexts.open.Goals.{in-Ok, in-Err}
use Rattle.proto_survey.proofs.contexts.SurveyContexts.open.Goals as goal

pub returns-clause-more : goal.returns-clause-more
returns-clause-more c =
    let n = c.c.inside.0 in
    let es = c.self.inside.surveys.entries in
    elim c.match-insert.branch [
      | in-Ok w ↦ rw w.result-is (λ h.
          let low = ap (λ (v : ContextsView). list_all (is_before itself n) v.items) c.self.view_is ∙ ap (λ (m : ℕ). list_all (is_before itself m) c.args.self.now.items) c.c.view_is ∙ h in
          ap (λ fs. keys_of fs) (w.in-Ok.ensures.entries ∙ more_entries itself (λ (e : ℕ × ℕ). e.0) (λ e. refl) n 0 es low) ∙ map-append (λ (e : ℕ × ℕ). e.0) es ((n, 0) ∷ [])
          ∙ ap (λ (v : ContextsView). v.items ++ n ∷ []) c.self.view_is ∙ ap (λ (m : ℕ). c.args.self.now.items ++ m ∷ []) c.c.view_is)
      | in-Err w ↦ rw w.result-is tt
    ]

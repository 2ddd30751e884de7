use Rattle.std.proofs.Common.{◌∙◌, ap, List, ℕ}
use Rattle.proto_survey.specs.Contexts.{ContextsView}
use Rattle.proto_survey.proofs.contexts.SurveyContexts.begin.Goals.{in-None, in-Some}
use Rattle.proto_survey.proofs.contexts.SurveyContexts.begin.Goals as goal

abbrev seen : List ℕ → ContextsView
seen ns = record { items = ns }

pub returns : goal.returns
returns c = elim c.match-get_mut.branch [
  | in-None w ↦ rw w.self-inside-is (rw c.get_mut.follows.holds-at-none c.self.view_is)
  | in-Some w ↦ rw w.self-inside-is (ap seen (c.get_mut.follows.holds c.args.id).1 ∙ c.self.view_is)
]

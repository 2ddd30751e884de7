use Rattle.std.proofs.Common.{◌≡◌, refl, true, false, rules, subst, sym, ◌∙◌}
use Rattle.std.specs.Prelude.{not, ◌||◌, ◌==◌}
use Rattle.proto_requests.proofs.TestValues.{zero_is, cooked_is}
use Rattle.proto_survey.proofs.SurveyorEnds.{does_is, open_is, state_is}
use Rattle.proto_survey.proofs.survey.SurveyProto.check.Goals.{else-self-via-then-self+else-c-ne0, else-self-via-else-self}
use Rattle.proto_survey.proofs.survey.SurveyProto.check.Goals as goal

pub returns-then-not-has : goal.returns-then-not-has
returns-then-not-has c =
    λ t l h act v.
    let m = c.args.self.now in
    let is : c.c.inside.0 ≡ c.args.c = search rules in
    let ok : ((c.args.c == 0) || not m.raw) ≡ true = elim c.else-self.branch [ else-self-via-then-self+else-c-ne0 w ↦ zero_is _ _ (subst (λ n. n ≡ 0) is w.if-c-ne0.false) | else-self-via-else-self w ↦ cooked_is _ _ w.if-self.false ] in
    (does_is m t c.args.c act true h ok, open_is m t c.args.c m.contexts.items false c.has.result h refl c.has.ensures c.if-not-has.true)

pub returns-then-lacks_survey : goal.returns-then-lacks_survey
returns-then-lacks_survey c =
    λ t l h act v.
    let m = c.args.self.now in
    let is : c.c.inside.0 ≡ c.args.c = search rules in
    let ok : ((c.args.c == 0) || not m.raw) ≡ true = elim c.else-self.branch [ else-self-via-then-self+else-c-ne0 w ↦ zero_is _ _ (subst (λ n. n ≡ 0) is w.if-c-ne0.false) | else-self-via-else-self w ↦ cooked_is _ _ w.if-self.false ] in (
      does_is m t c.args.c act true h ok,
      open_is m t c.args.c m.contexts.items true c.has.result h refl c.has.ensures c.if-not-has.false,
      state_is m t c.args.c act c.args.verb h v ∙ sym c.lacks_survey.ensures ∙ c.if-lacks_survey.true,
    )

pub returns : goal.returns
returns c =
    λ t l h act v.
    let m = c.args.self.now in
    let is : c.c.inside.0 ≡ c.args.c = search rules in
    let ok : ((c.args.c == 0) || not m.raw) ≡ true = elim c.else-self.branch [ else-self-via-then-self+else-c-ne0 w ↦ zero_is _ _ (subst (λ n. n ≡ 0) is w.if-c-ne0.false) | else-self-via-else-self w ↦ cooked_is _ _ w.if-self.false ] in (
      does_is m t c.args.c act true h ok,
      open_is m t c.args.c m.contexts.items true c.has.result h refl c.has.ensures c.if-not-has.false,
      state_is m t c.args.c act c.args.verb h v ∙ sym c.lacks_survey.ensures ∙ c.if-lacks_survey.false,
    )

use Rattle.std.proofs.Common.{ap, sym, ◌∙◌}
use Rattle.std.specs.Prelude.{is_some}
use Rattle.cat_play.specs.Scripts.{counts_for}
use Rattle.cat_rounds.specs.Lasting.{is_survey_over}
use Rattle.cat_rounds.specs.PlayerSteps.{counts_one}
use Rattle.cat_rounds.proofs.WhatCounts.{counts_is}
use Rattle.cat_rounds.proofs.player.Player.count.Goals as goal

pub returns-then-counts : goal.returns-then-counts
returns-then-counts c =
    let s = c.args.self.now.script in
    let b = is_survey_over c.args.self.now.last_send c.args.now in
    let is = counts_is s b c.args.last c.counts.result (λ r is. c.counts.ensures r is ∙ ap (λ d. counts_for s.role d c.is_survey_over-is_over.result r) c.is_some.ensures ∙ ap (λ o. counts_for s.role (is_some s.body) o r) c.is_survey_over-is_over.ensures) in
    c.one_less.ensures ∙ ap (λ x. counts_one x c.args.last c.args.self.now) (sym c.if-counts.true ∙ is)

pub returns-else-counts : goal.returns-else-counts
returns-else-counts c =
    let s = c.args.self.now.script in
    let b = is_survey_over c.args.self.now.last_send c.args.now in
    let is = counts_is s b c.args.last c.counts.result (λ r is. c.counts.ensures r is ∙ ap (λ d. counts_for s.role d c.is_survey_over-is_over.result r) c.is_some.ensures ∙ ap (λ o. counts_for s.role (is_some s.body) o r) c.is_survey_over-is_over.ensures) in
    ap (λ x. counts_one x c.args.last c.args.self.now) (sym c.if-counts.false ∙ is)

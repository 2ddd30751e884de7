use Rattle.std.proofs.Common.{◌≡◌, refl, sym, ◌∙◌, true, false}
use Rattle.std.specs.Prelude.{Bool, is_none, not, ◌&&◌, ◌||◌}
use Rattle.sp_history.specs.Setting.{floods}
use Rattle.cat_play.specs.Playing.{is_within}
use Rattle.cat_rounds.proofs.Pipes.{waits_is, rests_before}
use Rattle.cat_rounds.proofs.Surveying.{next_found}
use Rattle.cat_rounds.proofs.player.Player.begin.Goals.{then-waits_for_pipe, else-waits_for_pipe}
use Rattle.cat_rounds.proofs.player.Player.begin.Goals as goal

pub begin_recv-requires-clause-next : goal.begin_recv-requires-clause-next
begin_recv-requires-clause-next g c =
    sym (next_found c.args.single.now c.args.self.now c.args.now c.is_some.result c.is_survey_over-is_over.result c.receives_next.result c.requires.stands c.is_some.ensures c.is_survey_over-is_over.ensures c.receives_next.ensures) ∙ c.if-receives_next.true

pub begin_send-requires-clause-next : goal.begin_send-requires-clause-next
begin_send-requires-clause-next g c =
    sym (next_found c.args.single.now c.args.self.now c.args.now c.is_some.result c.is_survey_over-is_over.result c.receives_next.result c.requires.stands c.is_some.ensures c.is_survey_over-is_over.ensures c.receives_next.ensures) ∙ c.if-receives_next.false

pub begin_send-requires-clause-pipe : goal.begin_send-requires-clause-pipe
begin_send-requires-clause-pipe g c =
    let s = c.args.single.now in
    let p = c.args.self.now in
    let next = sym (next_found s p c.args.now c.is_some.result c.is_survey_over-is_over.result c.receives_next.result c.requires.stands c.is_some.ensures c.is_survey_over-is_over.ensures c.receives_next.ensures) ∙ c.if-receives_next.false in
    let none : c.waits_for_pipe.result ≡ false = elim c.if-waits_for_pipe.branch [ then-waits_for_pipe w ↦ let other = c.if-is_within_interval.false in let is = w.value-is in cc | else-waits_for_pipe w ↦ w.if-waits_for_pipe.false ] in
    waits_is c.args.has_pipe s p c.requires.stands.play c.requires.free next c.requires.pipes ∙ (sym c.waits_for_pipe.ensures ∙ none)

first_or : (a b : Bool) → a ≡ true → (a || b) ≡ true
first_or a b e = rw e refl

last_or : (a b : Bool) → b ≡ true → (a || b) ≡ true
last_or true b e = refl
last_or false b e = e

pub returns-then-is_within_interval-clause-rested : goal.returns-then-is_within_interval-clause-rested
returns-then-is_within_interval-clause-rested g c =
    let s = c.args.single.now in
    let p = c.args.self.now in
    let next = sym (next_found s p c.args.now c.is_some.result c.is_survey_over-is_over.result c.receives_next.result c.requires.stands c.is_some.ensures c.is_survey_over-is_over.ensures c.receives_next.ensures) ∙ c.if-receives_next.false in
    let either : (floods p.script.role && is_none p.last_send && not c.args.has_pipe || is_within p.script.interval p.last_send c.args.now) ≡ true = elim c.if-waits_for_pipe.branch [ then-waits_for_pipe w ↦ first_or _ _ (sym c.waits_for_pipe.ensures ∙ w.if-waits_for_pipe.true) | else-waits_for_pipe w ↦ last_or _ _ (sym w.is_within_interval.ensures ∙ (sym w.value-is ∙ c.if-is_within_interval.true)) ] in
    rests_before c.args.has_pipe s p c.args.now c.requires.stands c.requires.free next c.requires.pipes c.requires.left either

use Rattle.std.proofs.Common.{◌∙◌, refl}
use Rattle.sp_history.specs.declared.entry.Entry.TheVariants.{Out}
use Rattle.proto_shared.proofs.Copying.{lawful_before}
use Rattle.proto_survey.proofs.SurveyorEnds.{flood_ties}
use Rattle.proto_survey.proofs.survey.SurveyProto.flood.Goals as goal

pub returns-in-Some-clause-flooded : goal.returns-in-Some-clause-flooded
returns-in-Some-clause-flooded c =
    λ t s b l h k to.
    let was = c.args.self.now in
    let out = flood_ties was t c.args.p b h (record was { copies = c.pop.new.self }) c.args.op s c.in-Some.copy (lawful_before t (Out c.args.p b) l) k c.in-Some.ensures.items refl in
    (c.led.ensures ∙ out.0, out.1)

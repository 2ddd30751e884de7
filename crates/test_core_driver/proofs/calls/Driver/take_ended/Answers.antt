use Rattle.sp_core.proofs.Labels.{same_words}
use Rattle.test_core_driver.proofs.Driving.{plain_turn, taken_plain}
use Rattle.test_core_driver.proofs.calls.Driver.take_ended.Goals as goal

pub invariant_of-self : goal.invariant_of-self
invariant_of-self g c =
    let p = c.self.invariant in
    let i = c.self.inside in
    let t = c.take_ended.ensures.turn p.history p.stands in
    plain_turn g.P.Proto.ties g.P.Proto.room g.W.Wire.shown i.core c.take_ended.new.self i.seat i.other i.slots i.ops.items p t.0 t.2 (taken_plain g.W.Wire.shown c.take_ended.result _ p.history t.0 t.3) (same_words g.P.Proto.kind i.core c.take_ended.new.self c.take_ended.ensures.label)

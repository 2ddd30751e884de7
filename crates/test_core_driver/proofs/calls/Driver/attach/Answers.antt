use Rattle.sp_core.specs.Attaching.{attached}
use Rattle.sp_core.proofs.Labels.{same_words}
use Rattle.test_core_driver.proofs.Driving.{plain_turn, attached_plain}
use Rattle.test_core_driver.proofs.calls.Driver.attach.Goals as goal

pub invariant_of-self : goal.invariant_of-self
invariant_of-self g c =
    let p = c.self.invariant in
    let i = c.self.inside in
    let t = c.attach.ensures.turn.turn p.history p.stands in
    plain_turn g.P.Proto.ties g.P.Proto.room g.W.Wire.shown i.core c.attach.new.self i.seat i.other i.slots i.ops.items p t.0 t.2 (attached_plain (attached c.attach.result) _ p.history t.0 _ _ _ t.3) (same_words g.P.Proto.kind i.core c.attach.new.self c.attach.ensures.turn.label)

use Rattle.sp_core.proofs.Labels.{same_words}
use Rattle.test_core_driver.proofs.Driving.{plain_turn}
use Rattle.test_core_driver.proofs.Contexts.{unsubscribed_plain}
use Rattle.test_core_driver.proofs.calls.Driver.unsubscribe.Goals as goal

pub invariant_of-self : goal.invariant_of-self
invariant_of-self g c =
    let p = c.self.invariant in
    let i = c.self.inside in
    let t = c.unsubscribe.ensures.turn p.history p.stands in
    plain_turn g.P.Proto.ties g.P.Proto.room g.W.Wire.shown i.core c.unsubscribe.new.self i.seat i.other i.slots i.ops.items p t.0 t.2 (unsubscribed_plain c.unsubscribe.result _ p.history t.0 c.args.c c.args.topic.now t.3) (same_words g.P.Proto.kind i.core c.unsubscribe.new.self c.unsubscribe.ensures.label)

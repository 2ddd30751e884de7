use Rattle.sp_core.proofs.Labels.{same_words}
use Rattle.test_core_driver.proofs.Driving.{plain_turn}
use Rattle.test_core_driver.proofs.Contexts.{subscribed_plain}
use Rattle.test_core_driver.proofs.calls.Driver.subscribe.Goals as goal

pub invariant_of-self : goal.invariant_of-self
invariant_of-self g c =
    let p = c.self.invariant in
    let i = c.self.inside in
    let t = c.subscribe.ensures.turn p.history p.stands in
    plain_turn g.P.Proto.ties g.P.Proto.room g.W.Wire.shown i.core c.subscribe.new.self i.seat i.other i.slots i.ops.items p t.0 t.2 (subscribed_plain c.subscribe.result _ p.history t.0 c.args.c c.args.topic.now t.3) (same_words g.P.Proto.kind i.core c.subscribe.new.self c.subscribe.ensures.label)

use Rattle.sp_core.proofs.Labels.{same_words}
use Rattle.test_core_driver.proofs.Driving.{now_turn}
use Rattle.test_core_driver.proofs.calls.Driver.try_recv.Goals as goal

pub invariant_of-self : goal.invariant_of-self
invariant_of-self g c =
    let p = c.self.invariant in
    let i = c.self.inside in
    let t = c.try_recv.ensures.turn p.history p.stands in
    now_turn g.P.Proto.ties g.P.Proto.room g.W.Wire.shown i.core c.try_recv.new.self i.seat i.other i.slots i.ops.items p t.0 c.try_recv.result _ c.args.c t.2 t.3.0 (same_words g.P.Proto.kind i.core c.try_recv.new.self c.try_recv.ensures.label)

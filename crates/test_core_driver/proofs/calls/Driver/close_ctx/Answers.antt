use Rattle.sp_core.proofs.Labels.{same_words}
use Rattle.test_core_driver.proofs.Driving.{plain_turn}
use Rattle.test_core_driver.proofs.Contexts.{shut_plain}
use Rattle.test_core_driver.proofs.calls.Driver.close_ctx.Goals as goal

pub invariant_of-self : goal.invariant_of-self
invariant_of-self g c =
    let p = c.self.invariant in
    let i = c.self.inside in
    let t = c.close_ctx.ensures.turn p.history p.stands in
    plain_turn g.P.Proto.ties g.P.Proto.room g.W.Wire.shown i.core c.close_ctx.new.self i.seat i.other i.slots i.ops.items p t.0 t.2 (shut_plain c.close_ctx.result _ p.history t.0 c.args.c t.3) (same_words g.P.Proto.kind i.core c.close_ctx.new.self c.close_ctx.ensures.label)

use Rattle.sp_core.proofs.Labels.{same_words}
use Rattle.test_core_driver.proofs.Driving.{plain_turn, serving_plain}
use Rattle.test_core_driver.proofs.calls.Driver.serve_busy.Goals as goal

pub invariant_of-self : goal.invariant_of-self
invariant_of-self g c =
    let p = c.self.invariant in
    let i = c.self.inside in
    let t = c.serve_busy.ensures.turn p.history p.stands in
    plain_turn g.P.Proto.ties g.P.Proto.room g.W.Wire.shown i.core c.serve_busy.new.self i.seat i.other i.slots i.ops.items p t.0 t.2 (serving_plain t.0.entries t.3.2.kinds) (same_words g.P.Proto.kind i.core c.serve_busy.new.self c.serve_busy.ensures.label)

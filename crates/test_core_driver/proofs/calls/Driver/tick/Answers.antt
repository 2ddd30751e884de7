use Rattle.sp_core.proofs.Labels.{same_words}
use Rattle.test_core_driver.proofs.Driving.{plain_turn, due_plain}
use Rattle.test_core_driver.proofs.calls.Driver.tick.Goals as goal

pub invariant_of-self : goal.invariant_of-self
invariant_of-self g c =
    let p = c.self.invariant in
    let i = c.self.inside in
    let t = c.due.ensures.turn.turn p.history p.stands in
    plain_turn g.P.Proto.ties g.P.Proto.room g.W.Wire.shown i.core c.due.new.self i.seat i.other i.slots i.ops.items p t.0 t.2 (due_plain p.history t.0 _ _ _ t.3) (same_words g.P.Proto.kind i.core c.due.new.self c.due.ensures.turn.label)

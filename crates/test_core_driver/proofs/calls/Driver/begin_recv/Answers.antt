use Rattle.sp_core.proofs.Labels.{same_words}
use Rattle.test_core_driver.proofs.Driving.{plain_turn, begun_turn, settling_plain}
use Rattle.test_core_driver.proofs.calls.Driver.begin_recv.Goals as goal

pub invariant_of-self : goal.invariant_of-self
invariant_of-self g c =
    let p = c.self.invariant in
    let i = c.self.inside in
    let t = c.in-Err.ensures.turn.turn p.history p.stands in
    plain_turn g.P.Proto.ties g.P.Proto.room g.W.Wire.shown i.core c.begin_recv.new.self i.seat i.other i.slots i.ops.items p t.0 t.2 (settling_plain t.0.entries t.3.0.0) (same_words g.P.Proto.kind i.core c.begin_recv.new.self c.begin_recv.ensures.turn.label)

pub invariant_of-self-in-Ok : goal.invariant_of-self-in-Ok
invariant_of-self-in-Ok g c =
    let p = c.self.invariant in
    let i = c.self.inside in
    let t = c.in-Ok.ensures.turn.turn p.history p.stands in
    begun_turn g.P.Proto.ties g.P.Proto.room g.W.Wire.shown i.core c.begin_recv.new.self i.seat i.other i.slots i.ops.items c.push_back_reserved.new.self.items p t.0 c.in-Ok.op _ _ _ t.2 t.3.0 (same_words g.P.Proto.kind i.core c.begin_recv.new.self c.begin_recv.ensures.turn.label) c.push_back_reserved.ensures.items

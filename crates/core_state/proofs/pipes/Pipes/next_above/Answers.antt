use Rattle.std.proofs.Common.{arith}
use Rattle.core_state.proofs.PipesInOrder.{found_above, none_above}
use Rattle.core_state.proofs.pipes.Pipes.next_above.Goals as goal

pub returns-then-is_up_above : goal.returns-then-is_up_above
returns-then-is_up_above g c = λ t lawful h.
    found_above g.W.Wire.shown c.args.self.now t c.loop-i.i c.args.p c.index-x.result.now h (omega (arith, c.loop-i-test.true, c.len.ensures, c.args.self.now.places.ok.0)) c.index-x.ensures (c.is_up_above.ensures.wire c.if-is_up_above.true) (c.is_up_above.ensures.above c.if-is_up_above.true) c.loop-i.invariant

pub returns : goal.returns
returns g c = λ t lawful h. none_above g.W.Wire.shown c.args.self.now t c.loop-i.i c.args.p h (omega (arith, c.loop-i-test.false, c.len.ensures, c.args.self.now.places.ok.0)) c.loop-i.invariant

use Rattle.std.proofs.Common.{arith, ◌≤◌}
use Rattle.core_state.proofs.PipesInOrder.{places_rise, number_to}
use Rattle.core_state.proofs.pipes.Pipes.first_behind.Goals as goal

pub returns-then-index-p : goal.returns-then-index-p
returns-then-index-p g c = λ t h j x less at.
    let xs = c.args.self.now.places.items in
    let low : c.index.result.now.id ≤ c.args.p = grind (arith, c.if-index-p.true, c.p.view_is) in
    let least : x.id ≤ c.index.result.now.id = number_to xs j c.args.from x c.index.result.now (places_rise g.W.Wire.shown c.args.self.now t h) (omega (arith, less)) (omega (arith, c.if-from-len.true, c.len.ensures, c.args.self.now.places.ok.0)) at c.index.ensures in
    omega (arith, low, least)

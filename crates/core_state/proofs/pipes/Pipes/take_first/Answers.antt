use Rattle.std.proofs.Common.{ap, ◌∙◌}
use Rattle.std.specs.VecDeque.{deque_capacity}
use Rattle.core_state.proofs.TakenPipes.{taken_from}
use Rattle.core_state.proofs.pipes.Pipes.take_first.Goals as goal

pub returns : goal.returns
returns g c = λ t lawful h.
    taken_from g.W.Wire.shown c.args.self.now c.pack.new.self t c.in-Some.first c.pop_front.new.self.items lawful h c.in-Some.ensures.items (ap (λ (d : _). d.items) c.pack.ensures.down) c.pack.ensures.up c.pack.ensures.in_order c.pack.ensures.limits c.pack.ensures.count (ap deque_capacity c.pack.ensures.down ∙ c.pop_front.ensures.capacity) c.pack.ensures.listed

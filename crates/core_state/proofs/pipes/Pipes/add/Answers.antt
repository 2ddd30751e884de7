use Rattle.std.proofs.Common.{refl}
use Rattle.core_state.proofs.NewPipes.{came_up}
use Rattle.core_state.proofs.pipes.Pipes.add.Goals as goal

pub returns : goal.returns
returns g c = λ t place lawful h is unused.
    came_up g.W.Wire.shown c.args.self.now _ t c.args.id place c.args.limit c.args.wire lawful h c.requires is unused c.push_back_reserved.ensures.items refl refl refl

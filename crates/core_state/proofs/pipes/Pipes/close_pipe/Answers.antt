use Rattle.core_state.proofs.PipeSteps.{room_below, has_place, close_pipe}
use Rattle.core_state.proofs.pipes.Pipes.close_pipe.Goals as goal

pub take_down-requires-clause-there : goal.take_down-requires-clause-there
take_down-requires-clause-there g c = let r = c.requires in has_place g.W.Wire.shown c.args.self.now r.0 c.args.i r.1 r.2 r.3

pub take_down-requires-clause-room : goal.take_down-requires-clause-room
take_down-requires-clause-room g c = let r = c.requires in room_below g.W.Wire.shown c.args.self.now r.0 c.args.i r.1 r.2 r.3

pub returns : goal.returns
returns g c = λ t p lawful h there.
    close_pipe g.W.Wire.shown c.args.self.now c.take_down.new.self t c.args.i p lawful h there c.take_down.ensures.empties

use Rattle.cat_rounds.proofs.Faultless.{step_faultless}
use Rattle.cat_rounds.proofs.player.Player.step.Goals as goal

pub begin-requires-clause-pipes : goal.begin-requires-clause-pipes
begin-requires-clause-pipes g c = c.collect.ensures.pipes c.args.has_pipe c.requires.pipes

pub returns-in-Free-clause-sinks : goal.returns-in-Free-clause-sinks
returns-in-Free-clause-sinks g c = step_faultless c.begin.result (g.S.Sink.seen c.args.out.now) (g.S.Sink.seen c.collect.new.out) c.begin.ensures.fault c.in-Free.ensures.sinks

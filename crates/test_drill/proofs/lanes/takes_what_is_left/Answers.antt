use Rattle.test_drill.proofs.Telling.{has_left}
use Rattle.test_drill.proofs.lanes.takes_what_is_left.Goals as goal
use Rattle.test_drill.proofs.lanes.takes_what_is_left.Goals.{in-Message, in-End, in-Empty}

pub returns : goal.returns
returns g c = elim c.match-take.branch [
  | in-Message w ↦ w.result-is
  | in-End w ↦ w.result-is
  | in-Empty w ↦ absurd (has_left c.args.output.now c.tell.new.output c.args.input.now.put c.tell.ensures.output c.requires.left w.in-Empty.ensures.1)
]

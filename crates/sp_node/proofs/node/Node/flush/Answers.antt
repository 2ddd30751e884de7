use Rattle.sp_node.proofs.Steps.{goes_same, goes_then}
use Rattle.sp_node.proofs.node.Node.flush.Goals as goal

pub rounds-init : goal.rounds-init
rounds-init g c = record { goes_on = goes_same c.args.self.now }

pub rounds-preserved : goal.rounds-preserved
rounds-preserved g c =
    let old = c.args.self.now in
    let at_serve = c.is_flushed.new.self in
    record { goes_on = goes_then old at_serve c.goes_round.new.self (goes_then old c.rounds.self at_serve c.rounds.invariant.goes_on c.is_flushed.ensures.goes_on) c.goes_round.ensures.goes_on }

use Rattle.std.proofs.Common.{◌==◌, inr}
use Rattle.sp_node.proofs.Steps.{flushes_later}
use Rattle.sp_node.proofs.node.Node.turn_at.Goals as goal

pub returns-then-not-is_closed-clause-serves : goal.returns-then-not-is_closed-clause-serves
returns-then-not-is_closed-clause-serves g c =
    let clear = c.serve.result.waiting == 0 in
    inr (clear, flushes_later clear c.args.self.now.single c.tick_and_turn.new.self.single c.serve.new.self.single c.tick_and_turn.ensures.goes_on.later c.serve.ensures.flushes)

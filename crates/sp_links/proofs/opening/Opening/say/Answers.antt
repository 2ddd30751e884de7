use Rattle.sp_links.proofs.Loops.{says_next}
use Rattle.sp_links.proofs.opening.Opening.say.Goals as goal

pub writes-preserved : goal.writes-preserved
writes-preserved g c = says_next g.L.Link.seen c.args.self.now c.writes.self c.write.new.self c.in-Took.n c.as_slice-in-writes.result.now c.writes.invariant c.as_slice-in-writes.ensures c.in-Took.ensures

use Rattle.sp_tcp.proofs.Writes.{wrote_none, wrote_more, writes_fall}
use Rattle.sp_tcp.proofs.outlet.write_from.Goals as goal

pub writes-init : goal.writes-init
writes-init g c = (wrote_none c.args.mark.now c.args.outlet.now (g.L.Link.seen c.args.link.now), c.requires.within)

pub writes-smaller : goal.writes-smaller
writes-smaller g c = writes_fall c.args.mark.now c.writes.outlet c.write_once.new.self (g.L.Link.seen c.writes.link) (g.L.Link.seen c.write_once.new.link) c.writes.invariant.1 c.in-Took.ensures.0 c.in-Took.ensures.1.0 c.in-Took.ensures.1.1

pub writes-preserved : goal.writes-preserved
writes-preserved g c = (wrote_more c.args.mark.now c.args.outlet.now c.writes.outlet c.write_once.new.self (g.L.Link.seen c.args.link.now) (g.L.Link.seen c.writes.link) (g.L.Link.seen c.write_once.new.link) c.writes.invariant.0 c.in-Took.ensures.1.0, c.in-Took.ensures.0)

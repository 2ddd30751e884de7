use Rattle.std.proofs.Common.{arith}
use Rattle.sp_tcp.proofs.Gathers.{gather_first, gather_more, gather_all}
use Rattle.sp_tcp.proofs.outlet.gather.Goals as goal

pub gathers-init : goal.gathers-init
gathers-init c = gather_first c.args.mark.now c.args.stage.now c.clear.new.self c.args.waiting.now.items c.args.sent c.clear.ensures

pub gathers-preserved : goal.gathers-preserved
gathers-preserved c = gather_more c.args.mark.now c.clear.new.self c.gathers.stage c.add_marked-skip.new.stage c.args.waiting.now.items c.index.result.now c.gathers.i c.args.sent c.gathers.skip c.add_marked-skip.result (omega (arith, c.gathers-test.true, c.len-i-end.ensures)) c.index.ensures c.gathers.invariant.0 c.gathers.invariant.1 c.add_marked-skip.ensures.bytes c.add_marked-skip.ensures.skip

pub returns : goal.returns
returns c = gather_all c.args.mark.now c.args.stage.now c.clear.new.self c.gathers.stage c.args.waiting.now.items c.gathers.i c.args.sent c.clear.ensures (omega (arith, c.gathers-test.false, c.len-i-end.ensures)) c.gathers.invariant.0

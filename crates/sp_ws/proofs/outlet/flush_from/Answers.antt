use Rattle.std.proofs.Common.{arith}
use Rattle.sp_ws.proofs.Outlets.{flush_gave, flush_wrote, flush_empty}
use Rattle.sp_msg.specs.declared.wire.WireFlush.TheVariants as flushes
use Rattle.sp_ws.proofs.outlet.flush_from.Goals as goal

pub returns-in-Refused : goal.returns-in-Refused
returns-in-Refused g c = absurd c.in-Refused.ensures.all

pub returns-then-len-eq0 : goal.returns-then-len-eq0
returns-then-len-eq0 g c = flush_empty c.write-ended.result c.args.outlet.now c.give.new.self c.write-ended.new.self c.args.frames.now c.give.new.frames c.write-ended.new.frames _ _ c.in-Done.ensures.gave c.in-Done.ensures.all.1 c.write-ended.ensures.wrote c.write-ended.ensures.all (omega (arith, c.len.ensures.count, c.if-len-eq0.true))

pub returns-in-NoMemory : goal.returns-in-NoMemory
returns-in-NoMemory g c = flush_gave flushes.NoMemory c.args.outlet.now c.give.new.self c.args.frames.now c.give.new.frames _ c.requires.within c.in-NoMemory.ensures.gave (omega (arith, c.in-NoMemory.ensures.all.0), c.in-NoMemory.ensures.all.1)

pub returns : goal.returns
returns g c =
    flush_wrote c.write-ended.result c.args.outlet.now c.give.new.self c.write-ended.new.self c.args.frames.now c.give.new.frames c.write-ended.new.frames _ _ c.requires.within c.in-Done.ensures.gave c.in-Done.ensures.all.0 c.in-Done.ensures.all.1 c.write-ended.ensures.wrote c.write-ended.ensures.all (omega (arith, c.len.ensures.count, c.if-len-eq0.false))

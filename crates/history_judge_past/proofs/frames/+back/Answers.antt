use Rattle.std.proofs.Common.{refl}
use Rattle.history_judge_past.proofs.Reading.{back_found, back_further}
use Rattle.history_judge_past.proofs.frames.+back.Goals as goal

pub returns-then-b-ge128 : goal.returns-then-b-ge128
returns-then-b-ge128 t c = rw (← back_found c.args.hops c.args.b.now c.if-hops-eq0.false c.if-b-lt4.false c.if-b-ge128.true) c.found.ensures

pub returns : goal.returns
returns t c =
    rw (← back_further c.args.hops _ c.args.b.now c.in_ok-further.further c.if-hops-eq0.false refl c.if-b-lt4.false c.if-b-ge128.false c.in_ok-further.ensures) c.behind.ensures

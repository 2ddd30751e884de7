use Rattle.std.proofs.Common.{arith}
use Rattle.sp_tcp.proofs.Showing.{shown_as}
use Rattle.sp_tcp.proofs.reader.Reader.front.Goals as goal

pub returns-clause-shown : goal.returns-clause-shown
returns-clause-shown c = shown_as c.args.max c.args.self.now c.split.result (omega (arith, c.ranges.max.fits)) c.split.ensures

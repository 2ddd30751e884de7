use Rattle.std.proofs.Common.{ap, length, arith}
use Rattle.std.proofs.lemmas.List.{length-append}
use Rattle.sp_base.specs.SpTcp.{frame}
use Rattle.sp_base.proofs.Shows.{length-frame}
use Rattle.test_wire.proofs.tests.plainly.Goals as goal

pub pass-requires : goal.pass-requires
pass-requires g c = omega (arith, ap length c.in-Message.ensures.front.1.1, length-append (frame c.in-Message.body.now) c.in-Message.ensures.front.1.0, length-frame c.in-Message.body.now)

use Rattle.std.proofs.Common.{refl}
use Rattle.sp_links.proofs.Loops.{hears_all}
use Rattle.sp_links.proofs.opening.Opening.hear.Goals as goal

pub returns-in-Whole-clause-heard : goal.returns-in-Whole-clause-heard
returns-in-Whole-clause-heard g c = hears_all g.L.Link.seen c.args.self.now c.reads.self c.read.new.self c.in-Got.n c.read.new.buf _ c.reads.invariant.0 c.in-Got.ensures refl c.take_in.new.self c.in-Whole.ensures

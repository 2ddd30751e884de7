use Rattle.std.proofs.Common.{refl}
use Rattle.test_node.proofs.ReturnedLinks.{newest}
use Rattle.test_node.proofs.slow.SlowNetNet.give_back.Goals as goal

pub returns : goal.returns
returns c = record { back = newest c.args.self.now.back c.args.link; listens = refl; opened = refl; faults = refl; idles = refl }

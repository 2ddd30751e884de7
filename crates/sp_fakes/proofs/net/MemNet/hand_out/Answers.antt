use Rattle.std.specs.Prelude.{Some}
use Rattle.sp_fakes.proofs.net.MemNet.hand_out.Goals as goal

pub returns-in_default-clause-linked : goal.returns-in_default-clause-linked
returns-in_default-clause-linked c = c.idle.ensures.none (Some c.args.scheme)

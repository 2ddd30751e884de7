use Rattle.std.proofs.Common.{[]}
use Rattle.sp_fakes.proofs.Listening.{as_many}
use Rattle.sp_fakes.proofs.net.MemNet.new.Goals as goal

pub returns-clause-listened : goal.returns-clause-listened
returns-clause-listened c = as_many [] c.new.result.schemes.items c.new.ensures

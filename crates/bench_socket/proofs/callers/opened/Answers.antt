use Rattle.std.proofs.Common.{sym}
use Rattle.sp_proto.specs.Kinds.{setting_of}
use Rattle.bench_socket.proofs.Lending.{none_out}
use Rattle.bench_socket.proofs.callers.opened.Goals as goal

pub returns-in-Ok-clause-lent : goal.returns-in-Ok-clause-lent
returns-in-Ok-clause-lent g c = let o = c.in-Ok.ensures.ok in none_out c.in-Ok.made.0 c.in-Ok.made.1 (setting_of (g.P.Proto.kind c.args.proto) 16 4) o.1 (sym o.2) (sym o.3)

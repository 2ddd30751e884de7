use Rattle.std.proofs.Common.{sym}
use Rattle.sp_proto.specs.Kinds.{setting_of}
use Rattle.test_socket.proofs.SocketCallers.{list_made}
use Rattle.test_socket.proofs.callers.opened.Goals as goal

pub returns-in-Ok : goal.returns-in-Ok
returns-in-Ok g c = let o = c.in-Ok.ensures.ok in list_made c.in-Ok.made.0 c.in-Ok.made.1 (setting_of (g.P.Proto.kind c.args.proto) c.args.slots c.args.callers) o.1 (sym o.2) (sym o.3)

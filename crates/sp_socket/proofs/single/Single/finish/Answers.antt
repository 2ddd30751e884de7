use Rattle.std.proofs.Common.{refl}
use Rattle.sp_socket.proofs.SocketLife.{finished}
use Rattle.sp_socket.proofs.single.Single.finish.Goals as goal

pub returns : goal.returns
returns g c =
    let i = c.self.inside in
    let f = c.finish-wires in
    let r = f.ensures in
    finished g.W.Wire.shown i.socket i.passes i.pass c.args.self f.result.record_.turns f.result.wires r.0 c.give.new.self.items c.self.view_is c.self.invariant c.give.ensures.pass r.1 r.2

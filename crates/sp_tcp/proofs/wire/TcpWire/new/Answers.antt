use Rattle.std.proofs.Common.{sym, subst, arith}
use Rattle.sp_tcp.specs.TcpWires.{IsNewWire}
use Rattle.sp_tcp.proofs.Fresh.{new_holds, new_wire}
use Rattle.sp_tcp.proofs.wire.TcpWire.new.Goals as goal

pub made-requires : goal.made-requires
made-requires g c = λ κs within. (within, new_holds c.args.framing (g.L.Link.seen c.args.link) c.args.rest.now c.in-Ok.inlet.unread c.in-Ok-new.outlet c.args.max (omega (arith, c.ranges.max)) c.requires.is_open c.requires.met c.requires.framed c.in-Ok.ensures c.in-Ok-new.ensures)

pub returns : goal.returns
returns g c =
    let l = g.L.Link.seen c.args.link in
    subst (IsNewWire c.args.framing c.args.max l) (sym c.made.ensures)
    (new_wire c.args.framing l c.args.rest.now c.in-Ok.inlet.unread c.in-Ok-new.outlet c.args.max (omega (arith, c.ranges.max)) c.requires.is_open c.requires.met c.requires.framed c.in-Ok.ensures c.in-Ok-new.ensures)

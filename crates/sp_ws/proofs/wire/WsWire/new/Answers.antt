use Rattle.std.proofs.Common.{sym, ap, subst}
use Rattle.sp_ws.specs.Views.{FramesView, HasLimits}
use Rattle.sp_ws.specs.Wires.{IsNewWire}
use Rattle.sp_ws.proofs.Wires.{new_frames, new_holds, new_wire}
use Rattle.sp_ws.proofs.wire.WsWire.new.Goals as goal

pub made-requires : goal.made-requires
made-requires g c =
    let l = g.L.Link.seen c.args.link in
    let f = new_frames c.new-frames.result c.feed.new.self c.args.side c.args.rest.now c.new-frames.ensures.fresh c.in-Ok-feed.ensures in
    λ κs within. (within, (new_holds l c.feed.new.self c.in-Ok.outlet c.args.max c.args.side c.args.rest.now c.requires f c.in-Ok.ensures, c.in-Ok-read_room.ensures))

pub returns : goal.returns
returns g c =
    let l = g.L.Link.seen c.args.link in
    let f = new_frames c.new-frames.result c.feed.new.self c.args.side c.args.rest.now c.new-frames.ensures.fresh c.in-Ok-feed.ensures in
    let limits = subst (HasLimits c.args.max) (sym (ap (λ (v : FramesView). v.config) c.in-Ok-feed.ensures)) c.new-frames.ensures.limits in
    subst (IsNewWire c.args.side c.args.max c.args.rest.now l) (sym c.made.ensures) (new_wire l c.feed.new.self c.in-Ok.outlet c.args.max c.args.side c.args.rest.now c.requires f c.in-Ok.ensures limits)

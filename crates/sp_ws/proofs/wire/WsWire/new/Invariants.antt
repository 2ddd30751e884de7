use Rattle.std.proofs.Common.{◌+◌}
use Rattle.sp_ws.proofs.wire.WsWire.new.Given as goal

abbrev pub ghost-made : goal.ghost-made
ghost-made g a = (g.L.Link.seen a.link).idles + (g.L.Link.seen a.link).stalls

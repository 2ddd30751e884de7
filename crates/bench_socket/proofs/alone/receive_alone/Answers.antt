use Rattle.sp_core.proofs.Labels.{same_words}
use Rattle.bench_socket.proofs.OneCallerCores.{stays}
use Rattle.bench_socket.proofs.alone.receive_alone.Goals as goal

pub returns : goal.returns
returns g c =
    let p = c.requires in
    let t = c.try_recv.ensures.turn p.history p.stands in
    stays g.P.Proto.ties g.P.Proto.room g.W.Wire.shown c.args.core.now c.try_recv.new.self p t.0 t.2 (same_words g.P.Proto.kind c.args.core.now c.try_recv.new.self c.try_recv.ensures.label)

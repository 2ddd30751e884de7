use Rattle.std.proofs.Common.{[], ◌∷◌, ◌++◌}
use Rattle.sp_core.specs.Standing.{core_setting}
use Rattle.sp_socket.proofs.Acting.{legal_of}
use Rattle.sp_socket.proofs.Immediately.{leaves_received}
use Rattle.sp_socket.proofs.turn_calls.TryRecvCoreCall.act.Goals as goal

pub returns-clause-turn : goal.returns-clause-turn
returns-clause-turn g c = λ h s.
    let a = c.try_recv.ensures.turn h s in
    let l = legal_of g.P.Proto.ties g.P.Proto.room g.W.Wire.shown g.P.Proto.kind g.met.P.Proto.kinds c.try_recv.new.self (h ++ a.0 ∷ []) a.2 in
    (a.0, a.1, a.2, (leaves_received c.try_recv.result (core_setting g.P.Proto.kind c.args.core.now) (core_setting g.P.Proto.kind c.try_recv.new.self) h a.0 c.args.k c.args.self.c l.0 a.3.0, a.3.0))

use Rattle.test_socket.proofs.SocketCallers.{stays}
use Rattle.sp_socket.proofs.Waits.{still_of}
use Rattle.test_socket.proofs.callers.Caller.misses.Goals as goal

pub missed-requires : goal.missed-requires
missed-requires g c = record { own = still_of c.args.socket.now c.args.self.now.pass c.met.new.pass c.met.ensures.pass.same c.requires.own }

pub returns : goal.returns
returns g c =
    let p = c.args.self.now.pass in
    let q = c.met.new.pass in
    let ops = c.args.self.now.ops.items in
    stays c.args.socket.now q c.missed.new.pass ops c.missed.ensures.pass (stays c.args.socket.now p q ops c.met.ensures.pass c.requires)

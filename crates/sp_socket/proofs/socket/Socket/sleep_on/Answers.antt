use Rattle.sp_socket.proofs.Waits.{no_look}
use Rattle.sp_socket.proofs.socket.Socket.sleep_on.Goals as goal

pub loop-init : goal.loop-init
loop-init g c = record { looked = no_look c.args.pass.now }

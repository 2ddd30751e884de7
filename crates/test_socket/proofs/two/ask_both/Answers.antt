use Rattle.sp_socket.proofs.Waits.{still_of}
use Rattle.test_socket.proofs.two.ask_both.Goals as goal

pub ask-requires : goal.ask-requires
ask-requires g c = still_of c.args.socket.now c.args.pass.now c.open_ctx.new.pass c.open_ctx.ensures.pass.same c.requires

pub reply-second-requires : goal.reply-second-requires
reply-second-requires g c = still_of c.args.socket.now c.ask-2.new.pass c.serve.new.pass c.serve.ensures.pass.same c.ask-2.ensures

use Rattle.sp_ws.proofs.Bytes.{behind}
use Rattle.sp_ws.proofs.memory.Memory.has_behind.Goals as goal

pub returns-then-n-unread : goal.returns-then-n-unread
returns-then-n-unread c = λ e. behind c.args.self.now.fed.items c.deref.result.now c.args.b.now c.args.self.now.at c.args.n c.deref.ensures.value c.if-n-unread.true (c.is_same.ensures.0 e)

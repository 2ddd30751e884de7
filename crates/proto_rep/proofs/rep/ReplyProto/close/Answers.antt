use Rattle.std.proofs.Common.{refl}
use Rattle.proto_rep.specs.declared.rep.Reply.{Reply}
use Rattle.proto_rep.proofs.Replied.{closed_ties}
use Rattle.proto_rep.proofs.rep.ReplyProto.close.Goals as goal

pub returns-clause-closed : goal.returns-clause-closed
returns-clause-closed c =
    λ t totals l h.
    let was = c.args.self.now in
    let is : Reply = record { alloc = was.alloc; role = was.role; raw = was.raw; options = was.options; ports = was.ports; kept = c.clear.new.self; waiting = was.waiting; places = c.forget_all.new.self } in
    closed_ties was is t totals h c.clear.ensures c.forget_all.ensures.ctxs c.forget_all.ensures.stored refl refl (refl, refl, refl)

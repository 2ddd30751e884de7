use Rattle.std.proofs.Common.{refl}
use Rattle.proto_rep.specs.declared.rep.Reply.{Reply}
use Rattle.proto_rep.proofs.Replied.{shut_ties}
use Rattle.proto_rep.proofs.rep.ReplyProto.close_ctx.Goals as goal

pub returns-clause-shut : goal.returns-clause-shut
returns-clause-shut c =
    λ t l h.
    let was = c.args.self.now in
    let is : Reply = record { alloc = was.alloc; role = was.role; raw = was.raw; options = was.options; ports = was.ports; kept = was.kept; waiting = was.waiting; places = c.close.new.self } in
    shut_ties was is t c.args.c l h c.close.ensures refl refl refl (refl, refl, refl)

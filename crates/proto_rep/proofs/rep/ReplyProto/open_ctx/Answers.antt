use Rattle.std.proofs.Common.{refl}
use Rattle.std.proofs.lemmas.Result.{on_ok_weaker}
use Rattle.proto_rep.specs.declared.rep.Reply.{Reply}
use Rattle.proto_rep.proofs.Replied.{opened_before, opened_ties}
use Rattle.proto_rep.proofs.rep.ReplyProto.open_ctx.Goals as goal

pub returns-clause-opened : goal.returns-clause-opened
returns-clause-opened c =
    on_ok_weaker c.open.result (λ opened t l h.
    let was = c.args.self.now in
    let is : Reply = record { alloc = was.alloc; role = was.role; raw = was.raw; options = was.options; ports = was.ports; kept = was.kept; waiting = was.waiting; places = c.open.new.self } in
    opened_ties was is t c.args.c h (opened (opened_before was t c.args.c l h)) refl refl refl (refl, refl, refl)) c.open.ensures.more

use Rattle.std.proofs.Common.{refl}
use Rattle.proto_rep.specs.declared.rep.Reply.{Reply}
use Rattle.proto_rep.proofs.Replied.{fresh_ties}
use Rattle.proto_rep.proofs.rep.ReplyProto.fresh.Goals as goal

pub returns-clause-fresh : goal.returns-clause-fresh
returns-clause-fresh c =
    λ t caller l h.
    let was = c.args.self.now in
    let is : Reply = record { alloc = was.alloc; role = was.role; raw = was.raw; options = was.options; ports = c.clear.new.self; kept = was.kept; waiting = c.pass_none.new.self; places = was.places } in
    fresh_ties was is t caller h c.clear.ensures refl c.pass_none.ensures.same c.pass_none.ensures.passed refl (refl, refl, refl)

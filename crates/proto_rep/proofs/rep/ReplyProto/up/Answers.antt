use Rattle.std.proofs.Common.{refl}
use Rattle.proto_rep.specs.declared.rep.Reply.{Reply}
use Rattle.proto_rep.proofs.Replied.{up_below, up_ties}
use Rattle.proto_rep.proofs.rep.ReplyProto.up.Goals as goal

pub returns-in-Ok-clause-up : goal.returns-in-Ok-clause-up
returns-in-Ok-clause-up c =
    λ t place limit name calm l h.
    let was = c.args.self.now in
    let is : Reply = record { alloc = was.alloc; role = was.role; raw = was.raw; options = was.options; ports = c.push.new.self; kept = was.kept; waiting = was.waiting; places = was.places } in
    up_ties was is t c.args.p place limit name l h (c.in-Ok.ensures.more (up_below was t c.args.p place limit name l h)) refl refl refl (refl, refl, refl)

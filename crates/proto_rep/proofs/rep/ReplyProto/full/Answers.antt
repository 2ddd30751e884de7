use Rattle.std.proofs.Common.{refl, ◌<◌, arith}
use Rattle.proto_rep.specs.declared.rep.Reply.{Reply}
use Rattle.proto_requests.specs.Ports.{free_count}
use Rattle.proto_rep.proofs.Replied.{full_ties}
use Rattle.proto_requests.proofs.KnownPipes.{full_free}
use Rattle.proto_rep.proofs.rep.ReplyProto.full.Goals as goal

pub returns-clause-full : goal.returns-clause-full
returns-clause-full c =
    λ t l h.
    let was = c.args.self.now in
    let is : Reply = record { alloc = was.alloc; role = was.role; raw = was.raw; options = was.options; ports = c.mark.new.self; kept = was.kept; waiting = was.waiting; places = was.places } in
    full_ties was is t c.args.p l h c.mark.ensures refl refl refl (refl, refl, refl)

pub returns-clause-left : goal.returns-clause-left
returns-clause-left c =
    λ t op s b l h k.
    let was = c.args.self.now in
    let less : free_count c.mark.new.self.items < free_count was.ports.items = full_free c.mark.new.self.items was.ports.items t c.args.p h.pipes c.mark.ensures k.not_full k.is_up in
    omega (arith, less)

use Rattle.std.proofs.Common.{refl, subst, find, inl, inr}
use Rattle.sp_base.specs.declared.OpName.{OpName}
use Rattle.sp_proto.specs.Kinds.{text_of}
use Rattle.sp_proto.specs.Machines.{CanGive}
use Rattle.proto_rep.specs.Operations.{is_receive, begun_of}
use Rattle.proto_rep.proofs.FirstElements.{some_first, is_empty, not_empty}
use Rattle.proto_requests.proofs.Spotted.{mapped, unmapped}
use Rattle.proto_rep.proofs.Offered.{can_give, sends_right}
use Rattle.proto_rep.proofs.Replied.{waiting_ties}
use Rattle.proto_rep.specs.declared.rep.Reply.{Reply}
use Rattle.proto_rep.proofs.rep.ReplyProto.offer.Goals.{then-not-is_empty+in-None, else-not-is_empty}
use Rattle.proto_rep.proofs.rep.ReplyProto.offer.Goals as goal

pub returns-in-Some-clause-offered : goal.returns-in-Some-clause-offered
returns-in-Some-clause-offered c =
    λ t l q h.
    let m = c.args.self.now in
    let ks = some_first m.kept.items (not_empty _ m.kept.items _ refl c.is_empty.ensures c.if-not-is_empty.true) in
    let w = mapped _ (find is_receive h.waits) c.in-Some.op (c.in-Some.ensures h.waits h.holds) in
    (begun_of w.0, text_of ks.0.message, subst (λ (op : OpName). CanGive t op (begun_of w.0) (text_of ks.0.message)) w.2 (can_give m t ks.0 ks.1 w.0 h ks.2 w.1))

pub returns-clause-offered : goal.returns-clause-offered
returns-clause-offered c =
    λ t l q h.
    let m = c.args.self.now in
    elim c.if-not-is_empty.branch [
      | then-not-is_empty+in-None w ↦ sends_right m t c.next_reply.result q h (inr (unmapped _ (find is_receive h.waits) (w.in-None.ensures h.waits h.holds))) (c.next_reply.ensures.offer h.waits h.holds h.stuck)
      | else-not-is_empty w ↦ sends_right m t c.next_reply.result q h (inl (is_empty _ m.kept.items _ refl c.is_empty.ensures w.if-not-is_empty.false)) (c.next_reply.ensures.offer h.waits h.holds h.stuck)
    ]

pub returns-clause-same : goal.returns-clause-same
returns-clause-same c =
    λ t h.
    let was = c.args.self.now in
    let is : Reply = record { alloc = was.alloc; role = was.role; raw = was.raw; options = was.options; ports = was.ports; kept = was.kept; waiting = c.next_reply.new.self; places = was.places } in
    waiting_ties was is t h c.next_reply.ensures.same c.next_reply.ensures.stuck refl refl refl (refl, refl, refl)

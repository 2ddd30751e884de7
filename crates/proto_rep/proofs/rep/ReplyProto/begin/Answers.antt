use Rattle.std.proofs.Common.{refl}
use Rattle.sp_proto.specs.Kinds.{entry_act}
use Rattle.proto_rep.specs.declared.rep.Reply.{Reply}
use Rattle.proto_rep.specs.declared.operations.ReplyOperation.{ReplyOperation}
use Rattle.proto_rep.proofs.Replied.{begun_ties}
use Rattle.proto_rep.proofs.rep.ReplyProto.begin.Goals as goal

pub returns-clause-begun : goal.returns-clause-begun
returns-clause-begun c =
    λ t deadline n l h.
    let was = c.args.self.now in
    let w : ReplyOperation = record { op = c.args.op; ctx = c.args.c; answer = c.answer_of-answer.result } in
    let is : Reply = record { alloc = was.alloc; role = was.role; raw = was.raw; options = was.options; ports = was.ports; kept = was.kept; waiting = c.push.new.self; places = c.unstore-source.new.self } in
    begun_ties
    was
    is
    t
    w
    (entry_act c.args.act)
    c.unstore-source.result
    deadline
    l
    h
    c.answer_of-answer.ensures.act
    c.answer_of-answer.ensures.source
    c.unstore-source.ensures.result
    c.unstore-source.ensures.stored
    c.unstore-source.ensures.ctxs
    (c.push.ensures.more h.waits h.holds)
    c.push.ensures.passed
    refl
    refl
    (refl, refl, refl)

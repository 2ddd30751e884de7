use Rattle.std.proofs.Common.{◌≡◌, ◌≤◌, ◌+◌, refl, arith, rules}
use Rattle.std.specs.VecDeque.{deque_len, deque_capacity}
use Rattle.proto_pipeline.specs.declared.pull.Pull.{Pull}
use Rattle.proto_pipeline.proofs.PullStands.{up_ties}
use Rattle.proto_pipeline.proofs.pull.PullProto.up.Goals as goal

pub returns-in-Ok-clause-up : goal.returns-in-Ok-clause-up
returns-in-Ok-clause-up c = λ t place limit name calm l h.
    let was = c.args.self.now in
    let is : Pull = record was { kept = c.reserve.new.self; sources = c.add.new.self } in
    let room : deque_len was.kept + c.count.result + 1 ≤ deque_capacity c.reserve.new.self = search rules in
    up_ties was is t c.args.p place limit name l h c.in-Ok.ensures.ok c.in-Ok.ensures.more c.reserve.ensures.items (omega (arith, room, c.count.ensures.count, was.kept.ok.0)) (refl, refl, refl)

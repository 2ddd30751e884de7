use Rattle.std.proofs.Common.{arith}
use Rattle.proto_requests.proofs.Spotted.{held_few, on_ok}
use Rattle.proto_rep.proofs.replies.WaitingReplies.reserve.Goals as goal

pub returns-in-Ok-clause-room : goal.returns-in-Ok-clause-room
returns-in-Ok-clause-room c =
    let few = held_few c.reserve.new.self.items in
    let len = c.reserve.new.self.ok.0 in
    let ok = c.in-Ok.ensures.ok in
    on_ok c.reserve-in-Ok.result _ (omega (arith, few, len, ok))

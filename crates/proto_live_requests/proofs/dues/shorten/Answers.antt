use Rattle.std.specs.Prelude.{find}
use Rattle.proto_live_requests.specs.declared.outs.SentOut.{SentOut}
use Rattle.proto_live_requests.specs.Outs.{is_sent}
use Rattle.proto_live_requests.specs.Dues.{awaited, is_at}
use Rattle.proto_live_requests.specs.LiveRequests.{is_live_on}
use Rattle.proto_live_requests.proofs.DueRequests.{kept_outs, awaited_at}
use Rattle.proto_live_requests.proofs.dues.shorten.Goals as goal

pub returns-then-len-many : goal.returns-then-len-many
returns-then-len-many c = λ x o z k.
    let keep = λ (e : SentOut). is_at e (awaited (find (is_live_on e.ctx) c.args.live.now.items)) in
    kept_outs keep (is_sent x o) c.args.outs.now c.keep_awaited.new.self c.keep_awaited.ensures.whole c.keep_awaited.ensures.kept (λ e s. awaited_at c.args.live.now.items x o e z s) k

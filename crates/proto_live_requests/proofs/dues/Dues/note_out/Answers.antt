use Rattle.std.proofs.Common.{sym, subst}
use Rattle.proto_live_requests.specs.Dues.{DuesView, AreSeen}
use Rattle.proto_live_requests.proofs.DueRequests.{seen_sent}
use Rattle.proto_live_requests.proofs.dues.Dues.note_out.Goals as goal

pub returns : goal.returns
returns c = λ xs late dry last l n h.
    let v : DuesView = record { due = c.self.inside.due; dry = c.self.inside.dry; outs = c.self.inside.outs } in
    let w : DuesView = record { due = c.self.inside.due; dry = c.self.inside.dry; outs = c.add.new.self } in
    seen_sent v w late dry last c.args.c (record { pipe = c.args.pipe; when = c.args.when }) xs l n c.add.ensures.more c.add.ensures.same (λ q k. k) (λ q k. k) (subst (λ (v : DuesView). AreSeen v late dry last xs) (sym c.self.view_is) h)

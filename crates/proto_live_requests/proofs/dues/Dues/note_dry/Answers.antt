use Rattle.std.proofs.Common.{◌≡◌, ◌∙◌, ap, rules, sym, subst}
use Rattle.std.specs.Prelude.{◌==◌}
use Rattle.proto_live_requests.specs.Dues.{DuesView, AreSeen}
use Rattle.proto_requests.proofs.TestValues.{same_number}
use Rattle.proto_live_requests.proofs.DueRequests.{seen_dry}
use Rattle.proto_live_requests.proofs.dues.Dues.note_dry.Goals as goal

pub returns : goal.returns
returns c = λ late dry now last xs s d h.
    let is : c.c.inside.0 ≡ c.args.c = search rules in
    let v : DuesView = record { due = c.self.inside.due; dry = c.self.inside.dry; outs = c.self.inside.outs } in
    seen_dry v c.add.new.self late dry now last c.args.c xs s d (c.add.ensures.more (λ n. n == c.args.c) (ap (λ n. n == c.args.c) is ∙ same_number c.args.c)) (λ q k. c.add.ensures.same (λ n. n == q) k) (subst (λ (v : DuesView). AreSeen v late dry last xs) (sym c.self.view_is) h)

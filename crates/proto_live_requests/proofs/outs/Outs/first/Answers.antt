use Rattle.std.proofs.Common.{◌∙◌, ◌≤◌, ap, sym, subst}
use Rattle.std.specs.List.{list_any}
use Rattle.proto_requests.specs.Hints.{HintsView}
use Rattle.proto_live_requests.specs.declared.outs.SentOut.{SentOut}
use Rattle.proto_live_requests.specs.Outs.{is_sent}
use Rattle.proto_live_requests.proofs.KeyedOuts.{least_time}
use Rattle.proto_live_requests.proofs.outs.Outs.first.Goals as goal

pub returns-in-Some-clause-least : goal.returns-in-Some-clause-least
returns-in-Some-clause-least c = λ x o h.
    subst (λ (e : SentOut). e.when ≤ o.when) (sym c.timed.ensures) (least_time c.in-Some.k.now c.self.inside.by_time.keys c.in-Some.ensures.least x o (ap (λ (v : HintsView SentOut). list_any (is_sent x o) v.items) c.self.view_is ∙ h))

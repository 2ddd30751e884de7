use Rattle.std.proofs.Common.{◌∙◌, ap, refl}
use Rattle.std.specs.Prelude.{nat_lt}
use Rattle.std.specs.List.{list_all}
use Rattle.proto_requests.specs.Ordered.{is_before}
use Rattle.proto_requests.proofs.NumberedEntries.{one_before}
use Rattle.proto_live_requests.specs.ReqContexts.{ReqContextsView, context_in}
use Rattle.proto_live_requests.specs.LiveRequests.{context_number}
use Rattle.proto_live_requests.proofs.req_contexts.ReqContexts.is_above_all.Goals as goal

pub returns-in-Some : goal.returns-in-Some
returns-in-Some c = λ h.
    let all = ap (λ (v : ReqContextsView). list_all (is_before context_number c.args.c) v.items) c.self.view_is ∙ h in
    ap (nat_lt c.in-Some.last.now) c.c.view_is ∙ one_before context_number (context_in c.self.inside.tick) (λ e. refl) c.args.c _ c.in-Some.last.now _ c.self.inside.dry_in.entries all c.in-Some.ensures.last

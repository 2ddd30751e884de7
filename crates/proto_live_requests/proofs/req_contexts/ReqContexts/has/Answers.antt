use Rattle.std.proofs.Common.{◌∙◌, ap, refl, ℕ}
use Rattle.std.specs.Prelude.{◌==◌}
use Rattle.std.specs.List.{list_any}
use Rattle.proto_requests.proofs.NumberedEntries.{found_any}
use Rattle.proto_live_requests.specs.ReqContexts.{ReqContextView, ReqContextsView, context_in}
use Rattle.proto_live_requests.specs.LiveRequests.{context_number}
use Rattle.proto_live_requests.proofs.req_contexts.ReqContexts.has.Goals as goal

pub returns : goal.returns
returns c =
    let n = c.c.inside.0 in
    c.contains_key.ensures ∙ found_any context_number (context_in c.self.inside.tick) (λ e. refl) n c.self.inside.dry_in.entries ∙ ap (λ (v : ReqContextsView). list_any (λ (s : ReqContextView). s.ctx == n) v.items) c.self.view_is
    ∙ ap (λ (m : ℕ). list_any (λ (s : ReqContextView). s.ctx == m) c.args.self.now.items) c.c.view_is

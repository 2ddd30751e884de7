use Rattle.std.proofs.Common.{◌∙◌, ap, sym, subst, map, rules}
use Rattle.proto_requests.proofs.NumberedEntries.{all_written}
use Rattle.proto_live_requests.specs.ReqContexts.{ReqContextsView, AreByTick, context_in}
use Rattle.proto_live_requests.specs.LiveRequests.{wetted}
use Rattle.proto_live_requests.proofs.DryContexts.{next_by_tick, next_view, anew_by_tick, anew_view}
use Rattle.proto_live_requests.proofs.req_contexts.ReqContexts.wet.Goals as goal

pub invariant_of-self : goal.invariant_of-self
invariant_of-self c = let m = c.self.inside in next_by_tick m.tick m.dry_in.entries c.self.invariant

pub returns-then-self-lt18446744073709551615 : goal.returns-then-self-lt18446744073709551615
returns-then-self-lt18446744073709551615 c = next_view c.self.inside.tick c.self.inside.dry_in.entries c.self.invariant.ticks ∙ ap (λ (v : ReqContextsView). map wetted v.items) c.self.view_is

pub invariant_of-self-2 : goal.invariant_of-self-2
invariant_of-self-2 c =
    let m = c.self.inside in
    let new = all_written _ 0 (λ f k u b w g t. search rules) _ m.dry_in.entries _ c.retain.ensures.filtered in
    subst (AreByTick 1) (sym new) (anew_by_tick m.dry_in.entries)

pub returns : goal.returns
returns c =
    let m = c.self.inside in
    let new = all_written _ 0 (λ f k u b w g t. search rules) _ m.dry_in.entries _ c.retain.ensures.filtered in
    ap (map (context_in 1)) new ∙ anew_view m.tick m.dry_in.entries ∙ ap (λ (v : ReqContextsView). map wetted v.items) c.self.view_is

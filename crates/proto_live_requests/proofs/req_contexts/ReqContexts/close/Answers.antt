use Rattle.std.proofs.Common.{◌∙◌, ap, sym, refl, map, subst, ℕ}
use Rattle.std.specs.Prelude.{filter, not, ◌==◌}
use Rattle.std.specs.Ordering.{nat_cmp}
use Rattle.std.specs.BTreeMap.{is_at}
use Rattle.proto_requests.proofs.NumberedEntries.{less_seen}
use Rattle.proto_live_requests.specs.ReqContexts.{ReqContextView, ReqContextsView, AreByTick, context_in}
use Rattle.proto_live_requests.specs.LiveRequests.{context_number}
use Rattle.proto_live_requests.proofs.DryContexts.{less_by_tick}
use Rattle.proto_live_requests.proofs.req_contexts.ReqContexts.close.Goals as goal

pub invariant_of-self : goal.invariant_of-self
invariant_of-self c = let m = c.self.inside in subst (AreByTick m.tick) (sym c.remove.ensures.entries) (less_by_tick (is_at (nat_cmp c.c.inside.0)) m.tick m.dry_in.entries c.self.invariant)

pub returns : goal.returns
returns c =
    let n = c.c.inside.0 in
    let m = c.self.inside in
    ap (map (context_in m.tick)) c.remove.ensures.entries ∙ less_seen context_number (context_in m.tick) (λ e. refl) n m.dry_in.entries c.len-len.ensures.ordered ∙ ap (λ (v : ReqContextsView). filter (λ (s : ReqContextView). not (s.ctx == n)) v.items) c.self.view_is
    ∙ ap (λ (k : ℕ). filter (λ (s : ReqContextView). not (s.ctx == k)) c.args.self.now.items) c.c.view_is

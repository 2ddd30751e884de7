use Rattle.std.proofs.Common.{◌∙◌, ap, sym, subst, refl, map, ◌++◌, ◌∷◌, [], ℕ, false}
use Rattle.std.specs.List.{list_all}
use Rattle.proto_requests.specs.Ordered.{is_before}
use Rattle.proto_requests.proofs.NumberedEntries.{more_entries}
use Rattle.proto_live_requests.specs.ReqContexts.{ReqContextsView, AreByTick, context_in}
use Rattle.proto_live_requests.specs.LiveRequests.{context_number}
use Rattle.proto_live_requests.proofs.DryContexts.{more_view, more_by_tick}
use Rattle.proto_live_requests.proofs.req_contexts.ReqContexts.open.Goals.{in-Ok, in-Err}
use Rattle.proto_live_requests.proofs.req_contexts.ReqContexts.open.Goals as goal

pub invariant_of-self : goal.invariant_of-self
invariant_of-self c =
    let m = c.self.inside in
    elim c.match-insert.branch [
      | in-Ok w ↦ subst (AreByTick m.tick) (sym w.in-Ok.ensures.entries) (more_by_tick m.tick c.c.inside.0 m.dry_in.entries c.self.invariant)
      | in-Err w ↦ subst (AreByTick m.tick) (sym w.in-Err.ensures.err) c.self.invariant
    ]

pub returns-clause-more : goal.returns-clause-more
returns-clause-more c =
    let n = c.c.inside.0 in
    let m = c.self.inside in
    let es = m.dry_in.entries in
    elim c.match-insert.branch [
      | in-Ok w ↦ rw w.result-is (λ h.
          let low = ap (λ (v : ReqContextsView). list_all (is_before context_number n) v.items) c.self.view_is ∙ ap (λ (k : ℕ). list_all (is_before context_number k) c.args.self.now.items) c.c.view_is ∙ h in
          ap (map (context_in m.tick)) (w.in-Ok.ensures.entries ∙ more_entries context_number (context_in m.tick) (λ e. refl) n 0 es low) ∙ more_view m.tick n es c.self.invariant.begun
          ∙ ap (λ (v : ReqContextsView). v.items ++ record { ctx = n; is_dry = false } ∷ []) c.self.view_is ∙ ap (λ (k : ℕ). c.args.self.now.items ++ record { ctx = k; is_dry = false } ∷ []) c.c.view_is)
      | in-Err w ↦ rw w.result-is tt
    ]

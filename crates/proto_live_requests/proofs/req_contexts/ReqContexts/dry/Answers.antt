use Rattle.std.proofs.Common.{◌∙◌, ap, sym, subst}
use Rattle.std.specs.Option.{option_copied_mut}
use Rattle.std.specs.Ordering.{nat_cmp}
use Rattle.std.specs.BTreeMap.{is_at}
use Rattle.proto_live_requests.specs.ReqContexts.{AreByTick}
use Rattle.proto_live_requests.proofs.DryContexts.{one_dried, none_dried, dried_view, one_by_tick}
use Rattle.proto_live_requests.proofs.req_contexts.ReqContexts.dry.Goals.{in-None, in-Some}
use Rattle.proto_live_requests.proofs.req_contexts.ReqContexts.dry.Goals as goal

pub invariant_of-self : goal.invariant_of-self
invariant_of-self c =
    let m = c.self.inside in
    elim c.match-get_mut.branch [
      | in-None w ↦ rw w.self-inside-is (rw c.get_mut.follows.holds-at-none c.self.invariant)
      | in-Some w ↦ rw w.self-inside-is (subst (AreByTick m.tick) (sym (c.get_mut.follows.holds m.tick).0) (one_by_tick (is_at (nat_cmp c.c.inside.0)) m.tick m.dry_in.entries c.self.invariant))
    ]

pub returns : goal.returns
returns c =
    let n = c.c.inside.0 in
    let m = c.self.inside in
    let es = m.dry_in.entries in
    let view = dried_view n c.args.c m.tick c.args.self.now es c.c.view_is c.self.view_is in
    elim c.match-get_mut.branch [
      | in-None w ↦ rw w.self-inside-is (rw c.get_mut.follows.holds-at-none (view es (none_dried m.tick n es (sym c.get_mut.ensures.value ∙ ap option_copied_mut w.in-None.is))))
      | in-Some w ↦ rw w.self-inside-is (rw (c.get_mut.follows.holds m.tick).0 (view _ (one_dried m.tick n es c.get_mut.ensures.ordered)))
    ]

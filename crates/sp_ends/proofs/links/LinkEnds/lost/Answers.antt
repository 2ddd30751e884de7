use Rattle.std.proofs.Common.{◌≡◌, ◌<◌, ◌≤◌, length, List, ℕ, refl, ap, subst, sym, ◌∙◌, arith, add-one, set}
use Rattle.std.specs.Vec.{with_items}
use Rattle.std.proofs.lemmas.List.{with_items_is}
use Rattle.sp_ends.specs.declared.dialer.Dialer.{Dialer}
use Rattle.sp_ends.specs.Freeing.{AreFreed, AreSameDialers}
use Rattle.sp_ends.specs.EndViews.{LinkEndsView}
use Rattle.sp_ends.proofs.FreedDialers.{FreedTo, freed_next, freed_whole}
use Rattle.sp_ends.proofs.NewcomingDialers.{one_lost}
use Rattle.sp_ends.proofs.TurnParts.{same_dialers}
use Rattle.sp_ends.proofs.links.LinkEnds.lost.Goals as goal

pub loop-dialer-init : goal.loop-dialer-init
loop-dialer-init g c = record { same = same_dialers c.deref_mut-dialer-items.result.now; freed = refl }

pub loop-dialer-preserved : goal.loop-dialer-preserved
loop-dialer-preserved g c =
    let items = c.loop-dialer.dialer-items in
    let i = c.loop-dialer.dialer-index in
    let inside : i < length items = omega (arith, c.loop-dialer.auto.dialer-items, c.loop-dialer-test.true) in
    record {
      same = one_lost c.deref_mut-dialer-items.result.now items i c.dialer-item.result c.lost.new.self c.loop-dialer.invariant.same inside c.lost.ensures.same;
      freed = subst (λ (n : ℕ). FreedTo n c.args.now c.args.place c.deref_mut-dialer-items.result.now (set items i c.lost.new.self)) (sym (add-one i)) (freed_next c.args.now c.args.place i c.deref_mut-dialer-items.result.now items c.dialer-item.result c.lost.new.self c.loop-dialer.invariant.freed inside c.lost.ensures.freed);
    }

pub returns-clause-same : goal.returns-clause-same
returns-clause-same g c =
    let v = c.self.view_is in
    let items = c.loop-dialer.dialer-items in
    let kept : AreSameDialers c.args.self.now.dialers items =
    subst (λ (ds : List Dialer). AreSameDialers ds items) (c.deref_mut-dialer-items.ensures.value ∙ ap (λ (e : LinkEndsView g.row.L.Denot). e.dialers) v) c.loop-dialer.invariant.same in
    let few : length items ≡ c.self.inside.dialers.len = c.loop-dialer.auto.dialer-items ∙ c.deref_mut-dialer-items.ensures.len in
    let is : (with_items c.self.inside.dialers items).items ≡ items = with_items_is c.self.inside.dialers items few in
    record {
      ends = ap (λ (e : LinkEndsView g.row.L.Denot). record e { dialers = (with_items c.self.inside.dialers items).items }) v;
      dialers = subst (λ (ds : List Dialer). AreSameDialers c.args.self.now.dialers ds) (sym is) kept;
    }

pub returns-clause-freed : goal.returns-clause-freed
returns-clause-freed g c =
    let v = c.self.view_is in
    let items = c.loop-dialer.dialer-items in
    let all : length items ≤ c.loop-dialer.dialer-index = omega (arith, c.loop-dialer.auto.dialer-items, c.loop-dialer-test.false) in
    let freed : AreFreed c.args.now c.args.place c.args.self.now.dialers items =
    subst (λ (ds : List Dialer). AreFreed c.args.now c.args.place ds items) (c.deref_mut-dialer-items.ensures.value ∙ ap (λ (e : LinkEndsView g.row.L.Denot). e.dialers) v) (freed_whole c.args.now c.args.place c.loop-dialer.dialer-index _ items c.loop-dialer.invariant.freed all) in
    let few : length items ≡ c.self.inside.dialers.len = c.loop-dialer.auto.dialer-items ∙ c.deref_mut-dialer-items.ensures.len in
    let is : (with_items c.self.inside.dialers items).items ≡ items = with_items_is c.self.inside.dialers items few in
    subst (λ (ds : List Dialer). AreFreed c.args.now c.args.place c.args.self.now.dialers ds) (sym is) freed

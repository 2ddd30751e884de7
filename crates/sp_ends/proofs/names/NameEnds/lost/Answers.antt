-- The callers are told one after another.
use Rattle.std.proofs.Common.{◌≡◌, ◌<◌, ◌≤◌, length, List, ℕ, refl, ap, subst, sym, ◌∙◌, arith, add-one, set}
use Rattle.std.specs.Vec.{with_items}
use Rattle.std.proofs.lemmas.List.{with_items_is}
use Rattle.sp_ends.specs.declared.name_dialer.NameDialer.{NameDialer}
use Rattle.sp_ends.specs.NameSteps.{AreLost}
use Rattle.sp_ends.specs.EndViews.{NamesView}
use Rattle.sp_ends.proofs.DialedNames.{LostTo, lost_next, lost_whole}
use Rattle.sp_ends.proofs.names.NameEnds.lost.Goals as goal

pub loop-caller-init : goal.loop-caller-init
loop-caller-init c = refl

pub loop-caller-preserved : goal.loop-caller-preserved
loop-caller-preserved c =
    let items = c.loop-caller.caller-items in
    let i = c.loop-caller.caller-index in
    let inside : i < length items = omega (arith, c.loop-caller.auto.caller-items, c.loop-caller-test.true) in
    subst (λ (n : ℕ). LostTo n c.args.now c.args.pipe c.deref_mut-caller-items.result.now (set items i c.lost.new.self)) (sym (add-one i)) (lost_next c.args.now c.args.pipe i c.deref_mut-caller-items.result.now items c.caller-item.result c.lost.new.self c.loop-caller.invariant inside c.lost.ensures)

pub returns-clause-names : goal.returns-clause-names
returns-clause-names c = ap (λ (e : NamesView). e.names) c.self.view_is

pub returns-clause-lost : goal.returns-clause-lost
returns-clause-lost c =
    let v = c.self.view_is in
    let items = c.loop-caller.caller-items in
    let all : length items ≤ c.loop-caller.caller-index = omega (arith, c.loop-caller.auto.caller-items, c.loop-caller-test.false) in
    let lost : AreLost c.args.now c.args.pipe c.args.self.now.callers items =
    subst (λ (cs : List NameDialer). AreLost c.args.now c.args.pipe cs items) (c.deref_mut-caller-items.ensures.value ∙ ap (λ (e : NamesView). e.callers) v) (lost_whole c.args.now c.args.pipe c.loop-caller.caller-index _ items c.loop-caller.invariant all) in
    let few : length items ≡ c.self.inside.callers.len = c.loop-caller.auto.caller-items ∙ c.deref_mut-caller-items.ensures.len in
    let is : (with_items c.self.inside.callers items).items ≡ items = with_items_is c.self.inside.callers items few in
    subst (λ (cs : List NameDialer). AreLost c.args.now c.args.pipe c.args.self.now.callers cs) (sym is) lost

use Rattle.std.proofs.Common.{◌∙◌, ◌-◌, List, arith, refl, subst, sym}
use Rattle.core_state.specs.declared.pipes.PipePlace.{PipePlace}
use Rattle.core_state.proofs.Packing.{PackedTo, KeepsLimits, limits_moved, limits_left, packs_none, packs_some, packs_empty, packs_all}
use Rattle.core_state.proofs.pipes.Pipes.pack.Goals as goal

pub loop-left-init : goal.loop-left-init
loop-left-init g c = record { parts = packs_none c.args.self.now.places.items c.len-left.result (c.len-left.ensures ∙ c.args.self.now.places.ok.0); limits = λ before all. all; count = refl; down = refl; listed = refl }

pub loop-left-preserved-in-Some-wire : goal.loop-left-preserved-in-Some-wire
loop-left-preserved-in-Some-wire g c = record {
  parts = subst (λ (xs : List (PipePlace g.row.W.Denot)). PackedTo c.args.self.now.places.items xs (c.loop-left.left - 1)) (sym c.push_back_reserved.ensures.items) (packs_some _ _ _ _ _ _ c.loop-left.invariant.parts (omega (arith, c.loop-left-test.true)) c.in-Some.ensures.items c.in-Some-wire.is);
  limits = subst (λ (xs : List (PipePlace g.row.W.Denot)). KeepsLimits c.args.self.now.places.items xs) (sym c.push_back_reserved.ensures.items) (limits_moved _ _ _ _ _ c.loop-left.invariant.limits c.in-Some.ensures.items);
  count = c.loop-left.invariant.count;
  down = c.loop-left.invariant.down;
  listed = c.loop-left.invariant.listed;
}

pub loop-left-preserved : goal.loop-left-preserved
loop-left-preserved g c = record {
  parts = packs_empty _ _ _ _ _ c.loop-left.invariant.parts (omega (arith, c.loop-left-test.true)) c.in-Some.ensures.items c.in_default-wire.is;
  limits = limits_left _ _ _ _ c.loop-left.invariant.limits c.in-Some.ensures.items;
  count = c.loop-left.invariant.count;
  down = c.loop-left.invariant.down;
  listed = c.loop-left.invariant.listed;
}

pub returns-clause-up : goal.returns-clause-up
returns-clause-up g c = (packs_all c.args.self.now.places.items c.loop-left.self.places.items c.loop-left.left c.loop-left.invariant.parts (omega (arith, c.loop-left-test.false))).0

pub returns-clause-in_order : goal.returns-clause-in_order
returns-clause-in_order g c = (packs_all c.args.self.now.places.items c.loop-left.self.places.items c.loop-left.left c.loop-left.invariant.parts (omega (arith, c.loop-left-test.false))).1

pub returns-clause-limits : goal.returns-clause-limits
returns-clause-limits g c = c.loop-left.invariant.limits

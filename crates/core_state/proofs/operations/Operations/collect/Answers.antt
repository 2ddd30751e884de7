use Rattle.std.proofs.Common.{◌≡◌, refl, ap, sym, ◌∙◌, ◌∷◌, ◌++◌, [], Option, arith, rules, length, length-append, set}
use Rattle.std.specs.Prelude.{filter, is_some}
use Rattle.core_state.specs.declared.operations.EndedOperation.{EndedOperation}
use Rattle.core_state.proofs.FreedSlots.{collected, found, nothing_there, within}
use Rattle.core_state.proofs.operations.Operations.collect.Goals as goal

pub index_mut-requires : goal.index_mut-requires
index_mut-requires c = let q = c.requires in omega (arith, within c.args.self.now c.args.op q.0 q.1 q.2 q.3, c.args.self.now.done.ok)

pub unreachable-requires : goal.unreachable-requires
unreachable-requires c = nothing_there c.args.self.now c.args.op c.index_mut.result.now c.requires c.index_mut.ensures.value (sym c.take.ensures.value ∙ c.in_default.is)

pub unreachable-requires-then-is_err : goal.unreachable-requires-then-is_err
unreachable-requires-then-is_err c =
    let f = found c.args.self.now c.args.op c.index_mut.result.now c.in-Some.it c.requires c.index_mut.ensures.value (sym c.take.ensures.value ∙ c.in-Some.is) in
    let room = f.enough in
    search rules

pub returns-clause-taken : goal.returns-clause-taken
returns-clause-taken c =
    λ t k l h.
    let f = found c.args.self.now c.args.op c.index_mut.result.now c.in-Some.it c.requires c.index_mut.ensures.value (sym c.take.ensures.value ∙ c.in-Some.is) in
    let items : c.push.new.self.items ≡ c.args.self.now.free.items ++ c.args.op.slot ∷ [] = search rules in
    collected c.args.self.now _ t c.args.op k c.in-Some.it l h f.there f.named f.inside (ap (set c.args.self.now.done.items c.args.op.slot) c.take.ensures.after) items refl refl c.push.ensures.capacity

pub returns-clause-lengths : goal.returns-clause-lengths
returns-clause-lengths c =
    let f = found c.args.self.now c.args.op c.index_mut.result.now c.in-Some.it c.requires c.index_mut.ensures.value (sym c.take.ensures.value ∙ c.in-Some.is) in
    let items : c.push.new.self.items ≡ c.args.self.now.free.items ++ c.args.op.slot ∷ [] = search rules in
    let left = ap (λ (o : Option EndedOperation). length (filter is_some (set c.args.self.now.done.items c.args.op.slot o))) c.take.ensures.after in
    omega (arith, f.fewer, left, ap length items, length-append c.args.self.now.free.items (c.args.op.slot ∷ []))

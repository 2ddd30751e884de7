use Rattle.std.proofs.Common.{refl, sym, subst, [], ◌∷◌, ◌++◌}
use Rattle.cat_drill.specs.Calling.{Calls}
use Rattle.cat_drill.proofs.DrillCallers.{last, collects}
use Rattle.cat_drill.proofs.rounds.hold.Goals as goal

pub collect_one-requires-clause-op : goal.collect_one-requires-clause-op
collect_one-requires-clause-op g c = last c.args.socket.now c.args.pass.now (c.args.ops.now.items ++ c.in-Err.failed.value ∷ []) c.args.ops.now.items c.in-Err.failed.value refl (subst (λ x. Calls c.args.socket.now c.args.pass.now (c.args.ops.now.items ++ x ∷ [])) (sym c.in-Err.ensures.value_returned) c.requires)

pub returns-in-Err-clause-calls : goal.returns-in-Err-clause-calls
returns-in-Err-clause-calls g c = subst (λ xs. Calls c.args.socket.now c.collect_one.new.pass xs) (sym c.in-Err.ensures.items) (collects c.args.socket.now c.args.pass.now c.collect_one.new.pass (c.args.ops.now.items ++ c.in-Err.failed.value ∷ []) c.args.ops.now.items c.in-Err.failed.value refl c.collect_one.ensures (subst (λ x. Calls c.args.socket.now c.args.pass.now (c.args.ops.now.items ++ x ∷ [])) (sym c.in-Err.ensures.value_returned) c.requires))

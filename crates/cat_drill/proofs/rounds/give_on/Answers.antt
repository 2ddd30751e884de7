use Rattle.std.proofs.Common.{refl, [], ◌∷◌}
use Rattle.cat_drill.proofs.DrillCallers.{works, last, collects}
use Rattle.cat_drill.proofs.rounds.give_on.Goals as goal

pub collect_one-requires-clause-op : goal.collect_one-requires-clause-op
collect_one-requires-clause-op g c = last c.args.socket.now c.serve_one.new.pass (c.args.op ∷ []) [] c.args.op refl (works c.args.socket.now c.args.pass.now c.serve_one.new.pass (c.args.op ∷ []) c.serve_one.ensures c.requires)

pub returns-clause-calls : goal.returns-clause-calls
returns-clause-calls g c = collects c.args.socket.now c.serve_one.new.pass c.collect_one.new.pass (c.args.op ∷ []) [] c.args.op refl c.collect_one.ensures (works c.args.socket.now c.args.pass.now c.serve_one.new.pass (c.args.op ∷ []) c.serve_one.ensures c.requires)

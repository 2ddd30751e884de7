use Rattle.std.proofs.Common.{refl, arith, None}
use Rattle.proto_pair.proofs.Paired.{down_ties, is_free}
use Rattle.proto_pair.proofs.PairProto.down.Goals as goal

pub returns-clause-down : goal.returns-clause-down
returns-clause-down c = λ t why l h. let was = c.args.self.now in down_ties was (record was { port = None }) t c.args.p why l h refl

pub returns-clause-left : goal.returns-clause-left
returns-clause-left c = λ t op s b l h k. omega (arith, is_free c.args.self.now t op c.args.p s b h k)

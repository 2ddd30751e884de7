use Rattle.std.proofs.Common.{ap, arith, ◌∙◌, ◌≡◌}
use Rattle.std.specs.Prelude.{Option}
use Rattle.proto_pair.specs.declared.Pair.{Pair}
use Rattle.proto_pair.specs.declared.PairPort.{PairPort}
use Rattle.proto_pair.specs.Pairs.{free}
use Rattle.proto_pair.proofs.Paired.{full_ties, is_free, none_free}
use Rattle.proto_pair.proofs.PairProto.full.Goals as goal

pub returns-clause-full : goal.returns-clause-full
returns-clause-full c = λ t l h. let was = c.args.self.now in full_ties was (record was { port = c.mark-self.result }) t c.args.p l h (ap (λ (o : Option PairPort). let n : Pair = record was { port = o } in n) c.mark-self.ensures)

pub returns-clause-left : goal.returns-clause-left
returns-clause-left c =
    λ t op s b l h k.
    let none : free c.mark-self.result ≡ 0 = ap free c.mark-self.ensures ∙ none_free c.args.self.now.port in
    omega (arith, none, is_free c.args.self.now t op c.args.p s b h k)

use Rattle.std.proofs.Common.{refl, Some, subst}
use Rattle.proto_pair.proofs.Paired.{framed, framed_far, framed_malformed}
use Rattle.proto_pair.proofs.PairProto.frame.Goals as goal

pub returns-in-Kept-clause-kept : goal.returns-in-Kept-clause-kept
returns-in-Kept-clause-kept c = λ t short l h. let was = c.args.self.now in framed was (record was { kept = Some c.in-Kept.m }) t c.args.p c.args.m c.in-Kept.m short l h c.in-Kept.ensures refl

pub returns-in-TooFar-clause-kept : goal.returns-in-TooFar-clause-kept
returns-in-TooFar-clause-kept c = λ t short l h. framed_far c.args.self.now t c.args.p c.args.m short h c.in-TooFar.ensures

pub returns-in-Malformed-clause-kept : goal.returns-in-Malformed-clause-kept
returns-in-Malformed-clause-kept c = λ t short l h. framed_malformed c.args.self.now t c.args.p c.args.m short h c.in-Malformed.ensures

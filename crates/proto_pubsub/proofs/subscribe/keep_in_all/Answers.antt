use Rattle.std.proofs.Common.{refl, arith}
use Rattle.proto_pubsub.specs.SubContexts.{kept_in}
use Rattle.proto_pubsub.proofs.SubContexts.{last_written}
use Rattle.proto_pubsub.proofs.subscribe.keep_in_all.Goals as goal

pub returns-in-Some-clause-one : goal.returns-in-Some-clause-one
returns-in-Some-clause-one c = λ few. c.in-Some.ensures.none (omega (arith, few))

pub returns-in-None-clause-whole : goal.returns-in-None-clause-whole
returns-in-None-clause-whole c =
    λ e.
    last_written (kept_in c.args.raw c.args.options c.args.m) c.args.contexts.now c.spread.new.contexts _ c.index-contexts-n.result c.keep.new.self (omega (arith, c.if-n-eq0.false)) (omega (arith, c.if-n-eq0.false)) (c.in-None.ensures.whole refl) c.keep.ensures

use Rattle.sp_history.specs.Past.{pend}
use Rattle.sp_history.specs.Moments.{past}
use Rattle.proto_pair.proofs.Paired.{gives, sends_after, drops, looked_ties}
use Rattle.proto_pair.proofs.PairProto.offer.Goals as goal

pub returns-in-Some-clause-offered : goal.returns-in-Some-clause-offered
returns-in-Some-clause-offered c = λ t l q h. gives c.args.self.now t c.in-Some.op h (c.in-Some.ensures (pend (past t)) h.pending)

pub returns-in-Some-stray-clause-same : goal.returns-in-Some-stray-clause-same
returns-in-Some-stray-clause-same c = λ t h. looked_ties c.args.self.now c.stray.new.self t h c.stray.ensures.same (λ q. c.stray.ensures.left q (pend (past t)) h.pending h.none_stray)

pub returns-in-Some-stray-clause-offered : goal.returns-in-Some-stray-clause-offered
returns-in-Some-stray-clause-offered c = λ t l q h. drops c.args.self.now t c.in-Some-stray.op q h (c.in-Some-stray.ensures.found (pend (past t)) h.pending)

pub returns-in-None-stray-clause-same : goal.returns-in-None-stray-clause-same
returns-in-None-stray-clause-same c = λ t h. looked_ties c.args.self.now c.stray.new.self t h c.stray.ensures.same (λ q. c.stray.ensures.left q (pend (past t)) h.pending h.none_stray)

pub returns-in-None-stray-clause-offered : goal.returns-in-None-stray-clause-offered
returns-in-None-stray-clause-offered c =
    λ t l q h.
    let was = c.args.self.now in
    let none = c.in-None-stray.ensures.found (pend (past t)) h.pending h.none_stray in
    sends_after was c.stray.new.self t c.send_offer.result h c.stray.ensures.same none (c.in-None.ensures (pend (past t)) h.pending) c.send_offer.ensures

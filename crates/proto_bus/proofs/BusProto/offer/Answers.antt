use Rattle.sp_history.specs.Past.{pend}
use Rattle.sp_history.specs.Moments.{past}
use Rattle.proto_bus.proofs.Bussed.{can_flood, gives, idle}
use Rattle.proto_bus.proofs.BusProto.offer.Goals as goal

pub returns-in-Some-clause-offered : goal.returns-in-Some-clause-offered
returns-in-Some-clause-offered c = λ t l q h. can_flood c.args.self.now t c.in-Some.op h (c.in-Some.ensures (pend (past t)) h.0.pending)

pub returns-in-Some-receiver-clause-offered : goal.returns-in-Some-receiver-clause-offered
returns-in-Some-receiver-clause-offered c = λ t l q h. gives c.args.self.now t c.in-Some-receiver.op h (c.in-Some-receiver.ensures (pend (past t)) h.0.pending)

pub returns-in-None-receiver-clause-offered : goal.returns-in-None-receiver-clause-offered
returns-in-None-receiver-clause-offered c = λ t l q h. idle c.args.self.now t h (c.in-None.ensures (pend (past t)) h.0.pending) (c.in-None-receiver.ensures (pend (past t)) h.0.pending)

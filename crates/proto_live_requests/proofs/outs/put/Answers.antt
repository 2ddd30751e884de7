use Rattle.std.proofs.Common.{subst, true, map}
use Rattle.proto_live_requests.specs.declared.outs.SentOut.{SentOut}
use Rattle.proto_live_requests.specs.Outs.{IsSet, piped, timed}
use Rattle.proto_live_requests.proofs.KeyedOuts.{time_set, pipe_set}
use Rattle.proto_live_requests.proofs.outs.put.Goals as goal

pub returns-clause-time : goal.returns-clause-time
returns-clause-time c =
    subst (λ (e : SentOut). IsSet true e (map timed c.args.by_time.now.keys) (map timed c.insert.new.self.keys)) c.time_key.ensures (time_set true c.time_key.result c.args.by_time.now.keys c.insert.new.self.keys c.in_ok-insert.ensures.updates.0)

pub returns-clause-pipe : goal.returns-clause-pipe
returns-clause-pipe c =
    subst (λ (e : SentOut). IsSet true e (map piped c.args.by_pipe.now.keys) (map piped c.insert-2.new.self.keys)) c.pipe_key.ensures
    (pipe_set true c.pipe_key.result c.args.by_pipe.now.keys c.insert-2.new.self.keys c.in_ok-insert-2.ensures.updates.0)

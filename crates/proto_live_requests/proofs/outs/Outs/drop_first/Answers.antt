use Rattle.std.proofs.Common.{ℕ, false, map}
use Rattle.proto_live_requests.specs.Outs.{piped, timed}
use Rattle.proto_live_requests.proofs.KeyedOuts.{same_set, time_set, pipe_set}
use Rattle.proto_live_requests.proofs.outs.Outs.drop_first.Goals as goal

pub invariant_of-self : goal.invariant_of-self
invariant_of-self c =
    let old = c.self.inside in
    let key : ℕ × ℕ × ℕ = (c.in-Some.when, c.in-Some.pipe, c.in-Some.ctx) in
    same_set false (timed key) (map timed old.by_time.keys) (map timed c.pop_first.new.self.keys) (map piped old.by_pipe.keys) (map piped c.remove.new.self.keys) c.self.invariant (time_set false key old.by_time.keys c.pop_first.new.self.keys c.in-Some.ensures.updates.0)
    (pipe_set false (c.in-Some.pipe, c.in-Some.ctx, c.in-Some.when) old.by_pipe.keys c.remove.new.self.keys c.remove.ensures.updates.0)

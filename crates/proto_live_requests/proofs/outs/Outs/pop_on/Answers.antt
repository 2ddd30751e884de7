use Rattle.std.proofs.Common.{◌≡◌, ◌∙◌, false, true, map, refl, subst, ℕ}
use Rattle.std.specs.List.{list_any}
use Rattle.proto_requests.specs.Hints.{HintsView}
use Rattle.proto_live_requests.specs.declared.outs.SentOut.{SentOut}
use Rattle.proto_live_requests.specs.Outs.{IsOneLess, is_entry, out_in, piped, timed}
use Rattle.proto_live_requests.proofs.KeyedOuts.{same_set, time_set, pipe_set, timed_in, one_fewer}
use Rattle.proto_live_requests.proofs.outs.Outs.pop_on.Goals as goal

pub invariant_of-self : goal.invariant_of-self
invariant_of-self c =
    let old = c.self.inside in
    let key : ℕ × ℕ × ℕ = (c.in_ok-pipe.when, c.in_ok-pipe.pipe, c.in_ok-pipe.ctx) in
    same_set false (timed key) (map timed old.by_time.keys) (map timed c.remove-2.new.self.keys) (map piped old.by_pipe.keys) (map piped c.remove.new.self.keys) c.self.invariant (time_set false key old.by_time.keys c.remove-2.new.self.keys c.remove-2.ensures.updates.0)
    (pipe_set false (c.in_ok-pipe.pipe, c.in_ok-pipe.ctx, c.in_ok-pipe.when) old.by_pipe.keys c.remove.new.self.keys c.remove.ensures.updates.0)

pub returns-clause-one : goal.returns-clause-one
returns-clause-one c =
    let old = c.self.inside in
    let key : ℕ × ℕ × ℕ = (c.in_ok-pipe.when, c.in_ok-pipe.pipe, c.in_ok-pipe.ctx) in
    let there : list_any (is_entry (timed key)) (map timed old.by_time.keys) ≡ true = c.self.invariant c.in_ok-pipe.ctx (out_in (timed key)) ∙ c.in_ok-pipe.ensures.member in
    subst (λ (v : HintsView SentOut). IsOneLess c.args.p c.in_ok-pipe.ctx v.items (map timed c.remove-2.new.self.keys)) c.self.view_is
    (record {
      gone = timed key;
      on = c.in_ok-pipe.ensures.on ∙ c.p.view_is;
      of = refl;
      others = time_set false key old.by_time.keys c.remove-2.new.self.keys c.remove-2.ensures.updates.0;
      fewer = one_fewer old.by_time.keys c.remove-2.new.self.keys c.remove-2.result c.remove-2.ensures.len (c.remove-2.ensures.test ∙ timed_in key old.by_time.keys there);
    })

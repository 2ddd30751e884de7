use Rattle.std.proofs.Common.{◌∙◌, ap, rules, map, ℕ, filter}
use Rattle.std.proofs.lemmas.Fn.{filter_same}
use Rattle.proto_requests.specs.Hints.{HintsView}
use Rattle.proto_live_requests.specs.declared.outs.SentOut.{SentOut}
use Rattle.proto_live_requests.specs.Outs.{piped, timed}
use Rattle.proto_live_requests.specs.LiveRequests.{is_awaited}
use Rattle.proto_live_requests.proofs.KeyedOuts.{same_kept, seen_kept, time_key, pipe_key, timed_is, piped_is}
use Rattle.proto_live_requests.proofs.outs.Outs.keep_awaited.Goals as goal

pub invariant_of-self : goal.invariant_of-self
invariant_of-self c =
    let keep = is_awaited c.args.live.now.items in
    let old = c.self.inside in
    let by_time = filter_same _ (λ (k : ℕ × ℕ × ℕ). keep (timed k)) _ (λ x b f' k. search rules) _ _ c.retain.ensures.filtered in
    let by_pipe = filter_same _ (λ (k : ℕ × ℕ × ℕ). keep (piped k)) _ (λ x b f' k. search rules) _ _ c.retain-2.ensures.filtered in
    same_kept keep (map timed old.by_time.keys) (map timed c.retain.new.self.keys) (map piped old.by_pipe.keys) (map piped c.retain-2.new.self.keys) c.self.invariant (seen_kept timed time_key timed_is keep old.by_time.keys c.retain.new.self.keys by_time)
    (seen_kept piped pipe_key piped_is keep old.by_pipe.keys c.retain-2.new.self.keys by_pipe)

pub returns-clause-kept : goal.returns-clause-kept
returns-clause-kept c =
    let keep = is_awaited c.args.live.now.items in
    let by_time = filter_same _ (λ (k : ℕ × ℕ × ℕ). keep (timed k)) _ (λ x b f' k. search rules) _ _ c.retain.ensures.filtered in
    seen_kept timed time_key timed_is keep c.self.inside.by_time.keys c.retain.new.self.keys by_time ∙ ap (λ (v : HintsView SentOut). filter keep v.items) c.self.view_is

use Rattle.std.proofs.Common.{◌≡◌, ◌∙◌, ap, sym, rules, inl, inr}
use Rattle.std.specs.Prelude.{◌==◌}
use Rattle.proto_requests.proofs.TestValues.{same_number}
use Rattle.proto_reqrep.proofs.Hinted.{ready_begun}
use Rattle.proto_reqrep.proofs.req.look_at.Goals as goal

pub returns-then-has_reply : goal.returns-then-has_reply
returns-then-has_reply c = λ w ws e r.
    let is : c.c.inside.0 ≡ c.args.c = search rules in
    ready_begun c.args.ready.now c.add.new.self c.args.live.now.items ws w c.args.c e (λ q k. c.add.ensures.same (λ n. n == q) k) (inl (c.add.ensures.more (λ n. n == c.args.c) (ap (λ n. n == c.args.c) is ∙ same_number c.args.c))) r

pub returns-else-has_reply : goal.returns-else-has_reply
returns-else-has_reply c = λ w ws e r. ready_begun c.args.ready.now c.args.ready.now c.args.live.now.items ws w c.args.c e (λ q k. k) (inr (sym c.has_reply.ensures ∙ c.if-has_reply.false)) r

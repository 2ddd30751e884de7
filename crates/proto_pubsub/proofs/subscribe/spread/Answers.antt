use Rattle.std.proofs.Common.{◌≡◌, ◌∙◌, ap, sym, arith, ℕ, Some, length}
use Rattle.proto_pubsub.specs.SubContexts.{SubContextView, kept_in, takes_frame}
use Rattle.proto_pubsub.proofs.SubContexts.{written, long_written, set_is, stops}
use Rattle.proto_pubsub.proofs.subscribe.spread.Goals as goal

pub loop-i-preserved : goal.loop-i-preserved
loop-i-preserved c =
    written (kept_in c.args.raw c.args.options c.args.m.now) c.args.contexts.now c.loop-i.contexts c.loop-i.i c.index-contexts-i.result _ (omega (arith, c.loop-i-test.true, c.requires)) c.loop-i.invariant (c.keep_copy.ensures.kept c.if-not-keep_copy.false)

pub returns-then-not-keep_copy-clause-stops : goal.returns-then-not-keep_copy-clause-stops
returns-then-not-keep_copy-clause-stops c =
    λ d e.
    let same = c.keep_copy.ensures.same c.if-not-keep_copy.true in
    let many = ap length c.loop-i.invariant ∙ long_written (kept_in c.args.raw c.args.options c.args.m.now) c.args.contexts.now c.loop-i.i in
    let there = set_is c.loop-i.contexts c.loop-i.i c.keep_copy.new.self c.index-contexts-i-then-not-keep_copy.result (omega (arith, c.loop-i-test.true, c.requires, many)) in
    stops (takes_frame c.args.raw c.args.options c.args.m.now.body) (kept_in c.args.raw c.args.options c.args.m.now) c.args.contexts.now c.loop-i.contexts c.loop-i.i d c.index-contexts-i.result c.keep_copy.new.self (omega (arith, c.loop-i-test.true, c.requires)) c.loop-i.invariant same
    (ap (takes_frame c.args.raw c.args.options c.args.m.now.body) same ∙ c.keep_copy.ensures.needed c.if-not-keep_copy.true) (ap (λ (x : SubContextView). x.ctx) (sym there) ∙ sym c.ctx.ensures ∙ inj d e)
  where
    inj : (d : ℕ) → Some c.ctx.result ≡ Some d → c.ctx.result ≡ d
    inj d q = cc

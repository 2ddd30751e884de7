use Rattle.std.proofs.Common.{◌≡◌, ◌∙◌, ap, sym, arith, ℕ, Some}
use Rattle.proto_pubsub.specs.Subs.{is_ready}
use Rattle.proto_pubsub.proofs.SearchedReceives.{one_more, at_first, nowhere}
use Rattle.proto_pubsub.proofs.subscribe.ready_place.Goals as goal

pub returns-then-keeps_for-clause-place : goal.returns-then-keeps_for-clause-place
returns-then-keeps_for-clause-place c =
    λ o h.
    let P = is_ready c.args.contexts.now in
    at_first P c.args.waiting.now.items c.loop-i.i c.index.result.now (omega (arith, c.loop-i-test.true, c.len-i-end.ensures, c.args.waiting.now.ok.0)) (c.loop-i.invariant o h) (ap P (sym c.index.ensures) ∙ sym (c.keeps_for.ensures o) ∙ c.if-keeps_for.true)

pub returns-then-keeps_for-clause-inside : goal.returns-then-keeps_for-clause-inside
returns-then-keeps_for-clause-inside c =
    λ j e.
    let is : c.loop-i.i ≡ j = inj j e in omega (arith, c.loop-i-test.true, c.len-i-end.ensures, is)
  where
    inj : (j : ℕ) → Some c.loop-i.i ≡ Some j → c.loop-i.i ≡ j
    inj j q = cc

pub returns-clause-place : goal.returns-clause-place
returns-clause-place c = λ o h. nowhere (is_ready c.args.contexts.now) c.args.waiting.now.items c.loop-i.i (omega (arith, c.loop-i-test.false, c.len-i-end.ensures, c.args.waiting.now.ok.0)) (c.loop-i.invariant o h)

pub loop-i-preserved : goal.loop-i-preserved
loop-i-preserved c =
    λ o h.
    let P = is_ready c.args.contexts.now in
    one_more P c.args.waiting.now.items c.loop-i.i c.index.result.now (omega (arith, c.loop-i-test.true, c.len-i-end.ensures, c.args.waiting.now.ok.0)) (c.loop-i.invariant o h) (ap P (sym c.index.ensures) ∙ sym (c.keeps_for.ensures o) ∙ c.if-keeps_for.false)

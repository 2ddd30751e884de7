use Rattle.std.proofs.Common.{◌≡◌, ◌≤◌, ◌<◌, ℕ, List, length, get_or, Some, refl, subst, ◌∙◌, arith}
use Rattle.std.specs.Prelude.{slice_get}
use Rattle.std.proofs.lemmas.Option.{slice_get_past, slice_get_read}
use Rattle.sp_fakes.specs.declared.link.LinkStep.{LinkStep}
use Rattle.sp_fakes.specs.Scripts.{step_bytes, IsSpent, HasLeft}
use Rattle.sp_fakes.specs.declared.link.LinkStep.TheVariants as steps
use Rattle.sp_fakes.proofs.Given.{given-pass}
use Rattle.sp_fakes.proofs.Left.{gives_pass}
use Rattle.sp_fakes.proofs.link.skip.Goals as goal

-- there is no step after the last one
past : (script : List LinkStep) (at offset written : ℕ) → length script ≤ at → (step : LinkStep) → slice_get script at ≡ Some step → HasLeft step offset written
past script at offset written le step e = let none = slice_get_past script at le in absurd cc

only : (script : List LinkStep) (at offset written : ℕ) (found : LinkStep) → at < length script → found ≡ get_or script at found → HasLeft found offset written → (step : LinkStep) → slice_get script at ≡ Some step → HasLeft step offset written
only script at offset written found lt is left step e =
    let read = slice_get_read script (length script) at found refl lt is in
    let same : found ≡ step = cc in
    subst (λ s. HasLeft s offset written) same left

-- a step that is spent has no bytes after the first ones
spent_bytes : (step : LinkStep) (offset written : ℕ) → IsSpent step offset written → length (step_bytes step) ≤ offset
spent_bytes (steps.Bytes b) offset written is = is
spent_bytes (steps.After n) offset written is = omega arith
spent_bytes steps.NotYet offset written is = absurd is
spent_bytes steps.End offset written is = absurd is
spent_bytes steps.Fail offset written is = absurd is

pub loop-at-preserved : goal.loop-at-preserved
loop-at-preserved c =
    let script = c.args.script.now in
    let is = c.if-not-is_spent.ensures.spent refl in
    let e = slice_get_read script (length script) c.loop-at.at c.index-script-at.result refl c.loop-at-test.true c.index-script-at.is in (
      given-pass script c.loop-at.at c.loop-at.offset c.index-script-at.result e (spent_bytes c.index-script-at.result c.loop-at.offset c.args.written is) ∙ c.loop-at.invariant.0,
      (λ result buf left gives. c.loop-at.invariant.1 result buf left (gives_pass c.args.written script c.loop-at.at c.loop-at.offset c.index-script-at.result result buf left e is gives)),
    )

pub returns-then-not-is_spent-clause-left : goal.returns-then-not-is_spent-clause-left
returns-then-not-is_spent-clause-left c = only c.args.script.now c.loop-at.at c.loop-at.offset c.args.written c.index-script-at.result c.loop-at-test.true c.index-script-at.is (c.if-not-is_spent.ensures.left refl)

pub returns-then-not-is_spent-clause-gives : goal.returns-then-not-is_spent-clause-gives
returns-then-not-is_spent-clause-gives c = c.loop-at.invariant.1

pub returns-clause-gives : goal.returns-clause-gives
returns-clause-gives c = c.loop-at.invariant.1

pub returns-clause-left : goal.returns-clause-left
returns-clause-left c = past c.args.script.now c.loop-at.at c.loop-at.offset c.args.written c.loop-at-test.false

use Rattle.std.proofs.Common.{◌≡◌, ◌++◌, List, ℕ, subst, sym, ap, ◌∙◌, arith, length, length-append}
use Rattle.aio_expire.specs.declared.deadlines.Deadline.{Deadline}
use Rattle.aio_expire.specs.declared.due.DueCall.{DueCall}
use Rattle.aio_expire.specs.DueCalls.{AreAllowed}
use Rattle.test_base.proofs.DueLists.{allowed_append, allowed_end}
use Rattle.test_base.proofs.deadline_calls.drawn_calls.Goals as goal

pub loop-preserved : goal.loop-preserved
loop-preserved c =
    let items = c.in_ok-extend_from_slice.ensures.items in (
      λ es. subst (λ (xs : List DueCall). AreAllowed 64 xs es) (sym items) (allowed_append 64 c.loop.calls.items _ es (c.loop.invariant.0 es) c.step.ensures),
      omega (arith, c.loop.invariant.1, ap length items, length-append c.loop.calls.items c.step.result),
    )

pub returns-clause-allowed : goal.returns-clause-allowed
returns-clause-allowed c = λ es. subst (λ (xs : List DueCall). AreAllowed 64 xs es) (sym c.in_ok-extend_from_slice-2.ensures.items) (allowed_append 64 c.loop.calls.items _ es (c.loop.invariant.0 es) (allowed_end 64 18446744073709551615 0))

use Rattle.std.proofs.Common.{◌≡◌, ◌-◌, ℕ, List, length}
use Rattle.sp_base.specs.declared.outside.LinkRead.{LinkRead}
use Rattle.sp_fakes.specs.declared.link.LinkStep.{LinkStep}
use Rattle.sp_fakes.specs.Scripts.{given, left_at, GivesNext}
use Rattle.sp_fakes.proofs.link.skip.Given as goal

abbrev pub invariant-loop-at : goal.invariant-loop-at
invariant-loop-at l =
    (given l.script l.at l.offset ≡ given l.fn.script l.fn.at l.fn.offset)
    × ((result : LinkRead) → (buf : List ℕ) → (left : List LinkStep) → GivesNext l.written (left_at l.script l.at l.offset) result buf left → GivesNext l.written (left_at l.fn.script l.fn.at l.fn.offset) result buf left)

abbrev pub decreases-loop-at : goal.decreases-loop-at
decreases-loop-at l = length l.script - l.at

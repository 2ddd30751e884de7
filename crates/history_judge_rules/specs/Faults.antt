-- What it means that a test finds a fault.
use Rattle.std.specs.Prelude.{Option, Some, None}
use Rattle.history_judge_rules.specs.declared.faults.Fault.{Fault}

-- no fault where the fact holds, and one where it doesn't
abbrev pub Finds : Option Fault → Type 0 → Type 0
Finds None P = P
Finds (Some f) P = P → ⊥

use Rattle.std.proofs.Common.{length, ◌-◌, ◌≤◌}
use Rattle.sp_ws.proofs.cuts.Cuts.pass.Given as goal

abbrev pub invariant-passes : goal.invariant-passes
invariant-passes l = l.at ≤ length l.b

abbrev pub decreases-passes : goal.decreases-passes
decreases-passes l = length l.b - l.at

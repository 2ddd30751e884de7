use Rattle.std.proofs.Common.{◌≡◌, ◌≤◌, take, reverse, length}
use Rattle.httparse.specs.Grammar.{skip_ows}
use Rattle.sp_upgrade.proofs.lines.skip_back.Given as goal

abbrev pub invariant-ends : goal.invariant-ends
invariant-ends l = (l.end ≤ length l.bytes) × (skip_ows (reverse l.bytes) ≡ skip_ows (reverse (take l.end l.bytes)))

abbrev pub decreases-ends : goal.decreases-ends
decreases-ends l = l.end

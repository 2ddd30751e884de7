use Rattle.std.proofs.Common.{◌≡◌, drop}
use Rattle.std.specs.FinMap.{find}
use Rattle.std.specs.Ordering.{nat_cmp}
use Rattle.std.specs.Cmp.Lexicographic.{slice_cmp}
use Rattle.sp_fakes.specs.FilesHeld.{named_entries}
use Rattle.sp_fakes.proofs.files.held.Given as goal

abbrev pub invariant-loop-pair : goal.invariant-loop-pair
invariant-loop-pair l = find (slice_cmp nat_cmp) l.name (named_entries (drop l.pair-index l.pairs)) ≡ find (slice_cmp nat_cmp) l.name (named_entries l.pairs)

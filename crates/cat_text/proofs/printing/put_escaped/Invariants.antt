use Rattle.std.proofs.Common.{◌≤◌, ◌+◌, ◌*◌, take}
use Rattle.std.specs.List.{flat_map}
use Rattle.cat_text.specs.Printing.{escaped}
use Rattle.cat_text.specs.Placing.{Puts}
use Rattle.cat_text.proofs.printing.put_escaped.Given as goal

abbrev pub invariant-loop-byte : goal.invariant-loop-byte
invariant-loop-byte l = Puts (flat_map escaped (take l.byte-index l.body)) l.start l.at l.initial.out l.out × (l.at ≤ l.start + 4 * l.byte-index)

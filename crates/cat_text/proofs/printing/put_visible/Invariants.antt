use Rattle.std.proofs.Common.{◌≡◌, ◌+◌, take, map}
use Rattle.sp_base.specs.Print.{visible}
use Rattle.cat_text.specs.Placing.{Puts}
use Rattle.cat_text.proofs.printing.put_visible.Given as goal

abbrev pub invariant-loop-byte : goal.invariant-loop-byte
invariant-loop-byte l = Puts (map visible (take l.byte-index l.body)) l.start l.at l.initial.out l.out × (l.at ≡ l.start + l.byte-index)

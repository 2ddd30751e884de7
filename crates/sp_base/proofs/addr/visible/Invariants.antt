use Rattle.std.proofs.Common.{◌≤◌, length, take}
use Rattle.std.specs.List.{AllByRecursion}
use Rattle.sp_base.specs.Addresses.{IsVisible}
use Rattle.sp_base.proofs.addr.visible.Given as goal

abbrev pub invariant-loop-i : goal.invariant-loop-i
invariant-loop-i l = record { within : l.i ≤ length l.text; short : l.i ≤ l.fn.limit; visible : AllByRecursion IsVisible (take l.i l.text) }

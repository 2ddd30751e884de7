use Rattle.std.proofs.Common.{◌≤◌, length, take}
use Rattle.std.specs.List.{AllByRecursion}
use Rattle.sp_base.specs.Addresses.{IsOfPath}
use Rattle.sp_base.proofs.addr.path_bytes.Given as goal

abbrev pub invariant-loop-i : goal.invariant-loop-i
invariant-loop-i l = record { within : l.i ≤ length l.text; short : l.i ≤ 128; bytes : AllByRecursion IsOfPath (take l.i l.text) }

-- A wire that drains may be flushed.
use Rattle.std.proofs.Common.{refl}
use Rattle.sp_ends.proofs.shut.hang_up.Goals as goal

pub flush-requires : goal.flush-requires
flush-requires g c = rw c.requires refl

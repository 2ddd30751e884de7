-- Any thread may share it.
use denote.Param.Send.{IsSync, part_keyless}
use Rattle.sp_ws.specs.contracts.counts_at_start.CountsAtStart.{the_row}
use Rattle.sp_ws.proofs.counts_at_start.CountsAtStart.TheSendSync.Send.{send}

pub sync : IsSync the_row
sync = record { shared = λ d b o κ q. part_keyless the_row send q d b o }

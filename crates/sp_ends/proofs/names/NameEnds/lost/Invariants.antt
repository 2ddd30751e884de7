use Rattle.sp_ends.proofs.DialedNames.{LostTo}
use Rattle.sp_ends.proofs.names.NameEnds.lost.Given as goal

abbrev pub invariant-loop-caller : goal.invariant-loop-caller
invariant-loop-caller l = LostTo l.caller-index l.now l.pipe l.initial.caller-items l.caller-items

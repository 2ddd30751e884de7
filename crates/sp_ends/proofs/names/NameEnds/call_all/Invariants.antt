use Rattle.std.proofs.Common.{◌≡◌, length}
use Rattle.sp_ends.specs.NameSteps.{GoesOn, KeepsLinks}
use Rattle.sp_ends.proofs.DialedNames.{CallsTo, DialsTo}
use Rattle.sp_ends.proofs.names.NameEnds.call_all.Given as goal

abbrev pub invariant-calls : goal.invariant-calls
invariant-calls g l =
    record {
      on : GoesOn l.initial.single l.single;
      links : KeepsLinks g.L.Link.seen l.initial.single l.single;
      names : l.self.names ≡ l.initial.self.names;
      callers : CallsTo l.i l.now l.initial.single l.single l.initial.self.callers l.self.callers;
      dials : DialsTo l.now l.role l.i l.initial.single l.single l.initial.inproc l.inproc l.initial.self.callers l.self.callers;
      lengths : length l.self.callers ≡ length l.initial.self.callers;
    }

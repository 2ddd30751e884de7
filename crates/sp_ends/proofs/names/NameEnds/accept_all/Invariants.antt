use Rattle.std.proofs.Common.{◌*◌}
use Rattle.sp_ends.specs.NameSteps.{Accepting, GoesOn, KeepsLinks, HasFewer}
use Rattle.sp_ends.proofs.Bringing.{BringTo}
use Rattle.sp_ends.proofs.names.NameEnds.accept_all.Given as goal

abbrev pub invariant-names : goal.invariant-names
invariant-names g l =
    record {
      on : GoesOn l.initial.single l.single;
      links : KeepsLinks g.L.Link.seen l.initial.single l.single;
      accepted : Accepting (16 * l.i) l.initial.single l.single l.initial.inproc l.inproc;
      brings : BringTo l.i l.self.names l.initial.inproc l.inproc;
      fewer : HasFewer l.initial.inproc l.inproc;
    }

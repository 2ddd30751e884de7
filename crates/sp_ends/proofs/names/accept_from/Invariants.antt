use Rattle.sp_ends.specs.NameSteps.{Accepting, GoesOn, KeepsLinks, HasFewer}
use Rattle.sp_ends.proofs.Bringing.{BroughtSo}
use Rattle.sp_ends.proofs.names.accept_from.Given as goal

abbrev pub invariant-lanes : goal.invariant-lanes
invariant-lanes g l =
    record {
      on : GoesOn l.initial.single l.single;
      links : KeepsLinks g.L.Link.seen l.initial.single l.single;
      accepted : Accepting l.counter l.initial.single l.single l.initial.inproc l.inproc;
      so : BroughtSo l.name l.counter l.initial.inproc l.inproc;
      fewer : HasFewer l.initial.inproc l.inproc;
    }

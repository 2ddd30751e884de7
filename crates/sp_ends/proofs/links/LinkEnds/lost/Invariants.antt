use Rattle.sp_ends.specs.Freeing.{AreSameDialers}
use Rattle.sp_ends.proofs.FreedDialers.{FreedTo}
use Rattle.sp_ends.proofs.links.LinkEnds.lost.Given as goal

abbrev pub invariant-loop-dialer : goal.invariant-loop-dialer
invariant-loop-dialer g l =
    record {
      same : AreSameDialers l.initial.dialer-items l.dialer-items;
      freed : FreedTo l.dialer-index l.now l.place l.initial.dialer-items l.dialer-items;
    }

use Rattle.sp_ends.proofs.NewcomingRounds.{Dialing}
use Rattle.sp_ends.proofs.links.LinkEnds.dial_all.Given as goal

abbrev pub invariant-dials : goal.invariant-dials
invariant-dials g l = Dialing g.L.Link.seen l.i l.fn.self l.self (g.N.Net.seen l.fn.net) (g.N.Net.seen l.net) l.fn.single l.single l.now l.turn.is_dry

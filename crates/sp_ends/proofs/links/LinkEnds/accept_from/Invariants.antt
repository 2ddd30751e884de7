use Rattle.sp_ends.proofs.NewcomingAsks.{Asking}
use Rattle.sp_ends.proofs.links.LinkEnds.accept_from.Given as goal

abbrev pub invariant-links : goal.invariant-links
invariant-links g l = Asking g.L.Link.seen l.i l.counter l.fn.self l.self (g.N.Net.seen l.fn.net) (g.N.Net.seen l.net) l.fn.single l.single l.now l.turn.is_dry

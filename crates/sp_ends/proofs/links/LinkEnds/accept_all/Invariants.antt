use Rattle.sp_ends.specs.EndsTurns.{HasAskedTo}
use Rattle.sp_ends.proofs.links.LinkEnds.accept_all.Given as goal

abbrev pub invariant-accepts : goal.invariant-accepts
invariant-accepts g l = HasAskedTo g.L.Link.seen l.i l.fn.self l.self (g.N.Net.seen l.fn.net) (g.N.Net.seen l.net) l.fn.single l.single l.now l.turn.is_dry

-- What holds, and what the callers know.
use Rattle.std.proofs.Common.{◌≡◌}
use Rattle.sp_ends.proofs.TurnedNames.{TakesSome}
use Rattle.sp_ends.proofs.WholeTurn.{StillTakes}
use Rattle.sp_ends.proofs.links.LinkEnds.take_all_ended.Given as goal

abbrev pub invariant-takes : goal.invariant-takes
invariant-takes g l =
    record {
      links : StillTakes g.L.Link.seen l.initial.self l.self (g.N.Net.seen l.initial.net) (g.N.Net.seen l.net) l.initial.single l.single l.initial.now;
      names : l.names.names ≡ l.initial.names.names;
      callers : TakesSome l.initial.now l.initial.single l.single l.initial.names.callers l.names.callers;
    }

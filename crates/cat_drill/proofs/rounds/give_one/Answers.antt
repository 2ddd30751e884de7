use Rattle.std.proofs.Common.{[]}
use Rattle.cat_drill.proofs.rounds.give_one.Goals as goal

pub give_on-requires : goal.give_on-requires
give_on-requires g c = c.in-Some.ensures.calls [] c.requires

pub returns-in-None-clause-calls : goal.returns-in-None-clause-calls
returns-in-None-clause-calls g c = c.in-None.ensures.calls [] c.requires

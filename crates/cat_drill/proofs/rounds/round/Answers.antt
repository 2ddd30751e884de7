use Rattle.std.proofs.Common.{subst}
use Rattle.cat_drill.specs.Calling.{Calls}
use Rattle.cat_drill.proofs.DrillCallers.{later_twice}
use Rattle.cat_drill.proofs.rounds.round.Goals as goal

pub give_rest-all-requires : goal.give_rest-all-requires
give_rest-all-requires g c = subst (Calls c.args.socket.now c.collect_all-given.new.pass) c.collect_all-given.ensures.none c.collect_all-given.ensures.calls

pub returns-clause-four_callers : goal.returns-clause-four_callers
returns-clause-four_callers g c = record {
  main = c.give_rest-all.ensures.calls;
  two = c.contend-four_callers.ensures.four_callers.two;
  three = c.contend-four_callers.ensures.four_callers.three;
  four = c.contend-four_callers.ensures.four_callers.four;
}

pub returns-clause-later : goal.returns-clause-later
returns-clause-later g c =
    later_twice c.args.four_callers.main c.collect_all-given.new.pass c.give_rest-all.new.pass
    (later_twice c.args.four_callers.main c.contend-four_callers.result.0.main c.collect_all-given.new.pass c.contend-four_callers.ensures.later c.collect_all-given.ensures.later)
    c.give_rest-all.ensures.later

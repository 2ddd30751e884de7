use Rattle.cat_drill.proofs.DrillCallers.{still_own, works, later_twice}
use Rattle.cat_drill.proofs.rounds.contend.Goals as goal

pub returns-clause-four_callers : goal.returns-clause-four_callers
returns-clause-four_callers g c = record {
  main = works c.args.socket.now c.begin_all-begun.new.pass c.all_work-four_callers.result.main c.begin_all-begun.new.ops.items c.all_work-four_callers.ensures.main c.begin_all-begun.ensures.calls;
  two = still_own c.args.socket.now c.args.four_callers.two c.all_work-four_callers.result.two c.all_work-four_callers.ensures.two.same c.requires.two;
  three = still_own c.args.socket.now c.args.four_callers.three c.all_work-four_callers.result.three c.all_work-four_callers.ensures.three.same c.requires.three;
  four = still_own c.args.socket.now c.args.four_callers.four c.all_work-four_callers.result.four c.all_work-four_callers.ensures.four.same c.requires.four;
}

pub returns-clause-later : goal.returns-clause-later
returns-clause-later g c =
    later_twice c.args.four_callers.main c.begin_all-begun.new.pass c.all_work-four_callers.result.main c.begin_all-begun.ensures.later c.all_work-four_callers.ensures.main.later

use Rattle.std.proofs.Common.{subst}
use Rattle.sp_history.specs.Past.{past_of}
use Rattle.sp_core.specs.Parts.{HasWires}
use Rattle.cat_drill.specs.Calling.{IsDrillPass}
use Rattle.cat_drill.proofs.DrillCallers.{still_own, turn_later}
use Rattle.cat_drill.proofs.EndOfDrill.{returned, record_drills, closes_with, totals_seen}
use Rattle.cat_drill.proofs.ending.close_all.Goals as goal

pub finish-wires-requires : goal.finish-wires-requires
finish-wires-requires g c =
    let back = returned c.args.socket c.args.list c.give_all.new.list c.close-totals.new.pass c.args.four_callers.two c.args.four_callers.three c.args.four_callers.four c.requires.list (still_own c.args.socket c.args.four_callers.main c.close-totals.new.pass c.close-totals.ensures.pass.same c.requires.four_callers.main.own) c.close-totals.ensures.closed c.give_all.ensures.items c.give_all.ensures.same in
    record { own = back.own; all = back.all; callers = back.callers; closed = back.closed }

pub returns : goal.returns
returns g c =
    let p = c.close-totals.new.pass in
    let own : IsDrillPass c.args.socket p = still_own c.args.socket c.args.four_callers.main p c.close-totals.ensures.pass.same c.requires.four_callers.main.own in
    let back = returned c.args.socket c.args.list c.give_all.new.list p c.args.four_callers.two c.args.four_callers.three c.args.four_callers.four c.requires.list own c.close-totals.ensures.closed c.give_all.ensures.items c.give_all.ensures.same in
    let f = c.finish-wires.ensures in
    let h = c.finish-wires.result.record_.turns in
    let all = record_drills c.args.socket p f.0 h c.give_all.new.list.items _ own back.items f.1 in
    record {
      drills = all.0;
      wires = subst (λ z. HasWires g.W.Wire.shown c.finish-wires.result.wires z (past_of h)) all.2 f.2;
      closes = closes_with c.args.four_callers.main p c.close-totals.result h (turn_later _ c.args.four_callers.main p c.close-totals.ensures.turn) (totals_seen c.close-totals.result c.args.four_callers.main p c.close-totals.ensures.turn) all.1;
    }

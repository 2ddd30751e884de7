use Rattle.sp_history.specs.Past.{past_of}
use Rattle.cat_drill.proofs.EndOfDrill.{lane_is, gave_all}
use Rattle.cat_drill.proofs.ending.sum_of_all.Goals as goal

pub finish-end-requires : goal.finish-end-requires
finish-end-requires g c =
    let from = c.in_ok-taken.ensures (past_of c.args.record_.now.turns) c.requires.wires in
    lane_is c.args.pipe c.args.source.lane.name from.out c.in_ok-taken.taken.name c.requires.closes.0 c.args.record_.now.turns c.args.totals from.why from.wire c.requires.closes.1 c.requires.closes.2 c.requires.legal from.is_down from.name

pub returns-then-whole : goal.returns-then-whole
returns-then-whole g c =
    let from = c.in_ok-taken.ensures (past_of c.args.record_.now.turns) c.requires.wires in
    let is = c.is_whole-whole.ensures c.if-whole.true in
    gave_all c.args.pipe c.args.count c.finish-end.result.left c.args.totals c.requires.closes.0 c.args.record_.now.turns from.why from.wire c.args.source c.in_ok-taken.taken c.requires.count c.requires.legal c.requires.closes.2 from.is_down from.came c.requires.source c.finish-end.ensures is.none_left is.all_put is.won is.frames_are

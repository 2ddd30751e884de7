use Rattle.sp_lane.specs.declared.item.LaneItem.TheVariants as items
use Rattle.test_drill.proofs.Telling.{has_room, one_left}
use Rattle.test_drill.proofs.lanes.puts_where_there_is_room.Goals as goal
use Rattle.test_drill.proofs.lanes.puts_where_there_is_room.Goals.{in-Done, in-Full}

pub returns-clause-is_done : goal.returns-clause-is_done
returns-clause-is_done g c = elim c.match-put.branch [
  | in-Done w ↦ w.result-is
  | in-Full w ↦ absurd (has_room c.args.input.now c.tell.new.input c.args.output.now.taken c.tell.ensures.input c.requires.room w.in-Full.ensures.after.2)
]

pub returns-clause-left : goal.returns-clause-left
returns-clause-left g c = elim c.match-put.branch [
  | in-Done w ↦ one_left c.args.input.now c.tell.new.input c.put.new.self c.args.output.now c.tell.new.output (items.Message c.args.m) c.tell.ensures.input c.tell.ensures.output c.tell.ensures.within w.in-Done.ensures.after
  | in-Full w ↦ absurd (has_room c.args.input.now c.tell.new.input c.args.output.now.taken c.tell.ensures.input c.requires.room w.in-Full.ensures.after.2)
]

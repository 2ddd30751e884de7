use Rattle.test_drill.proofs.NamedLanes.{roomed_name}
use Rattle.test_drill.proofs.lanes.room_once.Goals as goal

pub returns-clause-out : goal.returns-clause-out
returns-clause-out g c = roomed_name c.room.result c.args.wire.now c.room.new.self c.room.ensures.lane

use Rattle.std.proofs.Common.{◌∙◌}
use Rattle.test_drill.proofs.NamedLanes.{flushed_name, still_drains}
use Rattle.test_drill.proofs.lanes.flush_once.Goals as goal

pub returns-clause-drains : goal.returns-clause-drains
returns-clause-drains g c = still_drains c.flush.result c.args.wire.now.wire c.flush.new.self.wire c.flush.ensures.after.shows ∙ c.requires

pub returns-clause-out : goal.returns-clause-out
returns-clause-out g c = flushed_name c.flush.result c.args.wire.now c.flush.new.self c.flush.ensures.lane

use Rattle.sp_ws.proofs.Outlets.{passed_zero, quiet_refl, counts_refl, wrote_none, wrote_more, wrote_within}
use Rattle.sp_ws.proofs.outlet.FrameOutlet.write.Goals as goal

pub writes-init : goal.writes-init
writes-init g c = wrote_none c.args.self.now c.args.frames.now _ _ (passed_zero c.args.self.now.ends _ c.requires.within) (quiet_refl _) (counts_refl _)

pub write_once-requires-clause-within : goal.write_once-requires-clause-within
write_once-requires-clause-within g c = wrote_within c.args.self.now c.writes.self c.args.frames.now c.writes.frames _ _ c.writes.invariant c.requires.within

pub writes-preserved : goal.writes-preserved
writes-preserved g c = wrote_more c.args.self.now c.writes.self c.write_once.new.self c.args.frames.now c.writes.frames c.write_once.new.frames _ _ _ c.writes.invariant c.in-Took.ensures.0

pub returns-in-NotYet-clause-wrote : goal.returns-in-NotYet-clause-wrote
returns-in-NotYet-clause-wrote g c = wrote_more c.args.self.now c.writes.self c.write_once.new.self c.args.frames.now c.writes.frames c.write_once.new.frames _ _ _ c.writes.invariant c.in-NotYet.ensures.0

pub returns-in-Failed-clause-wrote : goal.returns-in-Failed-clause-wrote
returns-in-Failed-clause-wrote g c = wrote_more c.args.self.now c.writes.self c.write_once.new.self c.args.frames.now c.writes.frames c.write_once.new.frames _ _ _ c.writes.invariant c.in-Failed.ensures.0

-- The lane is dialed, and attached.
use Rattle.std.proofs.Common.{refl, Option, Some, None, inr}
use Rattle.sp_socket.specs.Singles.{SingleView}
use Rattle.sp_ends.specs.NameSteps.{CameUp, HasNewLane}
use Rattle.sp_ends.proofs.DialedNames.{tries_up}
use Rattle.sp_ends.proofs.names.call.Goals as goal

came_new : (o : Option _) (a b : SingleView) → CameUp o a b → HasNewLane o a b
came_new None a b c = tt
came_new (Some p) a b c = c.0

pub attach_lane-requires : goal.attach_lane-requires
attach_lane-requires g c = let d = c.in-Ok.ensures in record { fresh = (d.5.0, d.5.1, d.5.2) }

pub returns-in-Ok-clause-came : goal.returns-in-Ok-clause-came
returns-in-Ok-clause-came g c = came_new c.attach_lane.result c.args.single.now c.attach_lane.new.single c.attach_lane.ensures.came

pub returns-in-Ok-clause-tries : goal.returns-in-Ok-clause-tries
returns-in-Ok-clause-tries g c = tries_up _ _ c.attach_lane.result c.in-Ok.lane c.args.single.now c.attach_lane.new.single c.args.inproc.now c.dial.new.self c.in-Ok.ensures c.attach_lane.ensures.on c.attach_lane.ensures.came

pub returns-in-Err-clause-tries : goal.returns-in-Err-clause-tries
returns-in-Err-clause-tries g c = inr (c.in-Err.field-0, c.in-Err.ensures, refl)

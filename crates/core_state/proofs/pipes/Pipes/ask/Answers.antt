use Rattle.std.proofs.Common.{refl, subst}
use Rattle.sp_msg.specs.Wires.{AfterRoom}
use Rattle.sp_msg.specs.declared.wire.Room.{Room}
use Rattle.sp_history.specs.declared.entry.Why.TheVariants as whys
use Rattle.sp_history.specs.declared.entry.Entry.TheVariants.{Full}
use Rattle.sp_history.specs.Moments.{past}
use Rattle.core_state.proofs.ChangedWires.{filled, failed, refused, without_memory}
use Rattle.core_state.proofs.PipeSteps.{wire_at, room_below, keeps_place, moved_still, emptied, roomy}
use Rattle.core_state.proofs.pipes.Pipes.ask.Goals as goal

pub room-requires : goal.room-requires
room-requires g c = let r = c.requires in (wire_at g.W.Wire.shown c.args.self.now r.0 c.args.i c.index_mut.result.now c.in-Some.wire r.3 r.4.inside c.index_mut.ensures.value c.in-Some.is).is_open

pub take_down-requires-clause-there : goal.take_down-requires-clause-there
take_down-requires-clause-there g c = let r = c.requires in keeps_place g.W.Wire.shown c.args.self.now _ r.0 c.args.i r.1 c.index_mut.result.now c.room.new.self r.3 r.4 refl refl

pub take_down-requires-clause-room : goal.take_down-requires-clause-room
take_down-requires-clause-room g c = let r = c.requires in room_below g.W.Wire.shown c.args.self.now r.0 c.args.i r.1 r.3 r.4

pub take_down-requires-in-Refused-clause-there : goal.take_down-requires-in-Refused-clause-there
take_down-requires-in-Refused-clause-there g c = let r = c.requires in keeps_place g.W.Wire.shown c.args.self.now _ r.0 c.args.i r.1 c.index_mut.result.now c.room.new.self r.3 r.4 refl refl

pub take_down-requires-in-Refused-clause-room : goal.take_down-requires-in-Refused-clause-room
take_down-requires-in-Refused-clause-room g c = let r = c.requires in room_below g.W.Wire.shown c.args.self.now r.0 c.args.i r.1 r.3 r.4

pub take_down-requires-in-NoMemory-clause-there : goal.take_down-requires-in-NoMemory-clause-there
take_down-requires-in-NoMemory-clause-there g c = let r = c.requires in keeps_place g.W.Wire.shown c.args.self.now _ r.0 c.args.i r.1 c.index_mut.result.now c.room.new.self r.3 r.4 refl refl

pub take_down-requires-in-NoMemory-clause-room : goal.take_down-requires-in-NoMemory-clause-room
take_down-requires-in-NoMemory-clause-room g c = let r = c.requires in room_below g.W.Wire.shown c.args.self.now r.0 c.args.i r.1 r.3 r.4

pub returns-in-Yes : goal.returns-in-Yes
returns-in-Yes g c = λ t p lawful h there.
    let after = subst (λ (r : Room). AfterRoom r (g.W.Wire.shown c.in-Some.wire) (g.W.Wire.shown c.room.new.self)) c.in-Yes.is c.room.ensures in
    roomy g.W.Wire.shown c.args.self.now _ t c.args.i p c.index_mut.result.now c.in-Some.wire c.room.new.self lawful h there c.index_mut.ensures.value c.in-Some.is after refl refl refl refl

pub returns-in-Full : goal.returns-in-Full
returns-in-Full g c = λ t p lawful h there.
    let after = subst (λ (r : Room). AfterRoom r (g.W.Wire.shown c.in-Some.wire) (g.W.Wire.shown c.room.new.self)) c.in-Full.is c.room.ensures in
    (moved_still g.W.Wire.shown c.args.self.now _ t (Full p) c.args.i p c.index_mut.result.now c.in-Some.wire c.room.new.self lawful h there c.index_mut.ensures.value c.in-Some.is refl refl refl refl (λ q. refl) (λ was. filled (past t) p _ _ was after) refl refl refl refl).0

pub returns-in-Failed : goal.returns-in-Failed
returns-in-Failed g c = λ t p lawful h there.
    let after = subst (λ (r : Room). AfterRoom r (g.W.Wire.shown c.in-Some.wire) (g.W.Wire.shown c.room.new.self)) c.in-Failed.is c.room.ensures in
    rw c.take_down.ensures.returned (λ q. cc, emptied g.W.Wire.shown c.args.self.now _ c.take_down.new.self t c.args.i p c.index_mut.result.now c.in-Some.wire c.room.new.self whys.Failed lawful h there c.index_mut.ensures.value c.in-Some.is (λ was. failed t.z (past t) p _ _ was.agrees after) refl refl refl refl c.take_down.ensures.empties)

pub returns-in-Refused : goal.returns-in-Refused
returns-in-Refused g c = λ t p lawful h there.
    let after = subst (λ (r : Room). AfterRoom r (g.W.Wire.shown c.in-Some.wire) (g.W.Wire.shown c.room.new.self)) c.in-Refused.is c.room.ensures in
    rw c.take_down-in-Refused.ensures.returned (λ q. cc, emptied g.W.Wire.shown c.args.self.now _ c.take_down-in-Refused.new.self t c.args.i p c.index_mut.result.now c.in-Some.wire c.room.new.self whys.Refusal lawful h there c.index_mut.ensures.value c.in-Some.is (λ was. refused t.z (past t) p _ _ was.agrees after) refl refl refl refl c.take_down-in-Refused.ensures.empties)

pub returns-in-NoMemory : goal.returns-in-NoMemory
returns-in-NoMemory g c = λ t p lawful h there.
    let after = subst (λ (r : Room). AfterRoom r (g.W.Wire.shown c.in-Some.wire) (g.W.Wire.shown c.room.new.self)) c.in-NoMemory.is c.room.ensures in
    rw c.take_down-in-NoMemory.ensures.returned (λ q. cc, emptied g.W.Wire.shown c.args.self.now _ c.take_down-in-NoMemory.new.self t c.args.i p c.index_mut.result.now c.in-Some.wire c.room.new.self whys.NoMemory lawful h there c.index_mut.ensures.value c.in-Some.is (λ was. without_memory t.z (past t) p _ _ was.agrees after) refl refl refl refl c.take_down-in-NoMemory.ensures.empties)

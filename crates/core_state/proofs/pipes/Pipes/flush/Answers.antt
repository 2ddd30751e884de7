use Rattle.std.specs.VecDeque.{deque_with_item}
use Rattle.core_state.specs.declared.pipes.Pipes.{Pipes}
use Rattle.std.proofs.Common.{Some, refl, subst}
use Rattle.sp_msg.specs.Wires.{AfterFlush}
use Rattle.sp_msg.specs.declared.wire.WireFlush.{WireFlush}
use Rattle.sp_history.specs.declared.entry.Why.TheVariants as whys
use Rattle.sp_history.specs.declared.entry.Entry.TheVariants.{Stall}
use Rattle.sp_history.specs.Moments.{past}
use Rattle.core_state.proofs.ChangedWires.{failed, refused, without_memory}
use Rattle.core_state.proofs.PipeSteps.{wire_at, room_below, keeps_place, moved_clear, moved_busy, keeps_listed, room_to_mark, emptied}
use Rattle.core_state.proofs.Marking.{busy_stall, is_stalled}
use Rattle.core_state.proofs.Flushing.{open_flushes, stalled, cleared, as_failed, as_refused, as_without_memory}
use Rattle.core_state.proofs.pipes.Pipes.flush.Goals as goal

pub flush-requires : goal.flush-requires
flush-requires g c =
    let r = c.requires in
    open_flushes (g.W.Wire.shown c.in-Some.wire) (wire_at g.W.Wire.shown c.args.self.now r.0 c.args.i c.index_mut.result.now c.in-Some.wire r.3 r.4.inside c.index_mut.ensures.value c.in-Some.is).is_open

pub take_down-requires-clause-there : goal.take_down-requires-clause-there
take_down-requires-clause-there g c = let r = c.requires in keeps_place g.W.Wire.shown c.args.self.now _ r.0 c.args.i r.1 c.index_mut.result.now c.flush.new.self r.3 r.4 refl refl

pub take_down-requires-clause-room : goal.take_down-requires-clause-room
take_down-requires-clause-room g c = let r = c.requires in room_below g.W.Wire.shown c.args.self.now r.0 c.args.i r.1 r.3 r.4

pub take_down-requires-in-Refused-clause-there : goal.take_down-requires-in-Refused-clause-there
take_down-requires-in-Refused-clause-there g c = let r = c.requires in keeps_place g.W.Wire.shown c.args.self.now _ r.0 c.args.i r.1 c.index_mut.result.now c.flush.new.self r.3 r.4 refl refl

pub take_down-requires-in-Refused-clause-room : goal.take_down-requires-in-Refused-clause-room
take_down-requires-in-Refused-clause-room g c = let r = c.requires in room_below g.W.Wire.shown c.args.self.now r.0 c.args.i r.1 r.3 r.4

pub take_down-requires-in-NoMemory-clause-there : goal.take_down-requires-in-NoMemory-clause-there
take_down-requires-in-NoMemory-clause-there g c = let r = c.requires in keeps_place g.W.Wire.shown c.args.self.now _ r.0 c.args.i r.1 c.index_mut.result.now c.flush.new.self r.3 r.4 refl refl

pub take_down-requires-in-NoMemory-clause-room : goal.take_down-requires-in-NoMemory-clause-room
take_down-requires-in-NoMemory-clause-room g c = let r = c.requires in room_below g.W.Wire.shown c.args.self.now r.0 c.args.i r.1 r.3 r.4

pub mark-requires-clause-room : goal.mark-requires-clause-room
mark-requires-clause-room g c =
    let r = c.requires in
    let k : Pipes g.row.W.Denot = record c.args.self.now { places = deque_with_item c.args.self.now.places c.args.i (record c.index_mut.result.now { wire = Some c.flush.new.self }) } in
    room_to_mark g.W.Wire.shown c.args.self.now k r.0 c.args.i r.1 c.index_mut.result.now c.in-Some.wire c.flush.new.self r.3 r.4 c.index_mut.ensures.value c.in-Some.is refl refl

pub returns-in-Empty-clause-flushed : goal.returns-in-Empty-clause-flushed
returns-in-Empty-clause-flushed g c = λ t p lawful h there.
    let after = subst (λ (r : WireFlush). AfterFlush r (g.W.Wire.shown c.in-Some.wire) (g.W.Wire.shown c.flush.new.self)) c.in-Empty.is c.flush.ensures in
    moved_clear g.W.Wire.shown c.args.self.now _ c.unmark.new.self t c.args.i p c.index_mut.result.now c.in-Some.wire c.flush.new.self lawful h there c.index_mut.ensures.value c.in-Some.is (λ was. cleared (past t) p _ _ was after) refl refl refl refl c.unmark.ensures

pub returns-in-NotYet-clause-flushed : goal.returns-in-NotYet-clause-flushed
returns-in-NotYet-clause-flushed g c = λ t p lawful h there.
    let after = subst (λ (r : WireFlush). AfterFlush r (g.W.Wire.shown c.in-Some.wire) (g.W.Wire.shown c.flush.new.self)) c.in-NotYet.is c.flush.ensures in
    moved_busy g.W.Wire.shown c.args.self.now _ c.mark.new.self t (Stall p) c.args.i p c.index_mut.result.now c.in-Some.wire c.flush.new.self lawful h there c.index_mut.ensures.value c.in-Some.is refl refl refl refl (λ q n. busy_stall (past t) p q n) (is_stalled (past t) p) (λ was. stalled (past t) p _ _ was after) refl refl refl refl c.mark.ensures

pub returns-in-NotYet-clause-listed : goal.returns-in-NotYet-clause-listed
returns-in-NotYet-clause-listed g c = λ t p lawful h there.
    keeps_listed g.W.Wire.shown c.args.self.now _ c.mark.new.self t c.args.i p c.index_mut.result.now c.in-Some.wire c.flush.new.self h there c.index_mut.ensures.value c.in-Some.is refl refl c.mark.ensures

pub returns-in-Failed-clause-flushed : goal.returns-in-Failed-clause-flushed
returns-in-Failed-clause-flushed g c = λ t p lawful h there.
    let after = subst (λ (r : WireFlush). AfterFlush r (g.W.Wire.shown c.in-Some.wire) (g.W.Wire.shown c.flush.new.self)) c.in-Failed.is c.flush.ensures in
    (λ q. cc, emptied g.W.Wire.shown c.args.self.now _ c.take_down.new.self t c.args.i p c.index_mut.result.now c.in-Some.wire c.flush.new.self whys.Failed lawful h there c.index_mut.ensures.value c.in-Some.is (λ was. failed t.z (past t) p _ _ was.agrees (as_failed _ _ after)) refl refl refl refl c.take_down.ensures.empties)

pub returns-in-Refused-clause-flushed : goal.returns-in-Refused-clause-flushed
returns-in-Refused-clause-flushed g c = λ t p lawful h there.
    let after = subst (λ (r : WireFlush). AfterFlush r (g.W.Wire.shown c.in-Some.wire) (g.W.Wire.shown c.flush.new.self)) c.in-Refused.is c.flush.ensures in
    (λ q. cc, emptied g.W.Wire.shown c.args.self.now _ c.take_down-in-Refused.new.self t c.args.i p c.index_mut.result.now c.in-Some.wire c.flush.new.self whys.Refusal lawful h there c.index_mut.ensures.value c.in-Some.is (λ was. refused t.z (past t) p _ _ was.agrees (as_refused _ _ after)) refl refl refl refl c.take_down-in-Refused.ensures.empties)

pub returns-in-NoMemory-clause-flushed : goal.returns-in-NoMemory-clause-flushed
returns-in-NoMemory-clause-flushed g c = λ t p lawful h there.
    let after = subst (λ (r : WireFlush). AfterFlush r (g.W.Wire.shown c.in-Some.wire) (g.W.Wire.shown c.flush.new.self)) c.in-NoMemory.is c.flush.ensures in
    (λ q. cc, emptied g.W.Wire.shown c.args.self.now _ c.take_down-in-NoMemory.new.self t c.args.i p c.index_mut.result.now c.in-Some.wire c.flush.new.self whys.NoMemory lawful h there c.index_mut.ensures.value c.in-Some.is (λ was. without_memory t.z (past t) p _ _ was.agrees (as_without_memory _ _ after)) refl refl refl refl c.take_down-in-NoMemory.ensures.empties)

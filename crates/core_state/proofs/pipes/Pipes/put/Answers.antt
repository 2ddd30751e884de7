use Rattle.std.specs.VecDeque.{deque_with_item}
use Rattle.core_state.specs.declared.pipes.Pipes.{Pipes}
use Rattle.std.proofs.Common.{Some, refl}
use Rattle.sp_history.specs.declared.entry.Entry.TheVariants.{Out}
use Rattle.sp_history.specs.Moments.{past}
use Rattle.core_state.proofs.ChangedWires.{sent}
use Rattle.core_state.proofs.PipeSteps.{wire_at, moved_busy, room_to_mark}
use Rattle.core_state.proofs.Marking.{busy_out, is_out}
use Rattle.core_state.proofs.pipes.Pipes.put.Goals as goal

pub put-requires-clause-is_open : goal.put-requires-clause-is_open
put-requires-clause-is_open g c = let r = c.requires in (wire_at g.W.Wire.shown c.args.self.now r.0 c.args.i c.index_mut.result.now c.in-Some.wire r.2 r.3.inside c.index_mut.ensures.value c.in-Some.is).is_open

pub mark-requires-clause-room : goal.mark-requires-clause-room
mark-requires-clause-room g c =
    let r = c.requires in
    let k : Pipes g.row.W.Denot = record c.args.self.now { places = deque_with_item c.args.self.now.places c.args.i (record c.index_mut.result.now { wire = Some c.put.new.self }) } in
    room_to_mark g.W.Wire.shown c.args.self.now k r.0 c.args.i r.1 c.index_mut.result.now c.in-Some.wire c.put.new.self r.2 r.3 c.index_mut.ensures.value c.in-Some.is refl refl

pub returns : goal.returns
returns g c = λ t p b lawful h there e.
    (moved_busy g.W.Wire.shown c.args.self.now _ c.mark.new.self t (Out p b) c.args.i p c.index_mut.result.now c.in-Some.wire c.put.new.self lawful h there c.index_mut.ensures.value c.in-Some.is refl refl refl refl (λ q n. busy_out (past t) p q b n) (is_out (past t) p b) (λ was. sent (past t) p b c.args.m _ _ e was c.put.ensures) refl refl refl refl c.mark.ensures).0

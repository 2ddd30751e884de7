use Rattle.std.specs.VecDeque.{deque_with_item}
use Rattle.core_state.specs.declared.pipes.Pipes.{Pipes}
use Rattle.std.proofs.Common.{Some, refl, subst}
use Rattle.sp_msg.specs.Wires.{AfterPull}
use Rattle.sp_msg.specs.declared.wire.WireIn.{WireIn}
use Rattle.sp_history.specs.Moments.{past}
use Rattle.sp_history.specs.declared.entry.Entry.TheVariants.{Frame, Quiet}
use Rattle.sp_history.specs.declared.entry.Why.TheVariants as whys
use Rattle.core_state.proofs.PipeSteps.{wire_at, room_below, keeps_place, moved_still, moved_busy, keeps_listed, room_to_mark, emptied}
use Rattle.core_state.proofs.Marking.{busy_frame, is_framed}
use Rattle.core_state.proofs.Pulling.{GoesDownSo, came, quieted, pull_goes_down, ended, malformed, failed, refused, without_memory}
use Rattle.core_state.proofs.pipes.Pipes.pull.Goals as goal
use Rattle.core_state.proofs.pipes.Pipes.pull.Goals.{in-Ended, in-Malformed, in-Failed, in-Refused, in-NoMemory}

pub pull-requires : goal.pull-requires
pull-requires g c = let r = c.requires in (wire_at g.W.Wire.shown c.args.self.now r.0 c.args.i c.index_mut.result.now c.in-Some.wire r.3 r.4.inside c.index_mut.ensures.value c.in-Some.is).is_open

pub take_down-requires-clause-there : goal.take_down-requires-clause-there
take_down-requires-clause-there g c = let r = c.requires in keeps_place g.W.Wire.shown c.args.self.now _ r.0 c.args.i r.1 c.index_mut.result.now c.pull.new.self r.3 r.4 refl refl

pub take_down-requires-clause-room : goal.take_down-requires-clause-room
take_down-requires-clause-room g c = let r = c.requires in room_below g.W.Wire.shown c.args.self.now r.0 c.args.i r.1 r.3 r.4

pub mark-requires-clause-room : goal.mark-requires-clause-room
mark-requires-clause-room g c =
    let r = c.requires in
    let k : Pipes g.row.W.Denot = record c.args.self.now { places = deque_with_item c.args.self.now.places c.args.i (record c.index_mut.result.now { wire = Some c.pull.new.self }) } in
    room_to_mark g.W.Wire.shown c.args.self.now k r.0 c.args.i r.1 c.index_mut.result.now c.in-Some.wire c.pull.new.self r.3 r.4 c.index_mut.ensures.value c.in-Some.is refl refl

pub returns-in-Message-clause-pulled : goal.returns-in-Message-clause-pulled
returns-in-Message-clause-pulled g c = λ t p lawful h there.
    let after = subst (λ (r : WireIn). AfterPull r (g.W.Wire.shown c.in-Some.wire) (g.W.Wire.shown c.pull.new.self)) c.in-Message.is c.pull.ensures in
    let now = moved_busy g.W.Wire.shown c.args.self.now _ c.mark.new.self t (Frame p c.in-Message.m.body) c.args.i p c.index_mut.result.now c.in-Some.wire c.pull.new.self lawful h there c.index_mut.ensures.value c.in-Some.is refl refl refl refl (λ q n. busy_frame (past t) p q c.in-Message.m.body n) (is_framed (past t) p c.in-Message.m.body) (λ was. came (past t) p c.in-Message.m _ _ was after) refl refl refl refl c.mark.ensures in
    (after.0, now.0, now.1)

pub returns-in-Message-clause-listed : goal.returns-in-Message-clause-listed
returns-in-Message-clause-listed g c = λ t p lawful h there.
    keeps_listed g.W.Wire.shown c.args.self.now _ c.mark.new.self t c.args.i p c.index_mut.result.now c.in-Some.wire c.pull.new.self h there c.index_mut.ensures.value c.in-Some.is refl refl c.mark.ensures

pub returns-in-NotYet-clause-pulled : goal.returns-in-NotYet-clause-pulled
returns-in-NotYet-clause-pulled g c = λ t p lawful h there.
    let after = subst (λ (r : WireIn). AfterPull r (g.W.Wire.shown c.in-Some.wire) (g.W.Wire.shown c.pull.new.self)) c.in-NotYet.is c.pull.ensures in
    (moved_still g.W.Wire.shown c.args.self.now _ t (Quiet p) c.args.i p c.index_mut.result.now c.in-Some.wire c.pull.new.self lawful h there c.index_mut.ensures.value c.in-Some.is refl refl refl refl (λ q. refl) (λ was. quieted (past t) p _ _ was after) refl refl refl refl).0

pub returns-clause-pulled : goal.returns-clause-pulled
returns-clause-pulled g c = λ t p lawful h there.
    let v = g.W.Wire.shown c.in-Some.wire in
    let w = g.W.Wire.shown c.pull.new.self in
    let so : GoesDownSo t.z (past t) p c.match-pull.why v w = elim c.match-pull.branch [
      | in-Ended k ↦ pull_goes_down t.z (past t) p v w whys.Ended c.match-pull.why k.why-is (ended t.z (past t) p v w (subst (λ (r : WireIn). AfterPull r v w) k.in-Ended.is c.pull.ensures))
      | in-Malformed k ↦ pull_goes_down t.z (past t) p v w whys.Malformed c.match-pull.why k.why-is (malformed t.z (past t) p v w (subst (λ (r : WireIn). AfterPull r v w) k.in-Malformed.is c.pull.ensures))
      | in-Failed k ↦ pull_goes_down t.z (past t) p v w whys.Failed c.match-pull.why k.why-is (failed t.z (past t) p v w (subst (λ (r : WireIn). AfterPull r v w) k.in-Failed.is c.pull.ensures))
      | in-Refused k ↦ pull_goes_down t.z (past t) p v w whys.Refusal c.match-pull.why k.why-is (refused t.z (past t) p v w (subst (λ (r : WireIn). AfterPull r v w) k.in-Refused.is c.pull.ensures))
      | in-NoMemory k ↦ pull_goes_down t.z (past t) p v w whys.NoMemory c.match-pull.why k.why-is (without_memory t.z (past t) p v w (subst (λ (r : WireIn). AfterPull r v w) k.in-NoMemory.is c.pull.ensures))
    ] in
    (so.1, emptied g.W.Wire.shown c.args.self.now _ c.take_down.new.self t c.args.i p c.index_mut.result.now c.in-Some.wire c.pull.new.self c.match-pull.why lawful h there c.index_mut.ensures.value c.in-Some.is (λ was. so.0 was.agrees) refl refl refl refl c.take_down.ensures.empties)

use Rattle.std.proofs.Common.{◌≡◌, refl, sym, ◌∙◌, subst, Option, ◌++◌, ℕ}
use Rattle.sp_history.specs.Past.{timers, timer_of}
use Rattle.sp_history.specs.Moments.{past}
use Rattle.core_state.specs.OperationsStand.{deadlines_of}
use Rattle.core_state.proofs.Starting.{lawful_before, slot_apart, slot_inside, has_room, slot_idle, with_deadline, with_none, begun}
use Rattle.core_state.proofs.operations.Operations.start.Goals as goal

pub add-requires-clause-slot : goal.add-requires-clause-slot
add-requires-clause-slot c = slot_inside c.args.self.now c.requires.0 c.args.op.slot c.requires.2

pub add-requires-clause-free : goal.add-requires-clause-free
add-requires-clause-free c = slot_apart c.args.self.now c.requires.0 c.args.op.slot c.requires.2

pub add-requires-clause-room : goal.add-requires-clause-room
add-requires-clause-room c = has_room c.args.self.now c.requires.0 c.args.op.slot c.requires.2

pub put-requires-clause-free : goal.put-requires-clause-free
put-requires-clause-free c =
    let l = lawful_before c.requires.0 _ c.requires.3 in
    slot_idle c.args.self.now c.requires.0 c.args.op.slot c.requires.2 l

pub returns-in-Some-clause-started : goal.returns-in-Some-clause-started
returns-in-Some-clause-started c =
    λ t act h l.
    let due = c.put.ensures.put ∙ with_deadline c.args.self.now t c.args.op c.in-Some.at h (lawful_before t _ l) in
    let due' = subst (λ (d : Option ℕ). c.put.new.self.schedule ≡ record { slots = t.z.slots; entries = deadlines_of (timers (past t) ++ timer_of c.args.op d) }) (sym c.in-Some.is) due in
    begun c.args.self.now _ t c.args.op c.args.ctx act c.args.deadline h c.add.ensures refl refl due'

pub returns-in_default-clause-started : goal.returns-in_default-clause-started
returns-in_default-clause-started c =
    λ t act h l.
    let due = subst (λ (d : Option ℕ). c.args.self.now.deadlines.schedule ≡ record { slots = t.z.slots; entries = deadlines_of (timers (past t) ++ timer_of c.args.op d) }) (sym c.in_default.is) (with_none c.args.self.now t c.args.op h) in
    begun c.args.self.now _ t c.args.op c.args.ctx act c.args.deadline h c.add.ensures refl refl due

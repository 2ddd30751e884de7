use Rattle.std.proofs.Common.{◌≡◌, ◌<◌, length, sym, ap, subst, ◌∙◌}
use Rattle.aio_expire.specs.declared.deadlines.Deadline.{Deadline}
use Rattle.aio_expire.specs.Schedule.{Schedule, Turning, count_of, put_in}
use Rattle.aio_expire.specs.SlotEntries.{SlotEntries, in_order}
use Rattle.aio_expire.proofs.WheelSchedules.{free-cell, put-schedule, schedule-of}
use Rattle.aio_expire.proofs.deadlines.Deadlines.put.Goals as goal

pub put-requires-clause-free : goal.put-requires-clause-free
put-requires-clause-free c =
    free-cell c.self.inside.by_slot.cells c.args.op.slot c.self.invariant.0 (subst (λ (v : Turning). count_of c.args.op.slot v.schedule.entries ≡ 0) (sym c.self.view_is) c.requires.free)

pub returns-clause-put : goal.returns-clause-put
returns-clause-put c =
    let cells = c.self.inside.by_slot.cells in
    let e : Deadline = record { at = c.args.at; op = c.args.op } in
    let lt : e.op.slot < length cells = subst (λ (v : Turning). e.op.slot < v.schedule.slots) (sym c.self.view_is) c.requires.slot in
    let free : count_of e.op.slot (in_order cells) ≡ 0 = subst (λ (v : Turning). count_of e.op.slot v.schedule.entries ≡ 0) (sym c.self.view_is) c.requires.free in
    ap (λ (v : SlotEntries). let s : Schedule = record { slots = length v.cells; entries = in_order v.cells } in s) c.put.ensures.put ∙ put-schedule cells e c.self.invariant.0 lt free
    ∙ ap (λ (v : Turning). let s : Schedule = record { slots = v.schedule.slots; entries = put_in e v.schedule.entries } in s) c.self.view_is

pub returns-clause-schedule : goal.returns-clause-schedule
returns-clause-schedule c = schedule-of c.put.new.self.cells c.put.ensures.own

use Rattle.std.proofs.Common.{◌<◌, None, length, set, ap, subst, ◌∙◌}
use Rattle.std.specs.Prelude.{is_some, IsTrue, ◌↔◌}
use Rattle.aio_expire.specs.Schedule.{Schedule, Turning, count_of, others_than}
use Rattle.aio_expire.specs.SlotEntries.{SlotEntries, AreOwn, in_order}
use Rattle.aio_expire.proofs.WheelSchedules.{had-entry, take-schedule, schedule-of}
use Rattle.aio_expire.proofs.deadlines.Deadlines.remove.Goals as goal

pub returns-clause-had : goal.returns-clause-had
returns-clause-had c =
    subst (λ (v : Turning). IsTrue c.is_some.result ↔ (0 < count_of c.args.slot v.schedule.entries)) c.self.view_is
    (had-entry c.self.inside.by_slot.cells c.args.slot c.is_some.result c.self.invariant.0 (c.is_some.ensures ∙ ap is_some c.take.ensures.entry))

pub returns-clause-rest : goal.returns-clause-rest
returns-clause-rest c =
    let cells = c.self.inside.by_slot.cells in
    let own' : AreOwn (set cells c.args.slot None) = subst (λ (v : SlotEntries). AreOwn v.cells) c.take.ensures.rest c.take.ensures.own in
    ap (λ (v : SlotEntries). let s : Schedule = record { slots = length v.cells; entries = in_order v.cells } in s) c.take.ensures.rest ∙ take-schedule cells c.args.slot c.self.invariant.0 own'
    ∙ ap (λ (v : Turning). let s : Schedule = record { slots = v.schedule.slots; entries = others_than c.args.slot v.schedule.entries } in s) c.self.view_is

pub returns-clause-schedule : goal.returns-clause-schedule
returns-clause-schedule c = schedule-of c.take.new.self.cells c.take.ensures.own

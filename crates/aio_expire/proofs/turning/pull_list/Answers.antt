use Rattle.std.proofs.Common.{◌≡◌, ◌<◌, ◌++◌, ◌∷◌, [], Some, None, true, List, set, sym, subst, ◌∙◌, arith}
use Rattle.aio_expire.specs.declared.deadlines.Deadline.{Deadline}
use Rattle.aio_expire.specs.SlotEntries.{SlotEntries, cell_at, count_cells, IsPulled}
use Rattle.aio_expire.proofs.Pulling.{pulled-one, pulled-room, held-one}
use Rattle.aio_expire.proofs.turning.pull_list.Goals as goal

pub push_reserved-requires : goal.push_reserved-requires
push_reserved-requires c =
    let h : cell_at c.in-Some.slot c.loop-slot.by_slot.cells ≡ Some c.in-Some-take.entry = sym c.take.ensures.entry ∙ c.in-Some-take.is in
    let one = held-one c.loop-slot.by_slot.cells c.in-Some.slot c.in-Some-take.entry h in
    let room = pulled-room _ _ _ _ c.loop-slot.invariant.pulled in
    omega (arith, one, room, c.requires.room, c.loop-slot.invariant.room, c.loop-slot.pulled.ok)

pub loop-slot-smaller : goal.loop-slot-smaller
loop-slot-smaller c =
    let h : cell_at c.in-Some.slot c.loop-slot.by_slot.cells ≡ Some c.in-Some-take.entry = sym c.take.ensures.entry ∙ c.in-Some-take.is in
    let one = held-one c.loop-slot.by_slot.cells c.in-Some.slot c.in-Some-take.entry h in
    let less : count_cells (λ d. true) (set c.loop-slot.by_slot.cells c.in-Some.slot None) < count_cells (λ d. true) c.loop-slot.by_slot.cells = omega (arith, one) in
    subst (λ (s : SlotEntries). count_cells (λ d. true) s.cells < count_cells (λ d. true) c.loop-slot.by_slot.cells) (sym c.take.ensures.rest) less

pub loop-slot-preserved : goal.loop-slot-preserved
loop-slot-preserved c =
    let h : cell_at c.in-Some.slot c.loop-slot.by_slot.cells ≡ Some c.in-Some-take.entry = sym c.take.ensures.entry ∙ c.in-Some-take.is in
    let items = c.push_reserved.ensures.items in
    let step = pulled-one c.args.by_slot.now c.args.pulled.now.items c.loop-slot.by_slot c.loop-slot.pulled.items c.in-Some.slot c.in-Some-take.entry c.loop-slot.invariant.pulled h in
    record {
      pulled = subst (λ (es : List Deadline). IsPulled c.args.by_slot.now c.args.pulled.now.items c.take.new.self es) (sym items)
          (subst (λ (s : SlotEntries). IsPulled c.args.by_slot.now c.args.pulled.now.items s (c.loop-slot.pulled.items ++ c.in-Some-take.entry ∷ [])) (sym c.take.ensures.rest) step);
      room = c.push_reserved.ensures.capacity ∙ c.loop-slot.invariant.room;
    }

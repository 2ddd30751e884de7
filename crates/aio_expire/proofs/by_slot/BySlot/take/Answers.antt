use Rattle.std.proofs.Common.{◌≡◌, ◌<◌, Some, None, length, sym, ◌∙◌, arith}
use Rattle.std.proofs.lemmas.List.{length-set, get_or_read}
use Rattle.aio_expire.specs.SlotEntries.{cell_at}
use Rattle.aio_expire.proofs.Filing.{filed-take, own-take, listed}
use Rattle.aio_expire.proofs.by_slot.BySlot.take.Goals as goal

pub unlink-requires : goal.unlink-requires
unlink-requires c =
    let cells = c.self.inside.cells.items in
    let lt : c.args.slot < length cells = omega (arith, c.if-slot-len.false, c.len.ensures, c.self.inside.cells.ok) in
    let is : cell_at c.args.slot cells ≡ Some c.in_ok-entry.entry = sym (get_or_read cells c.args.slot c.index.result.now lt c.index.ensures None) ∙ c.in_ok-entry.was in
    listed c.self.inside.turned cells c.self.inside.wheel.lists c.self.invariant.1 c.args.slot c.in_ok-entry.entry is

pub invariant_of-self : goal.invariant_of-self
invariant_of-self c =
    let cells = c.self.inside.cells.items in
    let lt : c.args.slot < length cells = omega (arith, c.if-slot-len.false, c.len.ensures, c.self.inside.cells.ok) in (
      own-take cells c.args.slot c.self.invariant.0 lt,
      filed-take c.self.inside.turned cells c.self.inside.wheel.lists c.self.invariant.1 c.args.slot c.unlink.new.self.lists lt c.unlink.ensures.lists,
      c.unlink.ensures.slots ∙ c.self.invariant.2 ∙ sym (length-set cells c.args.slot None),
      c.unlink.ensures.count,
    )

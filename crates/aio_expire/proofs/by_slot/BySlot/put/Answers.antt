use Rattle.std.proofs.Common.{◌≡◌, ◌<◌, ℕ, Some, None, length, sym, ap, subst, ◌∙◌}
use Rattle.std.proofs.lemmas.List.{length-set}
use Rattle.aio_expire.specs.Buckets.{list_at, joined_at}
use Rattle.aio_expire.specs.SlotEntries.{SlotEntries, cell_at}
use Rattle.aio_expire.proofs.Filing.{filed-put, own-put}
use Rattle.aio_expire.proofs.by_slot.BySlot.put.Goals as goal

pub invariant_of-self : goal.invariant_of-self
invariant_of-self c =
    let cells = c.self.inside.cells.items in
    let e = c.args.entry in
    let lt : e.op.slot < length cells = subst (λ (v : SlotEntries). e.op.slot < length v.cells) (sym c.self.view_is) c.requires.slot in
    let free : cell_at e.op.slot cells ≡ None = subst (λ (v : SlotEntries). cell_at e.op.slot v.cells ≡ None) (sym c.self.view_is) c.requires.free in
    let b = c.bucket_of-bucket.ensures.bucket in (
      own-put cells e c.self.invariant.0 lt,
      filed-put c.self.inside.turned cells c.self.inside.wheel.lists c.self.invariant.1 e c.link.new.self.lists free lt
          (λ k. c.link.ensures.lists k ∙ ap (λ (i : ℕ). joined_at e.op.slot i k (list_at k c.self.inside.wheel.lists)) b),
      c.link.ensures.slots ∙ c.self.invariant.2 ∙ sym (length-set cells e.op.slot (Some e)),
      c.link.ensures.count,
    )

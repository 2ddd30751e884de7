use Rattle.std.proofs.Common.{◌≡◌, ◌<◌, ℕ, Some, None, sym, subst, ◌∙◌}
use Rattle.aio_expire.specs.Buckets.{list_at}
use Rattle.aio_expire.specs.SlotEntries.{SlotEntries, cell_at, belongs}
use Rattle.aio_expire.proofs.Filing.{first-some, first-none}
use Rattle.aio_expire.proofs.by_slot.BySlot.first.Goals as goal

pub returns-clause-some : goal.returns-clause-some
returns-clause-some c =
    subst (λ (v : SlotEntries). (slot : ℕ) → c.first.result ≡ Some slot → 0 < belongs v.turned c.args.bucket (cell_at slot v.cells)) c.self.view_is
    (λ slot e. subst (λ (i : ℕ). 0 < i) (c.self.invariant.1 c.args.bucket slot) (first-some (list_at c.args.bucket c.self.inside.wheel.lists) slot (sym c.first.ensures ∙ e)))

pub returns-clause-none : goal.returns-clause-none
returns-clause-none c =
    subst (λ (v : SlotEntries). c.first.result ≡ None → (slot : ℕ) → belongs v.turned c.args.bucket (cell_at slot v.cells) ≡ 0) c.self.view_is
    (λ e slot. sym (c.self.invariant.1 c.args.bucket slot) ∙ first-none (list_at c.args.bucket c.self.inside.wheel.lists) slot (sym c.first.ensures ∙ e))

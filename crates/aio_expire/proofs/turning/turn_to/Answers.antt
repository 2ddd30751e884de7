use Rattle.std.proofs.Common.{◌≡◌, ◌<◌, ℕ, sym, ap, ◌∙◌, max, arith}
use Rattle.aio_expire.specs.SlotEntries.{bucket_of}
use Rattle.aio_expire.proofs.turning.turn_to.Goals as goal

later : (m n a b : ℕ) → a ≡ m → b ≡ n → a < b → max m n ≡ n
later m n a b p q l = omega arith

pub turn-requires : goal.turn-requires
turn-requires c = λ slot e h.
    let s = (c.requires slot e h).1 in
    let m = later c.args.by_slot.now.turned c.args.now _ _ (c.turned-2.view_is ∙ c.turned.ensures.turned) c.now.view_is c.if-turned-now.true in
    sym (ap (λ (i : ℕ). bucket_of i e.at) m) ∙ s

use Rattle.std.proofs.Common.{◌≡◌, ℕ, sym, subst, ◌∙◌, arith}
use Rattle.aio_expire.specs.SlotEntries.{StaysAt, IsOutside, bucket_of}
use Rattle.aio_expire.proofs.Pulling.{pulled-room, stays, empty-fewer}
use Rattle.aio_expire.proofs.turning.pull.Goals as goal

pub pull_lists-requires-2-clause-room : goal.pull_lists-requires-2-clause-room
pull_lists-requires-2-clause-room c = let room = pulled-room _ _ _ _ c.pull_lists.ensures.pulled in omega (arith, room, c.requires.room, c.pull_lists.ensures.room)

pub returns-clause-stay : goal.returns-clause-stay
returns-clause-stay c =
    let l = c.lists_passed-lists.result in
    let one = c.pull_lists.ensures in
    let two = c.pull_lists-2.ensures in
    let s = c.pull_lists-2.new.by_slot in
    let same : c.turned.result ≡ s.turned = c.turned.ensures.turned ∙ sym (two.pulled.turned ∙ one.pulled.turned) in
    let h = subst (λ (m : ℕ). (at : ℕ) → IsOutside l.tick l.tick_end l.span l.span_end (bucket_of m at) → StaysAt m c.args.now at) same c.lists_passed-lists.ensures.stays in
    stays c.args.now l.tick l.tick_end l.span l.span_end s h (λ b slot k m. empty-fewer _ _ _ _ b slot two.pulled (one.empty b slot k m)) two.empty

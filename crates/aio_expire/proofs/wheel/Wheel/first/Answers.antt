use Rattle.std.proofs.Common.{◌+◌, ◌<◌, ℕ, Some, None, cond, length, sym, ap, ◌∙◌, arith}
use Rattle.std.specs.Prelude.{nat_lt, slice_get}
use Rattle.std.proofs.lemmas.List.{get_or_read}
use Rattle.aio_expire.specs.Buckets.{Buckets, list_at}
use Rattle.aio_expire.proofs.Wheels.{first-of}
use Rattle.aio_expire.proofs.wheel.Wheel.first.Goals as goal

pub returns : goal.returns
returns c =
    let n = c.self.inside.slots in
    let nx = c.self.inside.next.items in
    let l = c.self.invariant.0.next_length in
    let lt : n + c.args.bucket < length nx = omega (arith, l, c.requires) in
    let r = get_or_read nx (n + c.args.bucket) c.index.result.now lt c.index.ensures 0 in
    let slots = ap (λ (v : Buckets). v.slots) c.self.view_is in
    c.slot.ensures ∙ ap (λ (i : ℕ). cond (nat_lt c.index.result.now i) (Some c.index.result.now) None) (sym slots) ∙ ap (λ (i : ℕ). cond (nat_lt i n) (Some i) None) r
    ∙ first-of n nx c.self.inside.prev.items c.args.bucket c.self.invariant.0 c.requires ∙ ap (λ (v : Buckets). slice_get (list_at c.args.bucket v.lists) 0) c.self.view_is

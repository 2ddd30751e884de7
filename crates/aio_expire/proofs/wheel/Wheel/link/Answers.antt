use Rattle.std.proofs.Common.{◌≡◌, ◌+◌, ◌<◌, ℕ, length, sym, ap, subst, ◌∙◌, arith}
use Rattle.std.proofs.lemmas.List.{get_or_read}
use Rattle.aio_expire.specs.Buckets.{Buckets, list_at, count_in, rings, joined_at}
use Rattle.aio_expire.proofs.Wheels.{rings-with}
use Rattle.aio_expire.proofs.wheel.Wheel.link.Goals as goal

pub invariant_of-self : goal.invariant_of-self
invariant_of-self c =
    let n = c.self.inside.slots in
    let nx = c.self.inside.next.items in
    let l = c.self.invariant.0.next_length in
    let lt : n + c.args.bucket < length nx = omega (arith, l, c.requires.bucket) in
    let r = get_or_read nx (n + c.args.bucket) c.index-first.result.now lt c.index-first.ensures 0 in
    let slots = ap (λ (v : Buckets). v.slots) c.self.view_is in
    let free : (b : ℕ) → count_in c.args.slot (list_at b (rings n nx)) ≡ 0 = λ b. subst (λ (v : Buckets). count_in c.args.slot (list_at b v.lists) ≡ 0) (sym c.self.view_is) (c.requires.free b) in
    ((rings-with n nx c.self.inside.prev.items c.args.slot c.args.bucket c.index-first.result.now r c.self.invariant.0 c.requires.bucket (omega (arith, slots, c.requires.slot)) free).0, c.self.invariant.1)

pub returns-clause-lists : goal.returns-clause-lists
returns-clause-lists c =
    let n = c.self.inside.slots in
    let nx = c.self.inside.next.items in
    let l = c.self.invariant.0.next_length in
    let lt : n + c.args.bucket < length nx = omega (arith, l, c.requires.bucket) in
    let r = get_or_read nx (n + c.args.bucket) c.index-first.result.now lt c.index-first.ensures 0 in
    let slots = ap (λ (v : Buckets). v.slots) c.self.view_is in
    let free : (b : ℕ) → count_in c.args.slot (list_at b (rings n nx)) ≡ 0 = λ b. subst (λ (v : Buckets). count_in c.args.slot (list_at b v.lists) ≡ 0) (sym c.self.view_is) (c.requires.free b) in
    λ b. (rings-with n nx c.self.inside.prev.items c.args.slot c.args.bucket c.index-first.result.now r c.self.invariant.0 c.requires.bucket (omega (arith, slots, c.requires.slot)) free).1 b
    ∙ ap (λ (v : Buckets). joined_at c.args.slot c.args.bucket b (list_at b v.lists)) c.self.view_is

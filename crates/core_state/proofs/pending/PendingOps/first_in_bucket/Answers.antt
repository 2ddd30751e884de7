use Rattle.std.proofs.Common.{◌<◌, ◌+◌, ap, sym, ◌∙◌, subst, arith}
use Rattle.core_state.specs.Pendings.{PendingView, first_of, in_bucket, bucket_of}
use Rattle.core_state.proofs.PendingSteps.{bucket_first_told}
use Rattle.core_state.proofs.pending.PendingOps.first_in_bucket.Goals as goal

pub returns-then-slot-head : goal.returns-then-slot-head
returns-then-slot-head c =
    let head = c.head_of-head.ensures.head ∙ ap (λ (v : PendingView). v.slots + bucket_of v.slots c.args.ctx) (sym c.self.view_is) in
    let bucket = subst (λ (v : PendingView). bucket_of v.slots c.args.ctx < v.slots) (sym c.self.view_is) c.head_of-head.ensures.bucket in
    let t = bucket_first_told c.self.inside.slots c.self.inside.places.items c.self.inside.order c.self.inside.buckets _ c.self.invariant c.args.ctx c.head_of-head.result c.next-slot.result head bucket c.next-slot.ensures in
    sym (t.0 c.if-slot-head.true) ∙ ap (λ (v : PendingView). first_of (in_bucket v.slots (bucket_of v.slots c.args.ctx) v.items)) c.self.view_is

pub index-requires : goal.index-requires
index-requires c =
    let head = c.head_of-head.ensures.head ∙ ap (λ (v : PendingView). v.slots + bucket_of v.slots c.args.ctx) (sym c.self.view_is) in
    let bucket = subst (λ (v : PendingView). bucket_of v.slots c.args.ctx < v.slots) (sym c.self.view_is) c.head_of-head.ensures.bucket in
    let t = bucket_first_told c.self.inside.slots c.self.inside.places.items c.self.inside.order c.self.inside.buckets _ c.self.invariant c.args.ctx c.head_of-head.result c.next-slot.result head bucket c.next-slot.ensures in
    omega (arith, (t.1 c.if-slot-head.false).0, c.self.inside.places.ok)

pub returns : goal.returns
returns c =
    let head = c.head_of-head.ensures.head ∙ ap (λ (v : PendingView). v.slots + bucket_of v.slots c.args.ctx) (sym c.self.view_is) in
    let bucket = subst (λ (v : PendingView). bucket_of v.slots c.args.ctx < v.slots) (sym c.self.view_is) c.head_of-head.ensures.bucket in
    let t = bucket_first_told c.self.inside.slots c.self.inside.places.items c.self.inside.order c.self.inside.buckets _ c.self.invariant c.args.ctx c.head_of-head.result c.next-slot.result head bucket c.next-slot.ensures in
    c.index.ensures ∙ (t.1 c.if-slot-head.false).1 _ ∙ ap (λ (v : PendingView). first_of (in_bucket v.slots (bucket_of v.slots c.args.ctx) v.items)) c.self.view_is

use Rattle.std.proofs.Common.{◌<◌, ◌+◌, ap, sym, ◌∙◌, subst, arith}
use Rattle.std.specs.Prelude.{map}
use Rattle.core_state.specs.Pendings.{PendingView, IsAmong, Differ, slot_of, behind, in_bucket, bucket_of}
use Rattle.core_state.proofs.PendingSteps.{bucket_next_told, slot_inside}
use Rattle.core_state.proofs.pending.PendingOps.next_in_bucket.Goals as goal

pub next-slot-requires : goal.next-slot-requires
next-slot-requires c =
    let among = subst (λ (v : PendingView). IsAmong c.args.x.now v.items) (sym c.self.view_is) c.requires in
    let inside = slot_inside c.self.inside.slots c.self.inside.places.items c.self.inside.order c.self.inside.buckets _ c.self.invariant c.args.x.now among in
    omega (arith, inside, c.self.invariant.buckets_after)

pub returns-then-slot-head-clause-next : goal.returns-then-slot-head-clause-next
returns-then-slot-head-clause-next c =
    let among = subst (λ (v : PendingView). IsAmong c.args.x.now v.items) (sym c.self.view_is) c.requires in
    let head = c.head_of-head.ensures.head ∙ ap (λ (v : PendingView). v.slots + bucket_of v.slots c.args.x.now.ctx) (sym c.self.view_is) in
    let bucket = subst (λ (v : PendingView). bucket_of v.slots c.args.x.now.ctx < v.slots) (sym c.self.view_is) c.head_of-head.ensures.bucket in
    let t = bucket_next_told c.self.inside.slots c.self.inside.places.items c.self.inside.order c.self.inside.buckets _ c.self.invariant c.args.x.now c.head_of-head.result c.next-slot.result among head bucket c.next-slot.ensures in
    sym (t.0 c.if-slot-head.true) ∙ ap (λ (v : PendingView). behind c.args.x.now.op (in_bucket v.slots (bucket_of v.slots c.args.x.now.ctx) v.items)) c.self.view_is

pub returns-then-slot-head-clause-apart : goal.returns-then-slot-head-clause-apart
returns-then-slot-head-clause-apart c = subst (λ (v : PendingView). Differ (map slot_of v.items)) c.self.view_is c.self.invariant.differ

pub index-requires : goal.index-requires
index-requires c =
    let among = subst (λ (v : PendingView). IsAmong c.args.x.now v.items) (sym c.self.view_is) c.requires in
    let head = c.head_of-head.ensures.head ∙ ap (λ (v : PendingView). v.slots + bucket_of v.slots c.args.x.now.ctx) (sym c.self.view_is) in
    let bucket = subst (λ (v : PendingView). bucket_of v.slots c.args.x.now.ctx < v.slots) (sym c.self.view_is) c.head_of-head.ensures.bucket in
    let t = bucket_next_told c.self.inside.slots c.self.inside.places.items c.self.inside.order c.self.inside.buckets _ c.self.invariant c.args.x.now c.head_of-head.result c.next-slot.result among head bucket c.next-slot.ensures in
    omega (arith, (t.1 c.if-slot-head.false).0, c.self.inside.places.ok)

pub returns-clause-apart : goal.returns-clause-apart
returns-clause-apart c = subst (λ (v : PendingView). Differ (map slot_of v.items)) c.self.view_is c.self.invariant.differ

pub returns-clause-next : goal.returns-clause-next
returns-clause-next c =
    let among = subst (λ (v : PendingView). IsAmong c.args.x.now v.items) (sym c.self.view_is) c.requires in
    let head = c.head_of-head.ensures.head ∙ ap (λ (v : PendingView). v.slots + bucket_of v.slots c.args.x.now.ctx) (sym c.self.view_is) in
    let bucket = subst (λ (v : PendingView). bucket_of v.slots c.args.x.now.ctx < v.slots) (sym c.self.view_is) c.head_of-head.ensures.bucket in
    let t = bucket_next_told c.self.inside.slots c.self.inside.places.items c.self.inside.order c.self.inside.buckets _ c.self.invariant c.args.x.now c.head_of-head.result c.next-slot.result among head bucket c.next-slot.ensures in
    c.index.ensures ∙ (t.1 c.if-slot-head.false).1 _ ∙ ap (λ (v : PendingView). behind c.args.x.now.op (in_bucket v.slots (bucket_of v.slots c.args.x.now.ctx) v.items)) c.self.view_is

use Rattle.std.proofs.Common.{◌<◌, ◌+◌, ◌++◌, ◌∷◌, [], Some, List, length, refl, ap, sym, ◌∙◌, subst, set, ℕ}
use Rattle.std.specs.Prelude.{map}
use Rattle.core_state.specs.declared.pending.PendingOperation.{PendingOperation}
use Rattle.core_state.specs.Rings.{PutsLast}
use Rattle.core_state.specs.Pendings.{PendingView, NotIn, Keeps, slot_of, bucket_of, shown}
use Rattle.core_state.proofs.PendingSteps.{order_room, bucket_room, put_in, seen}
use Rattle.core_state.proofs.pending.PendingOps.add.Goals as goal

pub put_last-requires : goal.put_last-requires
put_last-requires c =
    let inside = subst (λ (v : PendingView). c.args.op.slot < v.slots) (sym c.self.view_is) c.requires.slot in
    order_room c.self.inside.slots c.self.inside.places.items c.self.inside.order c.self.inside.buckets _ c.self.invariant c.args.op.slot inside

pub put_last-requires-2 : goal.put_last-requires-2
put_last-requires-2 c =
    let inside = subst (λ (v : PendingView). c.args.op.slot < v.slots) (sym c.self.view_is) c.requires.slot in
    let head = c.head_of-head.ensures.head ∙ ap (λ (v : PendingView). v.slots + bucket_of v.slots c.args.ctx) (sym c.self.view_is) in
    let bucket = subst (λ (v : PendingView). bucket_of v.slots c.args.ctx < v.slots) (sym c.self.view_is) c.head_of-head.ensures.bucket in
    bucket_room c.self.inside.slots c.self.inside.places.items c.self.inside.order c.self.inside.buckets _ c.self.invariant c.args.ctx c.args.op.slot c.head_of-head.result inside head bucket

pub invariant_of-self : goal.invariant_of-self
invariant_of-self c =
    let slots = c.self.inside.slots in
    let places = c.self.inside.places.items in
    let x : PendingOperation = record { op = c.args.op; ctx = c.args.ctx } in
    let xs = shown slots places c.self.inside.order in
    let inside = subst (λ (v : PendingView). c.args.op.slot < v.slots) (sym c.self.view_is) c.requires.slot in
    let free = subst (λ (v : PendingView). NotIn c.args.op.slot (map slot_of v.items)) (sym c.self.view_is) c.requires.free in
    let room = subst (λ (v : PendingView). length v.items < v.slots) (sym c.self.view_is) c.requires.room in
    let head = c.head_of-head.ensures.head ∙ ap (λ (v : PendingView). v.slots + bucket_of v.slots c.args.ctx) (sym c.self.view_is) in
    let bucket = subst (λ (v : PendingView). bucket_of v.slots c.args.ctx < v.slots) (sym c.self.view_is) c.head_of-head.ensures.bucket in
    let buckets : PutsLast (slots + bucket_of slots c.args.ctx) c.args.op.slot c.self.inside.buckets c.put_last-2.new.self = subst (λ (h : ℕ). PutsLast h c.args.op.slot c.self.inside.buckets c.put_last-2.new.self) head c.put_last-2.ensures in
    let k : Keeps slots (set places c.args.op.slot (Some x)) c.put_last.new.self c.put_last-2.new.self (xs ++ x ∷ []) = put_in slots places _ c.self.inside.order c.self.inside.buckets c.put_last.new.self c.put_last-2.new.self xs x c.self.invariant inside free room c.put_last.ensures bucket buckets refl in
    subst (λ (zs : List PendingOperation). Keeps slots (set places c.args.op.slot (Some x)) c.put_last.new.self c.put_last-2.new.self zs) (sym (seen slots _ c.put_last.new.self c.put_last-2.new.self (xs ++ x ∷ []) k)) k

pub returns : goal.returns
returns c =
    let slots = c.self.inside.slots in
    let places = c.self.inside.places.items in
    let x : PendingOperation = record { op = c.args.op; ctx = c.args.ctx } in
    let xs = shown slots places c.self.inside.order in
    let inside = subst (λ (v : PendingView). c.args.op.slot < v.slots) (sym c.self.view_is) c.requires.slot in
    let free = subst (λ (v : PendingView). NotIn c.args.op.slot (map slot_of v.items)) (sym c.self.view_is) c.requires.free in
    let room = subst (λ (v : PendingView). length v.items < v.slots) (sym c.self.view_is) c.requires.room in
    let head = c.head_of-head.ensures.head ∙ ap (λ (v : PendingView). v.slots + bucket_of v.slots c.args.ctx) (sym c.self.view_is) in
    let bucket = subst (λ (v : PendingView). bucket_of v.slots c.args.ctx < v.slots) (sym c.self.view_is) c.head_of-head.ensures.bucket in
    let buckets : PutsLast (slots + bucket_of slots c.args.ctx) c.args.op.slot c.self.inside.buckets c.put_last-2.new.self = subst (λ (h : ℕ). PutsLast h c.args.op.slot c.self.inside.buckets c.put_last-2.new.self) head c.put_last-2.ensures in
    let k : Keeps slots (set places c.args.op.slot (Some x)) c.put_last.new.self c.put_last-2.new.self (xs ++ x ∷ []) = put_in slots places _ c.self.inside.order c.self.inside.buckets c.put_last.new.self c.put_last-2.new.self xs x c.self.invariant inside free room c.put_last.ensures bucket buckets refl in
    let now = seen slots _ c.put_last.new.self c.put_last-2.new.self (xs ++ x ∷ []) k in
    ap (λ (zs : List PendingOperation). let v : PendingView = record { slots = slots; items = zs } in v) now ∙ ap (λ (v : PendingView). record v { items = v.items ++ x ∷ [] }) c.self.view_is

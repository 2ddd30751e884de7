use Rattle.std.proofs.Common.{◌<◌, None, List, length, ap, sym, ◌∙◌, subst, set, arith}
use Rattle.sp_base.specs.declared.OpName.{OpName}
use Rattle.core_state.specs.declared.pending.PendingOperation.{PendingOperation}
use Rattle.core_state.specs.Rings.{at}
use Rattle.core_state.specs.Pendings.{PendingView, IsAmong, Keeps, others_than, shown}
use Rattle.core_state.proofs.PendingSteps.{order_neighbours, bucket_neighbours, slot_inside, named_out, bucket_below, seen}
use Rattle.core_state.proofs.pending.PendingOps.take_out.Goals as goal

pub take_out-requires : goal.take_out-requires
take_out-requires c =
    let among = subst (λ (v : PendingView). IsAmong c.requires.0 v.items) (sym c.self.view_is) c.requires.1 in
    let o = c.self.inside.order in
    subst (λ (p : OpName). (p.slot < length o.before.items) × (p.slot < length o.after.items) × (at o.before.items p.slot < length o.after.items) × (at o.after.items p.slot < length o.before.items)) c.requires.2
    (order_neighbours c.self.inside.slots c.self.inside.places.items o c.self.inside.buckets _ c.self.invariant c.requires.0 among)

pub take_out-requires-2 : goal.take_out-requires-2
take_out-requires-2 c =
    let among = subst (λ (v : PendingView). IsAmong c.requires.0 v.items) (sym c.self.view_is) c.requires.1 in
    let l = c.self.inside.buckets in
    subst (λ (p : OpName). (p.slot < length l.before.items) × (p.slot < length l.after.items) × (at l.before.items p.slot < length l.after.items) × (at l.after.items p.slot < length l.before.items)) c.requires.2
    (bucket_neighbours c.self.inside.slots c.self.inside.places.items c.self.inside.order l _ c.self.invariant c.requires.0 among (bucket_below c.self.inside.slots c.requires.0.ctx c.self.invariant.some))

pub index_mut-requires : goal.index_mut-requires
index_mut-requires c =
    let among = subst (λ (v : PendingView). IsAmong c.requires.0 v.items) (sym c.self.view_is) c.requires.1 in
    let inside : c.args.op.slot < c.self.inside.slots = subst (λ (p : OpName). p.slot < c.self.inside.slots) c.requires.2 (slot_inside c.self.inside.slots c.self.inside.places.items c.self.inside.order c.self.inside.buckets _ c.self.invariant c.requires.0 among) in
    omega (arith, inside, c.self.invariant.place_count, c.self.inside.places.ok)

pub invariant_of-self : goal.invariant_of-self
invariant_of-self c =
    let slots = c.self.inside.slots in
    let places = c.self.inside.places.items in
    let xs = shown slots places c.self.inside.order in
    let among = subst (λ (v : PendingView). IsAmong c.requires.0 v.items) (sym c.self.view_is) c.requires.1 in
    let k : Keeps slots (set places c.args.op.slot None) c.take_out.new.self c.take_out-2.new.self (others_than c.args.op xs) = named_out slots places c.self.inside.order c.self.inside.buckets c.take_out.new.self c.take_out-2.new.self xs c.requires.0 c.args.op c.requires.2 c.self.invariant among c.take_out.ensures c.take_out-2.ensures in
    subst (λ (zs : List PendingOperation). Keeps slots (set places c.args.op.slot None) c.take_out.new.self c.take_out-2.new.self zs) (sym (seen slots _ c.take_out.new.self c.take_out-2.new.self (others_than c.args.op xs) k)) k

pub returns : goal.returns
returns c =
    let slots = c.self.inside.slots in
    let places = c.self.inside.places.items in
    let xs = shown slots places c.self.inside.order in
    let among = subst (λ (v : PendingView). IsAmong c.requires.0 v.items) (sym c.self.view_is) c.requires.1 in
    let k : Keeps slots (set places c.args.op.slot None) c.take_out.new.self c.take_out-2.new.self (others_than c.args.op xs) = named_out slots places c.self.inside.order c.self.inside.buckets c.take_out.new.self c.take_out-2.new.self xs c.requires.0 c.args.op c.requires.2 c.self.invariant among c.take_out.ensures c.take_out-2.ensures in
    let now = seen slots _ c.take_out.new.self c.take_out-2.new.self (others_than c.args.op xs) k in
    ap (λ (zs : List PendingOperation). let v : PendingView = record { slots = slots; items = zs } in v) now ∙ ap (λ (v : PendingView). record v { items = others_than c.args.op v.items }) c.self.view_is

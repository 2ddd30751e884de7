use Rattle.std.proofs.Common.{◌≡◌, ◌∷◌, Option, ap, sym, ◌∙◌, subst, length, arith, ℕ}
use Rattle.core_state.specs.declared.pending.PendingOperation.{PendingOperation}
use Rattle.core_state.specs.Pendings.{IsNextIn, IsAmong, behind, in_bucket, left_of, bucket_of}
use Rattle.core_state.proofs.RingSteps.{same}
use Rattle.core_state.proofs.Walks.{AreLeft, left_first, first_in, all_left, fewer_left, among_bucket, bucket_step, off}
use Rattle.core_state.proofs.pending.PendingOps.some_on.Goals as goal

pub loop-next-init : goal.loop-next-init
loop-next-init c =
    let s = c.args.self.now in
    let bucket = in_bucket s.slots (bucket_of s.slots c.args.ctx) s.items in
    record {
      there = subst (λ (o : Option PendingOperation). IsNextIn o bucket) (sym c.first_in_bucket-next.ensures) (first_in bucket);
      left = subst (AreLeft c.args.ctx s.items) (sym (ap (λ (o : Option PendingOperation). left_of o bucket) c.first_in_bucket-next.ensures ∙ left_first bucket)) (all_left s.slots c.args.ctx s.items);
    }

pub returns-then-is_on : goal.returns-then-is_on
returns-then-is_on c =
    let s = c.args.self.now in
    let bucket = in_bucket s.slots (bucket_of s.slots c.args.ctx) s.items in
    let there = subst (λ (o : Option PendingOperation). IsNextIn o bucket) c.in-Some.is c.loop-next.invariant.there in
    (c.in-Some.x, (among_bucket s.slots (bucket_of s.slots c.args.ctx) c.in-Some.x s.items there).0, sym c.name.ensures, same c.in-Some.x.ctx c.args.ctx (sym c.is_on.ensures ∙ c.if-is_on.true))

pub next_in_bucket-next-requires : goal.next_in_bucket-next-requires
next_in_bucket-next-requires c =
    let s = c.args.self.now in
    let bucket = in_bucket s.slots (bucket_of s.slots c.args.ctx) s.items in
    let there = subst (λ (o : Option PendingOperation). IsNextIn o bucket) c.in-Some.is c.loop-next.invariant.there in
    (among_bucket s.slots (bucket_of s.slots c.args.ctx) c.in-Some.x s.items there).0

pub loop-next-smaller : goal.loop-next-smaller
loop-next-smaller c =
    let s = c.args.self.now in
    let n = bucket_of s.slots c.args.ctx in
    let bucket = in_bucket s.slots n s.items in
    let there = subst (λ (o : Option PendingOperation). IsNextIn o bucket) c.in-Some.is c.loop-next.invariant.there in
    let on = (among_bucket s.slots n c.in-Some.x s.items there).1 in
    let step = bucket_step s.slots n c.in-Some.x s.items there c.next_in_bucket-next.ensures.apart in
    let next : c.next_in_bucket-next.result ≡ behind c.in-Some.x.op bucket = c.next_in_bucket-next.ensures.next ∙ ap (λ (k : ℕ). behind c.in-Some.x.op (in_bucket s.slots k s.items)) on in
    let now : length (left_of c.next_in_bucket-next.result bucket) ≡ length step.rest = ap length (ap (λ (o : Option PendingOperation). left_of o bucket) next ∙ step.stays) in
    let before : length (left_of c.loop-next.next bucket) ≡ length (c.in-Some.x ∷ step.rest) = ap length (ap (λ (o : Option PendingOperation). left_of o bucket) c.in-Some.is ∙ step.here) in
    omega (arith, now, before)

pub loop-next-preserved : goal.loop-next-preserved
loop-next-preserved c =
    let s = c.args.self.now in
    let n = bucket_of s.slots c.args.ctx in
    let bucket = in_bucket s.slots n s.items in
    let there = subst (λ (o : Option PendingOperation). IsNextIn o bucket) c.in-Some.is c.loop-next.invariant.there in
    let on = (among_bucket s.slots n c.in-Some.x s.items there).1 in
    let step = bucket_step s.slots n c.in-Some.x s.items there c.next_in_bucket-next.ensures.apart in
    let next : c.next_in_bucket-next.result ≡ behind c.in-Some.x.op bucket = c.next_in_bucket-next.ensures.next ∙ ap (λ (k : ℕ). behind c.in-Some.x.op (in_bucket s.slots k s.items)) on in
    let before : AreLeft c.args.ctx s.items (c.in-Some.x ∷ step.rest) = subst (AreLeft c.args.ctx s.items) (ap (λ (o : Option PendingOperation). left_of o bucket) c.in-Some.is ∙ step.here) c.loop-next.invariant.left in
    record {
      there = subst (λ (o : Option PendingOperation). IsNextIn o bucket) (sym next) step.stays_in;
      left = subst (AreLeft c.args.ctx s.items) (sym (ap (λ (o : Option PendingOperation). left_of o bucket) next ∙ step.stays)) (fewer_left c.args.ctx s.items c.in-Some.x step.rest (off c.in-Some.x.ctx c.args.ctx c.is_on.result c.is_on.ensures c.if-is_on.false) before);
    }

pub returns : goal.returns
returns c =
    let s = c.args.self.now in
    let bucket = in_bucket s.slots (bucket_of s.slots c.args.ctx) s.items in
    λ x m e. subst (λ (o : Option PendingOperation). IsAmong x (left_of o bucket)) c.in_default.is (c.loop-next.invariant.left x m e)

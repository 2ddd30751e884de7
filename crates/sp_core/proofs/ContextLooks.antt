-- The core looks at the pending operations of a context.
use Rattle.std.proofs.Common.{◌≡◌, refl, ap, sym, ◌∙◌, subst, List, [], ◌∷◌, ◌++◌, ℕ, Bool, true, false, cond, Some, append_assoc, append-nil, inl, inr}
use Rattle.std.specs.Prelude.{find, map, ◌||◌, ◌==◌, ◌⊎◌}
use Rattle.std.proofs.lemmas.Bool.{or_right}
use Rattle.std.proofs.lemmas.Option.{same_Some}
use Rattle.sp_base.specs.declared.OpName.{OpName}
use Rattle.aio_word.specs.declared.phase.Phase.TheVariants as phase
use Rattle.aio_word.specs.declared.rule.ShownOperation as word
use Rattle.aio_word.specs.Results.{of_op}
use Rattle.aio_word.specs.Views.{Stands}
use Rattle.sp_history.specs.declared.entry.Ending.{Ending}
use Rattle.sp_history.specs.declared.entry.Entry.{Entry}
use Rattle.sp_history.specs.declared.entry.Entry.TheVariants.{End}
use Rattle.sp_history.specs.declared.parts.Begun.{Begun}
use Rattle.sp_history.specs.Lists.{same_op}
use Rattle.sp_history.specs.Past.{pend, is_of, onto}
use Rattle.sp_history.specs.Moments.{Moment, past, also}
use Rattle.sp_history.proofs.OnceHolds.{same_op-eq, same_op-refl}
use Rattle.core_state.specs.declared.pending.PendingOperation.{PendingOperation}
use Rattle.core_state.specs.Pendings.{PendingView, IsNextIn, behind, in_bucket, left_of, bucket_of}
use Rattle.core_state.proofs.RingSteps.{is_same}
use Rattle.core_state.proofs.Walks.{Step, bucket_without}
use Rattle.sp_core.specs.Looking.{ends_in, HasLooked, IsLeft, LooksTo, ReadsPending, FoundOf, bucket_items}
use Rattle.core_state.specs.Reads.{Grows}
use Rattle.core_state.specs.declared.operations.Operations.{Operations}
use Rattle.core_state.specs.OperationsStand.{OperationsStand, pending_of}

-- ---- Reads

pub grows_none : (xs : List word.ShownOperation) → Grows xs xs
grows_none xs = record { more = []; is = sym (append-nil xs) }

pub grows_by : (xs ys more : List word.ShownOperation) → ys ≡ xs ++ more → Grows xs ys
grows_by xs ys more e = record { more = more; is = e }

pub grows_trans : (xs ys zs : List word.ShownOperation) → Grows xs ys → Grows ys zs → Grows xs zs
grows_trans xs ys zs a b = record { more = a.more ++ b.more; is = b.is ∙ ap (λ (us : List word.ShownOperation). us ++ b.more) a.is ∙ append_assoc xs a.more b.more }

pub stands_left : (e : word.ShownOperation) (xs ys : List word.ShownOperation) → Stands e xs → Stands e (xs ++ ys)
stands_left e [] ys h = absurd h
stands_left e (x ∷ xs) ys (inl h) = inl h
stands_left e (x ∷ xs) ys (inr h) = inr (stands_left e xs ys h)

pub stands_right : (e : word.ShownOperation) (xs ys : List word.ShownOperation) → Stands e ys → Stands e (xs ++ ys)
stands_right e [] ys h = h
stands_right e (x ∷ xs) ys h = inr (stands_right e xs ys h)

-- ---- The loop

first_left : (ss : List Begun) (slots : ℕ) (op : OpName) (s : Begun) (c : ℕ) → find (is_of op) ss ≡ Some s → s.ctx ≡ c → IsLeft op c (in_bucket slots (bucket_of slots c) (map pending_of ss))
first_left [] slots op s c h e = absurd cc
first_left (r ∷ ss) slots op s c h e = go (is_of op r) refl h (first_left ss slots op s c)
  where
    more : (b : Bool) → IsLeft op c (in_bucket slots (bucket_of slots c) (map pending_of ss)) → IsLeft op c (cond b (pending_of r ∷ in_bucket slots (bucket_of slots c) (map pending_of ss)) (in_bucket slots (bucket_of slots c) (map pending_of ss)))
    more true k = inr k
    more false k = k

    go : (b : Bool) → is_of op r ≡ b → cond b (Some r) (find (is_of op) ss) ≡ Some s → (find (is_of op) ss ≡ Some s → s.ctx ≡ c → IsLeft op c (in_bucket slots (bucket_of slots c) (map pending_of ss)))
        → IsLeft op c (in_bucket slots (bucket_of slots c) (map pending_of (r ∷ ss)))
    go true k q again =
        let here : r.ctx ≡ c = ap (λ (x : Begun). x.ctx) (same_Some r s q) ∙ e in
        rw (is_same (bucket_of slots r.ctx) (bucket_of slots c) (ap (bucket_of slots) here)) (inl (same_op-eq r.op op k, here))
    go false k q again = more (bucket_of slots r.ctx == bucket_of slots c) (again q e)

pub looks_first : (sh : Operations) (c : ℕ) (t : Moment) (reads : List word.ShownOperation) → OperationsStand [] sh t → LooksTo (bucket_items c sh.pending) c t t reads reads
looks_first sh c t reads h = record {
  more = [];
  grew = sym (append-nil reads);
  each = λ op s p e. inr (inr (subst (λ (xs : List PendingOperation). IsLeft op c (in_bucket sh.pending.slots (bucket_of sh.pending.slots c) xs)) (sym h.pending_is) (first_left (pend (past t)) sh.pending.slots op s c p e)));
}

looks_on : (x : PendingOperation) (rest : List PendingOperation) (c : ℕ) (t u v : Moment) (old mid new : List word.ShownOperation) → LooksTo (x ∷ rest) c t u old mid → v ≡ u → ReadsPending x c mid new → LooksTo rest c t v old new
looks_on x rest c t u v old mid new l e f = subst (λ (y : Moment). LooksTo rest c t y old new) (sym e) (record {
  more = l.more ++ f.more;
  grew = f.grew ∙ ap (λ (xs : List word.ShownOperation). xs ++ f.more) l.grew ∙ append_assoc old l.more f.more;
  each = λ op s p e. go op (l.each op s p e);
})
  where
    go : (op : OpName) → (ends_in op u.turn ≡ true) ⊎ Stands (of_op op phase.Pending 0) l.more ⊎ IsLeft op c (x ∷ rest) → (ends_in op u.turn ≡ true) ⊎ Stands (of_op op phase.Pending 0) (l.more ++ f.more) ⊎ IsLeft op c rest
    go op (inl k) = inl k
    go op (inr (inl k)) = inr (inl (stands_left (of_op op phase.Pending 0) l.more f.more k))
    go op (inr (inr (inl k))) = inr (inl (stands_right (of_op op phase.Pending 0) l.more f.more (subst (λ (o : OpName). Stands (of_op o phase.Pending 0) f.more) k.0 (f.read k.1))))
    go op (inr (inr (inr k))) = inr (inr k)

looks_ended : (x : PendingOperation) (rest : List PendingOperation) (c : ℕ) (t u v : Moment) (old mid new : List word.ShownOperation) → LooksTo (x ∷ rest) c t u old mid → Grows mid new → (ending : Ending) → v ≡ also u (End x.op ending) → LooksTo rest c t v old new
looks_ended x rest c t u v old mid new l g ending e = subst (λ (y : Moment). LooksTo rest c t y old new) (sym e) (record {
  more = l.more ++ g.more;
  grew = g.is ∙ ap (λ (xs : List word.ShownOperation). xs ++ g.more) l.grew ∙ append_assoc old l.more g.more;
  each = λ op s p e. go op (l.each op s p e);
})
  where
    ends : (op : OpName) → x.op ≡ op → (same_op x.op op || ends_in op u.turn) ≡ true
    ends op e = ap (λ (b : Bool). b || ends_in op u.turn) (subst (λ (o : OpName). same_op x.op o ≡ true) e (same_op-refl x.op))

    go : (op : OpName) → (ends_in op u.turn ≡ true) ⊎ Stands (of_op op phase.Pending 0) l.more ⊎ IsLeft op c (x ∷ rest) → ((same_op x.op op || ends_in op u.turn) ≡ true) ⊎ Stands (of_op op phase.Pending 0) (l.more ++ g.more) ⊎ IsLeft op c rest
    go op (inl k) = inl (or_right (same_op x.op op) (ends_in op u.turn) k)
    go op (inr (inl k)) = inr (inl (stands_left (of_op op phase.Pending 0) l.more g.more k))
    go op (inr (inr (inl k))) = inl (ends op k.0)
    go op (inr (inr (inr k))) = inr (inr k)

pub looks_step : (x : PendingOperation) (rest : List PendingOperation) (c : ℕ) (t u v : Moment) (before after : Operations) (old mid new : List word.ShownOperation) → LooksTo (x ∷ rest) c t u old mid → FoundOf x c u v before after mid new → LooksTo rest c t v old new
looks_step x rest c t u v before after old mid new l (inl f) = looks_on x rest c t u v old mid new l f.0 f.2
looks_step x rest c t u v before after old mid new l (inr f) = looks_ended x rest c t u v old mid new l f.1 f.2.0 f.2.1

-- what is left of the list, and the next one in it
pub line_then : (x : PendingOperation) (c : ℕ) (t u : Moment) (before after : Operations) (old new : List word.ShownOperation) (s : Step x (bucket_items c before.pending)) → FoundOf x c t u before after old new
    → (left_of (behind x.op (bucket_items c before.pending)) (bucket_items c after.pending) ≡ s.rest) × IsNextIn (behind x.op (bucket_items c before.pending)) (bucket_items c after.pending)
line_then x c t u before after old new s (inl f) =
    subst (λ (v : PendingView). (left_of (behind x.op (bucket_items c before.pending)) (bucket_items c v) ≡ s.rest) × IsNextIn (behind x.op (bucket_items c before.pending)) (bucket_items c v)) (sym f.1) (s.stays, s.stays_in)
line_then x c t u before after old new s (inr f) =
    let b = before.pending in
    let gone = bucket_without b.slots (bucket_of b.slots c) x.op b.items in
    subst (λ (v : PendingView). (left_of (behind x.op (bucket_items c b)) (bucket_items c v) ≡ s.rest) × IsNextIn (behind x.op (bucket_items c b)) (bucket_items c v)) (sym f.0)
    (subst (λ (xs : List PendingOperation). (left_of (behind x.op (bucket_items c b)) xs ≡ s.rest) × IsNextIn (behind x.op (bucket_items c b)) xs) (sym gone) (s.gone, s.gone_in))

-- all of them were looked at
abbrev pub LookedAll : ℕ → Moment → Moment → List word.ShownOperation → List word.ShownOperation → Type 0
LookedAll c t u old new = HasLooked c (past t) u.turn old new

pub looks_all : (c : ℕ) (t u : Moment) (old new : List word.ShownOperation) → LooksTo [] c t u old new → LookedAll c t u old new
looks_all c t u old new l = record { more = l.more; grew = l.grew; each = λ op s p e. go op (l.each op s p e) }
  where
    go : (op : OpName) → (ends_in op u.turn ≡ true) ⊎ Stands (of_op op phase.Pending 0) l.more ⊎ ⊥ → (ends_in op u.turn ≡ true) ⊎ Stands (of_op op phase.Pending 0) l.more
    go op (inl k) = inl k
    go op (inr (inl k)) = inr k
    go op (inr (inr k)) = absurd k

-- ---- The turn goes on

ends_append : (op : OpName) (xs ys : List Entry) → ends_in op ys ≡ true → ends_in op (xs ++ ys) ≡ true
ends_append op [] ys h = h
ends_append op (End other ending ∷ xs) ys h = or_right (same_op other op) (ends_in op (xs ++ ys)) (ends_append op xs ys h)
ends_append op (_ ∷ xs) ys h = ends_append op xs ys h

ends_one : (op : OpName) (e : Entry) (xs ys : List Entry) → (ends_in op (e ∷ xs) ≡ true) ⊎ (ends_in op ys ≡ true) → (ends_in op xs ≡ true) ⊎ (ends_in op (e ∷ ys) ≡ true)
ends_one op (End other ending) xs ys (inl h) = go (same_op other op) h
  where
    go : (b : Bool) → (b || ends_in op xs) ≡ true → (ends_in op xs ≡ true) ⊎ ((b || ends_in op ys) ≡ true)
    go true h = inr refl
    go false h = inl h
ends_one op (End other ending) xs ys (inr h) = inr (or_right (same_op other op) (ends_in op ys) h)
ends_one op _ xs ys (inl h) = inl h
ends_one op _ xs ys (inr h) = inr h

ends_onto : (op : OpName) (xs ys : List Entry) → (ends_in op xs ≡ true) ⊎ (ends_in op ys ≡ true) → ends_in op (onto xs ys) ≡ true
ends_onto op [] ys (inl h) = absurd cc
ends_onto op [] ys (inr h) = h
ends_onto op (x ∷ xs) ys h = ends_onto op xs (x ∷ ys) (ends_one op x xs ys h)

-- later in the turn
pub looked_later : (c : ℕ) (before es turn : List Entry) (old mid new : List word.ShownOperation) → HasLooked c before turn old mid → Grows mid new → HasLooked c before (es ++ turn) old new
looked_later c before es turn old mid new l g = record {
  more = l.more ++ g.more;
  grew = g.is ∙ ap (λ (xs : List word.ShownOperation). xs ++ g.more) l.grew ∙ append_assoc old l.more g.more;
  each = λ op s p e. go op (l.each op s p e);
}
  where
    go : (op : OpName) → (ends_in op turn ≡ true) ⊎ Stands (of_op op phase.Pending 0) l.more → (ends_in op (es ++ turn) ≡ true) ⊎ Stands (of_op op phase.Pending 0) (l.more ++ g.more)
    go op (inl h) = inl (ends_append op es turn h)
    go op (inr h) = inr (stands_left (of_op op phase.Pending 0) l.more g.more h)

-- in the order of the turn
pub looked_in_order : (c : ℕ) (before turn : List Entry) (old new : List word.ShownOperation) → HasLooked c before turn old new → HasLooked c before (onto turn []) old new
looked_in_order c before turn old new l = record { more = l.more; grew = l.grew; each = λ op s p e. go op (l.each op s p e) }
  where
    go : (op : OpName) → (ends_in op turn ≡ true) ⊎ Stands (of_op op phase.Pending 0) l.more → (ends_in op (onto turn []) ≡ true) ⊎ Stands (of_op op phase.Pending 0) l.more
    go op (inl h) = inl (ends_onto op turn [] (inl h))
    go op (inr h) = inr h

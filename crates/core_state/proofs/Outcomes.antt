-- The places of the slots match the operations that ended and were not collected.
use Rattle.std.proofs.Common.{◌≡◌, refl, ap, sym, ◌∙◌, List, [], ◌∷◌, ◌++◌, ℕ, zero, suc, ◌+◌, ◌<◌, Bool, true, false, cond, arith, Option, Some, None, length, get_or, set, replicate, inl, inr}
use Rattle.std.specs.Prelude.{filter, is_some, not, ◌||◌, ◌==◌, ◌⊎◌, ◌≢◌}
use Rattle.std.specs.List.{list_any, count_by}
use Rattle.std.proofs.lemmas.List.{get_or-set_same, get_or-set_other}
use Rattle.std.proofs.lemmas.List.Sums.{sum_by-set, length-filter}
use Rattle.std.proofs.lemmas.Option.{same_Some}
use Rattle.std.proofs.lemmas.Bool.Decides.{nat_tests}
use Rattle.aio_word.specs.Views.{Stands}
use Rattle.sp_base.specs.declared.OpName.{OpName}
use Rattle.sp_history.specs.declared.parts.OperationEnd.{OperationEnd}
use Rattle.sp_history.specs.Lists.{same_op}
use Rattle.sp_history.specs.Past.{is_of, uncollected}
use Rattle.sp_history.specs.Legal.{is_uncollected}
use Rattle.sp_history.specs.Moments.{Moment, past}
use Rattle.sp_history.proofs.OnceHolds.{same_op-refl, same_op-eq}
use Rattle.core_state.specs.declared.operations.Operations.{Operations}
use Rattle.core_state.specs.declared.operations.EndedOperation.{EndedOperation}
use Rattle.core_state.specs.Ends.{done_of}
use Rattle.core_state.specs.OperationsStand.{OperationsStand, AreBySlot, HasDone, done_at, is_done_of}
use Rattle.core_state.proofs.Elements.{stands-more}

-- ---- Elements

module _ {A : Type 0} where
  -- an element of a list with one more element
  stands_last : (xs : List A) (x y : A) → Stands x (xs ++ y ∷ []) → Stands x xs ⊎ (y ≡ x)
  stands_last [] x y (inl e) = inr e
  stands_last [] x y (inr s) = absurd s
  stands_last (w ∷ xs) x y (inl e) = inl (inl e)
  stands_last (w ∷ xs) x y (inr s) = go (stands_last xs x y s)
    where
      go : Stands x xs ⊎ (y ≡ x) → Stands x (w ∷ xs) ⊎ (y ≡ x)
      go (inl m) = inl (inr m)
      go (inr e) = inr e

  stands_prefix : (xs ys : List A) (x : A) → Stands x xs → Stands x (xs ++ ys)
  stands_prefix [] ys x s = absurd s
  stands_prefix (w ∷ xs) ys x (inl e) = inl e
  stands_prefix (w ∷ xs) ys x (inr s) = inr (stands_prefix xs ys x s)

  -- an element that is kept passes the test
  stands_kept : (p : A → Bool) (xs : List A) (x : A) → Stands x (filter p xs) → Stands x xs × (p x ≡ true)
  stands_kept p [] x s = absurd s
  stands_kept p (w ∷ xs) x s = go (p w) refl s (stands_kept p xs x)
    where
      go : (b : Bool) → p w ≡ b → Stands x (cond b (w ∷ filter p xs) (filter p xs)) → (Stands x (filter p xs) → Stands x xs × (p x ≡ true)) → Stands x (w ∷ xs) × (p x ≡ true)
      go true e (inl same) again = (inl same, ap p (sym same) ∙ e)
      go true e (inr m) again = let k = again m in (inr k.0, k.1)
      go false e m again = let k = again m in (inr k.0, k.1)

  stands_passed : (p : A → Bool) (xs : List A) (x : A) → Stands x xs → p x ≡ true → Stands x (filter p xs)
  stands_passed p [] x s h = absurd s
  stands_passed p (w ∷ xs) x s h = go (p w) refl s (λ m. stands_passed p xs x m h)
    where
      go : (b : Bool) → p w ≡ b → Stands x (w ∷ xs) → (Stands x xs → Stands x (filter p xs)) → Stands x (cond b (w ∷ filter p xs) (filter p xs))
      go true e (inl same) again = inl same
      go true e (inr m) again = inr (again m)
      go false e (inl same) again = let no : false ≡ true = sym e ∙ ap p same ∙ h in absurd cc
      go false e (inr m) again = again m

-- ---- Names

pub any_named : (es : List OperationEnd) (op : OpName) → list_any (λ e. is_of op e.begun) es ≡ true → (e : OperationEnd) × Stands e es × (e.begun.op ≡ op)
any_named [] op h = absurd cc
any_named (r ∷ es) op h = go (same_op r.begun.op op) refl h (any_named es op)
  where
    go : (b : Bool) → same_op r.begun.op op ≡ b → (b || list_any (λ (e : OperationEnd). is_of op e.begun) es) ≡ true → (list_any (λ (e : OperationEnd). is_of op e.begun) es ≡ true → (e : OperationEnd) × Stands e es × (e.begun.op ≡ op)) → (e : OperationEnd) × Stands e (r ∷ es) × (e.begun.op ≡ op)
    go true e h again = (r, inl refl, same_op-eq r.begun.op op e)
    go false e h again = let k = again h in (k.0, inr k.1, k.2)

named_any : (es : List OperationEnd) (op : OpName) (e : OperationEnd) → Stands e es → e.begun.op ≡ op → list_any (λ e. is_of op e.begun) es ≡ true
named_any [] op e s n = absurd s
named_any (r ∷ es) op e s n = go (same_op r.begun.op op) refl s (λ m. named_any es op e m n)
  where
    go : (b : Bool) → same_op r.begun.op op ≡ b → Stands e (r ∷ es) → (Stands e es → list_any (λ (e : OperationEnd). is_of op e.begun) es ≡ true) → (b || list_any (λ (e : OperationEnd). is_of op e.begun) es) ≡ true
    go true f s again = refl
    go false f (inl same) again =
        let no : false ≡ true = sym f ∙ ap (λ (o : OpName). same_op o op) (ap (λ (x : OperationEnd). x.begun.op) same ∙ n) ∙ same_op-refl op in
        absurd cc
    go false f (inr m) again = again m

-- ---- What a place tells

-- the operation ended and was not collected, or not
pub told_by : (s : Operations) (op : OpName) (t : Moment) → OperationsStand [] s t → is_uncollected (past t) op ≡ is_done_of op (done_at s.done.items op.slot)
told_by s op t h = go (done_at s.done.items op.slot) refl (is_uncollected (past t) op) refl
  where
    named : (d : EndedOperation) → done_at s.done.items op.slot ≡ Some d → is_uncollected (past t) op ≡ true → d.op ≡ op
    named d p u =
        let e = any_named (uncollected (past t)) op u in
        let there = (h.done_is op.slot (done_of e.0)).1 (e.0, e.1, ap (λ (o : OpName). o.slot) e.2, refl) in
        ap (λ (x : EndedOperation). x.op) (same_Some d (done_of e.0) (sym p ∙ there)) ∙ e.2

    go : (o : Option EndedOperation) → done_at s.done.items op.slot ≡ o → (u : Bool) → is_uncollected (past t) op ≡ u → u ≡ is_done_of op o
    go None p false e = refl
    go None p true e =
        let k = any_named (uncollected (past t)) op e in
        let there = (h.done_is op.slot (done_of k.0)).1 (k.0, k.1, ap (λ (o : OpName). o.slot) k.2, refl) in
        let no : None ≡ Some (done_of k.0) = sym p ∙ there in
        absurd cc
    go (Some d) p true e = sym (ap (λ (o : OpName). same_op o op) (named d p e) ∙ same_op-refl op)
    go (Some d) p false e = at (same_op d.op op) refl
      where
        at : (b : Bool) → same_op d.op op ≡ b → false ≡ b
        at false f = refl
        at true f =
            let k = (h.done_is op.slot d).0 p in
            let is : k.0.begun.op ≡ op = ap (λ (x : EndedOperation). x.op) (sym k.3) ∙ same_op-eq d.op op f in
            sym e ∙ named_any (uncollected (past t)) op k.0 k.1 is

-- what is at the place of an operation that was not collected
pub has_done : (s : Operations) (op : OpName) (t : Moment) → OperationsStand [] s t → is_uncollected (past t) op ≡ true → (d : EndedOperation) × (done_at s.done.items op.slot ≡ Some d) × (d.op ≡ op)
has_done s op t h u =
    let e = any_named (uncollected (past t)) op u in
    (done_of e.0, (h.done_is op.slot (done_of e.0)).1 (e.0, e.1, ap (λ (o : OpName). o.slot) e.2, refl), e.2)

-- ---- One more, and one less

same_slot : (i slot : ℕ) → (i == slot) ≡ true → i ≡ slot
same_slot i slot h = grind (arith, nat_tests)

other_slot : (i slot : ℕ) → (i == slot) ≡ false → i ≢ slot
other_slot i slot h e = grind (arith, nat_tests)

-- an operation ended whose slot's place had nothing
pub put_in : (xs : List (Option EndedOperation)) (es : List OperationEnd) (slot : ℕ) (e : OperationEnd) (d : EndedOperation) → AreBySlot xs es → slot < length xs → e.begun.op.slot ≡ slot → d ≡ done_of e → ((x : OperationEnd) → Stands x es → x.begun.op.slot ≢ slot) → AreBySlot (set xs slot (Some d)) (es ++ e ∷ [])
put_in xs es slot e d h l at is none i x = go (i == slot) refl
  where
    last : Stands e (es ++ e ∷ [])
    last = stands-more es (e ∷ []) e (inl refl)

    go : (b : Bool) → (i == slot) ≡ b → (done_at (set xs slot (Some d)) i ≡ Some x → HasDone (es ++ e ∷ []) i x) × (HasDone (es ++ e ∷ []) i x → done_at (set xs slot (Some d)) i ≡ Some x)
    go true f =
        let same : i ≡ slot = same_slot i slot f in
        let stands : done_at (set xs slot (Some d)) i ≡ Some d = ap (done_at (set xs slot (Some d))) same ∙ get_or-set_same xs slot (Some d) None l in (
          λ k. (e, last, at ∙ sym same, sym (same_Some d x (sym stands ∙ k)) ∙ is),
          λ k. ended k.0 k.2 k.3 stands same (stands_last es k.0 e k.1),
        )
      where
        ended : (y : OperationEnd) → y.begun.op.slot ≡ i → x ≡ done_of y → done_at (set xs slot (Some d)) i ≡ Some d → i ≡ slot → Stands y es ⊎ (e ≡ y) → done_at (set xs slot (Some d)) i ≡ Some x
        ended y a b stands same (inl m) = absurd (none y m (a ∙ same))
        ended y a b stands same (inr q) = stands ∙ ap Some (is ∙ ap done_of q ∙ sym b)
    go false f =
        let stands : done_at (set xs slot (Some d)) i ≡ done_at xs i = get_or-set_other xs slot i (Some d) None (other_slot i slot f) in (
          λ k. let w = (h i x).0 (sym stands ∙ k) in (w.0, stands_prefix es (e ∷ []) w.0 w.1, w.2, w.3),
          λ k. stands ∙ (h i x).1 (k.0, before k.0 k.2 (stands_last es k.0 e k.1), k.2, k.3),
        )
      where
        before : (y : OperationEnd) → y.begun.op.slot ≡ i → Stands y es ⊎ (e ≡ y) → Stands y es
        before y a (inl m) = m
        before y a (inr q) = absurd (other_slot i slot f (sym a ∙ ap (λ (z : OperationEnd). z.begun.op.slot) (sym q) ∙ at))

-- the operation at its slot's place was collected
pub taken_from : (xs : List (Option EndedOperation)) (es : List OperationEnd) (op : OpName) (d : EndedOperation) → AreBySlot xs es → op.slot < length xs → done_at xs op.slot ≡ Some d → d.op ≡ op → AreBySlot (set xs op.slot None) (filter (λ e. not (same_op e.begun.op op)) es)
taken_from xs es op d h l there named i x = go (i == op.slot) refl
  where
    passes : (e : OperationEnd) → (b : Bool) → same_op e.begun.op op ≡ b → (b ≡ true → ⊥) → not (same_op e.begun.op op) ≡ true
    passes e true f n = absurd (n refl)
    passes e false f n = ap not f

    go : (b : Bool) → (i == op.slot) ≡ b → (done_at (set xs op.slot None) i ≡ Some x → HasDone (filter (λ e. not (same_op e.begun.op op)) es) i x) × (HasDone (filter (λ e. not (same_op e.begun.op op)) es) i x → done_at (set xs op.slot None) i ≡ Some x)
    go true f =
        let same : i ≡ op.slot = same_slot i op.slot f in
        let stands : done_at (set xs op.slot None) i ≡ None = ap (done_at (set xs op.slot None)) same ∙ get_or-set_same xs op.slot None None l in (
          λ k. let no : None ≡ Some x = sym stands ∙ k in absurd cc,
          λ k.
              let w = stands_kept (λ e. not (same_op e.begun.op op)) es k.0 k.1 in
              let found = (h op.slot (done_of k.0)).1 (k.0, w.0, k.2 ∙ same, refl) in
              let is : k.0.begun.op ≡ op = ap (λ (z : EndedOperation). z.op) (same_Some (done_of k.0) d (sym found ∙ there)) ∙ named in
              let no : false ≡ true = sym (ap not (ap (λ (o : OpName). same_op o op) is ∙ same_op-refl op)) ∙ w.1 in
              absurd cc,
        )
    go false f =
        let stands : done_at (set xs op.slot None) i ≡ done_at xs i = get_or-set_other xs op.slot i None None (other_slot i op.slot f) in (
          λ k.
              let w = (h i x).0 (sym stands ∙ k) in
              (w.0, stands_passed (λ e. not (same_op e.begun.op op)) es w.0 w.1 (passes w.0 (same_op w.0.begun.op op) refl (λ q. other_slot i op.slot f (sym w.2 ∙ ap (λ (o : OpName). o.slot) (same_op-eq w.0.begun.op op q)))), w.2, w.3),
          λ k.
              let w = stands_kept (λ e. not (same_op e.begun.op op)) es k.0 k.1 in
              stands ∙ (h i x).1 (k.0, w.0, k.2, k.3),
        )

-- ---- How many

abbrev weigh : Option EndedOperation → ℕ
weigh x = cond (is_some x) 1 0

counted_by : (xs : List (Option EndedOperation)) (slot : ℕ) (y z : Option EndedOperation) → done_at xs slot ≡ z → slot < length xs → length (filter is_some (set xs slot y)) + weigh z ≡ length (filter is_some xs) + weigh y
counted_by xs slot y z h l =
    let a = length-filter is_some (set xs slot y) in
    let b = length-filter is_some xs in
    let c : count_by is_some (set xs slot y) + weigh (get_or xs slot None) ≡ count_by is_some xs + weigh y = sum_by-set weigh xs slot y None l in
    let d : weigh (get_or xs slot None) ≡ weigh z = ap weigh h in
    omega (arith, a, b, c, d)

pub one_more_counted : (xs : List (Option EndedOperation)) (slot : ℕ) (d : EndedOperation) → done_at xs slot ≡ None → slot < length xs → length (filter is_some (set xs slot (Some d))) ≡ length (filter is_some xs) + 1
one_more_counted xs slot d h l = omega (arith, counted_by xs slot (Some d) None h l)

pub one_less_counted : (xs : List (Option EndedOperation)) (slot : ℕ) (d : EndedOperation) → done_at xs slot ≡ Some d → slot < length xs → length (filter is_some (set xs slot None)) + 1 ≡ length (filter is_some xs)
one_less_counted xs slot d h l = omega (arith, counted_by xs slot None (Some d) h l)

-- ---- None yet

none_at : (n i : ℕ) → done_at (replicate n None) i ≡ None
none_at zero i = refl
none_at (suc n) zero = refl
none_at (suc n) (suc i) = none_at n i

pub none_by_slot : (n : ℕ) → AreBySlot (replicate n None) []
none_by_slot n i x = (λ k. let no : None ≡ Some x = sym (none_at n i) ∙ k in absurd cc, λ k. absurd k.1)

pub none_counted : (n : ℕ) → length (filter (is_some {T = EndedOperation}) (replicate n None)) ≡ 0
none_counted zero = refl
none_counted (suc n) = none_counted n

-- The lists of operations go from one moment to the next.
use Rattle.std.proofs.Common.{◌≡◌, refl, ap, sym, ◌∙◌, subst, List, [], ◌∷◌, ◌++◌, ℕ, zero, suc, ◌<◌, ◌≤◌, Bool, true, false, arith, Option, Some, None, length, replicate, vec_capacity, length-append, inl, inr}
use Rattle.std.specs.Prelude.{filter, is_some, ◌||◌, ◌==◌, ◌⊎◌}
use Rattle.std.specs.List.{All, AllByRecursion as Each}
use Rattle.std.proofs.lemmas.List.{length-replicate}
use Rattle.std.proofs.lemmas.List.Elements.{All-nil, All-cons, All-head, All-push, All-pop, All-from_recursion}
use Rattle.std.proofs.lemmas.Bool.{or_parts}
use Rattle.std.proofs.lemmas.Bool.Decides.{nat_tests}
use Rattle.sp_history.specs.Lists.{has}
use Rattle.sp_history.specs.declared.parts.Begun.{Begun}
use Rattle.sp_history.specs.declared.parts.OperationEnd.{OperationEnd}
use Rattle.sp_history.specs.declared.parts.Timer.{Timer}
use Rattle.core_state.specs.declared.operations.Operations.{Operations}
use Rattle.core_state.specs.declared.operations.EndedOperation.{EndedOperation}
use Rattle.core_state.specs.OperationsStand.{Holds, AreBySlot, Apart, AreAllSlots, IsWornOut}
use Rattle.core_state.proofs.Outcomes.{none_by_slot, none_counted}

-- ---- Numbers that occur once

has_push : (xs : List ℕ) (x y : ℕ) → has (xs ++ x ∷ []) y ≡ (has xs y || (x == y))
has_push [] x y = go (x == y)
  where
    go : (b : Bool) → (b || false) ≡ b
    go true = refl
    go false = refl
has_push (w ∷ xs) x y = go (w == y) (has_push xs x y)
  where
    go : (b : Bool) → has (xs ++ x ∷ []) y ≡ (has xs y || (x == y)) → (b || has (xs ++ x ∷ []) y) ≡ ((b || has xs y) || (x == y))
    go true h = refl
    go false h = h

other_way : (x y : ℕ) (b : Bool) → (x == y) ≡ b → (y == x) ≡ b
other_way x y b h = grind (arith, nat_tests)

pub apart_prefix : (xs : List ℕ) (x : ℕ) → Apart (xs ++ x ∷ []) → Apart xs × (has xs x ≡ false)
apart_prefix [] x h = (tt, refl)
apart_prefix (w ∷ xs) x h =
    let rest = apart_prefix xs x h.1 in
    let parts : (has xs w ≡ false) × ((x == w) ≡ false) = or_parts (has xs w) (x == w) (sym (has_push xs x w) ∙ h.0) in
    ((parts.0, rest.0), rw (other_way x w false parts.1) rest.1)

pub apart_push : (xs : List ℕ) (x : ℕ) → Apart xs → has xs x ≡ false → Apart (xs ++ x ∷ [])
apart_push [] x h n = (refl, tt)
apart_push (w ∷ xs) x h n =
    let parts : ((w == x) ≡ false) × (has xs x ≡ false) = or_parts (w == x) (has xs x) n in
    let none : has (xs ++ x ∷ []) w ≡ false = has_push xs x w ∙ rw (h.0, other_way w x false parts.0) refl in
    (none, apart_push xs x h.1 parts.1)

-- ---- Every slot

none_above : (xs : List ℕ) (n : ℕ) → Each (λ i. i < n) xs → has xs n ≡ false
none_above [] n h = refl
none_above (x ∷ xs) n h =
    let below : x < n = h.0 in
    let no : (x == n) ≡ false = grind (arith, nat_tests) in
    rw no (none_above xs n h.1)

more_below : (xs : List ℕ) (n : ℕ) → Each (λ i. i < n) xs → Each (λ i. i < suc n) xs
more_below [] n h = tt
more_below (x ∷ xs) n h = (omega (arith, h.0), more_below xs n h.1)

pub record EverySlot (n : ℕ) (xs : List ℕ) : Type 0 where
  pub count : length xs ≡ n
  pub below : Each (λ i. i < n) xs
  pub apart : Apart xs
  pub every : (i : ℕ) → i < n → has xs i ≡ true

pub every_slot : (n : ℕ) (xs : List ℕ) → AreAllSlots n xs → EverySlot n xs
every_slot zero xs h = subst (EverySlot 0) (sym h) (record { count = refl; below = tt; apart = tt; every = λ i l. absurd (omega arith) })
every_slot (suc n) xs h =
    let rest = every_slot n h.0 h.2 in
    subst (EverySlot (suc n)) (sym h.1) (record {
      count = omega (arith, rest.count);
      below = (omega arith, more_below h.0 n rest.below);
      apart = (none_above h.0 n rest.below, rest.apart);
      every = λ i l. at i l (n == i) refl rest.every;
    })
  where
    at : (i : ℕ) → i < suc n → (b : Bool) → (n == i) ≡ b → ((i : ℕ) → i < n → has h.0 i ≡ true) → (b || has h.0 i) ≡ true
    at i l true e every = refl
    at i l false e every = let less : i < n = grind (arith, nat_tests) in every i less

-- ---- What the lists of operations hold

module _ (slots : ℕ) (free : ℕ → Bool) (gens : ℕ → ℕ) where
  Stands : List ℕ → List ℕ → ℕ → Type 0
  Stands xs drawn i = (has xs i ≡ true) ⊎ (has drawn i ≡ true) ⊎ IsWornOut (gens i)

  now_drawn : (xs : List ℕ) (slot i : ℕ) → Stands (xs ++ slot ∷ []) [] i → Stands xs (slot ∷ []) i
  unfolding Stands
  now_drawn xs slot i (inl h) = go (has xs i) refl (slot == i) refl (sym (has_push xs slot i) ∙ h)
    where
      go : (b : Bool) → has xs i ≡ b → (c : Bool) → (slot == i) ≡ c → (b || c) ≡ true → (has xs i ≡ true) ⊎ ((slot == i) || false) ≡ true ⊎ IsWornOut (gens i)
      go true e c f k = inl e
      go false e true f k = inr (inl (rw f refl))
      go false e false f k = absurd cc
  now_drawn xs slot i (inr (inl h)) = absurd cc
  now_drawn xs slot i (inr (inr h)) = inr (inr h)

  now_back : (xs : List ℕ) (slot i : ℕ) → Stands xs (slot ∷ []) i → Stands (xs ++ slot ∷ []) [] i
  unfolding Stands
  now_back xs slot i (inl h) = inl (has_push xs slot i ∙ rw h refl)
  now_back xs slot i (inr (inl h)) = inl (has_push xs slot i ∙ go (has xs i) (slot == i) h)
    where
      go : (a b : Bool) → (b || false) ≡ true → (a || b) ≡ true
      go true b k = refl
      go false true k = refl
      go false false k = k
  now_back xs slot i (inr (inr h)) = inr (inr h)

  module _ {ss : List Begun} {es : List OperationEnd} {ds : List Timer} where
    -- the last free slot is drawn
    pub drawn : (s r : Operations) (slot : ℕ) → Holds [] s slots ss es ds free gens → s.free.items ≡ r.free.items ++ slot ∷ [] → vec_capacity r.free ≡ vec_capacity s.free → r.pending ≡ s.pending → r.done ≡ s.done → r.deadlines ≡ s.deadlines
        → (slot < slots) × (free slot ≡ true) × Holds (slot ∷ []) r slots ss es ds free gens
    unfolding Stands
    drawn s r slot h f fc pe de dl =
        let apart = apart_prefix r.free.items slot (subst Apart f h.free_apart) in
        let all = All-pop (λ i. (i < slots) × (free i ≡ true)) s.free.items r.free.items (Some slot) f h.free_is in (
          all.1.0,
          all.1.1,
          record {
            pending_is = ap (λ v. v.items) pe ∙ h.pending_is;
            done_is = rw de h.done_is;
            deadlines_are = ap (λ v. v.schedule) dl ∙ h.deadlines_are;
            free_is = all.0;
            drawn_is = All-cons (λ i. (i < slots) × (free i ≡ true) × (has r.free.items i ≡ false)) slot [] (all.1.0, all.1.1, apart.1) (All-nil _);
            free_apart = apart.0;
            every = λ i l k. now_drawn r.free.items slot i (subst (λ (xs : List ℕ). Stands xs [] i) f (h.every i l k));
            fits = omega (arith, h.fits, ap length f, length-append r.free.items (slot ∷ []), ap (λ v. length v.items) pe, ap (λ v. length (filter is_some v.items)) de);
            pending_slots = ap (λ v. v.slots) pe ∙ h.pending_slots;
            done_places = ap (λ v. length v.items) de ∙ h.done_places;
            free_room = omega (arith, h.free_room, fc);
          },
        )

    -- the slot that was drawn is free again
    pub put_back : (s r : Operations) (slot : ℕ) → Holds (slot ∷ []) s slots ss es ds free gens → r.free.items ≡ s.free.items ++ slot ∷ [] → vec_capacity s.free ≤ vec_capacity r.free → r.pending ≡ s.pending → r.done ≡ s.done → r.deadlines ≡ s.deadlines
        → Holds [] r slots ss es ds free gens
    unfolding Stands
    put_back s r slot h f fc pe de dl =
        let one = All-head (λ i. (i < slots) × (free i ≡ true) × (has s.free.items i ≡ false)) slot [] h.drawn_is in
        record {
          pending_is = ap (λ v. v.items) pe ∙ h.pending_is;
          done_is = rw de h.done_is;
          deadlines_are = ap (λ v. v.schedule) dl ∙ h.deadlines_are;
          free_is = subst (All (λ i. (i < slots) × (free i ≡ true))) (sym f) (All-push (λ i. (i < slots) × (free i ≡ true)) s.free.items slot h.free_is (one.0, one.1));
          drawn_is = All-nil _;
          free_apart = subst Apart (sym f) (apart_push s.free.items slot h.free_apart one.2);
          every = λ i l k. subst (λ (xs : List ℕ). Stands xs [] i) (sym f) (now_back s.free.items slot i (h.every i l k));
          fits = omega (arith, h.fits, ap length f, length-append s.free.items (slot ∷ []), ap (λ v. length v.items) pe, ap (λ v. length (filter is_some v.items)) de);
          pending_slots = ap (λ v. v.slots) pe ∙ h.pending_slots;
          done_places = ap (λ v. length v.items) de ∙ h.done_places;
          free_room = omega (arith, h.free_room, fc);
        }

    -- no slot is left
    pub none_free : (s : Operations) → Holds [] s slots ss es ds free gens → s.free.items ≡ [] → (i : ℕ) → i < slots → (free i ≡ false) ⊎ IsWornOut (gens i)
    none_free s h e i l = go (free i) refl
      where
        left : (xs : List ℕ) → xs ≡ [] → (has xs i ≡ true) ⊎ (false ≡ true) ⊎ IsWornOut (gens i) → IsWornOut (gens i)
        left xs e (inl k) = let none : has xs i ≡ false = ap (λ (ys : List ℕ). has ys i) e in absurd cc
        left xs e (inr (inl k)) = absurd cc
        left xs e (inr (inr k)) = k

        go : (b : Bool) → free i ≡ b → (b ≡ false) ⊎ IsWornOut (gens i)
        go true f = inr (left s.free.items e (h.every i l f))
        go false f = inl refl

-- no operation, and every slot free
pub made : (s : Operations) (slots : ℕ) → s.pending ≡ record { slots = slots; items = [] } → s.done.items ≡ replicate slots None → s.deadlines.schedule ≡ record { slots = slots; entries = [] } → EverySlot slots s.free.items → slots ≤ vec_capacity s.free
    → Holds [] s slots [] [] [] (λ i. true) (λ i. 0)
made s slots pe de dl all fc =
    record {
      pending_is = ap (λ v. v.items) pe;
      done_is = subst (λ (xs : List (Option EndedOperation)). AreBySlot xs []) (sym de) (none_by_slot slots);
      deadlines_are = dl;
      free_is = All-from_recursion (λ i. (i < slots) × (true ≡ true)) s.free.items (with_true s.free.items all.below);
      drawn_is = All-nil _;
      free_apart = all.apart;
      every = λ i l k. inl (all.every i l);
      fits = omega (arith, all.count, ap (λ v. length v.items) pe, ap (λ (xs : List (Option EndedOperation)). length (filter is_some xs)) de, none_counted slots);
      pending_slots = ap (λ v. v.slots) pe;
      done_places = ap length de ∙ length-replicate slots None;
      free_room = fc;
    }
  where
    with_true : (xs : List ℕ) → Each (λ i. i < slots) xs → Each (λ i. (i < slots) × (true ≡ true)) xs
    with_true [] h = tt
    with_true (x ∷ xs) h = ((h.0, refl), with_true xs h.1)

-- The lists of a wheel as its links change.
use Rattle.std.proofs.Common.{◌≡◌, ℕ, ◌+◌, ◌<◌, ◌≤◌, ◌⊎◌, inl, inr, true, false, cond, List, [], ◌∷◌, Some, None, length, get_or, set, refl, sym, ap, subst, ◌∙◌, arith}
use Rattle.std.specs.Prelude.{◌==◌, nat_lt, slice_get}
use Rattle.std.proofs.lemmas.List.{length-set, length-map, length-drop}
use Rattle.std.proofs.lemmas.Bool.Decides.{nat_tests}
use Rattle.aio_expire.specs.Buckets.{Links, count_in, but, after, list_at, ring, rings, joined_at, IsListed, AreRings}
use Rattle.aio_expire.proofs.Rings.{prev-in, next-in, below}
use Rattle.aio_expire.proofs.Kept.{unlinked, linked, made, list-is, list-past, after-is, first-is}

-- a bucket's number is one of the 513, or its list is empty
pub inside_or_past : (b : ℕ) → (b < 513) ⊎ (513 ≤ b)
inside_or_past b = elim (nat_lt b 513) as (λ t. nat_lt b 513 ≡ t → (b < 513) ⊎ (513 ≤ b)) [ true ↦ (λ h. inl (grind (arith, nat_tests))) | false ↦ (λ h. inr (grind (arith, nat_tests))) ] refl

pub rings-length : (n : ℕ) (nx : List ℕ) → length nx ≡ n + 513 → length (rings n nx) ≡ 513
rings-length n nx l = length-map _ _ ∙ length-drop n nx ∙ omega (arith, l)

-- the lists are in the buckets as stated
all_lists : (n : ℕ) (nx nx' : List ℕ) (f : ℕ → List ℕ → List ℕ) → length nx ≡ n + 513 → length nx' ≡ n + 513 → ((b : ℕ) → 513 ≤ b → f b [] ≡ [])
    → ((b : ℕ) → b < 513 → ring nx' n (n + b) ≡ f b (ring nx n (n + b))) → (b : ℕ) → list_at b (rings n nx') ≡ f b (list_at b (rings n nx))
all_lists n nx nx' f l l' past h b = elim (inside_or_past b) [
  | inl lb ↦ list-is n nx' b l' lb ∙ h b lb ∙ ap (f b) (sym (list-is n nx b l lb))
  | inr no_ ↦ list-past n nx' b l' no_ ∙ sym (past b no_) ∙ ap (f b) (sym (list-past n nx b l no_))
]

module _ (n : ℕ) (nx pv : List ℕ) (slot : ℕ) (r : AreRings n nx pv) (is : IsListed slot (rings n nx)) where
  here : 0 < count_in slot (ring nx n (n + is.0))
  here = subst (λ xs. 0 < count_in slot xs) (list-is n nx is.0 r.next_length is.1) is.2

  pub slot-below : slot < n
  slot-below = below nx pv n (n + is.0) (n + is.0) (ring nx n (n + is.0)) slot (r.linked is.0 is.1) here

  in_range : (i : ℕ) → (i ≡ n + is.0) ⊎ (0 < count_in i (ring nx n (n + is.0))) → i < n + 513
  in_range i (inl e) = let l = is.1 in omega (arith, e, l)
  in_range i (inr h) = let l = below nx pv n (n + is.0) (n + is.0) (ring nx n (n + is.0)) i (r.linked is.0 is.1) h in omega (arith, l)

  pub prev-below : get_or pv slot 0 < n + 513
  prev-below = in_range (get_or pv slot 0) (prev-in nx pv n (n + is.0) (n + is.0) (ring nx n (n + is.0)) slot (r.linked is.0 is.1) here)

  pub next-below : get_or nx slot 0 < n + 513
  next-below = in_range (get_or nx slot 0) (next-in nx pv n (n + is.0) (n + is.0) (ring nx n (n + is.0)) slot (r.linked is.0 is.1) here)

  pub rings-unlinked : let nx' = set nx (get_or pv slot 0) (get_or nx slot 0) in let pv' = set pv (get_or nx slot 0) (get_or pv slot 0) in
      AreRings n nx' pv' × ((b : ℕ) → list_at b (rings n nx') ≡ but slot (list_at b (rings n nx)))
  rings-unlinked =
      let u = unlinked n nx pv slot is.0 r is.1 here in
      (u.0, all_lists n nx (set nx (get_or pv slot 0) (get_or nx slot 0)) (λ b xs. but slot xs) r.next_length (length-set nx _ _ ∙ r.next_length) (λ b l. refl) u.1)

  -- the same, with other names for what is before and after it
  pub rings-without : (a z : ℕ) → a ≡ get_or pv slot 0 → z ≡ get_or nx slot 0 → AreRings n (set nx a z) (set pv z a) × ((b : ℕ) → list_at b (rings n (set nx a z)) ≡ but slot (list_at b (rings n nx)))
  rings-without a z ea ez =
      subst (λ (i : ℕ). AreRings n (set nx i z) (set pv z i) × ((b : ℕ) → list_at b (rings n (set nx i z)) ≡ but slot (list_at b (rings n nx)))) (sym ea)
      (subst (λ (j : ℕ). AreRings n (set nx (get_or pv slot 0) j) (set pv j (get_or pv slot 0)) × ((b : ℕ) → list_at b (rings n (set nx (get_or pv slot 0) j)) ≡ but slot (list_at b (rings n nx)))) (sym ez) rings-unlinked)

  pub next-after : (b : ℕ) → 0 < count_in slot (list_at b (rings n nx)) → cond (nat_lt (get_or nx slot 0) n) (Some (get_or nx slot 0)) None ≡ after slot (list_at b (rings n nx))
  next-after b h = elim (inside_or_past b) [
    | inl lb ↦
        let e = list-is n nx b r.next_length lb in
        sym (ap (after slot) e ∙ after-is nx pv n (n + b) (n + b) (ring nx n (n + b)) slot (omega arith) (r.linked b lb) (subst (λ xs. 0 < count_in slot xs) e h))
    | inr no_ ↦ absurd (let z : 0 < 0 = subst (λ xs. 0 < count_in slot xs) (list-past n nx b r.next_length no_) h in omega (arith, z))
  ]

pub first-of : (n : ℕ) (nx pv : List ℕ) (b : ℕ) → AreRings n nx pv → b < 513 → cond (nat_lt (get_or nx (n + b) 0) n) (Some (get_or nx (n + b) 0)) None ≡ slice_get (list_at b (rings n nx)) 0
first-of n nx pv b r lb = sym (ap (λ xs. slice_get xs 0) (list-is n nx b r.next_length lb) ∙ first-is nx pv n (n + b) (n + b) (ring nx n (n + b)) (omega arith) (r.linked b lb))

-- what follows the head is in range
pub first-below : (n : ℕ) (nx pv : List ℕ) (b : ℕ) → AreRings n nx pv → b < 513 → get_or nx (n + b) 0 < n + 513
first-below n nx pv b r lb = begins nx pv (ring nx n (n + b)) (r.linked b lb)
  where
    begins : (nx pv xs : List ℕ) → Links nx pv n (n + b) (n + b) xs → get_or nx (n + b) 0 < n + 513
    begins nx pv [] l = let e = l.0 in omega (arith, e, lb)
    begins nx pv (x ∷ xs) l = let e = l.0 in let k = l.1 in omega (arith, e, k)

pub rings-linked : (n : ℕ) (nx pv : List ℕ) (slot b : ℕ) → AreRings n nx pv → b < 513 → slot < n → ((c : ℕ) → count_in slot (list_at c (rings n nx)) ≡ 0)
    → let nx' = set (set nx slot (get_or nx (n + b) 0)) (n + b) slot in let pv' = set (set pv slot (n + b)) (get_or nx (n + b) 0) slot in
    AreRings n nx' pv' × ((c : ℕ) → list_at c (rings n nx') ≡ joined_at slot b c (list_at c (rings n nx)))
rings-linked n nx pv slot b r lb ls free =
    let u = linked n nx pv slot b r lb ls (λ c lc. subst (λ xs. count_in slot xs ≡ 0) (list-is n nx c r.next_length lc) (free c)) in
    (u.0, all_lists n nx (set (set nx slot (get_or nx (n + b) 0)) (n + b) slot) (λ c xs. joined_at slot b c xs) r.next_length (length-set _ _ _ ∙ length-set nx _ _ ∙ r.next_length) past u.1)
  where
    past : (c : ℕ) → 513 ≤ c → joined_at slot b c [] ≡ []
    past c h = let e : (c == b) ≡ false = grind (arith, nat_tests) in rw e refl

-- the same, with another name for the first of the list
pub rings-with : (n : ℕ) (nx pv : List ℕ) (slot b z : ℕ) → z ≡ get_or nx (n + b) 0 → AreRings n nx pv → b < 513 → slot < n → ((c : ℕ) → count_in slot (list_at c (rings n nx)) ≡ 0)
    → AreRings n (set (set nx slot z) (n + b) slot) (set (set pv slot (n + b)) z slot) × ((c : ℕ) → list_at c (rings n (set (set nx slot z) (n + b) slot)) ≡ joined_at slot b c (list_at c (rings n nx)))
rings-with n nx pv slot b z e r lb ls free =
    subst (λ (i : ℕ). AreRings n (set (set nx slot i) (n + b) slot) (set (set pv slot (n + b)) i slot) × ((c : ℕ) → list_at c (rings n (set (set nx slot i) (n + b) slot)) ≡ joined_at slot b c (list_at c (rings n nx)))) (sym e)
    (rings-linked n nx pv slot b r lb ls free)

pub rings-made : (n : ℕ) (nx pv : List ℕ) → length nx ≡ n + 513 → length pv ≡ n + 513 → ((k : ℕ) → k < n + 513 → get_or nx k 0 ≡ k) → ((k : ℕ) → k < n + 513 → get_or pv k 0 ≡ k)
    → AreRings n nx pv × ((c : ℕ) → list_at c (rings n nx) ≡ [])
rings-made n nx pv ln lp hn hp =
    let m = made n nx pv ln lp hn hp in
    (m.0, λ c. elim (inside_or_past c) [ inl lc ↦ list-is n nx c ln lc ∙ m.1 c lc | inr no_ ↦ list-past n nx c ln no_ ])

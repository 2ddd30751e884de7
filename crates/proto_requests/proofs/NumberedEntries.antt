-- A map by numbers, where each entry is seen as an element that has the number.
use Rattle.std.proofs.Common.{◌≡◌, refl, ap, sym, ◌∙◌, subst, List, [], ◌∷◌, ◌++◌, ℕ, zero, suc, ◌<◌, ◌≤◌, Bool, true, false, cond, arith, Option, Some, None, map}
use Rattle.std.specs.Prelude.{filter, not, nat_lt, slice_get, is_some, ◌&&◌, ◌||◌, ◌==◌}
use Rattle.std.specs.declared.cmp.Ordering.{Ordering}
use Rattle.std.specs.declared.cmp.Ordering.TheVariants.{Less, Equal, Greater}
use Rattle.std.specs.Ordering.{nat_cmp, match_ordering}
use Rattle.std.specs.Cmp.{unsigned_tied}
use Rattle.std.specs.List.{list_any, list_all, AllByRecursion}
use Rattle.std.specs.List.Sorted.{IsStrictlySortedBy}
use Rattle.std.specs.Map.{keys_of, lookup, remove_entry}
use Rattle.std.specs.Map.Calls.{RetainsPairs}
use Rattle.std.specs.BTreeMap.{is_at, insert_entry}
use Rattle.std.proofs.lemmas.Bool.Decides.{nat_tests}
use Rattle.std.proofs.lemmas.Map.Keys.{sorted_head, sorted_tail}
use Rattle.proto_requests.specs.Backlogs.{is_of}
use Rattle.proto_requests.specs.Ordered.{is_before}
use Rattle.proto_requests.proofs.TestValues.{equal_of, turned}

-- a query for a number finds this one
pub at_is : (c k : ℕ) → is_at (nat_cmp c) k ≡ (k == c)
at_is c k = unsigned_tied c k ∙ sym (turned c k (c == k) refl)

pub behind : (m n : ℕ) → nat_cmp m n ≡ Less → (n == m) ≡ false
behind m n h = grind (arith, nat_tests)

pub ahead : (c k : ℕ) → nat_lt k c ≡ true → nat_cmp c k ≡ Greater
ahead c k h = grind (arith, nat_tests)

pub both_true : (a b : Bool) → (a && b) ≡ true → (a ≡ true) × (b ≡ true)
both_true true b h = (refl, h)
both_true false b h = absurd cc

module _ {V B : Type 0} (number : B → ℕ) (see : ℕ × V → B) (numbered : (e : ℕ × V) → number (see e) ≡ e.0) where
  its_test : (c : ℕ) (e : ℕ × V) → is_at (nat_cmp c) e.0 ≡ is_of number c (see e)
  its_test c e = at_is c e.0 ∙ ap (λ (n : ℕ). n == c) (sym (numbered e))

  -- a query finds an entry where an element has the number
  pub found_any : (c : ℕ) (es : List (ℕ × V)) → is_some (lookup (is_at (nat_cmp c)) es) ≡ list_any (is_of number c) (map see es)
  found_any c [] = refl
  found_any c (e ∷ es) = go (is_at (nat_cmp c) e.0) (is_of number c (see e)) (its_test c e) (found_any c es)
    where
      go : (a b : Bool) → a ≡ b → is_some (lookup (is_at (nat_cmp c)) es) ≡ list_any (is_of number c) (map see es) → is_some (cond a (Some e.1) (lookup (is_at (nat_cmp c)) es)) ≡ (b || list_any (is_of number c) (map see es))
      go true true h k = refl
      go true false h k = absurd cc
      go false true h k = absurd cc
      go false false h k = k

  -- ---- Without an entry

  others_stay : (c n : ℕ) (es : List (ℕ × V)) → n ≡ c → AllByRecursion (λ k. nat_cmp n k ≡ Less) (keys_of es) → map see es ≡ filter (λ x. not (is_of number c x)) (map see es)
  others_stay c n [] h o = refl
  others_stay c n (e ∷ es) h o = go (is_of number c (see e)) isnt (others_stay c n es h o.1)
    where
      isnt : is_of number c (see e) ≡ false
      isnt = ap (λ (m : ℕ). m == c) (numbered e) ∙ ap (λ (m : ℕ). e.0 == m) (sym h) ∙ behind n e.0 o.0

      go : (b : Bool) → b ≡ false → map see es ≡ filter (λ x. not (is_of number c x)) (map see es) → see e ∷ map see es ≡ cond (not b) (see e ∷ filter (λ x. not (is_of number c x)) (map see es)) (filter (λ x. not (is_of number c x)) (map see es))
      go true h k = absurd cc
      go false h k = ap (λ (rest : List B). see e ∷ rest) k

  pub less_seen : (c : ℕ) (es : List (ℕ × V)) → IsStrictlySortedBy nat_cmp (keys_of es) → map see (remove_entry (is_at (nat_cmp c)) es) ≡ filter (λ x. not (is_of number c x)) (map see es)
  less_seen c [] o = refl
  less_seen c (e ∷ es) o = go (is_at (nat_cmp c) e.0) refl (is_of number c (see e)) (its_test c e) (less_seen c es (sorted_tail nat_cmp e.0 (keys_of es) o))
    where
      go : (a : Bool) → is_at (nat_cmp c) e.0 ≡ a → (b : Bool) → a ≡ b → map see (remove_entry (is_at (nat_cmp c)) es) ≡ filter (λ x. not (is_of number c x)) (map see es)
          → map see (cond a es (e ∷ remove_entry (is_at (nat_cmp c)) es)) ≡ cond (not b) (see e ∷ filter (λ x. not (is_of number c x)) (map see es)) (filter (λ x. not (is_of number c x)) (map see es))
      go true q true h k = others_stay c e.0 es (equal_of e.0 c (sym (at_is c e.0) ∙ q)) (sorted_head nat_cmp e.0 (keys_of es) o)
      go true q false h k = absurd cc
      go false q true h k = absurd cc
      go false q false h k = ap (λ (rest : List B). see e ∷ rest) k

  -- ---- With an entry of a number above all

  pub more_entries : (c : ℕ) (v : V) (es : List (ℕ × V)) → list_all (is_before number c) (map see es) ≡ true → insert_entry nat_cmp es c v ≡ es ++ (c, v) ∷ []
  more_entries c v [] h = refl
  more_entries c v (e ∷ es) h = go (nat_cmp c e.0) (ahead c e.0 low) (more_entries c v es both.1)
    where
      both : (nat_lt (number (see e)) c ≡ true) × (list_all (is_before number c) (map see es) ≡ true)
      both = both_true (nat_lt (number (see e)) c) (list_all (is_before number c) (map see es)) h

      low : nat_lt e.0 c ≡ true
      low = ap (λ (n : ℕ). nat_lt n c) (sym (numbered e)) ∙ both.0

      go : (o : Ordering) → o ≡ Greater → insert_entry nat_cmp es c v ≡ es ++ (c, v) ∷ [] → match_ordering o ((c, v) ∷ e ∷ es) ((e.0, v) ∷ es) (e ∷ insert_entry nat_cmp es c v) ≡ e ∷ es ++ (c, v) ∷ []
      go Less h k = absurd cc
      go Equal h k = absurd cc
      go Greater h k = ap (λ (rest : List (ℕ × V)). e ∷ rest) k

  -- each has a number below it
  pub one_before : (c i k : ℕ) (v : V) (es : List (ℕ × V)) → list_all (is_before number c) (map see es) ≡ true → slice_get es i ≡ Some (k, v) → nat_lt k c ≡ true
  one_before c i k v [] h q = absurd cc
  one_before c i k v (e ∷ es) h q = go i q (λ j r. one_before c j k v es both.1 r)
    where
      both : (nat_lt (number (see e)) c ≡ true) × (list_all (is_before number c) (map see es) ≡ true)
      both = both_true (nat_lt (number (see e)) c) (list_all (is_before number c) (map see es)) h

      its : Some e ≡ Some (k, v) → e.0 ≡ k
      its q = cc

      go : (i : ℕ) → slice_get (e ∷ es) i ≡ Some (k, v) → ((j : ℕ) → slice_get es j ≡ Some (k, v) → nat_lt k c ≡ true) → nat_lt k c ≡ true
      go zero q again = ap (λ (n : ℕ). nat_lt n c) (sym (its q) ∙ sym (numbered e)) ∙ both.0
      go (suc i) q again = again i q

-- ---- With one value everywhere

abbrev pub with_all : {V : Type 0} → V → List (ℕ × V) → List (ℕ × V)
with_all {V} v es = map {B = ℕ × V} (λ (e : ℕ × V). (e.0, v)) es

-- each call of the closure keeps its entry, with this value
pub all_written : {F V : Type 0} (T : F → ℕ → V → Bool → V → F → Type 0) (v : V) → ((f : F) (k : ℕ) (u : V) (b : Bool) (w : V) (g : F) → T f k u b w g → (b ≡ true) × (w ≡ v)) → (f : F) (es kept : List (ℕ × V)) → RetainsPairs T f es kept → kept ≡ with_all v es
all_written T v h f [] kept r = r
all_written {F} {V} T v h f (e ∷ es) kept r =
    let said = h f e.0 e.1 r.0 r.1 r.2 r.4 in
    r.6 ∙ ap (λ (b : Bool). cond b ((e.0, r.1) ∷ r.3) r.3) said.0 ∙ ap (λ (w : V). (e.0, w) ∷ r.3) said.1 ∙ ap (λ (rest : List (ℕ × V)). (e.0, v) ∷ rest) (all_written T v h r.2 es r.3 r.5)

pub keys_with_all : {V : Type 0} (v : V) (es : List (ℕ × V)) → keys_of (with_all v es) ≡ keys_of es
keys_with_all v [] = refl
keys_with_all v (e ∷ es) = ap (λ (rest : List ℕ). e.0 ∷ rest) (keys_with_all v es)

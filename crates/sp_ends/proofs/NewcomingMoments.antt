-- The moments at which an address may be dialed.
use Rattle.std.proofs.Common.{◌≡◌, ◌≤◌, ◌<◌, ◌+◌, ◌++◌, ◌∷◌, ℕ, suc, Bool, true, false, cond, List, [], length, Option, Some, None, refl, arith, min}
use Rattle.std.specs.Prelude.{◌^◌, ◌-◌, nat_le}
use Rattle.std.proofs.lemmas.Bool.Decides.{nat_tests}
use Rattle.sp_history.specs.Found.{IsLeast, AreOrdered}
use Rattle.sp_ends.specs.LinkCounts.{spaced_from}
use Rattle.sp_ends.specs.DialMoments.{moment, IsDueAt}
use Rattle.sp_ends.specs.Dialing.{next_from, last_of, IsDueFrom}

-- ---- Moments

pub due_moment : (n t : ℕ) → IsDueAt (moment n) t → n ≤ t
due_moment n t = go (nat_le n (2 ^ 64 - 1))
  where
    go : (b : Bool) → IsDueAt (cond b (Some n) None) t → n ≤ t
    go true h = h
    go false h = absurd h

pub moment_due : (n t : ℕ) → n ≤ t → t ≤ 2 ^ 64 - 1 → IsDueAt (moment n) t
moment_due n t le fits = go (nat_le n (2 ^ 64 - 1)) refl
  where
    go : (b : Bool) → nat_le n (2 ^ 64 - 1) ≡ b → IsDueAt (cond b (Some n) None) t
    go true e = le
    go false e = absurd (grind (arith, nat_tests))

-- it has come from then on
pub due_from : (n : ℕ) → IsDueFrom n (moment n)
due_from n t le fits = moment_due n t le (omega (arith, fits))

-- and from any later moment on
pub due_later : (m n : ℕ) (next : Option ℕ) → m ≤ n → IsDueFrom m next → IsDueFrom n next
due_later m n next le due t more fits = due t (omega (arith, le, more)) fits

-- ---- The last tick

pub last_more : (from : ℕ) (ts : List ℕ) (t : ℕ) → last_of from (ts ++ t ∷ []) ≡ t
last_more from [] t = refl
last_more from (x ∷ ts) t = last_more x ts t

least_last : (x : ℕ) (ts : List ℕ) (t : ℕ) → IsLeast x (ts ++ t ∷ []) → x ≤ t
least_last x [] t l = l.0
least_last x (y ∷ ts) t l = least_last x ts t l.1

-- in order no tick is less than the one before
pub last_before : (from : ℕ) (ts : List ℕ) (t : ℕ) → from ≤ t → AreOrdered (ts ++ t ∷ []) → last_of from ts ≤ t
last_before from [] t le o = le
last_before from (x ∷ ts) t le o = last_before x ts t (least_last x ts t o.0) o.1

-- ---- Tries

pub next_more : (from : ℕ) (ts : List ℕ) (t : ℕ) → next_from from (ts ++ t ∷ []) ≡ cond (nat_le (next_from from ts) t) (t + 100) (next_from from ts)
next_more from [] t = refl
next_more from (x ∷ ts) t = go (nat_le from x) (next_more (x + 100) ts t) (next_more from ts t)
  where
    go : (b : Bool) → next_from (x + 100) (ts ++ t ∷ []) ≡ cond (nat_le (next_from (x + 100) ts) t) (t + 100) (next_from (x + 100) ts) → next_from from (ts ++ t ∷ []) ≡ cond (nat_le (next_from from ts) t) (t + 100) (next_from from ts)
        → cond b (next_from (x + 100) (ts ++ t ∷ [])) (next_from from (ts ++ t ∷ [])) ≡ cond (nat_le (cond b (next_from (x + 100) ts) (next_from from ts)) t) (t + 100) (cond b (next_from (x + 100) ts) (next_from from ts))
    go true p q = p
    go false p q = q

pub spaced_more : (from : ℕ) (ts : List ℕ) (t : ℕ) → length (spaced_from from (ts ++ t ∷ [])) ≡ cond (nat_le (next_from from ts) t) (length (spaced_from from ts) + 1) (length (spaced_from from ts))
spaced_more from [] t = go (nat_le from t)
  where
    go : (b : Bool) → length (cond b (t ∷ []) []) ≡ cond b (0 + 1) 0
    go true = refl
    go false = refl
spaced_more from (x ∷ ts) t = go (nat_le from x) (spaced_more (x + 100) ts t) (spaced_more from ts t)
  where
    both : (c : Bool) (m n : ℕ) → m ≡ cond c (n + 1) n → suc m ≡ cond c (suc n + 1) (suc n)
    both true m n e = omega (arith, e)
    both false m n e = omega (arith, e)

    go : (b : Bool) → length (spaced_from (x + 100) (ts ++ t ∷ [])) ≡ cond (nat_le (next_from (x + 100) ts) t) (length (spaced_from (x + 100) ts) + 1) (length (spaced_from (x + 100) ts)) → length (spaced_from from (ts ++ t ∷ [])) ≡ cond (nat_le (next_from from ts) t) (length (spaced_from from ts) + 1) (length (spaced_from from ts))
        → length (cond b (x ∷ spaced_from (x + 100) (ts ++ t ∷ [])) (spaced_from from (ts ++ t ∷ []))) ≡ cond (nat_le (cond b (next_from (x + 100) ts) (next_from from ts)) t) (length (cond b (x ∷ spaced_from (x + 100) ts) (spaced_from from ts)) + 1) (length (cond b (x ∷ spaced_from (x + 100) ts) (spaced_from from ts)))
    go true p q = both (nat_le (next_from (x + 100) ts) t) _ _ p
    go false p q = q

pub spaced_short : (from : ℕ) (ts : List ℕ) → length (spaced_from from ts) ≤ length ts
spaced_short from [] = omega arith
spaced_short from (x ∷ ts) = go (nat_le from x) (spaced_short (x + 100) ts) (spaced_short from ts)
  where
    go : (b : Bool) → length (spaced_from (x + 100) ts) ≤ length ts → length (spaced_from from ts) ≤ length ts → length (cond b (x ∷ spaced_from (x + 100) ts) (spaced_from from ts)) ≤ suc (length ts)
    go true p q = omega (arith, p)
    go false p q = omega (arith, q)

pub le_true : (m k : ℕ) → m ≤ k → nat_le m k ≡ true
le_true m k h = grind (arith, nat_tests)

pub le_false : (m k : ℕ) → k < m → nat_le m k ≡ false
le_false m k h = grind (arith, nat_tests)

up_to : (more sp f e d long short m : ℕ) → more ≡ sp + 1 → sp ≤ d → e ≡ d → f ≡ min (e + 1) m → long ≤ m → long ≡ short + 1 → sp ≤ short → more ≤ f
up_to more sp f e d long short m a b c g h i j = omega arith

pub tries_up : (more sp f e d long short : ℕ) → more ≡ sp + 1 → sp ≤ d → e ≡ d → f ≡ min (e + 1) (2 ^ 64 - 1) → long < 2 ^ 64 → long ≡ short + 1 → sp ≤ short → more ≤ f
tries_up more sp f e d long short a b c g h i j = up_to more sp f e d long short (2 ^ 64 - 1) a b c g (omega (arith, h)) i j

no_fewer_up : (sp f e d long short m : ℕ) → sp ≤ d → e ≡ d → f ≡ min (e + 1) m → long ≤ m → long ≡ short + 1 → sp ≤ short → f ≤ sp → ⊥
no_fewer_up sp f e d long short m b c g h i j k = omega arith

-- one more is more than that many
pub no_fewer : (sp f e d long short : ℕ) → sp ≤ d → e ≡ d → f ≡ min (e + 1) (2 ^ 64 - 1) → long < 2 ^ 64 → long ≡ short + 1 → sp ≤ short → f ≤ sp → ⊥
no_fewer sp f e d long short b c g h i j k = no_fewer_up sp f e d long short (2 ^ 64 - 1) b c g (omega (arith, h)) i j k

same_up : (more sp f e d long short m : ℕ) → more ≡ sp → sp ≤ d → e ≡ d → f ≡ min (e + 1) m → long ≤ m → long ≡ short + 1 → sp ≤ short → more ≤ f
same_up more sp f e d long short m a b c g h i j = omega arith

pub tries_same : (more sp f e d long short : ℕ) → more ≡ sp → sp ≤ d → e ≡ d → f ≡ min (e + 1) (2 ^ 64 - 1) → long < 2 ^ 64 → long ≡ short + 1 → sp ≤ short → more ≤ f
tries_same more sp f e d long short a b c g h i j = same_up more sp f e d long short (2 ^ 64 - 1) a b c g (omega (arith, h)) i j

pub less_tries : (more sp d e : ℕ) → e ≤ more → more ≡ sp → e ≡ d → d ≤ sp
less_tries more sp d e a b c = omega arith

pub above : (a b : ℕ) → a < b → a + 1 ≤ b
above a b l = omega arith

pub one_try : (f e : ℕ) → f ≡ min (e + 1) (2 ^ 64 - 1) → 1 ≤ f
one_try f e h = omega arith

pub short_of : (long short : ℕ) → long < 2 ^ 64 → long ≡ short + 1 → short < 2 ^ 64
short_of long short h i = omega arith

pub through : (a b c d : ℕ) → a ≡ b → b ≤ c → d ≡ c → a ≤ d
through a b c d e l i = omega arith

pub at_least : (k : ℕ) → 0 ≤ k
at_least k = omega arith

pub no_ticks : (a b : ℕ) → a ≡ b + 1 → a ≡ 0 → ⊥
no_ticks a b e z = omega arith

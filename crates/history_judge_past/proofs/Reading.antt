-- A backtrace, by the first 4 bytes.
use Rattle.std.proofs.Common.{◌≡◌, ◌≢◌, refl, ap, sym, ◌∙◌, ℕ, zero, suc, ◌-◌, ◌<◌, ◌≤◌, List, [], ◌∷◌, length, take, drop, get_or, true, false, arith, length-drop}
use Rattle.std.specs.Prelude.{nat_le}
use Rattle.std.proofs.lemmas.Bool.Decides.{nat_tests}
use Rattle.std.proofs.lemmas.List.{take_all}
use Rattle.sp_history.specs.declared.parts.Back.{Back}
use Rattle.sp_history.specs.declared.parts.Back.TheVariants.{Found}
use Rattle.sp_history.specs.Backtrace.{back, behind}

-- all of what follows the first 4 bytes
rest_of : (b : List ℕ) → take (length b - 4) (drop 4 b) ≡ drop 4 b
rest_of b = take_all (length b - 4) (drop 4 b) (omega (arith, length-drop 4 b))

found_at : (n : ℕ) (b : List ℕ) → 4 ≤ length b → 128 ≤ get_or b 0 0 → back (suc n) b ≡ Found (take 4 b) (drop 4 b)
found_at n [] l k = absurd (omega arith)
found_at n (w ∷ []) l k = absurd (omega arith)
found_at n (w ∷ x ∷ []) l k = absurd (omega arith)
found_at n (w ∷ x ∷ y ∷ []) l k = absurd (omega arith)
found_at n (w ∷ x ∷ y ∷ z ∷ rest) l k = let e : nat_le 128 w ≡ true = grind (arith, nat_tests) in rw e refl

further_at : (n : ℕ) (b : List ℕ) → 4 ≤ length b → get_or b 0 0 < 128 → back (suc n) b ≡ behind (take 4 b) (back n (drop 4 b))
further_at n [] l k = absurd (omega arith)
further_at n (w ∷ []) l k = absurd (omega arith)
further_at n (w ∷ x ∷ []) l k = absurd (omega arith)
further_at n (w ∷ x ∷ y ∷ []) l k = absurd (omega arith)
further_at n (w ∷ x ∷ y ∷ z ∷ rest) l k = let e : nat_le 128 w ≡ false = grind (arith, nat_tests) in rw e refl

pub back_found : (hops : ℕ) (b : List ℕ) → hops ≢ 0 → 4 ≤ length b → 128 ≤ get_or b 0 0 → Found (take 4 b) (take (length b - 4) (drop 4 b)) ≡ back hops b
back_found zero b h l k = absurd (h refl)
back_found (suc n) b h l k = ap (λ (rest : List ℕ). Found (take 4 b) rest) (rest_of b) ∙ sym (found_at n b l k)

pub back_further : (hops m : ℕ) (b : List ℕ) (r : Back) → hops ≢ 0 → m ≡ hops - 1 → 4 ≤ length b → get_or b 0 0 < 128 → r ≡ back m (take (length b - 4) (drop 4 b)) → behind (take 4 b) r ≡ back hops b
back_further zero m b r h e l k q = absurd (h refl)
back_further (suc n) m b r h e l k q =
    let same : m ≡ n = omega (arith, e) in
    ap (behind (take 4 b)) (q ∙ ap (λ (i : ℕ). back i (take (length b - 4) (drop 4 b))) same ∙ ap (back n) (rest_of b)) ∙ sym (further_at n b l k)

-- The bytes of a stream in memory, and those that a socket wrote.
use Rattle.std.proofs.Common.{◌≡◌, ◌≤◌, ◌+◌, ◌-◌, ◌++◌, ◌∷◌, [], ℕ, List, length, take, drop, sym, ap, ◌∙◌, append-nil, arith}
use Rattle.std.specs.List.{concat}
use Rattle.std.proofs.lemmas.List.Folds.{concat-append}
use Rattle.std.proofs.lemmas.List.{take_all, take_at, take-append-drop, drop-drop, length-take, length-drop}

-- the bytes that a read takes are before those that are left
pub read_prefix : (fed buf piece : List ℕ) (at n : ℕ) → n ≤ length fed - at → piece ≡ take (at + n - at) (drop at fed) → drop at fed ≡ take n (piece ++ drop n buf) ++ drop (at + n) fed
read_prefix fed buf piece at n fits is =
    let k : at + n - at ≡ n = omega arith in
    let piece_is : piece ≡ take n (drop at fed) = is ∙ ap (λ (j : ℕ). take j (drop at fed)) k in
    let long : length piece ≡ n = omega (arith, ap length piece_is, length-take n (drop at fed), length-drop at fed, fits) in
    sym (ap (λ (x : List ℕ). x ++ drop (at + n) fed) (take_at piece (drop n buf) n long ∙ piece_is)
    ∙ ap (λ (x : List ℕ). take n (drop at fed) ++ x) (sym (drop-drop n at fed))
    ∙ take-append-drop n (drop at fed))

-- one more piece was handed over
pub handed_more : (texts new : List (List ℕ)) (piece b : List ℕ) → new ≡ texts ++ piece ∷ [] → piece ≡ b → concat new ≡ concat texts ++ b
handed_more texts new piece b is same =
    ap concat is
    ∙ concat-append texts (piece ∷ [])
    ∙ ap (λ (x : List ℕ). concat texts ++ x) (append-nil piece ∙ same)

-- what was compared follows the first n bytes
pub behind : (fed d b : List ℕ) (at n : ℕ) → d ≡ fed → n ≤ length (take (length d - at) (drop at d)) → take (length (take (length d - at) (drop at d)) - n) (drop n (take (length d - at) (drop at d))) ≡ b → (n ≤ length (drop at fed)) × (drop n (drop at fed) ≡ b)
behind fed d b at n is fits same =
    let u : List ℕ = take (length d - at) (drop at d) in
    let whole : u ≡ drop at fed = take_all (length d - at) (drop at d) (omega (arith, length-drop at d)) ∙ ap (λ (s : List ℕ). drop at s) is in
    let rest : take (length u - n) (drop n u) ≡ drop n u = take_all (length u - n) (drop n u) (omega (arith, length-drop n u)) in
    (omega (arith, ap length whole, fits), sym (ap (λ (s : List ℕ). drop n s) whole) ∙ (sym rest ∙ same))

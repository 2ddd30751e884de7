-- White space at the end of a value.
use Rattle.std.proofs.Common.{◌≡◌, ◌+◌, ◌-◌, ◌<◌, ◌≤◌, ℕ, true, false, List, ◌∷◌, length, take, get_or, reverse, sym, ap, ◌∙◌, arith}
use Rattle.std.proofs.lemmas.List.{take_more, reverse-append, reverse-reverse}
use Rattle.httparse.specs.Grammar.{is_ows, skip_ows, trim_ows}
use Rattle.httparse.proofs.TrimLemmas.{skip_ows_yes, skip_ows_no}

last_of : (s : List ℕ) (end : ℕ) → 0 < end → end ≤ length s → reverse (take end s) ≡ get_or s (end - 1) 0 ∷ reverse (take (end - 1) s)
last_of s end some fits =
    let n : ℕ = end - 1 in
    let is : end ≡ n + 1 = omega (arith, some) in
    ap (λ (k : ℕ). reverse (take k s)) is ∙ rw (take_more s n 0 (omega (arith, some, fits)), reverse-append)

pub blank_last : (s : List ℕ) (end : ℕ) → 0 < end → end ≤ length s → true ≡ is_ows (get_or s (end - 1) 0) → skip_ows (reverse (take end s)) ≡ skip_ows (reverse (take (end - 1) s))
blank_last s end some fits e = skip_ows_yes (last_of s end some fits) e

pub other_last : (s : List ℕ) (end : ℕ) → 0 < end → end ≤ length s → false ≡ is_ows (get_or s (end - 1) 0) → skip_ows (reverse (take end s)) ≡ reverse (take end s)
other_last s end some fits e = skip_ows_no (last_of s end some fits) e

-- trimmed at the front, then at the end
pub trimmed : (bytes front back : List ℕ) → front ≡ skip_ows bytes → reverse back ≡ skip_ows (reverse front) → back ≡ trim_ows bytes
unfolding trim_ows
trimmed bytes front back f b = sym (reverse-reverse back) ∙ ap reverse (b ∙ ap (λ (x : List ℕ). skip_ows (reverse x)) f)

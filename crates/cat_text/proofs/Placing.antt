-- Texts that are written into existing places.
use Rattle.std.proofs.Common.{◌≡◌, ◌≤◌, ◌<◌, ◌+◌, ◌++◌, ℕ, List, [], ◌∷◌, length, take, map, get_or, refl, sym, ap, subst, ◌∙◌, arith}
use Rattle.std.specs.Prelude.{Bool, true, false, ◌==◌, ◌&&◌, ◌/◌, ◌%◌, nat_le, if◌then◌else◌}
use Rattle.std.proofs.lemmas.List.{append_assoc, append-nil, map-append, take_at, length-take-le, take-take, take_more}
use Rattle.std.proofs.Math.Seq.{take-append-add}
use Rattle.std.proofs.lemmas.Grind.{flat_map-append}
use Rattle.std.specs.List.{flat_map}
use Rattle.cat_text.specs.Printing.{digit, quoted}
use Rattle.cat_text.specs.Placing.{Puts, letter, first, width}

-- a piece after a piece
pub more : (p q : List ℕ) (at middle end : ℕ) (old half new : List ℕ) → Puts p at middle old half → Puts q middle end half new → Puts (p ++ q) at end old new
more p q at middle end old half new a b =
    record { same_length = b.same_length ∙ a.same_length; text = b.text ∙ ap (λ (t : List ℕ). t ++ q) a.text ∙ append_assoc (take at old) p q }

-- the same, where the pieces are given in another way
pub more_as : (p q whole : List ℕ) (at middle end : ℕ) (old half new : List ℕ) → whole ≡ p ++ q → Puts p at middle old half → Puts q middle end half new → Puts whole at end old new
more_as p q whole at middle end old half new e a b = subst (λ (t : List ℕ). Puts t at end old new) (sym e) (more p q at middle end old half new a b)

-- the first bytes of a piece of four bytes
pub fewer : (a b c d at n : ℕ) (old new : List ℕ) → n ≤ 4 → at ≤ length old → Puts (a ∷ b ∷ c ∷ d ∷ []) at (at + 4) old new → Puts (take n (a ∷ b ∷ c ∷ d ∷ [])) at (at + n) old new
fewer a b c d at n old new small room h =
    let prefix : List ℕ = take at old in
    let piece : List ℕ = a ∷ b ∷ c ∷ d ∷ [] in
    let before : length prefix ≡ at = length-take-le at old room in
    let within : take (at + n) new ≡ take (at + n) (take (at + 4) new) = sym (take-take (at + n) (at + 4) new (omega arith)) in
    let cut : take (length prefix + n) (prefix ++ piece) ≡ prefix ++ take n piece = take-append-add prefix piece n in
    record { same_length = h.same_length; text = within ∙ ap (take (at + n)) h.text ∙ subst (λ (m : ℕ). take (m + n) (prefix ++ piece) ≡ prefix ++ take n piece) before cut }

-- what is cut off after the piece at the end of a text
pub cut_text : (piece old spare new : List ℕ) (end : ℕ) → Puts piece (length old) end (old ++ spare) new → take end new ≡ old ++ piece
cut_text piece old spare new end h = h.text ∙ ap (λ (t : List ℕ). t ++ piece) (take_at old spare (length old) refl)

-- ---- one more byte of a body

pub map_more : (f : ℕ → ℕ) (body : List ℕ) (i : ℕ) → i < length body → map f (take (i + 1) body) ≡ map f (take i body) ++ f (get_or body i 0) ∷ []
map_more f body i h = ap (map f) (take_more body i 0 h) ∙ map-append f (take i body) (get_or body i 0 ∷ [])

pub flat_more : (f : ℕ → List ℕ) (body : List ℕ) (i : ℕ) → i < length body → flat_map f (take (i + 1) body) ≡ flat_map f (take i body) ++ f (get_or body i 0)
flat_more f body i h = ap (flat_map f) (take_more body i 0 h) ∙ flat_map-append f (take i body) (get_or body i 0 ∷ []) ∙ ap (λ (t : List ℕ). flat_map f (take i body) ++ t) (append-nil (f (get_or body i 0)))

-- ---- the text of a byte between quotes

flags : Bool → Bool → Bool → Bool → Bool → Bool → ℕ
flags a b c d e f = if a then 34 else if b then 92 else if c then 110 else if d then 114 else if e then 116 else if f then 45 else 120

by_flags : (a b c d e f : Bool) (x high low : ℕ) → take (width (flags a b c d e f)) (first x (flags a b c d e f) ∷ flags a b c d e f ∷ high ∷ low ∷ []) ≡ (if a then 92 ∷ 34 ∷ [] else if b then 92 ∷ 92 ∷ [] else if c then 92 ∷ 110 ∷ [] else if d then 92 ∷ 114 ∷ [] else if e then 92 ∷ 116 ∷ [] else if f then x ∷ [] else 92 ∷ 120 ∷ high ∷ low ∷ [])
unfolding flags
by_flags true b c d e f x high low = refl
by_flags false true c d e f x high low = refl
by_flags false false true d e f x high low = refl
by_flags false false false true e f x high low = refl
by_flags false false false false true f x high low = refl
by_flags false false false false false true x high low = refl
by_flags false false false false false false x high low = refl

pub form_is : (b : ℕ) → take (width (letter b)) (first b (letter b) ∷ letter b ∷ digit (b / 16) ∷ digit (b % 16) ∷ []) ≡ quoted b
unfolding flags
form_is b = by_flags (b == 34) (b == 92) (b == 10) (b == 13) (b == 9) (nat_le 32 b && nat_le b 126) b (digit (b / 16)) (digit (b % 16))

pub is_narrow : (b : ℕ) → width (letter b) ≤ 4
is_narrow b = narrow (letter b)
  where
    narrow_by : (p q : Bool) → (if p then 1 else if q then 4 else 2) ≤ 4
    narrow_by true q = omega arith
    narrow_by false true = omega arith
    narrow_by false false = omega arith

    narrow : (l : ℕ) → width l ≤ 4
    narrow l = narrow_by (l == 45) (l == 120)

pub quote_put : (b at end w f l h k : ℕ) (old new : List ℕ) → at + 4 ≤ length old → f ≡ first b (letter b) → l ≡ letter b → h ≡ digit (b / 16) → k ≡ digit (b % 16) → w ≡ width (letter b) → end ≡ at + 4 → Puts (f ∷ l ∷ h ∷ k ∷ []) at end old new → Puts (quoted b) at (at + w) old new
quote_put b at end w f l h k old new room ef el eh ek ew ee p =
    let form : List ℕ = first b (letter b) ∷ letter b ∷ digit (b / 16) ∷ digit (b % 16) ∷ [] in
    let same : f ∷ l ∷ h ∷ k ∷ [] ≡ form = cc in
    let four : Puts (f ∷ l ∷ h ∷ k ∷ []) at (at + 4) old new = subst (λ (m : ℕ). Puts (f ∷ l ∷ h ∷ k ∷ []) at m old new) ee p in
    let whole : Puts form at (at + 4) old new = subst (λ (t : List ℕ). Puts t at (at + 4) old new) same four in
    let part : Puts (take (width (letter b)) form) at (at + width (letter b)) old new = fewer (first b (letter b)) (letter b) (digit (b / 16)) (digit (b % 16)) at (width (letter b)) old new (is_narrow b) (omega (arith, room)) whole in
    let quote : Puts (quoted b) at (at + width (letter b)) old new = subst (λ (t : List ℕ). Puts t at (at + width (letter b)) old new) (form_is b) part in
    subst (λ (n : ℕ). Puts (quoted b) at (at + n) old new) (sym ew) quote

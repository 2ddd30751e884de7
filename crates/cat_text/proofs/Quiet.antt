-- What is between quotes has no control byte.
use Rattle.std.proofs.Common.{◌≡◌, ◌<◌, ◌≤◌, ◌+◌, ◌++◌, ◌∙◌, ℕ, List, [], ◌∷◌, refl, sym, ap, arith}
use Rattle.std.specs.Prelude.{Bool, true, false, ◌==◌, ◌&&◌, ◌/◌, ◌%◌, nat_le, nat_lt, if◌then◌else◌, codes}
use Rattle.std.proofs.lemmas.Grind.{common_steps}
use Rattle.std.proofs.lemmas.List.{append_assoc}
use Rattle.std.specs.List.{flat_map}
use Rattle.cat_text.specs.Printing.{digit, escaped, quoted}
use Rattle.cat_text.specs.Naming.{naming, naming_line, IsQuiet, IsBytes, between_quotes}

both : (a b : List ℕ) → IsQuiet a → IsQuiet b → IsQuiet (a ++ b)
both [] b h k = k
both (x ∷ a) b h k = (h.0, both a b h.1 k)

shown : ℕ → Type 0
shown b = (32 ≤ b) × (b ≤ 126)

digit_by : (t : Bool) (n : ℕ) → nat_lt n 10 ≡ t → n < 16 → (32 ≤ (if t then n + 48 else n + 87)) × ((if t then n + 48 else n + 87) ≤ 126)
digit_by true n e h = (omega arith, omega arith)
digit_by false n e h = (omega arith, omega arith)

digit_shown : (n : ℕ) → n < 16 → (32 ≤ digit n) × (digit n ≤ 126)
digit_shown n h = digit_by (nat_lt n 10) n refl h

escape_quiet : (b : ℕ) → b < 256 → IsQuiet (escaped b)
escape_quiet b h = ((omega arith, omega arith), ((omega arith, omega arith), (digit_shown (b / 16) (omega arith), (digit_shown (b % 16) (omega arith), tt))))

visible : (b : ℕ) → (nat_le 32 b && nat_le b 126) ≡ true → (32 ≤ b) × (b ≤ 126)
visible b e = grind (arith, common_steps)

by_flags : (p q r s t v : Bool) (b : ℕ) → b < 256 → (nat_le 32 b && nat_le b 126) ≡ v → IsQuiet (if p then 92 ∷ 34 ∷ [] else if q then 92 ∷ 92 ∷ [] else if r then 92 ∷ 110 ∷ [] else if s then 92 ∷ 114 ∷ [] else if t then 92 ∷ 116 ∷ [] else if v then b ∷ [] else escaped b)
by_flags true q r s t v b h e = ((omega arith, omega arith), ((omega arith, omega arith), tt))
by_flags false true r s t v b h e = ((omega arith, omega arith), ((omega arith, omega arith), tt))
by_flags false false true s t v b h e = ((omega arith, omega arith), ((omega arith, omega arith), tt))
by_flags false false false true t v b h e = ((omega arith, omega arith), ((omega arith, omega arith), tt))
by_flags false false false false true v b h e = ((omega arith, omega arith), ((omega arith, omega arith), tt))
by_flags false false false false false true b h e = (visible b e, tt)
by_flags false false false false false false b h e = escape_quiet b h

quote_quiet : (b : ℕ) → b < 256 → IsQuiet (quoted b)
quote_quiet b h = by_flags (b == 34) (b == 92) (b == 10) (b == 13) (b == 9) (nat_le 32 b && nat_le b 126) b h refl

quotes_quiet : (word : List ℕ) → IsBytes word → IsQuiet (flat_map quoted word)
quotes_quiet [] h = tt
quotes_quiet (b ∷ word) h = both (quoted b) (flat_map quoted word) (quote_quiet b h.0) (quotes_quiet word h.1)

between_quiet : (word : List ℕ) → IsBytes word → IsQuiet (between_quotes word)
between_quiet word h = ((omega arith, omega arith), both (flat_map quoted word) (34 ∷ []) (quotes_quiet word h) ((omega arith, omega arith), tt))

-- the test of one byte computes
abbrev is_shown : ℕ → Bool
is_shown b = nat_le 32 b && nat_le b 126

abbrev all_shown : List ℕ → Bool
all_shown [] = true
all_shown (b ∷ bytes) = is_shown b && all_shown bytes

first_holds : (p q : Bool) → (p && q) ≡ true → p ≡ true
first_holds true q e = refl
first_holds false q e = e

second_holds : (p q : Bool) → (p && q) ≡ true → q ≡ true
second_holds p true e = refl
second_holds true false e = e
second_holds false false e = e

by_test : (text : List ℕ) → all_shown text ≡ true → IsQuiet text
by_test [] e = tt
by_test (b ∷ text) e = (visible b (first_holds (is_shown b) (all_shown text) e), by_test text (second_holds (is_shown b) (all_shown text) e))

lead_quiet : IsQuiet (codes "nngcat: see nngcat --help; can't go on with ")
lead_quiet = by_test (codes "nngcat: see nngcat --help; can't go on with ") refl

pub quiet : (word : List ℕ) → IsBytes word → IsQuiet (naming_line word)
quiet word h = both (codes "nngcat: see nngcat --help; can't go on with ") (between_quotes word) lead_quiet (between_quiet word h)

before_feed : (lead middle : List ℕ) → lead ++ (34 ∷ middle ++ 34 ∷ 10 ∷ []) ≡ (lead ++ (34 ∷ middle ++ 34 ∷ [])) ++ 10 ∷ []
before_feed lead middle = ap (λ (t : List ℕ). lead ++ (34 ∷ t)) (sym (append_assoc middle (34 ∷ []) (10 ∷ []))) ∙ sym (append_assoc lead (34 ∷ middle ++ 34 ∷ []) (10 ∷ []))

pub feeds : (word : List ℕ) → naming word ≡ naming_line word ++ 10 ∷ []
feeds word = before_feed (codes "nngcat: see nngcat --help; can't go on with ") (flat_map quoted word)

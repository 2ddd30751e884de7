-- The values of the lines with one name.
use Rattle.std.proofs.Common.{◌≡◌, ℕ, Bool, true, false, ◌||◌, ◌+◌, ◌-◌, ◌<◌, length, take, drop, arith, map, get_or, List, [], ◌∷◌, None, Some, refl, sym, ap, ◌∙◌}
use Rattle.std.proofs.lemmas.Bool.{cond-true, cond-false}
use Rattle.std.proofs.lemmas.List.{drop_more, take_all, length-drop}
use Rattle.httparse.specs.declared.spans.HeaderSpan.{HeaderSpan}
use Rattle.httparse.specs.Spans.{header_bytes, span_bytes}
use Rattle.sp_upgrade.specs.Lines.{Lines, same_word, values, has_line, sole}

true_not_false : true ≡ false → ⊥
true_not_false e = cc e

-- no line, so no value
pub no_values : (name : List ℕ) (ls : Lines) → has_line name ls ≡ false → values name ls ≡ []
no_values name [] e = refl
no_values name (l ∷ ls) e = by_test (λ h. no_values name ls h) (same_word l.0 name) refl
  where
    by_test : (has_line name ls ≡ false → values name ls ≡ []) → (t : Bool) → same_word l.0 name ≡ t → values name (l ∷ ls) ≡ []
    by_test later true is = absurd (true_not_false (sym (ap (λ (b : Bool). b || has_line name ls) is) ∙ e))
    by_test later false is = cond-false _ _ _ is ∙ later (sym (ap (λ (b : Bool). b || has_line name ls) is) ∙ e)

-- a line, so a value
pub some_value : (name : List ℕ) (ls : Lines) → has_line name ls ≡ true → (v : List ℕ) × (vs : List (List ℕ)) × (values name ls ≡ v ∷ vs)
some_value name [] e = absurd (true_not_false (sym e))
some_value name (l ∷ ls) e = by_test (λ h. some_value name ls h) (same_word l.0 name) refl
  where
    by_test : (has_line name ls ≡ true → (v : List ℕ) × (vs : List (List ℕ)) × (values name ls ≡ v ∷ vs)) → (t : Bool) → same_word l.0 name ≡ t → (v : List ℕ) × (vs : List (List ℕ)) × (values name (l ∷ ls) ≡ v ∷ vs)
    by_test later true is = (l.1, values name ls, cond-true _ _ _ is)
    by_test later false is =
        let r = later (sym (ap (λ (b : Bool). b || has_line name ls) is) ∙ e) in
        (r.0, r.1, cond-false _ _ _ is ∙ r.2)

pub sole_here : (name : List ℕ) (l : List ℕ × List ℕ) (ls : Lines) → same_word l.0 name ≡ true → has_line name ls ≡ false → sole (values name (l ∷ ls)) ≡ Some l.1
sole_here name l ls is none = ap sole (cond-true _ _ _ is ∙ ap (λ (vs : List (List ℕ)). l.1 ∷ vs) (no_values name ls none))

pub sole_twice : (name : List ℕ) (l : List ℕ × List ℕ) (ls : Lines) → same_word l.0 name ≡ true → has_line name ls ≡ true → sole (values name (l ∷ ls)) ≡ None
sole_twice name l ls is again =
    let r = some_value name ls again in
    ap sole (cond-true _ _ _ is ∙ ap (λ (vs : List (List ℕ)). l.1 ∷ vs) r.2)

-- the lines from the first one of the name on
here : (head name : List ℕ) (spans : List HeaderSpan) (i : ℕ) (d : HeaderSpan) → i < length spans → values name (map (header_bytes head) spans) ≡ values name (map (header_bytes head) (drop i spans))
    → values name (map (header_bytes head) spans) ≡ values name (header_bytes head (get_or spans i d) ∷ map (header_bytes head) (drop (i + 1) spans))
here head name spans i d inside so_far = so_far ∙ ap (λ (x : List HeaderSpan). values name (map (header_bytes head) x)) (drop_more spans i d inside)

on_the_rest : (head name : List ℕ) (spans : List HeaderSpan) (i : ℕ) (t : Bool) → has_line name (map (header_bytes head) (take (length spans - (i + 1)) (drop (i + 1) spans))) ≡ t → has_line name (map (header_bytes head) (drop (i + 1) spans)) ≡ t
on_the_rest head name spans i t e =
    let all : take (length spans - (i + 1)) (drop (i + 1) spans) ≡ drop (i + 1) spans = take_all (length spans - (i + 1)) (drop (i + 1) spans) (omega (arith, length-drop (i + 1) spans)) in
    sym (ap (λ (x : List HeaderSpan). has_line name (map (header_bytes head) x)) all) ∙ e

pub twice_at : (head name : List ℕ) (spans : List HeaderSpan) (i : ℕ) (d : HeaderSpan) → i < length spans → values name (map (header_bytes head) spans) ≡ values name (map (header_bytes head) (drop i spans))
    → same_word (span_bytes head (get_or spans i d).name) name ≡ true → has_line name (map (header_bytes head) (take (length spans - (i + 1)) (drop (i + 1) spans))) ≡ true → None ≡ sole (values name (map (header_bytes head) spans))
twice_at head name spans i d inside so_far is again =
    sym (ap sole (here head name spans i d inside so_far) ∙ sole_twice name (header_bytes head (get_or spans i d)) (map (header_bytes head) (drop (i + 1) spans)) is (on_the_rest head name spans i true again))

pub sole_at : (head name : List ℕ) (spans : List HeaderSpan) (i : ℕ) (d : HeaderSpan) → i < length spans → values name (map (header_bytes head) spans) ≡ values name (map (header_bytes head) (drop i spans))
    → same_word (span_bytes head (get_or spans i d).name) name ≡ true → has_line name (map (header_bytes head) (take (length spans - (i + 1)) (drop (i + 1) spans))) ≡ false → Some (span_bytes head (get_or spans i d).value) ≡ sole (values name (map (header_bytes head) spans))
sole_at head name spans i d inside so_far is none =
    sym (ap sole (here head name spans i d inside so_far) ∙ sole_here name (header_bytes head (get_or spans i d)) (map (header_bytes head) (drop (i + 1) spans)) is (on_the_rest head name spans i false none))

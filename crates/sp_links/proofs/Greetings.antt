-- A greeting that came, in part or whole.
use Rattle.std.proofs.Common.{◌≡◌, ◌≤◌, ◌<◌, ◌++◌, ℕ, List, length, take, drop, min, refl, sym, ap, ◌∙◌, arith}
use Rattle.std.proofs.lemmas.List.{take-append-drop, take-append-le, take_all, length-append}
use Rattle.sp_base.specs.Outside.{IsPrefix}
use Rattle.sp_base.specs.SpTcp.{hello, IsBadGreeting}

pub hello_long : (n : ℕ) → length (hello n) ≡ 8
hello_long n = refl

-- a prefix of a list is taken from it
prefix_taken : (xs ys : List ℕ) → IsPrefix xs ys → take (length xs) ys ≡ xs
prefix_taken xs ys f = ap (take (length xs)) f.1 ∙ take-append-le (length xs) xs f.0 (omega arith) ∙ take_all (length xs) xs (omega arith)

prefix_long : (xs ys : List ℕ) → IsPrefix xs ys → length xs ≤ length ys
prefix_long xs ys f = omega (arith, ap length f.1, length-append xs f.0)

module _ (n : ℕ) (came : List ℕ) (count : ℕ) (is : count ≡ min (length came) 8) where
  -- the first `count` bytes differ
  pub bad_by : (take count came ≡ take count (hello n) → ⊥) → IsBadGreeting n came
  bad_by differs = (fewer, all)
    where
      fewer : IsPrefix came (hello n) → ⊥
      fewer f =
          let long = prefix_long came (hello n) f in
          let k : count ≡ length came = omega (arith, is, long, hello_long n) in
          differs (ap (λ (j : ℕ). take j came) k ∙ take_all (length came) came (omega arith) ∙ sym (prefix_taken came (hello n) f) ∙ ap (λ (j : ℕ). take j (hello n)) (sym k))

      all : IsPrefix (hello n) came → ⊥
      all f =
          let long = prefix_long (hello n) came f in
          let k : count ≡ 8 = omega (arith, is, long, hello_long n) in
          differs (ap (λ (j : ℕ). take j came) k ∙ prefix_taken (hello n) came f ∙ sym (take_all 8 (hello n) (omega (arith, hello_long n))) ∙ ap (λ (j : ℕ). take j (hello n)) (sym k))

  -- the first `count` bytes are the same, and there are fewer than eight
  pub more_by : take count came ≡ take count (hello n) → count < 8 → IsPrefix came (hello n)
  more_by same few =
      let k : count ≡ length came = omega (arith, is, few) in
      let all : came ≡ take count (hello n) = sym (ap (λ (j : ℕ). take j came) k ∙ take_all (length came) came (omega arith)) ∙ same in
      (drop count (hello n), sym (ap (λ (t : List ℕ). t ++ drop count (hello n)) all ∙ take-append-drop count (hello n)))

  pub few_by : count < 8 → length came < 8
  few_by few = omega (arith, is, few)

  -- all eight are the same
  pub good_by : take count came ≡ take count (hello n) → 8 ≤ count → IsPrefix (hello n) came
  good_by same many =
      let k : count ≡ 8 = go in
      let whole : take 8 came ≡ hello n = ap (λ (j : ℕ). take j came) (sym k) ∙ same ∙ ap (λ (j : ℕ). take j (hello n)) k ∙ take_all 8 (hello n) (omega (arith, hello_long n)) in
      (drop 8 came, sym (ap (λ (t : List ℕ). t ++ drop 8 came) (sym whole) ∙ take-append-drop 8 came))
    where
      go : count ≡ 8
      go = omega (arith, is, many)

-- a part isn't the whole
pub part_or_whole : (n : ℕ) (came : List ℕ) → length came < 8 → IsPrefix (hello n) came → ⊥
part_or_whole n came few f = omega (arith, few, prefix_long (hello n) came f, hello_long n)

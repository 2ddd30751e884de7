-- Where a head ends, of all that came.
use Rattle.std.proofs.Common.{◌≡◌, ◌<◌, ◌≤◌, ◌+◌, ℕ, min, List, length, take, drop, sym, ap, subst, ◌∙◌, inl, inr, arith}
use Rattle.std.proofs.lemmas.List.{length-take, length-drop, take-take, take_all}
use Rattle.std.proofs.lemmas.Bool.Decides.{leb_tells}
use Rattle.sp_upgrade.specs.Blanks.{most, IsBlankAt, EndsAt, HasHead, IsShort, IsTooLong}
use Rattle.sp_upgrade.specs.declared.head.Head.{Head}
use Rattle.sp_upgrade.specs.declared.head.Head.TheVariants as heads
use Rattle.sp_upgrade.specs.declared.head.HeadFault.{HeadFault}
use Rattle.sp_upgrade.specs.Opening.{OfHead, Answers}

-- a blank line has room
pub blank_fits : (s : List ℕ) (i : ℕ) → IsBlankAt s i → i + 4 ≤ length s
blank_fits s i e = omega (arith, ap length e, length-take 4 (drop i s), length-drop i s)

-- the result for a head is the result for all that came
pub of_all : (IsGood : List ℕ → List ℕ → Type 0) (IsBad : List ℕ → HeadFault → Type 0) (answer : Head) (came head : List ℕ) → HasHead came head → OfHead IsGood IsBad answer head → Answers IsGood IsBad answer came
of_all IsGood IsBad heads.More came head has of = absurd of
of_all IsGood IsBad (heads.Good used answer) came head has of = (head, has, of.0, of.1)
of_all IsGood IsBad (heads.Bad fault) came head has of = inr (head, has, of)
of_all IsGood IsBad heads.NoMemory came head has of = (head, has, of)

-- the part that is looked at
looked_at : (s : List ℕ) → take (min (length s) most) s ≡ take most s
looked_at s = elim (leb_tells (length s) most) [
  | inl p ↦ take_all (min (length s) most) s (omega (arith, p.1)) ∙ sym (take_all most s p.1)
  | inr p ↦
      let k : min (length s) most ≡ most = omega (arith, p.1) in
      ap (λ (j : ℕ). take j s) k
]

-- the head of what is looked at
pub has_head : (came : List ℕ) (n used : ℕ) → n ≡ min (length came) most → EndsAt (take n came) used → HasHead came (take used (take n came))
has_head came n used is ends =
    let same : take n came ≡ take most came = ap (λ (k : ℕ). take k came) is ∙ looked_at came in
    record {
      used = used;
      ends = subst (λ x. EndsAt x used) same ends;
      head_is = take-take used n came (omega (arith, ends.fits, length-take n came));
    }

-- no blank line in what is looked at, and more may come
pub no_blank_short : (came : List ℕ) (n : ℕ) → n ≡ min (length came) most → length came < most → ((i : ℕ) → IsBlankAt (take n came) i → ⊥) → IsShort came
no_blank_short came n is short none =
    let same : take n came ≡ came = take_all n came (omega (arith, is, short)) in
    (short, subst (λ x. (i : ℕ) → IsBlankAt x i → ⊥) same none)

pub no_blank_long : (came : List ℕ) (n : ℕ) → n ≡ min (length came) most → most ≤ length came → ((i : ℕ) → IsBlankAt (take n came) i → ⊥) → IsTooLong came
no_blank_long came n is long none =
    (long, subst (λ x. (i : ℕ) → IsBlankAt x i → ⊥) (ap (λ (k : ℕ). take k came) is ∙ looked_at came) none)

-- What is left of a script, and what it gives next.
use Rattle.std.proofs.Common.{◌≡◌, ◌≤◌, ◌<◌, ◌+◌, ℕ, zero, suc, Bool, true, false, List, [], ◌∷◌, length, take, drop, min, Some, inl, inr, refl, sym, ap, subst, ◌∙◌, arith}
use Rattle.std.specs.Prelude.{slice_get}
use Rattle.std.proofs.lemmas.List.{drop-drop, drop_all, length-drop}
use Rattle.sp_base.specs.declared.outside.LinkRead.{LinkRead}
use Rattle.sp_base.specs.declared.outside.LinkRead.TheVariants as reads
use Rattle.sp_fakes.specs.declared.link.LinkStep.{LinkStep}
use Rattle.sp_fakes.specs.declared.link.LinkStep.TheVariants as steps
use Rattle.sp_fakes.specs.Scripts.{cut, left_at, IsSpent, GivesNext, stands_at_end}

pub cut-none : (script : List LinkStep) → cut 0 script ≡ script
cut-none [] = refl
cut-none (steps.Bytes b ∷ rest) = refl
cut-none (steps.NotYet ∷ rest) = refl
cut-none (steps.After n ∷ rest) = refl
cut-none (steps.End ∷ rest) = refl
cut-none (steps.Fail ∷ rest) = refl

-- the step at a place is the first of those from there
from_place : (script : List LinkStep) (at : ℕ) (step : LinkStep) → slice_get script at ≡ Some step → drop at script ≡ step ∷ drop (at + 1) script
from_place [] at step e = absurd cc
from_place (s ∷ rest) zero step e = let same : s ≡ step = cc in ap (λ x. x ∷ rest) same
from_place (s ∷ rest) (suc at) step e =
    let more : suc at + 1 ≡ suc (at + 1) = omega arith in
    from_place rest at step e ∙ ap (λ n. step ∷ drop n (s ∷ rest)) (sym more)

pub left_is : (script : List LinkStep) (at offset : ℕ) (step : LinkStep) → slice_get script at ≡ Some step → cut offset (step ∷ drop (at + 1) script) ≡ left_at script at offset
left_is script at offset step e = ap (cut offset) (sym (from_place script at step e))

-- from a place on
pub left_from : (script : List LinkStep) (at : ℕ) → drop at script ≡ left_at script at 0
left_from script at = sym (cut-none (drop at script))

pub gives_past : (written at offset : ℕ) (script : List LinkStep) (buf : List ℕ) → length script ≤ at → GivesNext written (left_at script at offset) reads.NotYet buf (left_at script at offset)
gives_past written at offset script buf le =
    let none : [] ≡ left_at script at offset = ap (cut offset) (sym (drop_all at script le)) in
    subst (λ l. GivesNext written l reads.NotYet buf l) none (refl, refl)

-- a step that is spent is passed
spent : (written offset : ℕ) (step : LinkStep) (rest : List LinkStep) (result : LinkRead) (buf : List ℕ) (left : List LinkStep) → IsSpent step offset written → GivesNext written rest result buf left → GivesNext written (cut offset (step ∷ rest)) result buf left
spent written offset (steps.Bytes b) rest result buf left is gives = subst (λ c. GivesNext written (steps.Bytes c ∷ rest) result buf left) (sym (drop_all offset b is)) gives
spent written offset (steps.After n) rest result buf left is gives = inl (is, gives)
spent written offset steps.NotYet rest result buf left is gives = absurd is
spent written offset steps.End rest result buf left is gives = absurd is
spent written offset steps.Fail rest result buf left is gives = absurd is

pub gives_pass : (written : ℕ) (script : List LinkStep) (at offset : ℕ) (step : LinkStep) (result : LinkRead) (buf : List ℕ) (left : List LinkStep) → slice_get script at ≡ Some step → IsSpent step offset written
    → GivesNext written (left_at script (at + 1) 0) result buf left → GivesNext written (left_at script at offset) result buf left
gives_pass written script at offset step result buf left e is gives =
    subst (λ l. GivesNext written l result buf left) (left_is script at offset step e)
    (spent written offset step (drop (at + 1) script) result buf left is (subst (λ l. GivesNext written l result buf left) (sym (left_from script (at + 1))) gives))

-- bytes that are left are given
pieces : (written n : ℕ) (bytes : List ℕ) (rest : List LinkStep) (buf : List ℕ) → 0 < length bytes → n ≡ min (length bytes) (length buf) → take n buf ≡ take n bytes → GivesNext written (steps.Bytes bytes ∷ rest) (reads.Got n) buf (steps.Bytes (drop n bytes) ∷ rest)
pieces written n [] rest buf some is same = absurd (omega (arith, some))
pieces written n (b ∷ bs) rest buf some is same = (
  ap reads.Got is,
  subst (λ k. take k buf ≡ take k (b ∷ bs)) is same,
  ap (λ k. steps.Bytes (drop k (b ∷ bs)) ∷ rest) is,
)

pub gives_bytes : (written : ℕ) (script : List LinkStep) (at offset n : ℕ) (bytes buf : List ℕ) → slice_get script at ≡ Some (steps.Bytes bytes) → offset < length bytes → n ≡ min (length (drop offset bytes)) (length buf) → take n buf ≡ take n (drop offset bytes)
    → GivesNext written (left_at script at offset) (reads.Got n) buf (left_at script at (offset + n))
gives_bytes written script at offset n bytes buf e some is same =
    let rest = drop (at + 1) script in
    let after : steps.Bytes (drop n (drop offset bytes)) ∷ rest ≡ left_at script at (offset + n) = ap (λ c. steps.Bytes c ∷ rest) (drop-drop n offset bytes) ∙ left_is script at (offset + n) (steps.Bytes bytes) e in
    subst (λ l. GivesNext written l (reads.Got n) buf (left_at script at (offset + n))) (left_is script at offset (steps.Bytes bytes) e)
    (subst (λ l. GivesNext written (steps.Bytes (drop offset bytes) ∷ rest) (reads.Got n) buf l) after (pieces written n (drop offset bytes) rest buf (omega (arith, length-drop offset bytes, some)) is same))

pub gives_not_yet : (written : ℕ) (script : List LinkStep) (at offset : ℕ) (buf : List ℕ) → slice_get script at ≡ Some steps.NotYet → GivesNext written (left_at script at offset) reads.NotYet buf (left_at script (at + 1) 0)
gives_not_yet written script at offset buf e = subst (λ l. GivesNext written l reads.NotYet buf (left_at script (at + 1) 0)) (left_is script at offset steps.NotYet e) (refl, sym (left_from script (at + 1)))

pub gives_fail : (written : ℕ) (script : List LinkStep) (at offset : ℕ) (buf : List ℕ) → slice_get script at ≡ Some steps.Fail → GivesNext written (left_at script at offset) reads.Failed buf (left_at script (at + 1) 0)
gives_fail written script at offset buf e = subst (λ l. GivesNext written l reads.Failed buf (left_at script (at + 1) 0)) (left_is script at offset steps.Fail e) (refl, sym (left_from script (at + 1)))

pub gives_end : (written : ℕ) (script : List LinkStep) (at offset : ℕ) (buf : List ℕ) → slice_get script at ≡ Some steps.End → GivesNext written (left_at script at offset) reads.Ended buf (left_at script at offset)
gives_end written script at offset buf e = subst (λ l. GivesNext written l reads.Ended buf l) (left_is script at offset steps.End e) (refl, refl)

pub gives_after : (written : ℕ) (script : List LinkStep) (at offset n : ℕ) (buf : List ℕ) → slice_get script at ≡ Some (steps.After n) → written < n → GivesNext written (left_at script at offset) reads.NotYet buf (left_at script at offset)
gives_after written script at offset n buf e lt = subst (λ l. GivesNext written l reads.NotYet buf l) (left_is script at offset (steps.After n) e) (inr (lt, refl, refl))

-- a link is at an end exactly where the step there is one
pub end_stands : (script : List LinkStep) (at : ℕ) → slice_get script at ≡ Some steps.End → stands_at_end true script at ≡ true
end_stands [] at e = absurd cc
end_stands (steps.End ∷ rest) zero e = refl
end_stands (steps.Bytes b ∷ rest) zero e = absurd cc
end_stands (steps.NotYet ∷ rest) zero e = absurd cc
end_stands (steps.After n ∷ rest) zero e = absurd cc
end_stands (steps.Fail ∷ rest) zero e = absurd cc
end_stands (steps.End ∷ rest) (suc at) e = end_stands rest at e
end_stands (steps.Bytes b ∷ rest) (suc at) e = end_stands rest at e
end_stands (steps.NotYet ∷ rest) (suc at) e = end_stands rest at e
end_stands (steps.After n ∷ rest) (suc at) e = end_stands rest at e
end_stands (steps.Fail ∷ rest) (suc at) e = end_stands rest at e

stands_end : (script : List LinkStep) (at : ℕ) → stands_at_end true script at ≡ true → slice_get script at ≡ Some steps.End
stands_end [] at e = let f : false ≡ true = e in absurd cc
stands_end (steps.End ∷ rest) zero e = refl
stands_end (steps.Bytes b ∷ rest) zero e = let f : false ≡ true = e in absurd cc
stands_end (steps.NotYet ∷ rest) zero e = let f : false ≡ true = e in absurd cc
stands_end (steps.After n ∷ rest) zero e = let f : false ≡ true = e in absurd cc
stands_end (steps.Fail ∷ rest) zero e = let f : false ≡ true = e in absurd cc
stands_end (steps.End ∷ rest) (suc at) e = stands_end rest at e
stands_end (steps.Bytes b ∷ rest) (suc at) e = stands_end rest at e
stands_end (steps.NotYet ∷ rest) (suc at) e = stands_end rest at e
stands_end (steps.After n ∷ rest) (suc at) e = stands_end rest at e
stands_end (steps.Fail ∷ rest) (suc at) e = stands_end rest at e

pub gives_end_again : (written : ℕ) (script : List LinkStep) (at offset : ℕ) (buf : List ℕ) (at_end : Bool) → at_end ≡ true → stands_at_end at_end script at ≡ true → GivesNext written (left_at script at offset) reads.Ended buf (left_at script at offset)
gives_end_again written script at offset buf at_end is e = gives_end written script at offset buf (stands_end script at (subst (λ b. stands_at_end b script at ≡ true) is e))

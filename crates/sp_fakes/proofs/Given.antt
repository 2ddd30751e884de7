-- What a script gives, as it is read further.
use Rattle.std.proofs.Common.{◌≡◌, ◌≤◌, ◌+◌, ◌++◌, ℕ, zero, suc, List, [], ◌∷◌, length, take, drop, Some, refl, sym, ap, ◌∙◌, append-nil, append_assoc, arith}
use Rattle.std.specs.Prelude.{slice_get}
use Rattle.std.proofs.lemmas.List.{take_all}
use Rattle.std.proofs.Math.Seq.{take-add}
use Rattle.sp_fakes.specs.declared.link.LinkStep.{LinkStep}
use Rattle.sp_fakes.specs.Scripts.{given, step_bytes}

pub given-start : (script : List LinkStep) → given script 0 0 ≡ []
given-start [] = refl
given-start (step ∷ rest) = refl

some_is : {A : Type 0} (x y : A) → Some x ≡ Some y → x ≡ y
some_is x y e = cc

-- a step whose bytes were all given may be passed
pub given-pass : (script : List LinkStep) (at offset : ℕ) (step : LinkStep) → slice_get script at ≡ Some step → length (step_bytes step) ≤ offset → given script (at + 1) 0 ≡ given script at offset
given-pass [] at offset step e h = absurd cc
given-pass (s ∷ rest) zero offset step e h =
    let same : s ≡ step = some_is s step e in
    let short : length (step_bytes s) ≤ offset = omega (arith, h, ap (λ t. length (step_bytes t)) same) in
    ap (λ t. step_bytes s ++ t) (given-start rest) ∙ append-nil (step_bytes s) ∙ sym (take_all offset (step_bytes s) short)
given-pass (s ∷ rest) (suc at) offset step e h =
    let more : suc at + 1 ≡ suc (at + 1) = omega arith in
    ap (λ n. given (s ∷ rest) n 0) more ∙ ap (λ t. step_bytes s ++ t) (given-pass rest at offset step e h)

-- more bytes of a step
pub given-more : (script : List LinkStep) (at offset n : ℕ) (step : LinkStep) → slice_get script at ≡ Some step → given script at (offset + n) ≡ given script at offset ++ take n (drop offset (step_bytes step))
given-more [] at offset n step e = absurd cc
given-more (s ∷ rest) zero offset n step e =
    let same : s ≡ step = some_is s step e in
    take-add offset n (step_bytes s) ∙ ap (λ t. take offset (step_bytes s) ++ take n (drop offset (step_bytes t))) same
given-more (s ∷ rest) (suc at) offset n step e =
    ap (λ t. step_bytes s ++ t) (given-more rest at offset n step e) ∙ sym (append_assoc (step_bytes s) (given rest at offset) (take n (drop offset (step_bytes step))))

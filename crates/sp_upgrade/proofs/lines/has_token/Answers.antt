use Rattle.std.proofs.Common.{◌≡◌, ℕ, ◌+◌, ◌-◌, ◌<◌, ◌≤◌, Bool, true, false, ◌==◌, List, length, get_or, take, drop, map, refl, ◌∙◌, arith, length-drop, get_or-drop}
use Rattle.std.specs.List.{list_any}
use Rattle.std.proofs.lemmas.List.{drop_more, take_more}
use Rattle.std.proofs.lemmas.Bool.Decides.{nat_tests}
use Rattle.httparse.specs.Grammar.{trim_ows}
use Rattle.sp_upgrade.specs.Lines.{same_token, tokens, parts_from}
use Rattle.sp_upgrade.proofs.lines.has_token.Goals as goal
use Rattle.sp_upgrade.proofs.lines.has_token.Goals.{then-value-i-eq44+else-is_token, else-value-i-eq44}

abbrev any_of : Bool → List ℕ → List (List ℕ) → Bool
any_of exact wanted parts = list_any (λ t. same_token exact t wanted) (map trim_ows parts)

-- at a comma a new part begins
at_comma : (exact : Bool) (wanted piece bs : List ℕ) (i : ℕ) → i < length bs → (get_or bs i 0 == 44) ≡ true → same_token exact (trim_ows piece) wanted ≡ false
    → any_of exact wanted (parts_from piece (drop i bs)) ≡ any_of exact wanted (parts_from (take (i + 1 - (i + 1)) (drop (i + 1) bs)) (drop (i + 1) bs))
at_comma exact wanted piece bs i inside test other =
    let none : i + 1 - (i + 1) ≡ 0 = omega arith in rw (drop_more bs i 0 inside, test, other, none)

-- any other byte extends the part
in_part : (exact : Bool) (wanted bs : List ℕ) (start i : ℕ) → start ≤ i → i < length bs → (get_or bs i 0 == 44) ≡ false
    → any_of exact wanted (parts_from (take (i - start) (drop start bs)) (drop i bs)) ≡ any_of exact wanted (parts_from (take (i + 1 - start) (drop start bs)) (drop (i + 1) bs))
in_part exact wanted bs start i ordered inside test =
    let more : i + 1 - start ≡ i - start + 1 = omega arith in
    let back : start + (i - start) ≡ i = omega arith in
    rw (drop_more bs i 0 inside, test, more, take_more (drop start bs) (i - start) 0 (omega (arith, length-drop start bs)), get_or-drop, back)

pub loop-i-init : goal.loop-i-init
unfolding tokens
loop-i-init c = (omega arith, refl)

pub loop-i-preserved : goal.loop-i-preserved
loop-i-preserved c =
    elim c.if-value-i-eq44.branch [
      | then-value-i-eq44+else-is_token w ↦
          rw w.start-is (omega arith, c.loop-i.invariant.1 ∙ at_comma _ _ _ c.args.value.now c.loop-i.i (omega arith) (grind (arith, nat_tests)) (grind arith))
      | else-value-i-eq44 w ↦
          rw w.start-is (omega arith, c.loop-i.invariant.1 ∙ in_part _ _ c.args.value.now c.loop-i.start c.loop-i.i c.loop-i.invariant.0 (omega arith) (grind (arith, nat_tests)))
    ]

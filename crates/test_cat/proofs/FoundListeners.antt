-- A listener that was added is found under its number.
use Rattle.std.proofs.Common.{◌≡◌, ℕ, true, cond, eqb, Some, refl, sym, ap, subst, ◌∙◌, arith}
use Rattle.std.specs.Prelude.{IsSome}
use Rattle.std.specs.FinMap.{FinMap, get, insert, get-insert}
use Rattle.std.specs.Ordering.{nat_cmp, eq_by_cmp, is_eq}
use Rattle.std.specs.Cmp.{nat_cmp_total}
use Rattle.std.specs.declared.cmp.Ordering.TheVariants.{Less, Equal, Greater}
use Rattle.std.proofs.lemmas.Bool.{le-ltb, eq-eqb}
use Rattle.sp_base.specs.declared.addr.Scheme.{Scheme}

same_number : (n : ℕ) → eq_by_cmp nat_cmp n n ≡ true
same_number n =
    ap (λ b. is_eq (cond b Less (cond (eqb n n) Equal Greater))) (le-ltb n n (omega arith))
    ∙ ap (λ b. is_eq (cond b Equal Greater)) (eq-eqb n n refl)

-- a listener that was added is in the map
pub is_there : (old new : FinMap nat_cmp Scheme) (n : ℕ) (scheme : Scheme) → new ≡ insert old n scheme → IsSome (get new n)
is_there old new n scheme e =
    subst IsSome (sym (ap (λ m. get m n) e ∙ get-insert nat_cmp_total old n scheme n ∙ ap (λ b. cond b (Some scheme) (get old n)) (same_number n))) refl

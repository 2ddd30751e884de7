-- The greetings of each link that stays began not long ago.
use Rattle.std.proofs.Common.{◌≡◌, ◌≤◌, ◌++◌, ◌∷◌, ℕ, zero, suc, List, [], length, sym, subst, arith}
use Rattle.std.specs.List.{AllByRecursion}
use Rattle.std.proofs.lemmas.List.{drop_all}
use Rattle.sp_ends.specs.declared.newcomer.Newcomer.{Newcomer}
use Rattle.sp_ends.specs.NewcomerSteps.{IsYoung}
use Rattle.sp_ends.specs.EndsTurns.{AreYoung}

module _ {L : Type 0} (now : ℕ) where
  -- none is left except those at the beginning
  pub young_none : (k : ℕ) (ns : List (Newcomer L)) → length ns ≤ k → AreYoung now k ns
  young_none k ns le = subst (AllByRecursion (IsYoung now)) (sym (drop_all k ns le)) tt

  -- one more after them
  pub young_more : (k : ℕ) (ns : List (Newcomer L)) (n : Newcomer L) → AreYoung now k ns → IsYoung now n → AreYoung now k (ns ++ n ∷ [])
  young_more zero [] n a y = (y, tt)
  young_more zero (m ∷ ns) n a y = (a.0, young_more zero ns n a.1 y)
  young_more (suc k) [] n a y = young_none k [] (omega arith)
  young_more (suc k) (m ∷ ns) n a y = young_more k ns n a y

  -- the first is taken out
  pub young_rest : (k r : ℕ) (n : Newcomer L) (ns : List (Newcomer L)) → k ≡ suc r → AreYoung now k (n ∷ ns) → AreYoung now r ns
  young_rest k r n ns e a = let b : AreYoung now (suc r) (n ∷ ns) = subst (λ (m : ℕ). AreYoung now m (n ∷ ns)) e a in b

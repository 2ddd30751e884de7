-- What tests of numbers, and of a raw or a cooked socket, give.
use Rattle.std.proofs.Common.{◌≡◌, refl, sym, ◌∙◌, ℕ, Bool, true, false, arith, Some}
use Rattle.std.specs.Prelude.{not, ◌||◌, ◌&&◌, ◌==◌}
use Rattle.std.proofs.lemmas.Bool.Decides.{nat_tests}

pub equal_of : (m n : ℕ) → (m == n) ≡ true → m ≡ n
equal_of m n h = grind (arith, nat_tests)

pub turned : (m n : ℕ) (b : Bool) → (m == n) ≡ b → (n == m) ≡ b
turned m n true h = grind (arith, nat_tests)
turned m n false h = grind (arith, nat_tests)

pub same_number : (n : ℕ) → (n == n) ≡ true
same_number n = grind (arith, nat_tests)

pub zero_is : (n : ℕ) (b : Bool) → n ≡ 0 → ((n == 0) || b) ≡ true
zero_is n b h = rw h refl

pub cooked_is : (b r : Bool) → r ≡ false → (b || not r) ≡ true
cooked_is true r h = refl
cooked_is false r h = rw h refl

pub state_held : (s r : Bool) → s ≡ true → r ≡ false → (s && not r) ≡ true
state_held s r h k = rw (h, k) refl

pub no_state : (s r : Bool) → s ≡ false → (s && not r) ≡ false
no_state s r h = rw h refl

pub not_both : {A : Type 0} {b : Bool} → b ≡ true → b ≡ false → A
not_both h k = let bad : true ≡ false = sym h ∙ k in absurd cc

pub some_inj : {A : Type 0} (x y : A) → Some x ≡ Some y → x ≡ y
some_inj x y q = cc

pub both_false : (a b : Bool) → (a || b) ≡ false → (a ≡ false) × (b ≡ false)
both_false true b h = absurd cc
both_false false b h = (refl, h)

pub or_true : (b : Bool) → (b || true) ≡ true
or_true true = refl
or_true false = refl

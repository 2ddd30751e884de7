-- Dialers that have lost their links.
use Rattle.std.proofs.Common.{◌<◌, ℕ, zero, suc, List, [], ◌∷◌, length, arith, set, get_or}
use Rattle.sp_ends.specs.declared.dialer.Dialer.{Dialer}
use Rattle.sp_ends.specs.DialerSteps.{IsSameDialer}
use Rattle.sp_ends.specs.Freeing.{AreSameDialers}
use Rattle.sp_ends.proofs.TurnParts.{dialer_both}

-- one dialer has lost its link
pub one_lost : (xs ys : List Dialer) (i : ℕ) (y z : Dialer) → AreSameDialers xs ys → i < length ys → IsSameDialer (get_or ys i y) z → AreSameDialers xs (set ys i z)
one_lost [] [] i y z all lt same = absurd (omega arith)
one_lost [] (w ∷ ys) i y z all lt same = absurd all
one_lost (x ∷ xs) [] i y z all lt same = all
one_lost (x ∷ xs) (w ∷ ys) zero y z all lt same = (dialer_both x w z all.0 same, all.1)
one_lost (x ∷ xs) (w ∷ ys) (suc i) y z all lt same = (all.0, one_lost xs ys i y z all.1 (omega arith) same)

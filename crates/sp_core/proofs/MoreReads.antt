-- What the core has read, after more steps.
use Rattle.std.proofs.Common.{◌≡◌, sym, subst, List, [], append-nil}
use Rattle.aio_word.specs.declared.rule.ShownOperation as word
use Rattle.core_state.specs.Reads.{Grows}

-- the second step reads nothing
pub grows_after : (xs ys zs : List word.ShownOperation) → Grows xs ys → zs ≡ ys → Grows xs zs
grows_after xs ys zs g e = subst (λ (us : List word.ShownOperation). Grows xs us) (sym e) g

-- nothing is read
pub grows_same : (xs zs : List word.ShownOperation) → zs ≡ xs → Grows xs zs
grows_same xs zs e = grows_after xs xs zs (record { more = []; is = sym (append-nil xs) }) e

-- Names of files as keys.
use Rattle.std.proofs.Common.{◌≡◌, ◌<◌, ◌+◌, ℕ, suc, Bool, true, false, cond, List, ◌∷◌, length, get_or, drop, Some, refl, sym, ap, ◌∙◌, add-one, drop-cons}
use Rattle.std.specs.Prelude.{String, string_bytes}
use Rattle.std.specs.declared.alloc.Global.{Global}
use Rattle.std.specs.FinMap.{find}
use Rattle.sp_fakes.specs.FilesHeld.{named_entries}
use Rattle.std.specs.Ordering.{nat_cmp, eq_by_cmp}
use Rattle.std.specs.Cmp.Lexicographic.{slice_cmp}
use Rattle.std.specs.Str.{bytes_eq}
use Rattle.std.proofs.lemmas.Map.Text.{is_eq-slice_cmp}
use Rattle.std.proofs.lemmas.Slice.Eq.{bytes_eq-Decides}

not_true : (b : Bool) → ¬ (b ≡ true) → b ≡ false
not_true true h = absurd (h refl)
not_true false h = refl

pub same_name : (a b : List ℕ) → a ≡ b → eq_by_cmp (slice_cmp nat_cmp) a b ≡ true
same_name a b e = is_eq-slice_cmp a b ∙ (bytes_eq-Decides a b).1 e

pub other_name : (a b : List ℕ) → ¬ (a ≡ b) → eq_by_cmp (slice_cmp nat_cmp) a b ≡ false
other_name a b h = is_eq-slice_cmp a b ∙ not_true (bytes_eq a b) (λ e. h ((bytes_eq-Decides a b).0 e))

-- the first entry of a name is at the front of the entries from its place on
pub found_at : (pairs : List (String Global × List ℕ)) (k : ℕ) (pair : String Global × List ℕ) (name : List ℕ) → k < length pairs → pair ≡ get_or pairs k pair → string_bytes pair.0 ≡ name → find (slice_cmp nat_cmp) name (named_entries (drop k pairs)) ≡ Some pair.1
found_at pairs k pair name lt is same =
    let at : drop k pairs ≡ pair ∷ drop (suc k) pairs = drop-cons pairs k pair lt ∙ ap (λ p. p ∷ drop (suc k) pairs) (sym is) in
    ap (λ l. find (slice_cmp nat_cmp) name (named_entries l)) at
    ∙ ap (λ b. cond b (Some pair.1) (find (slice_cmp nat_cmp) name (named_entries (drop (suc k) pairs)))) (same_name name (string_bytes pair.0) (sym same))

-- an entry of another name is skipped
pub passed_at : (pairs : List (String Global × List ℕ)) (k : ℕ) (pair : String Global × List ℕ) (name : List ℕ) → k < length pairs → pair ≡ get_or pairs k pair → ¬ (string_bytes pair.0 ≡ name) → find (slice_cmp nat_cmp) name (named_entries (drop (k + 1) pairs)) ≡ find (slice_cmp nat_cmp) name (named_entries (drop k pairs))
passed_at pairs k pair name lt is other =
    let at : drop k pairs ≡ pair ∷ drop (suc k) pairs = drop-cons pairs k pair lt ∙ ap (λ p. p ∷ drop (suc k) pairs) (sym is) in
    ap (λ n. find (slice_cmp nat_cmp) name (named_entries (drop n pairs))) (add-one k)
    ∙ sym (ap (λ l. find (slice_cmp nat_cmp) name (named_entries l)) at
    ∙ ap (λ b. cond b (Some pair.1) (find (slice_cmp nat_cmp) name (named_entries (drop (suc k) pairs)))) (other_name name (string_bytes pair.0) (λ e. other (sym e))))

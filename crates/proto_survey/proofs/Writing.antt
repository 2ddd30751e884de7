-- Loops and searches that write surveys.
use Rattle.std.proofs.Common.{◌≡◌, ◌≢◌, refl, ap, sym, ◌∙◌, List, [], ◌∷◌, ℕ, zero, suc, ◌-◌, Bool, true, false, cond, arith, length, Some, slice_index_or, slice_set, ◌<◌}
use Rattle.std.specs.Prelude.{Vec, nat_lt, ◌||◌}
use Rattle.std.proofs.lemmas.Bool.Decides.{nat_tests}
use Rattle.std.specs.List.{list_any, position}
use Rattle.std.proofs.lemmas.List.Quantifiers.{position-Some}
use Rattle.proto_requests.proofs.Positions.{with_at}
use Rattle.std.specs.Vec.{with_items}
use Rattle.std.proofs.lemmas.List.{with_items_is}
use Rattle.sp_msg.specs.Views.{MessageView}
use Rattle.proto_requests.specs.Ids.{number_after}
use Rattle.proto_requests.specs.FirstFound.{with_found}
use Rattle.proto_survey.specs.Lives.{SurveyView, has_number, with_reply, awaits, free_number}
use Rattle.proto_survey.specs.Surveys.{KeepsReply}

pub free_none : (tries n : ℕ) (xs : List SurveyView) → tries ≡ 0 → n ≡ free_number tries xs n
free_none tries n xs e = rw e refl

pub free_stop : (tries n : ℕ) (xs : List SurveyView) → list_any (has_number n) xs ≡ false → n ≡ free_number tries xs n
free_stop zero n xs e = refl
free_stop (suc tries) n xs e = sym (ap (λ b. cond b (free_number tries xs (number_after n)) n) e)

pub free_on : (tries n : ℕ) (xs : List SurveyView) → tries ≢ 0 → list_any (has_number n) xs ≡ true → free_number (tries - 1) xs (number_after n) ≡ free_number tries xs n
free_on zero n xs k e = absurd (k refl)
free_on (suc tries) n xs k e = ap (λ j. free_number j xs (number_after n)) (less tries) ∙ sym (ap (λ b. cond b (free_number tries xs (number_after n)) n) e)
  where
    less : (n : ℕ) → suc n - 1 ≡ n
    less n = omega arith

long_found : (P : SurveyView → Bool) (f : SurveyView → SurveyView) (xs : List SurveyView) → length (with_found P f xs) ≡ length xs
long_found P f [] = refl
long_found P f (x ∷ xs) = go (P x) (long_found P f xs)
  where
    go : (b : Bool) → length (with_found P f xs) ≡ length xs → length (cond b (f x ∷ xs) (x ∷ with_found P f xs)) ≡ length (x ∷ xs)
    go true h = refl
    go false h = omega (arith, h)

pub found_written : {Z : Type 0} (P : SurveyView → Bool) (f : SurveyView → SurveyView) (v : Vec SurveyView Z) (xs ys : List SurveyView) → ys ≡ v.items → xs ≡ with_found P f ys → (with_items v xs).items ≡ with_found P f v.items
found_written P f v xs ys e h =
    let long : length xs ≡ length ys = ap length h ∙ long_found P f ys in
    with_items_is v xs (long ∙ ap length e ∙ sym v.ok.0) ∙ h ∙ ap (with_found P f) e

pub same_written : {A Z : Type 0} (v : Vec A Z) (xs ys : List A) → ys ≡ v.items → xs ≡ ys → (with_items v xs).items ≡ v.items
same_written v xs ys e h = with_items_is v xs (ap length h ∙ ap length e ∙ sym v.ok.0) ∙ h ∙ e

sets_same : (xs : List SurveyView) (i : ℕ) (d : SurveyView) → i < length xs → slice_set xs i (slice_index_or xs i d) ≡ xs
sets_same [] i d h = absurd (omega arith)
sets_same (x ∷ xs) zero d h = refl
sets_same (x ∷ xs) (suc i) d h = ap (λ (rest : List SurveyView). x ∷ rest) (sets_same xs i d (omega (arith, h)))

-- one of them is the one at this place
any_there : (P : SurveyView → Bool) (xs : List SurveyView) (i : ℕ) (d : SurveyView) → i < length xs → P (slice_index_or xs i d) ≡ true → list_any P xs ≡ true
any_there P [] i d h t = absurd (omega arith)
any_there P (x ∷ xs) zero d h t = rw t refl
any_there P (x ∷ xs) (suc i) d h t = rw (any_there P xs i d (omega (arith, h)) t) (or_true (P x))
  where
    or_true : (b : Bool) → (b || true) ≡ true
    or_true true = refl
    or_true false = refl

awaits_there : (id most : ℕ) (x : SurveyView) → has_number id x ≡ true → length x.replies < most → awaits id most x ≡ true
awaits_there id most x h l = rw h (below (length x.replies) most l)
  where
    below : (n m : ℕ) → n < m → nat_lt n m ≡ true
    below n m l = grind (arith, nat_tests)

-- the response is kept by the survey at this place, or nothing changes and it was to be kept
pub keeps_there : (b : Bool) (id most : ℕ) (m : MessageView) (xs : List SurveyView) (i : ℕ) (d v : SurveyView) → position (has_number id) xs ≡ Some i → (b ≡ true → v ≡ with_reply most m (slice_index_or xs i d)) → (b ≡ false → v ≡ slice_index_or xs i d) → (b ≡ false → length (slice_index_or xs i d).replies < most) → KeepsReply b id most m xs (slice_set xs i v)
keeps_there true id most m xs i d v h k s few = ap (slice_set xs i) (k refl) ∙ with_at (has_number id) (with_reply most m) xs i d h
keeps_there false id most m xs i d v h k s few =
    let at = position-Some (has_number id) xs i d h in (
      ap (slice_set xs i) (s refl) ∙ sets_same xs i d at.0,
      any_there (awaits id most) xs i d at.0 (awaits_there id most (slice_index_or xs i d) at.1 (few refl)),
    )

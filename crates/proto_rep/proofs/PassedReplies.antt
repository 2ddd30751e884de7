-- Replies that are passed over, when the mark moves, and when one more waits or one is taken out.
use Rattle.std.proofs.Common.{◌≡◌, refl, ap, sym, ◌∙◌, List, [], ◌∷◌, ◌++◌, ℕ, ◌≤◌, Bool, true, false, cond, arith, filter, Some}
use Rattle.std.specs.Prelude.{nat_lt, ◌&&◌, ◌||◌, ◌==◌}
use Rattle.std.specs.List.{list_any}
use Rattle.std.proofs.lemmas.Bool.Decides.{nat_tests}
use Rattle.proto_requests.specs.FirstFound.{without_found}
use Rattle.proto_requests.proofs.FirstPlaces.{none_as}
use Rattle.proto_requests.proofs.KnownOperations.{any_more, any_less}
use Rattle.proto_rep.specs.declared.replies.WaitingReply.{WaitingReply}
use Rattle.proto_rep.specs.Replies.{is_below, is_to, key_of, reply_key}

module _ {A : Type 0} (P B : A → Bool) where
  pub any_kept : (xs : List A) → list_any P (filter B xs) ≡ list_any (λ x. B x && P x) xs
  any_kept [] = refl
  any_kept (x ∷ xs) = go (B x) (any_kept xs)
    where
      go : (b : Bool) → list_any P (filter B xs) ≡ list_any (λ y. B y && P y) xs → list_any P (cond b (x ∷ filter B xs) (filter B xs)) ≡ ((b && P x) || list_any (λ y. B y && P y) xs)
      go true h = ap (λ z. P x || z) h
      go false h = h

not_below : (k : ℕ) → nat_lt k 0 ≡ false
not_below k = grind (arith, nat_tests)

pub none_passed : (raw : Bool) (ws : List WaitingReply) → filter (is_below raw 0) ws ≡ []
none_passed raw [] = refl
none_passed raw (w ∷ ws) = rw (not_below (reply_key raw w)) (none_passed raw ws)

fewer : (k a b : ℕ) → b ≤ a → nat_lt k b ≡ true → nat_lt k a ≡ true
fewer k a b l h = grind (arith, nat_tests)

no_more : (raw : Bool) (P : WaitingReply → Bool) (a b : ℕ) → b ≤ a → (w : WaitingReply) → (is_below raw b w && P w) ≡ true → (is_below raw a w && P w) ≡ true
no_more raw P a b l w h = go (nat_lt (reply_key raw w) b) refl h
  where
    go : (c : Bool) → nat_lt (reply_key raw w) b ≡ c → (c && P w) ≡ true → (is_below raw a w && P w) ≡ true
    go true e h = ap (λ c. c && P w) (fewer (reply_key raw w) a b l e) ∙ h
    go false e h = absurd cc

-- the mark is lowered
pub lower_passed : (raw : Bool) (P : WaitingReply → Bool) (a b : ℕ) (ws : List WaitingReply) → b ≤ a → list_any P (filter (is_below raw a) ws) ≡ false → list_any P (filter (is_below raw b) ws) ≡ false
lower_passed raw P a b ws l h = any_kept P (is_below raw b) ws ∙ none_as (λ w. is_below raw a w && P w) (λ w. is_below raw b w && P w) ws (no_more raw P a b l) (sym (any_kept P (is_below raw a) ws) ∙ h)

-- one more waits, and it isn't passed over
pub more_passed : (raw : Bool) (P : WaitingReply → Bool) (a b : ℕ) (ws ys : List WaitingReply) (x : WaitingReply) → b ≤ a → b ≤ reply_key raw x → ys ≡ ws ++ x ∷ [] → list_any P (filter (is_below raw a) ws) ≡ false → list_any P (filter (is_below raw b) ys) ≡ false
more_passed raw P a b ws ys x l m e h =
    any_kept P (is_below raw b) ys ∙ any_more (λ w. is_below raw b w && P w) ws ys x e (sym (any_kept P (is_below raw b) ws) ∙ lower_passed raw P a b ws l h) (ap (λ c. c && P x) (past (reply_key raw x) m))
  where
    past : (k : ℕ) → b ≤ k → nat_lt k b ≡ false
    past k l = grind (arith, nat_tests)

-- one is taken out
pub less_passed : (raw : Bool) (P Q : WaitingReply → Bool) (a : ℕ) (ws ys : List WaitingReply) → ys ≡ without_found Q ws → list_any P (filter (is_below raw a) ws) ≡ false → list_any P (filter (is_below raw a) ys) ≡ false
less_passed raw P Q a ws ys e h = any_kept P (is_below raw a) ys ∙ any_less (λ w. is_below raw a w && P w) Q ws ys e (sym (any_kept P (is_below raw a) ws) ∙ h)

-- none that may go to the pipe is below its key
pub none_to_pipe : (raw : Bool) (p b : ℕ) (ws : List WaitingReply) → b ≤ key_of (Some p) → list_any (is_to raw p) (filter (is_below raw b) ws) ≡ false
none_to_pipe raw p b ws l = any_kept (is_to raw p) (is_below raw b) ws ∙ go ws
  where
    apart : (k : ℕ) → nat_lt k b ≡ true → (k == key_of (Some p)) ≡ false
    apart k h = grind (arith, nat_tests)

    here : (k : ℕ) (c : Bool) → nat_lt k b ≡ c → (c && (k == key_of (Some p))) ≡ false
    here k true e = apart k e
    here k false e = refl

    go : (ws : List WaitingReply) → list_any (λ w. is_below raw b w && is_to raw p w) ws ≡ false
    go [] = refl
    go (w ∷ ws) = ap (λ c. c || list_any (λ w. is_below raw b w && is_to raw p w) ws) (here (reply_key raw w) (nat_lt (reply_key raw w) b) refl) ∙ go ws

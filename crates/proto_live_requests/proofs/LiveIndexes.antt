-- What is known of live requests by their contexts and ids, when one begins, ends or changes; and the place of one.
use Rattle.std.proofs.Common.{◌≡◌, refl, ap, sym, ◌∙◌, List, [], ◌∷◌, ◌++◌, ℕ, suc, ◌+◌, Bool, true, false, cond, arith, Option, Some, None, map, ◌<◌, length, slice_index_or}
use Rattle.std.specs.Prelude.{not, find, is_some, nat_lt, ◌||◌, ◌&&◌, ◌==◌}
use Rattle.std.specs.List.{list_any, position, position_or_len}
use Rattle.std.proofs.lemmas.Bool.Decides.{nat_tests}
use Rattle.sp_history.specs.Lists.{has}
use Rattle.sp_history.specs.Once.{AreDistinct}
use Rattle.proto_requests.specs.Numbers.{number_at, is_known}
use Rattle.proto_live_requests.specs.Lives.{AreFound}
use Rattle.proto_requests.specs.FirstFound.{without_found, with_found}
use Rattle.proto_live_requests.specs.LiveRequests.{is_live_on, waits_for, keeps_reply, live_ctx, live_id}
use Rattle.proto_live_requests.specs.declared.live.Live.{Live}
use Rattle.proto_requests.proofs.Backlogged.{kept_more}
use Rattle.proto_requests.specs.declared.spots.Spot.{Spot}
use Rattle.proto_requests.specs.Spots.{any_in, holds, held}
use Rattle.proto_requests.proofs.KnownOperations.{at_spot}
use Rattle.proto_requests.proofs.Positions.{nowhere}
use Rattle.proto_requests.proofs.Spotted.{found_there, any_held}
use Rattle.proto_requests.proofs.NumberIndexes.{some_put, some_lost, index_less, index_same, keys_with}
use Rattle.proto_requests.proofs.TestValues.{both_false, equal_of, some_inj}

pub same_ctx : (c : ℕ) (v w : Live) → is_live_on c v ≡ true → is_live_on c w ≡ true → v.ctx ≡ w.ctx
same_ctx c v w e f = equal_of v.ctx c e ∙ sym (equal_of w.ctx c f)

its_id : (n : ℕ) (v : Live) → waits_for n v ≡ true → v.id ≡ n
its_id n v h = go (v.id == n) refl (is_some v.last_out) (not (is_some v.reply)) h
  where
    go : (a : Bool) → (v.id == n) ≡ a → (b d : Bool) → (a && b && d) ≡ true → v.id ≡ n
    go true e b d h = equal_of v.id n e
    go false e b d h = absurd cc

pub same_id : (n : ℕ) (v w : Live) → waits_for n v ≡ true → waits_for n w ≡ true → v.id ≡ w.id
same_id n v w e f = its_id n v e ∙ sym (its_id n w f)

-- none waits that isn't there
pub none_waits : (n : ℕ) (xs : List Live) → list_any (λ (x : Live). x.id == n) xs ≡ false → list_any (waits_for n) xs ≡ false
none_waits n [] h = refl
none_waits n (x ∷ xs) h = let no = both_false (x.id == n) (list_any (λ (x : Live). x.id == n) xs) h in ap (λ b. b || list_any (waits_for n) xs) (ap (λ b. b && is_some x.last_out && not (is_some x.reply)) no.0) ∙ none_waits n xs no.1

-- none waits where none has the id
id_away : (n : ℕ) (xs : List Live) → has (map live_id xs) n ≡ false → list_any (waits_for n) xs ≡ false
id_away n [] h = refl
id_away n (x ∷ xs) h = let no = both_false (x.id == n) (has (map live_id xs) n) h in ap (λ b. (b && is_some x.last_out && not (is_some x.reply)) || list_any (waits_for n) xs) no.0 ∙ id_away n xs no.1

-- where the one with the id doesn't wait, none does
other_waits : (n : ℕ) (xs : List Live) (x : Live) → AreDistinct (map live_id xs) → find (λ (v : Live). v.id == n) xs ≡ Some x → waits_for n x ≡ false → list_any (waits_for n) xs ≡ false
other_waits n [] x h f w = refl
other_waits n (y ∷ ys) x h f w = go (y.id == n) refl f (λ q. other_waits n ys x h.1 q w)
  where
    go : (b : Bool) → (y.id == n) ≡ b → cond b (Some y) (find (λ (v : Live). v.id == n) ys) ≡ Some x → (find (λ (v : Live). v.id == n) ys ≡ Some x → list_any (waits_for n) ys ≡ false) → (waits_for n y || list_any (waits_for n) ys) ≡ false
    go true e f again =
        let none : list_any (waits_for n) ys ≡ false = id_away n ys (ap (has (map live_id ys)) (sym (equal_of y.id n e)) ∙ h.0) in
        ap (λ b. b || list_any (waits_for n) ys) (ap (waits_for n) (some_inj y x f) ∙ w) ∙ none
    go false e f again = ap (λ b. (b && is_some y.last_out && not (is_some y.reply)) || list_any (waits_for n) ys) e ∙ again f

both_ids : (n : ℕ) (v w : Live) → (v.id == n) ≡ true → (w.id == n) ≡ true → v.id ≡ w.id
both_ids n v w e f = equal_of v.id n e ∙ sym (equal_of w.id n f)

-- the same, where it is looked up at its spot
pub waits_nowhere : (n : ℕ) (ss : List (Spot Live)) (i : ℕ) (d : Spot Live) → AreDistinct (map live_id (held ss)) → i < length ss → holds (λ (v : Live). v.id == n) (slice_index_or ss i d) ≡ true → holds (waits_for n) (slice_index_or ss i d) ≡ false → None ≡ position (holds (waits_for n)) ss
waits_nowhere n ss i d h l t w =
    let found : find (λ (v : Live). v.id == n) (held ss) ≡ (slice_index_or ss i d).value = found_there (λ (v : Live). v.id == n) ss i d (sym (at_spot live_id ss i d (λ (v : Live). v.id == n) h l t (both_ids n))) in
    nowhere (holds (waits_for n)) ss (any_held (waits_for n) ss ∙ go (slice_index_or ss i d).value found t w)
  where
    go : (o : Option Live) → find (λ (v : Live). v.id == n) (held ss) ≡ o → any_in (λ (v : Live). v.id == n) o ≡ true → any_in (waits_for n) o ≡ false → list_any (waits_for n) (held ss) ≡ false
    go None f t w = absurd cc
    go (Some x) f t w = other_waits n (held ss) x h f w

away : (c : ℕ) (xs : List Live) → has (map live_ctx xs) c ≡ false → list_any (keeps_reply c) xs ≡ false
away c [] h = refl
away c (x ∷ xs) h = let no = both_false (x.ctx == c) (has (map live_ctx xs) c) h in ap (λ b. (b && is_some x.reply) || list_any (keeps_reply c) xs) no.0 ∙ away c xs no.1

pub no_reply : (c : ℕ) (xs : List Live) → find (is_live_on c) xs ≡ None → list_any (keeps_reply c) xs ≡ false
no_reply c [] f = refl
no_reply c (x ∷ xs) f = go (x.ctx == c) f (no_reply c xs)
  where
    go : (b : Bool) → cond b (Some x) (find (is_live_on c) xs) ≡ None → (find (is_live_on c) xs ≡ None → list_any (keeps_reply c) xs ≡ false) → ((b && is_some x.reply) || list_any (keeps_reply c) xs) ≡ false
    go true f again = absurd cc
    go false f again = again f

pub one_reply : (c : ℕ) (xs : List Live) (x : Live) → AreDistinct (map live_ctx xs) → find (is_live_on c) xs ≡ Some x → is_some x.reply ≡ list_any (keeps_reply c) xs
one_reply c [] x h f = absurd cc
one_reply c (y ∷ ys) x h f = go (y.ctx == c) refl f (one_reply c ys x h.1)
  where
    or_false : (b : Bool) → b ≡ (b || false)
    or_false true = refl
    or_false false = refl

    go : (b : Bool) → (y.ctx == c) ≡ b → cond b (Some y) (find (is_live_on c) ys) ≡ Some x → (find (is_live_on c) ys ≡ Some x → is_some x.reply ≡ list_any (keeps_reply c) ys) → is_some x.reply ≡ ((b && is_some y.reply) || list_any (keeps_reply c) ys)
    go true e f again =
        let none : list_any (keeps_reply c) ys ≡ false = away c ys (ap (has (map live_ctx ys)) (sym (equal_of y.ctx c e)) ∙ h.0) in
        ap (λ (v : Live). is_some v.reply) (sym (some_inj y x f)) ∙ or_false (is_some y.reply) ∙ ap (λ b. is_some y.reply || b) (sym none)
    go false e f again = again f

pub found_less : (c : ℕ) (cs ids ds is : List (ℕ × ℕ)) (xs ys : List Live) (x : Live) → AreFound cs ids xs → find (is_live_on c) xs ≡ Some x → ((q : ℕ) → number_at ds q ≡ cond (x.ctx == q) None (number_at cs q)) → ((q : ℕ) → number_at is q ≡ cond (x.id == q) None (number_at ids q))
    → ys ≡ without_found (is_live_on c) xs → AreFound ds is ys
found_less c cs ids ds is xs ys x h f u v e =
    record {
      by_ctx = index_less live_ctx (is_live_on c) (is_known cs) (is_known ds) xs ys x h.by_ctx f (λ q. ap is_some (u q) ∙ some_lost (x.ctx == q) (number_at cs q)) e;
      by_id = index_less live_id (is_live_on c) (is_known ids) (is_known is) xs ys x h.by_id f (λ q. ap is_some (v q) ∙ some_lost (x.id == q) (number_at ids q)) e;
    }

pub found_more : (n : ℕ) (cs ids ds is : List (ℕ × ℕ)) (xs ys : List Live) (x : Live) → AreFound cs ids xs → (is_known cs x.ctx ≡ false) × ((q : ℕ) → number_at ds q ≡ cond (x.ctx == q) (Some n) (number_at cs q)) → (is_known ids x.id ≡ false) × ((q : ℕ) → number_at is q ≡ cond (x.id == q) (Some n) (number_at ids q))
    → ys ≡ xs ++ x ∷ [] → AreFound ds is ys
found_more n cs ids ds is xs ys x h u v e =
    record {
      by_ctx = kept_more live_ctx (is_known cs) (is_known ds) xs ys x h.by_ctx u.0 (λ q. ap is_some (u.1 q) ∙ some_put (x.ctx == q) n (number_at cs q)) e;
      by_id = kept_more live_id (is_known ids) (is_known is) xs ys x h.by_id v.0 (λ q. ap is_some (v.1 q) ∙ some_put (x.id == q) n (number_at ids q)) e;
    }

pub found_same : (P : Live → Bool) (f : Live → Live) (cs ids : List (ℕ × ℕ)) (xs ys : List Live) → ((x : Live) → (f x).ctx ≡ x.ctx) → ((x : Live) → (f x).id ≡ x.id) → AreFound cs ids xs → ys ≡ with_found P f xs → AreFound cs ids ys
found_same P f cs ids xs ys s t h e =
    record {
      by_ctx = index_same live_ctx (is_known cs) xs ys h.by_ctx (ap (map live_ctx) e ∙ keys_with live_ctx P f xs s);
      by_id = index_same live_id (is_known ids) xs ys h.by_id (ap (map live_id) e ∙ keys_with live_id P f xs t);
    }

-- ---- Whether one stands there

-- one passes if there is a first one that passes
pub placed : {A : Type 0} (P : A → Bool) (xs : List A) → is_some (position P xs) ≡ list_any P xs
placed {A = A} P xs = bare (nat_lt (position_or_len P xs) (length xs)) (position_or_len P xs) ∙ go xs
  where
    bare : (b : Bool) (n : ℕ) → is_some (cond b (Some n) None) ≡ b
    bare true n = refl
    bare false n = refl

    below : (n : ℕ) → nat_lt 0 (suc n) ≡ true
    below n = grind (arith, nat_tests)

    less : (n m : ℕ) (b : Bool) → nat_lt n m ≡ b → nat_lt (1 + n) (suc m) ≡ b
    less n m true h = grind (arith, nat_tests)
    less n m false h = grind (arith, nat_tests)

    go : (xs : List A) → nat_lt (position_or_len P xs) (length xs) ≡ list_any P xs
    go [] = refl
    go (x ∷ xs) = step (P x) (go xs)
      where
        step : (b : Bool) → nat_lt (position_or_len P xs) (length xs) ≡ list_any P xs → nat_lt (cond (not b) (1 + position_or_len P xs) 0) (suc (length xs)) ≡ (b || list_any P xs)
        step true h = below (length xs)
        step false h = less (position_or_len P xs) (length xs) (list_any P xs) h

-- ---- How many

pub length_same : (P : Live → Bool) (f : Live → Live) (xs : List Live) → length (with_found P f xs) ≡ length xs
length_same P f [] = refl
length_same P f (x ∷ xs) = go (P x) (length_same P f xs)
  where
    go : (b : Bool) → length (with_found P f xs) ≡ length xs → length (cond b (f x ∷ xs) (x ∷ with_found P f xs)) ≡ length (x ∷ xs)
    go true h = refl
    go false h = omega (arith, h)

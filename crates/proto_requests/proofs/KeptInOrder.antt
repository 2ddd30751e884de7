-- What is kept of the pipes by its numbers, when one more is kept, and when one is no longer kept.
use Rattle.std.proofs.Common.{◌≡◌, refl, ap, sym, subst, ◌∙◌, List, [], ◌∷◌, ◌++◌, ℕ, ◌+◌, ◌<◌, Bool, true, false, cond, arith, map, filter, Option, Some, None}
use Rattle.std.specs.Prelude.{not, nat_lt, is_some, ◌&&◌, ◌||◌, ◌==◌}
use Rattle.std.specs.declared.cmp.Ordering.{Ordering}
use Rattle.std.specs.declared.cmp.Ordering.TheVariants.{Less, Equal, Greater}
use Rattle.std.specs.Ordering.{nat_cmp, match_ordering}
use Rattle.std.specs.List.{list_any, list_all, AllByRecursion}
use Rattle.std.specs.List.Sorted.{IsStrictlySortedBy}
use Rattle.std.specs.Map.{keys_of, values_of, remove_entry}
use Rattle.std.specs.BTreeMap.{is_at, insert_entry}
use Rattle.std.proofs.lemmas.Bool.Decides.{nat_tests}
use Rattle.std.proofs.lemmas.Map.Keys.{sorted_head, sorted_tail}
use Rattle.sp_history.specs.Lists.{has}
use Rattle.sp_history.specs.Once.{AreDistinct}
use Rattle.proto_requests.specs.Backlogs.{is_of, number_of, AreNumbered}
use Rattle.proto_requests.proofs.NumberedEntries.{at_is, ahead, both_true}
use Rattle.proto_requests.proofs.Backlogged.{any_has, distinct_more, distinct_left, kept_all}
use Rattle.proto_requests.proofs.TestValues.{equal_of}

above : (k n : ℕ) → nat_cmp k n ≡ Less → (k == n) ≡ false
above k n h = grind (arith, nat_tests)

further : (k n : ℕ) → nat_lt k n ≡ true → nat_lt k (n + 1) ≡ true
further k n h = grind (arith, nat_tests)

next_is : (n : ℕ) → nat_lt n (n + 1) ≡ true
next_is n = grind (arith, nat_tests)

pub none_is : (o : Option ℕ) → is_some o ≡ false → o ≡ None
none_is None k = refl
none_is (Some n) k = absurd cc

module _ {A : Type 0} (pipe : A → ℕ) where
  -- what is kept of the pipe, as a test of an entry
  abbrev pub is_its : ℕ → ℕ × A → Bool
  is_its p e = is_of pipe p e.1

  abbrev pub without_its : ℕ → List (ℕ × A) → List (ℕ × A)
  without_its p es = filter (λ e. not (is_its p e)) es

  -- one of the pipe is kept where its number is known
  pub any_number : (q : ℕ) (es : List (ℕ × A)) → is_some (number_of pipe q es) ≡ list_any (is_of pipe q) (values_of es)
  any_number q [] = refl
  any_number q (e ∷ es) = go (pipe e.1 == q) (any_number q es)
    where
      go : (b : Bool) → is_some (number_of pipe q es) ≡ list_any (is_of pipe q) (values_of es) → is_some (cond b (Some e.0) (number_of pipe q es)) ≡ (b || list_any (is_of pipe q) (values_of es))
      go true h = refl
      go false h = h

  pub no_number : (q : ℕ) (es : List (ℕ × A)) → list_any (is_of pipe q) (values_of es) ≡ false → number_of pipe q es ≡ None
  no_number q es h = none_is (number_of pipe q es) (any_number q es ∙ h)

  -- ---- One more is kept

  pub values_more : (es : List (ℕ × A)) (n : ℕ) (x : A) → values_of (es ++ (n, x) ∷ []) ≡ values_of es ++ x ∷ []
  values_more [] n x = refl
  values_more (e ∷ es) n x = ap (λ (ys : List A). e.1 ∷ ys) (values_more es n x)

  pub inserted_last : (es : List (ℕ × A)) (n : ℕ) (x : A) → list_all (λ (e : ℕ × A). nat_lt e.0 n) es ≡ true → insert_entry nat_cmp es n x ≡ es ++ (n, x) ∷ []
  inserted_last [] n x h = refl
  inserted_last (e ∷ es) n x h = let both = both_true (nat_lt e.0 n) (list_all (λ (e : ℕ × A). nat_lt e.0 n) es) h in
      go (nat_cmp n e.0) (ahead n e.0 both.0) (inserted_last es n x both.1)
    where
      go : (o : Ordering) → o ≡ Greater → insert_entry nat_cmp es n x ≡ es ++ (n, x) ∷ [] → match_ordering o ((n, x) ∷ e ∷ es) ((e.0, x) ∷ es) (e ∷ insert_entry nat_cmp es n x) ≡ e ∷ es ++ (n, x) ∷ []
      go Less h k = absurd cc
      go Equal h k = absurd cc
      go Greater h k = ap (λ (rest : List (ℕ × A)). e ∷ rest) k

  number_more : (q : ℕ) (es : List (ℕ × A)) (n : ℕ) (x : A) → number_of pipe (pipe x) es ≡ None → number_of pipe q (es ++ (n, x) ∷ []) ≡ cond (pipe x == q) (Some n) (number_of pipe q es)
  number_more q [] n x h = refl
  number_more q (e ∷ es) n x h = go (pipe e.1 == pipe x) refl (pipe e.1 == q) refl (pipe x == q) refl h (number_more q es n x)
    where
      go : (a : Bool) → (pipe e.1 == pipe x) ≡ a → (b : Bool) → (pipe e.1 == q) ≡ b → (c : Bool) → (pipe x == q) ≡ c → cond a (Some e.0) (number_of pipe (pipe x) es) ≡ None
          → (number_of pipe (pipe x) es ≡ None → number_of pipe q (es ++ (n, x) ∷ []) ≡ cond c (Some n) (number_of pipe q es)) → cond b (Some e.0) (number_of pipe q (es ++ (n, x) ∷ [])) ≡ cond c (Some n) (cond b (Some e.0) (number_of pipe q es))
      go true e1 b e2 c e3 k again = absurd cc
      go false e1 true e2 true e3 k again = absurd (grind (arith, nat_tests, e1, e2, e3))
      go false e1 true e2 false e3 k again = refl
      go false e1 false e2 c e3 k again = again k

  below_more : (es : List (ℕ × A)) (n : ℕ) (x : A) → list_all (λ (e : ℕ × A). nat_lt e.0 n) es ≡ true → list_all (λ (e : ℕ × A). nat_lt e.0 (n + 1)) (es ++ (n, x) ∷ []) ≡ true
  below_more [] n x h = ap (λ b. b && true) (next_is n)
  below_more (e ∷ es) n x h = let both = both_true (nat_lt e.0 n) (list_all (λ (e : ℕ × A). nat_lt e.0 n) es) h in
      ap (λ b. b && list_all (λ (e : ℕ × A). nat_lt e.0 (n + 1)) (es ++ (n, x) ∷ [])) (further e.0 n both.0) ∙ below_more es n x both.1

  pub numbered_more : (old new : ℕ → Option ℕ) (n : ℕ) (es : List (ℕ × A)) (x : A) → AreNumbered pipe old n es → old (pipe x) ≡ None → ((q : ℕ) → new q ≡ cond (pipe x == q) (Some n) (old q)) → AreNumbered pipe new (n + 1) (es ++ (n, x) ∷ [])
  numbered_more old new n es x h none u =
      let unknown : number_of pipe (pipe x) es ≡ None = sym (h.numbers (pipe x)) ∙ none in
      record {
        numbers = λ q. u q ∙ ap (cond (pipe x == q) (Some n)) (h.numbers q) ∙ sym (number_more q es n x unknown);
        apart = subst (λ (ys : List A). AreDistinct (map pipe ys)) (sym (values_more es n x)) (distinct_more pipe (values_of es) x h.apart (sym (any_number (pipe x) es) ∙ ap is_some unknown));
        below = below_more es n x h.below;
      }

  -- ---- The oldest is taken

  pub numbered_fewer : (old new : ℕ → Option ℕ) (next k : ℕ) (x : A) (es : List (ℕ × A)) → AreNumbered pipe old next ((k, x) ∷ es) → ((q : ℕ) → new q ≡ cond (pipe x == q) None (old q)) → AreNumbered pipe new next es
  numbered_fewer old new next k x es h u =
      record {
        numbers = λ q. u q ∙ ap (cond (pipe x == q) None) (h.numbers q) ∙ left q (pipe x == q) refl;
        apart = h.apart.1;
        below = (both_true (nat_lt k next) (list_all (λ (e : ℕ × A). nat_lt e.0 next) es) h.below).1;
      }
    where
      left : (q : ℕ) (b : Bool) → (pipe x == q) ≡ b → cond b None (cond b (Some k) (number_of pipe q es)) ≡ number_of pipe q es
      left q true e = sym (subst (λ (p : ℕ). number_of pipe p es ≡ None) (equal_of (pipe x) q e) (no_number (pipe x) es (sym (any_has pipe (values_of es) (pipe x)) ∙ h.apart.0)))
      left q false e = refl

  -- ---- What is kept of a pipe is dropped

  values_left : (p : ℕ) (es : List (ℕ × A)) → values_of (without_its p es) ≡ filter (λ x. not (is_of pipe p x)) (values_of es)
  values_left p [] = refl
  values_left p (e ∷ es) = go (pipe e.1 == p) (values_left p es)
    where
      go : (b : Bool) → values_of (without_its p es) ≡ filter (λ x. not (is_of pipe p x)) (values_of es)
          → values_of (cond (not b) (e ∷ without_its p es) (without_its p es)) ≡ cond (not b) (e.1 ∷ filter (λ x. not (is_of pipe p x)) (values_of es)) (filter (λ x. not (is_of pipe p x)) (values_of es))
      go true h = h
      go false h = ap (λ (ys : List A). e.1 ∷ ys) h

  none_left : (p : ℕ) (es : List (ℕ × A)) → number_of pipe p es ≡ None → es ≡ without_its p es
  none_left p [] h = refl
  none_left p (e ∷ es) h = go (pipe e.1 == p) h (none_left p es)
    where
      go : (b : Bool) → cond b (Some e.0) (number_of pipe p es) ≡ None → (number_of pipe p es ≡ None → es ≡ without_its p es) → e ∷ es ≡ cond (not b) (e ∷ without_its p es) (without_its p es)
      go true k again = absurd cc
      go false k again = ap (λ (rest : List (ℕ × A)). e ∷ rest) (again k)

  -- nothing is kept of the pipe
  pub values_same : (p : ℕ) (es : List (ℕ × A)) → number_of pipe p es ≡ None → values_of es ≡ filter (λ x. not (is_of pipe p x)) (values_of es)
  values_same p es h = kept_all pipe p (values_of es) (sym (any_number p es) ∙ ap is_some h)

  its_number : (P : ℕ → Type 0) (p n : ℕ) (es : List (ℕ × A)) → number_of pipe p es ≡ Some n → AllByRecursion P (keys_of es) → P n
  its_number P p n [] q h = absurd cc
  its_number P p n (e ∷ es) q h = go (pipe e.1 == p) q (λ k. its_number P p n es k h.1)
    where
      is : Some e.0 ≡ Some n → e.0 ≡ n
      is q = cc

      go : (b : Bool) → cond b (Some e.0) (number_of pipe p es) ≡ Some n → (number_of pipe p es ≡ Some n → P n) → P n
      go true q again = subst P (is q) h.0
      go false q again = again q

  -- what is removed by its number is what is kept of the pipe
  pub removed : (p n : ℕ) (es : List (ℕ × A)) → IsStrictlySortedBy nat_cmp (keys_of es) → AreDistinct (map pipe (values_of es)) → number_of pipe p es ≡ Some n → remove_entry (is_at (nat_cmp n)) es ≡ without_its p es
  removed p n [] o d q = refl
  removed p n (e ∷ es) o d q = go (pipe e.1 == p) refl q (removed p n es (sorted_tail nat_cmp e.0 (keys_of es) o) d.1)
    where
      is : Some e.0 ≡ Some n → e.0 ≡ n
      is q = cc

      yes : e.0 ≡ n → is_at (nat_cmp n) e.0 ≡ true
      yes h = at_is n e.0 ∙ grind (arith, nat_tests, h)

      no : number_of pipe p es ≡ Some n → is_at (nat_cmp n) e.0 ≡ false
      no k = at_is n e.0 ∙ its_number (λ m. (e.0 == m) ≡ false) p n es k (all_above (keys_of es) (sorted_head nat_cmp e.0 (keys_of es) o))
        where
          all_above : (ks : List ℕ) → AllByRecursion (λ m. nat_cmp e.0 m ≡ Less) ks → AllByRecursion (λ m. (e.0 == m) ≡ false) ks
          all_above [] h = h
          all_above (m ∷ ks) h = (above e.0 m h.0, all_above ks h.1)

      go : (b : Bool) → (pipe e.1 == p) ≡ b → cond b (Some e.0) (number_of pipe p es) ≡ Some n → (number_of pipe p es ≡ Some n → remove_entry (is_at (nat_cmp n)) es ≡ without_its p es)
          → cond (is_at (nat_cmp n) e.0) es (e ∷ remove_entry (is_at (nat_cmp n)) es) ≡ cond (not b) (e ∷ without_its p es) (without_its p es)
      go true f q again =
          ap (λ c. cond c es (e ∷ remove_entry (is_at (nat_cmp n)) es)) (yes (is q)) ∙ none_left p es (subst (λ (r : ℕ). number_of pipe r es ≡ None) (equal_of (pipe e.1) p f) (no_number (pipe e.1) es (sym (any_has pipe (values_of es) (pipe e.1)) ∙ d.0)))
      go false f q again = ap (λ c. cond c es (e ∷ remove_entry (is_at (nat_cmp n)) es)) (no q) ∙ ap (λ (rest : List (ℕ × A)). e ∷ rest) (again q)

  number_left : (p q : ℕ) (es : List (ℕ × A)) → number_of pipe q (without_its p es) ≡ cond (p == q) None (number_of pipe q es)
  number_left p q [] = none (p == q)
    where
      none : (b : Bool) → ◌≡◌ {A = Option ℕ} None (cond b None None)
      none true = refl
      none false = refl
  number_left p q (e ∷ es) = go (pipe e.1 == p) refl (pipe e.1 == q) refl (p == q) refl (number_left p q es)
    where
      go : (a : Bool) → (pipe e.1 == p) ≡ a → (b : Bool) → (pipe e.1 == q) ≡ b → (c : Bool) → (p == q) ≡ c → number_of pipe q (without_its p es) ≡ cond c None (number_of pipe q es)
          → number_of pipe q (cond (not a) (e ∷ without_its p es) (without_its p es)) ≡ cond c None (cond b (Some e.0) (number_of pipe q es))
      go true e1 true e2 true e3 h = h
      go true e1 true e2 false e3 h = absurd (grind (arith, nat_tests, e1, e2, e3))
      go true e1 false e2 c e3 h = h
      go false e1 true e2 true e3 h = absurd (grind (arith, nat_tests, e1, e2, e3))
      go false e1 true e2 false e3 h = ap (λ b. cond b (Some e.0) (number_of pipe q (without_its p es))) e2
      go false e1 false e2 c e3 h = ap (λ b. cond b (Some e.0) (number_of pipe q (without_its p es))) e2 ∙ h

  below_left : (p next : ℕ) (es : List (ℕ × A)) → list_all (λ (e : ℕ × A). nat_lt e.0 next) es ≡ true → list_all (λ (e : ℕ × A). nat_lt e.0 next) (without_its p es) ≡ true
  below_left p next [] h = refl
  below_left p next (e ∷ es) h = let both = both_true (nat_lt e.0 next) (list_all (λ (e : ℕ × A). nat_lt e.0 next) es) h in go (is_its p e) both.0 (below_left p next es both.1)
    where
      go : (b : Bool) → nat_lt e.0 next ≡ true → list_all (λ (e : ℕ × A). nat_lt e.0 next) (without_its p es) ≡ true → list_all (λ (e : ℕ × A). nat_lt e.0 next) (cond (not b) (e ∷ without_its p es) (without_its p es)) ≡ true
      go true f h = h
      go false f h = ap (λ b. b && list_all (λ (e : ℕ × A). nat_lt e.0 next) (without_its p es)) f ∙ h

  pub numbered_left : (old new : ℕ → Option ℕ) (next p : ℕ) (es ds : List (ℕ × A)) → AreNumbered pipe old next es → ds ≡ without_its p es → ((q : ℕ) → new q ≡ cond (p == q) None (old q)) → AreNumbered pipe new next ds
  numbered_left old new next p es ds h e u =
      rw e record {
        numbers = λ q. u q ∙ ap (cond (p == q) None) (h.numbers q) ∙ sym (number_left p q es);
        apart = subst (λ (ys : List A). AreDistinct (map pipe ys)) (sym (values_left p es)) (distinct_left pipe p (values_of es) h.apart);
        below = below_left p next es h.below;
      }

  pub values_without : (p : ℕ) (es ds : List (ℕ × A)) → ds ≡ without_its p es → values_of ds ≡ filter (λ x. not (is_of pipe p x)) (values_of es)
  values_without p es ds e = rw e (values_left p es)

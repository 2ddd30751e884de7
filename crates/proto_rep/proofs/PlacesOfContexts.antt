-- Changes of the places of contexts.
use Rattle.std.proofs.Common.{◌≡◌, refl, ap, sym, ◌∙◌, subst, List, [], ◌∷◌, ◌++◌, ℕ, Bool, true, false, cond, arith, Option, Some, None, map}
use Rattle.std.specs.Prelude.{is_some, find, filter, not, ◌||◌, ◌==◌}
use Rattle.std.specs.Option.{option_map}
use Rattle.std.specs.Ordering.{nat_cmp}
use Rattle.std.specs.Map.{keys_of, lookup, set_value}
use Rattle.std.specs.BTreeMap.{is_at}
use Rattle.std.proofs.lemmas.Bool.Decides.{nat_tests}
use Rattle.sp_history.specs.Lists.{has, without}
use Rattle.proto_rep.specs.Places.{ReplyContext, PlacesView, place_of}
use Rattle.proto_rep.specs.declared.rep.Source.{Source}
use Rattle.sp_history.specs.declared.parts.Origin.{Origin}
use Rattle.proto_rep.specs.Reps.{ctx_of, is_of_context, origin_of, origin_in, origin_at}
use Rattle.proto_requests.proofs.NumberedEntries.{at_is, with_all}
use Rattle.proto_requests.proofs.TestValues.{equal_of}

-- ---- As they are held

-- what a query finds
abbrev pub found_in : Option (Option Source) → Option Origin
found_in None = None
found_in (Some v) = option_map origin_of v

pub stored_some : (o : Option Source) → is_some (option_map origin_of o) ≡ is_some o
stored_some None = refl
stored_some (Some x) = refl

origin_seen : (c : ℕ) (es : List (ℕ × Option Source)) → origin_at c (map place_of es) ≡ found_in (lookup (is_at (nat_cmp c)) es)
origin_seen c [] = refl
origin_seen c (e ∷ es) = go (e.0 == c) (is_at (nat_cmp c) e.0) (at_is c e.0) (origin_seen c es)
  where
    go : (a b : Bool) → b ≡ a → origin_at c (map place_of es) ≡ found_in (lookup (is_at (nat_cmp c)) es) → origin_in (cond a (Some (place_of e)) (find (is_of_context c) (map place_of es))) ≡ found_in (cond b (Some e.1) (lookup (is_at (nat_cmp c)) es))
    go true true h k = refl
    go true false h k = absurd cc
    go false true h k = absurd cc
    go false false h k = k

-- the numbers are those of the entries
numbers_seen : (es : List (ℕ × Option Source)) → map ctx_of (map place_of es) ≡ keys_of es
numbers_seen [] = refl
numbers_seen (e ∷ es) = ap (λ (rest : List ℕ). e.0 ∷ rest) (numbers_seen es)

same_numbers : (es fs : List (ℕ × Option Source)) → keys_of fs ≡ keys_of es → map ctx_of (map place_of fs) ≡ map ctx_of (map place_of es)
same_numbers es fs h = numbers_seen fs ∙ h ∙ sym (numbers_seen es)

-- ---- Another request at a place

set_origin : (c : ℕ) (v : Option Source) (es : List (ℕ × Option Source)) (d : ℕ) → is_some (lookup (is_at (nat_cmp c)) es) ≡ true → origin_at d (map place_of (set_value (is_at (nat_cmp c)) es v)) ≡ cond (c == d) (option_map origin_of v) (origin_at d (map place_of es))
set_origin c v [] d h = absurd cc
set_origin c v (e ∷ es) d h = go (is_at (nat_cmp c) e.0) (at_is c e.0) (e.0 == d) refl h (set_origin c v es d)
  where
    alike : (k : ℕ) → (k == c) ≡ true → (b : Bool) → (k == d) ≡ b → (c == d) ≡ b
    alike k f b g = ap (λ (n : ℕ). n == d) (sym (equal_of k c f)) ∙ g

    apart : (k : ℕ) → (k == c) ≡ false → (k == d) ≡ true → (c == d) ≡ false
    apart k f g = grind (arith, nat_tests)

    go : (a : Bool) → a ≡ (e.0 == c) → (b : Bool) → (e.0 == d) ≡ b → is_some (cond a (Some e.1) (lookup (is_at (nat_cmp c)) es)) ≡ true
        → (is_some (lookup (is_at (nat_cmp c)) es) ≡ true → origin_at d (map place_of (set_value (is_at (nat_cmp c)) es v)) ≡ cond (c == d) (option_map origin_of v) (origin_at d (map place_of es)))
        → origin_at d (map place_of (cond a ((e.0, v) ∷ es) (e ∷ set_value (is_at (nat_cmp c)) es v))) ≡ cond (c == d) (option_map origin_of v) (origin_at d (map place_of (e ∷ es)))
    go true f true g h again = rw (alike e.0 (sym f) true g, g) refl
    go true f false g h again = rw (alike e.0 (sym f) false g, g) refl
    go false f true g h again = rw (apart e.0 (sym f) g, g) refl
    go false f false g h again = rw g (again h)

-- a context that is open has a place
found_of_context : (c : ℕ) (es : List (ℕ × Option Source)) → has (map ctx_of (map place_of es)) c ≡ is_some (lookup (is_at (nat_cmp c)) es)
found_of_context c [] = refl
found_of_context c (e ∷ es) = go (e.0 == c) (is_at (nat_cmp c) e.0) (at_is c e.0) (found_of_context c es)
  where
    go : (a b : Bool) → b ≡ a → has (map ctx_of (map place_of es)) c ≡ is_some (lookup (is_at (nat_cmp c)) es) → (a || has (map ctx_of (map place_of es)) c) ≡ is_some (cond b (Some e.1) (lookup (is_at (nat_cmp c)) es))
    go true true h k = refl
    go true false h k = absurd cc
    go false true h k = absurd cc
    go false false h k = k

-- nothing is stored with a context that isn't open
none_stays : (c : ℕ) (es : List (ℕ × Option Source)) → lookup (is_at (nat_cmp c)) es ≡ None → (d : ℕ) → origin_at d (map place_of es) ≡ cond (c == d) None (origin_at d (map place_of es))
none_stays c es h d = go (c == d) refl
  where
    go : (b : Bool) → (c == d) ≡ b → origin_at d (map place_of es) ≡ cond b None (origin_at d (map place_of es))
    go true f = subst (λ n. origin_at n (map place_of es) ≡ None) (equal_of c d f) (origin_seen c es ∙ ap found_in h)
    go false f = refl

-- ---- The places as they are seen, where n is the context's number

abbrev pub seen : List (ℕ × Option Source) → PlacesView
seen es = record { items = map place_of es }

pub ctxs_written : (v : PlacesView) (es fs : List (ℕ × Option Source)) → seen es ≡ v → keys_of fs ≡ keys_of es → map ctx_of (map place_of fs) ≡ map ctx_of v.items
ctxs_written v es fs e h = same_numbers es fs h ∙ ap (λ (u : PlacesView). map ctx_of u.items) e

module _ (n c : ℕ) (v : PlacesView) (es : List (ℕ × Option Source)) (same : n ≡ c) (e : seen es ≡ v) where
  pub origin_is : (o : Option (Option Source)) → lookup (is_at (nat_cmp n)) es ≡ o → origin_at c v.items ≡ found_in o
  origin_is o h = sym (ap (λ (u : PlacesView). origin_at n u.items) e ∙ ap (λ (m : ℕ). origin_at m v.items) same) ∙ origin_seen n es ∙ ap found_in h

  pub isnt_open : lookup (is_at (nat_cmp n)) es ≡ None → has (map ctx_of v.items) c ≡ false
  isnt_open h = sym (ap (λ (u : PlacesView). has (map ctx_of u.items) n) e ∙ ap (has (map ctx_of v.items)) same) ∙ found_of_context n es ∙ ap is_some h

  pub origins_written : (w u : Option Source) (fs : List (ℕ × Option Source)) → lookup (is_at (nat_cmp n)) es ≡ Some u → fs ≡ set_value (is_at (nat_cmp n)) es w → (d : ℕ) → origin_at d (map place_of fs) ≡ cond (c == d) (option_map origin_of w) (origin_at d v.items)
  origins_written w u fs h f d =
      ap (λ (gs : List (ℕ × Option Source)). origin_at d (map place_of gs)) f ∙ set_origin n w es d (ap is_some h)
      ∙ ap (λ (x : PlacesView). cond (n == d) (option_map origin_of w) (origin_at d x.items)) e ∙ ap (λ (m : ℕ). cond (m == d) (option_map origin_of w) (origin_at d v.items)) same

  pub origins_stay : lookup (is_at (nat_cmp n)) es ≡ None → (d : ℕ) → origin_at d (map place_of es) ≡ cond (c == d) None (origin_at d v.items)
  origins_stay h d = none_stays n es h d ∙ ap (λ (x : PlacesView). cond (n == d) None (origin_at d x.items)) e ∙ ap (λ (m : ℕ). cond (m == d) None (origin_at d v.items)) same

-- ---- Nothing is stored

pub forgotten : (es : List (ℕ × Option Source)) (d : ℕ) → origin_at d (map place_of (with_all None es)) ≡ None
forgotten [] d = refl
forgotten (e ∷ es) d = go (e.0 == d) (forgotten es d)
  where
    go : (b : Bool) → origin_at d (map place_of (with_all None es)) ≡ None → origin_in (cond b (Some (place_of (e.0, None))) (find (is_of_context d) (map place_of (with_all None es)))) ≡ None
    go true k = refl
    go false k = k

-- ---- Opened and shut

pub opens_none : (c : ℕ) (xs : List ReplyContext) (e : ℕ) → origin_at e (xs ++ record { ctx = c; stored = None } ∷ []) ≡ origin_at e xs
opens_none c [] e = go (c == e)
  where
    go : (b : Bool) → origin_in (cond b (Some (record { ctx = c; stored = None })) None) ≡ None
    go true = refl
    go false = refl
opens_none c (x ∷ xs) e = go (x.ctx == e) (opens_none c xs e)
  where
    go : (b : Bool) → origin_at e (xs ++ record { ctx = c; stored = None } ∷ []) ≡ origin_at e xs
        → origin_in (cond b (Some x) (find (is_of_context e) (xs ++ record { ctx = c; stored = None } ∷ []))) ≡ origin_in (cond b (Some x) (find (is_of_context e) xs))
    go true h = refl
    go false h = h

module _ (c : ℕ) where
  pub shut_ctxs : (xs : List ReplyContext) → map ctx_of (filter (λ (x : ReplyContext). not (x.ctx == c)) xs) ≡ without (map ctx_of xs) c
  shut_ctxs [] = refl
  shut_ctxs (x ∷ xs) = go (x.ctx == c) (shut_ctxs xs)
    where
      go : (b : Bool) → map ctx_of (filter (λ (x : ReplyContext). not (x.ctx == c)) xs) ≡ without (map ctx_of xs) c
          → map ctx_of (cond (not b) (x ∷ filter (λ (x : ReplyContext). not (x.ctx == c)) xs) (filter (λ (x : ReplyContext). not (x.ctx == c)) xs)) ≡ cond (not b) (x.ctx ∷ without (map ctx_of xs) c) (without (map ctx_of xs) c)
      go true h = h
      go false h = ap (λ rest. x.ctx ∷ rest) h

  pub shut_origins : (xs : List ReplyContext) (e : ℕ) → origin_at e (filter (λ (x : ReplyContext). not (x.ctx == c)) xs) ≡ cond (c == e) None (origin_at e xs)
  shut_origins [] e = go (c == e)
    where
      go : (b : Bool) → origin_in None ≡ cond b None (origin_in None)
      go true = refl
      go false = refl
  shut_origins (x ∷ xs) e = go (x.ctx == c) refl (x.ctx == e) refl (c == e) refl (shut_origins xs e)
    where
      third : (l m n : ℕ) → (l == m) ≡ true → (l == n) ≡ true → (m == n) ≡ false → ⊥
      third l m n h k f = grind (arith, nat_tests)

      other : (l m n : ℕ) → (l == m) ≡ true → (l == n) ≡ false → (m == n) ≡ true → ⊥
      other l m n h k f = grind (arith, nat_tests)

      last : (l m n : ℕ) → (l == m) ≡ false → (l == n) ≡ true → (m == n) ≡ true → ⊥
      last l m n h k f = grind (arith, nat_tests)

      go : (a : Bool) → (x.ctx == c) ≡ a → (b : Bool) → (x.ctx == e) ≡ b → (k : Bool) → (c == e) ≡ k → origin_at e (filter (λ (x : ReplyContext). not (x.ctx == c)) xs) ≡ cond k None (origin_at e xs)
          → origin_at e (cond (not a) (x ∷ filter (λ (x : ReplyContext). not (x.ctx == c)) xs) (filter (λ (x : ReplyContext). not (x.ctx == c)) xs)) ≡ cond k None (origin_in (cond b (Some x) (find (is_of_context e) xs)))
      go true f true g true i h = h
      go true f true g false i h = absurd (third x.ctx c e f g i)
      go true f false g true i h = absurd (other x.ctx c e f g i)
      go true f false g false i h = h
      go false f true g true i h = absurd (last x.ctx c e f g i)
      go false f true g false i h = rw g refl
      go false f false g k i h = rw g h

-- The pipes are found by their numbers, in whose order they are kept; and those that are full are skipped.
use Rattle.std.proofs.Common.{◌≡◌, refl, ap, sym, ◌∙◌, subst, List, [], ◌∷◌, ◌++◌, ℕ, zero, suc, ◌+◌, ◌^◌, ◌<◌, ◌≤◌, Bool, true, false, cond, arith, Option, Some, None, Result, Ok, Err, map, nat_cmp, is_eq, is_lt, is_le, Ordering, Less, Equal, Greater}
use Rattle.std.specs.Prelude.{OnOk, OnErr, find, filter, not, nat_lt, nat_le, slice_get, is_some, ◌==◌, ◌&&◌, ◌||◌}
use Rattle.std.specs.List.{AllByRecursion, list_all, list_any}
use Rattle.std.specs.List.Sorted.{IsStrictlySortedBy}
use Rattle.std.specs.Map.{keys_of, lookup, remove_entry, set_value}
use Rattle.std.specs.BTreeMap.{insert_entry, is_at}
use Rattle.std.specs.Option.{option_map}
use Rattle.std.specs.Ordering.{match_ordering}
use Rattle.std.proofs.lemmas.Bool.Decides.{nat_tests}
use Rattle.std.proofs.lemmas.Map.Keys.{sorted_head, sorted_tail}
use Rattle.proto_requests.specs.Ports.{PortView, port_in, marked, cleared, is_pipe, is_under, is_below, is_open, is_free_at, is_free_from, unmarked, number, begin_at, reached, AreNumbers, AreUpTo, AreFull, AllPassed, AreKnown}
use Rattle.proto_requests.proofs.TestValues.{equal_of, same_number, some_inj, turned}

other : (m n : ℕ) → m < n → (m == n) ≡ false
other m n h = grind (arith, nat_tests)

under : (m n : ℕ) → nat_lt m n ≡ true → m < n
under m n h = grind (arith, nat_tests)

not_under : (m n : ℕ) → nat_lt m n ≡ false → n ≤ m
not_under m n h = grind (arith, nat_tests)

-- ---- A place, where there is one

at_place : (n m : ℕ) → n < m → cond (nat_lt n m) (Some n) None ≡ Some n
at_place n m l = go (nat_lt n m) refl
  where
    go : (b : Bool) → nat_lt n m ≡ b → cond b (Some n) None ≡ Some n
    go true e = refl
    go false e = absurd (no e)
      where
        no : nat_lt n m ≡ false → ⊥
        no e = grind (arith, nat_tests, l)

pub at_place_is : (n m i : ℕ) → n ≡ i → i < m → cond (nat_lt n m) (Some n) None ≡ Some i
at_place_is n m i e l = at_place n m (omega (arith, e, l)) ∙ ap (λ (k : ℕ). Some k) e

pub at_none : (n m : ℕ) → n ≡ m → cond {A = Option ℕ} (nat_lt n m) (Some n) None ≡ None
at_none n m l = go (nat_lt n m) refl
  where
    go : (b : Bool) → nat_lt n m ≡ b → cond {A = Option ℕ} b (Some n) None ≡ None
    go false e = refl
    go true e = absurd (no e)
      where
        no : nat_lt n m ≡ true → ⊥
        no e = grind (arith, nat_tests, l)

-- ---- The order of numbers

-- the number that is looked for is this one
same_key : (p n : ℕ) → is_eq (nat_cmp p n) ≡ (n == p)
same_key p n = go (nat_lt p n) refl (p == n) refl (n == p) refl
  where
    less : nat_lt p n ≡ true → (n == p) ≡ true → ⊥
    less e f = grind (arith, nat_tests)

    one : (p == n) ≡ true → (n == p) ≡ false → ⊥
    one e f = grind (arith, nat_tests)

    two : (p == n) ≡ false → (n == p) ≡ true → ⊥
    two e f = grind (arith, nat_tests)

    go : (a : Bool) → nat_lt p n ≡ a → (b : Bool) → (p == n) ≡ b → (c : Bool) → (n == p) ≡ c → is_eq (cond a Less (cond b Equal Greater)) ≡ c
    go true e b f true g = absurd (less e g)
    go true e b f false g = refl
    go false e true f true g = refl
    go false e true f false g = absurd (one f g)
    go false e false f true g = absurd (two f g)
    go false e false f false g = refl

-- the number is in the range that begins here
in_range : (from n : ℕ) → is_le (nat_cmp from n) ≡ not (nat_lt n from)
in_range from n = go (nat_lt from n) refl (from == n) refl (nat_lt n from) refl
  where
    less : nat_lt from n ≡ true → nat_lt n from ≡ true → ⊥
    less e f = grind (arith, nat_tests)

    one : (from == n) ≡ true → nat_lt n from ≡ true → ⊥
    one e f = grind (arith, nat_tests)

    two : nat_lt from n ≡ false → (from == n) ≡ false → nat_lt n from ≡ false → ⊥
    two e f g = grind (arith, nat_tests)

    go : (a : Bool) → nat_lt from n ≡ a → (b : Bool) → (from == n) ≡ b → (c : Bool) → nat_lt n from ≡ c → is_le (cond a Less (cond b Equal Greater)) ≡ not c
    go true e b f true g = absurd (less e g)
    go true e b f false g = refl
    go false e true f true g = absurd (one f g)
    go false e true f false g = refl
    go false e false f true g = refl
    go false e false f false g = absurd (two e f g)

less_is : (m n : ℕ) → nat_cmp m n ≡ Less → m < n
less_is m n h = go (nat_lt m n) refl (m == n) h
  where
    go : (a : Bool) → nat_lt m n ≡ a → (b : Bool) → cond a Less (cond b Equal Greater) ≡ Less → m < n
    go true e b h = under m n e
    go false e true h = absurd cc
    go false e false h = absurd cc

greater_is : (m n : ℕ) → nat_lt m n ≡ true → nat_cmp n m ≡ Greater
greater_is m n h = go (nat_lt n m) refl (n == m) refl
  where
    less : nat_lt n m ≡ true → ⊥
    less e = grind (arith, nat_tests)

    one : (n == m) ≡ true → ⊥
    one e = grind (arith, nat_tests)

    go : (a : Bool) → nat_lt n m ≡ a → (b : Bool) → (n == m) ≡ b → cond a Less (cond b Equal Greater) ≡ Greater
    go true e b f = absurd (less e)
    go false e true f = absurd (one f)
    go false e false f = refl

-- ---- Where one stands

module _ (turn p : ℕ) where
  -- it is up where it is found
  pub any_found : (xs : List (ℕ × ℕ)) → list_any (is_pipe p) (map (port_in turn) xs) ≡ is_some (lookup (is_at (nat_cmp p)) xs)
  any_found [] = refl
  any_found (x ∷ xs) = rw (same_key p x.0) (go (x.0 == p) (any_found xs))
    where
      go : (b : Bool) → list_any (is_pipe p) (map (port_in turn) xs) ≡ is_some (lookup (is_at (nat_cmp p)) xs) → (b || list_any (is_pipe p) (map (port_in turn) xs)) ≡ is_some (cond b (Some x.1) (lookup (is_at (nat_cmp p)) xs))
      go true h = refl
      go false h = h

  pub find_port : (xs : List (ℕ × ℕ)) → find (is_pipe p) (map (port_in turn) xs) ≡ option_map (λ (n : ℕ). port_in turn (p, n)) (lookup (is_at (nat_cmp p)) xs)
  find_port [] = refl
  find_port (x ∷ xs) = rw (same_key p x.0) (go (x.0 == p) refl (find_port xs))
    where
      go : (b : Bool) → (x.0 == p) ≡ b → find (is_pipe p) (map (port_in turn) xs) ≡ option_map (λ (n : ℕ). port_in turn (p, n)) (lookup (is_at (nat_cmp p)) xs)
          → cond b (Some (port_in turn x)) (find (is_pipe p) (map (port_in turn) xs)) ≡ option_map (λ (n : ℕ). port_in turn (p, n)) (cond b (Some x.1) (lookup (is_at (nat_cmp p)) xs))
      go true e h = ap (λ (n : ℕ). Some (port_in turn (n, x.1))) (equal_of x.0 p e)
      go false e h = h

  -- ---- A new one

  pub under_ports : (xs : List (ℕ × ℕ)) → list_all (is_below p) (map (port_in turn) xs) ≡ list_all (is_under p) xs
  under_ports [] = refl
  under_ports (x ∷ xs) = ap (λ (b : Bool). nat_lt x.0 p && b) (under_ports xs)

all_under : (p last : ℕ) (xs : List (ℕ × ℕ)) → AllByRecursion (λ q. is_lt (nat_cmp last q) ≡ false) (keys_of xs) → nat_lt last p ≡ true → list_all (is_under p) xs ≡ true
all_under p last [] h l = refl
all_under p last (x ∷ xs) h l = rw (low x.0 h.0) (all_under p last xs h.1 l)
  where
    low : (n : ℕ) → is_lt (nat_cmp last n) ≡ false → nat_lt n p ≡ true
    low n e = go (nat_lt last n) refl (last == n) (nat_lt n p) refl e
      where
        no : nat_lt last n ≡ false → nat_lt n p ≡ false → ⊥
        no f g = grind (arith, nat_tests, l)

        go : (a : Bool) → nat_lt last n ≡ a → (b : Bool) → (c : Bool) → nat_lt n p ≡ c → is_lt (cond a Less (cond b Equal Greater)) ≡ false → c ≡ true
        go true f b c g k = absurd cc
        go false f b true g k = refl
        go false f b false g k = absurd (no f g)

not_all_under : (p i : ℕ) (z : ℕ × ℕ) (xs : List (ℕ × ℕ)) → slice_get xs i ≡ Some z → nat_lt z.0 p ≡ false → list_all (is_under p) xs ≡ false
not_all_under p i z [] e l = absurd cc
not_all_under p zero z (x ∷ xs) e l = let is : x ≡ z = cc in let no : nat_lt x.0 p ≡ false = subst (λ (y : ℕ × ℕ). nat_lt y.0 p ≡ false) (sym is) l in rw no refl
not_all_under p (suc i) z (x ∷ xs) e l = ap (λ (b : Bool). nat_lt x.0 p && b) (not_all_under p i z xs e l) ∙ go (nat_lt x.0 p)
  where
    go : (b : Bool) → (b && false) ≡ false
    go true = refl
    go false = refl

-- all are below the number, where the last one is
pub under_last : (p i : ℕ) (z : ℕ × ℕ) (xs : List (ℕ × ℕ)) → slice_get xs i ≡ Some z → AllByRecursion (λ q. is_lt (nat_cmp z.0 q) ≡ false) (keys_of xs) → nat_lt z.0 p ≡ list_all (is_under p) xs
under_last p i z xs e h = go (nat_lt z.0 p) refl
  where
    go : (b : Bool) → nat_lt z.0 p ≡ b → b ≡ list_all (is_under p) xs
    go true l = sym (all_under p z.0 xs h l)
    go false l = sym (not_all_under p i z xs e l)

both_of : (a b : Bool) → (a && b) ≡ true → (a ≡ true) × (b ≡ true)
both_of true b e = (refl, e)
both_of false b e = absurd cc

-- one above all others comes after them
pub put_last : (p : ℕ) (xs : List (ℕ × ℕ)) → list_all (is_under p) xs ≡ true → insert_entry nat_cmp xs p 0 ≡ xs ++ (p, 0) ∷ []
put_last p [] h = refl
put_last p (x ∷ xs) h =
    let both = both_of (nat_lt x.0 p) _ h in
    ap (λ (o : Ordering). match_ordering o ((p, 0) ∷ x ∷ xs) ((x.0, 0) ∷ xs) (x ∷ insert_entry nat_cmp xs p 0)) (greater_is x.0 p both.0) ∙ ap (λ (rest : List (ℕ × ℕ)). x ∷ rest) (put_last p xs both.1)

numbers_more : (xs : List (ℕ × ℕ)) (y : ℕ × ℕ) → y.0 < 2 ^ 32 → AreNumbers xs → AreNumbers (xs ++ y ∷ [])
numbers_more [] y l h = (l, tt)
numbers_more (x ∷ xs) y l h = (h.0, numbers_more xs y l h.1)

turns_more : (turn : ℕ) (xs : List (ℕ × ℕ)) (y : ℕ × ℕ) → y.1 ≤ turn → AreUpTo turn xs → AreUpTo turn (xs ++ y ∷ [])
turns_more turn [] y l h = (l, tt)
turns_more turn (x ∷ xs) y l h = (h.0, turns_more turn xs y l h.1)

pub more_known : (turn p : ℕ) (es xs : List (ℕ × ℕ)) → AreKnown turn es xs → p < 2 ^ 32 → AreKnown turn [] (xs ++ (p, 0) ∷ [])
more_known turn p es xs h l = record { numbers = numbers_more xs (p, 0) l h.numbers; turns = turns_more turn xs (p, 0) (omega arith) h.turns; begun = h.begun; passed = tt }

pub more_view : (turn p : ℕ) (xs : List (ℕ × ℕ)) → 1 ≤ turn → map (port_in turn) (xs ++ (p, 0) ∷ []) ≡ map (port_in turn) xs ++ record { pipe = p; is_full = false } ∷ []
more_view turn p [] l = ap (λ (b : Bool). (let x : PortView = record { pipe = p; is_full = b } in x) ∷ []) (other 0 turn (omega (arith, l)))
more_view turn p (x ∷ xs) l = ap (λ (rest : List PortView). port_in turn x ∷ rest) (more_view turn p xs l)

-- ---- One is found full

above_unmarked : (turn p : ℕ) (xs : List (ℕ × ℕ)) → AllByRecursion (λ n. nat_cmp p n ≡ Less) (keys_of xs) → map (marked p) (map (port_in turn) xs) ≡ map (port_in turn) xs
above_unmarked turn p [] h = refl
above_unmarked turn p (x ∷ xs) h =
    let no : (p == x.0) ≡ false = other p x.0 (less_is p x.0 h.0) in
    rw no (ap (λ (rest : List PortView). port_in turn x ∷ rest) (above_unmarked turn p xs h.1))

module _ (turn p : ℕ) where
  pub none_marked : (xs : List (ℕ × ℕ)) → lookup (is_at (nat_cmp p)) xs ≡ None → map (marked p) (map (port_in turn) xs) ≡ map (port_in turn) xs
  none_marked [] h = refl
  none_marked (x ∷ xs) h = go (x.0 == p) refl (sym (ap (λ (b : Bool). cond b (Some x.1) (lookup (is_at (nat_cmp p)) xs)) (same_key p x.0)) ∙ h) (none_marked xs)
    where
      go : (b : Bool) → (x.0 == p) ≡ b → cond b (Some x.1) (lookup (is_at (nat_cmp p)) xs) ≡ None → (lookup (is_at (nat_cmp p)) xs ≡ None → map (marked p) (map (port_in turn) xs) ≡ map (port_in turn) xs) → map (marked p) (map (port_in turn) (x ∷ xs)) ≡ map (port_in turn) (x ∷ xs)
      go true e h again = absurd cc
      go false e h again = let no : (p == x.0) ≡ false = turned x.0 p false e in rw no (ap (λ (rest : List PortView). port_in turn x ∷ rest) (again h))

  pub one_marked : (xs : List (ℕ × ℕ)) → IsStrictlySortedBy nat_cmp (keys_of xs) → map (port_in turn) (set_value (is_at (nat_cmp p)) xs turn) ≡ map (marked p) (map (port_in turn) xs)
  one_marked [] h = refl
  one_marked (x ∷ xs) h = rw (same_key p x.0) (go (x.0 == p) refl (one_marked xs (sorted_tail nat_cmp x.0 (keys_of xs) h)))
    where
      go : (b : Bool) → (x.0 == p) ≡ b → map (port_in turn) (set_value (is_at (nat_cmp p)) xs turn) ≡ map (marked p) (map (port_in turn) xs)
          → map (port_in turn) (cond b ((x.0, turn) ∷ xs) (x ∷ set_value (is_at (nat_cmp p)) xs turn)) ≡ map (marked p) (map (port_in turn) (x ∷ xs))
      go true e again =
          let yes : (p == x.0) ≡ true = turned x.0 p true e in
          let full : (turn == turn) ≡ true = same_number turn in
          let above : AllByRecursion (λ n. nat_cmp p n ≡ Less) (keys_of xs) = subst (λ (k : ℕ). AllByRecursion (λ n. nat_cmp k n ≡ Less) (keys_of xs)) (equal_of x.0 p e) (sorted_head nat_cmp x.0 (keys_of xs) h) in
          rw (yes, full) (ap (λ (rest : List PortView). record { pipe = x.0; is_full = true } ∷ rest) (sym (above_unmarked turn p xs above)))
      go false e again = let no : (p == x.0) ≡ false = turned x.0 p false e in rw no (ap (λ (rest : List PortView). port_in turn x ∷ rest) again)

module _ (P : ℕ → Bool) (turn : ℕ) where
  numbers_marked : (xs : List (ℕ × ℕ)) → AreNumbers xs → AreNumbers (set_value P xs turn)
  numbers_marked [] h = h
  numbers_marked (x ∷ xs) h = go (P x.0) (numbers_marked xs h.1)
    where
      go : (b : Bool) → AreNumbers (set_value P xs turn) → AreNumbers (cond b ((x.0, turn) ∷ xs) (x ∷ set_value P xs turn))
      go true k = (h.0, h.1)
      go false k = (h.0, k)

  turns_marked : (xs : List (ℕ × ℕ)) → AreUpTo turn xs → AreUpTo turn (set_value P xs turn)
  turns_marked [] h = h
  turns_marked (x ∷ xs) h = go (P x.0) (turns_marked xs h.1)
    where
      go : (b : Bool) → AreUpTo turn (set_value P xs turn) → AreUpTo turn (cond b ((x.0, turn) ∷ xs) (x ∷ set_value P xs turn))
      go true k = (omega arith, h.1)
      go false k = (h.0, k)

  full_marked : (from to : ℕ) (xs : List (ℕ × ℕ)) → AreFull turn from to xs → AreFull turn from to (set_value P xs turn)
  full_marked from to [] h = h
  full_marked from to (x ∷ xs) h = go (P x.0) (full_marked from to xs h.1)
    where
      go : (b : Bool) → AreFull turn from to (set_value P xs turn) → AreFull turn from to (cond b ((x.0, turn) ∷ xs) (x ∷ set_value P xs turn))
      go true k = (λ l m. same_number turn, h.1)
      go false k = (h.0, k)

  passed_marked : (es xs : List (ℕ × ℕ)) → AllPassed turn es xs → AllPassed turn es (set_value P xs turn)
  passed_marked [] xs h = tt
  passed_marked (e ∷ es) xs h = (full_marked e.0 e.1 xs h.0, passed_marked es xs h.1)

  pub marked_known : (es xs : List (ℕ × ℕ)) → AreKnown turn es xs → AreKnown turn es (set_value P xs turn)
  marked_known es xs h = record { numbers = numbers_marked xs h.numbers; turns = turns_marked xs h.turns; begun = h.begun; passed = passed_marked es xs h.passed }

-- ---- One goes down

module _ (P : ℕ → Bool) (turn : ℕ) where
  numbers_less : (xs : List (ℕ × ℕ)) → AreNumbers xs → AreNumbers (remove_entry P xs)
  numbers_less [] h = h
  numbers_less (x ∷ xs) h = go (P x.0) (numbers_less xs h.1)
    where
      go : (b : Bool) → AreNumbers (remove_entry P xs) → AreNumbers (cond b xs (x ∷ remove_entry P xs))
      go true k = h.1
      go false k = (h.0, k)

  turns_less : (xs : List (ℕ × ℕ)) → AreUpTo turn xs → AreUpTo turn (remove_entry P xs)
  turns_less [] h = h
  turns_less (x ∷ xs) h = go (P x.0) (turns_less xs h.1)
    where
      go : (b : Bool) → AreUpTo turn (remove_entry P xs) → AreUpTo turn (cond b xs (x ∷ remove_entry P xs))
      go true k = h.1
      go false k = (h.0, k)

  full_less : (from to : ℕ) (xs : List (ℕ × ℕ)) → AreFull turn from to xs → AreFull turn from to (remove_entry P xs)
  full_less from to [] h = h
  full_less from to (x ∷ xs) h = go (P x.0) (full_less from to xs h.1)
    where
      go : (b : Bool) → AreFull turn from to (remove_entry P xs) → AreFull turn from to (cond b xs (x ∷ remove_entry P xs))
      go true k = h.1
      go false k = (h.0, k)

  passed_less : (es xs : List (ℕ × ℕ)) → AllPassed turn es xs → AllPassed turn es (remove_entry P xs)
  passed_less [] xs h = tt
  passed_less (e ∷ es) xs h = (full_less e.0 e.1 xs h.0, passed_less es xs h.1)

  pub less_known : (es xs : List (ℕ × ℕ)) → AreKnown turn es xs → AreKnown turn es (remove_entry P xs)
  less_known es xs h = record { numbers = numbers_less xs h.numbers; turns = turns_less xs h.turns; begun = h.begun; passed = passed_less es xs h.passed }

module _ (turn p : ℕ) where
  none_of : (xs : List (ℕ × ℕ)) → lookup (is_at (nat_cmp p)) xs ≡ None → filter (λ (x : PortView). not (x.pipe == p)) (map (port_in turn) xs) ≡ map (port_in turn) xs
  none_of [] h = refl
  none_of (x ∷ xs) h = go (x.0 == p) (sym (ap (λ (b : Bool). cond b (Some x.1) (lookup (is_at (nat_cmp p)) xs)) (same_key p x.0)) ∙ h) (none_of xs)
    where
      go : (b : Bool) → cond b (Some x.1) (lookup (is_at (nat_cmp p)) xs) ≡ None → (lookup (is_at (nat_cmp p)) xs ≡ None → filter (λ (y : PortView). not (y.pipe == p)) (map (port_in turn) xs) ≡ map (port_in turn) xs)
          → cond (not b) (port_in turn x ∷ filter (λ (y : PortView). not (y.pipe == p)) (map (port_in turn) xs)) (filter (λ (y : PortView). not (y.pipe == p)) (map (port_in turn) xs)) ≡ port_in turn x ∷ map (port_in turn) xs
      go true h again = absurd cc
      go false h again = ap (λ (rest : List PortView). port_in turn x ∷ rest) (again h)

  -- none of this number is left
  pub one_less : (xs : List (ℕ × ℕ)) → lookup (is_at (nat_cmp p)) (remove_entry (is_at (nat_cmp p)) xs) ≡ None → map (port_in turn) (remove_entry (is_at (nat_cmp p)) xs) ≡ filter (λ (x : PortView). not (x.pipe == p)) (map (port_in turn) xs)
  one_less [] h = refl
  one_less (x ∷ xs) h = rw (same_key p x.0) (go (x.0 == p) refl (sym (ap (λ (b : Bool). lookup (is_at (nat_cmp p)) (cond b xs (x ∷ remove_entry (is_at (nat_cmp p)) xs))) (same_key p x.0)) ∙ h) (one_less xs))
    where
      go : (b : Bool) → (x.0 == p) ≡ b → lookup (is_at (nat_cmp p)) (cond b xs (x ∷ remove_entry (is_at (nat_cmp p)) xs)) ≡ None
          → (lookup (is_at (nat_cmp p)) (remove_entry (is_at (nat_cmp p)) xs) ≡ None → map (port_in turn) (remove_entry (is_at (nat_cmp p)) xs) ≡ filter (λ (y : PortView). not (y.pipe == p)) (map (port_in turn) xs))
          → map (port_in turn) (cond b xs (x ∷ remove_entry (is_at (nat_cmp p)) xs)) ≡ cond (not b) (port_in turn x ∷ filter (λ (y : PortView). not (y.pipe == p)) (map (port_in turn) xs)) (filter (λ (y : PortView). not (y.pipe == p)) (map (port_in turn) xs))
      go true e h again = sym (none_of xs h)
      go false e h again =
          let no : is_eq (nat_cmp p x.0) ≡ false = same_key p x.0 ∙ e in
          let rest : lookup (is_at (nat_cmp p)) (remove_entry (is_at (nat_cmp p)) xs) ≡ None = sym (ap (λ (b : Bool). cond b (Some x.1) (lookup (is_at (nat_cmp p)) (remove_entry (is_at (nat_cmp p)) xs))) no) ∙ h in
          ap (λ (rest : List PortView). port_in turn x ∷ rest) (again rest)

-- ---- A new turn

turns_on : (turn : ℕ) (xs : List (ℕ × ℕ)) → AreUpTo turn xs → AreUpTo (turn + 1) xs
turns_on turn [] h = h
turns_on turn (x ∷ xs) h = (omega (arith, h.0), turns_on turn xs h.1)

pub next_known : (turn : ℕ) (es xs : List (ℕ × ℕ)) → AreKnown turn es xs → AreKnown (turn + 1) [] xs
next_known turn es xs h = record { numbers = h.numbers; turns = turns_on turn xs h.turns; begun = omega (arith, h.begun); passed = tt }

pub next_view : (turn : ℕ) (xs : List (ℕ × ℕ)) → AreUpTo turn xs → map (port_in (turn + 1)) xs ≡ map cleared (map (port_in turn) xs)
next_view turn [] h = refl
next_view turn (x ∷ xs) h =
    let later : (x.1 == turn + 1) ≡ false = other x.1 (turn + 1) (omega (arith, h.0)) in
    rw later (ap (λ (rest : List PortView). record { pipe = x.0; is_full = false } ∷ rest) (next_view turn xs h.1))

numbers_anew : (xs : List (ℕ × ℕ)) → AreNumbers xs → AreNumbers (map unmarked xs)
numbers_anew [] h = h
numbers_anew (x ∷ xs) h = (h.0, numbers_anew xs h.1)

turns_anew : (xs : List (ℕ × ℕ)) → AreUpTo 1 (map unmarked xs)
turns_anew [] = tt
turns_anew (x ∷ xs) = (omega arith, turns_anew xs)

pub anew_known : (turn : ℕ) (es xs : List (ℕ × ℕ)) → AreKnown turn es xs → AreKnown 1 [] (map unmarked xs)
anew_known turn es xs h = record { numbers = numbers_anew xs h.numbers; turns = turns_anew xs; begun = omega arith; passed = tt }

pub anew_view : (turn : ℕ) (xs : List (ℕ × ℕ)) → map (port_in 1) (map unmarked xs) ≡ map cleared (map (port_in turn) xs)
anew_view turn [] = refl
anew_view turn (x ∷ xs) = ap (λ (rest : List PortView). record { pipe = x.0; is_full = false } ∷ rest) (anew_view turn xs)

-- ---- The next that is not full

-- the range that begins at the number has all from there on
pub in_rest : (turn from : ℕ) (xs : List (ℕ × ℕ)) → find (is_open turn) (filter (λ (x : ℕ × ℕ). is_le (nat_cmp from x.0) && not false) xs) ≡ find (is_free_from turn from) xs
in_rest turn from [] = refl
in_rest turn from (x ∷ xs) = rw (in_range from x.0) (go (nat_lt x.0 from) (x.1 == turn) refl (in_rest turn from xs))
  where
    go : (a b : Bool) → (x.1 == turn) ≡ b → find (is_open turn) (filter (λ (y : ℕ × ℕ). is_le (nat_cmp from y.0) && not false) xs) ≡ find (is_free_from turn from) xs
        → find (is_open turn) (cond (not a && true) (x ∷ filter (λ (y : ℕ × ℕ). is_le (nat_cmp from y.0) && not false) xs) (filter (λ (y : ℕ × ℕ). is_le (nat_cmp from y.0) && not false) xs)) ≡ cond (not a && not b) (Some x) (find (is_free_from turn from) xs)
    go true b e h = h
    go false true e h = rw e h
    go false false e h = rw e refl

-- a full one is skipped
pub one_passed : (turn : ℕ) (x : ℕ × ℕ) (xs rest : List (ℕ × ℕ)) (found : Option (ℕ × ℕ)) → xs ≡ x ∷ rest → (x.1 == turn) ≡ true → find (is_open turn) xs ≡ found → find (is_open turn) rest ≡ found
one_passed turn x xs rest found e full h = sym (ap (λ (b : Bool). cond (not b) (Some x) (find (is_open turn) rest)) full) ∙ sym (ap (find (is_open turn)) e) ∙ h

pub one_open : (turn : ℕ) (x : ℕ × ℕ) (xs rest : List (ℕ × ℕ)) (found : Option (ℕ × ℕ)) → xs ≡ x ∷ rest → (x.1 == turn) ≡ false → find (is_open turn) xs ≡ found → found ≡ Some x
one_open turn x xs rest found e full h = sym h ∙ ap (find (is_open turn)) e ∙ ap (λ (b : Bool). cond (not b) (Some x) (find (is_open turn) rest)) full

no_span : (turn from : ℕ) (xs : List (ℕ × ℕ)) → AreFull turn from from xs
no_span turn from [] = tt
no_span turn from (x ∷ xs) = (λ l m. absurd (omega (arith, l, m)), no_span turn from xs)

-- no number is above those of pipes
pub none_past : (turn from : ℕ) (xs : List (ℕ × ℕ)) → AreNumbers xs → 2 ^ 32 ≤ from → find (is_free_from turn from) xs ≡ None
none_past turn from [] h l = refl
none_past turn from (x ∷ xs) h l = let low : nat_lt x.0 from ≡ true = lower x.0 h.0 in rw low (none_past turn from xs h.1 l)
  where
    lower : (n : ℕ) → n < 2 ^ 32 → nat_lt n from ≡ true
    lower n k = let less : n < from = omega (arith, k, l) in grind (arith, nat_tests, less)

pub full_past : (turn from : ℕ) (xs : List (ℕ × ℕ)) → 2 ^ 32 ≤ from → AreFull turn from (2 ^ 32) xs
full_past turn from [] l = tt
full_past turn from (x ∷ xs) l = (λ k m. absurd (omega (arith, k, l, m)), full_past turn from xs l)

-- those that are full are skipped
passed : (turn from to : ℕ) (xs : List (ℕ × ℕ)) → from ≤ to → AreFull turn from to xs → find (is_free_from turn from) xs ≡ find (is_free_from turn to) xs
passed turn from to [] l h = refl
passed turn from to (x ∷ xs) l h = go (nat_lt x.0 from) refl (nat_lt x.0 to) refl (x.1 == turn) refl (passed turn from to xs l h.1)
  where
    clash : nat_lt x.0 from ≡ true → nat_lt x.0 to ≡ false → ⊥
    clash e f = grind (arith, nat_tests, l)

    go : (a : Bool) → nat_lt x.0 from ≡ a → (b : Bool) → nat_lt x.0 to ≡ b → (f : Bool) → (x.1 == turn) ≡ f → find (is_free_from turn from) xs ≡ find (is_free_from turn to) xs
        → cond (not a && not f) (Some x) (find (is_free_from turn from) xs) ≡ cond (not b && not f) (Some x) (find (is_free_from turn to) xs)
    go true e true k f m again = again
    go true e false k f m again = absurd (clash e k)
    go false e true k true m again = again
    go false e true k false m again = let yes : (x.1 == turn) ≡ true = h.0 (not_under x.0 from e) (under x.0 to k) in absurd cc
    go false e false k f m again = ap (λ (o : Option (ℕ × ℕ)). cond (not f) (Some x) o) again

equal_is : (m n : ℕ) → nat_cmp m n ≡ Equal → m ≡ n
equal_is m n h = go (nat_lt m n) (m == n) refl h
  where
    go : (a b : Bool) → (m == n) ≡ b → cond a Less (cond b Equal Greater) ≡ Equal → m ≡ n
    go true b e h = absurd cc
    go false true e h = equal_of m n e
    go false false e h = absurd cc

-- a stretch that is looked up is one that was skipped
found_passed : (turn from to : ℕ) (es xs : List (ℕ × ℕ)) → AllPassed turn es xs → lookup (is_at (nat_cmp from)) es ≡ Some to → AreFull turn from to xs
found_passed turn from to [] xs h f = absurd cc
found_passed turn from to (e ∷ es) xs h f = go (e.0 == from) refl (sym (ap (λ (b : Bool). cond b (Some e.1) (lookup (is_at (nat_cmp from)) es)) (same_key from e.0)) ∙ f) (found_passed turn from to es xs h.1)
  where
    go : (b : Bool) → (e.0 == from) ≡ b → cond b (Some e.1) (lookup (is_at (nat_cmp from)) es) ≡ Some to → (lookup (is_at (nat_cmp from)) es ≡ Some to → AreFull turn from to xs) → AreFull turn from to xs
    go true k f again = subst (λ n. AreFull turn n to xs) (equal_of e.0 from k) (subst (λ n. AreFull turn e.0 n xs) (some_inj e.1 to f) h.0)
    go false k f again = again f

-- the search begins at the number, or at the one up to which all from there are full
pub begins : (turn from : ℕ) (es xs : List (ℕ × ℕ)) → AllPassed turn es xs
    → AreFull turn from (begin_at (lookup (is_at (nat_cmp from)) es) from) xs × (find (is_free_from turn from) xs ≡ find (is_free_from turn (begin_at (lookup (is_at (nat_cmp from)) es) from)) xs)
begins turn from es xs h = go (lookup (is_at (nat_cmp from)) es) refl
  where
    least : (to : ℕ) → nat_le from to ≡ true → from ≤ to
    least to e = grind (arith, nat_tests)

    here : (to : ℕ) (b : Bool) → nat_le from to ≡ b → AreFull turn from to xs → AreFull turn from (cond b to from) xs × (find (is_free_from turn from) xs ≡ find (is_free_from turn (cond b to from)) xs)
    here to true k full = (full, passed turn from to xs (least to k) full)
    here to false k full = (no_span turn from xs, refl)

    go : (o : Option ℕ) → lookup (is_at (nat_cmp from)) es ≡ o → AreFull turn from (begin_at o from) xs × (find (is_free_from turn from) xs ≡ find (is_free_from turn (begin_at o from)) xs)
    go None e = (no_span turn from xs, refl)
    go (Some to) e = here to (nat_le from to) refl (found_passed turn from to es xs h e)

-- one more stretch is remembered
passed_more : (turn from to : ℕ) (es xs : List (ℕ × ℕ)) → AreFull turn from to xs → AllPassed turn es xs → AllPassed turn (insert_entry nat_cmp es from to) xs
passed_more turn from to [] xs f h = (f, tt)
passed_more turn from to (e ∷ es) xs f h = go (nat_cmp from e.0) refl (passed_more turn from to es xs f h.1)
  where
    go : (o : Ordering) → nat_cmp from e.0 ≡ o → AllPassed turn (insert_entry nat_cmp es from to) xs → AllPassed turn (match_ordering o ((from, to) ∷ e ∷ es) ((e.0, to) ∷ es) (e ∷ insert_entry nat_cmp es from to)) xs
    go Less k again = (f, h)
    go Equal k again = (subst (λ n. AreFull turn n to xs) (equal_is from e.0 k) f, h.1)
    go Greater k again = (h.0, again)

-- or it is not remembered, when out of memory
pub passed_after : {A B : Type 0} (r : Result A B) (turn from to : ℕ) (es new xs : List (ℕ × ℕ)) → OnOk r (new ≡ insert_entry nat_cmp es from to) → OnErr r (new ≡ es) → AreFull turn from to xs → AllPassed turn es xs → AllPassed turn new xs
passed_after (Ok x) turn from to es new xs put same f h = subst (λ rest. AllPassed turn rest xs) (sym put) (passed_more turn from to es xs f h)
passed_after (Err x) turn from to es new xs put same f h = subst (λ rest. AllPassed turn rest xs) (sym same) h

above_full : (turn from p : ℕ) (xs : List (ℕ × ℕ)) → AllByRecursion (λ n. nat_cmp p n ≡ Less) (keys_of xs) → AreFull turn from p xs
above_full turn from p [] h = tt
above_full turn from p (x ∷ xs) h = (λ l m. let high : p < x.0 = less_is p x.0 h.0 in absurd (omega (arith, high, m)), above_full turn from p xs h.1)

-- up to the one that was found all are full
pub filled : (turn from : ℕ) (xs : List (ℕ × ℕ)) → IsStrictlySortedBy nat_cmp (keys_of xs) → AreFull turn from (reached (option_map number (find (is_free_from turn from) xs))) xs
filled turn from [] h = tt
filled turn from (x ∷ xs) h = go (nat_lt x.0 from) refl (x.1 == turn) refl (filled turn from xs (sorted_tail nat_cmp x.0 (keys_of xs) h))
  where
    go : (a : Bool) → nat_lt x.0 from ≡ a → (b : Bool) → (x.1 == turn) ≡ b → AreFull turn from (reached (option_map number (find (is_free_from turn from) xs))) xs
        → AreFull turn from (reached (option_map number (cond (not a && not b) (Some x) (find (is_free_from turn from) xs)))) (x ∷ xs)
    go true e b k rest = (λ l m. let low : x.0 < from = under x.0 from e in absurd (omega (arith, low, l)), rest)
    go false e true k rest = (λ l m. k, rest)
    go false e false k rest = (λ l m. absurd (omega (arith, m)), above_full turn from x.0 xs (sorted_head nat_cmp x.0 (keys_of xs) h))

-- one span after another
pub joined : (turn from mid to : ℕ) (xs : List (ℕ × ℕ)) → AreFull turn from mid xs → AreFull turn mid to xs → AreFull turn from to xs
joined turn from mid to [] h k = tt
joined turn from mid to (x ∷ xs) h k = (λ l m. go (nat_lt x.0 mid) refl l m, joined turn from mid to xs h.1 k.1)
  where
    go : (b : Bool) → nat_lt x.0 mid ≡ b → from ≤ x.0 → x.0 < to → (x.1 == turn) ≡ true
    go true e l m = h.0 l (under x.0 mid e)
    go false e l m = k.0 (not_under x.0 mid e) m

pub ports_from : (turn from : ℕ) (xs : List (ℕ × ℕ)) → find (is_free_at from) (map (port_in turn) xs) ≡ option_map (port_in turn) (find (is_free_from turn from) xs)
ports_from turn from [] = refl
ports_from turn from (x ∷ xs) = go (not (nat_lt x.0 from) && not (x.1 == turn)) (ports_from turn from xs)
  where
    go : (b : Bool) → find (is_free_at from) (map (port_in turn) xs) ≡ option_map (port_in turn) (find (is_free_from turn from) xs)
        → cond b (Some (port_in turn x)) (find (is_free_at from) (map (port_in turn) xs)) ≡ option_map (port_in turn) (cond b (Some x) (find (is_free_from turn from) xs))
    go true h = refl
    go false h = h

pub numbers_of : (turn : ℕ) (o : Option (ℕ × ℕ)) → option_map (λ (x : PortView). x.pipe) (option_map (port_in turn) o) ≡ option_map number o
numbers_of turn None = refl
numbers_of turn (Some x) = refl

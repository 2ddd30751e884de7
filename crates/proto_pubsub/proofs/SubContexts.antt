-- The contexts of a sub, one by one.
use Rattle.std.proofs.Common.{◌≡◌, refl, ap, sym, ◌∙◌, subst, List, [], ◌∷◌, ◌++◌, ℕ, zero, suc, ◌+◌, Bool, true, false, cond, arith, Some, None, length, map, take, drop, slice_index_or, slice_set, ◌<◌, ◌≤◌, add-one}
use Rattle.std.specs.Prelude.{Result, Ok, Err, OnErr, Vec, find, filter, not, nat_lt, ◌||◌, ◌==◌}
use Rattle.std.specs.Vec.{with_items}
use Rattle.std.specs.List.{list_any, position, position_or_len, slice_get}
use Rattle.std.proofs.lemmas.Bool.Decides.{nat_tests}
use Rattle.std.proofs.lemmas.List.{with_items_is, length-map}
use Rattle.std.proofs.lemmas.List.Quantifiers.{position-Some}
use Rattle.std.proofs.lemmas.List.Folds.{find_at}
use Rattle.sp_history.specs.declared.parts.Item.{Item}
use Rattle.sp_history.specs.Lists.{has, without}
use Rattle.proto_pubsub.specs.SubContexts.{SubContextView, is_of_context, with_found, switched, Switches, SwitchesOne, StopsAt}
use Rattle.proto_pubsub.specs.Subs.{context_at}
use Rattle.proto_pubsub.proofs.Knowing.{IsRising, equal_of}

-- ---- The first that passes a test

first_is : {A : Type 0} (p : A → Bool) (xs : List A) (i : ℕ) (d : A) → i < length xs → p (slice_index_or xs i d) ≡ true → ((k : ℕ) → k < i → p (slice_index_or xs k d) ≡ false) → find p xs ≡ Some (slice_index_or xs i d)
first_is p [] i d h t b = absurd (omega arith)
first_is p (x ∷ xs) zero d h t b = rw t refl
first_is p (x ∷ xs) (suc i) d h t b =
    let no : p x ≡ false = b 0 (omega arith) in
    rw no (first_is p xs i d (omega (arith, h)) t (λ k l. b (suc k) (omega (arith, l))))

-- the place of the first is where it is
pub found_at : {A : Type 0} (p : A → Bool) (xs : List A) (i : ℕ) (d : A) → position p xs ≡ Some i → find p xs ≡ Some (slice_index_or xs i d)
found_at p xs i d h = let at = position-Some p xs i d h in first_is p xs i d at.0 at.1 at.2

nothing_past : {A : Type 0} (xs : List A) (n : ℕ) → length xs ≤ n → slice_get xs n ≡ None
nothing_past [] n h = refl
nothing_past (x ∷ xs) zero h = absurd (omega arith)
nothing_past (x ∷ xs) (suc n) h = nothing_past xs n (omega (arith, h))

pub not_found : {A : Type 0} (p : A → Bool) (xs : List A) → position p xs ≡ None → find p xs ≡ None
not_found p xs h = find_at p xs ∙ nothing_past xs (position_or_len p xs) (go (position_or_len p xs) (length xs) h)
  where
    go : (n m : ℕ) → cond (nat_lt n m) (Some n) None ≡ None → m ≤ n
    go n m h = grind (arith, nat_tests)

-- ---- One is changed

sets : (P : SubContextView → Bool) (f : SubContextView → SubContextView) (xs : List SubContextView) (i : ℕ) (d : SubContextView) → i < length xs → P (slice_index_or xs i d) ≡ true → ((k : ℕ) → k < i → P (slice_index_or xs k d) ≡ false) → slice_set xs i (f (slice_index_or xs i d)) ≡ with_found P f xs
sets P f [] i d h t b = absurd (omega arith)
sets P f (x ∷ xs) zero d h t b = rw t refl
sets P f (x ∷ xs) (suc i) d h t b =
    let no : P x ≡ false = b 0 (omega arith) in
    rw no (ap (λ rest. x ∷ rest) (sets P f xs i d (omega (arith, h)) t (λ k l. b (suc k) (omega (arith, l)))))

pub with_at : (P : SubContextView → Bool) (f : SubContextView → SubContextView) (xs : List SubContextView) (i : ℕ) (d : SubContextView) → position P xs ≡ Some i → slice_set xs i (f (slice_index_or xs i d)) ≡ with_found P f xs
with_at P f xs i d h = let at = position-Some P xs i d h in sets P f xs i d at.0 at.1 at.2

pub with_none : (P : SubContextView → Bool) (f : SubContextView → SubContextView) (xs : List SubContextView) → find P xs ≡ None → xs ≡ with_found P f xs
with_none P f [] h = refl
with_none P f (x ∷ xs) h = go (P x) h (with_none P f xs)
  where
    go : (b : Bool) → cond b (Some x) (find P xs) ≡ None → (find P xs ≡ None → xs ≡ with_found P f xs) → x ∷ xs ≡ cond b (f x ∷ xs) (x ∷ with_found P f xs)
    go true h again = absurd cc
    go false h again = ap (λ rest. x ∷ rest) (again h)

sets_same : (xs : List SubContextView) (i : ℕ) (d : SubContextView) → i < length xs → slice_set xs i (slice_index_or xs i d) ≡ xs
sets_same [] i d h = absurd (omega arith)
sets_same (x ∷ xs) zero d h = refl
sets_same (x ∷ xs) (suc i) d h = ap (λ rest. x ∷ rest) (sets_same xs i d (omega (arith, h)))

pub same_at : (P : SubContextView → Bool) (xs : List SubContextView) (i : ℕ) (d v : SubContextView) → position P xs ≡ Some i → v ≡ slice_index_or xs i d → slice_set xs i v ≡ xs
same_at P xs i d v h e = ap (slice_set xs i) e ∙ sets_same xs i d (position-Some P xs i d h).0

-- the topic of one is switched
pub switch_one : {E : Type 0} (r : Result Bool E) (c : ℕ) (xs : List SubContextView) (i : ℕ) (d v : SubContextView) (topic : List ℕ) (on : Bool) → position (is_of_context c) xs ≡ Some i → Switches r (slice_index_or xs i d) v topic on → SwitchesOne r (slice_index_or xs i d) c xs (slice_set xs i v) topic on
switch_one (Ok true) c xs i d v topic on h s = (s.0, ap (slice_set xs i) s.1 ∙ with_at (is_of_context c) (switched on topic) xs i d h)
switch_one (Ok false) c xs i d v topic on h s = (s.0, same_at (is_of_context c) xs i d v h s.1)
switch_one (Err e) c xs i d v topic on h s = (s.0, same_at (is_of_context c) xs i d v h s.1)

-- never out of memory where a topic is removed
pub one_off : {E : Type 0} (r : Result Bool E) (x v : SubContextView) (topic : List ℕ) (on : Bool) → on ≡ false → Switches r x v topic on → OnErr r ⊥
one_off (Ok b) x v topic on e s = tt
one_off (Err y) x v topic on e s = let no : false ≡ true = sym e ∙ s.0 in absurd cc

with_long : (P : SubContextView → Bool) (f : SubContextView → SubContextView) (xs : List SubContextView) → length (with_found P f xs) ≡ length xs
with_long P f [] = refl
with_long P f (x ∷ xs) = go (P x) (with_long P f xs)
  where
    go : (b : Bool) → length (with_found P f xs) ≡ length xs → length (cond b (f x ∷ xs) (x ∷ with_found P f xs)) ≡ length (x ∷ xs)
    go true h = refl
    go false h = omega (arith, h)

-- ---- Each is changed

writes : {A : Type 0} (f : A → A) (xs : List A) (i : ℕ) (d : A) → i < length xs
    → slice_set (map f (take i xs) ++ drop i xs) i (f (slice_index_or (map f (take i xs) ++ drop i xs) i d)) ≡ map f (take (suc i) xs) ++ drop (suc i) xs
writes f [] i d h = absurd (omega arith)
writes f (x ∷ xs) zero d h = refl
writes f (x ∷ xs) (suc i) d h = ap (λ rest. f x ∷ rest) (writes f xs i d (omega (arith, h)))

-- one more element was written
pub written : {A : Type 0} (f : A → A) (xs ys : List A) (i : ℕ) (d v : A) → i < length xs → ys ≡ map f (take i xs) ++ drop i xs → v ≡ f (slice_index_or ys i d)
    → slice_set ys i v ≡ map f (take (i + 1) xs) ++ drop (i + 1) xs
written f xs ys i d v h e w =
    rw (w, e, add-one i) (writes f xs i d h)

pub long_written : {A : Type 0} (f : A → A) (xs : List A) (i : ℕ) → length (map f (take i xs) ++ drop i xs) ≡ length xs
long_written f [] zero = refl
long_written f [] (suc i) = refl
long_written f (x ∷ xs) zero = refl
long_written f (x ∷ xs) (suc i) = omega (arith, long_written f xs i)

-- what was written last is there
pub set_is : {A : Type 0} (xs : List A) (i : ℕ) (v d : A) → i < length xs → slice_index_or (slice_set xs i v) i d ≡ v
set_is [] i v d h = absurd (omega arith)
set_is (x ∷ xs) zero v d h = refl
set_is (x ∷ xs) (suc i) v d h = set_is xs i v d (omega (arith, h))

all_written : {A : Type 0} (f : A → A) (xs : List A) (k : ℕ) → length xs ≤ k → map f (take k xs) ++ drop k xs ≡ map f xs
all_written f [] zero h = refl
all_written f [] (suc k) h = refl
all_written f (x ∷ xs) zero h = absurd (omega (arith, h))
all_written f (x ∷ xs) (suc k) h = ap (λ rest. f x ∷ rest) (all_written f xs k (omega (arith, h)))

-- with the last element all are written
pub last_written : {A : Type 0} (f : A → A) (xs ys : List A) (i : ℕ) (d v : A) → i < length xs → length xs ≤ i + 1 → ys ≡ map f (take i xs) ++ drop i xs → v ≡ f (slice_index_or ys i d) → slice_set ys i v ≡ map f xs
last_written f xs ys i d v h k e w = written f xs ys i d v h e w ∙ all_written f xs (i + 1) k

-- the next one stays as it is
halts : {A : Type 0} (f : A → A) (xs : List A) (i : ℕ) (d : A) → i < length xs → slice_set (map f (take i xs) ++ drop i xs) i (slice_index_or (map f (take i xs) ++ drop i xs) i d) ≡ map f (take i xs) ++ drop i xs
halts f [] i d h = absurd (omega arith)
halts f (x ∷ xs) zero d h = refl
halts f (x ∷ xs) (suc i) d h = ap (λ rest. f x ∷ rest) (halts f xs i d (omega (arith, h)))

record Parts (f : SubContextView → SubContextView) (xs : List SubContextView) (i : ℕ) (d : SubContextView) : Type 0 where
  rest : List SubContextView
  before : xs ≡ take i xs ++ slice_index_or (map f (take i xs) ++ drop i xs) i d ∷ rest
  after : map f (take i xs) ++ drop i xs ≡ map f (take i xs) ++ slice_index_or (map f (take i xs) ++ drop i xs) i d ∷ rest

parts : (f : SubContextView → SubContextView) (xs : List SubContextView) (i : ℕ) (d : SubContextView) → i < length xs → Parts f xs i d
parts f [] i d h = absurd (omega arith)
parts f (x ∷ xs) zero d h = record { rest = xs; before = refl; after = refl }
parts f (x ∷ xs) (suc i) d h =
    let p = parts f xs i d (omega (arith, h)) in
    record { rest = p.rest; before = ap (λ rest. x ∷ rest) p.before; after = ap (λ rest. f x ∷ rest) p.after }

-- the one before which it stopped is unchanged
pub stops : (needs : SubContextView → Bool) (f : SubContextView → SubContextView) (xs ys : List SubContextView) (i c : ℕ) (d v : SubContextView) → i < length xs → ys ≡ map f (take i xs) ++ drop i xs → v ≡ slice_index_or ys i d → needs v ≡ true → v.ctx ≡ c → StopsAt needs f c xs (slice_set ys i v)
stops needs f xs ys i c d v h e w need k =
    let at : SubContextView = slice_index_or (map f (take i xs) ++ drop i xs) i d in
    let is : v ≡ at = w ∙ ap (λ (zs : List SubContextView). slice_index_or zs i d) e in
    let p = parts f xs i d h in
    record {
      done = take i xs;
      at = at;
      rest = p.rest;
      before = p.before;
      here = ap (λ (x : SubContextView). x.ctx) (sym is) ∙ k;
      needed = ap needs (sym is) ∙ need;
      after = ap (λ (zs : List SubContextView). slice_set zs i v) e ∙ ap (slice_set (map f (take i xs) ++ drop i xs) i) is ∙ halts f xs i d h ∙ p.after;
    }

-- the contexts are those that were written
pub contexts_written : {Z : Type 0} (v : Vec SubContextView Z) (xs ys : List SubContextView) → ys ≡ v.items → length xs ≡ length ys → (with_items v xs).items ≡ xs
contexts_written v xs ys e h = with_items_is v xs (h ∙ ap length e ∙ sym v.ok.0)

pub long_map : (f : SubContextView → SubContextView) (xs ys : List SubContextView) → xs ≡ map f ys → length xs ≡ length ys
long_map f xs ys e = ap length e ∙ length-map ys f

pub long_with : (P : SubContextView → Bool) (f : SubContextView → SubContextView) (xs ys : List SubContextView) → xs ≡ with_found P f ys → length xs ≡ length ys
long_with P f xs ys e = ap length e ∙ with_long P f ys

long_parts : (f : SubContextView → SubContextView) (done rest : List SubContextView) → length (map f done ++ rest) ≡ length (done ++ rest)
long_parts f [] rest = refl
long_parts f (x ∷ done) rest = omega (arith, long_parts f done rest)

pub long_stops : (needs : SubContextView → Bool) (f : SubContextView → SubContextView) (c : ℕ) (xs ys : List SubContextView) → StopsAt needs f c xs ys → length ys ≡ length xs
long_stops needs f c xs ys h = ap length h.after ∙ long_parts f h.done (h.at ∷ h.rest) ∙ sym (ap length h.before)

-- ---- As a past has them

pub map_same : {A : Type 0} (f g : ℕ → A) (cs : List ℕ) → ((c : ℕ) → has cs c ≡ true → f c ≡ g c) → map f cs ≡ map g cs
map_same f g [] h = refl
map_same f g (c ∷ cs) h =
    let first : f c ≡ g c = h c (rw (itself c) refl) in
    ap (λ x. x ∷ map f cs) first ∙ ap (λ rest. g c ∷ rest) (map_same f g cs (λ d k. h d (after (c == d) (has cs d) k)))
  where
    itself : (n : ℕ) → (n == n) ≡ true
    itself n = grind (arith, nat_tests)

    after : (a b : Bool) → b ≡ true → (a || b) ≡ true
    after true b q = refl
    after false b q = q

pub each : (k : SubContextView → SubContextView) (f g : ℕ → SubContextView) (cs : List ℕ) → ((c : ℕ) → has cs c ≡ true → k (f c) ≡ g c) → map k (map f cs) ≡ map g cs
each k f g cs h = twice cs ∙ map_same (λ c. k (f c)) g cs h
  where
    twice : (cs : List ℕ) → map k (map f cs) ≡ map (λ c. k (f c)) cs
    twice [] = refl
    twice (c ∷ cs) = ap (λ rest. k (f c) ∷ rest) (twice cs)

tail_is : (x y : SubContextView) (xs ys : List SubContextView) → x ∷ xs ≡ y ∷ ys → (x ≡ y) × (xs ≡ ys)
tail_is x y xs ys e = (cc, cc)

module _ (places : ℕ) (is : ℕ → List Item) (ts : ℕ → List (List ℕ)) where
  pub found_context : (c : ℕ) (cs : List ℕ) → find (is_of_context c) (map (context_at places is ts) cs) ≡ cond (has cs c) (Some (context_at places is ts c)) None
  found_context c [] = refl
  found_context c (x ∷ cs) = go (x == c) refl (found_context c cs)
    where
      go : (b : Bool) → (x == c) ≡ b → find (is_of_context c) (map (context_at places is ts) cs) ≡ cond (has cs c) (Some (context_at places is ts c)) None
          → cond b (Some (context_at places is ts x)) (find (is_of_context c) (map (context_at places is ts) cs)) ≡ cond (b || has cs c) (Some (context_at places is ts c)) None
      go true e again = ap (λ (n : ℕ). Some (context_at places is ts n)) (equal_of x c e)
      go false e again = again

  pub any_context : (c : ℕ) (cs : List ℕ) → list_any (is_of_context c) (map (context_at places is ts) cs) ≡ has cs c
  any_context c [] = refl
  any_context c (x ∷ cs) = ap (λ b. (x == c) || b) (any_context c cs)

  pub stands : (c : ℕ) (cs : List ℕ) (done rest : List SubContextView) (at : SubContextView) → map (context_at places is ts) cs ≡ done ++ at ∷ rest → at.ctx ≡ c → has cs c ≡ true
  stands c [] [] rest at e k = absurd cc
  stands c [] (d ∷ done) rest at e k = absurd cc
  stands c (x ∷ cs) [] rest at e k =
      let same : x ≡ c = ap (λ (y : SubContextView). y.ctx) (tail_is _ _ _ _ e).0 ∙ k in
      let is : (x == c) ≡ true = grind (arith, nat_tests) in rw is refl
  stands c (x ∷ cs) (d ∷ done) rest at e k = after (x == c) (has cs c) (stands c cs done rest at (tail_is _ _ _ _ e).1 k)
    where
      after : (a b : Bool) → b ≡ true → (a || b) ≡ true
      after true b q = refl
      after false b q = q

  -- the one that is there is as the past has it
  pub is_at : (cs : List ℕ) (done rest : List SubContextView) (at : SubContextView) → map (context_at places is ts) cs ≡ done ++ at ∷ rest → at ≡ context_at places is ts at.ctx
  is_at [] [] rest at e = absurd cc
  is_at [] (d ∷ done) rest at e = absurd cc
  is_at (x ∷ cs) [] rest at e =
      let first : context_at places is ts x ≡ at = (tail_is _ _ _ _ e).0 in
      sym first ∙ ap (context_at places is ts) (ap (λ (y : SubContextView). y.ctx) first)
  is_at (x ∷ cs) (d ∷ done) rest at e = is_at cs done rest at (tail_is _ _ _ _ e).1

  module _ (js : ℕ → List Item) (us : ℕ → List (List ℕ)) where
    -- the one of this number is changed, and no other
    pub changed : (g : SubContextView → SubContextView) (c : ℕ) (cs : List ℕ) → IsRising cs → g (context_at places is ts c) ≡ context_at places js us c → ((e : ℕ) → has cs e ≡ true → (c == e) ≡ false → context_at places is ts e ≡ context_at places js us e)
        → with_found (is_of_context c) g (map (context_at places is ts) cs) ≡ map (context_at places js us) cs
    changed g c [] h k o = refl
    changed g c (x ∷ cs) h k o = go (x == c) refl (changed g c cs h.1 k)
      where
        after : (a b : Bool) → b ≡ true → (a || b) ≡ true
        after true b q = refl
        after false b q = q

        itself : (n : ℕ) → (n == n) ≡ true
        itself n = grind (arith, nat_tests)

        later : (m n l : ℕ) → (m == n) ≡ true → m < l → (n == l) ≡ false
        later m n l e q = grind (arith, nat_tests)

        turned : (m n : ℕ) → (m == n) ≡ false → (n == m) ≡ false
        turned m n e = grind (arith, nat_tests)

        go : (b : Bool) → (x == c) ≡ b → (((e : ℕ) → has cs e ≡ true → (c == e) ≡ false → context_at places is ts e ≡ context_at places js us e) → with_found (is_of_context c) g (map (context_at places is ts) cs) ≡ map (context_at places js us) cs) → cond b (g (context_at places is ts x) ∷ map (context_at places is ts) cs) (context_at places is ts x ∷ with_found (is_of_context c) g (map (context_at places is ts) cs)) ≡ context_at places js us x ∷ map (context_at places js us) cs
        go true e again =
            let same : x ≡ c = equal_of x c e in
            let first : g (context_at places is ts x) ≡ context_at places js us x = subst (λ (n : ℕ). g (context_at places is ts n) ≡ context_at places js us n) (sym same) k in
            ap (λ y. y ∷ map (context_at places is ts) cs) first ∙ ap (λ rest. context_at places js us x ∷ rest) (map_same (context_at places is ts) (context_at places js us) cs (λ d q. o d (after (x == d) (has cs d) q) (later x c d e (h.0 d q))))
        go false e again =
            let first : context_at places is ts x ≡ context_at places js us x = o x (rw (itself x) refl) (turned x c e) in
            ap (λ y. y ∷ with_found (is_of_context c) g (map (context_at places is ts) cs)) first ∙ ap (λ rest. context_at places js us x ∷ rest) (again (λ d q. o d (after (x == d) (has cs d) q)))

    -- the one of this number is gone
    pub shut : (c : ℕ) (cs : List ℕ) → ((e : ℕ) → (c == e) ≡ false → context_at places is ts e ≡ context_at places js us e) → filter (λ (x : SubContextView). not (x.ctx == c)) (map (context_at places is ts) cs) ≡ map (context_at places js us) (without cs c)
    shut c [] o = refl
    shut c (x ∷ cs) o = go (x == c) refl (shut c cs o)
      where
        turned : (m n : ℕ) → (m == n) ≡ false → (n == m) ≡ false
        turned m n e = grind (arith, nat_tests)

        go : (b : Bool) → (x == c) ≡ b → filter (λ (x : SubContextView). not (x.ctx == c)) (map (context_at places is ts) cs) ≡ map (context_at places js us) (without cs c)
            → cond (not b) (context_at places is ts x ∷ filter (λ (x : SubContextView). not (x.ctx == c)) (map (context_at places is ts) cs)) (filter (λ (x : SubContextView). not (x.ctx == c)) (map (context_at places is ts) cs)) ≡ map (context_at places js us) (cond (not b) (x ∷ without cs c) (without cs c))
        go true e again = again
        go false e again = ap (λ y. y ∷ filter (λ (x : SubContextView). not (x.ctx == c)) (map (context_at places is ts) cs)) (o x (turned x c e)) ∙ ap (λ rest. context_at places js us x ∷ rest) again

    -- those below this number were changed, and no others
    pub stopped : (f : SubContextView → SubContextView) (c : ℕ) (cs : List ℕ) (done rest : List SubContextView) (at : SubContextView) → IsRising cs → map (context_at places is ts) cs ≡ done ++ at ∷ rest → at.ctx ≡ c
        → ((e : ℕ) → has cs e ≡ true → e < c → f (context_at places is ts e) ≡ context_at places js us e) → ((e : ℕ) → has cs e ≡ true → c ≤ e → context_at places is ts e ≡ context_at places js us e) → map f done ++ at ∷ rest ≡ map (context_at places js us) cs
    stopped f c [] [] rest at r e k low high = absurd cc
    stopped f c [] (d ∷ done) rest at r e k low high = absurd cc
    stopped f c (x ∷ cs) [] rest at r e k low high =
        let same : x ≡ c = ap (λ (y : SubContextView). y.ctx) (tail_is _ _ _ _ e).0 ∙ k in
        sym e ∙ map_same (context_at places is ts) (context_at places js us) (x ∷ cs) (λ d q. high d q (least d (x == d) refl q same))
      where
        least : (d : ℕ) (b : Bool) → (x == d) ≡ b → (b || has cs d) ≡ true → x ≡ c → c ≤ d
        least d true g q s = let is = equal_of x d g in omega (arith, is, s)
        least d false g q s = let more = r.0 d q in omega (arith, more, s)
    stopped f c (x ∷ cs) (d ∷ done) rest at r e k low high =
        let parted = tail_is _ _ _ _ e in
        let under : x < c = r.0 c (stands c cs done rest at parted.1 k) in
        let first : f d ≡ context_at places js us x = ap f (sym parted.0) ∙ low x (rw (itself x) refl) under in
        ap (λ y. y ∷ map f done ++ at ∷ rest) first ∙ ap (λ ys. context_at places js us x ∷ ys) (stopped f c cs done rest at r.1 parted.1 k (λ n q. low n (after (x == n) (has cs n) q)) (λ n q. high n (after (x == n) (has cs n) q)))
      where
        itself : (n : ℕ) → (n == n) ≡ true
        itself n = grind (arith, nat_tests)

        after : (a b : Bool) → b ≡ true → (a || b) ≡ true
        after true b q = refl
        after false b q = q

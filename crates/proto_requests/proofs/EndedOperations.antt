-- Operations whose requests end: those that are found by their contexts, and that each of them is looked at.
use Rattle.std.proofs.Common.{◌≡◌, refl, ap, sym, ◌∙◌, List, [], ◌∷◌, ℕ, ◌+◌, ◌<◌, Bool, true, false, cond, arith, Option, Some, None, map, length, filter, drop}
use Rattle.std.specs.Prelude.{⊤, not, find, ◌||◌, ◌&&◌, ◌==◌}
use Rattle.std.specs.List.{list_any, position, position_or_len}
use Rattle.std.specs.Option.{option_map}
use Rattle.sp_base.specs.declared.OpName.{OpName}
use Rattle.sp_history.specs.Lists.{has, head_of, same_op}
use Rattle.sp_history.specs.Once.{AreDistinct}
use Rattle.sp_history.proofs.OnceHolds.{same_op-slot}
use Rattle.proto_requests.specs.declared.spots.Spot.{Spot}
use Rattle.proto_requests.specs.Backlogs.{is_of, IsIndexed}
use Rattle.proto_requests.specs.FirstFound.{with_found}
use Rattle.proto_requests.specs.Hints.{HintsView, covers_by}
use Rattle.proto_requests.specs.Spots.{any_in, holds, with_value, held}
use Rattle.proto_requests.specs.Waits.{is_named, slot_of, isnt, is_open, is_kind_on, left_on, left_spot, over_name, is_overlooked, IsOver, AreApartOn}
use Rattle.proto_requests.proofs.Backlogged.{any_has}
use Rattle.proto_requests.proofs.FirstPlaces.{none_as}
use Rattle.proto_requests.proofs.KnownOperations.{any_kind}
use Rattle.proto_requests.proofs.Spotted.{any_held}
use Rattle.proto_requests.proofs.TestValues.{both_false, equal_of, same_number, some_inj, turned}

-- ---- At most one passes a test

-- after an element that passes the test no other passes it
abbrev pub AtMostOne : {A : Type 0} → (A → Bool) → List A → Type 0
AtMostOne P [] = ⊤
AtMostOne P (x ∷ xs) = (P x ≡ true → list_any P xs ≡ false) × AtMostOne P xs

module _ {A : Type 0} (f : A → A) where
  -- what passes neither test stays as it is
  neither : (P Q : A → Bool) (xs : List A) → ((x : A) → P x ≡ false → Q x ≡ false → f x ≡ x) → list_any P xs ≡ false → list_any Q xs ≡ false → xs ≡ map f xs
  neither P Q [] k h g = refl
  neither P Q (x ∷ xs) k h g =
      let a = both_false (P x) (list_any P xs) h in
      let b = both_false (Q x) (list_any Q xs) g in
      ap (λ (y : A). y ∷ xs) (sym (k x a.0 b.0)) ∙ ap (λ (l : List A). f x ∷ l) (neither P Q xs k a.1 b.1)

  one : (P Q : A → Bool) (xs : List A) → ((x : A) → P x ≡ false → Q x ≡ false → f x ≡ x) → AtMostOne P xs → list_any Q xs ≡ false → with_found P f xs ≡ map f xs
  one P Q [] k m g = refl
  one P Q (x ∷ xs) k m g = let b = both_false (Q x) (list_any Q xs) g in go (P x) refl b.0 b.1 (one P Q xs k m.1 b.1)
    where
      go : (b : Bool) → P x ≡ b → Q x ≡ false → list_any Q xs ≡ false → with_found P f xs ≡ map f xs → cond b (f x ∷ xs) (x ∷ with_found P f xs) ≡ f x ∷ map f xs
      go true e n g again = ap (λ (l : List A). f x ∷ l) (neither P Q xs k (m.0 e) g)
      go false e n g again = ap (λ (y : A). y ∷ with_found P f xs) (sym (k x e n)) ∙ ap (λ (l : List A). f x ∷ l) again

  -- the one that passes one test is changed, then the one that passes the other test
  pub both_changed : (P Q : A → Bool) (xs : List A) → ((x : A) → P x ≡ false → Q x ≡ false → f x ≡ x) → ((x : A) → P x ≡ true → Q x ≡ false) → ((x : A) → P x ≡ true → Q (f x) ≡ false) → AtMostOne P xs → AtMostOne Q xs → with_found Q f (with_found P f xs) ≡ map f xs
  both_changed P Q [] k c d m n = refl
  both_changed P Q (x ∷ xs) k c d m n = go (P x) refl (Q x) refl (both_changed P Q xs k c d m.1 n.1)
    where
      go : (a : Bool) → P x ≡ a → (b : Bool) → Q x ≡ b → with_found Q f (with_found P f xs) ≡ map f xs → with_found Q f (cond a (f x ∷ xs) (x ∷ with_found P f xs)) ≡ f x ∷ map f xs
      go true e b g again = ap (λ b. cond b (f (f x) ∷ xs) (f x ∷ with_found Q f xs)) (d x e) ∙ ap (λ (l : List A). f x ∷ l) (one Q P xs (λ y a b. k y b a) n.1 (m.0 e))
      go false e true g again = ap (λ b. cond b (f x ∷ with_found P f xs) (x ∷ with_found Q f (with_found P f xs))) g ∙ ap (λ (l : List A). f x ∷ l) (one P Q xs k m.1 (n.0 g))
      go false e false g again =
          ap (λ b. cond b (f x ∷ with_found P f xs) (x ∷ with_found Q f (with_found P f xs))) g ∙ ap (λ (y : A). y ∷ with_found Q f (with_found P f xs)) (sym (k x e g)) ∙ ap (λ (l : List A). f x ∷ l) again

  long_with : (P : A → Bool) (xs : List A) → length (with_found P f xs) ≡ length xs
  long_with P [] = refl
  long_with P (x ∷ xs) = go (P x) (long_with P xs)
    where
      go : (b : Bool) → length (with_found P f xs) ≡ length xs → length (cond b (f x ∷ xs) (x ∷ with_found P f xs)) ≡ length (x ∷ xs)
      go true h = refl
      go false h = omega (arith, h)

  place_with : (P Q : A → Bool) (xs : List A) → ((x : A) → P x ≡ true → Q x ≡ false) → ((x : A) → P x ≡ true → Q (f x) ≡ false) → position_or_len Q (with_found P f xs) ≡ position_or_len Q xs
  place_with P Q [] c d = refl
  place_with P Q (x ∷ xs) c d = go (P x) refl (place_with P Q xs c d)
    where
      go : (b : Bool) → P x ≡ b → position_or_len Q (with_found P f xs) ≡ position_or_len Q xs → position_or_len Q (cond b (f x ∷ xs) (x ∷ with_found P f xs)) ≡ position_or_len Q (x ∷ xs)
      go true e h = ap (λ b. cond (not b) (1 + position_or_len Q xs) 0) (d x e) ∙ sym (ap (λ b. cond (not b) (1 + position_or_len Q xs) 0) (c x e))
      go false e h = ap (λ n. cond (not (Q x)) (1 + n) 0) h

  -- the place of another one stays the same
  pub place_kept : (P Q : A → Bool) (xs : List A) → ((x : A) → P x ≡ true → Q x ≡ false) → ((x : A) → P x ≡ true → Q (f x) ≡ false) → position Q (with_found P f xs) ≡ position Q xs
  place_kept P Q xs c d = rw (place_with P Q xs c d, long_with P xs) refl

-- what is found is covered, and so each that passes the test
pub covered : {A : Type 0} (P C : A → Bool) (xs : List A) → AtMostOne P xs → ((x : A) → find P xs ≡ Some x → C x ≡ true) → list_any (λ x. P x && not (C x)) xs ≡ false
covered P C [] m k = refl
covered P C (x ∷ xs) m k = go (P x) refl k (covered P C xs m.1)
  where
    go : (b : Bool) → P x ≡ b → ((y : _) → cond b (Some x) (find P xs) ≡ Some y → C y ≡ true) → (((y : _) → find P xs ≡ Some y → C y ≡ true) → list_any (λ x. P x && not (C x)) xs ≡ false) → (b && not (C x) || list_any (λ x. P x && not (C x)) xs) ≡ false
    go true e k again = ap (λ b. not b || list_any (λ x. P x && not (C x)) xs) (k x refl) ∙ none_as P (λ x. P x && not (C x)) xs (λ y h. first (P y) (not (C y)) h) (m.0 e)
      where
        first : (a b : Bool) → (a && b) ≡ true → a ≡ true
        first true b h = refl
        first false b h = h
    go false e k again = again k

-- ---- Of some kind, on a context

module _ {A : Type 0} (context : A → ℕ) (R : A → Bool) (c : ℕ) where
  pub at_most : (xs : List A) → AreDistinct (map context (filter R xs)) → AtMostOne (λ x. R x && (context x == c)) xs
  at_most [] h = tt
  at_most (x ∷ xs) h = go (R x) h (at_most xs)
    where
      here : has (map context (filter R xs)) (context x) ≡ false → (context x == c) ≡ true → list_any (λ x. R x && (context x == c)) xs ≡ false
      here h e = sym (any_kind context R c xs) ∙ sym (any_has context (filter R xs) c) ∙ ap (has (map context (filter R xs))) (sym (equal_of (context x) c e)) ∙ h

      go : (b : Bool) → AreDistinct (map context (cond b (x ∷ filter R xs) (filter R xs))) → (AreDistinct (map context (filter R xs)) → AtMostOne (λ x. R x && (context x == c)) xs) → ((b && (context x == c)) ≡ true → list_any (λ x. R x && (context x == c)) xs ≡ false) × AtMostOne (λ x. R x && (context x == c)) xs
      go true h again = (λ e. here h.0 e, again h.1)
      go false h again = (λ e. absurd cc, again h)

pub at_most_spots : {A : Type 0} (P : A → Bool) (ss : List (Spot A)) → AtMostOne P (held ss) → AtMostOne (holds P) ss
at_most_spots P [] m = tt
at_most_spots P (s ∷ ss) m = go s.value m (at_most_spots P ss)
  where
    go : (v : Option _) → AtMostOne P (with_value v (held ss)) → (AtMostOne P (held ss) → AtMostOne (holds P) ss) → (any_in P v ≡ true → list_any (holds P) ss ≡ false) × AtMostOne (holds P) ss
    go None m again = (λ e. absurd cc, again m)
    go (Some x) m again = (λ e. any_held P ss ∙ m.0 e, again m.1)

-- ---- Requests end

module _ {A : Type 0} (name : A → OpName) (context : A → ℕ) (sends is_left : A → Bool) (left : A → A) (same : (x : A) → (name (left x) ≡ name x) × (context (left x) ≡ context x) × (sends (left x) ≡ sends x)) (again : (x : A) → is_left x ≡ true → left x ≡ x) (c : ℕ) where
  abbrev P : A → Bool
  P = is_kind_on sends is_left context false c

  abbrev Q : A → Bool
  Q = is_kind_on sends is_left context true c

  abbrev F : Spot A → Spot A
  F = left_spot context left c

  stays : (s : Spot A) → holds P s ≡ false → holds Q s ≡ false → F s ≡ s
  stays s h k = ap (λ (v : Option A). record { number = s.number; value = v }) (go s.value h k)
    where
      at : (x : A) (a : Bool) → sends x ≡ a → (b : Bool) → is_left x ≡ b → (e : Bool) → (context x == c) ≡ e → (not a && e) ≡ false → ((a && not b) && e) ≡ false → cond e (left x) x ≡ x
      at x false i b j true l h k = absurd cc
      at x true i false j true l h k = absurd cc
      at x true i true j true l h k = again x j
      at x a i b j false l h k = refl

      go : (v : Option A) → any_in P v ≡ false → any_in Q v ≡ false → option_map (left_on context left c) v ≡ v
      go None h k = refl
      go (Some x) h k = ap (λ (y : A). Some y) (ap (λ b. cond b (left x) x) (turned (context x) c (context x == c) refl) ∙ at x (sends x) refl (is_left x) refl (context x == c) refl h k)

  isnt_both : (x : A) → P x ≡ true → Q x ≡ false
  isnt_both x = go (sends x)
    where
      go : (a : Bool) → (not a && (context x == c)) ≡ true → ((a && not (is_left x)) && (context x == c)) ≡ false
      go true h = absurd cc
      go false h = refl

  isnt_then : (x : A) → P x ≡ true → Q (left_on context left c x) ≡ false
  isnt_then x h = go (c == context x)
    where
      receives : (a : Bool) → (not a && (context x == c)) ≡ true → a ≡ false
      receives true h = absurd cc
      receives false h = refl

      still : (b : Bool) → sends (cond b (left x) x) ≡ false
      still true = (same x).2 ∙ receives (sends x) h
      still false = receives (sends x) h

      go : (b : Bool) → ((sends (cond b (left x) x) && not (is_left (cond b (left x) x))) && (context (cond b (left x) x) == c)) ≡ false
      go b = rw (still b) refl

  in_spots : (R S : A → Bool) (g : A → A) → ((x : A) → R x ≡ true → S (g x) ≡ false) → (v : Option A) → any_in R v ≡ true → any_in S (option_map g v) ≡ false
  in_spots R S g k None h = absurd cc
  in_spots R S g k (Some x) h = k x h

  same_spots : (v : Option A) → any_in P v ≡ true → any_in Q v ≡ false
  same_spots None h = absurd cc
  same_spots (Some x) h = isnt_both x h

  -- the receive and the send of the context are all that is left behind
  pub left_two : (receives opens : List (ℕ × ℕ)) (ss ts us : List (Spot A)) → AreApartOn context sends is_left receives opens ss → ts ≡ with_found (holds P) F ss → us ≡ with_found (holds Q) F ts → us ≡ map F ss
  left_two receives opens ss ts us h e k =
      k ∙ ap (with_found (holds Q) F) e
      ∙ both_changed F (holds P) (holds Q) ss stays (λ s. same_spots s.value) (λ s. in_spots P Q (left_on context left c) isnt_then s.value) (at_most_spots P ss (at_most context (isnt sends) c (held ss) h.0.1)) (at_most_spots Q ss (at_most context (is_open sends is_left) c (held ss) h.1.1))

  -- the place of the send is the same when the receive was left behind
  pub send_stays : (ss ts : List (Spot A)) → ts ≡ with_found (holds P) F ss → position (holds Q) ts ≡ position (holds Q) ss
  send_stays ss ts e = ap (position (holds Q)) e ∙ place_kept F (holds P) (holds Q) ss (λ s. same_spots s.value) (λ s. in_spots P Q (left_on context left c) isnt_then s.value)

  -- each of them is looked at
  pub left_noted : (h g : HintsView OpName) (receives opens : List (ℕ × ℕ)) (ss us : List (Spot A)) → AreApartOn context sends is_left receives opens ss → us ≡ map F ss
      → held us ≡ map (left_on context left c) (held ss)
      → ((x : A) → find P (held ss) ≡ Some x → covers_by g (same_op (name x)) ≡ true) → ((x : A) → find Q (held ss) ≡ Some x → covers_by g (same_op (name x)) ≡ true) → ((R : OpName → Bool) → covers_by h R ≡ true → covers_by g R ≡ true)
      → list_any (is_overlooked name is_left h) (held ss) ≡ false → list_any (is_overlooked name is_left g) (held us) ≡ false
  left_noted h g receives opens ss us a e f p q m o =
      ap (list_any (is_overlooked name is_left g)) f
      ∙ go (held ss) o (covered P C (held ss) (at_most context (isnt sends) c (held ss) a.0.1) p) (covered Q C (held ss) (at_most context (is_open sends is_left) c (held ss) a.1.1) q)
    where
      C : A → Bool
      C x = covers_by g (same_op (name x))

      -- one of them
      here : (x : A) → (is_left x && not (covers_by h (same_op (name x)))) ≡ false → (P x && not (C x)) ≡ false → (Q x && not (C x)) ≡ false → is_overlooked name is_left g (left_on context left c x) ≡ false
      here x i j k = step (c == context x) refl
        where
          seen : (a : Bool) → is_left x ≡ a → (a && not (covers_by h (same_op (name x)))) ≡ false → a ≡ true → C x ≡ true
          seen false e i b = absurd cc
          seen true e i b = m (same_op (name x)) (is_true (covers_by h (same_op (name x))) i)
            where
              is_true : (b : Bool) → not b ≡ false → b ≡ true
              is_true true h = refl
              is_true false h = absurd cc

          old : (a : Bool) → is_left x ≡ a → (a && not (C x)) ≡ false
          old false e = refl
          old true e = ap not (seen (is_left x) refl i e)

          all : (s l : Bool) → sends x ≡ s → is_left x ≡ l → (context x == c) ≡ true → C x ≡ true
          all false l e f on = is_true (C x) (sym (ap (λ b. (not b && (context x == c)) && not (C x)) e ∙ ap (λ b. (true && b) && not (C x)) on) ∙ j)
            where
              is_true : (b : Bool) → not b ≡ false → b ≡ true
              is_true true h = refl
              is_true false h = absurd cc
          all true false e f on = is_true (C x) (sym (ap (λ b. ((b && not (is_left x)) && (context x == c)) && not (C x)) e ∙ ap (λ b. ((true && not b) && (context x == c)) && not (C x)) f ∙ ap (λ b. b && not (C x)) on) ∙ k)
            where
              is_true : (b : Bool) → not b ≡ false → b ≡ true
              is_true true h = refl
              is_true false h = absurd cc
          all true true e f on = seen (is_left x) refl i f

          shut : (b : Bool) → (b && false) ≡ false
          shut true = refl
          shut false = refl

          step : (b : Bool) → (c == context x) ≡ b → is_overlooked name is_left g (cond b (left x) x) ≡ false
          step false e = old (is_left x) refl
          step true e =
              let it : C x ≡ true = all (sends x) (is_left x) refl refl (turned c (context x) true e) in
              ap (λ (n : OpName). is_left (left x) && not (covers_by g (same_op n))) (same x).0 ∙ ap (λ b. is_left (left x) && not b) it ∙ shut (is_left (left x))

      go : (xs : List A) → list_any (is_overlooked name is_left h) xs ≡ false → list_any (λ x. P x && not (C x)) xs ≡ false → list_any (λ x. Q x && not (C x)) xs ≡ false → list_any (is_overlooked name is_left g) (map (left_on context left c) xs) ≡ false
      go [] i j k = refl
      go (x ∷ xs) i j k =
          let u = both_false (is_overlooked name is_left h x) (list_any (is_overlooked name is_left h) xs) i in
          let v = both_false (P x && not (C x)) (list_any (λ x. P x && not (C x)) xs) j in
          let w = both_false (Q x && not (C x)) (list_any (λ x. Q x && not (C x)) xs) k in
          ap (λ b. b || list_any (is_overlooked name is_left g) (map (left_on context left c) xs)) (here x u.0 v.0 w.0) ∙ go xs u.1 v.1 w.1

-- ---- By its name

module _ {A : Type 0} (name : A → OpName) where
  -- the one with a name is the only one
  its_slot : (op : OpName) (xs : List A) → list_any (is_of (slot_of name) op.slot) xs ≡ false → list_any (is_named name op) xs ≡ false
  its_slot op xs h = none_as (is_of (slot_of name) op.slot) (is_named name op) xs (λ x k. ap (λ n. n == op.slot) (same_op-slot (name x) op k) ∙ same_number op.slot) h

  pub none_named : (known : ℕ → Bool) (op : OpName) (ss : List (Spot A)) → IsIndexed (slot_of name) known (held ss) → known op.slot ≡ false → list_any (holds (is_named name op)) ss ≡ false
  none_named known op ss h e = any_held (is_named name op) ss ∙ its_slot op (held ss) (sym (h.0 op.slot) ∙ e)

  only_named : (op : OpName) (xs : List A) → AreDistinct (map (slot_of name) xs) → AtMostOne (is_named name op) xs
  only_named op [] h = tt
  only_named op (x ∷ xs) h = (λ e. its_slot op xs (sym (any_has (slot_of name) xs op.slot) ∙ ap (has (map (slot_of name) xs)) (sym (same_op-slot (name x) op e)) ∙ h.0), only_named op xs h.1)

found_passes : {A : Type 0} (P : A → Bool) (xs : List A) (x : A) → find P xs ≡ Some x → P x ≡ true
found_passes P [] x h = absurd cc
found_passes P (y ∷ xs) x h = go (P y) refl h (found_passes P xs x)
  where
    go : (b : Bool) → P y ≡ b → cond b (Some y) (find P xs) ≡ Some x → (find P xs ≡ Some x → P x ≡ true) → P x ≡ true
    go true e h again = ap P (sym (some_inj y x h)) ∙ e
    go false e h again = again h

-- ---- The first of a list

pub no_head : {A : Type 0} (xs : List A) → None ≡ head_of xs → xs ≡ []
no_head [] e = refl
no_head (x ∷ xs) e = absurd cc

pub shorter : {A : Type 0} (x : A) (xs : List A) → Some x ≡ head_of xs → length (drop 1 xs) < length xs
shorter x [] e = absurd cc
shorter x (y ∷ xs) e = omega arith

-- ---- Those that are looked at

module _ {A : Type 0} (name : A → OpName) (is_left : A → Bool) where
  -- none is overlooked where all are looked at
  pub all_seen : (h : HintsView OpName) (xs : List A) → h.whole ≡ false → list_any (is_overlooked name is_left h) xs ≡ false
  all_seen h xs e = go xs
    where
      shut : (b : Bool) → (b && not true) ≡ false
      shut true = refl
      shut false = refl

      go : (xs : List A) → list_any (is_overlooked name is_left h) xs ≡ false
      go [] = refl
      go (x ∷ xs) = ap (λ b. (is_left x && not (not b || list_any (same_op (name x)) h.items)) || list_any (is_overlooked name is_left h) xs) e ∙ ap (λ b. b || list_any (is_overlooked name is_left h) xs) (shut (is_left x)) ∙ go xs

  -- more are looked at
  pub more_seen : (h g : HintsView OpName) (xs : List A) → ((R : OpName → Bool) → covers_by h R ≡ true → covers_by g R ≡ true) → list_any (is_overlooked name is_left h) xs ≡ false → list_any (is_overlooked name is_left g) xs ≡ false
  more_seen h g xs m o = none_as (is_overlooked name is_left h) (is_overlooked name is_left g) xs (λ x k. narrow (is_left x) (covers_by h (same_op (name x))) (covers_by g (same_op (name x))) (m (same_op (name x))) k) o
    where
      narrow : (a c d : Bool) → (c ≡ true → d ≡ true) → (a && not d) ≡ true → (a && not c) ≡ true
      narrow false c d k h = h
      narrow true false d k h = refl
      narrow true true d k h = let bad : true ≡ false = sym h ∙ ap not (k refl) in absurd cc

  pub it_seen : (h : HintsView OpName) (x : A) → (is_left x ≡ true → covers_by h (same_op (name x)) ≡ true) → is_overlooked name is_left h x ≡ false
  it_seen h x k = go (is_left x) k
    where
      go : (b : Bool) → (b ≡ true → covers_by h (same_op (name x)) ≡ true) → (b && not (covers_by h (same_op (name x)))) ≡ false
      go true k = ap not (k refl)
      go false k = refl

  -- nor where no request has ended
  pub none_over : (h : HintsView OpName) (xs : List A) → list_any is_left xs ≡ false → list_any (is_overlooked name is_left h) xs ≡ false
  none_over h xs e = none_as is_left (is_overlooked name is_left h) xs (λ x k. first (is_left x) (not (covers_by h (same_op (name x)))) k) e
    where
      first : (a b : Bool) → (a && b) ≡ true → a ≡ true
      first true b h = refl
      first false b h = h

  -- none is left to be looked at
  pub over_none : (h : HintsView OpName) (xs : List A) → h.whole ≡ true → None ≡ head_of h.items → list_any (is_overlooked name is_left h) xs ≡ false → list_any is_left xs ≡ false
  over_none h xs e f o = none_as (is_overlooked name is_left h) is_left xs (λ x k. rw (e, no_head h.items f, k) refl) o

  -- the one of the name is not one whose request has ended
  not_over : (op : OpName) (xs : List A) → AtMostOne (is_named name op) xs → None ≡ over_name name is_left (find (is_named name op) xs) → list_any (λ x. is_named name op x && not (not (is_left x))) xs ≡ false
  not_over op xs m e = covered (is_named name op) (λ x. not (is_left x)) xs m (λ x f. it x (is_left x) (e ∙ ap (over_name name is_left) f))
    where
      it : (x : A) (b : Bool) → None ≡ cond {A = Option OpName} b (Some (name x)) None → not b ≡ true
      it x true k = absurd cc
      it x false k = refl

  -- it is no longer looked at
  pub dropped_over : (h g : HintsView OpName) (op : OpName) (xs : List A) → AreDistinct (map (slot_of name) xs) → Some op ≡ head_of h.items → g ≡ record { whole = h.whole; items = drop 1 h.items } → None ≡ over_name name is_left (find (is_named name op) xs)
      → list_any (is_overlooked name is_left h) xs ≡ false → list_any (is_overlooked name is_left g) xs ≡ false
  dropped_over h g op xs d e f n o = rw f (all xs o (not_over op xs (only_named name op xs d) n))
    where
      it : (w l a b s : Bool) → (l && not (not w || (a || b))) ≡ false → (s && not (not l)) ≡ false → (a ≡ true → s ≡ true) → (l && not (not w || b)) ≡ false
      it w false a b s h k q = refl
      it w true false b s h k q = h
      it w true true b s h k q = let bad : false ≡ true = sym k ∙ ap (λ v. v && not (not true)) (q refl) in absurd cc

      here : (is : List OpName) → Some op ≡ head_of is → (x : A) → (is_left x && not (not h.whole || list_any (same_op (name x)) is)) ≡ false → (is_named name op x && not (not (is_left x))) ≡ false → (is_left x && not (not h.whole || list_any (same_op (name x)) (drop 1 is))) ≡ false
      here [] q x i j = absurd cc
      here (n ∷ is) q x i j = it h.whole (is_left x) (same_op (name x) n) (list_any (same_op (name x)) is) (is_named name op x) i j (λ k. ap (same_op (name x)) (some_inj op n q) ∙ k)

      all : (xs : List A) → list_any (is_overlooked name is_left h) xs ≡ false → list_any (λ x. is_named name op x && not (not (is_left x))) xs ≡ false → list_any (is_overlooked name is_left (record { whole = h.whole; items = drop 1 h.items })) xs ≡ false
      all [] o k = refl
      all (x ∷ xs) o k =
          let u = both_false (is_overlooked name is_left h x) (list_any (is_overlooked name is_left h) xs) o in
          let v = both_false (is_named name op x && not (not (is_left x))) (list_any (λ x. is_named name op x && not (not (is_left x))) xs) k in
          ap (λ b. b || list_any (is_overlooked name is_left (record { whole = h.whole; items = drop 1 h.items })) xs) (here h.items e x u.0 v.0) ∙ all xs u.1 v.1

  -- the one that was looked at
  pub is_over_named : (op found : OpName) (xs : List A) → Some found ≡ over_name name is_left (find (is_named name op) xs) → IsOver name is_left xs found
  is_over_named op found xs e = go (find (is_named name op) xs) refl e
    where
      some_name : (a b : OpName) → Some a ≡ Some b → b ≡ a
      some_name a b q = cc

      at : (x : A) → find (is_named name op) xs ≡ Some x → (b : Bool) → is_left x ≡ b → Some found ≡ cond {A = Option OpName} b (Some (name x)) None → IsOver name is_left xs found
      at x f true k e = (is_named name op, x, f, k, some_name found (name x) e)
      at x f false k e = absurd cc

      go : (o : Option A) → find (is_named name op) xs ≡ o → Some found ≡ over_name name is_left o → IsOver name is_left xs found
      go None f e = absurd cc
      go (Some x) f e = at x f (is_left x) refl e

  -- the one that was searched for
  pub is_over_found : (found : OpName) (xs : List A) → Some found ≡ option_map name (find is_left xs) → IsOver name is_left xs found
  is_over_found found xs e = go (find is_left xs) refl e
    where
      some_name : (a b : OpName) → Some a ≡ Some b → b ≡ a
      some_name a b q = cc

      go : (o : Option A) → find is_left xs ≡ o → Some found ≡ option_map name o → IsOver name is_left xs found
      go None f e = absurd cc
      go (Some x) f e = (is_left, x, f, found_passes is_left xs x f, some_name found (name x) e)

  pub none_found : (xs : List A) → None ≡ option_map name (find is_left xs) → list_any is_left xs ≡ false
  none_found [] e = refl
  none_found (x ∷ xs) e = go (is_left x) e (none_found xs)
    where
      go : (b : Bool) → None ≡ option_map name (cond b (Some x) (find is_left xs)) → (None ≡ option_map name (find is_left xs) → list_any is_left xs ≡ false) → (b || list_any is_left xs) ≡ false
      go true e again = absurd cc
      go false e again = again e

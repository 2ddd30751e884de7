-- Elements of lists.
use Rattle.std.proofs.Common.{◌≡◌, subst, List, [], ◌∷◌, ◌++◌, suc, Bool, true, false, cond, arith, Some, inl, inr}
use Rattle.std.specs.Prelude.{filter, find, Contains}
use Rattle.aio_word.specs.Views.{Stands}
use Rattle.sp_base.specs.declared.OpName.{OpName}
use Rattle.sp_history.specs.declared.parts.Begun.{Begun}
use Rattle.sp_history.specs.Past.{is_of}

-- ---- Elements

module _ {A : Type 0} where
  pub stands-more : (xs ys : List A) (x : A) → Stands x ys → Stands x (xs ++ ys)
  stands-more [] ys x h = h
  stands-more (w ∷ xs) ys x h = inr (stands-more xs ys x h)

  pub contains : (xs : List A) (x : A) → Stands x xs → Contains xs x
  contains [] x h = absurd h
  contains (w ∷ xs) x (inl e) = (0, omega arith, e)
  contains (w ∷ xs) x (inr h) = let k = contains xs x h in (suc k.0, omega (arith, k.1), k.2)

  abbrev pub Every : (A → Type 0) → List A → Type 0
  Every P xs = (x : A) → Stands x xs → P x

  pub every-append : (P : A → Type 0) (xs ys : List A) → Every P xs → Every P ys → Every P (xs ++ ys)
  every-append P [] ys h k x s = k x s
  every-append P (w ∷ xs) ys h k x (inl e) = h x (inl e)
  every-append P (w ∷ xs) ys h k x (inr s) = every-append P xs ys (λ y m. h y (inr m)) k x s

  pub every-filter : (P : A → Type 0) (p : A → Bool) (xs : List A) → Every P xs → Every P (filter p xs)
  every-filter P p [] h x s = absurd s
  every-filter P p (w ∷ xs) h x s = go (p w) s (every-filter P p xs (λ y n. h y (inr n)) x)
    where
      go : (b : Bool) → Stands x (cond b (w ∷ filter p xs) (filter p xs)) → (Stands x (filter p xs) → P x) → P x
      go true (inl e) again = h x (inl e)
      go true (inr m) again = again m
      go false m again = again m

  pub every-one : (P : A → Type 0) (a : A) → P a → Every P (a ∷ [])
  every-one P a h x (inl e) = subst P e h
  every-one P a h x (inr s) = absurd s

-- what is found is there
pub find-stands : (ss : List Begun) (op : OpName) (s : Begun) → find (is_of op) ss ≡ Some s → Stands s ss
find-stands [] op s h = absurd cc
find-stands (r ∷ ss) op s h = go (is_of op r) h (find-stands ss op s)
  where
    go : (b : Bool) → cond b (Some r) (find (is_of op) ss) ≡ Some s → (find (is_of op) ss ≡ Some s → Stands s ss) → Stands s (r ∷ ss)
    go true h again = let same : r ≡ s = cc in inl same
    go false h again = inr (again h)

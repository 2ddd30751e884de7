-- Changes of the live surveys, as lists.
use Rattle.std.proofs.Common.{◌≡◌, refl, ap, sym, ◌∙◌, subst, List, [], ◌∷◌, ◌++◌, ℕ, Bool, true, false, cond, arith, Some, map, length}
use Rattle.std.specs.Prelude.{find, filter, not, is_some, ◌&&◌, ◌||◌, ◌==◌}
use Rattle.std.specs.List.{list_any}
use Rattle.std.specs.Option.{option_map}
use Rattle.std.proofs.lemmas.Bool.Decides.{nat_tests}
use Rattle.sp_history.specs.declared.parts.LiveRequest.{LiveRequest}
use Rattle.sp_history.specs.Lists.{has}
use Rattle.sp_history.specs.Once.{AreDistinct}
use Rattle.sp_history.specs.Requests.{is_on, has_id}
use Rattle.sp_history.proofs.Asking.{has_one}
use Rattle.proto_requests.specs.FirstFound.{with_found}
use Rattle.proto_survey.specs.Lives.{SurveyView, survey_of, survey_ctx, survey_id, is_live_on}
use Rattle.proto_survey.specs.Surveys.{without_live}

pub equal_of : (m n : ℕ) → (m == n) ≡ true → m ≡ n
equal_of m n h = grind (arith, nat_tests)

pub same_number : (n : ℕ) → (n == n) ≡ true
same_number n = grind (arith, nat_tests)

pub turned : (m n : ℕ) (b : Bool) → (m == n) ≡ b → (n == m) ≡ b
turned m n true h = grind (arith, nat_tests)
turned m n false h = grind (arith, nat_tests)

-- ---- Some are left

pub filter_like : {A : Type 0} (P Q : A → Bool) → ((x : A) → P x ≡ Q x) → (xs : List A) → filter P xs ≡ filter Q xs
filter_like P Q h [] = refl
filter_like P Q h (x ∷ xs) = ap (λ b. cond b (x ∷ filter P xs) (filter P xs)) (h x) ∙ ap (λ rest. cond (Q x) (x ∷ rest) rest) (filter_like P Q h xs)

-- as the requests of the history
pub filter_of : (P : SurveyView → Bool) (Q : LiveRequest → Bool) → ((r : LiveRequest) → P (survey_of r) ≡ Q r) → (rs : List LiveRequest) → filter P (map survey_of rs) ≡ map survey_of (filter Q rs)
filter_of P Q h [] = refl
filter_of P Q h (r ∷ rs) = ap (λ b. cond b (survey_of r ∷ filter P (map survey_of rs)) (filter P (map survey_of rs))) (h r) ∙ go (Q r) (filter_of P Q h rs)
  where
    go : (b : Bool) → filter P (map survey_of rs) ≡ map survey_of (filter Q rs) → cond b (survey_of r ∷ filter P (map survey_of rs)) (filter P (map survey_of rs)) ≡ map survey_of (cond b (r ∷ filter Q rs) (filter Q rs))
    go true k = ap (λ (rest : List SurveyView). survey_of r ∷ rest) k
    go false k = k

or_right : (a b : Bool) → b ≡ true → (a || b) ≡ true
or_right true b h = refl
or_right false b h = h

absent : (b : Bool) → (b ≡ true → ⊥) → b ≡ false
absent false h = refl
absent true h = absurd (h refl)

has_left : (key : SurveyView → ℕ) (P : SurveyView → Bool) (xs : List SurveyView) (n : ℕ) → has (map key (filter P xs)) n ≡ true → has (map key xs) n ≡ true
has_left key P [] n h = h
has_left key P (x ∷ xs) n h = go (P x) (key x == n) h (has_left key P xs n)
  where
    go : (b it : Bool) → has (map key (cond b (x ∷ filter P xs) (filter P xs))) n ≡ true → (has (map key (filter P xs)) n ≡ true → has (map key xs) n ≡ true) → ((key x == n) || has (map key xs) n) ≡ true
    go true it k again = step (key x == n) k again
      where
        step : (a : Bool) → (a || has (map key (filter P xs)) n) ≡ true → (has (map key (filter P xs)) n ≡ true → has (map key xs) n ≡ true) → (a || has (map key xs) n) ≡ true
        step true k again = refl
        step false k again = again k
    go false it k again = or_right (key x == n) (has (map key xs) n) (again k)

pub hasnt_left : (key : SurveyView → ℕ) (P : SurveyView → Bool) (xs : List SurveyView) (n : ℕ) → has (map key xs) n ≡ false → has (map key (filter P xs)) n ≡ false
hasnt_left key P xs n h = absent (has (map key (filter P xs)) n) (λ k. let bad : true ≡ false = sym (has_left key P xs n k) ∙ h in cc)

pub distinct_left : (key : SurveyView → ℕ) (P : SurveyView → Bool) (xs : List SurveyView) → AreDistinct (map key xs) → AreDistinct (map key (filter P xs))
distinct_left key P [] h = tt
distinct_left key P (x ∷ xs) h = go (P x) (distinct_left key P xs h.1)
  where
    go : (b : Bool) → AreDistinct (map key (filter P xs)) → AreDistinct (map key (cond b (x ∷ filter P xs) (filter P xs)))
    go true k = (hasnt_left key P xs (key x) h.0, k)
    go false k = k

-- ---- One more

pub distinct_more : (key : SurveyView → ℕ) (xs : List SurveyView) (x : SurveyView) → AreDistinct (map key xs) → has (map key xs) (key x) ≡ false → AreDistinct (map key (xs ++ x ∷ []))
distinct_more key [] x h k = (refl, tt)
distinct_more key (y ∷ xs) x h k = (first (key y == key x) refl (has (map key xs) (key x)) k, distinct_more key xs x h.1 (rest (key y == key x) (has (map key xs) (key x)) k))
  where
    rest : (a b : Bool) → (a || b) ≡ false → b ≡ false
    rest true b q = absurd cc
    rest false b q = q

    last : (zs : List SurveyView) → has (map key zs) (key y) ≡ false → (key x == key y) ≡ false → has (map key (zs ++ x ∷ [])) (key y) ≡ false
    last [] p q = rw q refl
    last (z ∷ zs) p q = go (key z == key y) p (last zs)
      where
        go : (b : Bool) → (b || has (map key zs) (key y)) ≡ false → (has (map key zs) (key y) ≡ false → (key x == key y) ≡ false → has (map key (zs ++ x ∷ [])) (key y) ≡ false) → (b || has (map key (zs ++ x ∷ [])) (key y)) ≡ false
        go true r again = absurd cc
        go false r again = again r q

    first : (a : Bool) → (key y == key x) ≡ a → (b : Bool) → (a || b) ≡ false → has (map key (xs ++ x ∷ [])) (key y) ≡ false
    first true e b q = absurd cc
    first false e b q = last xs h.0 (turned (key y) (key x) false e)

-- ---- The one of a context

others_stay : (c : ℕ) (xs : List SurveyView) → has (map survey_ctx xs) c ≡ false → xs ≡ filter (λ (x : SurveyView). not (x.ctx == c)) xs
others_stay c [] h = refl
others_stay c (x ∷ xs) h = go (x.ctx == c) h (others_stay c xs)
  where
    go : (b : Bool) → (b || has (map survey_ctx xs) c) ≡ false → (has (map survey_ctx xs) c ≡ false → xs ≡ filter (λ (x : SurveyView). not (x.ctx == c)) xs) → x ∷ xs ≡ cond (not b) (x ∷ filter (λ (x : SurveyView). not (x.ctx == c)) xs) (filter (λ (x : SurveyView). not (x.ctx == c)) xs)
    go true k again = absurd cc
    go false k again = ap (λ (rest : List SurveyView). x ∷ rest) (again k)

less_is : (c : ℕ) (xs : List SurveyView) → AreDistinct (map survey_ctx xs) → without_live c xs ≡ filter (λ (x : SurveyView). not (x.ctx == c)) xs
less_is c [] h = refl
less_is c (x ∷ xs) h = go (x.ctx == c) refl (less_is c xs h.1)
  where
    go : (b : Bool) → (x.ctx == c) ≡ b → without_live c xs ≡ filter (λ (x : SurveyView). not (x.ctx == c)) xs → cond b xs (x ∷ without_live c xs) ≡ cond (not b) (x ∷ filter (λ (x : SurveyView). not (x.ctx == c)) xs) (filter (λ (x : SurveyView). not (x.ctx == c)) xs)
    go true e k = others_stay c xs (subst (λ n. has (map survey_ctx xs) n ≡ false) (equal_of x.ctx c e) h.0)
    go false e k = ap (λ (rest : List SurveyView). x ∷ rest) k

flip : (c d : ℕ) → (d == c) ≡ has (c ∷ []) d
flip c d = go (d == c) refl ∙ sym (has_one c d)
  where
    go : (b : Bool) → (d == c) ≡ b → b ≡ (c == d)
    go b e = sym (turned d c b e)

-- where no context has two, only that one goes
pub without_is : (c : ℕ) (xs : List SurveyView) → AreDistinct (map survey_ctx xs) → without_live c xs ≡ filter (λ (x : SurveyView). not (has (c ∷ []) x.ctx)) xs
without_is c xs h = less_is c xs h ∙ filter_like (λ (x : SurveyView). not (x.ctx == c)) (λ (x : SurveyView). not (has (c ∷ []) x.ctx)) (λ x. ap not (flip c x.ctx)) xs

pub gone_on : (c : ℕ) (xs : List SurveyView) → has (map survey_ctx (filter (λ (x : SurveyView). not (has (c ∷ []) x.ctx)) xs)) c ≡ false
gone_on c [] = refl
gone_on c (x ∷ xs) = go (has (c ∷ []) x.ctx) refl (gone_on c xs)
  where
    rest : List SurveyView
    rest = filter (λ (x : SurveyView). not (has (c ∷ []) x.ctx)) xs

    go : (b : Bool) → has (c ∷ []) x.ctx ≡ b → has (map survey_ctx rest) c ≡ false → has (map survey_ctx (cond (not b) (x ∷ rest) rest)) c ≡ false
    go true e k = k
    go false e k = rw (flip c x.ctx ∙ e) k

-- ---- Those that are over

module _ (O : SurveyView → Bool) where
  abbrev over_at : List SurveyView → ℕ → Bool
  over_at xs c = list_any (λ (x : SurveyView). (x.ctx == c) && O x) xs

  nowhere : (xs : List SurveyView) (c : ℕ) → has (map survey_ctx xs) c ≡ false → list_any (λ (x : SurveyView). (x.ctx == c) && O x) xs ≡ false
  nowhere [] c h = refl
  nowhere (x ∷ xs) c h = go (x.ctx == c) h (nowhere xs c)
    where
      go : (b : Bool) → (b || has (map survey_ctx xs) c) ≡ false → (has (map survey_ctx xs) c ≡ false → list_any (λ (x : SurveyView). (x.ctx == c) && O x) xs ≡ false) → ((b && O x) || list_any (λ (x : SurveyView). (x.ctx == c) && O x) xs) ≡ false
      go true k again = absurd cc
      go false k again = again k

  beside : (x : SurveyView) (A : ℕ → Bool) (ys : List SurveyView) → has (map survey_ctx ys) x.ctx ≡ false → filter (λ (y : SurveyView). not (A y.ctx)) ys ≡ filter (λ (y : SurveyView). not ((x.ctx == y.ctx) && O x || A y.ctx)) ys
  beside x A [] h = refl
  beside x A (y ∷ ys) h = go (y.ctx == x.ctx) refl h (beside x A ys)
    where
      new : List SurveyView
      new = filter (λ (y : SurveyView). not ((x.ctx == y.ctx) && O x || A y.ctx)) ys

      old : List SurveyView
      old = filter (λ (y : SurveyView). not (A y.ctx)) ys

      go : (b : Bool) → (y.ctx == x.ctx) ≡ b → (b || has (map survey_ctx ys) x.ctx) ≡ false → (has (map survey_ctx ys) x.ctx ≡ false → old ≡ new) → cond (not (A y.ctx)) (y ∷ old) old ≡ cond (not ((x.ctx == y.ctx) && O x || A y.ctx)) (y ∷ new) new
      go true e k again = absurd cc
      go false e k again = ap (λ (l : List SurveyView). cond (not (A y.ctx)) (y ∷ l) l) (again k) ∙ sym (ap (λ q. cond (not (q && O x || A y.ctx)) (y ∷ new) new) (turned y.ctx x.ctx false e))

  -- where no context has two, those that go are those of contexts with one that is over
  pub over_is : (xs : List SurveyView) → AreDistinct (map survey_ctx xs) → filter (λ (x : SurveyView). not (O x)) xs ≡ filter (λ (x : SurveyView). not (list_any (λ (y : SurveyView). (y.ctx == x.ctx) && O y) xs)) xs
  over_is [] h = refl
  over_is (x ∷ xs) h =
      ap (λ (l : List SurveyView). cond (not (O x)) (x ∷ l) l) (over_is xs h.1 ∙ beside x (over_at xs) xs h.0) ∙ sym (ap (λ q. cond (not q) (x ∷ rest) rest) here)
    where
      rest : List SurveyView
      rest = filter (λ (y : SurveyView). not ((x.ctx == y.ctx) && O x || over_at xs y.ctx)) xs

      either : (b : Bool) → (b || false) ≡ b
      either true = refl
      either false = refl

      here : ((x.ctx == x.ctx) && O x || list_any (λ (y : SurveyView). (y.ctx == x.ctx) && O y) xs) ≡ O x
      here = ap (λ q. q && O x || list_any (λ (y : SurveyView). (y.ctx == x.ctx) && O y) xs) (same_number x.ctx) ∙ ap (λ q. O x || q) (nowhere xs x.ctx h.0) ∙ either (O x)

  pub none_over : (xs : List SurveyView) → list_any O xs ≡ false → filter (λ (x : SurveyView). not (O x)) xs ≡ xs
  none_over [] h = refl
  none_over (x ∷ xs) h = go (O x) h (none_over xs)
    where
      go : (b : Bool) → (b || list_any O xs) ≡ false → (list_any O xs ≡ false → filter (λ (x : SurveyView). not (O x)) xs ≡ xs) → cond (not b) (x ∷ filter (λ (x : SurveyView). not (O x)) xs) (filter (λ (x : SurveyView). not (O x)) xs) ≡ x ∷ xs
      go true k again = absurd cc
      go false k again = ap (λ (rest : List SurveyView). x ∷ rest) (again k)

  pub none_on : (xs : List SurveyView) (c : ℕ) → list_any O xs ≡ false → list_any (λ (x : SurveyView). (x.ctx == c) && O x) xs ≡ false
  none_on [] c h = refl
  none_on (x ∷ xs) c h = go (O x) (x.ctx == c) h (none_on xs c)
    where
      go : (b a : Bool) → (b || list_any O xs) ≡ false → (list_any O xs ≡ false → list_any (λ (x : SurveyView). (x.ctx == c) && O x) xs ≡ false) → ((a && b) || list_any (λ (x : SurveyView). (x.ctx == c) && O x) xs) ≡ false
      go true a k again = absurd cc
      go false true k again = again k
      go false false k again = again k

-- ---- One is changed

pub alone : (key : SurveyView → ℕ) (n : ℕ) (f : SurveyView → SurveyView) (xs : List SurveyView) → AreDistinct (map key xs) → with_found (λ (x : SurveyView). key x == n) f xs ≡ map (λ (x : SurveyView). cond (key x == n) (f x) x) xs
alone key n f [] h = refl
alone key n f (x ∷ xs) h = go (key x == n) refl (alone key n f xs h.1)
  where
    stay : (ys : List SurveyView) → has (map key ys) n ≡ false → ys ≡ map (λ (x : SurveyView). cond (key x == n) (f x) x) ys
    stay [] k = refl
    stay (y ∷ ys) k = step (key y == n) k (stay ys)
      where
        step : (b : Bool) → (b || has (map key ys) n) ≡ false → (has (map key ys) n ≡ false → ys ≡ map (λ (x : SurveyView). cond (key x == n) (f x) x) ys) → y ∷ ys ≡ cond b (f y) y ∷ map (λ (x : SurveyView). cond (key x == n) (f x) x) ys
        step true k again = absurd cc
        step false k again = ap (λ (rest : List SurveyView). y ∷ rest) (again k)

    go : (b : Bool) → (key x == n) ≡ b → with_found (λ (x : SurveyView). key x == n) f xs ≡ map (λ (x : SurveyView). cond (key x == n) (f x) x) xs
        → cond b (f x ∷ xs) (x ∷ with_found (λ (x : SurveyView). key x == n) f xs) ≡ cond b (f x) x ∷ map (λ (x : SurveyView). cond (key x == n) (f x) x) xs
    go true e k = ap (λ (rest : List SurveyView). f x ∷ rest) (stay xs (subst (λ m. has (map key xs) m ≡ false) (equal_of (key x) n e) h.0))
    go false e k = ap (λ (rest : List SurveyView). x ∷ rest) k

pub keys_kept : (key : SurveyView → ℕ) (P : SurveyView → Bool) (f : SurveyView → SurveyView) → ((x : SurveyView) → key (f x) ≡ key x) → (xs : List SurveyView) → map key (with_found P f xs) ≡ map key xs
keys_kept key P f h [] = refl
keys_kept key P f h (x ∷ xs) = go (P x) (keys_kept key P f h xs)
  where
    go : (b : Bool) → map key (with_found P f xs) ≡ map key xs → map key (cond b (f x ∷ xs) (x ∷ with_found P f xs)) ≡ key x ∷ map key xs
    go true k = ap (λ m. m ∷ map key xs) (h x)
    go false k = ap (λ rest. key x ∷ rest) k

-- as the requests of the history
pub map_of : (g : SurveyView → SurveyView) (f : LiveRequest → LiveRequest) → ((r : LiveRequest) → g (survey_of r) ≡ survey_of (f r)) → (rs : List LiveRequest) → map g (map survey_of rs) ≡ map survey_of (map f rs)
map_of g f h [] = refl
map_of g f h (r ∷ rs) = ap (λ (x : SurveyView). x ∷ map g (map survey_of rs)) (h r) ∙ ap (λ (rest : List SurveyView). survey_of (f r) ∷ rest) (map_of g f h rs)

pub find_of : (c : ℕ) (rs : List LiveRequest) → find (is_live_on c) (map survey_of rs) ≡ option_map survey_of (find (is_on c) rs)
find_of c [] = refl
find_of c (r ∷ rs) = go (r.ctx == c) (find_of c rs)
  where
    go : (b : Bool) → find (is_live_on c) (map survey_of rs) ≡ option_map survey_of (find (is_on c) rs) → cond b (Some (survey_of r)) (find (is_live_on c) (map survey_of rs)) ≡ option_map survey_of (cond b (Some r) (find (is_on c) rs))
    go true k = refl
    go false k = k

pub any_of : (c : ℕ) (xs : List SurveyView) → list_any (is_live_on c) xs ≡ is_some (find (is_live_on c) xs)
any_of c [] = refl
any_of c (x ∷ xs) = go (x.ctx == c) (any_of c xs)
  where
    go : (b : Bool) → list_any (is_live_on c) xs ≡ is_some (find (is_live_on c) xs) → (b || list_any (is_live_on c) xs) ≡ is_some (cond b (Some x) (find (is_live_on c) xs))
    go true k = refl
    go false k = k

pub ids_of : (rs : List LiveRequest) (n : ℕ) → has (map survey_id (map survey_of rs)) n ≡ list_any (has_id n) rs
ids_of [] n = refl
ids_of (r ∷ rs) n = ap (λ b. (r.id == n) || b) (ids_of rs n)

pub long_of : (rs : List LiveRequest) → length (map survey_of rs) ≡ length rs
long_of [] = refl
long_of (r ∷ rs) = let k = long_of rs in omega (arith, k)

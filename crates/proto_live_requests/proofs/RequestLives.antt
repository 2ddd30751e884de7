-- Changes of the live requests of a req.
use Rattle.std.proofs.Common.{◌≡◌, refl, ap, sym, ◌∙◌, subst, List, [], ◌∷◌, ◌++◌, ℕ, ◌^◌, ◌<◌, Bool, true, false, cond, arith, Some, None, map}
use Rattle.std.specs.Prelude.{find, filter, not, ◌||◌, ◌==◌}
use Rattle.std.specs.Option.{option_map}
use Rattle.std.proofs.lemmas.Bool.Decides.{nat_tests}
use Rattle.sp_history.specs.declared.parts.LiveRequest.{LiveRequest}
use Rattle.sp_history.specs.Lists.{has}
use Rattle.sp_history.specs.Once.{AreDistinct}
use Rattle.sp_history.specs.Requests.{is_on}
use Rattle.proto_live_requests.specs.declared.live.Live.{Live}
use Rattle.proto_live_requests.specs.LiveRequests.{request_of, live_ctx, is_live_on, without_live, AreSound}
use Rattle.proto_requests.proofs.TestValues.{equal_of, same_number, turned}

-- ---- One fewer

others_stay : (c : ℕ) (xs : List Live) → has (map live_ctx xs) c ≡ false → map request_of xs ≡ filter (λ r. not (has (c ∷ []) r.ctx)) (map request_of xs)
others_stay c [] h = refl
others_stay c (x ∷ xs) h = go (x.ctx == c) refl h (others_stay c xs)
  where
    go : (b : Bool) → (x.ctx == c) ≡ b → (b || has (map live_ctx xs) c) ≡ false → (has (map live_ctx xs) c ≡ false → map request_of xs ≡ filter (λ r. not (has (c ∷ []) r.ctx)) (map request_of xs))
        → map request_of (x ∷ xs) ≡ cond (not ((c == x.ctx) || false)) (request_of x ∷ filter (λ r. not (has (c ∷ []) r.ctx)) (map request_of xs)) (filter (λ r. not (has (c ∷ []) r.ctx)) (map request_of xs))
    go true e h again = absurd cc
    go false e h again = rw (turned x.ctx c false e) (ap (λ (rest : List LiveRequest). request_of x ∷ rest) (again h))

pub live_less : (c : ℕ) (xs : List Live) → AreDistinct (map live_ctx xs) → map request_of (without_live c xs) ≡ filter (λ r. not (has (c ∷ []) r.ctx)) (map request_of xs)
live_less c [] h = refl
live_less c (x ∷ xs) h = go (x.ctx == c) refl (live_less c xs h.1)
  where
    go : (b : Bool) → (x.ctx == c) ≡ b → map request_of (without_live c xs) ≡ filter (λ r. not (has (c ∷ []) r.ctx)) (map request_of xs)
        → map request_of (cond b xs (x ∷ without_live c xs)) ≡ cond (not ((c == x.ctx) || false)) (request_of x ∷ filter (λ r. not (has (c ∷ []) r.ctx)) (map request_of xs)) (filter (λ r. not (has (c ∷ []) r.ctx)) (map request_of xs))
    go true e again = rw (turned x.ctx c true e) (others_stay c xs (subst (λ n. has (map live_ctx xs) n ≡ false) (equal_of x.ctx c e) h.0))
    go false e again = rw (turned x.ctx c false e) (ap (λ (rest : List LiveRequest). request_of x ∷ rest) again)

or_right : (a b : Bool) → b ≡ true → (a || b) ≡ true
or_right true b h = refl
or_right false b h = h

has_less : (f : Live → ℕ) (c n : ℕ) (xs : List Live) → has (map f (without_live c xs)) n ≡ true → has (map f xs) n ≡ true
has_less f c n [] h = h
has_less f c n (x ∷ xs) h = go (x.ctx == c) h (has_less f c n xs)
  where
    go : (b : Bool) → has (map f (cond b xs (x ∷ without_live c xs))) n ≡ true → (has (map f (without_live c xs)) n ≡ true → has (map f xs) n ≡ true) → ((f x == n) || has (map f xs) n) ≡ true
    go true h again = or_right (f x == n) _ h
    go false h again = step (f x == n) h again
      where
        step : (a : Bool) → (a || has (map f (without_live c xs)) n) ≡ true → (has (map f (without_live c xs)) n ≡ true → has (map f xs) n ≡ true) → (a || has (map f xs) n) ≡ true
        step true h again = refl
        step false h again = again h

pub hasnt_less : (f : Live → ℕ) (c n : ℕ) (xs : List Live) → has (map f xs) n ≡ false → has (map f (without_live c xs)) n ≡ false
hasnt_less f c n xs h = go (has (map f (without_live c xs)) n) refl
  where
    go : (b : Bool) → has (map f (without_live c xs)) n ≡ b → b ≡ false
    go false e = refl
    go true e = let bad : true ≡ false = sym (has_less f c n xs e) ∙ h in absurd cc

pub distinct_less : (f : Live → ℕ) (c : ℕ) (xs : List Live) → AreDistinct (map f xs) → AreDistinct (map f (without_live c xs))
distinct_less f c [] h = h
distinct_less f c (x ∷ xs) h = go (x.ctx == c) (distinct_less f c xs h.1)
  where
    go : (b : Bool) → AreDistinct (map f (without_live c xs)) → AreDistinct (map f (cond b xs (x ∷ without_live c xs)))
    go true again = h.1
    go false again = (hasnt_less f c (f x) xs h.0, again)

pub ctx_less : (c d : ℕ) (xs : List Live) → has (map live_ctx (without_live c xs)) d ≡ true → has (map live_ctx xs) d ≡ true
ctx_less c d xs h = has_less live_ctx c d xs h

pub gone_on : (c : ℕ) (xs : List Live) → AreDistinct (map live_ctx xs) → has (map live_ctx (without_live c xs)) c ≡ false
gone_on c [] h = refl
gone_on c (x ∷ xs) h = go (x.ctx == c) refl (gone_on c xs h.1)
  where
    go : (b : Bool) → (x.ctx == c) ≡ b → has (map live_ctx (without_live c xs)) c ≡ false → has (map live_ctx (cond b xs (x ∷ without_live c xs))) c ≡ false
    go true e again = subst (λ n. has (map live_ctx xs) n ≡ false) (equal_of x.ctx c e) h.0
    go false e again = rw e again

pub sound_less : (c : ℕ) (xs : List Live) → AreSound xs → AreSound (without_live c xs)
sound_less c [] h = h
sound_less c (x ∷ xs) h = go (x.ctx == c) (sound_less c xs h.3)
  where
    go : (b : Bool) → AreSound (without_live c xs) → AreSound (cond b xs (x ∷ without_live c xs))
    go true again = h.3
    go false again = (h.0, h.1, h.2, again)

pub find_less : (c d : ℕ) (xs : List Live) → (c == d) ≡ false → find (is_live_on d) (without_live c xs) ≡ find (is_live_on d) xs
find_less c d [] h = refl
find_less c d (x ∷ xs) h = go (x.ctx == c) refl (find_less c d xs h)
  where
    other : (l m n : ℕ) → (l == m) ≡ true → (m == n) ≡ false → (l == n) ≡ false
    other l m n h k = grind (arith, nat_tests)

    go : (b : Bool) → (x.ctx == c) ≡ b → find (is_live_on d) (without_live c xs) ≡ find (is_live_on d) xs → find (is_live_on d) (cond b xs (x ∷ without_live c xs)) ≡ cond (x.ctx == d) (Some x) (find (is_live_on d) xs)
    go true e again = rw (other x.ctx c d e h) refl
    go false e again = ap (λ o. cond (x.ctx == d) (Some x) o) again

-- ---- One more

pub distinct_more : (f : Live → ℕ) (xs : List Live) (x : Live) → AreDistinct (map f xs) → has (map f xs) (f x) ≡ false → AreDistinct (map f (xs ++ x ∷ []))
distinct_more f [] x h k = (refl, h)
distinct_more f (y ∷ xs) x h k = go (f y == f x) refl k (distinct_more f xs x h.1)
  where
    more : (n : ℕ) (ys : List Live) → has (map f ys) n ≡ false → (f x == n) ≡ false → has (map f (ys ++ x ∷ [])) n ≡ false
    more n [] a b = rw b refl
    more n (z ∷ ys) a b = step (f z == n) a (λ q. more n ys q b)
      where
        step : (t : Bool) → (t || has (map f ys) n) ≡ false → (has (map f ys) n ≡ false → has (map f (ys ++ x ∷ [])) n ≡ false) → (t || has (map f (ys ++ x ∷ [])) n) ≡ false
        step true a again = absurd cc
        step false a again = again a

    go : (b : Bool) → (f y == f x) ≡ b → (b || has (map f xs) (f x)) ≡ false → (has (map f xs) (f x) ≡ false → AreDistinct (map f (xs ++ x ∷ []))) → AreDistinct (map f (y ∷ xs ++ x ∷ []))
    go true e k again = absurd cc
    go false e k again = (more (f y) xs h.0 (turned (f y) (f x) false e), again k)

pub sound_more : (xs : List Live) (x : Live) → AreSound xs → x.copy.header ≡ [] → x.id < 2 ^ 32 → x.reply ≡ None → AreSound (xs ++ x ∷ [])
sound_more [] x h a b k = (a, b, λ q. k, h)
sound_more (y ∷ xs) x h a b k = (h.0, h.1, h.2, sound_more xs x h.3 a b k)

pub find_first : {A : Type 0} (P : A → Bool) (xs ys : List A) (x : A) → find P xs ≡ Some x → find P (xs ++ ys) ≡ Some x
find_first P [] ys x h = absurd cc
find_first P (y ∷ xs) ys x h = go (P y) h (find_first P xs ys x)
  where
    go : (b : Bool) → cond b (Some y) (find P xs) ≡ Some x → (find P xs ≡ Some x → find P (xs ++ ys) ≡ Some x) → cond b (Some y) (find P (xs ++ ys)) ≡ Some x
    go true h again = h
    go false h again = again h

pub find_last : (c : ℕ) (xs : List Live) (x : Live) → has (map live_ctx xs) c ≡ false → x.ctx ≡ c → find (is_live_on c) (xs ++ x ∷ []) ≡ Some x
find_last c [] x h e = rw (e, same_number c) refl
find_last c (y ∷ xs) x h e = go (y.ctx == c) h (λ q. find_last c xs x q e)
  where
    go : (b : Bool) → (b || has (map live_ctx xs) c) ≡ false → (has (map live_ctx xs) c ≡ false → find (is_live_on c) (xs ++ x ∷ []) ≡ Some x) → cond b (Some y) (find (is_live_on c) (xs ++ x ∷ [])) ≡ Some x
    go true h again = absurd cc
    go false h again = again h

-- ---- Found

pub found_in : (c : ℕ) (xs : List Live) (x : Live) → find (is_live_on c) xs ≡ Some x → has (map live_ctx xs) c ≡ true
found_in c [] x h = absurd cc
found_in c (y ∷ xs) x h = go (y.ctx == c) h (found_in c xs x)
  where
    go : (b : Bool) → cond b (Some y) (find (is_live_on c) xs) ≡ Some x → (find (is_live_on c) xs ≡ Some x → has (map live_ctx xs) c ≡ true) → (b || has (map live_ctx xs) c) ≡ true
    go true h again = refl
    go false h again = again h

pub found_ctx : (c : ℕ) (xs : List Live) (x : Live) → find (is_live_on c) xs ≡ Some x → x.ctx ≡ c
found_ctx c [] x h = absurd cc
found_ctx c (y ∷ xs) x h = go (y.ctx == c) refl h (found_ctx c xs x)
  where
    its : Some y ≡ Some x → y ≡ x
    its q = cc

    go : (b : Bool) → (y.ctx == c) ≡ b → cond b (Some y) (find (is_live_on c) xs) ≡ Some x → (find (is_live_on c) xs ≡ Some x → x.ctx ≡ c) → x.ctx ≡ c
    go true e h again = ap live_ctx (sym (its h)) ∙ equal_of y.ctx c e
    go false e h again = again h

-- the live request of a context according to the history
pub find_request : (c : ℕ) (xs : List Live) → find (is_on c) (map request_of xs) ≡ option_map request_of (find (is_live_on c) xs)
find_request c [] = refl
find_request c (x ∷ xs) = go (x.ctx == c) (find_request c xs)
  where
    go : (b : Bool) → find (is_on c) (map request_of xs) ≡ option_map request_of (find (is_live_on c) xs) → cond b (Some (request_of x)) (find (is_on c) (map request_of xs)) ≡ option_map request_of (cond b (Some x) (find (is_live_on c) xs))
    go true h = refl
    go false h = h

pub sound_at : (c : ℕ) (xs : List Live) (x : Live) → AreSound xs → find (is_live_on c) xs ≡ Some x → (x.copy.header ≡ []) × (x.id < 2 ^ 32) × (x.last_out ≡ None → x.reply ≡ None)
sound_at c [] x s h = absurd cc
sound_at c (y ∷ xs) x s h = go (y.ctx == c) h (sound_at c xs x s.3)
  where
    its : Some y ≡ Some x → y ≡ x
    its q = cc

    go : (b : Bool) → cond b (Some y) (find (is_live_on c) xs) ≡ Some x → (find (is_live_on c) xs ≡ Some x → (x.copy.header ≡ []) × (x.id < 2 ^ 32) × (x.last_out ≡ None → x.reply ≡ None))
        → (x.copy.header ≡ []) × (x.id < 2 ^ 32) × (x.last_out ≡ None → x.reply ≡ None)
    go true h again = subst (λ (z : Live). (z.copy.header ≡ []) × (z.id < 2 ^ 32) × (z.last_out ≡ None → z.reply ≡ None)) (its h) (s.0, s.1, s.2)
    go false h again = again h

-- Live requests that are looked at when they are due: the rule that is kept.
use Rattle.std.proofs.Common.{◌≡◌, refl, ap, sym, ◌∙◌, List, [], ◌∷◌, ◌++◌, ℕ, ◌+◌, ◌≤◌, ◌<◌, length, get_or, subst, Bool, true, false, cond, arith, Option, Some, None, map, drop, filter, inl, inr}
use Rattle.std.specs.Prelude.{◌⊎◌, find, IfNone, IfSome, not, is_some, nat_le, ◌&&◌, ◌||◌, ◌==◌}
use Rattle.std.specs.List.{list_any}
use Rattle.std.proofs.lemmas.Bool.Decides.{nat_tests}
use Rattle.std.proofs.lemmas.List.{drop_more, drop_all}
use Rattle.sp_history.specs.declared.parts.LastOut.{LastOut}
use Rattle.sp_history.specs.Lists.{has, head_of}
use Rattle.sp_history.specs.Once.{AreDistinct}
use Rattle.proto_requests.specs.FirstFound.{with_found, without_found}
use Rattle.proto_requests.specs.Hints.{HintsView, covers, covers_by}
use Rattle.proto_live_requests.specs.declared.live.Live.{Live}
use Rattle.proto_live_requests.specs.declared.live.KeptReply.{KeptReply}
use Rattle.proto_live_requests.specs.declared.outs.SentOut.{SentOut}
use Rattle.proto_live_requests.specs.Outs.{AreSince, IsOneLess, NoneOn, is_sent}
use Rattle.proto_live_requests.specs.Dues.{DuesView, AreSeen, StayLate, awaited, is_at, is_seen, is_unseen, is_unseen_out, waits_so}
use Rattle.proto_live_requests.specs.LiveRequests.{is_live_on, live_ctx, sent_at}
use Rattle.proto_requests.proofs.FirstPlaces.{none_as}
use Rattle.proto_requests.proofs.KnownOperations.{any_less, any_more}
use Rattle.proto_requests.proofs.TestValues.{both_false, equal_of, same_number, some_inj}

-- ---- Bools

flip : (a b : Bool) → (a ≡ true → b ≡ true) → not b ≡ true → not a ≡ true
flip false b k h = refl
flip true true k h = absurd cc
flip true false k h = let bad : false ≡ true = k refl in absurd cc

first_of : (a b : Bool) → (a && b) ≡ true → a ≡ true
first_of true b h = refl
first_of false b h = absurd cc

second_of : (a b : Bool) → (a && b) ≡ true → b ≡ true
second_of true b h = h
second_of false b h = absurd cc

both : (a b : Bool) → a ≡ true → b ≡ true → (a && b) ≡ true
both a b h k = rw (h, k) refl

or_right : (a b : Bool) → b ≡ true → (a || b) ≡ true
or_right true b h = refl
or_right false b h = h

is_false : (b : Bool) → not b ≡ true → b ≡ false
is_false true h = absurd cc
is_false false h = refl

isnt_false : (b : Bool) → not b ≡ false → b ≡ true
isnt_false true h = refl
isnt_false false h = absurd cc

-- ---- The request of a context

-- where each context has one, none passes if none of those that are found by their contexts passes
pub all_found : (Q : Live → Bool) (xs : List Live) → AreDistinct (map live_ctx xs) → ((x : Live) → find (is_live_on x.ctx) xs ≡ Some x → Q x ≡ false) → list_any Q xs ≡ false
all_found Q [] d k = refl
all_found Q (y ∷ xs) d k =
    ap (λ b. b || list_any Q xs) (k y (ap (λ b. cond b (Some y) (find (is_live_on y.ctx) xs)) (same_number y.ctx))) ∙ all_found Q xs d.1 (λ x f. k x (ap (λ b. cond b (Some y) (find (is_live_on x.ctx) xs)) (other x f (y.ctx == x.ctx) refl) ∙ f))
  where
    there : (q : ℕ) (x : Live) (vs : List Live) → find (is_live_on q) vs ≡ Some x → has (map live_ctx vs) q ≡ true
    there q x [] f = absurd cc
    there q x (v ∷ vs) f = step (v.ctx == q) f (there q x vs)
      where
        step : (b : Bool) → cond b (Some v) (find (is_live_on q) vs) ≡ Some x → (find (is_live_on q) vs ≡ Some x → has (map live_ctx vs) q ≡ true) → (b || has (map live_ctx vs) q) ≡ true
        step true f again = refl
        step false f again = again f

    other : (x : Live) → find (is_live_on x.ctx) xs ≡ Some x → (b : Bool) → (y.ctx == x.ctx) ≡ b → b ≡ false
    other x f false e = refl
    other x f true e = let bad : true ≡ false = sym (there x.ctx x xs f) ∙ ap (has (map live_ctx xs)) (sym (equal_of y.ctx x.ctx e)) ∙ d.0 in absurd cc

-- none passes of which one is found
pub none_at : {A : Type 0} (P Q : A → Bool) (xs : List A) (x : A) → list_any P xs ≡ false → find Q xs ≡ Some x → P x ≡ false
none_at P Q [] x h f = absurd cc
none_at P Q (y ∷ xs) x h f = go (P y) refl h (Q y) f (none_at P Q xs x)
  where
    go : (b : Bool) → P y ≡ b → (b || list_any P xs) ≡ false → (c : Bool) → cond c (Some y) (find Q xs) ≡ Some x → (list_any P xs ≡ false → find Q xs ≡ Some x → P x ≡ false) → P x ≡ false
    go true e h c f again = absurd cc
    go false e h true f again = ap P (sym (some_inj y x f)) ∙ e
    go false e h false f again = again h f

-- ---- What is seen stays seen

module _ (v w : DuesView) (late later : LastOut → Bool) (dry now : ℕ → Bool) (last next : ℕ) where
  unseen_as : ((c : ℕ) (o : LastOut) → is_seen v late dry last c o ≡ true → is_seen w later now next c o ≡ true) → (x : Live) → is_unseen w later now next x ≡ true → is_unseen v late dry last x ≡ true
  unseen_as k x = go (is_some x.reply) x.last_out
    where
      go : (b : Bool) (o : Option LastOut) → (not b && is_unseen_out w later now next x.ctx o) ≡ true → (not b && is_unseen_out v late dry last x.ctx o) ≡ true
      go true o h = h
      go false None h = h
      go false (Some o) h = flip (is_seen v late dry last x.ctx o) (is_seen w later now next x.ctx o) (k x.ctx o) h

  -- the same for all requests
  pub seen_all : (xs : List Live) → ((q : ℕ) → now q ≡ true → covers w.dry q ≡ true) → ((c : ℕ) (o : LastOut) → is_seen v late dry last c o ≡ true → is_seen w later now next c o ≡ true) → AreSeen v late dry last xs → AreSeen w later now next xs
  seen_all xs d k h = (none_as (is_unseen v late dry last) (is_unseen w later now next) xs (unseen_as k) h.0, d)

  -- the same for those that wait for a reply
  pub seen_live : (xs : List Live) → AreDistinct (map live_ctx xs) → ((q : ℕ) → now q ≡ true → covers w.dry q ≡ true) → ((c : ℕ) (o : LastOut) → awaited (find (is_live_on c) xs) ≡ Some o → is_seen v late dry last c o ≡ true → is_seen w later now next c o ≡ true) → AreSeen v late dry last xs → AreSeen w later now next xs
  seen_live xs a d k h = (all_found (is_unseen w later now next) xs a (λ x f. one x f (is_some x.reply) refl x.last_out refl (none_at (is_unseen v late dry last) (is_live_on x.ctx) xs x h.0 f)), d)
    where
      one : (x : Live) → find (is_live_on x.ctx) xs ≡ Some x → (b : Bool) → is_some x.reply ≡ b → (o : Option LastOut) → x.last_out ≡ o → is_unseen v late dry last x ≡ false → (not (is_some x.reply) && is_unseen_out w later now next x.ctx x.last_out) ≡ false
      one x f true e o g h = ap (λ b. not b && is_unseen_out w later now next x.ctx x.last_out) e
      one x f false e None g h = ap (λ o. not (is_some x.reply) && is_unseen_out w later now next x.ctx o) g ∙ shut (not (is_some x.reply))
        where
          shut : (b : Bool) → (b && false) ≡ false
          shut true = refl
          shut false = refl
      one x f false e (Some o) g h =
          let was : is_seen v late dry last x.ctx o ≡ true = isnt_false _ (sym (ap (λ b. not b && is_unseen_out v late dry last x.ctx x.last_out) e ∙ ap (λ o. is_unseen_out v late dry last x.ctx o) g) ∙ h) in
          let waits : awaited (find (is_live_on x.ctx) xs) ≡ Some o = ap awaited f ∙ ap (λ b. cond b None x.last_out) e ∙ g in
          ap (λ b. not b && is_unseen_out w later now next x.ctx x.last_out) e ∙ ap (λ o. is_unseen_out w later now next x.ctx o) g ∙ ap not (k x.ctx o waits was)

-- ---- Requests come, change and end

module _ (v : DuesView) (late : LastOut → Bool) (dry : ℕ → Bool) (last : ℕ) where
  pub seen_less : (P : Live → Bool) (xs ys : List Live) → ys ≡ without_found P xs → AreSeen v late dry last xs → AreSeen v late dry last ys
  seen_less P xs ys e h = (any_less (is_unseen v late dry last) P xs ys e h.0, h.1)

  pub seen_more : (xs ys : List Live) (x : Live) → ys ≡ xs ++ x ∷ [] → x.last_out ≡ None → AreSeen v late dry last xs → AreSeen v late dry last ys
  seen_more xs ys x e n h = (any_more (is_unseen v late dry last) xs ys x e h.0 (ap (λ o. not (is_some x.reply) && is_unseen_out v late dry last x.ctx o) n ∙ shut (not (is_some x.reply))), h.1)
    where
      shut : (b : Bool) → (b && false) ≡ false
      shut true = refl
      shut false = refl

  pub seen_none : (xs : List Live) → xs ≡ [] → ((q : ℕ) → dry q ≡ true → covers v.dry q ≡ true) → AreSeen v late dry last xs
  seen_none xs e d = (rw e refl, d)

-- the first that passes the test is changed
none_with : {A : Type 0} (P R Q : A → Bool) (f : A → A) (xs : List A) → ((x : A) → Q x ≡ true → R (f x) ≡ false) → ((x : A) → R x ≡ true → P x ≡ true) → list_any P xs ≡ false → list_any R (with_found Q f xs) ≡ false
none_with P R Q f [] c k h = refl
none_with P R Q f (x ∷ xs) c k h = let b = both_false (P x) (list_any P xs) h in go (Q x) refl b.1 (none_as P R (x ∷ xs) k h) (none_with P R Q f xs c k b.1)
  where
    go : (b : Bool) → Q x ≡ b → list_any P xs ≡ false → (R x || list_any R xs) ≡ false → list_any R (with_found Q f xs) ≡ false → list_any R (cond b (f x ∷ xs) (x ∷ with_found Q f xs)) ≡ false
    go true e g n again = ap (λ b. b || list_any R xs) (c x e) ∙ none_as P R xs k g
    go false e g n again = ap (λ b. b || list_any R (with_found Q f xs)) (both_false (R x) (list_any R xs) n).0 ∙ again

-- one goes out
pub seen_sent : (v w : DuesView) (late : LastOut → Bool) (dry : ℕ → Bool) (last c : ℕ) (o : LastOut) (xs : List Live) → late o ≡ false → nat_le o.pipe last ≡ true → covers_by w.outs (is_sent c o) ≡ true
    → ((q : ℕ) (p : LastOut) → covers_by v.outs (is_sent q p) ≡ true → covers_by w.outs (is_sent q p) ≡ true) → ((q : ℕ) → covers v.due q ≡ true → covers w.due q ≡ true) → ((q : ℕ) → covers v.dry q ≡ true → covers w.dry q ≡ true)
    → AreSeen v late dry last xs → AreSeen w late dry last (with_found (is_live_on c) (sent_at o) xs)
seen_sent v w late dry last c o xs l n it more due dr h =
    (none_with (is_unseen v late dry last) (is_unseen w late dry last) (is_live_on c) (sent_at o) xs sent (unseen_as v w late late dry dry last last (λ q p k. both _ _ (first_of _ _ k) (kept q p (late p) (second_of _ _ k)))) h.0, λ q e. dr q (h.1 q e))
  where
    kept : (q : ℕ) (p : LastOut) (b : Bool) → cond b (dry q || covers v.due q) (covers_by v.outs (is_sent q p)) ≡ true → cond b (dry q || covers w.due q) (covers_by w.outs (is_sent q p)) ≡ true
    kept q p true k = step (dry q) k
      where
        step : (b : Bool) → (b || covers v.due q) ≡ true → (b || covers w.due q) ≡ true
        step true k = refl
        step false k = due q k
    kept q p false k = more q p k

    sent : (x : Live) → (x.ctx == c) ≡ true → is_unseen w late dry last (sent_at o x) ≡ false
    sent x e =
        let on : covers_by w.outs (is_sent x.ctx o) ≡ true = ap (λ q. covers_by w.outs (is_sent q o)) (equal_of x.ctx c e) ∙ it in
        let seen : is_seen w late dry last x.ctx o ≡ true = both _ _ n (ap (λ b. cond b (dry x.ctx || covers w.due x.ctx) (covers_by w.outs (is_sent x.ctx o))) l ∙ on) in
        ap (λ b. not (is_some x.reply) && not b) seen ∙ shut (not (is_some x.reply))
      where
        shut : (b : Bool) → (b && false) ≡ false
        shut true = refl
        shut false = refl

-- one is changed, and no longer waits
pub seen_kept : (v : DuesView) (late : LastOut → Bool) (dry : ℕ → Bool) (last : ℕ) (P : Live → Bool) (f : Live → Live) (xs ys : List Live) → ((x : Live) → is_some (f x).reply ≡ true) → ys ≡ with_found P f xs → AreSeen v late dry last xs → AreSeen v late dry last ys
seen_kept v late dry last P f xs ys k e h = (ap (list_any (is_unseen v late dry last)) e ∙ none_with (is_unseen v late dry last) (is_unseen v late dry last) P f xs (λ x q. ap (λ b. not b && is_unseen_out v late dry last (f x).ctx (f x).last_out) (k x)) (λ x q. q) h.0, h.1)

-- ---- What is late changes

-- no more of the pipes that came up are late, and no more contexts are dry
pub seen_late : (v : DuesView) (late later : LastOut → Bool) (dry now : ℕ → Bool) (last next : ℕ) (xs : List Live) → ((o : LastOut) → o.pipe ≤ last → later o ≡ late o) → ((q : ℕ) → now q ≡ dry q) → last ≤ next → AreSeen v late dry last xs → AreSeen v later now next xs
seen_late v late later dry now last next xs l d n h =
    seen_all v v late later dry now last next xs (λ q e. h.1 q (sym (d q) ∙ e))
    (λ c o k.
    let p : nat_le o.pipe last ≡ true = first_of _ _ k in
    let q = below o.pipe p in
    both _ _ (above o.pipe q) (ap (λ b. cond b (now c || covers v.due c) (covers_by v.outs (is_sent c o))) (l o q) ∙ ap (λ b. cond (late o) (b || covers v.due c) (covers_by v.outs (is_sent c o))) (d c) ∙ second_of _ _ k)) h
  where
    below : (p : ℕ) → nat_le p last ≡ true → p ≤ last
    below p e = grind (arith, nat_tests)

    above : (p : ℕ) → p ≤ last → nat_le p next ≡ true
    above p e = grind (arith, nat_tests)

-- what went out of a context belongs to a live request
pub live_at : (P : Live → Bool) (xs : List Live) (o : LastOut) → awaited (find P xs) ≡ Some o → list_any P xs ≡ true
live_at P [] o z = absurd cc
live_at P (x ∷ xs) o z = go (P x) (live_at P xs o) z
  where
    go : (b : Bool) → (awaited (find P xs) ≡ Some o → list_any P xs ≡ true) → awaited (cond b (Some x) (find P xs)) ≡ Some o → (b || list_any P xs) ≡ true
    go true again z = refl
    go false again z = again z

-- more is late, and all that has become late is looked at
pub seen_moved : (v w : DuesView) (late later T : LastOut → Bool) (dry now : ℕ → Bool) (last : ℕ) (xs : List Live) → AreDistinct (map live_ctx xs) → StayLate late later → ((o : LastOut) → later o ≡ true → (late o ≡ true) ⊎ (T o ≡ true)) → ((o : LastOut) → T o ≡ true → later o ≡ true)
    → ((q : ℕ) → now q ≡ true → covers w.dry q ≡ true) → ((q : ℕ) → list_any (is_live_on q) xs ≡ true → dry q ≡ true → (now q ≡ true) ⊎ (covers w.due q ≡ true)) → ((q : ℕ) → list_any (is_live_on q) xs ≡ true → covers v.due q ≡ true → covers w.due q ≡ true)
    → ((c : ℕ) (o : LastOut) → T o ≡ false → covers_by v.outs (is_sent c o) ≡ true → covers_by w.outs (is_sent c o) ≡ true)
    → ((c : ℕ) (o : LastOut) → T o ≡ true → awaited (find (is_live_on c) xs) ≡ Some o → covers_by v.outs (is_sent c o) ≡ true → covers w.due c ≡ true)
    → AreSeen v late dry last xs → AreSeen w later now last xs
seen_moved v w late later T dry now last xs a s l t d f e g i h = seen_live v w late later dry now last last xs a d (λ c o z k. both _ _ (first_of _ _ k) (at c o z (later o) refl (second_of _ _ k))) h
  where
    looked : (c : ℕ) → (now c ≡ true) ⊎ (covers w.due c ≡ true) → (now c || covers w.due c) ≡ true
    looked c (inl n) = ap (λ b. b || covers w.due c) n
    looked c (inr n) = or_right (now c) (covers w.due c) n

    old : (c : ℕ) (b : Bool) → dry c ≡ b → list_any (is_live_on c) xs ≡ true → (b || covers v.due c) ≡ true → (now c || covers w.due c) ≡ true
    old c true n y k = looked c (f c y n)
    old c false n y k = looked c (inr (e c y k))

    not_that : (o : LastOut) (b : Bool) → T o ≡ b → later o ≡ false → b ≡ false
    not_that o false m n = refl
    not_that o true m n = let bad : true ≡ false = sym (t o m) ∙ n in absurd cc

    at : (c : ℕ) (o : LastOut) → awaited (find (is_live_on c) xs) ≡ Some o → (b : Bool) → later o ≡ b → cond (late o) (dry c || covers v.due c) (covers_by v.outs (is_sent c o)) ≡ true → cond b (now c || covers w.due c) (covers_by w.outs (is_sent c o)) ≡ true
    at c o z true m k = step (late o) refl k (l o m)
      where
        step : (b : Bool) → late o ≡ b → cond b (dry c || covers v.due c) (covers_by v.outs (is_sent c o)) ≡ true → (late o ≡ true) ⊎ (T o ≡ true) → (now c || covers w.due c) ≡ true
        step true n k y = old c (dry c) refl (live_at (is_live_on c) xs o z) k
        step false n k (inl y) = let bad : true ≡ false = sym y ∙ n in absurd cc
        step false n k (inr y) = looked c (inr (i c o y z k))
    at c o z false m k = step (late o) refl k
      where
        step : (b : Bool) → late o ≡ b → cond b (dry c || covers v.due c) (covers_by v.outs (is_sent c o)) ≡ true → covers_by w.outs (is_sent c o) ≡ true
        step true n k = let bad : true ≡ false = sym (s o n) ∙ m in absurd cc
        step false n k = g c o (not_that o (T o) refl m) k

-- ---- Contexts that are looked at

-- what is no longer looked at is not due
pub seen_dropped : (v : DuesView) (late : LastOut → Bool) (dry : ℕ → Bool) (last c : ℕ) (xs : List Live) → AreDistinct (map live_ctx xs) → Some c ≡ head_of v.due.items → ((o : LastOut) → awaited (find (is_live_on c) xs) ≡ Some o → (late o && not (dry c)) ≡ false)
    → AreSeen v late dry last xs → AreSeen (record v { due = record { whole = v.due.whole; items = drop 1 v.due.items } }) late dry last xs
seen_dropped v late dry last c xs a e n h =
    seen_live v (record v { due = record { whole = v.due.whole; items = drop 1 v.due.items } }) late late dry dry last last xs a (λ q k. h.1 q k) (λ q o z k. both _ _ (first_of _ _ k) (at q o z (late o) refl (second_of _ _ k))) h
  where
    rest : (q : ℕ) (b : Bool) → (c == q) ≡ b → (not v.due.whole || list_any (λ m. m == q) v.due.items) ≡ true → (b ≡ true) ⊎ ((not v.due.whole || list_any (λ m. m == q) (drop 1 v.due.items)) ≡ true)
    rest q true f k = inl refl
    rest q false f k = inr (go v.due.items e k)
      where
        go : (is : List ℕ) → Some c ≡ head_of is → (not v.due.whole || list_any (λ m. m == q) is) ≡ true → (not v.due.whole || list_any (λ m. m == q) (drop 1 is)) ≡ true
        go [] g k = absurd cc
        go (i ∷ is) g k = sym (ap (λ b. not v.due.whole || (b || list_any (λ m. m == q) is)) (ap (λ m. m == q) (sym (some_inj c i g)) ∙ f)) ∙ k

    at : (q : ℕ) (o : LastOut) → awaited (find (is_live_on q) xs) ≡ Some o → (b : Bool) → late o ≡ b → cond b (dry q || covers v.due q) (covers_by v.outs (is_sent q o)) ≡ true
        → cond b (dry q || (not v.due.whole || list_any (λ m. m == q) (drop 1 v.due.items))) (covers_by v.outs (is_sent q o)) ≡ true
    at q o z false m k = k
    at q o z true m k = step (dry q) refl k
      where
        step : (b : Bool) → dry q ≡ b → (b || covers v.due q) ≡ true → (b || (not v.due.whole || list_any (λ m. m == q) (drop 1 v.due.items))) ≡ true
        step true f k = refl
        step false f k = choose (rest q (c == q) refl k)
          where
            choose : ((c == q) ≡ true) ⊎ ((not v.due.whole || list_any (λ m. m == q) (drop 1 v.due.items)) ≡ true) → (not v.due.whole || list_any (λ m. m == q) (drop 1 v.due.items)) ≡ true
            choose (inr g) = g
            choose (inl g) =
                let is : q ≡ c = sym (equal_of c q g) in
                let no : (late o && not (dry q)) ≡ false = ap (λ q. late o && not (dry q)) is ∙ n o (ap (λ q. awaited (find (is_live_on q) xs)) (sym is) ∙ z) in
                let bad : true ≡ false = sym (both _ _ m (ap not f)) ∙ no in absurd cc

-- all that may be due are looked at, and none is left
pub none_unseen : (v : DuesView) (late : LastOut → Bool) (dry : ℕ → Bool) (last : ℕ) (due : Live → Bool) (xs : List Live) → v.due.whole ≡ true → v.due.items ≡ []
    → ((x : Live) → due x ≡ true → (o : LastOut) × (x.reply ≡ None) × (x.last_out ≡ Some o) × (late o ≡ true) × (dry x.ctx ≡ false)) → AreSeen v late dry last xs → list_any due xs ≡ false
none_unseen v late dry last due xs e f k h = none_as (is_unseen v late dry last) due xs (λ x d. let y = k x d in one x y.0 y.1 y.2 y.3 y.4) h.0
  where
    one : (x : Live) (o : LastOut) → x.reply ≡ None → x.last_out ≡ Some o → late o ≡ true → dry x.ctx ≡ false → is_unseen v late dry last x ≡ true
    one x o r l m d =
        let none : covers v.due x.ctx ≡ false = ap (λ b. not b || list_any (λ n. n == x.ctx) v.due.items) e ∙ ap (list_any (λ n. n == x.ctx)) f in
        let second : cond (late o) (dry x.ctx || covers v.due x.ctx) (covers_by v.outs (is_sent x.ctx o)) ≡ false = ap (λ b. cond b (dry x.ctx || covers v.due x.ctx) (covers_by v.outs (is_sent x.ctx o))) m ∙ ap (λ b. b || covers v.due x.ctx) d ∙ none in
        ap (λ (y : Option KeptReply). not (is_some y) && is_unseen_out v late dry last x.ctx x.last_out) r ∙ ap (is_unseen_out v late dry last x.ctx) l ∙ ap (λ b. not (nat_le o.pipe last && b)) second ∙ ap not (shut (nat_le o.pipe last))
      where
        shut : (b : Bool) → (b && false) ≡ false
        shut true = refl
        shut false = refl

-- none is due, so none has to be looked at
pub seen_cleared : (v : DuesView) (late : LastOut → Bool) (dry : ℕ → Bool) (last : ℕ) (due : Live → Bool) (xs : List Live) → list_any due xs ≡ false
    → ((x : Live) (o : LastOut) → x.reply ≡ None → x.last_out ≡ Some o → late o ≡ true → dry x.ctx ≡ false → due x ≡ true) → AreSeen v late dry last xs → AreSeen (record v { due = record { whole = true; items = [] } }) late dry last xs
seen_cleared v late dry last due xs n k h = (go xs n h.0, h.1)
  where
    w : DuesView
    w = record v { due = record { whole = true; items = [] } }

    seen : (x : Live) (o : LastOut) → x.reply ≡ None → x.last_out ≡ Some o → due x ≡ false → (a b : Bool) → late o ≡ a → dry x.ctx ≡ b → cond a (b || covers v.due x.ctx) (covers_by v.outs (is_sent x.ctx o)) ≡ true → cond a (b || false) (covers_by v.outs (is_sent x.ctx o)) ≡ true
    seen x o r l d true true m f q = refl
    seen x o r l d true false m f q = let bad : true ≡ false = sym (k x o r l m f) ∙ d in absurd cc
    seen x o r l d false b m f q = q

    one : (x : Live) (r : Option KeptReply) → x.reply ≡ r → (l : Option LastOut) → x.last_out ≡ l → due x ≡ false → (not (is_some r) && is_unseen_out v late dry last x.ctx l) ≡ false → (not (is_some r) && is_unseen_out w late dry last x.ctx l) ≡ false
    one x (Some y) e l f d q = refl
    one x None e None f d q = refl
    one x None e (Some o) f d q =
        let was = isnt_false _ q in
        ap not (both (nat_le o.pipe last) _ (first_of _ _ was) (seen x o e f d (late o) (dry x.ctx) refl refl (second_of _ _ was)))

    go : (xs : List Live) → list_any due xs ≡ false → list_any (is_unseen v late dry last) xs ≡ false → list_any (is_unseen w late dry last) xs ≡ false
    go [] n h = refl
    go (x ∷ xs) n h =
        let a = both_false (due x) (list_any due xs) n in
        let b = both_false (is_unseen v late dry last x) (list_any (is_unseen v late dry last) xs) h in
        ap (λ u. u || list_any (is_unseen w late dry last) xs) (one x x.reply refl x.last_out refl a.0 b.0) ∙ go xs a.1 b.1

-- ---- What is among the Outs

known_or : {A : Type 0} (h : HintsView A) (P : A → Bool) → covers_by h P ≡ true → (h.whole ≡ false) ⊎ (list_any P h.items ≡ true)
known_or h P k = go h.whole refl k
  where
    go : (b : Bool) → h.whole ≡ b → (not b || list_any P h.items) ≡ true → (h.whole ≡ false) ⊎ (list_any P h.items ≡ true)
    go true e k = inr k
    go false e k = inl e

-- one is left of each that passes the test, where all of those are kept
pub kept_outs : (keep P : SentOut → Bool) (h g : HintsView SentOut) → g.whole ≡ h.whole → g.items ≡ filter keep h.items → ((e : SentOut) → P e ≡ true → keep e ≡ true) → covers_by h P ≡ true → covers_by g P ≡ true
kept_outs keep P h g w s k = λ c. ap (λ b. not b || list_any P g.items) w ∙ or_both (not h.whole) (list_any P h.items) (list_any P g.items) (λ q. ap (list_any P) s ∙ any_kept h.items q) c
  where
    or_both : (a b d : Bool) → (b ≡ true → d ≡ true) → (a || b) ≡ true → (a || d) ≡ true
    or_both true b d k h = refl
    or_both false b d k h = k h

    any_kept : (es : List SentOut) → list_any P es ≡ true → list_any P (filter keep es) ≡ true
    any_kept [] q = q
    any_kept (e ∷ es) q = go (P e) refl q (any_kept es)
      where
        there : (b : Bool) → list_any P (filter keep es) ≡ true → list_any P (cond b (e ∷ filter keep es) (filter keep es)) ≡ true
        there true m = or_right (P e) _ m
        there false m = m

        go : (b : Bool) → P e ≡ b → (b || list_any P es) ≡ true → (list_any P es ≡ true → list_any P (filter keep es) ≡ true) → list_any P (cond (keep e) (e ∷ filter keep es) (filter keep es)) ≡ true
        go true f q again = ap (λ b. list_any P (cond b (e ∷ filter keep es) (filter keep es))) (k e f) ∙ ap (λ b. b || list_any P (filter keep es)) f
        go false f q again = there (keep e) (again q)

-- what waits for a reply is the Out of its context
pub awaited_at : (xs : List Live) (c : ℕ) (o : LastOut) (e : SentOut) → awaited (find (is_live_on c) xs) ≡ Some o → is_sent c o e ≡ true → is_at e (awaited (find (is_live_on e.ctx) xs)) ≡ true
awaited_at xs c o e z k = ap (is_at e) (ap (λ q. awaited (find (is_live_on q) xs)) (equal_of e.ctx c (first_of (e.ctx == c) _ k)) ∙ z) ∙ second_of (e.ctx == c) _ k

pub sent_ctx : (c : ℕ) (o : LastOut) (e : SentOut) → is_sent c o e ≡ true → e.ctx ≡ c
sent_ctx c o e k = equal_of e.ctx c (first_of (e.ctx == c) _ k)

pub sent_pipe : (c : ℕ) (o : LastOut) (e : SentOut) → is_sent c o e ≡ true → e.pipe ≡ o.pipe
sent_pipe c o e k = equal_of e.pipe o.pipe (first_of (e.pipe == o.pipe) _ (second_of (e.ctx == c) _ k))

sent_when : (c : ℕ) (o : LastOut) (e : SentOut) → is_sent c o e ≡ true → e.when ≡ o.when
sent_when c o e k = equal_of e.when o.when (second_of (e.pipe == o.pipe) _ (second_of (e.ctx == c) _ k))

module _ (h g : HintsView SentOut) (e : SentOut) (f : Some e ≡ head_of h.items) (s : g ≡ record { whole = h.whole; items = drop 1 h.items }) where
  dropped_first : (P : SentOut → Bool) → P e ≡ false → covers_by h P ≡ true → covers_by g P ≡ true
  dropped_first P n k = ap (λ (v : HintsView SentOut). covers_by v P) s ∙ go h.items f k
    where
      go : (es : List SentOut) → Some e ≡ head_of es → (not h.whole || list_any P es) ≡ true → (not h.whole || list_any P (drop 1 es)) ≡ true
      go [] q k = absurd cc
      go (d ∷ es) q k = sym (ap (λ b. not h.whole || (b || list_any P es)) (ap P (sym (some_inj e d q)) ∙ n)) ∙ k

  -- its time has come, and that of the other has not
  pub late_kept : (resend now c : ℕ) (o : LastOut) → nat_le (e.when + resend) now ≡ true → nat_le (o.when + resend) now ≡ false → covers_by h (is_sent c o) ≡ true → covers_by g (is_sent c o) ≡ true
  late_kept resend now c o m n k = dropped_first (is_sent c o) (go (is_sent c o e) refl) k
    where
      go : (b : Bool) → is_sent c o e ≡ b → b ≡ false
      go false q = refl
      go true q = let bad : true ≡ false = sym (ap (λ w. nat_le (w + resend) now) (sym (sent_when c o e q)) ∙ m) ∙ n in absurd cc

  -- it is the one that is looked at, or another one
  pub late_or : (c : ℕ) (o : LastOut) (D : Type 0) → (is_sent c o e ≡ true → D) → covers_by h (is_sent c o) ≡ true → (covers_by g (is_sent c o) ≡ true) ⊎ D
  late_or c o D d k = go (is_sent c o e) refl
    where
      go : (b : Bool) → is_sent c o e ≡ b → (covers_by g (is_sent c o) ≡ true) ⊎ D
      go true q = inr (d q)
      go false q = inl (dropped_first (is_sent c o) q k)

-- none is left whose time has come, where that of the first has not come
pub none_come : {A : Type 0} (resend now c t : ℕ) (o : LastOut) (h : HintsView SentOut) → AreSince t h.items → h.whole ≡ true → nat_le (t + resend) now ≡ false → nat_le (o.when + resend) now ≡ true → covers_by h (is_sent c o) ≡ true → A
none_come resend now c t o h f w n m k = let later : t ≤ o.when = f c o (sym (ap (λ b. not b || list_any (is_sent c o) h.items) w) ∙ k) in absurd (never later)
  where
    never : t ≤ o.when → ⊥
    never l = grind (arith, nat_tests)

pub none_there : {A : Type 0} (c : ℕ) (o : LastOut) (h : HintsView SentOut) → h.items ≡ [] → h.whole ≡ true → covers_by h (is_sent c o) ≡ true → A
none_there c o h f w k = let bad : true ≡ false = sym k ∙ ap (λ b. not b || list_any (is_sent c o) h.items) w ∙ ap (list_any (is_sent c o)) f in absurd cc

module _ (h g : HintsView SentOut) (p e : ℕ) (s : g.whole ≡ h.whole) (l : IsOneLess p e h.items g.items) (c : ℕ) (o : LastOut) where
  still : (b : Bool) → is_sent c o l.gone ≡ b → b ≡ false → list_any (is_sent c o) h.items ≡ true → list_any (is_sent c o) g.items ≡ true
  still true q n k = absurd cc
  still false q n k = l.others c o ∙ ap (λ b. cond b false (list_any (is_sent c o) h.items)) q ∙ k

  -- one on the pipe is gone, and the other one is on another pipe
  pub off_kept : (o.pipe == p) ≡ false → covers_by h (is_sent c o) ≡ true → covers_by g (is_sent c o) ≡ true
  off_kept n k = ap (λ b. not b || list_any (is_sent c o) g.items) s ∙ go h.whole k
    where
      other : (b : Bool) → is_sent c o l.gone ≡ b → b ≡ false
      other false q = refl
      other true q = let bad : true ≡ false = sym (same_number p) ∙ ap (λ m. m == p) (sym l.on ∙ sent_pipe c o l.gone q) ∙ n in absurd cc

      go : (b : Bool) → (not b || list_any (is_sent c o) h.items) ≡ true → (not b || list_any (is_sent c o) g.items) ≡ true
      go false k = refl
      go true k = still (is_sent c o l.gone) refl (other (is_sent c o l.gone) refl) k

  -- it is the one that is gone, or it is still there
  pub gone_or : list_any (is_sent c o) h.items ≡ true → (list_any (is_sent c o) g.items ≡ true) ⊎ (e ≡ c)
  gone_or k = go (is_sent c o l.gone) refl
    where
      go : (b : Bool) → is_sent c o l.gone ≡ b → (list_any (is_sent c o) g.items ≡ true) ⊎ (e ≡ c)
      go true q = inr (sym l.of ∙ sent_ctx c o l.gone q)
      go false q = inl (still false q refl k)

-- none on the pipe is left
pub none_on : {A : Type 0} (p c : ℕ) (o : LastOut) (es : List SentOut) → NoneOn p es → (o.pipe == p) ≡ true → list_any (is_sent c o) es ≡ true → A
none_on p c o es n e k = let bad : true ≡ false = sym k ∙ n c o (equal_of o.pipe p e) in absurd cc

-- all are looked at, or it is among them
pub looked_or : (h : HintsView SentOut) (P : SentOut → Bool) (B : Type 0) → (h.whole ≡ false → B) → (list_any P h.items ≡ true → B) → covers_by h P ≡ true → B
looked_or h P B a b k = go (known_or h P k)
  where
    go : (h.whole ≡ false) ⊎ (list_any P h.items ≡ true) → B
    go (inl e) = a e
    go (inr e) = b e

-- ---- What a call returned

pub one_in : {A : Type 0} (P : A → Type 0) (r : Option A) (x : A) → r ≡ Some x → IfSome r P → P x
one_in P (Some y) x e h = subst P (some_inj y x e) h
one_in P None x e h = absurd cc

pub none_in : {A : Type 0} (P : Type 0) (r : Option A) → r ≡ None → IfNone r P → P
none_in P None e h = h
none_in P (Some y) e h = absurd cc

-- ---- Cases

pub case_of : {A B D : Type 0} → (A → D) → (B → D) → A ⊎ B → D
case_of f g (inl a) = f a
case_of f g (inr b) = g b

pub whole_or : {D : Type 0} (b : Bool) → (b ≡ false → D) → (b ≡ true → D) → D
whole_or true f g = g refl
whole_or false f g = f refl

-- ---- One more dry context

pub seen_dry : (v : DuesView) (g : HintsView ℕ) (late : LastOut → Bool) (dry now : ℕ → Bool) (last c : ℕ) (xs : List Live) → ((q : ℕ) → (q == c) ≡ false → now q ≡ dry q) → (dry c ≡ true → now c ≡ true) → covers g c ≡ true → ((q : ℕ) → covers v.dry q ≡ true → covers g q ≡ true)
    → AreSeen v late dry last xs → AreSeen (record { due = v.due; dry = g; outs = v.outs }) late now last xs
seen_dry v g late dry now last c xs s d it more h = seen_all v (record { due = v.due; dry = g; outs = v.outs }) late late dry now last last xs (λ q e. known q e (q == c) refl) (λ q o k. both _ _ (first_of _ _ k) (at q o (late o) (second_of _ _ k))) h
  where
    known : (q : ℕ) → now q ≡ true → (b : Bool) → (q == c) ≡ b → covers g q ≡ true
    known q e true f = ap (covers g) (equal_of q c f) ∙ it
    known q e false f = more q (h.1 q (sym (s q f) ∙ e))

    still : (q : ℕ) → dry q ≡ true → (b : Bool) → (q == c) ≡ b → now q ≡ true
    still q e true f = let is = equal_of q c f in ap now is ∙ d (ap dry (sym is) ∙ e)
    still q e false f = s q f ∙ e

    looked : (q : ℕ) (b : Bool) → dry q ≡ b → (b || covers v.due q) ≡ true → (now q || covers v.due q) ≡ true
    looked q true e k = ap (λ b. b || covers v.due q) (still q e (q == c) refl)
    looked q false e k = or_right (now q) (covers v.due q) k

    at : (q : ℕ) (o : LastOut) (b : Bool) → cond b (dry q || covers v.due q) (covers_by v.outs (is_sent q o)) ≡ true → cond b (now q || covers v.due q) (covers_by v.outs (is_sent q o)) ≡ true
    at q o true k = looked q (dry q) refl k
    at q o false k = k

pub on_pipe : (o : LastOut) (p : ℕ) (late : LastOut → Bool) → (late o ≡ true) ⊎ (o.pipe ≡ p) → (late o ≡ true) ⊎ ((o.pipe == p) ≡ true)
on_pipe o p late (inl e) = inl e
on_pipe o p late (inr e) = inr (ap (λ n. n == p) e ∙ same_number p)

-- the next is looked at, or one of the rest is still to be looked at
pub next_or : {A : Type 0} (P : A → Bool) (xs : List A) (i : ℕ) (x : A) (D : Type 0) → i < length xs → x ≡ get_or xs i x → (P x ≡ true → D) → (list_any P (drop i xs) ≡ true) ⊎ D → (list_any P (drop (i + 1) xs) ≡ true) ⊎ D
next_or P xs i x D l e d (inr k) = inr k
next_or P xs i x D l e d (inl k) = go (P x) refl (ap (λ y. P y || list_any P (drop (i + 1) xs)) e ∙ sym (ap (list_any P) (drop_more xs i x l)) ∙ k)
  where
    go : (b : Bool) → P x ≡ b → (b || list_any P (drop (i + 1) xs)) ≡ true → (list_any P (drop (i + 1) xs) ≡ true) ⊎ D
    go true f k = inr (d f)
    go false f k = inl k

-- none is left after the last
pub none_behind : {A : Type 0} (P : A → Bool) (xs : List A) (i : ℕ) (D : Type 0) → length xs ≤ i → (list_any P (drop i xs) ≡ true) ⊎ D → D
none_behind P xs i D l (inr k) = k
none_behind P xs i D l (inl k) = let bad : true ≡ false = sym k ∙ ap (list_any P) (drop_all i xs l) in absurd cc

-- what waits for a reply belongs to a live request
pub awaited_so : (c : ℕ) (o : LastOut) (xs : List Live) → awaited (find (is_live_on c) xs) ≡ Some o → list_any (waits_so c o) xs ≡ true
awaited_so c o [] z = absurd cc
awaited_so c o (x ∷ xs) z = go (x.ctx == c) z (awaited_so c o xs)
  where
    e : SentOut
    e = record { ctx = c; pipe = o.pipe; when = o.when }

    go : (b : Bool) → awaited (cond b (Some x) (find (is_live_on c) xs)) ≡ Some o → (awaited (find (is_live_on c) xs) ≡ Some o → list_any (waits_so c o) xs ≡ true) → (b && is_at e (awaited (Some x)) || list_any (waits_so c o) xs) ≡ true
    go true z again = ap (λ y. is_at e y || list_any (waits_so c o) xs) z ∙ ap (λ b. b || list_any (waits_so c o) xs) (both _ _ (same_number o.pipe) (same_number o.when))
    go false z again = again z

-- more contexts of live requests are looked at, and what waits for no reply is dropped
pub seen_reserved : (v : DuesView) (due dr : HintsView ℕ) (outs : HintsView SentOut) (xs : List Live) (late : LastOut → Bool) (dry : ℕ → Bool) (last : ℕ) → AreDistinct (map live_ctx xs) → ((q : ℕ) → list_any (is_live_on q) xs ≡ true → covers v.due q ≡ true → covers due q ≡ true) → ((q : ℕ) → covers v.dry q ≡ true → covers dr q ≡ true)
    → ((c : ℕ) (o : LastOut) → awaited (find (is_live_on c) xs) ≡ Some o → covers_by v.outs (is_sent c o) ≡ true → covers_by outs (is_sent c o) ≡ true) → AreSeen v late dry last xs → AreSeen (record { due = due; dry = dr; outs = outs }) late dry last xs
seen_reserved v due dr outs xs late dry last a d e k h = seen_live v (record { due = due; dry = dr; outs = outs }) late late dry dry last last xs a (λ q n. e q (h.1 q n)) (λ c o z n. both _ _ (first_of _ _ n) (at c o z (late o) (second_of _ _ n))) h
  where
    looked : (c : ℕ) (b : Bool) → list_any (is_live_on c) xs ≡ true → (b || covers v.due c) ≡ true → (b || covers due c) ≡ true
    looked c true l n = refl
    looked c false l n = d c l n

    at : (c : ℕ) (o : LastOut) → awaited (find (is_live_on c) xs) ≡ Some o → (b : Bool) → cond b (dry c || covers v.due c) (covers_by v.outs (is_sent c o)) ≡ true → cond b (dry c || covers due c) (covers_by outs (is_sent c o)) ≡ true
    at c o z true n = looked c (dry c) (live_at (is_live_on c) xs o z) n
    at c o z false n = k c o z n

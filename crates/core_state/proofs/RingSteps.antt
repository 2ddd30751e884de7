-- Places are put into rings and taken out of them.
use Rattle.std.proofs.Common.{◌≡◌, refl, ap, sym, ◌∙◌, subst, List, [], ◌∷◌, ◌++◌, ℕ, zero, suc, ◌+◌, ◌<◌, ◌≤◌, Bool, true, false, if◌then◌else◌, arith, length, set, inl, inr}
use Rattle.std.specs.Prelude.{◌≢◌, ◌==◌}
use Rattle.std.proofs.lemmas.List.{get_or-set_same, get_or-set_other, length-set, length-append}
use Rattle.std.proofs.lemmas.Bool.Decides.{nat_tests}
use Rattle.core_state.specs.Rings.{at, IsPath, walk, AreAlone}
use Rattle.core_state.specs.Pendings.{IsIn, NotIn, Differ}

-- ---- Numbers

pub same : (i j : ℕ) → (i == j) ≡ true → i ≡ j
same i j h = grind (arith, nat_tests)

pub is_same : (i j : ℕ) → i ≡ j → (i == j) ≡ true
is_same i j h = grind (arith, nat_tests)

pub differs : (i j : ℕ) → i ≢ j → (i == j) ≡ false
differs i j n = go (i == j) refl
  where
    go : (b : Bool) → (i == j) ≡ b → b ≡ false
    go true e = absurd (n (same i j e))
    go false e = refl

pub apart : (xs : List ℕ) (i j : ℕ) → NotIn i xs → IsIn j xs → i ≢ j
apart [] i j n m = absurd m
apart (x ∷ xs) i j n (inl e) = λ s. n.0 (e ∙ sym s)
apart (x ∷ xs) i j n (inr m) = apart xs i j n.1 m

pub not_in : (xs : List ℕ) (i : ℕ) → ((j : ℕ) → IsIn j xs → i ≢ j) → NotIn i xs
not_in [] i h = tt
not_in (x ∷ xs) i h = ((λ s. h x (inl refl) (sym s)), not_in xs i (λ j m. h j (inr m)))

pub in_middle : (fs : List ℕ) (x : ℕ) (gs : List ℕ) → IsIn x (fs ++ x ∷ gs)
in_middle [] x gs = inl refl
in_middle (a ∷ fs) x gs = inr (in_middle fs x gs)

pub not_in-append : (fs gs : List ℕ) (i : ℕ) → NotIn i fs → NotIn i gs → NotIn i (fs ++ gs)
not_in-append [] gs i n m = m
not_in-append (a ∷ fs) gs i n m = (n.0, not_in-append fs gs i n.1 m)

pub not_in-without : (fs : List ℕ) (x : ℕ) (gs : List ℕ) (i : ℕ) → NotIn i (fs ++ x ∷ gs) → (x ≢ i) × NotIn i (fs ++ gs)
not_in-without [] x gs i n = (n.0, n.1)
not_in-without (a ∷ fs) x gs i n = let r = not_in-without fs x gs i n.1 in (r.0, (n.0, r.1))

-- one more, the last
pub differ-last : (xs : List ℕ) (i : ℕ) → Differ xs → NotIn i xs → Differ (xs ++ i ∷ [])
differ-last [] i d n = (tt, tt)
differ-last (x ∷ xs) i d n = (not_in-append xs (i ∷ []) x d.0 ((λ s. n.0 (sym s)), tt), differ-last xs i d.1 n.1)

-- one fewer
pub differ-without : (fs : List ℕ) (x : ℕ) (gs : List ℕ) → Differ (fs ++ x ∷ gs) → Differ (fs ++ gs) × NotIn x (fs ++ gs)
differ-without [] x gs d = (d.1, d.0)
differ-without (a ∷ fs) x gs d =
    let r = differ-without fs x gs d.1 in
    let n = not_in-without fs x gs a d.0 in
    ((n.1, r.0), ((λ s. n.0 (sym s)), r.1))

-- ---- Lists of numbers

at_prefix : (xs ys : List ℕ) (i : ℕ) → i < length xs → at (xs ++ ys) i ≡ at xs i
at_prefix [] ys i l = absurd (omega (arith, l))
at_prefix (x ∷ xs) ys zero l = refl
at_prefix (x ∷ xs) ys (suc i) l = at_prefix xs ys i (omega (arith, l))

at_last : (xs : List ℕ) (y : ℕ) → at (xs ++ y ∷ []) (length xs) ≡ y
at_last [] y = refl
at_last (x ∷ xs) y = at_last xs y

pub one_more : (n : ℕ) (xs ys : List ℕ) → AreAlone n xs → ys ≡ xs ++ n ∷ [] → AreAlone (n + 1) ys
one_more n xs ys h e = record {
  count = omega (arith, ap length e, length-append xs (n ∷ []), h.count);
  each = λ i l. ap (λ (zs : List ℕ). at zs i) e ∙ go i l (i == n) refl;
}
  where
    go : (i : ℕ) → i < n + 1 → (b : Bool) → (i == n) ≡ b → at (xs ++ n ∷ []) i ≡ i
    go i l true f = ap (at (xs ++ n ∷ [])) (same i n f ∙ sym h.count) ∙ at_last xs n ∙ sym (same i n f)
    go i l false f = let less : i < length xs = grind (arith, nat_tests, h.count) in at_prefix xs (n ∷ []) i less ∙ h.each i (omega (arith, less, h.count))

-- ---- Paths

pub last_in : (f b : List ℕ) (a : ℕ) (xs : List ℕ) (e : ℕ) → IsPath f b a xs e → IsIn (at b e) (a ∷ xs)
last_in f b a [] e h = inl (sym h.1)
last_in f b a (x ∷ xs) e h = inr (last_in f b x xs e h.2)

pub before_in : (f b : List ℕ) (a : ℕ) (xs : List ℕ) (e x : ℕ) → IsPath f b a xs e → IsIn x xs → IsIn (at b x) (a ∷ xs)
before_in f b a [] e x h m = absurd m
before_in f b a (y ∷ ys) e x h (inl s) = inl (sym h.1 ∙ ap (at b) s)
before_in f b a (y ∷ ys) e x h (inr m) = inr (before_in f b y ys e x h.2 m)

first_in : (f b : List ℕ) (a : ℕ) (xs : List ℕ) (e : ℕ) → IsPath f b a xs e → IsIn (at f a) (e ∷ xs)
first_in f b a [] e h = inl (sym h.0)
first_in f b a (y ∷ ys) e h = inr (inl (sym h.0))

more_in : (e y i : ℕ) (ys : List ℕ) → IsIn i (e ∷ ys) → IsIn i (e ∷ y ∷ ys)
more_in e y i ys (inl s) = inl s
more_in e y i ys (inr m) = inr (inr m)

pub after_in : (f b : List ℕ) (a : ℕ) (xs : List ℕ) (e x : ℕ) → IsPath f b a xs e → IsIn x xs → IsIn (at f x) (e ∷ xs)
after_in f b a [] e x h m = absurd m
after_in f b a (y ∷ ys) e x h (inl s) = more_in e y (at f x) ys (subst (λ (i : ℕ). IsIn (at f i) (e ∷ ys)) s (first_in f b y ys e h.2))
after_in f b a (y ∷ ys) e x h (inr m) = more_in e y (at f x) ys (after_in f b y ys e x h.2 m)

-- a path stays as it is where something changes elsewhere
pub kept : (f b : List ℕ) (p v q w a : ℕ) (xs : List ℕ) (e : ℕ) → NotIn p (a ∷ xs) → NotIn q (e ∷ xs) → IsPath f b a xs e → IsPath (set f p v) (set b q w) a xs e
kept f b p v q w a [] e n m h = (get_or-set_other f p a v 0 n.0 ∙ h.0, get_or-set_other b q e w 0 m.0 ∙ h.1)
kept f b p v q w a (x ∷ xs) e n m h = (get_or-set_other f p a v 0 n.0 ∙ h.0, get_or-set_other b q x w 0 m.1.0 ∙ h.1, kept f b p v q w x xs e n.1 (m.0, m.1.1) h.2)

-- a place is put before the end
pub put_at : (f b : List ℕ) (x e a : ℕ) (xs : List ℕ) → IsPath f b a xs e → Differ (a ∷ xs) → NotIn e xs → NotIn x (a ∷ xs) → e ≢ x → at b e < length f → x < length f → e < length b → x < length b
    → IsPath (set (set f (at b e) x) x e) (set (set b e x) x (at b e)) a (xs ++ x ∷ []) e
put_at f b x e a [] h d n m o lf xf eb xb =
    let xf' : x < length (set f (at b e) x) = omega (arith, xf, length-set f (at b e) x) in
    let xb' : x < length (set b e x) = omega (arith, xb, length-set b e x) in (
      get_or-set_other (set f (at b e) x) x a e 0 m.0 ∙ ap (at (set f (at b e) x)) (sym h.1) ∙ get_or-set_same f (at b e) x 0 lf,
      get_or-set_same (set b e x) x (at b e) 0 xb' ∙ h.1,
      (get_or-set_same (set f (at b e) x) x e 0 xf', get_or-set_other (set b e x) x e (at b e) 0 o ∙ get_or-set_same b e x 0 eb),
    )
put_at f b x e a (y ∷ ys) h d n m o lf xf eb xb =
    let far : a ≢ at b e = apart (y ∷ ys) a (at b e) d.0 (last_in f b y ys e h.2) in (
      get_or-set_other (set f (at b e) x) x a e 0 m.0 ∙ get_or-set_other f (at b e) a x 0 far ∙ h.0,
      get_or-set_other (set b e x) x y (at b e) 0 m.1.0 ∙ get_or-set_other b e y x 0 n.0 ∙ h.1,
      put_at f b x e y ys h.2 d.1 n.1 m.1 o lf xf eb xb,
    )

-- a place is taken out
pub removed : (f b : List ℕ) (x e a : ℕ) (fs gs : List ℕ) → IsPath f b a (fs ++ x ∷ gs) e → Differ (a ∷ (fs ++ x ∷ gs)) → NotIn e (fs ++ x ∷ gs) → at b x < length f → at f x < length b → IsPath (set f (at b x) (at f x)) (set b (at f x) (at b x)) a (fs ++ gs) e
removed f b x e a [] [] h d n lf lb =
    (ap (at (set f (at b x) (at f x))) (sym h.1) ∙ get_or-set_same f (at b x) (at f x) 0 lf ∙ h.2.0, ap (at (set b (at f x) (at b x))) (sym h.2.0) ∙ get_or-set_same b (at f x) (at b x) 0 lb ∙ h.1)
removed f b x e a [] (z ∷ zs) h d n lf lb =
    let far : NotIn (at b x) (z ∷ zs) = subst (λ (i : ℕ). NotIn i (z ∷ zs)) (sym h.1) d.0.1 in
    let off : NotIn (at f x) (e ∷ zs) = subst (λ (i : ℕ). NotIn i (e ∷ zs)) (sym h.2.0) ((λ s. n.1.0 (sym s)), d.1.1.0) in (
      ap (at (set f (at b x) (at f x))) (sym h.1) ∙ get_or-set_same f (at b x) (at f x) 0 lf ∙ h.2.0,
      ap (at (set b (at f x) (at b x))) (sym h.2.0) ∙ get_or-set_same b (at f x) (at b x) 0 lb ∙ h.1,
      kept f b (at b x) (at f x) (at f x) (at b x) z zs e far off h.2.2,
    )
removed f b x e a (y ∷ ys) gs h d n lf lb =
    let there = in_middle ys x gs in
    let far : a ≢ at b x = apart (y ∷ (ys ++ x ∷ gs)) a (at b x) d.0 (before_in f b y (ys ++ x ∷ gs) e x h.2 there) in
    let off : y ≢ at f x = apart (e ∷ (ys ++ x ∷ gs)) y (at f x) ((λ s. n.0 (sym s)), d.1.0) (after_in f b y (ys ++ x ∷ gs) e x h.2 there) in
    (get_or-set_other f (at b x) a (at f x) 0 far ∙ h.0, get_or-set_other b (at f x) y (at b x) 0 off ∙ h.1, removed f b x e y ys gs h.2 d.1 n.1 lf lb)

-- the walk along a path
pub walked : (f b : List ℕ) (most a : ℕ) (xs : List ℕ) (e : ℕ) → IsPath f b a xs e → NotIn e xs → length xs ≤ most → walk f most a e ≡ xs
walked f b zero a [] e h n l = refl
walked f b zero a (x ∷ xs) e h n l = absurd (omega (arith, l))
walked f b (suc most) a [] e h n l = rw (is_same (at f a) e h.0) refl
walked f b (suc most) a (x ∷ xs) e h n l =
    subst (λ (i : ℕ). (if i == e then [] else i ∷ walk f most i e) ≡ x ∷ xs) (sym h.0) (rw (differs x e n.0) (ap (λ (ys : List ℕ). x ∷ ys) (walked f b most x xs e h.2 n.1 (omega (arith, l)))))

-- Places of links: each is in progress at most once.
use Rattle.std.proofs.Common.{◌≡◌, refl, ap, sym, ◌∙◌, subst, List, [], ◌∷◌, ◌++◌, ℕ, ◌≤◌, ◌<◌, Bool, true, false, cond, arith, Option, Some, None, eq-eqb, eqb-true, inl, inr}
use Rattle.std.specs.Prelude.{◌==◌, not, ◌||◌, ◌&&◌, ◌⊎◌, IsTrue, is_none, is_some, nat_le, nat_lt, ⊤}
use Rattle.std.proofs.lemmas.Bool.Decides.{nat_tests}
use Rattle.sp_history.specs.declared.entry.Entry.{Entry}
use Rattle.sp_history.specs.declared.entry.Entry.TheVariants.{Up, Met, NoUp}
use Rattle.sp_history.specs.Lists.{has, without}
use Rattle.sp_history.specs.Once.{AreDistinct}
use Rattle.sp_history.specs.Past.{now}
use Rattle.sp_ends.specs.Entries.{each}
use Rattle.sp_ends.specs.LinkRecords.{lane_place, place_of, met_at, greeting, keeps_places, Each}
use Rattle.sp_history.proofs.Wiring.{has_before}
use Rattle.sp_ends.specs.RunLinks.{is_over_link}

-- ---- Tests

pub left_of : (a b : Bool) → (a && b) ≡ true → a ≡ true
left_of true b h = refl
left_of false b h = cc

pub right_of : (a b : Bool) → (a && b) ≡ true → b ≡ true
right_of true b h = h
right_of false b h = cc

or_left : (a b : Bool) → (a || b) ≡ false → a ≡ false
or_left true b h = cc
or_left false b h = refl

or_right : (a b : Bool) → (a || b) ≡ false → b ≡ false
or_right true b h = cc
or_right false b h = h

neither : (a b : Bool) → a ≡ false → b ≡ false → (a || b) ≡ false
neither true b h k = cc
neither false b h k = k

-- ---- Lists of numbers

pub has_append : (a b : List ℕ) (x : ℕ) → has (a ++ b) x ≡ (has a x || has b x)
has_append [] b x = refl
has_append (y ∷ a) b x = go (y == x) (has_append a b x)
  where
    go : (t : Bool) → has (a ++ b) x ≡ (has a x || has b x) → (t || has (a ++ b) x) ≡ ((t || has a x) || has b x)
    go true e = refl
    go false e = e

pub has_at : (a b : List ℕ) (x : ℕ) → has (a ++ x ∷ b) x ≡ true
has_at a b x = has_append a (x ∷ b) x ∙ go (has a x) (x == x) (eq-eqb x x refl)
  where
    go : (t u : Bool) → u ≡ true → (t || (u || has b x)) ≡ true
    go true u e = refl
    go false u e = rw e refl

pub not_without : (xs : List ℕ) (x y : ℕ) → has xs y ≡ false → has (without xs x) y ≡ false
not_without [] x y h = h
not_without (m ∷ xs) x y h = go (m == x) (or_left (m == y) (has xs y) h) (not_without xs x y (or_right (m == y) (has xs y) h))
  where
    go : (out : Bool) → (m == y) ≡ false → has (without xs x) y ≡ false → has (cond (not out) (m ∷ without xs x) (without xs x)) y ≡ false
    go true e n = n
    go false e n = rw (e, n) refl

pub gone : (xs : List ℕ) (x : ℕ) → has (without xs x) x ≡ false
gone [] x = refl
gone (m ∷ xs) x = go (m == x) refl (gone xs x)
  where
    go : (out : Bool) → (m == x) ≡ out → has (without xs x) x ≡ false → has (cond (not out) (m ∷ without xs x) (without xs x)) x ≡ false
    go true e n = n
    go false e n = rw (e, n) refl

pub absent : (xs : List ℕ) (x : ℕ) → has xs x ≡ false → without xs x ≡ xs
absent [] x h = refl
absent (m ∷ xs) x h = rw (or_left (m == x) (has xs x) h) (ap (λ (ys : List ℕ). m ∷ ys) (absent xs x (or_right (m == x) (has xs x) h)))

pub distinct_without : (xs : List ℕ) (x : ℕ) → AreDistinct xs → AreDistinct (without xs x)
distinct_without [] x d = tt
distinct_without (m ∷ xs) x d = go (m == x) (not_without xs x m d.0) (distinct_without xs x d.1)
  where
    go : (out : Bool) → has (without xs x) m ≡ false → AreDistinct (without xs x) → AreDistinct (cond (not out) (m ∷ without xs x) (without xs x))
    go true n r = r
    go false n r = (n, r)

pub distinct_more : (xs : List ℕ) (x : ℕ) → AreDistinct xs → has xs x ≡ false → AreDistinct (xs ++ x ∷ [])
distinct_more [] x d n = (refl, tt)
distinct_more (y ∷ xs) x d n = (has_append xs (x ∷ []) y ∙ (neither (has xs y) ((x == y) || false) d.0 (neither (x == y) false (turned (y == x) refl (or_left (y == x) (has xs x) n)) refl)), distinct_more xs x d.1 (or_right (y == x) (has xs x) n))
  where
    turned : (b : Bool) → (y == x) ≡ b → b ≡ false → (x == y) ≡ false
    turned b e f = go (x == y) refl
      where
        go : (c : Bool) → (x == y) ≡ c → c ≡ false
        go false g = refl
        go true g = let a : x ≡ y = grind (arith, nat_tests) in let h : (y == x) ≡ true = eq-eqb y x (sym a) in cc

-- an element of a list without repetitions is taken out at its place
pub taken_out : (a b : List ℕ) (x : ℕ) → AreDistinct (a ++ x ∷ b) → without (a ++ x ∷ b) x ≡ a ++ b
taken_out [] b x d = rw (eq-eqb x x refl) (absent b x d.0)
taken_out (y ∷ a) b x d = rw (other (y == x) refl) (ap (λ (ys : List ℕ). y ∷ ys) (taken_out a b x d.1))
  where
    other : (t : Bool) → (y == x) ≡ t → (y == x) ≡ false
    other false e = e
    other true e = let same : y ≡ x = grind (arith, nat_tests) in let no : has (a ++ x ∷ b) x ≡ false = subst (λ (n : ℕ). has (a ++ x ∷ b) n ≡ false) same d.0 in let is : has (a ++ x ∷ b) x ≡ true = has_at a b x in cc

-- ---- Links in progress

abbrev pub Over : List Entry → Type 0
Over past = IsTrue (each is_over_link past)

-- a pipe that isn't over lanes came up over a link in progress
pub over_of : (past : List Entry) (place : ℕ) → (place ≡ lane_place → ⊥) → ((place == lane_place) || has (greeting past) place) ≡ true → has (greeting past) place ≡ true
over_of past place n h = go (place == lane_place) refl h
  where
    go : (t : Bool) → (place == lane_place) ≡ t → (t || has (greeting past) place) ≡ true → has (greeting past) place ≡ true
    go true e x = absurd (n (eqb-true place lane_place e))
    go false e x = x

module _ (first opened : ℕ) where
  abbrev pub Kept : List Entry → Type 0
  Kept past = IsTrue (each (keeps_places first opened) past)

  -- a link in progress was met
  pub unmet : (past : List Entry) (place : ℕ) → met_at past place ≡ None → has (greeting past) place ≡ false
  unmet [] place h = refl
  unmet (Met other ∷ past) place h = go (other == place) refl h (unmet past place)
    where
      go : (t : Bool) → (other == place) ≡ t → cond t (Some (now past)) (met_at past place) ≡ None → (met_at past place ≡ None → has (greeting past) place ≡ false) → has (greeting past ++ other ∷ []) place ≡ false
      go true e n before = cc
      go false e n before = has_append (greeting past) (other ∷ []) place ∙ neither (has (greeting past) place) ((other == place) || false) (before n) (rw e refl)
  unmet (Up p other limit name ∷ past) place h = not_without (greeting past) other place (unmet past place h)
  unmet (NoUp other miss ∷ past) place h = not_without (greeting past) other place (unmet past place h)
  unmet (_ ∷ past) place h = unmet past place h

  is_none_eq : (m : Option ℕ) → is_none m ≡ true → m ≡ None
  is_none_eq None h = refl
  is_none_eq (Some n) h = cc

  pub fresh_met : (past : List Entry) (place : ℕ) → keeps_places first opened past (Met place) ≡ true → met_at past place ≡ None
  fresh_met past place h = is_none_eq (met_at past place) (right_of (nat_le first place && nat_lt place opened) (is_none (met_at past place)) h)

  -- each is in progress at most once
  pub apart : (past : List Entry) → Kept past → AreDistinct (greeting past)
  apart [] k = tt
  apart (Met place ∷ past) k = distinct_more (greeting past) place (apart past (right_of _ _ k)) (unmet past place (fresh_met past place (left_of _ _ k)))
  apart (Up p place limit name ∷ past) k = distinct_without (greeting past) place (apart past (right_of _ _ k))
  apart (NoUp place miss ∷ past) k = distinct_without (greeting past) place (apart past (right_of _ _ k))
  apart (_ ∷ past) k = apart past k

  below_met : (past : List Entry) (place : ℕ) → keeps_places first opened past (Met place) ≡ true → (first ≤ place) × (place < opened)
  below_met past place h =
      let both = left_of (nat_le first place && nat_lt place opened) (is_none (met_at past place)) h in
      let low = left_of (nat_le first place) (nat_lt place opened) both in
      let high = right_of (nat_le first place) (nat_lt place opened) both in (grind (arith, nat_tests), grind (arith, nat_tests))

  -- a link that was met is a link of the run
  pub met_inside : (past : List Entry) (place : ℕ) → Kept past → is_some (met_at past place) ≡ true → (first ≤ place) × (place < opened)
  met_inside [] place k h = cc
  met_inside (Met other ∷ past) place k h = go (other == place) refl h (met_inside past place (right_of _ _ k))
    where
      go : (t : Bool) → (other == place) ≡ t → is_some (cond t (Some (now past)) (met_at past place)) ≡ true → (is_some (met_at past place) ≡ true → (first ≤ place) × (place < opened)) → (first ≤ place) × (place < opened)
      go true e n before = let same : other ≡ place = grind (arith, nat_tests) in subst (λ (q : ℕ). (first ≤ q) × (q < opened)) same (below_met past other (left_of _ _ k))
      go false e n before = before n
  met_inside (Up p other limit name ∷ past) place k h = met_inside past place (right_of _ _ k) h
  met_inside (NoUp other miss ∷ past) place k h = met_inside past place (right_of _ _ k) h
  met_inside (_ ∷ past) place k h = met_inside past place k h

  -- a link in progress was met
  pub was_met : (past : List Entry) (place : ℕ) → has (greeting past) place ≡ true → is_some (met_at past place) ≡ true
  was_met past place h = go (met_at past place) refl
    where
      go : (m : Option ℕ) → met_at past place ≡ m → is_some (met_at past place) ≡ true
      go (Some n) e = rw e refl
      go None e = let no = unmet past place e in cc

  pub inside : (past : List Entry) (place : ℕ) → Kept past → has (greeting past) place ≡ true → (first ≤ place) × (place < opened)
  inside past place k h = met_inside past place k (was_met past place h)

  -- a pipe came up over a link that was met, or over none
  pub up_met : (past : List Entry) (p place : ℕ) → Kept past → place_of past p ≡ Some place → (place ≡ lane_place) ⊎ (is_some (met_at past place) ≡ true)
  up_met [] p place k h = cc
  up_met (Met other ∷ past) p place k h = go (other == place) (up_met past p place (right_of _ _ k) h)
    where
      go : (t : Bool) → (place ≡ lane_place) ⊎ (is_some (met_at past place) ≡ true) → (place ≡ lane_place) ⊎ (is_some (cond t (Some (now past)) (met_at past place)) ≡ true)
      go true b = inr refl
      go false b = b
  up_met (Up q other limit name ∷ past) p place k h = go (q == p) h (left_of _ _ k) (up_met past p place (right_of _ _ k))
    where
      either : (t : Bool) → (other == lane_place) ≡ t → (t || has (greeting past) other) ≡ true → (other ≡ lane_place) ⊎ (is_some (met_at past other) ≡ true)
      either true e n = inl (eqb-true other lane_place e)
      either false e n = inr (was_met past other n)

      go : (t : Bool) → cond t (Some other) (place_of past p) ≡ Some place → keeps_places first opened past (Up q other limit name) ≡ true → (place_of past p ≡ Some place → (place ≡ lane_place) ⊎ (is_some (met_at past place) ≡ true)) → (place ≡ lane_place) ⊎ (is_some (met_at past place) ≡ true)
      go true e n before = let same : other ≡ place = cc in subst (λ (m : ℕ). (m ≡ lane_place) ⊎ (is_some (met_at past m) ≡ true)) same (either (other == lane_place) refl n)
      go false e n before = before e
  up_met (NoUp other miss ∷ past) p place k h = up_met past p place (right_of _ _ k) h
  up_met (_ ∷ past) p place k h = up_met past p place k h

  -- a link over which a pipe came up is no longer in progress
  pub passed : (past : List Entry) (p place : ℕ) → Kept past → (first < opened → opened ≤ lane_place) → place_of past p ≡ Some place → has (greeting past) place ≡ false
  passed [] p place k few h = cc
  passed (Met other ∷ past) p place k few h = has_append (greeting past) (other ∷ []) place ∙ neither (has (greeting past) place) ((other == place) || false) (passed past p place (right_of _ _ k) few h) (neither (other == place) false (new (other == place) refl (up_met past p place (right_of _ _ k) h)) refl)
    where
      there : keeps_places first opened past (Met other) ≡ true
      there = left_of _ _ k

      none : met_at past other ≡ None
      none = fresh_met past other there

      new : (t : Bool) → (other == place) ≡ t → (place ≡ lane_place) ⊎ (is_some (met_at past place) ≡ true) → (other == place) ≡ false
      new false e u = e
      new true e (inl lane) = let b = below_met past other there in let same : other ≡ place = eqb-true other place e in let f = few (omega arith) in absurd (omega (arith, lane))
      new true e (inr met) = let same : other ≡ place = eqb-true other place e in let no : met_at past place ≡ None = subst (λ (m : ℕ). met_at past m ≡ None) same none in cc
  passed (Up q other limit name ∷ past) p place k few h = go (q == p) h (passed past p place (right_of _ _ k) few)
    where
      go : (t : Bool) → cond t (Some other) (place_of past p) ≡ Some place → (place_of past p ≡ Some place → has (greeting past) place ≡ false) → has (without (greeting past) other) place ≡ false
      go true e before = let same : other ≡ place = cc in subst (λ (n : ℕ). has (without (greeting past) other) n ≡ false) same (gone (greeting past) other)
      go false e before = not_without (greeting past) other place (before e)
  passed (NoUp other miss ∷ past) p place k few h = not_without (greeting past) other place (passed past p place (right_of _ _ k) few h)
  passed (_ ∷ past) p place k few h = passed past p place k few h

  -- ---- Links that were missed

  -- a link that was missed is a different link
  abbrev pub IsOther : ℕ → List Entry → Entry → Type 0
  IsOther here past (NoUp place miss) = place ≡ here → ⊥
  IsOther here past _ = ⊤

  no_place : (past : List Entry) (place here : ℕ) → has (greeting past) place ≡ true → has (greeting past) here ≡ false → place ≡ here → ⊥
  no_place past place here h n e = let no : has (greeting past) place ≡ false = subst (λ (m : ℕ). has (greeting past) m ≡ false) (sym e) n in cc

  pub unmet_others : (past : List Entry) (here : ℕ) → Kept past → met_at past here ≡ None → Each (IsOther here) past
  unmet_others [] here k h = tt
  unmet_others (Met other ∷ past) here k h = (tt, go (other == here) refl h (unmet_others past here (right_of _ _ k)))
    where
      go : (t : Bool) → (other == here) ≡ t → cond t (Some (now past)) (met_at past here) ≡ None → (met_at past here ≡ None → Each (IsOther here) past) → Each (IsOther here) past
      go true e n f = cc
      go false e n f = f n
  unmet_others (Up p other limit name ∷ past) here k h = (tt, unmet_others past here (right_of _ _ k) h)
  unmet_others (NoUp other miss ∷ past) here k h = (no_place past other here (left_of _ _ k) (unmet past here h), unmet_others past here (right_of _ _ k) h)
  unmet_others (_ ∷ past) here k h = (tt, unmet_others past here k h)

  -- those that were missed are not the one in progress
  pub others_missed : (past : List Entry) (here : ℕ) → Kept past → has (greeting past) here ≡ true → Each (IsOther here) past
  others_missed [] here k h = tt
  others_missed (Met other ∷ past) here k h = (tt, go (has (greeting past) here) refl (has_append (greeting past) (other ∷ []) here) (others_missed past here (right_of _ _ k)))
    where
      new : (t u : Bool) → (other == here) ≡ t → has (greeting past ++ other ∷ []) here ≡ (u || (t || false)) → u ≡ false → Each (IsOther here) past
      new true u e a f = let same : other ≡ here = eqb-true other here e in unmet_others past here (right_of _ _ k) (subst (λ (m : ℕ). met_at past m ≡ None) same (fresh_met past other (left_of _ _ k)))
      new false true e a f = cc
      new false false e a f = let no : has (greeting past ++ other ∷ []) here ≡ false = a in cc

      go : (t : Bool) → has (greeting past) here ≡ t → has (greeting past ++ other ∷ []) here ≡ (has (greeting past) here || ((other == here) || false)) → (has (greeting past) here ≡ true → Each (IsOther here) past) → Each (IsOther here) past
      go true e a f = f e
      go false e a f = new (other == here) (has (greeting past) here) refl a e
  others_missed (Up p other limit name ∷ past) here k h = (tt, others_missed past here (right_of _ _ k) (has_before (greeting past) other here h))
  others_missed (NoUp other miss ∷ past) here k h = (apart_from, others_missed past here (right_of _ _ k) (has_before (greeting past) other here h))
    where
      apart_from : other ≡ here → ⊥
      apart_from e = let no : has (without (greeting past) other) here ≡ false = subst (λ (m : ℕ). has (without (greeting past) other) m ≡ false) e (gone (greeting past) other) in cc
  others_missed (_ ∷ past) here k h = (tt, others_missed past here k h)

  module _ (few : first < opened → opened ≤ lane_place) where
    -- a pipe that isn't over lanes came up over a link of the run
    pub up_inside : (past : List Entry) (p place : ℕ) → Kept past → Over past → place_of past p ≡ Some place → (place ≡ lane_place → ⊥) → (first ≤ place) × (place < opened)
    up_inside [] p place k o h n = cc
    up_inside (Up q other limit name ∷ past) p place k o h n = go (q == p) h (up_inside past p place (right_of _ _ k) (right_of _ _ o))
      where
        go : (t : Bool) → cond t (Some other) (place_of past p) ≡ Some place → (place_of past p ≡ Some place → (place ≡ lane_place → ⊥) → (first ≤ place) × (place < opened)) → (first ≤ place) × (place < opened)
        go true e f = let same : other ≡ place = cc in subst (λ (m : ℕ). (first ≤ m) × (m < opened)) same (inside past other (right_of _ _ k) (over_of past other (λ l. n (sym same ∙ l)) (left_of _ _ o)))
        go false e f = f e n
    up_inside (Met other ∷ past) p place k o h n = up_inside past p place (right_of _ _ k) o h n
    up_inside (NoUp other miss ∷ past) p place k o h n = up_inside past p place (right_of _ _ k) o h n
    up_inside (_ ∷ past) p place k o h n = up_inside past p place k o h n

    -- those that were missed are not the one that came up
    pub others_up : (past : List Entry) (p here : ℕ) → Kept past → Over past → place_of past p ≡ Some here → (here ≡ lane_place → ⊥) → Each (IsOther here) past
    others_up [] p here k o h n = tt
    others_up (Up q other limit name ∷ past) p here k o h n = (tt, go (q == p) h (others_up past p here (right_of _ _ k) (right_of _ _ o)))
      where
        go : (t : Bool) → cond t (Some other) (place_of past p) ≡ Some here → (place_of past p ≡ Some here → (here ≡ lane_place → ⊥) → Each (IsOther here) past) → Each (IsOther here) past
        go true e f = let same : other ≡ here = cc in others_missed past here (right_of _ _ k) (subst (λ (m : ℕ). has (greeting past) m ≡ true) same (over_of past other (λ l. n (sym same ∙ l)) (left_of _ _ o)))
        go false e f = f e n
    others_up (Met other ∷ past) p here k o h n = (tt, others_up past p here (right_of _ _ k) o h n)
    others_up (NoUp other miss ∷ past) p here k o h n = (no_place past other here (left_of _ _ k) (passed past p here (right_of _ _ k) few h), others_up past p here (right_of _ _ k) o h n)
    others_up (_ ∷ past) p here k o h n = (tt, others_up past p here k o h n)

    -- one pipe at most comes up over a link
    pub up_once : (past : List Entry) (p q place : ℕ) → Kept past → Over past → place_of past p ≡ Some place → place_of past q ≡ Some place → (place ≡ lane_place → ⊥) → p ≡ q
    up_once [] p q place k o h g n = cc
    up_once (Up s other limit name ∷ past) p q place k o h g n = go (s == p) refl (s == q) refl h g (up_once past p q place (right_of _ _ k) (right_of _ _ o))
      where
        clash : (r : ℕ) → other ≡ place → place_of past r ≡ Some place → ⊥
        clash r e x =
            let there : has (greeting past) other ≡ true = over_of past other (λ l. n (sym e ∙ l)) (left_of _ _ o) in
            let no = passed past r place (right_of (keeps_places first opened past (Up s other limit name)) (each (keeps_places first opened) past) k) few x in no_place past other place there no e

        go : (t : Bool) → (s == p) ≡ t → (u : Bool) → (s == q) ≡ u → cond t (Some other) (place_of past p) ≡ Some place → cond u (Some other) (place_of past q) ≡ Some place → (place_of past p ≡ Some place → place_of past q ≡ Some place → (place ≡ lane_place → ⊥) → p ≡ q) → p ≡ q
        go true e true f x y before = sym (eqb-true s p e) ∙ eqb-true s q f
        go true e false f x y before = let same : other ≡ place = cc in absurd (clash q same y)
        go false e true f x y before = let same : other ≡ place = cc in absurd (clash p same x)
        go false e false f x y before = before x y n
    up_once (Met other ∷ past) p q place k o h g n = up_once past p q place (right_of _ _ k) o h g n
    up_once (NoUp other miss ∷ past) p q place k o h g n = up_once past p q place (right_of _ _ k) o h g n
    up_once (_ ∷ past) p q place k o h g n = up_once past p q place k o h g n

    -- no link has the place of lanes
    pub no_lane : (past : List Entry) → Kept past → has (greeting past) lane_place ≡ false
    no_lane past k = go (has (greeting past) lane_place) refl
      where
        go : (t : Bool) → has (greeting past) lane_place ≡ t → has (greeting past) lane_place ≡ false
        go false e = e
        go true e = let b = inside past lane_place k e in let f = few (omega (arith, b.0, b.1)) in absurd (omega (arith, b.1, f))

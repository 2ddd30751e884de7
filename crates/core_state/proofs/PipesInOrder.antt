-- The pipes that are up are in the order of their numbers, so a number is found by halving.
use Rattle.std.proofs.Common.{◌≡◌, refl, ap, sym, ◌∙◌, List, [], ◌∷◌, ◌++◌, ℕ, zero, suc, ◌<◌, ◌≤◌, Bool, true, false, cond, arith, length, get_or, subst, Some, None}
use Rattle.std.specs.Prelude.{◌==◌, ◌||◌, not, nat_lt, is_some, Option, ◌+◌}
use Rattle.std.specs.List.Sorted.{IsPartitionedBy, IsPartitionPoint}
use Rattle.std.proofs.lemmas.List.{get_or-map, length-map}
use Rattle.std.proofs.lemmas.Bool.Decides.{nat_tests}
use Rattle.sp_history.specs.declared.entry.Entry.{Entry}
use Rattle.sp_history.specs.declared.entry.Entry.TheVariants.{Up, Down}
use Rattle.sp_history.specs.declared.setting.Setting.{Setting}
use Rattle.sp_msg.specs.Views.{WireView}
use Rattle.sp_history.specs.Legal.{Allowed}
use Rattle.sp_history.specs.Lists.{has, without}
use Rattle.sp_history.specs.Past.{up, ups}
use Rattle.sp_history.specs.Moments.{Moment, past, Lawful}
use Rattle.core_state.specs.declared.pipes.PipePlace.{PipePlace}
use Rattle.core_state.specs.declared.pipes.Pipes.{Pipes}
use Rattle.core_state.specs.Pipes.{UpPipe, ids, numbers, before_others, held, up_pipe, is_below, IsRising, IsPipeAt, PipesStand}
use Rattle.core_state.specs.PartSteps.{IsFirstAbove, NoneAbove}
use Rattle.core_state.proofs.Lawfuls.{by_steps}
use Rattle.core_state.proofs.ChangedWires.{Numbered, numbered_next, has_at, equal_numbers, same_number}
use Rattle.core_state.proofs.PipeSteps.{some_at, placed_once, up_at}

after : (b c : Bool) → c ≡ true → (b || c) ≡ true
after true c h = refl
after false c h = h

above_more : (xs : List ℕ) (x q y : ℕ) → x < q → ((z : ℕ) → has xs z ≡ true → x < z) → has (xs ++ q ∷ []) y ≡ true → x < y
above_more [] x q y l all e = go (q == y) refl e
  where
    go : (b : Bool) → (q == y) ≡ b → (b || false) ≡ true → x < y
    go true f u = let same : q ≡ y = equal_numbers q y f in omega (arith, same, l)
    go false f u = absurd cc
above_more (w ∷ xs) x q y l all e = go (w == y) refl e (above_more xs x q y l (λ z m. all z (after (w == z) (has xs z) m)))
  where
    go : (b : Bool) → (w == y) ≡ b → (b || has (xs ++ q ∷ []) y) ≡ true → (has (xs ++ q ∷ []) y ≡ true → x < y) → x < y
    go true f u again = all y (ap (λ (b : Bool). b || has xs y) f)
    go false f u again = again u

pub in_longer : (xs ys : List ℕ) (y : ℕ) → has xs y ≡ true → has (xs ++ ys) y ≡ true
in_longer [] ys y e = absurd cc
in_longer (x ∷ xs) ys y e = go (x == y) e (in_longer xs ys y)
  where
    go : (b : Bool) → (b || has xs y) ≡ true → (has xs y ≡ true → has (xs ++ ys) y ≡ true) → (b || has (xs ++ ys) y) ≡ true
    go true m again = refl
    go false m again = again m

last_not : (xs : List ℕ) (q y : ℕ) → has xs y ≡ false → (q == y) ≡ false → has (xs ++ q ∷ []) y ≡ false
last_not [] q y h e = rw e refl
last_not (x ∷ xs) q y h e = go (x == y) h (λ k. last_not xs q y k e)
  where
    go : (b : Bool) → (b || has xs y) ≡ false → (has xs y ≡ false → has (xs ++ q ∷ []) y ≡ false) → (b || has (xs ++ q ∷ []) y) ≡ false
    go true m again = absurd cc
    go false m again = again m

rising_more : (xs : List ℕ) (q : ℕ) → IsRising xs → ((y : ℕ) → has xs y ≡ true → y < q) → IsRising (xs ++ q ∷ [])
rising_more [] q h k = (λ y e. absurd cc, tt)
rising_more (x ∷ xs) q h k =
    (λ y e. above_more xs x q y (k x (ap (λ (b : Bool). b || has xs x) (same_number x))) h.0 e, rising_more xs q h.1 (λ y e. k y (after (x == y) (has xs y) e)))

left_in : (xs : List ℕ) (q y : ℕ) → has (without xs q) y ≡ true → has xs y ≡ true
left_in [] q y e = e
left_in (x ∷ xs) q y e = go (x == q) e (left_in xs q y)
  where
    go : (b : Bool) → has (cond (not b) (x ∷ without xs q) (without xs q)) y ≡ true → (has (without xs q) y ≡ true → has xs y ≡ true) → ((x == y) || has xs y) ≡ true
    go true m again = after (x == y) (has xs y) (again m)
    go false m again = keep (x == y) m again
      where
        keep : (b : Bool) → (b || has (without xs q) y) ≡ true → (has (without xs q) y ≡ true → has xs y ≡ true) → (b || has xs y) ≡ true
        keep true m again = refl
        keep false m again = again m

rising_without : (xs : List ℕ) (q : ℕ) → IsRising xs → IsRising (without xs q)
rising_without [] q h = h
rising_without (x ∷ xs) q h = go (x == q) (rising_without xs q h.1)
  where
    go : (b : Bool) → IsRising (without xs q) → IsRising (cond (not b) (x ∷ without xs q) (without xs q))
    go true k = k
    go false k = (λ y e. h.0 y (left_in xs q y e), k)

rising_next : (z : Setting) (k : ℕ) (before : List Entry) (e : Entry) → Numbered before × IsRising (up before) → Allowed z k before e → Numbered (e ∷ before) × IsRising (up (e ∷ before))
rising_next z k before (Up q place limit name) h a =
    (numbered_next z k before (Up q place limit name) h.0 a, rising_more (up before) q h.1 (λ y e. low y e))
  where
    low : (y : ℕ) → has (up before) y ≡ true → y < q
    low y e = go (nat_lt y q) refl
      where
        go : (b : Bool) → nat_lt y q ≡ b → y < q
        go true f = grind (arith, nat_tests)
        go false f =
            let high : q ≤ y = grind (arith, nat_tests) in
            let none : has (up before) y ≡ false = (h.0.1 y (omega (arith, high, a.itself.0))).0 in
            absurd cc
rising_next z k before (Down q why) h a = (numbered_next z k before (Down q why) h.0 a, rising_without (up before) q h.1)
rising_next z k before e h a = (numbered_next z k before e h.0 a, h.1)

pub ups_rising : (t : Moment) → Lawful t → IsRising (up (past t))
ups_rising t l = (by_steps t (λ before. Numbered before × IsRising (up before)) ((tt, λ p m. (refl, refl), λ p u. refl), tt) (λ k before e h a. rising_next t.z k before e h a) l).1

-- no number is 0
above_zero : (z : Setting) (k : ℕ) (before : List Entry) (e : Entry) → has (up before) 0 ≡ false → Allowed z k before e → has (up (e ∷ before)) 0 ≡ false
above_zero z k before (Up q place limit name) h a = last_not (up before) q 0 h (let n = a.itself.0 in go (q == 0) refl n)
  where
    go : (b : Bool) → (q == 0) ≡ b → q ≡ ups before + 1 → (q == 0) ≡ false
    go false e n = e
    go true e n = let none : q ≡ 0 = equal_numbers q 0 e in absurd (omega (arith, none, n))
above_zero z k before (Down q why) h a = go (has (without (up before) q) 0) refl
  where
    go : (b : Bool) → has (without (up before) q) 0 ≡ b → has (without (up before) q) 0 ≡ false
    go false e = e
    go true e = let there : has (up before) 0 ≡ true = left_in (up before) q 0 e in absurd cc
above_zero z k before e h a = h

pub none_zero : (t : Moment) → Lawful t → has (up (past t)) 0 ≡ false
none_zero t l = by_steps t (λ before. has (up before) 0 ≡ false) refl (λ k before e h a. above_zero t.z k before e h a) l

-- ---- Numbers that rise

pub rising_part : (xs ys : List ℕ) → IsRising (xs ++ ys) → IsRising xs
rising_part [] ys h = tt
rising_part (x ∷ xs) ys h = (λ y e. h.0 y (in_longer xs ys y e), rising_part xs ys h.1)

last_in : (xs : List ℕ) (q : ℕ) → has (xs ++ q ∷ []) q ≡ true
last_in [] q = ap (λ (b : Bool). b || false) (same_number q)
last_in (x ∷ xs) q = after (x == q) (has (xs ++ q ∷ []) q) (last_in xs q)

-- those before the last are below it
pub below_last : (xs : List ℕ) (q y : ℕ) → IsRising (xs ++ q ∷ []) → has xs y ≡ true → y < q
below_last [] q y h e = absurd cc
below_last (x ∷ xs) q y h e = go (x == y) refl e (λ m. below_last xs q y h.1 m)
  where
    go : (b : Bool) → (x == y) ≡ b → (b || has xs y) ≡ true → (has xs y ≡ true → y < q) → y < q
    go true f m rest = let less : x < q = h.0 q (last_in xs q) in let same : x ≡ y = equal_numbers x y f in omega (arith, less, same)
    go false f m rest = rest m

pub rising_push : (xs : List ℕ) (q r : ℕ) → IsRising (xs ++ q ∷ []) → q < r → IsRising ((xs ++ q ∷ []) ++ r ∷ [])
rising_push [] q r h l = (λ y e. go y (r == y) refl e, (λ y e. absurd cc, tt))
  where
    go : (y : ℕ) (b : Bool) → (r == y) ≡ b → (b || false) ≡ true → q < y
    go y true f e = let same : r ≡ y = equal_numbers r y f in omega (arith, same, l)
    go y false f e = absurd cc
rising_push (x ∷ xs) q r h l =
    let low : x < q = h.0 q (last_in xs q) in
    (λ y e. above_more (xs ++ q ∷ []) x r y (omega (arith, low, l)) h.0 e, rising_push xs q r h.1 l)

-- ---- Places

module _ {W : Type 0} where
  pub held_append : (xs ys : List (PipePlace W)) → held (xs ++ ys) ≡ held xs ++ held ys
  held_append [] ys = refl
  held_append (x ∷ xs) ys = go x.wire (held_append xs ys)
    where
      go : (o : Option W) → held (xs ++ ys) ≡ held xs ++ held ys → before_others x o (held (xs ++ ys)) ≡ before_others x o (held xs) ++ held ys
      go None e = e
      go (Some w) e = ap (λ (rest : List (UpPipe W)). up_pipe x w ∷ rest) e

  pub held_more : (xs : List (PipePlace W)) (x : PipePlace W) (w : W) → x.wire ≡ Some w → held (xs ++ x ∷ []) ≡ held xs ++ up_pipe x w ∷ []
  held_more xs x w e = held_append xs (x ∷ []) ∙ ap (λ (o : Option W). held xs ++ before_others x o []) e

  -- one that is up has a place
  pub place_for : (xs : List (PipePlace W)) (p : ℕ) → has (ids (held xs)) p ≡ true → (k : ℕ) × (k < length xs) × ((x : PipePlace W) → x ≡ get_or xs k x → (x.id ≡ p) × (is_some x.wire ≡ true))
  place_for [] p h = absurd cc
  place_for (x ∷ xs) p h = go x.wire refl h (place_for xs p)
    where
      behind : ((k : ℕ) × (k < length xs) × ((y : PipePlace W) → y ≡ get_or xs k y → (y.id ≡ p) × (is_some y.wire ≡ true))) → (k : ℕ) × (k < suc (length xs)) × ((y : PipePlace W) → y ≡ get_or (x ∷ xs) k y → (y.id ≡ p) × (is_some y.wire ≡ true))
      behind r = (suc r.0, omega (arith, r.1), r.2)

      here : (w : W) (b : Bool) → x.wire ≡ Some w → (x.id == p) ≡ b → (b || has (ids (held xs)) p) ≡ true → (has (ids (held xs)) p ≡ true → (k : ℕ) × (k < length xs) × ((y : PipePlace W) → y ≡ get_or xs k y → (y.id ≡ p) × (is_some y.wire ≡ true))) → (k : ℕ) × (k < suc (length xs)) × ((y : PipePlace W) → y ≡ get_or (x ∷ xs) k y → (y.id ≡ p) × (is_some y.wire ≡ true))
      here w true e f m again = (0, omega arith, λ y at. (ap (λ (z : PipePlace W). z.id) at ∙ equal_numbers x.id p f, ap (λ (z : PipePlace W). is_some z.wire) at ∙ ap is_some e))
      here w false e f m again = behind (again m)

      go : (o : Option W) → x.wire ≡ o → has (ids (before_others x o (held xs))) p ≡ true → (has (ids (held xs)) p ≡ true → (k : ℕ) × (k < length xs) × ((y : PipePlace W) → y ≡ get_or xs k y → (y.id ≡ p) × (is_some y.wire ≡ true))) → (k : ℕ) × (k < suc (length xs)) × ((y : PipePlace W) → y ≡ get_or (x ∷ xs) k y → (y.id ≡ p) × (is_some y.wire ≡ true))
      go None e m again = behind (again m)
      go (Some w) e m again = here w (x.id == p) e refl m again

-- ---- A search by halving

rises : (xs : List ℕ) (i j : ℕ) → IsRising xs → i < j → j < length xs → get_or xs i 0 < get_or xs j 0
rises [] i j h l m = absurd (omega arith)
rises (x ∷ xs) i zero h l m = absurd (omega arith)
rises (x ∷ xs) zero (suc j) h l m = h.0 (get_or xs j 0) (has_at xs j (omega (arith, m)))
rises (x ∷ xs) (suc i) (suc j) h l m = rises xs i j h.1 (omega (arith, l)) (omega (arith, m))

rises_to : (xs : List ℕ) (i j : ℕ) → IsRising xs → i ≤ j → j < length xs → get_or xs i 0 ≤ get_or xs j 0
rises_to xs i j h l m = go (i == j) refl
  where
    go : (b : Bool) → (i == j) ≡ b → get_or xs i 0 ≤ get_or xs j 0
    go true e = let same : get_or xs i 0 ≡ get_or xs j 0 = ap (λ (k : ℕ). get_or xs k 0) (equal_numbers i j e) in omega (arith, same)
    go false e = let less : i < j = grind (arith, nat_tests) in let low = rises xs i j h less m in omega (arith, low)

unequal : (a b : ℕ) → a ≡ b → (a == b) ≡ false → ⊥
unequal a b e n = absurd (grind (arith, nat_tests))

module _ {W : Type 0} where
  -- a place before another has the lower number
  pub number_to : (xs : List (PipePlace W)) (i j : ℕ) (x y : PipePlace W) → IsRising (numbers xs) → i ≤ j → j < length xs → x ≡ get_or xs i x → y ≡ get_or xs j y → x.id ≤ y.id
  number_to xs i j x y h l m at to =
      let least : get_or (numbers xs) i 0 ≤ get_or (numbers xs) j 0 = rises_to (numbers xs) i j h l (simp length-map m) in
      let one : get_or (numbers xs) i 0 ≡ x.id = get_or-map (λ (z : PipePlace W). z.id) xs i x 0 (omega (arith, l, m)) ∙ ap (λ (z : PipePlace W). z.id) (sym at) in
      let two : get_or (numbers xs) j 0 ≡ y.id = get_or-map (λ (z : PipePlace W). z.id) xs j y 0 m ∙ ap (λ (z : PipePlace W). z.id) (sym to) in
      omega (arith, least, one, two)

  number_less : (xs : List (PipePlace W)) (i j : ℕ) (x y : PipePlace W) → IsRising (numbers xs) → i < j → j < length xs → x ≡ get_or xs i x → y ≡ get_or xs j y → x.id < y.id
  number_less xs i j x y h l m at to =
      let least : get_or (numbers xs) i 0 < get_or (numbers xs) j 0 = rises (numbers xs) i j h l (simp length-map m) in
      let one : get_or (numbers xs) i 0 ≡ x.id = get_or-map (λ (z : PipePlace W). z.id) xs i x 0 (omega (arith, l, m)) ∙ ap (λ (z : PipePlace W). z.id) (sym at) in
      let two : get_or (numbers xs) j 0 ≡ y.id = get_or-map (λ (z : PipePlace W). z.id) xs j y 0 m ∙ ap (λ (z : PipePlace W). z.id) (sym to) in
      omega (arith, least, one, two)

  pub parted : (xs : List (PipePlace W)) (p : ℕ) → IsRising (numbers xs) → IsPartitionedBy (is_below p) xs
  parted xs p h i j d l m k =
      let least : get_or (numbers xs) i 0 ≤ get_or (numbers xs) j 0 = rises_to (numbers xs) i j h l (simp length-map m) in
      let one : get_or (numbers xs) i 0 ≡ (get_or xs i d).id = get_or-map (λ (x : PipePlace W). x.id) xs i d 0 (omega (arith, l, m)) in
      let two : get_or (numbers xs) j 0 ≡ (get_or xs j d).id = get_or-map (λ (x : PipePlace W). x.id) xs j d 0 m in
      below (get_or xs i d).id (get_or xs j d).id p (omega (arith, least, one, two)) k
    where
      below : (a b c : ℕ) → a ≤ b → nat_lt b c ≡ true → nat_lt a c ≡ true
      below a b c e f = grind (arith, nat_tests)

  -- the pipe isn't up, where it isn't at the place that halving finds
  pub nowhere : (xs : List (PipePlace W)) (p i : ℕ) → IsRising (numbers xs) → IsPartitionPoint (λ x. is_below p x ≡ true) (λ x. is_below p x ≡ false) xs i → ((x : PipePlace W) → i < length xs → x ≡ get_or xs i x → is_some x.wire ≡ true → (x.id == p) ≡ false) → has (ids (held xs)) p ≡ false
  nowhere xs p i h point here = go (has (ids (held xs)) p) refl
    where
      at : (k : ℕ) (x : PipePlace W) → k < length xs → x ≡ get_or xs k x → x.id ≡ p → is_some x.wire ≡ true → (b c : Bool) → nat_lt k i ≡ b → (k == i) ≡ c → ⊥
      at k x m e n s true c f g =
          let less : nat_lt (get_or xs k x).id p ≡ true = point.0 k x (omega arith) (grind (arith, nat_tests)) in
          let is : x.id ≡ (get_or xs k x).id = ap (λ (z : PipePlace W). z.id) e in
          let low : (get_or xs k x).id < p = grind (arith, nat_tests) in
          absurd (omega (arith, low, is, n))
      at k x m e n s false true f g =
          let same : k ≡ i = equal_numbers k i g in
          let no : (x.id == p) ≡ false = here x (omega (arith, same, m)) (e ∙ ap (λ (j : ℕ). get_or xs j x) same) s in
          unequal x.id p n no
      at k x m e n s false false f g =
          let less : i < k = grind (arith, nat_tests) in
          let y = some_at xs i (omega (arith, less, m)) in
          let no : nat_lt (get_or xs i y.0).id p ≡ false = point.1 i y.0 (omega arith) (omega (arith, less, m)) in
          let is : y.0.id ≡ (get_or xs i y.0).id = ap (λ (z : PipePlace W). z.id) y.1 in
          let low : y.0.id < x.id = number_less xs i k y.0 x h less m y.1 e in
          let high : p ≤ (get_or xs i y.0).id = grind (arith, nat_tests) in
          absurd (omega (arith, low, high, is, n))

      go : (b : Bool) → has (ids (held xs)) p ≡ b → b ≡ false
      go false e = refl
      go true e =
          let r = place_for xs p e in
          let x = some_at xs r.0 r.1 in
          let k = r.2 x.0 x.1 in
          absurd (at r.0 x.0 r.1 x.1 k.0 k.1 (nat_lt r.0 i) (r.0 == i) refl refl)

-- ---- A search along the places

module _ {W : Type 0} (shown : W → WireView) where
  pub places_rise : (l : Pipes W) (t : Moment) → PipesStand shown l t → IsRising (numbers l.places.items)
  places_rise l t h = rising_part (numbers l.places.items) ((ups (past t) + 1) ∷ []) h.in_order

  -- the pipes of the places before this one have no number above
  abbrev pub NoneBefore : Pipes W → ℕ → ℕ → Type 0
  NoneBefore l i p = (t : Moment) → PipesStand shown l t → (j : ℕ) (x : PipePlace W) → j < i → x ≡ get_or l.places.items j x → is_some x.wire ≡ true → x.id ≤ p

  -- the pipe of this place is the first above
  pub found_above : (l : Pipes W) (t : Moment) (i p : ℕ) (x : PipePlace W) → PipesStand shown l t → i < length l.places.items → x ≡ get_or l.places.items i x → is_some x.wire ≡ true → p < x.id → NoneBefore l i p → IsPipeAt l i x.id × IsFirstAbove p x.id (up (past t))
  found_above l t i p x h inside at some above before =
      let there : IsPipeAt l i x.id = record { inside = inside; is = λ y e. let same : y ≡ x = placed_once l.places.items i y x inside e at in (ap (λ (z : PipePlace W). z.id) same, ap (λ (z : PipePlace W). is_some z.wire) same ∙ some) } in
      (there, record { above = above; there = up_at shown l t i x.id h there; first = λ r m n. first r m n })
    where
      first : (r : ℕ) → has (up (past t)) r ≡ true → p < r → x.id ≤ r
      first r m n =
          let k = place_for l.places.items r (subst (λ (xs : List ℕ). has xs r ≡ true) (sym h.up_is) m) in
          let y = some_at l.places.items k.0 k.1 in
          let s = k.2 y.0 y.1 in
          go y.0 k.0 k.1 y.1 s.0 s.1 (nat_lt k.0 i) refl
        where
          go : (y : PipePlace W) (k : ℕ) → k < length l.places.items → y ≡ get_or l.places.items k y → y.id ≡ r → is_some y.wire ≡ true → (b : Bool) → nat_lt k i ≡ b → x.id ≤ r
          go y k j e num s true f = let low : y.id ≤ p = before t h k y (grind (arith, nat_tests)) e s in absurd (omega (arith, low, num, n))
          go y k j e num s false f = let high : i ≤ k = grind (arith, nat_tests) in let low = number_to l.places.items i k x y (places_rise l t h) high j at e in omega (arith, low, num)

  -- no place is left
  pub none_above : (l : Pipes W) (t : Moment) (i p : ℕ) → PipesStand shown l t → length l.places.items ≤ i → NoneBefore l i p → NoneAbove p (up (past t))
  none_above l t i p h all before r m =
      let k = place_for l.places.items r (subst (λ (xs : List ℕ). has xs r ≡ true) (sym h.up_is) m) in
      let y = some_at l.places.items k.0 k.1 in
      let s = k.2 y.0 y.1 in
      let inside = k.1 in
      let low : y.0.id ≤ p = before t h k.0 y.0 (omega (arith, inside, all)) y.1 s.1 in
      let num = s.0 in
      omega (arith, low, num)

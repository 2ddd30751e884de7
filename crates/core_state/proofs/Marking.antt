-- The marks of the pipes, and the list of those that are busy.
use Rattle.std.proofs.Common.{◌≡◌, ◌≢◌, refl, ap, sym, ◌∙◌, subst, List, [], ◌∷◌, ◌++◌, ℕ, zero, suc, ◌+◌, ◌<◌, ◌≤◌, Bool, true, false, cond, arith, length, get_or, set, length-set, length-append}
use Rattle.std.specs.Prelude.{remove, ◌||◌, ◌==◌}
use Rattle.std.specs.List.{All}
use Rattle.std.proofs.lemmas.List.Elements.{All-append, All-take, All-drop, All-push}
use Rattle.std.proofs.lemmas.List.{get_or-map, length-map, get_or-set_same, get_or-set_other}
use Rattle.std.proofs.lemmas.Bool.Decides.{nat_tests}
use Rattle.sp_history.specs.declared.entry.Entry.{Entry}
use Rattle.sp_history.specs.declared.entry.Entry.TheVariants.{Frame, Out, Stall, Clear}
use Rattle.sp_history.specs.Lists.{has}
use Rattle.sp_history.specs.Once.{AreDistinct}
use Rattle.core_state.specs.Busy.{is_busy}
use Rattle.core_state.specs.Pipes.{UpPipe, ids, IsMarked, AreMarked, unlisted, listed_on}
use Rattle.core_state.proofs.ChangedWires.{same_number, equal_numbers, has-push, distinct-more, distinct_at}

-- ---- Counts

abbrev one_off : Bool → ℕ
one_off true = 0
one_off false = 1

-- ---- The list

has_listed : (b : Bool) (p : ℕ) (list : List ℕ) → b ≡ has list p → has (listed_on b p list) p ≡ true
has_listed true p list e = sym e
has_listed false p list e = rw (has-push list p p, same_number p) (or_true (has list p))
  where
    or_true : (a : Bool) → (a || true) ≡ true
    or_true true = refl
    or_true false = refl

listed_others : (b : Bool) (p q : ℕ) (list : List ℕ) → (p == q) ≡ false → has (listed_on b p list) q ≡ has list q
listed_others true p q list n = refl
listed_others false p q list n = rw (has-push list p q, n) (or_none (has list q))
  where
    or_none : (a : Bool) → (a || false) ≡ a
    or_none true = refl
    or_none false = refl

listed_distinct : (b : Bool) (p : ℕ) (list : List ℕ) → b ≡ has list p → AreDistinct list → AreDistinct (listed_on b p list)
listed_distinct true p list e h = h
listed_distinct false p list e h = distinct-more list p h (sym e)

listed_low : (b : Bool) (p last : ℕ) (list : List ℕ) → p ≤ last → ((q : ℕ) → has list q ≡ true → q ≤ last) → (q : ℕ) → has (listed_on b p list) q ≡ true → q ≤ last
listed_low true p last list l h q k = h q k
listed_low false p last list l h q k = go (has list q) refl (p == q) refl (sym (has-push list p q) ∙ k)
  where
    go : (a : Bool) → has list q ≡ a → (b : Bool) → (p == q) ≡ b → (a || b) ≡ true → q ≤ last
    go true e b f m = h q e
    go false e true f m = let s : p ≡ q = equal_numbers p q f in omega (arith, l, s)
    go false e false f m = absurd cc

listed_count : (b : Bool) (p : ℕ) (list : List ℕ) → length (listed_on b p list) ≡ length list + one_off b
listed_count true p list = omega arith
listed_count false p list = length-append list (p ∷ [])

-- ---- The pipes

module _ {W : Type 0} where
  unlisted_set : (us : List (UpPipe W)) (r : ℕ) (u v : UpPipe W) → r < length us → u ≡ get_or us r u → unlisted (set us r v) + one_off u.listed ≡ unlisted us + one_off v.listed
  unlisted_set [] r u v l at = absurd (omega arith)
  unlisted_set (x ∷ us) zero u v l at = subst (λ (y : UpPipe W). unlisted (v ∷ us) + one_off y.listed ≡ unlisted (x ∷ us) + one_off v.listed) (sym at) (go x.listed v.listed)
    where
      go : (a b : Bool) → cond b (unlisted us) (unlisted us + 1) + one_off a ≡ cond a (unlisted us) (unlisted us + 1) + one_off b
      go true true = refl
      go true false = omega arith
      go false true = omega arith
      go false false = omega arith
  unlisted_set (x ∷ us) (suc r) u v l at = go x.listed u.listed v.listed (unlisted_set us r u v (omega (arith, l)) at)
    where
      go : (a b c : Bool) → unlisted (set us r v) + one_off b ≡ unlisted us + one_off c → cond a (unlisted (set us r v)) (unlisted (set us r v) + 1) + one_off b ≡ cond a (unlisted us) (unlisted us + 1) + one_off c
      go true b c again = again
      go false b c again = omega (arith, again)

  pub unlisted_one : (us : List (UpPipe W)) (r : ℕ) (u v : UpPipe W) → r < length us → u ≡ get_or us r u → u.listed ≡ true → v.listed ≡ false → unlisted (set us r v) ≡ unlisted us + 1
  unlisted_one us r u v l at on off =
      let k = unlisted_set us r u v l at in
      let e : one_off u.listed ≡ one_off true = ap one_off on in
      let f : one_off v.listed ≡ one_off false = ap one_off off in
      omega (arith, k, e, f)

  unlisted_remove : (us : List (UpPipe W)) (r : ℕ) → unlisted (remove us r) ≤ unlisted us
  unlisted_remove [] zero = omega arith
  unlisted_remove [] (suc r) = omega arith
  unlisted_remove (x ∷ us) zero = go x.listed
    where
      go : (a : Bool) → unlisted us ≤ cond a (unlisted us) (unlisted us + 1)
      go true = omega arith
      go false = omega arith
  unlisted_remove (x ∷ us) (suc r) = go x.listed (unlisted_remove us r)
    where
      go : (a : Bool) → unlisted (remove us r) ≤ unlisted us → cond a (unlisted (remove us r)) (unlisted (remove us r) + 1) ≤ cond a (unlisted us) (unlisted us + 1)
      go true again = again
      go false again = omega (arith, again)

  unlisted_push : (us : List (UpPipe W)) (u : UpPipe W) → u.listed ≡ false → unlisted (us ++ u ∷ []) ≡ unlisted us + 1
  unlisted_push [] u e = rw e refl
  unlisted_push (x ∷ us) u e = go x.listed (unlisted_push us u e)
    where
      go : (a : Bool) → unlisted (us ++ u ∷ []) ≡ unlisted us + 1 → cond a (unlisted (us ++ u ∷ [])) (unlisted (us ++ u ∷ []) + 1) ≡ cond a (unlisted us) (unlisted us + 1) + 1
      go true again = again
      go false again = omega (arith, again)

  pub unlisted_few : (us : List (UpPipe W)) → unlisted us ≤ length us
  unlisted_few [] = omega arith
  unlisted_few (x ∷ us) = go x.listed (unlisted_few us)
    where
      go : (a : Bool) → unlisted us ≤ length us → cond a (unlisted us) (unlisted us + 1) ≤ suc (length us)
      go true again = omega (arith, again)
      go false again = omega (arith, again)

  one_unlisted : (us : List (UpPipe W)) (r : ℕ) (u : UpPipe W) → r < length us → u ≡ get_or us r u → u.listed ≡ false → 1 ≤ unlisted us
  one_unlisted [] r u l at e = absurd (omega arith)
  one_unlisted (x ∷ us) zero u l at e = let f : x.listed ≡ false = ap (λ (y : UpPipe W). y.listed) (sym at) ∙ e in rw f (omega arith)
  one_unlisted (x ∷ us) (suc r) u l at e = go x.listed (one_unlisted us r u (omega (arith, l)) at e)
    where
      go : (a : Bool) → 1 ≤ unlisted us → 1 ≤ cond a (unlisted us) (unlisted us + 1)
      go true again = again
      go false again = omega (arith, again)

  -- ---- One pipe

  -- the marks of this one
  pub marked_at : (f : ℕ → Bool) (last capacity : ℕ) (us : List (UpPipe W)) (list : List ℕ) (r : ℕ) (u : UpPipe W) → AreMarked f last us list capacity → r < length us → u ≡ get_or us r u → IsMarked f list u
  marked_at f last capacity us list r u h l at = subst (IsMarked f list) (sym at) (h.0 r u l)

  -- it changes, and the others stay as they are
  pub changes_one : (f g : ℕ → Bool) (xs ys : List ℕ) (us : List (UpPipe W)) (r : ℕ) (u v : UpPipe W) → r < length us → u ≡ get_or us r u → AreDistinct (ids us) → ((q : ℕ) → (u.id == q) ≡ false → (g q ≡ f q) × (has ys q ≡ has xs q)) → All (IsMarked f xs) us → IsMarked g ys v → All (IsMarked g ys) (set us r v)
  changes_one f g xs ys us r u v l at apart others all new = λ k d m. go k d m (k == r) refl
    where
      at_ids : (k : ℕ) (d : UpPipe W) → k < length us → get_or (ids us) k 0 ≡ (get_or us k d).id
      at_ids k d m = get_or-map (λ (z : UpPipe W). z.id) us k d 0 m

      still : (z : UpPipe W) → (u.id == z.id) ≡ false → IsMarked f xs z → IsMarked g ys z
      still z n k = let o = others z.id n in (k.0 ∙ sym o.0, k.1 ∙ sym o.1, k.2)

      go : (k : ℕ) (d : UpPipe W) → k < length (set us r v) → (b : Bool) → (k == r) ≡ b → IsMarked g ys (get_or (set us r v) k d)
      go k d m true e =
          let s : k ≡ r = equal_numbers k r e in
          let there : get_or (set us r v) k d ≡ v = rw s (get_or-set_same us r v d l) in
          subst (IsMarked g ys) (sym there) new
      go k d m false e =
          let other : k ≢ r = λ q. grind (arith, nat_tests, q) in
          let inside : k < length us = omega (arith, m, length-set us r v) in
          let there : get_or (set us r v) k d ≡ get_or us k d = get_or-set_other us r k v d other in
          let ids_differ = distinct_at (ids us) r k apart (simp length-map l) (simp length-map inside) other in
          let here : get_or (ids us) r 0 ≡ u.id = at_ids r u l ∙ ap (λ (z : UpPipe W). z.id) (sym at) in
          let n : (u.id == (get_or us k d).id) ≡ false = rw (← here, ← at_ids k d inside) ids_differ in
          subst (IsMarked g ys) (sym there) (still (get_or us k d) n (all k d inside))

  -- its marks stay, or it is marked as not busy
  pub still_marked : (f g : ℕ → Bool) (last capacity : ℕ) (us : List (UpPipe W)) (list : List ℕ) (r : ℕ) (u v : UpPipe W) → AreMarked f last us list capacity → r < length us → u ≡ get_or us r u → AreDistinct (ids us) → ((q : ℕ) → (u.id == q) ≡ false → g q ≡ f q) → v.id ≡ u.id → v.listed ≡ u.listed → v.busy ≡ g u.id → (v.busy ≡ true → u.busy ≡ true) → AreMarked g last (set us r v) list capacity
  still_marked f g last capacity us list r u v h l at apart others same listed busy less =
      let was = marked_at f last capacity us list r u h l at in
      let new : IsMarked g list v = (busy ∙ ap g (sym same), listed ∙ was.1 ∙ ap (has list) (sym same), λ b. listed ∙ was.2 (less b)) in
      let count : unlisted (set us r v) ≡ unlisted us = let k = unlisted_set us r u v l at in let e : one_off v.listed ≡ one_off u.listed = ap one_off listed in omega (arith, k, e) in
      (changes_one f g list list us r u v l at apart (λ q n. (others q n, refl)) h.0 new, h.1, h.2, let k = h.3 in omega (arith, k, count), let k = h.4 in omega (arith, k, count))

  -- it is marked as busy, and is on the list
  pub marked_busy : (f g : ℕ → Bool) (last capacity : ℕ) (us : List (UpPipe W)) (list : List ℕ) (r : ℕ) (u v : UpPipe W) → AreMarked f last us list capacity → r < length us → u ≡ get_or us r u → AreDistinct (ids us) → ((q : ℕ) → (u.id == q) ≡ false → g q ≡ f q) → v.id ≡ u.id → v.listed ≡ true → v.busy ≡ true → g u.id ≡ true → u.id ≤ last
      → AreMarked g last (set us r v) (listed_on u.listed u.id list) capacity
  marked_busy f g last capacity us list r u v h l at apart others same listed busy is low =
      let was = marked_at f last capacity us list r u h l at in
      let there : has (listed_on u.listed u.id list) u.id ≡ true = has_listed u.listed u.id list was.1 in
      let new : IsMarked g (listed_on u.listed u.id list) v = (busy ∙ sym (ap g same ∙ is), listed ∙ sym (ap (has (listed_on u.listed u.id list)) same ∙ there), λ b. listed) in
      let count = unlisted_set us r u v l at in
      let none : one_off v.listed ≡ one_off true = ap one_off listed in
      let more = listed_count u.listed u.id list in
      (changes_one f g list (listed_on u.listed u.id list) us r u v l at apart (λ q n. (others q n, listed_others u.listed u.id q list n)) h.0 new, listed_distinct u.listed u.id list was.1 h.1, listed_low u.listed u.id last list low h.2, let k = h.3 in omega (arith, k, count, none, more), let k = h.4 in omega (arith, k, count, none, more))

  -- there is room on the list for one that isn't there
  pub room_on : (f : ℕ → Bool) (last capacity : ℕ) (us : List (UpPipe W)) (list : List ℕ) (r : ℕ) (u : UpPipe W) → AreMarked f last us list capacity → r < length us → u ≡ get_or us r u → u.listed ≡ false → length list < capacity
  room_on f last capacity us list r u h l at e = let one = one_unlisted us r u l at e in let k = h.3 in omega (arith, one, k)

  -- it is gone
  pub marked_less : (f : ℕ → Bool) (last capacity : ℕ) (us : List (UpPipe W)) (list : List ℕ) (r : ℕ) → AreMarked f last us list capacity → AreMarked f last (remove us r) list capacity
  marked_less f last capacity us list r h =
      let fewer = unlisted_remove us r in
      (All-append (IsMarked f list) _ _ (All-take (IsMarked f list) r us h.0) (All-drop (IsMarked f list) (suc r) us h.0), h.1, h.2, let k = h.3 in omega (arith, k, fewer), let k = h.4 in omega (arith, k, fewer))

  -- one more comes up
  pub marked_more : (f : ℕ → Bool) (last capacity : ℕ) (us : List (UpPipe W)) (list : List ℕ) (u : UpPipe W) → AreMarked f last us list capacity → u.id ≡ last + 1 → u.busy ≡ false → u.listed ≡ false → f u.id ≡ false → length us + length list < capacity → AreMarked f (last + 1) (us ++ u ∷ []) list capacity
  marked_more f last capacity us list u h is busy listed none room =
      let absent : has list u.id ≡ false = not_there (has list u.id) refl in
      let count = unlisted_push us u listed in
      let few = unlisted_few us in
      (All-push (IsMarked f list) us u h.0 (busy ∙ sym none, listed ∙ sym absent, λ b. absurd cc), h.1, λ q k. let low = h.2 q k in omega (arith, low), omega (arith, room, few, count), let k = h.4 in omega (arith, k, count))
    where
      not_there : (b : Bool) → has list u.id ≡ b → has list u.id ≡ false
      not_there false e = e
      not_there true e = let low = h.2 u.id e in absurd (omega (arith, low, is))

-- ---- One entry

pub busy_frame : (before : List Entry) (p q : ℕ) (b : List ℕ) → (p == q) ≡ false → is_busy (Frame p b ∷ before) q ≡ is_busy before q
busy_frame before p q b n = rw n refl

pub busy_out : (before : List Entry) (p q : ℕ) (b : List ℕ) → (p == q) ≡ false → is_busy (Out p b ∷ before) q ≡ is_busy before q
busy_out before p q b n = rw n refl

pub busy_stall : (before : List Entry) (p q : ℕ) → (p == q) ≡ false → is_busy (Stall p ∷ before) q ≡ is_busy before q
busy_stall before p q n = rw n refl

pub busy_clear : (before : List Entry) (p q : ℕ) → (p == q) ≡ false → is_busy (Clear p ∷ before) q ≡ is_busy before q
busy_clear before p q n = rw n refl

pub is_clear : (before : List Entry) (p : ℕ) → is_busy (Clear p ∷ before) p ≡ false
is_clear before p = rw (same_number p) refl

pub is_framed : (before : List Entry) (p : ℕ) (b : List ℕ) → is_busy (Frame p b ∷ before) p ≡ true
is_framed before p b = rw (same_number p) refl

pub is_out : (before : List Entry) (p : ℕ) (b : List ℕ) → is_busy (Out p b ∷ before) p ≡ true
is_out before p b = rw (same_number p) refl

pub is_stalled : (before : List Entry) (p : ℕ) → is_busy (Stall p ∷ before) p ≡ true
is_stalled before p = rw (same_number p) refl

-- The first of the list of busy pipes is taken.
use Rattle.std.proofs.Common.{◌≡◌, refl, ap, sym, ◌∙◌, subst, List, [], ◌∷◌, ◌++◌, ℕ, ◌<◌, Bool, true, false, suc, zero, arith, length, length-append, get_or, set, Some, None}
use Rattle.std.specs.Prelude.{◌==◌, ◌||◌, drop, is_some, Option}
use Rattle.std.specs.List.{All}
use Rattle.std.specs.VecDeque.{deque_capacity}
use Rattle.sp_msg.specs.Views.{WireView}
use Rattle.sp_history.specs.Lists.{has}
use Rattle.sp_history.specs.Once.{AreDistinct}
use Rattle.sp_history.specs.Past.{up, ups}
use Rattle.sp_history.specs.Moments.{Moment, past, Lawful}
use Rattle.core_state.specs.Busy.{is_busy}
use Rattle.core_state.specs.Wires.{IsUpWire}
use Rattle.core_state.specs.declared.pipes.PipePlace.{PipePlace}
use Rattle.core_state.specs.declared.pipes.Pipes.{Pipes}
use Rattle.core_state.specs.Pipes.{UpPipe, ids, held, up_pipe, up_pipes, numbers, HasLimit, AreMarked, IsMarked, PipesStand, IsPipeAt, TakesNext}
use Rattle.core_state.proofs.ChangedWires.{same_number, turned_round, has-push, distinct-more, ups_distinct}
use Rattle.core_state.proofs.Marking.{marked_at, unlisted_one, changes_one}
use Rattle.core_state.proofs.PipeSteps.{SamePlaces, placed, placed_once, ranked, numbers_same, limits_same, carried}

-- ---- Lists

pub first_and_rest : (xs ys : List ℕ) (p : ℕ) → 0 < length xs → p ≡ get_or xs 0 p → ys ≡ drop 1 xs → xs ≡ p ∷ ys
first_and_rest [] ys p l at rest = absurd (omega arith)
first_and_rest (x ∷ xs) ys p l at rest = ap (λ (y : ℕ). y ∷ xs) (sym at) ∙ ap (λ (zs : List ℕ). p ∷ zs) (sym rest)

-- it is not marked as busy, whichever name it has
pub off_at : {W : Type 0} (xs : List (PipePlace W)) (i : ℕ) (x y : PipePlace W) → i < length xs → x ≡ get_or xs i x → y ≡ get_or xs i y → y.busy ≡ false → x.busy ≡ false
off_at {W = W} xs i x y l a b e = ap (λ (z : PipePlace W). z.busy) (placed_once xs i x y l a b) ∙ e

-- a number that was the first is the last now
moved_back : (xs : List ℕ) (p q : ℕ) → has (xs ++ p ∷ []) q ≡ has (p ∷ xs) q
moved_back xs p q = has-push xs p q ∙ go (has xs q) (p == q)
  where
    go : (a b : Bool) → (a || b) ≡ (b || a)
    go true true = refl
    go true false = refl
    go false true = refl
    go false false = refl

behind_first : (xs : List ℕ) (p q : ℕ) → (p == q) ≡ false → has xs q ≡ has (p ∷ xs) q
behind_first xs p q n = sym (ap (λ (b : Bool). b || has xs q) n)

still_there : (xs : List ℕ) (p q : ℕ) → has xs q ≡ true → has (p ∷ xs) q ≡ true
still_there xs p q h = go (p == q)
  where
    go : (b : Bool) → (b || has xs q) ≡ true
    go true = refl
    go false = h

-- ---- Marks

module _ {W : Type 0} where
  -- the marks of the others don't change
  unlisted_all : (f : ℕ → Bool) (list : List ℕ) (p : ℕ) (us : List (UpPipe W)) → has (ids us) p ≡ false → All (IsMarked f (p ∷ list)) us → All (IsMarked f list) us
  unlisted_all f list p [] none h = λ i d l. absurd (omega (arith, l))
  unlisted_all f list p (x ∷ us) none h = go (x.id == p) refl none (λ k. unlisted_all f list p us k (λ i d l. h (suc i) d (omega (arith, l))))
    where
      one : (x.id == p) ≡ false → IsMarked f (p ∷ list) x → IsMarked f list x
      one e m = (m.0, m.1 ∙ sym (behind_first list p x.id (turned_round x.id p e)), m.2)

      go : (b : Bool) → (x.id == p) ≡ b → (b || has (ids us) p) ≡ false → (has (ids us) p ≡ false → All (IsMarked f list) us) → All (IsMarked f list) (x ∷ us)
      go true e k rest = absurd cc
      go false e k rest = both
        where
          both : (i : ℕ) (d : UpPipe W) → i < suc (length us) → IsMarked f list (get_or (x ∷ us) i d)
          both zero d l = one e (h 0 x (omega arith))
          both (suc i) d l = rest k i d (omega (arith, l))

  -- a pipe that isn't up has left the list
  left_absent : (f : ℕ → Bool) (last capacity : ℕ) (us : List (UpPipe W)) (list : List ℕ) (p : ℕ) → has (ids us) p ≡ false → AreMarked f last us (p ∷ list) capacity → AreMarked f last us list capacity
  left_absent f last capacity us list p none h = (
    unlisted_all f list p us none h.0,
    h.1.1,
    λ q k. h.2 q (still_there list p q k),
    let n = h.3 in omega (arith, n),
    let n = h.4 in omega (arith, n),
  )

  -- it is the last now
  turned_back : (f : ℕ → Bool) (last capacity : ℕ) (us : List (UpPipe W)) (list : List ℕ) (p : ℕ) → AreMarked f last us (p ∷ list) capacity → AreMarked f last us (list ++ p ∷ []) capacity
  turned_back f last capacity us list p h = (
    λ i d l. let m = h.0 i d l in (m.0, m.1 ∙ sym (moved_back list p (get_or us i d).id), m.2),
    distinct-more list p h.1.1 h.1.0,
    λ q k. h.2 q (sym (moved_back list p q) ∙ k),
    let n = h.3 in let long = length-append list (p ∷ []) in omega (arith, n, long),
    let n = h.4 in let long = length-append list (p ∷ []) in omega (arith, n, long),
  )

  -- a pipe that is up and not busy has left it
  left_idle : (f : ℕ → Bool) (last capacity : ℕ) (us : List (UpPipe W)) (list : List ℕ) (r : ℕ) (u v : UpPipe W) → AreMarked f last us (u.id ∷ list) capacity → r < length us → u ≡ get_or us r u → AreDistinct (ids us) → v.id ≡ u.id → u.busy ≡ false → v.busy ≡ u.busy → v.listed ≡ false → AreMarked f last (set us r v) list capacity
  left_idle f last capacity us list r u v h l at apart same idle busy off =
      let was = marked_at f last capacity us (u.id ∷ list) r u h l at in
      let on : u.listed ≡ true = was.1 ∙ ap (λ (b : Bool). b || has list u.id) (same_number u.id) in
      let new : IsMarked f list v = (busy ∙ was.0 ∙ ap f (sym same), off ∙ sym (ap (has list) same ∙ h.1.0), λ b. let no : true ≡ false = sym b ∙ busy ∙ idle in absurd cc) in
      let count = unlisted_one us r u v l at on off in (
        changes_one f f (u.id ∷ list) list us r u v l at apart (λ q n. (refl, behind_first list u.id q n)) h.0 new,
        h.1.1,
        λ q k. h.2 q (still_there list u.id q k),
        let n = h.3 in omega (arith, n, count),
        let n = h.4 in omega (arith, n, count),
      )

-- ---- The pipes

module _ {W : Type 0} (shown : W → WireView) where
  -- only the list has changed
  relisted : (l m : Pipes W) (t : Moment) → PipesStand shown l t → AreMarked (λ q. is_busy (past t) q) (ups (past t)) (up_pipes l) m.busy.items (deque_capacity m.busy) → PipesStand shown (record l { busy = m.busy }) t
  relisted l m t h marks = record {
    up_is = h.up_is;
    up_wires = h.up_wires;
    down_is = h.down_is;
    down_wires = h.down_wires;
    in_order = h.in_order;
    limits = h.limits;
    count_is = h.count_is;
    down_room = h.down_room;
    few = h.few;
    marks = marks;
  }

  marks_of : (l : Pipes W) (t : Moment) (p : ℕ) (list : List ℕ) → PipesStand shown l t → l.busy.items ≡ p ∷ list → AreMarked (λ q. is_busy (past t) q) (ups (past t)) (up_pipes l) (p ∷ list) (deque_capacity l.busy)
  marks_of l t p list h was = subst (λ (xs : List ℕ). AreMarked (λ q. is_busy (past t) q) (ups (past t)) (up_pipes l) xs (deque_capacity l.busy)) was h.marks

  capacity_as : (l m : Pipes W) (t : Moment) (us : List (UpPipe W)) (list : List ℕ) → deque_capacity m.busy ≡ deque_capacity l.busy → m.busy.items ≡ list → AreMarked (λ q. is_busy (past t) q) (ups (past t)) us list (deque_capacity l.busy) → AreMarked (λ q. is_busy (past t) q) (ups (past t)) us m.busy.items (deque_capacity m.busy)
  capacity_as l m t us list room items h =
      subst (λ (xs : List ℕ). AreMarked (λ q. is_busy (past t) q) (ups (past t)) us xs (deque_capacity m.busy)) (sym items) (subst (λ (n : ℕ). AreMarked (λ q. is_busy (past t) q) (ups (past t)) us list n) (sym room) h)

  -- the pipe isn't up
  pub next_absent : (l m : Pipes W) (t : Moment) (p : ℕ) → PipesStand shown l t → l.busy.items ≡ p ∷ m.busy.items → deque_capacity m.busy ≡ deque_capacity l.busy → has (up (past t)) p ≡ false → TakesNext shown None t l (record l { busy = m.busy })
  next_absent l m t p h was room none = record {
    stands = relisted l m t h (capacity_as l m t (up_pipes l) m.busy.items room refl (left_absent (λ q. is_busy (past t) q) (ups (past t)) (deque_capacity l.busy) (up_pipes l) m.busy.items p (subst (λ (xs : List ℕ). has xs p ≡ false) (sym h.up_is) none) (marks_of l t p m.busy.items h was)));
    first = p;
    rest = m.busy.items;
    was = was;
    turned = (refl, λ u. absurd cc);
  }

  -- it is up and busy
  pub next_busy : (l m : Pipes W) (t : Moment) (i p : ℕ) (x : PipePlace W) (rest : List ℕ) → PipesStand shown l t → l.busy.items ≡ p ∷ rest → m.busy.items ≡ rest ++ p ∷ [] → deque_capacity m.busy ≡ deque_capacity l.busy → IsPipeAt l i p → x ≡ get_or l.places.items i x → x.busy ≡ true → TakesNext shown (Some (i, p)) t l (record l { busy = m.busy })
  next_busy l m t i p x rest h was now room there at busy =
      let k = placed l i p there in
      let w = k.1 in
      let same : k.0 ≡ x = placed_once l.places.items i k.0 x there.inside k.2 at in
      let r = ranked l.places.items i k.0 w there.inside k.2 k.4 in
      let marks = marked_at (λ q. is_busy (past t) q) (ups (past t)) (deque_capacity l.busy) (up_pipes l) l.busy.items r.rank (up_pipe k.0 w) h.marks r.inside r.is in
      let is : is_busy (past t) p ≡ true = ap (λ (q : ℕ). is_busy (past t) q) (sym k.3) ∙ sym marks.0 ∙ ap (λ (y : PipePlace W). y.busy) same ∙ busy in
      record {
        stands = relisted l m t h (capacity_as l m t (up_pipes l) (rest ++ p ∷ []) room now (turned_back (λ q. is_busy (past t) q) (ups (past t)) (deque_capacity l.busy) (up_pipes l) rest p (marks_of l t p rest h was)));
        first = p;
        rest = rest;
        was = was;
        turned = (refl, record { inside = there.inside; is = there.is }, now, is);
      }

  -- it is up and not busy
  pub next_idle : (l m : Pipes W) (t : Moment) (i p : ℕ) (x : PipePlace W) → Lawful t → PipesStand shown l t → l.busy.items ≡ p ∷ m.busy.items → deque_capacity m.busy ≡ deque_capacity l.busy → IsPipeAt l i p → x ≡ get_or l.places.items i x → x.busy ≡ false → m.places.items ≡ set l.places.items i (record x { listed = false }) → m.down ≡ l.down → m.count ≡ l.count → TakesNext shown None t l m
  next_idle l m t i p x lawful h was room there at idle us ds cs =
      let y : PipePlace W = record x { listed = false } in
      let w = wire_of x.wire (there.is x at).1 in
      let id : x.id ≡ p = (there.is x at).0 in
      let r = ranked l.places.items i x w.0 there.inside at w.1 in
      let apart : AreDistinct (ids (up_pipes l)) = subst AreDistinct (sym h.up_is) (ups_distinct t lawful) in
      let was' : l.busy.items ≡ x.id ∷ m.busy.items = was ∙ ap (λ (q : ℕ). q ∷ m.busy.items) (sym id) in
      let marks = marked_at (λ q. is_busy (past t) q) (ups (past t)) (deque_capacity l.busy) (up_pipes l) l.busy.items r.rank (up_pipe x w.0) h.marks r.inside r.is in
      let left = left_idle (λ q. is_busy (past t) q) (ups (past t)) (deque_capacity l.busy) (up_pipes l) m.busy.items r.rank (up_pipe x w.0) (up_pipe y w.0) (marks_of l t x.id m.busy.items h was') r.inside r.is apart refl idle refl refl in
      let same : SamePlaces l m = record { numbers = ap numbers us ∙ numbers_same l.places.items i x y at refl; limits = λ before all. subst (All (HasLimit before)) (sym us) (limits_same before l.places.items i x y there.inside at refl refl all); down = ds; count = cs } in
      record {
        stands = carried shown l m t r.rank (up_pipe x w.0) (up_pipe y w.0) h r.inside r.is refl (subst (λ (z : UpPipe W). IsUpWire (past t) z.id (shown z.wire)) (sym r.is) (h.up_wires r.rank (up_pipe x w.0) r.inside)) (ap held us ∙ r.changed y w.0 w.1) same (capacity_as l m t (set (up_pipes l) r.rank (up_pipe y w.0)) m.busy.items room refl left);
        first = p;
        rest = m.busy.items;
        was = was;
        turned = (refl, λ u. ap (λ (q : ℕ). is_busy (past t) q) (sym id) ∙ sym marks.0 ∙ idle);
      }
    where
      wire_of : {A : Type 0} (o : Option A) → is_some o ≡ true → (w : A) × (o ≡ Some w)
      wire_of None e = absurd cc
      wire_of (Some w) e = (w, refl)

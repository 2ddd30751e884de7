-- The pipes match a history that goes on.
use Rattle.std.proofs.Common.{◌≡◌, ◌≢◌, refl, ap, sym, ◌∙◌, subst, List, [], ◌∷◌, ◌++◌, ℕ, zero, suc, ◌+◌, ◌<◌, ◌≤◌, Bool, true, false, arith, length, get_or, set, length-set, length-append, Some, None}
use Rattle.std.specs.Prelude.{remove, ◌==◌, nat_lt, Option, is_some}
use Rattle.std.specs.VecDeque.{deque_capacity}
use Rattle.std.specs.List.{All}
use Rattle.std.proofs.lemmas.List.Edits.{length-remove}
use Rattle.std.proofs.lemmas.List.Elements.{All-set, All-append, All-take, All-drop, All-push, All-weaker}
use Rattle.std.proofs.lemmas.List.{get_or-map, length-map, map-append, get_or-set_same, get_or-set_other}
use Rattle.std.proofs.Math.Seq.{map-set_same}
use Rattle.std.proofs.lemmas.Bool.Decides.{nat_tests}
use Rattle.sp_msg.specs.Views.{WireView}
use Rattle.sp_msg.specs.Wires.{AfterRoom}
use Rattle.sp_msg.specs.declared.wire.Room.TheVariants as rooms
use Rattle.sp_history.specs.declared.entry.Why.TheVariants as whys
use Rattle.sp_history.specs.declared.entry.Why.{Why}
use Rattle.sp_history.specs.declared.entry.Entry.{Entry}
use Rattle.sp_history.specs.declared.entry.Entry.TheVariants.{Down, Clear}
use Rattle.sp_history.specs.declared.setting.Setting.{Setting}
use Rattle.sp_history.specs.Lists.{has, without}
use Rattle.sp_history.specs.Past.{up, ups, untaken, limit_of}
use Rattle.sp_history.specs.Once.{AreDistinct}
use Rattle.sp_history.specs.Moments.{Moment, past, also, Lawful}
use Rattle.core_state.specs.declared.pipes.PipePlace.{PipePlace}
use Rattle.core_state.specs.declared.pipes.DownPipe.{DownPipe}
use Rattle.core_state.specs.declared.pipes.Pipes.{Pipes}
use Rattle.core_state.specs.declared.pipes.Asked.TheVariants as asked
use Rattle.core_state.specs.Wires.{IsUpWire, IsDownWire}
use Rattle.core_state.specs.Busy.{is_busy}
use Rattle.core_state.specs.Pipes.{UpPipe, ids, down_ids, numbers, held, up_pipe, up_pipes, HasLimit, AreMarked, listed_on, PipesStand, IsPipeAt, HasPlace, IsReadyAt, AskedAs, KeepsListed, HasRoomOn, MarksPlace, UnmarksPlace}
use Rattle.core_state.specs.PartSteps.{EmptiesPlace}
use Rattle.core_state.proofs.Marking.{marked_at, still_marked, marked_busy, marked_less, room_on, busy_clear, is_clear}
use Rattle.core_state.proofs.ChangedWires.{same_number, equal_numbers, has_at, differ, distinct_at, without_removed, numbered, ups_distinct, up_untaken, IsOf, limit_kept, others_open, others_went_down, shows_still, GoesDown, roomed}

-- ---- Places

-- the pipe of a place that is not empty, among those that are up: its rank, and what changing or emptying the place
-- does
pub record Ranked {W : Type 0} (xs : List (PipePlace W)) (i : ℕ) (x : PipePlace W) (w : W) : Type 0 where
  pub rank : ℕ
  pub inside : rank < length (held xs)
  pub is : up_pipe x w ≡ get_or (held xs) rank (up_pipe x w)
  pub changed : (y : PipePlace W) (v : W) → y.wire ≡ Some v → held (set xs i y) ≡ set (held xs) rank (up_pipe y v)
  pub emptied : (y : PipePlace W) → y.wire ≡ None → held (set xs i y) ≡ remove (held xs) rank

first_ranked : {W : Type 0} (y : PipePlace W) (xs : List (PipePlace W)) (w : W) → y.wire ≡ Some w → Ranked (y ∷ xs) 0 y w
first_ranked y xs w e = record {
  rank = 0;
  inside = rw e (omega arith);
  is = rw e refl;
  changed = λ z v f. rw (e, f) refl;
  emptied = λ z f. rw (e, f) refl;
}

next_ranked : {W : Type 0} (y : PipePlace W) (xs : List (PipePlace W)) (i : ℕ) (x : PipePlace W) (w : W) (o : Option W) → y.wire ≡ o → Ranked xs i x w → Ranked (y ∷ xs) (suc i) x w
next_ranked y xs i x w None e r = record { rank = r.rank; inside = rw e r.inside; is = rw e r.is; changed = λ z v f. rw e (r.changed z v f); emptied = λ z f. rw e (r.emptied z f) }
next_ranked {W = W} y xs i x w (Some v) e r = record {
  rank = suc r.rank;
  inside = rw e (let n = r.inside in omega (arith, n));
  is = rw e r.is;
  changed = λ z u f. rw e (ap (λ (rest : List (UpPipe W)). up_pipe y v ∷ rest) (r.changed z u f));
  emptied = λ z f. rw e (ap (λ (rest : List (UpPipe W)). up_pipe y v ∷ rest) (r.emptied z f));
}

pub ranked : {W : Type 0} (xs : List (PipePlace W)) (i : ℕ) (x : PipePlace W) (w : W) → i < length xs → x ≡ get_or xs i x → x.wire ≡ Some w → Ranked xs i x w
ranked [] i x w l at e = absurd (omega arith)
ranked (y ∷ xs) zero x w l at e = subst (λ (z : PipePlace _). Ranked (y ∷ xs) 0 z w) (sym at) (first_ranked y xs w (ap (λ (z : PipePlace _). z.wire) (sym at) ∙ e))
ranked (y ∷ xs) (suc i) x w l at e = next_ranked y xs i x w y.wire refl (ranked xs i x w (omega (arith, l)) at e)

pub some_at : {A : Type 0} (xs : List A) (i : ℕ) → i < length xs → (x : A) × (x ≡ get_or xs i x)
some_at [] i l = absurd (omega arith)
some_at (x ∷ xs) zero l = (x, refl)
some_at (x ∷ xs) (suc i) l = some_at xs i (omega (arith, l))

-- a place in a list is one
pub placed_once : {A : Type 0} (xs : List A) (i : ℕ) (x y : A) → i < length xs → x ≡ get_or xs i x → y ≡ get_or xs i y → x ≡ y
placed_once [] i x y l a b = absurd (omega arith)
placed_once (z ∷ xs) zero x y l a b = a ∙ sym b
placed_once (z ∷ xs) (suc i) x y l a b = placed_once xs i x y (omega (arith, l)) a b

wire_of : {A : Type 0} (o : Option A) → is_some o ≡ true → (w : A) × (o ≡ Some w)
wire_of None e = absurd cc
wire_of (Some w) e = (w, refl)

-- the place of a pipe, with its wire
pub placed : {W : Type 0} (l : Pipes W) (i p : ℕ) → IsPipeAt l i p → (x : PipePlace W) × (w : W) × (x ≡ get_or l.places.items i x) × (x.id ≡ p) × (x.wire ≡ Some w)
placed l i p h =
    let x = some_at l.places.items i h.inside in
    let k = h.is x.0 x.1 in
    let w = wire_of x.0.wire k.1 in
    (x.0, w.0, x.1, k.0, w.1)

pub numbers_same : {W : Type 0} (xs : List (PipePlace W)) (i : ℕ) (x y : PipePlace W) → x ≡ get_or xs i x → y.id ≡ x.id → numbers (set xs i y) ≡ numbers xs
numbers_same {W = W} xs i x y at e = map-set_same (λ (z : PipePlace W). z.id) xs i y x (e ∙ ap (λ (z : PipePlace W). z.id) at)

-- the place keeps its limit
pub limits_same : {W : Type 0} (before : List Entry) (xs : List (PipePlace W)) (i : ℕ) (x y : PipePlace W) → i < length xs → x ≡ get_or xs i x → y.id ≡ x.id → y.limit ≡ x.limit → All (HasLimit before) xs → All (HasLimit before) (set xs i y)
limits_same before xs i x y inside at named bound all =
    let was : HasLimit before x = subst (HasLimit before) (sym at) (all i x inside) in
    let own : HasLimit before y = ap (limit_of before) named ∙ was ∙ ap (λ (n : ℕ). Some n) (sym bound) in
    All-set (HasLimit before) xs i y own all

-- a pipe that is up has a number that was given
low_number : (t : Moment) → Lawful t → (p : ℕ) → has (up (past t)) p ≡ true → p ≤ ups (past t)
low_number t lawful p h = go (nat_lt (ups (past t)) p) refl
  where
    go : (b : Bool) → nat_lt (ups (past t)) p ≡ b → p ≤ ups (past t)
    go false e = grind (arith, nat_tests)
    go true e =
        let above : ups (past t) < p = grind (arith, nat_tests) in
        let none : has (up (past t)) p ≡ false = ((numbered t lawful).1 p above).0 in
        absurd cc

-- ---- The lists

module _ {W : Type 0} (shown : W → WireView) where
  pub id_at : (xs : List (UpPipe W)) (i : ℕ) (x : UpPipe W) → i < length xs → x ≡ get_or xs i x → get_or (ids xs) i 0 ≡ x.id
  id_at xs i x l at = get_or-map (λ (z : UpPipe W). z.id) xs i x 0 l ∙ ap (λ (z : UpPipe W). z.id) (sym at)

  changed : (xs : List (UpPipe W)) (i : ℕ) (x y : UpPipe W) (before : List Entry) (e : Entry) → i < length xs → x ≡ get_or xs i x → y.id ≡ x.id → AreDistinct (ids xs) → All (λ (z : UpPipe W). IsUpWire before z.id (shown z.wire)) xs → IsOf x.id e → IsUpWire (e ∷ before) y.id (shown y.wire)
      → All (λ (z : UpPipe W). IsUpWire (e ∷ before) z.id (shown z.wire)) (set xs i y)
  changed xs i x y before e l at same apart all is new = λ k d m. go k d m (k == i) refl
    where
      at_ids : (k : ℕ) (d : UpPipe W) → k < length xs → get_or (ids xs) k 0 ≡ (get_or xs k d).id
      at_ids k d m = get_or-map (λ (z : UpPipe W). z.id) xs k d 0 m

      go : (k : ℕ) (d : UpPipe W) → k < length (set xs i y) → (b : Bool) → (k == i) ≡ b → IsUpWire (e ∷ before) (get_or (set xs i y) k d).id (shown (get_or (set xs i y) k d).wire)
      go k d m true f =
          let s : k ≡ i = equal_numbers k i f in
          let there : get_or (set xs i y) k d ≡ y = rw s (get_or-set_same xs i y d l) in
          subst (λ (z : UpPipe W). IsUpWire (e ∷ before) z.id (shown z.wire)) (sym there) new
      go k d m false f =
          let other : k ≢ i = λ q. grind (arith, nat_tests, q) in
          let inside : k < length xs = omega (arith, m, length-set xs i y) in
          let there : get_or (set xs i y) k d ≡ get_or xs k d = get_or-set_other xs i k y d other in
          let ids_differ = distinct_at (ids xs) i k apart (simp length-map l) (simp length-map inside) other in
          let n : (x.id == (get_or xs k d).id) ≡ false = rw (← id_at xs i x l at, ← at_ids k d inside) ids_differ in
          subst (λ (z : UpPipe W). IsUpWire (e ∷ before) z.id (shown z.wire)) (sym there) (others_open before e x.id (get_or xs k d).id (shown (get_or xs k d).wire) is n (all k d inside))

  pub ids_same : (xs : List (UpPipe W)) (i : ℕ) (x y : UpPipe W) → i < length xs → x ≡ get_or xs i x → y.id ≡ x.id → ids (set xs i y) ≡ ids xs
  ids_same xs i x y l at same = map-set_same (λ (z : UpPipe W). z.id) xs i y x (same ∙ ap (λ (z : UpPipe W). z.id) at)

  removed : (xs : List (UpPipe W)) (i : ℕ) (before : List Entry) (p : ℕ) (why : Why) → All (λ (z : UpPipe W). IsUpWire before z.id (shown z.wire)) xs → All (λ (z : UpPipe W). IsUpWire (Down p why ∷ before) z.id (shown z.wire)) (remove xs i)
  removed xs i before p why all =
      let left = All-append (λ (z : UpPipe W). IsUpWire before z.id (shown z.wire)) _ _ (All-take (λ (z : UpPipe W). IsUpWire before z.id (shown z.wire)) i xs all) (All-drop (λ (z : UpPipe W). IsUpWire before z.id (shown z.wire)) (suc i) xs all) in
      All-weaker (λ (z : UpPipe W). IsUpWire before z.id (shown z.wire)) (λ (z : UpPipe W). IsUpWire (Down p why ∷ before) z.id (shown z.wire)) (λ x h. record { agrees = h.agrees; is_open = h.is_open }) (remove xs i) left

  -- those that are down and not taken stay down
  down_stay : (z : Setting) (ds : List (DownPipe W)) (before : List Entry) (p : ℕ) (e : Entry) → has (down_ids ds) p ≡ false → IsOf p e → All (λ (x : DownPipe W). IsDownWire z before x.id x.why (shown x.wire)) ds → All (λ (x : DownPipe W). IsDownWire z (e ∷ before) x.id x.why (shown x.wire)) ds
  down_stay z ds before p e h is all = λ k d m.
      let there : get_or (down_ids ds) k 0 ≡ (get_or ds k d).id = get_or-map (λ (x : DownPipe W). x.id) ds k d 0 m in
      let in' : has (down_ids ds) (get_or (down_ids ds) k 0) ≡ true = has_at (down_ids ds) k (simp length-map m) in
      let n : (p == (get_or ds k d).id) ≡ false = rw (← there) (differ (down_ids ds) p (get_or (down_ids ds) k 0) h in') in
      others_went_down z before e p (get_or ds k d).id (get_or ds k d).why (shown (get_or ds k d).wire) is n (all k d m)

pub ids_removed : {W : Type 0} (xs : List (UpPipe W)) (i : ℕ) → i < length xs → ids (remove xs i) ≡ remove (ids xs) i
ids_removed [] i l = absurd (omega arith)
ids_removed (x ∷ xs) zero l = refl
ids_removed (x ∷ xs) (suc i) l = ap (λ (rest : List ℕ). x.id ∷ rest) (ids_removed xs i (omega (arith, l)))

pub set_twice : {A : Type 0} (xs : List A) (i : ℕ) (y z : A) → set (set xs i y) i z ≡ set xs i z
set_twice [] i y z = refl
set_twice (x ∷ xs) zero y z = refl
set_twice (x ∷ xs) (suc i) y z = ap (λ rest. x ∷ rest) (set_twice xs i y z)

-- ---- The pipes

set_itself : {A : Type 0} (xs : List A) (i : ℕ) (y x : A) → i < length xs → x ≡ get_or xs i x → y ≡ x → set xs i y ≡ xs
set_itself [] i y x l at e = refl
set_itself (z ∷ xs) zero y x l at e = ap (λ u. u ∷ xs) (e ∙ at)
set_itself (z ∷ xs) (suc i) y x l at e = ap (λ rest. z ∷ rest) (set_itself xs i y x (omega (arith, l)) at e)

-- the same places, of which some are empty or hold another wire
pub record SamePlaces {W : Type 0} (l m : Pipes W) : Type 0 where
  pub numbers : numbers m.places.items ≡ numbers l.places.items
  pub limits : (before : List Entry) → All (HasLimit before) l.places.items → All (HasLimit before) m.places.items
  pub down : m.down ≡ l.down
  pub count : m.count ≡ l.count

-- the marks of these pipes are as this past says
abbrev pub MarksAre : {W : Type 0} → List Entry → List (UpPipe W) → Pipes W → Type 0
MarksAre before us l = AreMarked (λ q. is_busy before q) (ups before) us l.busy.items (deque_capacity l.busy)

module _ {W : Type 0} (shown : W → WireView) where
  pub wire_at : (l : Pipes W) (t : Moment) (i : ℕ) (x : PipePlace W) (w : W) → PipesStand shown l t → i < length l.places.items → x ≡ get_or l.places.items i x → x.wire ≡ Some w → IsUpWire (past t) x.id (shown w)
  wire_at l t i x w h inside at e =
      let r = ranked l.places.items i x w inside at e in
      subst (λ (z : UpPipe W). IsUpWire (past t) z.id (shown z.wire)) (sym r.is) (h.up_wires r.rank (up_pipe x w) r.inside)

  -- the limit of a pipe that has a place
  pub limit_at : (l : Pipes W) (t : Moment) (i p : ℕ) (x : PipePlace W) → PipesStand shown l t → IsPipeAt l i p → x ≡ get_or l.places.items i x → limit_of (past t) p ≡ Some x.limit
  limit_at l t i p x h there at =
      let own : HasLimit (past t) x = subst (HasLimit (past t)) (sym at) (h.limits i x there.inside) in
      ap (limit_of (past t)) (sym (there.is x at).0) ∙ own

  -- one that has a place is up
  pub up_at : (l : Pipes W) (t : Moment) (i p : ℕ) → PipesStand shown l t → IsPipeAt l i p → has (up (past t)) p ≡ true
  up_at l t i p h there =
      let k = placed l i p there in
      let r = ranked l.places.items i k.0 k.1 there.inside k.2 k.4 in
      let n : get_or (ids (up_pipes l)) r.rank 0 ≡ p = id_at shown (up_pipes l) r.rank (up_pipe k.0 k.1) r.inside r.is ∙ k.3 in
      subst (λ (xs : List ℕ). has xs p ≡ true) h.up_is (subst (λ (q : ℕ). has (ids (up_pipes l)) q ≡ true) n (has_at (ids (up_pipes l)) r.rank (simp length-map r.inside)))

  is_not_down : (l : Pipes W) (t : Moment) (p : ℕ) → Lawful t → PipesStand shown l t → has (up (past t)) p ≡ true → has (down_ids l.down.items) p ≡ false
  is_not_down l t p lawful h u = rw h.down_is (up_untaken t p lawful u)

  is_up : (l : Pipes W) (t : Moment) (r : ℕ) (u : UpPipe W) → PipesStand shown l t → r < length (up_pipes l) → u ≡ get_or (up_pipes l) r u → has (up (past t)) u.id ≡ true
  is_up l t r u h inside at = rw (← h.up_is, ← id_at shown (up_pipes l) r u inside at) (has_at (ids (up_pipes l)) r (simp length-map inside))

  -- the wire has written some of what waited
  pub carried : (l m : Pipes W) (t : Moment) (r : ℕ) (u v : UpPipe W) → PipesStand shown l t → r < length (up_pipes l) → u ≡ get_or (up_pipes l) r u → v.id ≡ u.id → IsUpWire (past t) v.id (shown v.wire) → up_pipes m ≡ set (up_pipes l) r v → SamePlaces l m → MarksAre (past t) (set (up_pipes l) r v) m → PipesStand shown m t
  carried l m t r u v h inside at same new us still marks = record {
    up_is = ap ids us ∙ ids_same shown (up_pipes l) r u v inside at same ∙ h.up_is;
    up_wires = rw us (All-set (λ (z : UpPipe W). IsUpWire (past t) z.id (shown z.wire)) (up_pipes l) r v new h.up_wires);
    down_is = rw still.down h.down_is;
    down_wires = rw still.down h.down_wires;
    in_order = rw still.numbers h.in_order;
    limits = still.limits (past t) h.limits;
    count_is = still.count ∙ h.count_is ∙ sym (ap length us ∙ length-set (up_pipes l) r v);
    down_room = rw (still.down, us, length-set (up_pipes l) r v) h.down_room;
    few = rw (still.down, us, length-set (up_pipes l) r v) h.few;
    marks = rw us marks;
  }

  -- one more entry of a pipe that stays up
  carried_on : (l m : Pipes W) (t : Moment) (e : Entry) (r : ℕ) (u v : UpPipe W) → Lawful t → PipesStand shown l t → r < length (up_pipes l) → u ≡ get_or (up_pipes l) r u → v.id ≡ u.id → IsOf u.id e → up (e ∷ past t) ≡ up (past t) → ups (e ∷ past t) ≡ ups (past t) → untaken (e ∷ past t) ≡ untaken (past t) → IsUpWire (e ∷ past t) v.id (shown v.wire)
      → up_pipes m ≡ set (up_pipes l) r v → SamePlaces l m → MarksAre (e ∷ past t) (set (up_pipes l) r v) m → PipesStand shown m (also t e)
  carried_on l m t e r u v lawful h inside at same is stay most quiet new us still marks =
      let apart : AreDistinct (ids (up_pipes l)) = rw h.up_is (ups_distinct t lawful) in
      let none = is_not_down l t u.id lawful h (is_up l t r u h inside at) in
      record {
        up_is = ap ids us ∙ ids_same shown (up_pipes l) r u v inside at same ∙ h.up_is ∙ sym stay;
        up_wires = rw us (changed shown (up_pipes l) r u v (past t) e inside at same apart h.up_wires is new);
        down_is = rw still.down h.down_is ∙ sym quiet;
        down_wires = rw still.down (down_stay shown t.z l.down.items (past t) u.id e none is h.down_wires);
        in_order = rw (still.numbers, most) h.in_order;
        limits = still.limits (e ∷ past t) (All-weaker (HasLimit (past t)) (HasLimit (e ∷ past t)) (λ x k. limit_kept (past t) e u.id x.id is ∙ k) l.places.items h.limits);
        count_is = still.count ∙ h.count_is ∙ sym (ap length us ∙ length-set (up_pipes l) r v);
        down_room = rw (still.down, us, length-set (up_pipes l) r v) h.down_room;
        few = rw (still.down, us, length-set (up_pipes l) r v) h.few;
        marks = rw us marks;
      }

  -- the pipe goes down, with a wire that shows why
  went_down : (l m : Pipes W) (t : Moment) (r : ℕ) (u : UpPipe W) (w : W) (why : Why) → Lawful t → PipesStand shown l t → r < length (up_pipes l) → u ≡ get_or (up_pipes l) r u → GoesDown t.z (past t) u.id why (shown w)
      → up_pipes m ≡ remove (up_pipes l) r → numbers m.places.items ≡ numbers l.places.items → All (HasLimit (past t)) m.places.items → m.count + 1 ≡ l.count → m.down.items ≡ l.down.items ++ record { id = u.id; why = why; wire = w } ∷ [] → deque_capacity m.down ≡ deque_capacity l.down → m.busy ≡ l.busy → PipesStand shown m (also t (Down u.id why))
  went_down l m t r u w why lawful h inside at so us ns ls cs ds room bs =
      let apart : AreDistinct (ids (up_pipes l)) = rw h.up_is (ups_distinct t lawful) in
      let none = is_not_down l t u.id lawful h (is_up l t r u h inside at) in
      let itself : IsDownWire t.z (Down u.id why ∷ past t) u.id why (shown w) = record { agrees = so.0; why_is = rw (same_number u.id) refl; shows = shows_still t.z (past t) (Down u.id why ∷ past t) u.id why (shown w) refl (λ k. k) so.1 } in
      let gone : remove (ids (up_pipes l)) r ≡ without (up (past t)) u.id = without_removed (ids (up_pipes l)) r apart (simp length-map inside) ∙ ap (without (ids (up_pipes l))) (id_at shown (up_pipes l) r u inside at) ∙ ap (λ xs. without xs u.id) h.up_is in
      let fewer : length (up_pipes m) + 1 ≡ length (up_pipes l) = let a = ap length us in let b = length-remove (up_pipes l) r inside in omega (arith, a, b, inside) in
      let more : length m.down.items ≡ length l.down.items + 1 = ap length ds ∙ length-append l.down.items (record { id = u.id; why = why; wire = w } ∷ []) in
      record {
        up_is = ap ids us ∙ ids_removed (up_pipes l) r inside ∙ gone;
        up_wires = rw us (removed shown (up_pipes l) r (past t) u.id why h.up_wires);
        down_is = ap down_ids ds ∙ map-append (λ (z : DownPipe W). z.id) l.down.items _ ∙ ap (λ xs. xs ++ u.id ∷ []) h.down_is;
        down_wires = rw ds (All-push (λ (z : DownPipe W). IsDownWire t.z (Down u.id why ∷ past t) z.id z.why (shown z.wire)) l.down.items _ (down_stay shown t.z l.down.items (past t) u.id (Down u.id why) none refl h.down_wires) itself);
        in_order = rw ns h.in_order;
        limits = ls;
        count_is = omega (arith, cs, fewer, h.count_is);
        down_room = omega (arith, h.down_room, room, fewer, more);
        few = omega (arith, h.few, fewer, more);
        marks = rw (us, bs) (marked_less (λ q. is_busy (past t) q) (ups (past t)) (deque_capacity l.busy) (up_pipes l) l.busy.items r h.marks);
      }

  -- ---- A place whose wire has moved on, or which is empty now

  -- the place holds this now
  pub still_at : (l m : Pipes W) (i : ℕ) (y : PipePlace W) (w : W) → y.wire ≡ Some w → i < length l.places.items → m.places.items ≡ set l.places.items i y → IsPipeAt m i y.id
  still_at l m i y w holds inside us = record {
    inside = rw (us, length-set l.places.items i y) inside;
    is =
        λ x at.
        let same : x ≡ y = at ∙ ap (λ (xs : List (PipePlace W)). get_or xs i x) us ∙ get_or-set_same l.places.items i y x inside in
        (ap (λ (z : PipePlace W). z.id) same, ap (λ (z : PipePlace W). is_some z.wire) same ∙ ap is_some holds);
  }

  -- what is at the place after it was set
  set_at : (l k : Pipes W) (i : ℕ) (y : PipePlace W) → i < length l.places.items → k.places.items ≡ set l.places.items i y → y ≡ get_or k.places.items i y
  set_at l k i y inside us = sym (ap (λ (xs : List (PipePlace W)). get_or xs i y) us ∙ get_or-set_same l.places.items i y y inside)

  -- what becomes of the marks, wherever the pipe is among those that are up
  abbrev Remarks : List Entry → PipePlace W → W → PipePlace W → W → Pipes W → Pipes W → Type 0
  Remarks before x v y w l m = (r : ℕ) → r < length (up_pipes l) → up_pipe x v ≡ get_or (up_pipes l) r (up_pipe x v) → AreDistinct (ids (up_pipes l)) → MarksAre before (set (up_pipes l) r (up_pipe y w)) m

  -- the place holds this wire now
  moved : (l m : Pipes W) (t : Moment) (e : Entry) (i p : ℕ) (x y : PipePlace W) (v w : W) → Lawful t → PipesStand shown l t → IsPipeAt l i p → x ≡ get_or l.places.items i x → x.wire ≡ Some v → y.id ≡ x.id → y.limit ≡ x.limit → y.wire ≡ Some w → IsOf p e → up (e ∷ past t) ≡ up (past t) → ups (e ∷ past t) ≡ ups (past t) → untaken (e ∷ past t) ≡ untaken (past t)
      → (IsUpWire (past t) p (shown v) → IsUpWire (e ∷ past t) p (shown w)) → m.places.items ≡ set l.places.items i y → m.down ≡ l.down → m.count ≡ l.count → Remarks (e ∷ past t) x v y w l m → PipesStand shown m (also t e) × IsPipeAt m i p
  moved l m t e i p x y v w lawful h there at holds named bound now is stay most quiet goes us ds cs marks =
      let id : x.id ≡ p = (there.is x at).0 in
      let r = ranked l.places.items i x v there.inside at holds in
      let new : IsUpWire (e ∷ past t) y.id (shown w) = subst (λ (q : ℕ). IsUpWire (e ∷ past t) q (shown w)) (sym (named ∙ id)) (goes (subst (λ (q : ℕ). IsUpWire (past t) q (shown v)) id (wire_at l t i x v h there.inside at holds))) in
      let same : SamePlaces l m = record { numbers = ap numbers us ∙ numbers_same l.places.items i x y at named; limits = λ before all. subst (All (HasLimit before)) (sym us) (limits_same before l.places.items i x y there.inside at named bound all); down = ds; count = cs } in
      let apart : AreDistinct (ids (up_pipes l)) = rw h.up_is (ups_distinct t lawful) in (
        carried_on l m t e r.rank (up_pipe x v) (up_pipe y w) lawful h r.inside r.is named (subst (λ (q : ℕ). IsOf q e) (sym id) is) stay most quiet new (ap held us ∙ r.changed y w now) same (marks r.rank r.inside r.is apart),
        subst (λ (q : ℕ). IsPipeAt m i q) (named ∙ id) (still_at l m i y w now there.inside us),
      )

  -- and the pipe is as busy as it was
  pub moved_still : (l m : Pipes W) (t : Moment) (e : Entry) (i p : ℕ) (x : PipePlace W) (v w : W) → Lawful t → PipesStand shown l t → IsPipeAt l i p → x ≡ get_or l.places.items i x → x.wire ≡ Some v → IsOf p e → up (e ∷ past t) ≡ up (past t) → ups (e ∷ past t) ≡ ups (past t) → untaken (e ∷ past t) ≡ untaken (past t)
      → ((q : ℕ) → is_busy (e ∷ past t) q ≡ is_busy (past t) q) → (IsUpWire (past t) p (shown v) → IsUpWire (e ∷ past t) p (shown w)) → m.places.items ≡ set l.places.items i (record x { wire = Some w }) → m.down ≡ l.down → m.count ≡ l.count → m.busy ≡ l.busy → PipesStand shown m (also t e) × IsPipeAt m i p
  moved_still l m t e i p x v w lawful h there at holds is stay most quiet busy goes us ds cs bs =
      moved l m t e i p x (record x { wire = Some w }) v w lawful h there at holds refl refl refl is stay most quiet goes us ds cs (λ r inside is_at apart.
      let was = marked_at (λ q. is_busy (past t) q) (ups (past t)) (deque_capacity l.busy) (up_pipes l) l.busy.items r (up_pipe x v) h.marks inside is_at in
      rw (bs, most) (still_marked (λ q. is_busy (past t) q) (λ q. is_busy (e ∷ past t) q) (ups (past t)) (deque_capacity l.busy) (up_pipes l) l.busy.items r (up_pipe x v) (up_pipe (record x { wire = Some w }) w) h.marks inside is_at apart (λ q n. busy q) refl refl (was.0 ∙ sym (busy x.id)) (λ b. b)))

  -- the pipe is marked as busy then
  pub moved_busy : (l k m : Pipes W) (t : Moment) (e : Entry) (i p : ℕ) (x : PipePlace W) (v w : W) → Lawful t → PipesStand shown l t → IsPipeAt l i p → x ≡ get_or l.places.items i x → x.wire ≡ Some v → IsOf p e → up (e ∷ past t) ≡ up (past t) → ups (e ∷ past t) ≡ ups (past t) → untaken (e ∷ past t) ≡ untaken (past t)
      → ((q : ℕ) → (p == q) ≡ false → is_busy (e ∷ past t) q ≡ is_busy (past t) q) → is_busy (e ∷ past t) p ≡ true → (IsUpWire (past t) p (shown v) → IsUpWire (e ∷ past t) p (shown w)) → k.places.items ≡ set l.places.items i (record x { wire = Some w }) → k.down ≡ l.down → k.count ≡ l.count → k.busy ≡ l.busy → MarksPlace i k m → PipesStand shown m (also t e) × IsPipeAt m i p
  moved_busy l k m t e i p x v w lawful h there at holds is stay most quiet others itself goes us ds cs bs out =
      let id : x.id ≡ p = (there.is x at).0 in
      let y : PipePlace W = record x { wire = Some w } in
      let z : PipePlace W = record x { wire = Some w; busy = true; listed = true } in
      let now : y ≡ get_or k.places.items i y = set_at l k i y there.inside us in
      let places : m.places.items ≡ set l.places.items i z = out.places y now ∙ ap (λ (xs : List (PipePlace W)). set xs i z) us ∙ set_twice l.places.items i y z in
      let list : m.busy.items ≡ listed_on x.listed x.id l.busy.items = out.list y now ∙ ap (λ (b : _). listed_on x.listed x.id b.items) bs in
      let room : deque_capacity m.busy ≡ deque_capacity l.busy = out.room ∙ ap deque_capacity bs in
      moved l m t e i p x z v w lawful h there at holds refl refl refl is stay most quiet goes places (out.down ∙ ds) (out.count ∙ cs) (λ r inside is_at apart.
      let marks = (marked_busy (λ q. is_busy (past t) q) (λ q. is_busy (e ∷ past t) q) (ups (past t)) (deque_capacity l.busy) (up_pipes l) l.busy.items r (up_pipe x v) (up_pipe z w) h.marks inside is_at apart (λ q n. others q (subst (λ (o : ℕ). (o == q) ≡ false) id n)) refl refl refl (ap (λ (q : ℕ). is_busy (e ∷ past t) q) id ∙ itself) (low_number t lawful x.id (subst (λ (q : ℕ). has (up (past t)) q ≡ true) (sym id) (up_at l t i p h there)))) in
      let us' = set (up_pipes l) r (up_pipe z w) in
      let g : ℕ → Bool = λ q. is_busy (e ∷ past t) q in
      subst (λ (n : ℕ). AreMarked g n us' m.busy.items (deque_capacity m.busy)) (sym most) (subst (λ (xs : List ℕ). AreMarked g (ups (past t)) us' xs (deque_capacity m.busy)) (sym list) (subst (λ (n : ℕ). AreMarked g (ups (past t)) us' (listed_on x.listed x.id l.busy.items) n) (sym room) marks)))

  -- it has nothing left to write, and is marked as not busy then
  pub moved_clear : (l k m : Pipes W) (t : Moment) (i p : ℕ) (x : PipePlace W) (v w : W) → Lawful t → PipesStand shown l t → IsPipeAt l i p → x ≡ get_or l.places.items i x → x.wire ≡ Some v → (IsUpWire (past t) p (shown v) → IsUpWire (Clear p ∷ past t) p (shown w))
      → k.places.items ≡ set l.places.items i (record x { wire = Some w }) → k.down ≡ l.down → k.count ≡ l.count → k.busy ≡ l.busy → UnmarksPlace i k m → PipesStand shown m (also t (Clear p)) × IsPipeAt m i p
  moved_clear l k m t i p x v w lawful h there at holds goes us ds cs bs out =
      let id : x.id ≡ p = (there.is x at).0 in
      let y : PipePlace W = record x { wire = Some w } in
      let z : PipePlace W = record x { wire = Some w; busy = false } in
      let now : y ≡ get_or k.places.items i y = set_at l k i y there.inside us in
      let places : m.places.items ≡ set l.places.items i z = out.places y now ∙ ap (λ (xs : List (PipePlace W)). set xs i z) us ∙ set_twice l.places.items i y z in
      moved l m t (Clear p) i p x z v w lawful h there at holds refl refl refl refl refl refl refl goes places (out.down ∙ ds) (out.count ∙ cs) (λ r inside is_at apart.
      rw (out.list ∙ bs) (still_marked (λ q. is_busy (past t) q) (λ q. is_busy (Clear p ∷ past t) q) (ups (past t)) (deque_capacity l.busy) (up_pipes l) l.busy.items r (up_pipe x v) (up_pipe z w) h.marks inside is_at apart (λ q n. busy_clear (past t) p q (subst (λ (o : ℕ). (o == q) ≡ false) id n)) refl refl (sym (ap (λ (q : ℕ). is_busy (Clear p ∷ past t) q) id ∙ is_clear (past t) p)) (λ b. absurd cc)))

  -- the list stays as it is where it has the pipe
  pub keeps_listed : (l k m : Pipes W) (t : Moment) (i p : ℕ) (x : PipePlace W) (v w : W) → PipesStand shown l t → IsPipeAt l i p → x ≡ get_or l.places.items i x → x.wire ≡ Some v → k.places.items ≡ set l.places.items i (record x { wire = Some w }) → k.busy ≡ l.busy → MarksPlace i k m → KeepsListed p l m
  keeps_listed l k m t i p x v w h there at holds us bs out there_is =
      let id : x.id ≡ p = (there.is x at).0 in
      let r = ranked l.places.items i x v there.inside at holds in
      let was = marked_at (λ q. is_busy (past t) q) (ups (past t)) (deque_capacity l.busy) (up_pipes l) l.busy.items r.rank (up_pipe x v) h.marks r.inside r.is in
      let y : PipePlace W = record x { wire = Some w } in
      let now : y ≡ get_or k.places.items i y = set_at l k i y there.inside us in
      let on : x.listed ≡ true = was.1 ∙ ap (has l.busy.items) id ∙ there_is in
      out.list y now ∙ ap (λ (b : _). listed_on x.listed x.id b.items) bs ∙ ap (λ (b : Bool). listed_on b x.id l.busy.items) on

  -- there is room on the list for the pipe
  pub room_to_mark : (l k : Pipes W) (t : Moment) (i p : ℕ) (x : PipePlace W) (v w : W) → PipesStand shown l t → IsPipeAt l i p → x ≡ get_or l.places.items i x → x.wire ≡ Some v → k.places.items ≡ set l.places.items i (record x { wire = Some w }) → k.busy ≡ l.busy → HasRoomOn i k
  room_to_mark l k t i p x v w h there at holds us bs y now off =
      let r = ranked l.places.items i x v there.inside at holds in
      let z : PipePlace W = record x { wire = Some w } in
      let same : y ≡ z = now ∙ ap (λ (xs : List (PipePlace W)). get_or xs i y) us ∙ get_or-set_same l.places.items i z y there.inside in
      let none : x.listed ≡ false = sym (ap (λ (o : PipePlace W). o.listed) same) ∙ off in
      rw bs (room_on (λ q. is_busy (past t) q) (ups (past t)) (deque_capacity l.busy) (up_pipes l) l.busy.items r.rank (up_pipe x v) h.marks r.inside r.is none)

  -- the wire of the place has changed, and nothing else is recorded
  pub moved_alone : (l m : Pipes W) (t : Moment) (i p : ℕ) (x : PipePlace W) (v w : W) → Lawful t → PipesStand shown l t → IsPipeAt l i p → x ≡ get_or l.places.items i x → x.wire ≡ Some v
      → (IsUpWire (past t) p (shown v) → IsUpWire (past t) p (shown w)) → m.places.items ≡ set l.places.items i (record x { wire = Some w }) → m.down ≡ l.down → m.count ≡ l.count → m.busy ≡ l.busy → PipesStand shown m t × IsPipeAt m i p
  moved_alone l m t i p x v w lawful h there at holds goes us ds cs bs =
      let id : x.id ≡ p = (there.is x at).0 in
      let y : PipePlace W = record x { wire = Some w } in
      let r = ranked l.places.items i x v there.inside at holds in
      let apart : AreDistinct (ids (up_pipes l)) = rw h.up_is (ups_distinct t lawful) in
      let was = marked_at (λ q. is_busy (past t) q) (ups (past t)) (deque_capacity l.busy) (up_pipes l) l.busy.items r.rank (up_pipe x v) h.marks r.inside r.is in
      let marks : MarksAre (past t) (set (up_pipes l) r.rank (up_pipe y w)) m = rw bs (still_marked (λ q. is_busy (past t) q) (λ q. is_busy (past t) q) (ups (past t)) (deque_capacity l.busy) (up_pipes l) l.busy.items r.rank (up_pipe x v) (up_pipe y w) h.marks r.inside r.is apart (λ q n. refl) refl refl was.0 (λ b. b)) in
      let new : IsUpWire (past t) x.id (shown w) = subst (λ (q : ℕ). IsUpWire (past t) q (shown w)) (sym id) (goes (subst (λ (q : ℕ). IsUpWire (past t) q (shown v)) id (wire_at l t i x v h there.inside at holds))) in
      let same : SamePlaces l m = record { numbers = ap numbers us ∙ numbers_same l.places.items i x y at refl; limits = λ before all. subst (All (HasLimit before)) (sym us) (limits_same before l.places.items i x y there.inside at refl refl all); down = ds; count = cs } in (
        carried l m t r.rank (up_pipe x v) (up_pipe y w) h r.inside r.is refl new (ap held us ∙ r.changed y w refl) same marks,
        subst (λ (q : ℕ). IsPipeAt m i q) id (still_at l m i y w refl there.inside us),
      )

  -- the place is empty now, and its wire shows why
  pub emptied : (l k m : Pipes W) (t : Moment) (i p : ℕ) (x : PipePlace W) (v w : W) (why : Why) → Lawful t → PipesStand shown l t → IsPipeAt l i p → x ≡ get_or l.places.items i x → x.wire ≡ Some v → (IsUpWire (past t) p (shown v) → GoesDown t.z (past t) p why (shown w))
      → k.places.items ≡ set l.places.items i (record x { wire = Some w }) → k.down ≡ l.down → k.count ≡ l.count → k.busy ≡ l.busy → EmptiesPlace i why k m → PipesStand shown m (also t (Down p why))
  emptied l k m t i p x v w why lawful h there at holds goes us ds cs bs out =
      let id : x.id ≡ p = (there.is x at).0 in
      let r = ranked l.places.items i x v there.inside at holds in
      let y : PipePlace W = record x { wire = Some w } in
      let z : PipePlace W = record x { wire = None } in
      let now : y ≡ get_or k.places.items i y = set_at l k i y there.inside us in
      let left : m.places.items ≡ set l.places.items i z = out.places y now ∙ ap (λ (xs : List (PipePlace W)). set xs i z) us ∙ set_twice l.places.items i y z in
      let limits : All (HasLimit (past t)) m.places.items = subst (All (HasLimit (past t))) (sym left) (limits_same (past t) l.places.items i x z there.inside at refl refl h.limits) in
      let so : GoesDown t.z (past t) x.id why (shown w) = subst (λ (q : ℕ). GoesDown t.z (past t) q why (shown w)) (sym id) (goes (subst (λ (q : ℕ). IsUpWire (past t) q (shown v)) id (wire_at l t i x v h there.inside at holds))) in
      subst (λ (q : ℕ). PipesStand shown m (also t (Down q why))) id
      (went_down l m t r.rank (up_pipe x v) w why lawful h r.inside r.is so (ap held left ∙ r.emptied z refl) (ap numbers left ∙ numbers_same l.places.items i x z at refl) limits (out.count ∙ cs) (out.down y w now refl ∙ ap (λ (d : _). d.items ++ record { id = x.id; why = why; wire = w } ∷ []) ds) (out.room ∙ ap deque_capacity ds) (out.busy ∙ bs))

  -- ---- What the calls require

  some_up : (l : Pipes W) (i p : ℕ) → IsPipeAt l i p → 0 < length (up_pipes l)
  some_up l i p there =
      let k = placed l i p there in
      let r = ranked l.places.items i k.0 k.1 there.inside k.2 k.4 in
      let n = r.inside in
      omega (arith, n)

  -- there is room for it among those that are down
  pub room_below : (l : Pipes W) (t : Moment) (i p : ℕ) → PipesStand shown l t → IsPipeAt l i p → length l.down.items < deque_capacity l.down
  room_below l t i p h there = let n = some_up l i p there in let few = h.down_room in omega (arith, n, few)

  -- it has its place
  pub has_place : (l : Pipes W) (t : Moment) (i p : ℕ) → PipesStand shown l t → IsPipeAt l i p → HasPlace l i
  has_place l t i p h there = record { inside = there.inside; is_up = λ x at. (there.is x at).1; counted = let n = some_up l i p there in let c = h.count_is in omega (arith, n, c) }

  -- and has it with another wire
  pub keeps_place : (l k : Pipes W) (t : Moment) (i p : ℕ) (x : PipePlace W) (w : W) → PipesStand shown l t → IsPipeAt l i p → k.places.items ≡ set l.places.items i (record x { wire = Some w }) → k.count ≡ l.count → HasPlace k i
  keeps_place l k t i p x w h there us cs = record {
    inside = (still_at l k i (record x { wire = Some w }) w refl there.inside us).inside;
    is_up = λ y at. ((still_at l k i (record x { wire = Some w }) w refl there.inside us).is y at).1;
    counted = let n = some_up l i p there in let c = h.count_is in omega (arith, n, c, cs);
  }

  -- the wire of this place has room
  ready_now : (l m : Pipes W) (i : ℕ) (z : PipePlace W) (w : W) → i < length l.places.items → m.places.items ≡ set l.places.items i (record z { wire = Some w }) → (shown w).is_ready ≡ true → IsReadyAt shown m i
  ready_now l m i z w inside us ready x v at holds =
      let same : x ≡ (let y : PipePlace W = record z { wire = Some w } in y) = at ∙ ap (λ (xs : List (PipePlace W)). get_or xs i x) us ∙ get_or-set_same l.places.items i (record z { wire = Some w }) x inside in
      let wires : Some w ≡ Some v = sym (ap (λ (y : PipePlace W). y.wire) same) ∙ holds in
      let it : w ≡ v = cc in
      subst (λ (y : W). (shown y).is_ready ≡ true) it ready

  -- the pipe goes down for the close
  pub close_pipe : (l m : Pipes W) (t : Moment) (i p : ℕ) → Lawful t → PipesStand shown l t → IsPipeAt l i p → EmptiesPlace i whys.Closed l m → PipesStand shown m (also t (Down p whys.Closed))
  close_pipe l m t i p lawful h there out =
      let k = placed l i p there in
      let y : PipePlace W = record k.0 { wire = Some k.1 } in
      let same : set l.places.items i y ≡ l.places.items = set_itself l.places.items i y k.0 there.inside k.2 (ap (λ (o : Option W). let z : PipePlace W = record k.0 { wire = o } in z) (sym k.4)) in
      emptied l l m t i p k.0 k.1 k.1 whys.Closed lawful h there k.2 k.4 (λ was. (was.agrees, tt)) (sym same) refl refl refl out

  -- there is room
  pub roomy : (l m : Pipes W) (t : Moment) (i p : ℕ) (x : PipePlace W) (v w : W) → Lawful t → PipesStand shown l t → IsPipeAt l i p → x ≡ get_or l.places.items i x → x.wire ≡ Some v → AfterRoom rooms.Yes (shown v) (shown w)
      → m.places.items ≡ set l.places.items i (record x { wire = Some w }) → m.down ≡ l.down → m.count ≡ l.count → m.busy ≡ l.busy → AskedAs shown asked.Yes i p t m
  roomy l m t i p x v w lawful h there at holds after us ds cs bs =
      let now = moved_alone l m t i p x v w lawful h there at holds (λ was. (roomed (past t) p (shown v) (shown w) was after).0) us ds cs bs in
      let was = wire_at l t i x v h there.inside at holds in
      (now.0, now.1, ready_now l m i x w there.inside us (roomed (past t) x.id (shown v) (shown w) was after).1)

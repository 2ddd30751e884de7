-- The first of the pipes that are down is taken.
use Rattle.std.proofs.Common.{◌≡◌, ap, sym, ◌∙◌, subst, List, [], ◌∷◌, ℕ, ◌+◌, ◌++◌, suc, arith, length, Some}
use Rattle.std.specs.VecDeque.{deque_capacity}
use Rattle.std.specs.List.{All}
use Rattle.sp_msg.specs.Views.{WireView}
use Rattle.sp_history.specs.declared.entry.Entry.{Entry}
use Rattle.sp_history.specs.declared.entry.Entry.TheVariants.{Taken}
use Rattle.sp_history.specs.Lists.{without, head_of}
use Rattle.sp_history.specs.Past.{ups, untaken}
use Rattle.sp_history.specs.Once.{AreDistinct}
use Rattle.sp_history.specs.Moments.{Moment, past, also, Lawful}
use Rattle.core_state.specs.declared.pipes.DownPipe.{DownPipe}
use Rattle.core_state.specs.declared.pipes.Pipes.{Pipes}
use Rattle.core_state.specs.Wires.{IsDownWire}
use Rattle.core_state.specs.Pipes.{down_ids, numbers, up_pipes, HasLimit, IsRising, PipesStand, TakenAs}
use Rattle.core_state.proofs.ChangedWires.{without_removed, untaken_distinct}

pub without_first : (x : ℕ) (xs : List ℕ) → AreDistinct (x ∷ xs) → xs ≡ without (x ∷ xs) x
without_first x xs h = without_removed (x ∷ xs) 0 h (omega arith)

module _ {W : Type 0} (shown : W → WireView) where
  pub none_taken : (l : Pipes W) (t : Moment) → PipesStand shown l t → length l.down.items ≡ 0 → untaken (past t) ≡ []
  none_taken l t h e = go l.down.items e (sym h.down_is)
    where
      go : (ds : List (DownPipe W)) → length ds ≡ 0 → untaken (past t) ≡ down_ids ds → untaken (past t) ≡ []
      go [] k u = u
      go (d ∷ ds) k u = absurd (omega (arith, k))

  -- the first of those that are down was this one, and places may have been taken out
  pub taken_from : (l m : Pipes W) (t : Moment) (f : DownPipe W) (rest : List (DownPipe W)) → Lawful t → PipesStand shown l t → l.down.items ≡ f ∷ rest → m.down.items ≡ rest → up_pipes m ≡ up_pipes l → ((q : ℕ) → IsRising (numbers l.places.items ++ q ∷ []) → IsRising (numbers m.places.items ++ q ∷ [])) → ((before : List Entry) → All (HasLimit before) l.places.items → All (HasLimit before) m.places.items) → m.count ≡ l.count → deque_capacity m.down ≡ deque_capacity l.down → m.busy ≡ l.busy → TakenAs shown (Some f) t m
  taken_from l m t f rest lawful h was now us ns ls cs room bs =
      let ids_are : f.id ∷ down_ids rest ≡ untaken (past t) = ap down_ids (sym was) ∙ h.down_is in
      let apart : AreDistinct (f.id ∷ down_ids rest) = subst AreDistinct (sym ids_are) (untaken_distinct t lawful) in
      let wires : All (λ (x : DownPipe W). IsDownWire t.z (past t) x.id x.why (shown x.wire)) (f ∷ rest) = subst (All (λ (x : DownPipe W). IsDownWire t.z (past t) x.id x.why (shown x.wire))) was h.down_wires in
      let left : PipesStand shown m (also t (Taken f.id)) = record {
        up_is = rw us h.up_is;
        up_wires = rw us (λ k d n. let u = h.up_wires k d n in record { agrees = u.agrees; is_open = u.is_open });
        down_is = ap down_ids now ∙ without_first f.id (down_ids rest) apart ∙ ap (λ (xs : List ℕ). without xs f.id) ids_are;
        down_wires = rw now (λ k d n. let u = wires (suc k) d (omega (arith, n)) in record { agrees = u.agrees; why_is = u.why_is; shows = u.shows });
        in_order = ns (ups (past t) + 1) h.in_order;
        limits = ls (past t) h.limits;
        count_is = cs ∙ h.count_is ∙ sym (ap length us);
        down_room = let few = ap length was in let fewer = ap length now in rw us (omega (arith, h.down_room, room, few, fewer));
        few = let few = ap length was in let fewer = ap length now in rw us (omega (arith, h.few, few, fewer));
        marks = rw (us, bs) h.marks;
      } in
      (sym (ap head_of ids_are), wires 0 f (omega arith), left)

-- A pipe comes up.
use Rattle.std.proofs.Common.{◌≡◌, refl, ap, sym, ◌∙◌, subst, List, [], ◌∷◌, ◌++◌, ℕ, ◌+◌, ◌<◌, true, false, arith, length, get_or, length-append, Some}
use Rattle.std.specs.Prelude.{◌==◌, IfSome}
use Rattle.std.specs.List.{All}
use Rattle.std.proofs.lemmas.List.Elements.{All-push}
use Rattle.std.proofs.lemmas.Bool.Decides.{nat_tests}
use Rattle.std.proofs.lemmas.List.{get_or-map, length-map, map-append}
use Rattle.sp_msg.specs.Views.{WireView}
use Rattle.sp_history.specs.declared.entry.Entry.{Entry}
use Rattle.sp_history.specs.declared.entry.WireNumbers.{WireNumbers}
use Rattle.sp_history.specs.declared.entry.Why.{Why}
use Rattle.sp_history.specs.declared.entry.Entry.TheVariants.{Up, Frame, Out, Full, Quiet, Stall, Clear}
use Rattle.sp_history.specs.declared.setting.Setting.{Setting}
use Rattle.sp_history.specs.Lists.{has}
use Rattle.sp_history.specs.Past.{ups, frames, outs, fulls, quiets, stalls, up_to_most}
use Rattle.sp_history.specs.Legal.{Allowed}
use Rattle.sp_history.specs.Moments.{Moment, past, also, Lawful}
use Rattle.core_state.specs.declared.pipes.PipePlace.{PipePlace}
use Rattle.core_state.specs.declared.pipes.DownPipe.{DownPipe}
use Rattle.core_state.specs.declared.pipes.Pipes.{Pipes}
use Rattle.std.specs.VecDeque.{deque_capacity}
use Rattle.core_state.specs.Busy.{is_busy}
use Rattle.core_state.specs.Wires.{IsUpWire, IsDownWire, IsUnused, numbers_of}
use Rattle.core_state.specs.Pipes.{UpPipe, ids, down_ids, numbers, held, up_pipes, HasLimit, IsRising, PipesStand, HasRoom}
use Rattle.core_state.proofs.PipesInOrder.{held_more, rising_push, below_last}
use Rattle.core_state.proofs.Lawfuls.{by_steps}
use Rattle.core_state.proofs.Marking.{marked_more}
use Rattle.core_state.proofs.ChangedWires.{same_number, differ, has_at, shows_still, Numbered, numbered, numbered_next, down_low}

-- no entry mentions a pipe whose number was not given yet
abbrev Untouched : List Entry → ℕ → Type 0
Untouched before p = (frames before p ≡ []) × (outs before p ≡ []) × (fulls before p ≡ 0) × (quiets before p ≡ 0) × (stalls before p ≡ 0)

abbrev AllUntouched : List Entry → Type 0
AllUntouched before = (p : ℕ) → ups before < p → Untouched before p

untouched_next : (z : Setting) (k : ℕ) (before : List Entry) (e : Entry) → Numbered before → AllUntouched before → Allowed z k before e → AllUntouched (e ∷ before)
untouched_next z k before (Up q place limit name) n h a = λ p l. h p (omega (arith, l))
untouched_next z k before (Frame q b) n h a = λ p l. let f : (q == p) ≡ false = down_low before q p n a.itself.0 l in rw f (h p l)
untouched_next z k before (Out q b) n h a = λ p l. let f : (q == p) ≡ false = down_low before q p n a.itself l in rw f (h p l)
untouched_next z k before (Full q) n h a = λ p l. let f : (q == p) ≡ false = down_low before q p n a.itself l in rw f (h p l)
untouched_next z k before (Quiet q) n h a = λ p l. let f : (q == p) ≡ false = down_low before q p n a.itself.0 l in rw f (h p l)
untouched_next z k before (Stall q) n h a = λ p l. let f : (q == p) ≡ false = down_low before q p n a.itself l in rw f (h p l)
untouched_next z k before _ n h a = h

untouched : (t : Moment) → Lawful t → AllUntouched (past t)
untouched t l =
    (by_steps t (λ before. Numbered before × AllUntouched before) ((tt, λ p l. (refl, refl), λ p u. refl), λ p l. (refl, refl, refl, refl, refl)) (λ k before e h a. (numbered_next t.z k before e h.0 a, untouched_next t.z k before e h.0 h.1 a)) l).1

-- nor is it busy
abbrev NoneBusy : List Entry → Type 0
NoneBusy before = (p : ℕ) → ups before < p → is_busy before p ≡ false

idle_next : (z : Setting) (k : ℕ) (before : List Entry) (e : Entry) → Numbered before → NoneBusy before → Allowed z k before e → NoneBusy (e ∷ before)
idle_next z k before (Up q place limit name) n h a = λ p l. h p (omega (arith, l))
idle_next z k before (Frame q b) n h a = λ p l. let f : (q == p) ≡ false = down_low before q p n a.itself.0 l in rw f (h p l)
idle_next z k before (Out q b) n h a = λ p l. let f : (q == p) ≡ false = down_low before q p n a.itself l in rw f (h p l)
idle_next z k before (Stall q) n h a = λ p l. let f : (q == p) ≡ false = down_low before q p n a.itself l in rw f (h p l)
idle_next z k before (Clear q) n h a = λ p l. let f : (q == p) ≡ false = down_low before q p n a.itself l in rw f (h p l)
idle_next z k before _ n h a = h

never_busy : (t : Moment) → Lawful t → NoneBusy (past t)
never_busy t l =
    (by_steps t (λ before. Numbered before × NoneBusy before) ((tt, λ p l. (refl, refl), λ p u. refl), λ p l. refl) (λ k before e h a. (numbered_next t.z k before e h.0 a, idle_next t.z k before e h.0 h.1 a)) l).1

none_counted : (n k : ℕ) → n ≡ 0 → k ≡ 0 → n ≡ up_to_most k
none_counted n k h e = omega (arith, h, e)

itself_up : (before : List Entry) (p place limit : ℕ) (w : WireView) → Untouched before p → IsUnused w → IsUpWire (Up p place limit (record { numbers = numbers_of w.name }) ∷ before) p w
itself_up before p place limit w u n = record {
  agrees = record {
    name_is = rw (same_number p) refl;
    came_is = subst (λ (fs : List (List ℕ)). IfSome w.came (λ texts. texts ≡ fs)) (sym u.0) n.came;
    outs_is = subst (λ (fs : List (List ℕ)). IfSome w.outs (λ texts. texts ≡ fs)) (sym u.1) n.outs;
    waits_is = λ c. n.waits;
    fulls_is = none_counted w.fulls (fulls before p) n.fulls u.2;
    idles_is = none_counted w.idles (quiets before p) n.idles u.3;
    stalls_is = none_counted w.stalls (stalls before p) n.stalls u.4;
  };
  is_open = n.is_open;
}

other_up : (before : List Entry) (p place limit : ℕ) (name : WireNumbers) (q : ℕ) (w : WireView) → (p == q) ≡ false → IsUpWire before q w → IsUpWire (Up p place limit name ∷ before) q w
other_up before p place limit name q w n h = record { agrees = rw n h.agrees; is_open = h.is_open }

other_down : (z : Setting) (before : List Entry) (p place limit : ℕ) (name : WireNumbers) (q : ℕ) (why : Why) (w : WireView) → (p == q) ≡ false → IsDownWire z before q why w → IsDownWire z (Up p place limit name ∷ before) q why w
other_down z before p place limit name q why w n h = record {
  agrees = rw n h.agrees;
  why_is = h.why_is;
  shows = shows_still z before (Up p place limit name ∷ before) q why w refl (λ k. k) h.shows;
}

module _ {W : Type 0} (shown : W → WireView) where
  ups_stay : (xs : List (UpPipe W)) (before : List Entry) (p place limit : ℕ) (name : WireNumbers) → has (ids xs) p ≡ false → All (λ (x : UpPipe W). IsUpWire before x.id (shown x.wire)) xs → All (λ (x : UpPipe W). IsUpWire (Up p place limit name ∷ before) x.id (shown x.wire)) xs
  ups_stay xs before p place limit name h all = λ k d m.
      let there : get_or (ids xs) k 0 ≡ (get_or xs k d).id = get_or-map (λ (x : UpPipe W). x.id) xs k d 0 m in
      let in' : has (ids xs) (get_or (ids xs) k 0) ≡ true = has_at (ids xs) k (simp length-map m) in
      let n : (p == (get_or xs k d).id) ≡ false = rw (← there) (differ (ids xs) p (get_or (ids xs) k 0) h in') in
      other_up before p place limit name (get_or xs k d).id (shown (get_or xs k d).wire) n (all k d m)

  downs_stay : (z : Setting) (ds : List (DownPipe W)) (before : List Entry) (p place limit : ℕ) (name : WireNumbers) → has (down_ids ds) p ≡ false → All (λ (x : DownPipe W). IsDownWire z before x.id x.why (shown x.wire)) ds → All (λ (x : DownPipe W). IsDownWire z (Up p place limit name ∷ before) x.id x.why (shown x.wire)) ds
  downs_stay z ds before p place limit name h all = λ k d m.
      let there : get_or (down_ids ds) k 0 ≡ (get_or ds k d).id = get_or-map (λ (x : DownPipe W). x.id) ds k d 0 m in
      let in' : has (down_ids ds) (get_or (down_ids ds) k 0) ≡ true = has_at (down_ids ds) k (simp length-map m) in
      let n : (p == (get_or ds k d).id) ≡ false = rw (← there) (differ (down_ids ds) p (get_or (down_ids ds) k 0) h in') in
      other_down z before p place limit name (get_or ds k d).id (get_or ds k d).why (shown (get_or ds k d).wire) n (all k d m)

  -- no earlier place has the new number
  limits_stay : (xs : List (PipePlace W)) (before : List Entry) (p place limit : ℕ) (name : WireNumbers) → IsRising (numbers xs ++ p ∷ []) → All (HasLimit before) xs → All (HasLimit (Up p place limit name ∷ before)) xs
  limits_stay xs before p place limit name rise all = λ k d m.
      let there : get_or (numbers xs) k 0 ≡ (get_or xs k d).id = get_or-map (λ (x : PipePlace W). x.id) xs k d 0 m in
      let in' : has (numbers xs) (get_or (numbers xs) k 0) ≡ true = has_at (numbers xs) k (simp length-map m) in
      let low : get_or (numbers xs) k 0 < p = below_last (numbers xs) p (get_or (numbers xs) k 0) rise in' in
      let n : (p == (get_or xs k d).id) ≡ false = rw (← there) (above (get_or (numbers xs) k 0) low) in
      let kept : HasLimit before (get_or xs k d) = all k d m in
      rw n kept
    where
      above : (y : ℕ) → y < p → (p == y) ≡ false
      above y l = grind (arith, nat_tests)

  pub came_up : (l m : Pipes W) (t : Moment) (p place limit : ℕ) (w : W) → Lawful t → PipesStand shown l t → HasRoom l → p ≡ ups (past t) + 1 → IsUnused (shown w) → m.places.items ≡ l.places.items ++ record { id = p; limit = limit; wire = Some w; busy = false; listed = false } ∷ [] → m.down ≡ l.down → m.count ≡ l.count + 1 → m.busy ≡ l.busy → PipesStand shown m (also t (Up p place limit (record { numbers = numbers_of (shown w).name })))
  came_up l m t p place limit w lawful h room is unused places ds cs bs =
      let name : WireNumbers = record { numbers = numbers_of (shown w).name } in
      let x : UpPipe W = record { id = p; wire = w; busy = false; listed = false } in
      let above : ups (past t) < p = omega (arith, is) in
      let fresh = (numbered t lawful).1 p above in
      let not_up : has (ids (up_pipes l)) p ≡ false = rw h.up_is fresh.0 in
      let not_down : has (down_ids l.down.items) p ≡ false = rw h.down_is fresh.1 in
      let stay = ups_stay (up_pipes l) (past t) p place limit name not_up h.up_wires in
      let new : IsUpWire (Up p place limit name ∷ past t) p (shown w) = itself_up (past t) p place limit (shown w) (untouched t lawful p above) unused in
      let us : up_pipes m ≡ up_pipes l ++ x ∷ [] = ap held places ∙ held_more l.places.items (record { id = p; limit = limit; wire = Some w; busy = false; listed = false }) w refl in
      let longer : length (up_pipes m) ≡ length (up_pipes l) + 1 = ap length us ∙ length-append (up_pipes l) (x ∷ []) in
      let ns : numbers m.places.items ≡ numbers l.places.items ++ p ∷ [] = ap numbers places ∙ map-append (λ (z : PipePlace W). z.id) l.places.items _ in
      let before : IsRising (numbers l.places.items ++ p ∷ []) = subst (λ (q : ℕ). IsRising (numbers l.places.items ++ q ∷ [])) (sym is) h.in_order in
      record {
        up_is = ap ids us ∙ map-append (λ (z : UpPipe W). z.id) (up_pipes l) _ ∙ ap (λ xs. xs ++ p ∷ []) h.up_is;
        up_wires = rw us (All-push (λ (z : UpPipe W). IsUpWire (Up p place limit name ∷ past t) z.id (shown z.wire)) (up_pipes l) x stay new);
        down_is = rw ds h.down_is;
        down_wires = rw ds (downs_stay t.z l.down.items (past t) p place limit name not_down h.down_wires);
        in_order = rw ns (rising_push (numbers l.places.items) p (ups (Up p place limit name ∷ past t) + 1) before (omega (arith, is)));
        limits = rw places (All-push (HasLimit (Up p place limit name ∷ past t)) l.places.items (record { id = p; limit = limit; wire = Some w; busy = false; listed = false }) (limits_stay l.places.items (past t) p place limit name before h.limits) (rw (same_number p) refl));
        count_is = cs ∙ ap (λ n. n + 1) h.count_is ∙ sym longer;
        down_room = let few = room.down in rw ds (omega (arith, few, longer, h.count_is));
        few = let few = room.few in rw ds (omega (arith, few, longer, h.count_is));
        marks =
            let quiet : is_busy (past t) p ≡ false = never_busy t lawful p above in
            let fits = room.listed in
            let more = marked_more (λ q. is_busy (past t) q) (ups (past t)) (deque_capacity l.busy) (up_pipes l) l.busy.items x h.marks is refl refl quiet (omega (arith, fits, h.count_is)) in
            rw (us, bs) more;
      }

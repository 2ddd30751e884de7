-- A dialer in a turn: it was dialed, it was not due, or it was not asked.
use Rattle.std.proofs.Common.{◌≡◌, ◌≤◌, ◌<◌, ◌+◌, ◌++◌, ◌∷◌, ℕ, zero, suc, true, false, cond, List, [], length, Some, None, refl, sym, ap, subst, ◌∙◌, arith, inl, inr, slice_get, length-append}
use Rattle.std.specs.Prelude.{⊤, ◌^◌, ◌-◌, ◌⊎◌, nat_le}
use Rattle.std.specs.List.{AllByRecursion}
use Rattle.std.proofs.lemmas.Bool.{cases_lt}
use Rattle.sp_history.specs.declared.entry.Entry.{Entry}
use Rattle.sp_history.specs.Found.{ticks}
use Rattle.sp_ends.specs.LinkCounts.{spaced_from}
use Rattle.sp_ends.specs.declared.dialer.Dialer.{Dialer}
use Rattle.sp_ends.specs.DialMoments.{IsDueAt}
use Rattle.sp_ends.specs.Dialing.{IsDialed, IsDialable, next_from, last_of, IsDueFrom}
use Rattle.sp_ends.specs.Freeing.{IsDue, AreSameDialers}
use Rattle.sp_ends.specs.DialerSteps.{IsSameDialer, IsFree, IsUnderWay}
use Rattle.sp_ends.specs.EndsTurns.{HasDialed, DialsOne}
use Rattle.sp_ends.proofs.TurnParts.{dialers_both}
use Rattle.sp_ends.proofs.NewcomingMoments.{due_from, due_later, last_more, next_more, spaced_more, spaced_short, le_true, le_false, tries_up, tries_same, no_fewer, less_tries, above, one_try, short_of, through, at_least, no_ticks}

-- ---- A dialer in a turn

-- the first i of them had their turn
abbrev pub DialedTo : List Entry → ℕ → Type 0 → List Dialer → List Dialer → Type 0
DialedTo past zero same ds es = AreSameDialers ds es
DialedTo past (suc i) same [] [] = ⊤
DialedTo past (suc i) same (d ∷ ds) (e ∷ es) = IsDialed same past e × DialedTo past i same ds es
DialedTo past (suc i) same _ _ = ⊥

module _ (past before : List Entry) (t : ℕ) (t_is : ticks past ≡ ticks before ++ t ∷ []) (fits : t ≤ 2 ^ 64 - 1) (order : last_of 0 (ticks before) ≤ t) where
  abbrev n : ℕ
  n = next_from 0 (ticks before)

  longer : length (ticks past) ≡ length (ticks before) + 1
  longer = ap length t_is ∙ length-append (ticks before) (t ∷ [])

  next_is : next_from 0 (ticks past) ≡ cond (nat_le n t) (t + 100) n
  next_is = ap (next_from 0) t_is ∙ next_more 0 (ticks before) t

  spaced_is : length (spaced_from 0 (ticks past)) ≡ cond (nat_le n t) (length (spaced_from 0 (ticks before)) + 1) (length (spaced_from 0 (ticks before)))
  spaced_is = ap (λ ts. length (spaced_from 0 ts)) t_is ∙ spaced_more 0 (ticks before) t

  is_le : n ≤ t → nat_le n t ≡ true
  is_le h = le_true n t h

  not_le : t < n → nat_le n t ≡ false
  not_le h = le_false n t h

  last_is : last_of 0 (ticks past) ≡ t
  last_is = ap (last_of 0) t_is ∙ last_more 0 (ticks before) t

  -- a pause from now on, or a connection under way
  pause : (f : Dialer) → IsFree t f ⊎ IsUnderWay t f → IsDueFrom (t + 100) f.next
  pause f (inl x) = subst (IsDueFrom (t + 100)) (sym x.1) (due_from (t + 100))
  pause f (inr x) = subst (IsDueFrom (t + 100)) (sym x.1) (λ u le few. omega (arith, le))

  placed_no : (f : Dialer) → IsFree t f ⊎ IsUnderWay t f → f.place ≡ None
  placed_no f (inl x) = x.0
  placed_no f (inr x) = x.0

  begun_no : {A : Type 0} → ticks past ≡ [] → A
  begun_no e = absurd (no_ticks (length (ticks past)) (length (ticks before)) longer (ap length e))

  at_come : n ≤ t → next_from 0 (ticks past) ≡ t + 100
  at_come le = next_is ∙ ap (λ b. cond b (t + 100) n) (is_le le)

  at_waits : t < n → next_from 0 (ticks past) ≡ n
  at_waits lt = next_is ∙ ap (λ b. cond b (t + 100) n) (not_le lt)

  more_come : n ≤ t → length (spaced_from 0 (ticks past)) ≡ length (spaced_from 0 (ticks before)) + 1
  more_come le = spaced_is ∙ ap (λ b. cond b (length (spaced_from 0 (ticks before)) + 1) (length (spaced_from 0 (ticks before)))) (is_le le)

  same_waits : t < n → length (spaced_from 0 (ticks past)) ≡ length (spaced_from 0 (ticks before))
  same_waits lt = spaced_is ∙ ap (λ b. cond b (length (spaced_from 0 (ticks before)) + 1) (length (spaced_from 0 (ticks before)))) (not_le lt)

  module _ (same0 same' : Type 0) (d e : Dialer) (x : IsDialed same0 before d) (s : IsSameDialer d e) (m0 : same' → same0) where
    is_d : same' → e ≡ d
    is_d m = s.free (x.free (m0 m))

    same_next : same' → d.next ≡ e.next
    same_next m = ap (λ (q : Dialer). q.next) (sym (is_d m))

    -- it was tried at least as often as it must be
    enough : same' → length (ticks past) < 2 ^ 64 → length (spaced_from 0 (ticks before)) ≤ d.tries
    enough m l = x.tries (m0 m) (short_of _ _ l longer)

    dialed_now : (same2 : Type 0) (f : Dialer) → HasDialed t same2 e f → (same' → same2) → IsDue t e → IsDialed same' past f
    dialed_now same2 f h m2 due = record {
      dialable = subst IsDialable (sym (h.addr ∙ s.addr)) x.dialable;
      free = λ m. placed_no f (h.next (m2 m));
      soon = λ m. subst (λ u. IsDueFrom (u + 100) f.next) (sym last_is) (pause f (h.next (m2 m)));
      next = λ m l few. next_go (cases_lt t n) m l few;
      tries = λ m l. tries_go (cases_lt t n) m l;
      once = λ l. one_try f.tries e.tries h.tries;
      begun = λ w. begun_no w;
    }
      where
        next_go : (t < n) ⊎ (n ≤ t) → same' → length (ticks past) < 2 ^ 64 → f.tries ≤ length (spaced_from 0 (ticks past)) → IsDueFrom (next_from 0 (ticks past)) f.next
        next_go (inr le) m l few = subst (λ u. IsDueFrom u f.next) (sym (at_come le)) (pause f (h.next (m2 m)))
        next_go (inl lt) m l few = absurd (no_fewer _ f.tries e.tries d.tries _ _ (enough m l) s.tries h.tries l longer (spaced_short 0 (ticks before)) (subst (λ k. f.tries ≤ k) (same_waits lt) few))

        tries_go : (t < n) ⊎ (n ≤ t) → same' → length (ticks past) < 2 ^ 64 → length (spaced_from 0 (ticks past)) ≤ f.tries
        tries_go (inr le) m l = tries_up _ _ f.tries e.tries d.tries _ _ (more_come le) (enough m l) s.tries h.tries l longer (spaced_short 0 (ticks before))
        tries_go (inl lt) m l = tries_same _ _ f.tries e.tries d.tries _ _ (same_waits lt) (enough m l) s.tries h.tries l longer (spaced_short 0 (ticks before))

    not_due_now : (IsDue t e → ⊥) → IsDialed same' past e
    not_due_now no_due = record {
      dialable = subst IsDialable (sym s.addr) x.dialable;
      free = λ m. placed m;
      soon = λ m. subst (λ u. IsDueFrom (u + 100) e.next) (sym last_is) (later m);
      next = λ m l few. next_go (cases_lt t n) m l few;
      tries = λ m l. tries_go (cases_lt t n) (cases_lt (length (spaced_from 0 (ticks before))) d.tries) m l;
      once = λ l. go (cases_lt 0 (length (ticks before)));
      begun = λ w. begun_no w;
    }
      where
        placed : same' → e.place ≡ None
        placed m = ap (λ (q : Dialer). q.place) (is_d m) ∙ x.free (m0 m)

        later : same' → IsDueFrom (t + 100) e.next
        later m = subst (IsDueFrom (t + 100)) (same_next m) (due_later (last_of 0 (ticks before) + 100) (t + 100) d.next (omega (arith, order)) (x.soon (m0 m)))

        -- the next moment for it is known
        was_next : same' → length (ticks past) < 2 ^ 64 → d.tries ≤ length (spaced_from 0 (ticks before)) → IsDueFrom n e.next
        was_next m l few = subst (IsDueFrom n) (same_next m) (x.next (m0 m) (short_of _ _ l longer) few)

        next_go : (t < n) ⊎ (n ≤ t) → same' → length (ticks past) < 2 ^ 64 → e.tries ≤ length (spaced_from 0 (ticks past)) → IsDueFrom (next_from 0 (ticks past)) e.next
        next_go (inr le) m l few = subst (λ u. IsDueFrom u e.next) (sym (at_come le)) (later m)
        next_go (inl lt) m l few = subst (λ u. IsDueFrom u e.next) (sym (at_waits lt)) (was_next m l (less_tries _ _ d.tries e.tries few (same_waits lt) s.tries))

        tries_go : (t < n) ⊎ (n ≤ t) → (length (spaced_from 0 (ticks before)) < d.tries) ⊎ (d.tries ≤ length (spaced_from 0 (ticks before))) → same' → length (ticks past) < 2 ^ 64 → length (spaced_from 0 (ticks past)) ≤ e.tries
        tries_go (inl lt) c m l = through _ _ d.tries e.tries (same_waits lt) (enough m l) s.tries
        tries_go (inr le) (inl more) m l = through _ _ d.tries e.tries (more_come le) (above _ _ more) s.tries
        tries_go (inr le) (inr few) m l = absurd (no_due (placed m, was_next m l few t le (omega (arith, fits))))

        nothing : (ts : List ℕ) → length ts ≤ 0 → ts ≡ []
        nothing [] h = refl
        nothing (y ∷ ts) h = absurd (omega (arith, h))

        go : (0 < length (ticks before)) ⊎ (length (ticks before) ≤ 0) → 1 ≤ e.tries
        go (inl lt) = through _ _ d.tries e.tries refl (x.once lt) s.tries
        go (inr le) =
            let b = x.begun (nothing (ticks before) le) in
            let is = s.free b.0 in
            absurd (no_due (ap (λ (q : Dialer). q.place) is ∙ b.0, subst (λ o. IsDueAt o t) (sym (ap (λ (q : Dialer). q.next) is ∙ b.1)) (at_least t)))

    not_tried : (same' → ⊥) → 0 < length (ticks before) → IsDialed same' past e
    not_tried none some = record {
      dialable = subst IsDialable (sym s.addr) x.dialable;
      free = λ m. absurd (none m);
      soon = λ m. absurd (none m);
      next = λ m l few. absurd (none m);
      tries = λ m l. absurd (none m);
      once = λ l. through _ _ d.tries e.tries refl (x.once some) s.tries;
      begun = λ w. begun_no w;
    }

  -- for a dialer that was dialed, or was not due
  still : (same same' : Type 0) (e f : Dialer) → IsDialed same past e → IsSameDialer e f → (same' → same) → IsDialed same' past f
  still same same' e f x s m = record {
    dialable = subst IsDialable (sym s.addr) x.dialable;
    free = λ w. ap (λ (q : Dialer). q.place) (s.free (x.free (m w))) ∙ x.free (m w);
    soon = λ w. subst (IsDueFrom (last_of 0 (ticks past) + 100)) (ap (λ (q : Dialer). q.next) (sym (s.free (x.free (m w))))) (x.soon (m w));
    next = λ w l few. subst (IsDueFrom (next_from 0 (ticks past))) (ap (λ (q : Dialer). q.next) (sym (s.free (x.free (m w))))) (x.next (m w) l (less_tries _ _ e.tries f.tries few refl s.tries));
    tries = λ w l. through _ _ e.tries f.tries refl (x.tries (m w) l) s.tries;
    once = λ l. through _ _ e.tries f.tries refl (x.once l) s.tries;
    begun = λ w. begun_no w;
  }

  pub next_dialed : (i : ℕ) (same0 same same2 same' : Type 0) (ds es fs : List Dialer) → AllByRecursion (IsDialed same0 before) ds → DialedTo past i same ds es → DialsOne i t same2 es fs → (same' → same0) → (same' → same) → (same' → same2)
      → ((e : Dialer) → slice_get es i ≡ Some e → IsDue t e) → DialedTo past (suc i) same' ds fs
  next_dialed zero same0 same same2 same' [] [] [] all d o m0 m m2 due = tt
  next_dialed zero same0 same same2 same' [] [] (f ∷ fs) all d o m0 m m2 due = absurd o
  next_dialed zero same0 same same2 same' [] (e ∷ es) fs all d o m0 m m2 due = absurd d
  next_dialed zero same0 same same2 same' (x ∷ ds) [] fs all d o m0 m m2 due = absurd d
  next_dialed zero same0 same same2 same' (x ∷ ds) (e ∷ es) [] all d o m0 m m2 due = absurd o
  next_dialed zero same0 same same2 same' (x ∷ ds) (e ∷ es) (f ∷ fs) all d o m0 m m2 due = (dialed_now same0 same' x e all.0 d.0 m0 same2 f o.0 m2 (due e refl), dialers_both ds es fs d.1 o.1)
  next_dialed (suc i) same0 same same2 same' [] [] [] all d o m0 m m2 due = tt
  next_dialed (suc i) same0 same same2 same' [] [] (f ∷ fs) all d o m0 m m2 due = absurd o
  next_dialed (suc i) same0 same same2 same' [] (e ∷ es) fs all d o m0 m m2 due = absurd d
  next_dialed (suc i) same0 same same2 same' (x ∷ ds) [] fs all d o m0 m m2 due = absurd d
  next_dialed (suc i) same0 same same2 same' (x ∷ ds) (e ∷ es) [] all d o m0 m m2 due = absurd o
  next_dialed (suc i) same0 same same2 same' (x ∷ ds) (e ∷ es) (f ∷ fs) all d o m0 m m2 due = (still same same' e f d.0 o.0 m, next_dialed i same0 same same2 same' ds es fs all.1 d.1 o.1 m0 m m2 due)

  pub next_not_due : (i : ℕ) (same0 same : Type 0) (ds es : List Dialer) → AllByRecursion (IsDialed same0 before) ds → DialedTo past i same ds es → (same → same0) → ((e : Dialer) → slice_get es i ≡ Some e → IsDue t e → ⊥) → DialedTo past (suc i) same ds es
  next_not_due zero same0 same [] [] all d m no_due = tt
  next_not_due zero same0 same [] (e ∷ es) all d m no_due = absurd d
  next_not_due zero same0 same (x ∷ ds) [] all d m no_due = absurd d
  next_not_due zero same0 same (x ∷ ds) (e ∷ es) all d m no_due = (not_due_now same0 same x e all.0 d.0 m (no_due e refl), d.1)
  next_not_due (suc i) same0 same [] [] all d m no_due = tt
  next_not_due (suc i) same0 same [] (e ∷ es) all d m no_due = absurd d
  next_not_due (suc i) same0 same (x ∷ ds) [] all d m no_due = absurd d
  next_not_due (suc i) same0 same (x ∷ ds) (e ∷ es) all d m no_due = (d.0, next_not_due i same0 same ds es all.1 d.1 m no_due)

  pub all_dialed : (i : ℕ) (same : Type 0) (ds es : List Dialer) → DialedTo past i same ds es → length ds ≤ i → AllByRecursion (IsDialed same past) es
  all_dialed zero same [] [] d le = tt
  all_dialed zero same [] (e ∷ es) d le = absurd d
  all_dialed zero same (x ∷ ds) es d le = absurd (omega (arith, le))
  all_dialed (suc i) same [] [] d le = tt
  all_dialed (suc i) same [] (e ∷ es) d le = absurd d
  all_dialed (suc i) same (x ∷ ds) [] d le = absurd d
  all_dialed (suc i) same (x ∷ ds) (e ∷ es) d le = (d.0, all_dialed i same ds es d.1 (omega (arith, le)))

  pub rest_not_tried : (i : ℕ) (same0 same : Type 0) (ds es : List Dialer) → AllByRecursion (IsDialed same0 before) ds → DialedTo past i same ds es → (same → same0) → (same → ⊥) → 0 < length (ticks before) → AllByRecursion (IsDialed same past) es
  rest_not_tried zero same0 same [] [] all d m none some = tt
  rest_not_tried zero same0 same [] (e ∷ es) all d m none some = absurd d
  rest_not_tried zero same0 same (x ∷ ds) [] all d m none some = absurd d
  rest_not_tried zero same0 same (x ∷ ds) (e ∷ es) all d m none some = (not_tried same0 same x e all.0 d.0 m none some, rest_not_tried zero same0 same ds es all.1 d.1 m none some)
  rest_not_tried (suc i) same0 same [] [] all d m none some = tt
  rest_not_tried (suc i) same0 same [] (e ∷ es) all d m none some = absurd d
  rest_not_tried (suc i) same0 same (x ∷ ds) [] all d m none some = absurd d
  rest_not_tried (suc i) same0 same (x ∷ ds) (e ∷ es) all d m none some = (d.0, rest_not_tried i same0 same ds es all.1 d.1 m none some)

  pub dialable_at : (i j : ℕ) (same0 same : Type 0) (ds es : List Dialer) (e : Dialer) → AllByRecursion (IsDialed same0 before) ds → DialedTo past i same ds es → slice_get es j ≡ Some e → IsDialable e.addr
  dialable_at i j same0 same ds [] e all d at = cc
  dialable_at zero j same0 same [] (f ∷ es) e all d at = absurd d
  dialable_at (suc i) j same0 same [] (f ∷ es) e all d at = absurd d
  dialable_at zero zero same0 same (x ∷ ds) (f ∷ es) e all d at = let is : f ≡ e = cc in subst (λ (q : Dialer). IsDialable q.addr) is (subst IsDialable (sym d.0.addr) all.0.dialable)
  dialable_at zero (suc j) same0 same (x ∷ ds) (f ∷ es) e all d at = dialable_at zero j same0 same ds es e all.1 d.1 at
  dialable_at (suc i) zero same0 same (x ∷ ds) (f ∷ es) e all d at = let is : f ≡ e = cc in subst (λ (q : Dialer). IsDialable q.addr) is d.0.dialable
  dialable_at (suc i) (suc j) same0 same (x ∷ ds) (f ∷ es) e all d at = dialable_at i j same0 same ds es e all.1 d.1 at

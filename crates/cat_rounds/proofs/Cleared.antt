-- When all that was put on the pipes is written.
use Rattle.std.proofs.Common.{◌≡◌, inl, inr, refl, sym, subst, List, [], ◌∷◌, ◌++◌, ℕ, Bool, true, false, arith}
use Rattle.std.specs.Prelude.{◌==◌, ◌⊎◌, ◌||◌}
use Rattle.std.proofs.lemmas.Bool.Decides.{nat_tests}
use Rattle.turn_lock.specs.declared.turn.Turn.{Turn}
use Rattle.sp_history.specs.declared.entry.Entry.{Entry}
use Rattle.sp_history.specs.declared.entry.Entry.TheVariants.{Out, Stall, Clear}
use Rattle.sp_history.specs.Changes.{none_of}
use Rattle.sp_history.specs.Lists.{has}
use Rattle.sp_history.specs.Found.{is_out}
use Rattle.sp_history.specs.Past.{onto, past_of, up, is_cleared}
use Rattle.sp_history.specs.Swept.{AreFlushed, IsFlushedFirst}
use Rattle.sp_history.proofs.Appending.{past_of-append, onto-append}
use Rattle.sp_history.proofs.Sweeping.{flushed_first}
use Rattle.cat_play.proofs.Stepping.{none_first, none_rest}

cleared_step : (p : ℕ) (e : Entry) (past : List Entry) → is_out e ≡ false → is_cleared past p ≡ true → is_cleared (e ∷ past) p ≡ true
cleared_step p (Out q b) past h c = cc
cleared_step p (Clear q) past h c = rw c (or_true (q == p))
  where
    or_true : (b : Bool) → (b || true) ≡ true
    or_true true = refl
    or_true false = refl
cleared_step p _ past h c = c

cleared_stays : (p : ℕ) (entries past : List Entry) → none_of is_out entries ≡ true → is_cleared past p ≡ true → is_cleared (onto entries past) p ≡ true
cleared_stays p [] past none c = c
cleared_stays p (e ∷ entries) past none c =
    cleared_stays p entries (e ∷ past) (none_rest is_out e entries none) (cleared_step p e past (none_first is_out e entries none) c)

-- the pipe's wire could not write all
abbrev pub is_stall : Entry → Bool
is_stall (Stall p) = true
is_stall _ = false

none_after : (f : Entry → Bool) (before : List Entry) (e : Entry) (after : List Entry) → none_of f (before ++ e ∷ after) ≡ true → (f e ≡ false) × (none_of f after ≡ true)
none_after f [] e after h = (none_first f e after h, none_rest f e after h)
none_after f (x ∷ before) e after h = none_after f before e after (none_rest f x (before ++ e ∷ after) h)

self : (p : ℕ) → (p == p) ≡ true
self p = grind (arith, nat_tests)

-- after a flush that found everything written, and with no Out, the pipe is cleared
flushed_clears : (entries past : List Entry) (p : ℕ) → IsFlushedFirst entries p → none_of is_stall entries ≡ true → none_of is_out entries ≡ true → is_cleared (onto entries past) p ≡ true
flushed_clears entries past p f no_stall no_out = go f.is_flush
  where
    stands : entries ≡ f.before ++ f.flush ∷ f.after
    stands = f.stands

    go : (f.flush ≡ Stall p) ⊎ (f.flush ≡ Clear p) → is_cleared (onto entries past) p ≡ true
    go (inl e) =
        let stall : is_stall f.flush ≡ false = (none_after is_stall f.before f.flush f.after (subst (λ (es : List Entry). none_of is_stall es ≡ true) stands no_stall)).0 in
        let bad : is_stall (Stall p) ≡ false = subst (λ (x : Entry). is_stall x ≡ false) e stall in
        cc
    go (inr e) =
        let outs : none_of is_out f.after ≡ true = (none_after is_out f.before f.flush f.after (subst (λ (es : List Entry). none_of is_out es ≡ true) stands no_out)).1 in
        subst (λ (es : List Entry). is_cleared (onto es past) p ≡ true) (sym stands) (rw (onto-append f.before (f.flush ∷ f.after) past, e) (cleared_stays p f.after (Clear p ∷ onto f.before past) outs (rw (self p) refl)))

-- after a turn that flushed each pipe, found no pipe with something left to write, and put nothing on a pipe, all is
-- written
pub all_cleared : (h : List (Turn Entry)) (t : Turn Entry) → AreFlushed (past_of h) t → none_of is_stall t.entries ≡ true → none_of is_out t.entries ≡ true → (p : ℕ) → has (up (past_of (h ++ t ∷ []))) p ≡ true → is_cleared (past_of (h ++ t ∷ [])) p ≡ true
all_cleared h t flushed no_stall no_out p is_up =
    let is = past_of-append h t in
    subst (λ (past : List Entry). is_cleared past p ≡ true) (sym is) (flushed_clears t.entries (past_of h) p (flushed_first (past_of h) t p flushed (subst (λ (past : List Entry). has (up past) p ≡ true) is is_up)) no_stall no_out)

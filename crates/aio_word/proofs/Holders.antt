-- The core's view and the wins of each caller are still there after each kind of step.
use Rattle.std.proofs.Common.{◌≡◌, ◌≢◌, ℕ, zero, suc, ◌+◌, ◌<◌, List, [], ◌∷◌, ◌++◌, length, set, refl, sym, ap, ◌∙◌, subst, ⊎_elim, inl, inr, arith}
use mathlib.Core.Logic.{dite}
use mathlib.Core.Option.{some, some-injective, some-ne-none}
use native.Mathlib.Decide.{ℕ_discrete}
use lib.ListN.{get_elem?}
use Rattle.atomic_table.proofs.Lists.{set_here, set_else, at_longer, at_last}
use Rattle.aio_word.specs.declared.rule.SeatRole.{SeatRole}
use Rattle.aio_word.specs.declared.rule.SeatRole.TheVariants.{Core, Caller, Note}
use Rattle.aio_word.specs.declared.rule.WordsView.{WordsView}
use Rattle.aio_word.specs.Views.{absorbed, spent}
use Rattle.aio_word.specs.Rule.{IsKept, IsHolder, AllHeld}
use Rattle.aio_word.proofs.Entries.{Stands-more, put₁, put₁_here, put₁_else}

pub at_length : (l : List WordsView) (i : ℕ) (v : WordsView) → get_elem? l i ≡ some v → i < length l
at_length [] i v e = absurd (some-ne-none v (sym e))
at_length (x ∷ xs) zero v e = omega arith
at_length (x ∷ xs) (suc i) v e = let h = at_length xs i v e in omega arith

same_view : (l : List WordsView) (i j : ℕ) (v w : WordsView) → i ≡ j → get_elem? l i ≡ some v → get_elem? l j ≡ some w → v ≡ w
same_view l i j v w same a b = some-injective v w (sym a ∙ (ap (λ (z : ℕ). get_elem? l z) same ∙ b))

core_caller : (p : SeatRole) → p ≡ Core → p ≡ Caller → ⊥
core_caller p a b = let e : Core ≡ Caller = sym a ∙ b in cc

note_core : (p : SeatRole) → p ≡ Note → p ≡ Core → ⊥
note_core p a b = let e : Note ≡ Core = sym a ∙ b in cc

note_caller : (p : SeatRole) → p ≡ Note → p ≡ Caller → ⊥
note_caller p a b = let e : Note ≡ Caller = sym a ∙ b in cc

-- a note has no wins
pub no_holder : (v : WordsView) → v.role ≡ Note → (k : ℕ) → IsHolder k v.role v.number v.kept → ⊥
no_holder v note k h = ⊎_elim (λ t. note_core v.role note t.0) (λ t. note_caller v.role note t.0) h

-- one view becomes another that has the same wins, or more
pub held_set : (seat : ℕ → ℕ) (made id : ℕ) (views : List WordsView) (v w : WordsView) → get_elem? views id ≡ some v
    → ((k : ℕ) → IsHolder k v.role v.number v.kept → IsHolder k w.role w.number w.kept) → AllHeld seat made views → AllHeld seat made (set views id w)
held_set seat made id views v w at keep held k small =
    let h = held k small in
    dite (ℕ_discrete (seat k) id)
    (λ e. (w, ap (λ (z : ℕ). get_elem? (set views id w) z) e ∙ set_here views id w (at_length views id v at), keep k (subst (λ (u : WordsView). IsHolder k u.role u.number u.kept) (same_view views (seat k) id h.0 v e h.1 at) h.2)))
    (λ other. (h.0, set_else views id (seat k) w other ∙ h.1, h.2))

-- a view is added that has no wins of its own number
pub held_more : (seat : ℕ → ℕ) (made : ℕ) (views : List WordsView) (w : WordsView) → AllHeld seat made views → AllHeld seat made (views ++ w ∷ [])
held_more seat made views w held k small = let h = held k small in (h.0, at_longer views (w ∷ []) (seat k) h.0 h.1, h.2)

-- the view of the next caller is added
pub held_new : (seat : ℕ → ℕ) (made : ℕ) (views : List WordsView) (w : WordsView) → w.role ≡ Caller → w.number ≡ made + 1 → AllHeld seat made views → AllHeld (put₁ seat (made + 1) (length views)) (made + 1) (views ++ w ∷ [])
held_new seat made views w role number held k small = dite (ℕ_discrete k (made + 1))
    (λ e. (w, ap (λ (z : ℕ). get_elem? (views ++ w ∷ []) z) (put₁_here seat (made + 1) (length views) k e) ∙ at_last views w (length views) refl, inr (role, number ∙ sym e, omega arith)))
    (λ other. let h = held k (omega arith) in (h.0, ap (λ (z : ℕ). get_elem? (views ++ w ∷ []) z) (put₁_else seat (made + 1) (length views) k other) ∙ at_longer views (w ∷ []) (seat k) h.0 h.1, h.2))

-- what the core's view had, it still has after taking in a caller's wins
pub absorbed_holds : (v w : WordsView) (k : ℕ) → IsHolder k v.role v.number v.kept → IsHolder k v.role v.number (absorbed v w).kept
absorbed_holds v w k h = ⊎_elim
    (λ t. inl (t.0, ⊎_elim (λ z. inl z) (λ s. inr (s.0, Stands-more v.kept _ _ s.1)) t.1))
    (λ t. inr t)
    h

-- the core's view has the caller's wins, and the caller's view is spent
pub held_joined : (seat : ℕ → ℕ) (made id other : ℕ) (views : List WordsView) (u w : WordsView) → (other ≡ id → ⊥) → get_elem? views id ≡ some u → u.role ≡ Core → IsKept w.number u.kept → get_elem? views other ≡ some w → w.role ≡ Caller
    → AllHeld seat made views → AllHeld (put₁ seat w.number id) made (set views other spent)
held_joined seat made id other views u w apart at core kept there caller held k small = dite (ℕ_discrete k w.number)
    (λ e. (u, ap (λ (z : ℕ). get_elem? (set views other spent) z) (put₁_here seat w.number id k e) ∙ (set_else views other id spent (λ z. apart (sym z)) ∙ at), inl (core, inr (subst (λ (z : ℕ). IsKept z u.kept) (sym e) kept))))
    (λ differs. let h = held k small in (
      h.0,
      ap (λ (z : ℕ). get_elem? (set views other spent) z) (put₁_else seat w.number id k differs) ∙ (set_else views other (seat k) spent (λ z. away differs (subst (λ (x : WordsView). IsHolder k x.role x.number x.kept) (same_view views (seat k) other h.0 w z h.1 there) h.2)) ∙ h.1),
      h.2,
    ))
  where
    away : k ≢ w.number → IsHolder k w.role w.number w.kept → ⊥
    away differs h = ⊎_elim (λ t. core_caller w.role t.0 caller) (λ t. differs (sym t.1)) h

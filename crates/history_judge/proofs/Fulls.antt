-- The pipes that were found full are those with a Full.
use Rattle.std.proofs.Common.{◌≡◌, refl, ap, ◌∙◌, subst, ℕ, Bool, List, [], ◌∷◌, Option}
use Rattle.std.specs.Prelude.{◌||◌, ◌==◌}
use Rattle.sp_history.specs.declared.entry.Entry.{Entry}
use Rattle.sp_history.specs.declared.entry.Entry.TheVariants.{Full}
use Rattle.sp_history.specs.Lists.{has}
use Rattle.sp_history.specs.declared.setting.Setting.{Setting}
use Rattle.sp_history.specs.Settled.{has_full, SettledWith, SettledBy}
use Rattle.history_judge_rules.specs.declared.faults.Fault.{Fault}
use Rattle.history_judge_rules.specs.Faults.{Finds}
use Rattle.history_judge.specs.Judgements.{full_pipes}

full_at : (turn : List Entry) (p : ℕ) → has (full_pipes turn) p ≡ has_full turn p
full_at [] p = refl
full_at (Full q ∷ turn) p = ap (λ b. (q == p) || b) (full_at turn p)
full_at (_ ∷ turn) p = full_at turn p

pub full_means : (turn : List Entry) → has (full_pipes turn) ≡ has_full turn
full_means turn = λ i p. full_at turn p i

-- what a turn leaves undone, by the pipes that were found full or by its entries
pub settled_as : (u : Option Fault) (z : Setting) (p q : List Entry) (fulls : List ℕ) (turn : List Entry) → p ≡ q → fulls ≡ full_pipes turn → Finds u (SettledWith z p (has fulls)) → Finds u (SettledBy z q turn)
settled_as u z p q fulls turn e f h =
    let full : has fulls ≡ has_full turn = ap has f ∙ full_means turn in
    subst (λ (test : ℕ → Bool). Finds u (SettledWith z q test)) full (subst (λ (past : List Entry). Finds u (SettledWith z past (has fulls))) e h)

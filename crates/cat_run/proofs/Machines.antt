-- What is known of a machine in its initial state.
use Rattle.std.specs.Prelude.{◌≡◌, ℕ, false, Result, IfOk}
use Rattle.std.proofs.Common.{refl, sym, ap, subst, ◌∙◌}
use Rattle.std.proofs.lemmas.Result.{IfOk-weaker}
use Rattle.sp_history.specs.Moments.{Moment}
use Rattle.sp_history.specs.Options.{usual}
use Rattle.sp_history.specs.declared.setting.Options.{Options}
use Rattle.sp_proto.specs.Kinds.{Kind, Starts}
use Rattle.sp_base.specs.declared.role.Role.{Role}
use Rattle.cat_rounds.specs.Built.{IsMachineOf}

-- the machine of a role, cooked, with the usual options
abbrev pub usual_kind : Role → ℕ → Kind
usual_kind role dice = record { role = role; raw = false; options = usual role dice }

-- made with the usual options of this role, it is a machine of the role
pub as_usual : {M E : Type 0} (ties : M → Moment → Type 0) (made : Result M E) (kind : Options → Kind) (o : Options) (role own : Role) (dice : ℕ) → o ≡ usual role dice → role ≡ own → kind (usual own dice) ≡ usual_kind own dice → IfOk made (λ m. Starts ties m (kind o)) → IfOk made (IsMachineOf ties role dice)
as_usual ties made kind o role own dice usually is same starts =
    let here : kind o ≡ usual_kind role dice = ap kind (usually ∙ ap (λ (r : Role). usual r dice) is) ∙ same ∙ sym (ap (λ (r : Role). usual_kind r dice) is) in
    IfOk-weaker made (λ m. Starts ties m (usual_kind role dice)) (IsMachineOf ties role dice) (λ m new. (usual_kind role dice, new, refl)) (subst (λ (k : Kind). IfOk made (λ m. Starts ties m k)) here starts)

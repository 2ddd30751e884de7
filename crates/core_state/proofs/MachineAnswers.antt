-- What a machine's answers say about its socket.
use Rattle.std.proofs.Common.{◌≡◌, refl, ℕ, Bool, true, false}
use Rattle.std.specs.Prelude.{◌&&◌, ◌||◌, ◌==◌, not}
use Rattle.sp_base.specs.declared.role.Role.{Role}
use Rattle.sp_base.specs.declared.role.Role.TheVariants.{Sub, Req, Rep, Surveyor, Respondent}
use Rattle.sp_base.specs.Roles.{has_contexts as role_has_contexts}
use Rattle.sp_history.specs.declared.entry.RecordedAct.TheVariants.{Recv}
use Rattle.sp_history.specs.declared.setting.Setting.{Setting}
use Rattle.sp_history.specs.Setting.{has_contexts}
use Rattle.sp_history.specs.Legal.{does}

receives : (r : Role) (b : Bool) → (role_has_contexts r && b) ≡ true → does r Recv ≡ true
receives Sub b h = refl
receives Req b h = refl
receives Rep b h = refl
receives Surveyor b h = refl
receives Respondent b h = refl
receives _ b h = absurd cc

pub supports : (z : Setting) (c : ℕ) → has_contexts z ≡ true → (does z.role Recv && ((c == 0) || has_contexts z)) ≡ true
supports z c h = rw (receives z.role (not z.raw) h, h) (or_true (c == 0))
  where
    or_true : (a : Bool) → (a || true) ≡ true
    or_true true = refl
    or_true false = refl

use Rattle.std.proofs.Common.{◌≡◌, sym, subst, ap, refl, ℕ, ◌≤◌, [], arith}
use Rattle.sp_history.specs.declared.setting.Setting.{Setting}
use Rattle.bench_socket.proofs.alone.core_over.Goals as goal

pub returns : goal.returns
returns g c = record { history = []; stands = c.in-Ok.ensures.stands; has_caller = subst (λ (n : ℕ). 1 ≤ n) (sym (ap (λ (z : Setting). z.callers) c.in-Ok.ensures.setting)) (omega arith) }

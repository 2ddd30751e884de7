use Rattle.std.proofs.Common.{refl, ◌∙◌}
use Rattle.sp_ws.proofs.outlet.FrameOutlet.give_oldest.Goals.{then-is_err-via-then-is_err, then-is_err-via-else-is_err+then-is_err-2}
use Rattle.sp_ws.proofs.outlet.FrameOutlet.give_oldest.Goals as goal

pub returns-then-is_err : goal.returns-then-is_err
returns-then-is_err c =
    elim c.then-is_err.branch [
      | then-is_err-via-then-is_err w ↦ (w.self-is ∙ c.self.view_is, refl)
      | then-is_err-via-else-is_err+then-is_err-2 w ↦ (w.self-is ∙ c.self.view_is, refl)
    ]

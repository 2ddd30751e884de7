use Rattle.std.proofs.Common.{◌∙◌, ap, sym}
use Rattle.sp_base.specs.declared.role.Role.{Role}
use Rattle.sp_history.specs.declared.setting.Setting.{Setting}
use Rattle.sp_ends.specs.EndViews.{no_ends}
use Rattle.sp_node.proofs.NewEnds.{begins_new}
use Rattle.sp_node.proofs.ends.NodeEnds.open.Goals as goal

pub invariant_of-result : goal.invariant_of-result
invariant_of-result g c =
    let made = c.in-Ok.ensures in
    let ends = c.in_ok-ends.ensures in
    begins_new c.in-Ok.single c.in_ok-ends.ends (g.N.Net.seen c.args.net) c.new-2.result c.args.dice made.0 (ends ∙ ap (λ (r : Role). no_ends r c.args.dice) (c.role.ensures ∙ sym (ap (λ (z : Setting). z.role) made.1))) c.new-2.ensures

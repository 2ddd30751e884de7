use Rattle.std.proofs.Common.{◌≡◌, false, length, ◌==◌, ◌∙◌, arith}
use Rattle.std.proofs.lemmas.Bool.Decides.{nat_tests}
use Rattle.sp_upgrade.proofs.Engines.{no_key}
use Rattle.sp_upgrade.proofs.keys.is_key.Goals as goal

pub returns-else-text-eq24 : goal.returns-else-text-eq24
returns-else-text-eq24 c =
    let other : (length c.args.text.now == 24) ≡ false = grind (arith, nat_tests) in
    other ∙ no_key c.args.text.now (λ i. omega (arith, c.type_inv.text i)) (λ e. c.if-text-eq24.false e)

use Rattle.std.proofs.Common.{◌≡◌, ◌≤◌, ◌-◌, ℕ, List, length, subst, take, drop, arith, sym}
use Rattle.std.proofs.lemmas.List.{take_rest}
use Rattle.sp_base.specs.Readers.{HasVisible}
use Rattle.sp_base.specs.Addresses.{IsVisibleText}
use Rattle.sp_base.specs.Prefixes.{IsCutAtOne}
use Rattle.sp_base.proofs.Forms.{name_short, name_one}
use Rattle.sp_base.proofs.addr.name.Goals as goal

pub returns-then-n-eq0 : goal.returns-then-n-eq0
returns-then-n-eq0 c = name_short c.args.limit c.args.text.now c.requires (subst (HasVisible c.args.limit c.args.text.now) c.if-n-eq0.true c.visible-n.ensures)

pub returns-else-n-eq0 : goal.returns-else-n-eq0
returns-else-n-eq0 c =
    let text : List ℕ = c.args.text.now in
    let n : ℕ = c.visible-n.result in
    (take n text, subst (λ rest. IsCutAtOne (IsVisibleText c.args.limit) text (take n text) rest) (sym (take_rest text n)) (name_one c.args.limit text n c.visible-n.ensures (omega (arith, c.if-n-eq0.false))))

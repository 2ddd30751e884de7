use Rattle.std.proofs.Common.{sym, ap, ◌∙◌, Some, arith}
use Rattle.sp_upgrade.specs.Lines.{same_word}
use Rattle.sp_upgrade.proofs.Looked.{sole_at, twice_at}
use Rattle.sp_upgrade.proofs.lines.sole_value.Goals as goal

pub returns-then-has_line : goal.returns-then-has_line
returns-then-has_line c =
    let is = ap (λ v. same_word v c.args.name.now) (sym c.of.ensures) ∙ sym c.if-same_word.ensures in
    twice_at c.args.head.now c.args.name.now c.args.spans.now c.loop-i.i _ (omega arith) c.loop-i.invariant is (sym c.if-has_line.ensures)

pub returns-then-same_word : goal.returns-then-same_word
returns-then-same_word c =
    let is = ap (λ v. same_word v c.args.name.now) (sym c.of.ensures) ∙ sym c.if-same_word.ensures in
    ap (λ v. Some v) c.of-then-same_word.ensures ∙ sole_at c.args.head.now c.args.name.now c.args.spans.now c.loop-i.i _ (omega arith) c.loop-i.invariant is (sym c.if-has_line.ensures)

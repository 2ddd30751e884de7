use Rattle.std.proofs.Common.{sym, ◌∙◌}
use Rattle.sp_fakes.proofs.FileNames.{found_at, passed_at}
use Rattle.sp_fakes.proofs.files.held.Goals as goal

pub returns-then-is_same_name : goal.returns-then-is_same_name
returns-then-is_same_name c = sym (sym c.loop-pair.invariant ∙ found_at c.args.pairs.now c.loop-pair.pair-index c.pair-item.result c.args.name.now c.loop-pair-test.true c.pair-item.is (sym c.as_str.ensures.value ∙ c.is_same_name.ensures.0 c.if-is_same_name.true))

pub loop-pair-preserved : goal.loop-pair-preserved
loop-pair-preserved c =
    passed_at c.args.pairs.now c.loop-pair.pair-index c.pair-item.result c.args.name.now c.loop-pair-test.true c.pair-item.is (λ e. let yes = c.is_same_name.ensures.1 (c.as_str.ensures.value ∙ e) in cc (yes, c.if-is_same_name.false))
    ∙ c.loop-pair.invariant

use Rattle.std.proofs.Common.{arith, rules, ap, ◌∙◌}
use Rattle.aio_word.proofs.Steps.{learns_ok}
use Rattle.aio_word.proofs.calls.Words.learn.Goals as goal

pub load-requires : goal.load-requires
load-requires c =
    let w = c.self.invariant in
    let d = c.deref.ensures in
    let wide = ap (λ t. t.shared.table_id.words) d ∙ w.0 in
    (search rules, omega arith, learns_ok _ _ _ _ 0 (search rules))

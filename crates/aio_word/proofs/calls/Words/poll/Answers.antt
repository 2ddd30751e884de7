use Rattle.std.proofs.Common.{arith, rules, ap, ◌∙◌}
use Rattle.aio_word.proofs.Steps.{polls_ok}
use Rattle.aio_word.proofs.calls.Words.poll.Goals as goal

pub load-found-requires : goal.load-found-requires
load-found-requires c =
    let w = c.self.invariant in
    let caller = c.seat.invariant in
    let d = c.deref.ensures in
    let wide = ap (λ t. t.shared.table_id.words) d ∙ w.0 in
    let key = ap (λ t. t.shared.key) d ∙ w.1 in
    (search rules, omega arith, polls_ok _ _ _ _ c.args.op.slot caller.1 (omega arith))

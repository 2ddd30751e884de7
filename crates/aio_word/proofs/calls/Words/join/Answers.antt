use Rattle.std.proofs.Common.{arith, rules, ap, ◌∙◌}
use Rattle.aio_word.proofs.Seating.{absorbs}
use Rattle.aio_word.proofs.Winning.{one_winner}
use Rattle.aio_word.proofs.calls.Words.join.Goals as goal

pub join_seat-requires : goal.join_seat-requires
join_seat-requires c =
    let w = c.self.invariant in
    let core = c.core.invariant in
    let caller = c.seat.invariant in
    let d = c.deref.ensures in
    let wide = ap (λ t. t.shared.table_id.words) d ∙ w.0 in
    (search rules, search rules, caller.0, omega arith, absorbs _ _ _ _ _ core.1 caller.1)

pub returns-clause-winners : goal.returns-clause-winners
returns-clause-winners c = one_winner c.args.self.now.slots c.learn.new.core.view c.learn.ensures.rule

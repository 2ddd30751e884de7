use Rattle.std.proofs.Common.{[]}
use Rattle.sp_history.specs.Past.{onto}
use Rattle.history_judge.proofs.Fulls.{settled_as}
use Rattle.history_judge.proofs.turns.judge_turn.Goals as goal

pub returns-clause-settled : goal.returns-clause-settled
returns-clause-settled c =
    settled_as c.in_ok-undone.undone c.args.z _ _ c.in_ok-followed.followed.fulls (onto c.args.entries []) c.in_ok-followed.ensures.past (c.in_ok-followed.ensures.fulls [] c.new.ensures) c.in_ok-undone.ensures

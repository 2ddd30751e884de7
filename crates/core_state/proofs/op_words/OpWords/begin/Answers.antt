use Rattle.core_state.proofs.OpWordSteps.{seen}
use Rattle.core_state.proofs.op_words.OpWords.begin.Goals as goal

pub begin-requires-clause-seen : goal.begin-requires-clause-seen
begin-requires-clause-seen c = let r = c.requires in seen c.args.self.now r.0 c.args.op.slot r.2 r.1 r.3.inside r.3.free

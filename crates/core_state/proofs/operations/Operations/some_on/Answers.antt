use Rattle.core_state.proofs.Among.{found_so}
use Rattle.core_state.proofs.operations.Operations.some_on.Goals as goal

pub returns : goal.returns
returns c = λ t h l. found_so c.some_on.result c.args.self.now t c.args.ctx c.some_on.ensures h l

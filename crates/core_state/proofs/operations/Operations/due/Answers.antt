use Rattle.core_state.proofs.DueOperations.{due_names, operations_ticked}
use Rattle.core_state.proofs.operations.Operations.due.Goals as goal

pub returns-clause-names : goal.returns-clause-names
returns-clause-names c = λ t h. due_names c.args.self.now t c.args.now c.args.out.now.names _ h c.due.ensures.names

pub returns-clause-due : goal.returns-clause-due
returns-clause-due c = λ t due h. operations_ticked c.args.self.now _ t c.args.now due h c.due.ensures.rest

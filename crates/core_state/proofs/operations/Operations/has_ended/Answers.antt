use Rattle.std.proofs.Common.{ap, sym, ◌∙◌, List, Option}
use Rattle.core_state.specs.declared.operations.EndedOperation.{EndedOperation}
use Rattle.core_state.specs.OperationsStand.{done_at, is_done_of}
use Rattle.core_state.proofs.Outcomes.{told_by}
use Rattle.core_state.proofs.operations.Operations.has_ended.Goals as goal

pub returns : goal.returns
returns c = λ t h. told_by c.args.self.now c.args.op t h ∙ ap (λ (xs : List (Option EndedOperation)). is_done_of c.args.op (done_at xs c.args.op.slot)) (sym c.deref.ensures.value) ∙ sym c.is_there.ensures

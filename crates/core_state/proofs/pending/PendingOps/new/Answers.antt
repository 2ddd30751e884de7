use Rattle.std.proofs.Common.{List, [], sym, subst}
use Rattle.core_state.specs.declared.pending.PendingOperation.{PendingOperation}
use Rattle.core_state.specs.Pendings.{Keeps}
use Rattle.core_state.proofs.PendingSteps.{made, seen}
use Rattle.core_state.proofs.pending.PendingOps.new.Goals as goal

pub invariant_of-result : goal.invariant_of-result
invariant_of-result c =
    let places = c.in_ok-no_places.field-0.items in
    let o = c.in_ok-alone.field-0 in
    let l = c.in_ok-alone-2.field-0 in
    let k : Keeps c.args.slots places o l [] = made c.args.slots places o l c.requires.0 c.requires.1 c.in_ok-no_places.ensures c.in_ok-alone.ensures.0 c.in_ok-alone.ensures.1 c.in_ok-alone-2.ensures.0 c.in_ok-alone-2.ensures.1 in
    subst (λ (zs : List PendingOperation). Keeps c.args.slots places o l zs) (sym (seen c.args.slots places o l [] k)) k

use Rattle.std.proofs.Common.{refl, ap, arith}
use Rattle.core_state.proofs.Among.{on_list}
use Rattle.core_state.proofs.FinishedOperations.{ended, fewer, has_place, one_more_done}
use Rattle.core_state.proofs.operations.Operations.finish.Goals as goal

pub take_out-requires : goal.take_out-requires
take_out-requires c = let r = c.requires in on_list c.args.self.now r.0 c.args.op r.1 r.2 r.4

pub index_mut-requires : goal.index_mut-requires
index_mut-requires c = let r = c.requires in omega (arith, has_place c.args.self.now r.0 c.args.op r.1 r.2 r.3 r.4, c.args.self.now.done.ok)

pub returns-clause-finished : goal.returns-clause-finished
returns-clause-finished c = λ t s ending h l p o. ended c.args.self.now _ t c.args.op s ending c.args.outcome h l p o c.take_out.ensures refl refl c.remove.ensures.rest

pub returns-clause-lengths : goal.returns-clause-lengths
returns-clause-lengths c = let r = c.requires in (refl, one_more_done c.args.self.now r.0 c.args.op r.1 (record { op = c.args.op; outcome = c.args.outcome }) r.2 r.3 r.4)

pub returns-clause-fewer : goal.returns-clause-fewer
returns-clause-fewer c =
    let r = c.requires in
    fewer c.args.self.now _ r.0 c.args.op r.1 r.2 r.4 (ap (λ v. v.items) c.take_out.ensures)

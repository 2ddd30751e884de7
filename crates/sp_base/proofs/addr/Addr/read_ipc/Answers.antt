use Rattle.std.proofs.Common.{arith}
use Rattle.sp_base.proofs.Forms.{ipc_short, ipc_one, short_faults, more_faults, short_fits}
use Rattle.sp_base.proofs.addr.Addr.read_ipc.Goals as goal

pub fault_before-requires-in-Err-clause-near : goal.fault_before-requires-in-Err-clause-near
fault_before-requires-in-Err-clause-near c = omega (arith, short_fits c.args.bytes.now c.in-Err.rest.now (ipc_short c.args.bytes.now c.in-Err.rest.now c.requires.local c.requires.ipc c.in-Err.ensures))

pub returns-in-Ok : goal.returns-in-Ok
returns-in-Ok c = rw c.fault_before.ensures (more_faults c.args.bytes.now c.in-Ok.ensures.0 c.in-Ok.rest.now (ipc_one c.args.bytes.now c.in-Ok.ensures.0 c.in-Ok.rest.now c.requires.local c.requires.ipc c.in-Ok.ensures.1) (omega (arith, c.in-Ok.len_at_least)))

pub returns-in-Err : goal.returns-in-Err
returns-in-Err c = rw c.fault_before-in-Err.ensures (short_faults c.args.bytes.now c.in-Err.rest.now (ipc_short c.args.bytes.now c.in-Err.rest.now c.requires.local c.requires.ipc c.in-Err.ensures))

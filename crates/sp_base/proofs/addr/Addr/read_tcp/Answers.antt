use Rattle.std.proofs.Common.{arith}
use Rattle.sp_base.proofs.Forms.{tcp_short, tcp_one, short_faults, more_faults, short_fits, one_fits}
use Rattle.sp_base.proofs.addr.Addr.read_tcp.Goals as goal

pub fault_before-requires-clause-near : goal.fault_before-requires-clause-near
fault_before-requires-clause-near c = omega (arith, one_fits c.args.bytes.now _ c.in-Ok.rest.now (tcp_one c.args.bytes.now _ c.in-Ok.rest.now c.requires.no_local c.requires.no_ws c.in-Ok.ensures))

pub fault_before-requires-in-Err-clause-near : goal.fault_before-requires-in-Err-clause-near
fault_before-requires-in-Err-clause-near c = omega (arith, short_fits c.args.bytes.now c.in-Err.rest.now (tcp_short c.args.bytes.now c.in-Err.rest.now c.requires.no_local c.requires.no_ws c.in-Err.ensures))

pub returns-in-Ok : goal.returns-in-Ok
returns-in-Ok c = rw c.fault_before.ensures (more_faults c.args.bytes.now _ c.in-Ok.rest.now (tcp_one c.args.bytes.now _ c.in-Ok.rest.now c.requires.no_local c.requires.no_ws c.in-Ok.ensures) (omega (arith, c.in-Ok.len_at_least)))

pub returns-in-Err : goal.returns-in-Err
returns-in-Err c = rw c.fault_before-in-Err.ensures (short_faults c.args.bytes.now c.in-Err.rest.now (tcp_short c.args.bytes.now c.in-Err.rest.now c.requires.no_local c.requires.no_ws c.in-Err.ensures))

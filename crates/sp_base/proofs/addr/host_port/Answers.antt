use Rattle.std.proofs.lemmas.Result.{err_from_is_err_and}
use Rattle.sp_base.proofs.Forms.{host_short, port_short, host_port_gives}
use Rattle.sp_base.proofs.addr.host_port.Goals as goal

pub returns-in_err-host : goal.returns-in_err-host
returns-in_err-host c =
    let p = err_from_is_err_and c.from_residual.result c.from_residual.ensures.1 in
    rw (p.1, p.2) (host_short c.args.text.now c.in_err-host.field-0.0.now c.in_err-host.ensures)

pub returns-in_err-port : goal.returns-in_err-port
returns-in_err-port c =
    let p = err_from_is_err_and c.from_residual-in_err-port.result c.from_residual-in_err-port.ensures.1 in
    rw (p.1, p.2) (port_short c.args.text.now c.in_ok-host.host c.in_ok-host.rest.now c.in_err-port.field-0.0.now c.in_ok-host.ensures c.in_err-port.ensures)

pub returns : goal.returns
returns c = host_port_gives c.args.text.now c.in_ok-host.host c.in_ok-host.rest.now c.in_ok-port.port c.in_ok-port.rest.now c.in_ok-host.ensures c.in_ok-port.ensures

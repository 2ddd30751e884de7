use Rattle.std.proofs.lemmas.Result.{err_from_is_err_and}
use Rattle.std.specs.Prelude.{codes}
use Rattle.sp_base.specs.Readers.{IsWeb}
use Rattle.sp_base.proofs.Forms.{IsPlace, places, place_short, place_gives, word_short, inner_short, inner_gives}
use Rattle.sp_base.proofs.addr.web.Goals as goal

pub returns-in_err-rest : goal.returns-in_err-rest
returns-in_err-rest c =
    let p = err_from_is_err_and c.from_residual.result c.from_residual.ensures.1 in
    rw (p.1, p.2) (word_short (codes "ws://") IsPlace IsWeb c.args.text.now c.in_err-rest.field-0.0.now places c.in_err-rest.ensures)

pub returns-in_err-host : goal.returns-in_err-host
returns-in_err-host c =
    let p = err_from_is_err_and c.from_residual-in_err-host.result c.from_residual-in_err-host.ensures.1 in
    rw (p.1, p.2) (inner_short (codes "ws://") IsPlace IsWeb c.args.text.now c.in_ok-rest.rest.now c.in_err-host.field-0.0.now places c.in_ok-rest.ensures
    (place_short c.in_ok-rest.rest.now c.in_err-host.field-0.0.now c.in_err-host.ensures))

pub returns : goal.returns
returns c = inner_gives (codes "ws://") IsPlace IsWeb c.args.text.now c.in_ok-rest.rest.now (c.in_ok-host.host, c.in_ok-host.port, c.path.result.0.now) c.path.result.1.now places c.in_ok-rest.ensures
    (place_gives c.in_ok-rest.rest.now (c.in_ok-host.host, c.in_ok-host.port) c.in_ok-host.rest.now c.path.result.0.now c.path.result.1.now c.in_ok-host.ensures c.path.ensures)

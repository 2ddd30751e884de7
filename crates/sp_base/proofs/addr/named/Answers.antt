use Rattle.std.proofs.lemmas.Result.{err_from_is_err_and}
use Rattle.sp_base.proofs.Forms.{named_word_short}
use Rattle.sp_base.proofs.Names.{name_read}
use Rattle.sp_base.proofs.addr.named.Goals as goal

pub returns-in_err-rest : goal.returns-in_err-rest
returns-in_err-rest c =
    let p = err_from_is_err_and c.from_residual.result c.from_residual.ensures.1 in
    rw (p.1, p.2) (named_word_short c.args.word.now c.args.limit c.args.text.now c.in_err-rest.field-0.0.now c.requires c.in_err-rest.ensures)

pub returns : goal.returns
returns c = name_read c.args.word.now c.args.limit c.args.text.now c.in_ok-rest.rest.now c.in_ok-rest.ensures c.name.result c.name.ensures

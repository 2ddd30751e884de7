use Rattle.sp_tcp.proofs.Gathers.{long_rest_is}
use Rattle.sp_tcp.proofs.outlet.long_rest.Goals as goal

pub returns : goal.returns
returns c = long_rest_is c.args.mark.now c.args.m.now c.header.result.now c.body.result.now c.args.sent c.header.ensures.value c.body.ensures c.if-sent-before.false c.requires.within

use Rattle.std.proofs.Common.{◌∙◌, sym, ap}
use Rattle.proto_reqrep.specs.Reqs.{free_number}
use Rattle.proto_reqrep.proofs.ReqArrivals.{free_none, free_stop, free_on}
use Rattle.proto_reqrep.proofs.req.+free_number.Goals as goal

pub returns-then-tries-eq0 : goal.returns-then-tries-eq0
returns-then-tries-eq0 t c = free_none c.args.tries c.args.id c.args.live.now.items c.if-tries-eq0.true

pub returns-then-not-is_taken : goal.returns-then-not-is_taken
returns-then-not-is_taken t c = free_stop c.args.tries c.args.id c.args.live.now.items (sym c.is_taken.ensures ∙ c.if-not-is_taken.true)

pub returns : goal.returns
returns t c = c.free_number.ensures ∙ ap (free_number _ _) c.number_after.ensures ∙ free_on c.args.tries c.args.id c.args.live.now.items c.if-tries-eq0.false (sym c.is_taken.ensures ∙ c.if-not-is_taken.false)

use Rattle.std.proofs.Common.{sym, ap}
use Rattle.std.specs.Prelude.{is_some}
use Rattle.proto_requests.specs.Numbers.{is_known}
use Rattle.proto_requests.specs.Waits.{is_named}
use Rattle.proto_requests.specs.Spots.{holds}
use Rattle.proto_requests.proofs.Positions.{nowhere}
use Rattle.proto_requests.proofs.EndedOperations.{none_named}
use Rattle.proto_requests.proofs.waits.place_by.Goals as goal

pub returns-in-None : goal.returns-in-None
returns-in-None g c = λ h.
    let name = g.T.Waiter.name_of in
    nowhere (holds (is_named name c.args.op)) c.args.list.now (none_named name (is_known c.args.by_slot.now) c.args.op c.args.list.now (h c.if-not-known.false) (sym (ap is_some c.in-None.ensures)))

pub returns-in-Some : goal.returns-in-Some
returns-in-Some g c = λ h. c.place_of.ensures (h c.if-not-known.false).1

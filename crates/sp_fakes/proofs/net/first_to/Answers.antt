use Rattle.std.proofs.Common.{[], refl, length}
use Rattle.std.proofs.lemmas.Option.{slice_get_read}
use Rattle.sp_fakes.specs.Nets.{queue_of, IsPast, IsPlaceOf}
use Rattle.sp_fakes.proofs.Queues.{goes_to_none, goes_to_set}
use Rattle.sp_fakes.proofs.net.first_to.Goals as goal

pub returns-in-Some : goal.returns-in-Some
returns-in-Some c =
    let items = c.args.outgoing.now.items in
    let place : IsPlaceOf c.args.addr.now items c.in-Some.at = rw c.deref.ensures.value at c.in-Some.ensures.found in
    (queue_of c.index_mut.result.now.1.items, queue_of c.take_first.new.list.items, goes_to_set c.args.addr.now c.args.outgoing.now.items c.in-Some.at c.index_mut.result.now c.take_first.new.list place (slice_get_read items (length items) c.in-Some.at c.index_mut.result.now refl place.1 c.index_mut.ensures.value), c.take_first.ensures)

pub returns-in-None : goal.returns-in-None
returns-in-None c =
    let past : IsPast c.args.addr.now c.args.outgoing.now.items (length c.args.outgoing.now.items) = rw c.deref.ensures.value at c.in-None.ensures.none in
    ([], [], goes_to_none c.args.addr.now c.args.outgoing.now.items past, (refl, refl))

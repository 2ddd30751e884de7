use Rattle.std.proofs.Common.{◌≤◌, ◌<◌, [], refl, length, rules}
use Rattle.std.proofs.lemmas.Option.{slice_get_read}
use Rattle.sp_fakes.specs.Nets.{queue_of}
use Rattle.sp_fakes.proofs.Queues.{goes_at_past, goes_at_set}
use Rattle.sp_fakes.proofs.net.first_of.Goals as goal

pub returns-then-at-len : goal.returns-then-at-len
returns-then-at-len c =
    let past : length c.args.incoming.now.items ≤ c.args.at = search rules in
    ([], [], goes_at_past c.args.at c.args.incoming.now.items past, (refl, refl))

pub returns : goal.returns
returns c =
    let items = c.args.incoming.now.items in
    let within : c.args.at < length items = search rules in
    (queue_of c.index_mut.result.now.items, queue_of c.take_first.new.list.items, goes_at_set c.args.at c.args.incoming.now.items c.index_mut.result.now c.take_first.new.list (slice_get_read items (length items) c.args.at c.index_mut.result.now refl within c.index_mut.ensures.value), c.take_first.ensures)

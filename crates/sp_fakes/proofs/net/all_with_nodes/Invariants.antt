use Rattle.std.proofs.Common.{◌≡◌, ◌++◌}
use Rattle.sp_fakes.specs.Nets.{queues_of, lists_as_made}
use Rattle.sp_fakes.proofs.net.all_with_nodes.Given as goal

abbrev pub invariant-loop-list : goal.invariant-loop-list
invariant-loop-list l = queues_of l.all.items ++ lists_as_made l.list-iterator.rest.items ≡ lists_as_made l.fn.lists.items

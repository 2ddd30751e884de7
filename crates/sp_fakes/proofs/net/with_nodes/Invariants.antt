use Rattle.std.proofs.Common.{◌≡◌, ◌++◌}
use Rattle.sp_fakes.specs.Nets.{queue_of, all_as_made}
use Rattle.sp_fakes.proofs.net.with_nodes.Given as goal

abbrev pub invariant-loop-link : goal.invariant-loop-link
invariant-loop-link l = queue_of l.links.items ++ all_as_made l.link-iterator.rest.items ≡ all_as_made l.fn.list.items

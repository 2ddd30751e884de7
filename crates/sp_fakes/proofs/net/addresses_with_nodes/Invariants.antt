use Rattle.std.proofs.Common.{◌≡◌, ◌++◌}
use Rattle.sp_fakes.specs.Nets.{queues_to, dials_as_made}
use Rattle.sp_fakes.proofs.net.addresses_with_nodes.Given as goal

abbrev pub invariant-loop-addr : goal.invariant-loop-addr
invariant-loop-addr l = queues_to l.all.items ++ dials_as_made l.addr-iterator.rest.items ≡ dials_as_made l.fn.lists.items

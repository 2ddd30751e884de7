-- What a net with one slow link shows: counts, and nothing of what its link carries.
use Rattle.std.specs.Prelude.{Option, Some, None, false}
use Rattle.std.specs.FinMap.{FinMap, empty, insert}
use Rattle.std.specs.Ordering.{nat_cmp}
use Rattle.sp_base.specs.Listeners.{listens_of}
use Rattle.sp_base.specs.Views.{LinkView, NetView}
use Rattle.test_node.specs.declared.slow.SlowLink.{SlowLink}
use Rattle.test_node.specs.declared.slow.SlowNet.{SlowNet}

abbrev pub link_view : SlowLink → LinkView
link_view l = record { place = 0; scheme = l.scheme; came = None; written = None; faults = l.faults; idles = l.idles; stalls = l.stalls; is_open = l.opened; ended = false }

abbrev pub back_of : Option SlowLink → FinMap nat_cmp LinkView
back_of None = empty
back_of (Some l) = insert empty 0 (link_view l)

abbrev pub net_view : SlowNet → NetView
net_view n = record { listens = listens_of n.schemes; opened = n.opened; back = back_of n.back; faults = n.faults; idles = n.idles }

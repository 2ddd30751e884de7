use Rattle.std.proofs.Common.{take}
use Rattle.proto_requests.specs.Spots.{held}
use Rattle.proto_rep.specs.Replies.{AreKeyed}
use Rattle.proto_rep.proofs.replies.put_all.Given as goal

-- what is at the earlier spots is in the index
abbrev pub invariant-loop-s : goal.invariant-loop-s
invariant-loop-s l = AreKeyed l.raw l.index.keys (held (take l.s-index l.list))

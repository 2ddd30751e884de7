use Rattle.std.proofs.Common.{◌-◌, ◌^◌}
use Rattle.proto_rep.specs.Replies.{AreFull}
use Rattle.proto_rep.proofs.replies.first_open.Given as goal

-- the keys up to there belong to full pipes
abbrev pub invariant-loop-key : goal.invariant-loop-key
invariant-loop-key l = AreFull l.ports.items l.fn.from l.below l.index.keys

abbrev pub decreases-loop-key : goal.decreases-loop-key
decreases-loop-key l = 2 ^ 64 - l.below

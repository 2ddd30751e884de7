use Rattle.std.proofs.Common.{◌≡◌, length, true, ℕ}
use Rattle.std.specs.Prelude.{◌⊎◌, ◌==◌}
use Rattle.std.specs.List.{list_any}
use Rattle.sp_history.specs.declared.parts.LastOut.{LastOut}
use Rattle.proto_requests.specs.Hints.{covers, StayAmong}
use Rattle.proto_live_requests.specs.Outs.{KeepOthers, is_sent}
use Rattle.proto_live_requests.proofs.dues.look_at_down.Given as goal

-- what went out on the pipe is still there, or is looked at
abbrev pub invariant-loop-c : goal.invariant-loop-c
invariant-loop-c l =
    record {
      whole : l.outs.whole ≡ l.fn.outs.whole;
      kept : KeepOthers (λ (o : LastOut). o.pipe == l.p) l.fn.outs l.outs;
      down : (c : ℕ) (o : LastOut) → (o.pipe == l.p) ≡ true → list_any (is_sent c o) l.fn.outs.items ≡ true → (list_any (is_sent c o) l.outs.items ≡ true) ⊎ (covers l.due c ≡ true);
      more : StayAmong l.fn.due l.due;
    }

abbrev pub decreases-loop-c : goal.decreases-loop-c
decreases-loop-c l = length l.outs.items

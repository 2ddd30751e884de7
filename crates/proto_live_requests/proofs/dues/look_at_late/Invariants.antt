use Rattle.std.proofs.Common.{◌≡◌, length, true, Some, ℕ}
use Rattle.std.specs.Prelude.{◌⊎◌}
use Rattle.sp_history.specs.declared.parts.LastOut.{LastOut}
use Rattle.proto_requests.specs.Hints.{covers, covers_by, StayAmong}
use Rattle.proto_live_requests.specs.Outs.{KeepOthers, is_sent}
use Rattle.proto_live_requests.specs.Dues.{is_past}
use Rattle.proto_live_requests.specs.LiveRequests.{out_of}
use Rattle.proto_live_requests.proofs.dues.look_at_late.Given as goal

-- what is late is still among the Outs, or is looked at
abbrev pub invariant-loop-e : goal.invariant-loop-e
invariant-loop-e l =
    record {
      whole : l.outs.whole ≡ l.fn.outs.whole;
      kept : KeepOthers (is_past l.resend l.now) l.fn.outs l.outs;
      late : (c : ℕ) (o : LastOut) → is_past l.resend l.now o ≡ true → out_of l.live.items c ≡ Some o → covers_by l.fn.outs (is_sent c o) ≡ true → (covers_by l.outs (is_sent c o) ≡ true) ⊎ (covers l.due c ≡ true);
      more : StayAmong l.fn.due l.due;
    }

abbrev pub decreases-loop-e : goal.decreases-loop-e
decreases-loop-e l = length l.outs.items

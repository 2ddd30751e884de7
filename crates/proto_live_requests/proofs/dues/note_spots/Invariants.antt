use Rattle.std.proofs.Common.{◌≡◌, ℕ, true, drop}
use Rattle.std.specs.Prelude.{◌⊎◌}
use Rattle.std.specs.List.{list_any}
use Rattle.sp_history.specs.declared.parts.LastOut.{LastOut}
use Rattle.proto_requests.specs.Hints.{covers_by}
use Rattle.proto_requests.specs.Spots.{holds}
use Rattle.proto_live_requests.specs.Outs.{is_sent}
use Rattle.proto_live_requests.specs.Dues.{waits_so}
use Rattle.proto_live_requests.proofs.dues.note_spots.Given as goal

-- what is there and waits for a reply is still to come, or is recorded
abbrev pub invariant-loop-s : goal.invariant-loop-s
invariant-loop-s l =
    (c : ℕ) (o : LastOut) → list_any (holds (waits_so c o)) l.list ≡ true → (list_any (holds (waits_so c o)) (drop l.s-index l.list) ≡ true) ⊎ (covers_by l.outs (is_sent c o) ≡ true)

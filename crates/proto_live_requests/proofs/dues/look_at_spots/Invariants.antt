use Rattle.std.proofs.Common.{◌≡◌, ℕ, true, drop}
use Rattle.std.specs.Prelude.{◌⊎◌}
use Rattle.std.specs.List.{list_any}
use Rattle.proto_requests.specs.Hints.{covers}
use Rattle.proto_requests.specs.Spots.{holds}
use Rattle.proto_live_requests.specs.LiveRequests.{is_live_on}
use Rattle.proto_live_requests.proofs.dues.look_at_spots.Given as goal

-- one that is there is still to come, or is looked at
abbrev pub invariant-loop-s : goal.invariant-loop-s
invariant-loop-s l = (q : ℕ) → list_any (holds (is_live_on q)) l.list ≡ true → (list_any (holds (is_live_on q)) (drop l.s-index l.list) ≡ true) ⊎ (covers l.due q ≡ true)

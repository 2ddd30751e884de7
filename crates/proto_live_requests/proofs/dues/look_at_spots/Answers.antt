use Rattle.std.proofs.Common.{◌≡◌, true, inl, inr}
use Rattle.proto_requests.specs.Hints.{covers}
use Rattle.proto_requests.specs.Spots.{holds}
use Rattle.proto_live_requests.specs.LiveRequests.{is_live_on}
use Rattle.proto_live_requests.proofs.DueRequests.{next_or, none_behind, case_of}
use Rattle.proto_live_requests.proofs.dues.look_at_spots.Goals as goal

pub loop-s-init : goal.loop-s-init
loop-s-init c = λ q k. inl k

pub loop-s-preserved : goal.loop-s-preserved
loop-s-preserved c = λ q k.
    next_or (holds (is_live_on q)) c.args.list.now c.loop-s.s-index c.s-item.result (covers c.look_at_spot.new.due q ≡ true) c.loop-s-test.true c.s-item.is (c.look_at_spot.ensures.it q)
    (case_of (λ h. inl h) (λ d. inr (c.look_at_spot.ensures.more q d)) (c.loop-s.invariant q k))

pub returns : goal.returns
returns c = λ q k. none_behind (holds (is_live_on q)) c.args.list.now c.loop-s.s-index (covers c.loop-s.due q ≡ true) c.loop-s-test.false (c.loop-s.invariant q k)

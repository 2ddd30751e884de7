use Rattle.std.proofs.Common.{◌≡◌, true, inl, inr}
use Rattle.proto_requests.specs.Hints.{covers_by}
use Rattle.proto_requests.specs.Spots.{holds}
use Rattle.proto_live_requests.specs.Outs.{is_sent}
use Rattle.proto_live_requests.specs.Dues.{waits_so}
use Rattle.proto_live_requests.proofs.DueRequests.{next_or, none_behind, case_of}
use Rattle.proto_live_requests.proofs.dues.note_spots.Goals as goal

pub loop-s-init : goal.loop-s-init
loop-s-init c = λ x o k. inl k

pub loop-s-preserved : goal.loop-s-preserved
loop-s-preserved c = λ x o k.
    next_or (holds (waits_so x o)) c.args.list.now c.loop-s.s-index c.s-item.result (covers_by c.note_spot.new.outs (is_sent x o) ≡ true) c.loop-s-test.true c.s-item.is (c.note_spot.ensures.it x o)
    (case_of (λ h. inl h) (λ d. inr (c.note_spot.ensures.more x o d)) (c.loop-s.invariant x o k))

pub returns : goal.returns
returns c = λ x o k. none_behind (holds (waits_so x o)) c.args.list.now c.loop-s.s-index (covers_by c.loop-s.outs (is_sent x o) ≡ true) c.loop-s-test.false (c.loop-s.invariant x o k)

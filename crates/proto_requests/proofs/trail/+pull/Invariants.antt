use Rattle.proto_requests.proofs.trail.+pull.Given as goal

abbrev pub decreases-pull : goal.decreases-pull
decreases-pull l = l.hops

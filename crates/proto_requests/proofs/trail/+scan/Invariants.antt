use Rattle.proto_requests.proofs.trail.+scan.Given as goal

abbrev pub decreases-scan : goal.decreases-scan
decreases-scan l = l.hops

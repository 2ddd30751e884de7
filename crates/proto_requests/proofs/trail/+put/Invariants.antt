use Rattle.std.proofs.Common.{length}
use Rattle.proto_requests.proofs.trail.+put.Given as goal

abbrev pub decreases-put : goal.decreases-put
decreases-put l = length l.words.now

use Rattle.std.proofs.Common.{◌≡◌, find}
use Rattle.proto_requests.specs.Ports.{is_open, is_free_from}
use Rattle.proto_requests.proofs.ports.first_open.Given as goal

abbrev pub invariant-loop-p : goal.invariant-loop-p
invariant-loop-p l = find (is_open l.turn) l.p-iterator ≡ find (is_free_from l.turn l.start) l.held.entries

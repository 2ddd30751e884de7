use Rattle.std.proofs.Common.{◌≡◌, ◌≤◌, ◌+◌, ◌*◌, ◌++◌, length, drop}
use Rattle.aio_expire.specs.DueCalls.{after_calls, names_of_calls, AreAllowed}
use Rattle.aio_expire.proofs.due.run_due.Given as goal

abbrev pub invariant-loop-call : goal.invariant-loop-call
invariant-loop-call g l =
    let seen = g.D.Due.schedule in
    let left = drop l.call-index l.calls in
    record {
      slots : (seen l.d).slots ≡ (seen l.fn.d).slots;
      allowed : AreAllowed (seen l.d).slots left (seen l.d).entries;
      room : (seen l.d).slots * length left ≤ l.out.spare;
      rest : after_calls left (seen l.d).entries ≡ after_calls l.calls (seen l.fn.d).entries;
      names : l.out.names ++ names_of_calls left (seen l.d).entries ≡ l.fn.out.names ++ names_of_calls l.calls (seen l.fn.d).entries;
      spare : l.out.spare + length l.out.names ≡ l.fn.out.spare + length l.fn.out.names;
    }

use Rattle.aio_word.specs.Views.{Each}
use Rattle.test_socket.specs.Calls.{Calls, IsListOf}
use Rattle.test_socket.proofs.plays.give_all_back.Given as goal

abbrev pub invariant-loop : goal.invariant-loop
invariant-loop g l = record { list : IsListOf l.socket l.list; callers : Each (λ c. Calls l.socket c.pass c.ops.items) l.callers.items }

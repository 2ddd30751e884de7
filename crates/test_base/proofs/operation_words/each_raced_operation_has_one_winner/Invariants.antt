use Rattle.std.proofs.Common.{◌≡◌, ◌<◌}
use Rattle.aio_word.specs.Results.{HasSeen}
use Rattle.test_base.proofs.operation_words.each_raced_operation_has_one_winner.Given as goal

abbrev pub invariant-loop : goal.invariant-loop
invariant-loop g l = record {
  core : l.core.words ≡ l.words.id;
  seat : l.seat.words ≡ l.words.id;
  slots : 0 < l.words.slots;
  seen : HasSeen l.core.view 0;
}

use Rattle.std.proofs.Common.{◌≡◌, true}
use Rattle.aio_word.specs.Results.{HasSeen, IsName}
use Rattle.test_base.proofs.operation_words.goes_on.Given as goal

abbrev pub invariant-loop-line : goal.invariant-loop-line
invariant-loop-line g l = record {
  core : l.core.seat.words ≡ l.one.id;
  first : l.first.words ≡ l.one.id;
  second : l.second.words ≡ l.one.id;
  same : l.two ≡ l.one;
  name : IsName l.core.seat.view l.one.slots l.core.op;
  over : l.core.is_over ≡ true → HasSeen l.core.seat.view l.core.op.slot;
}

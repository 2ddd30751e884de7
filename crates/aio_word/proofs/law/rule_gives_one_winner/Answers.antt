use Rattle.aio_word.proofs.Holds.{holds}
use Rattle.aio_word.proofs.law.rule_gives_one_winner.Goals as goal

pub returns : goal.returns
returns c n s r = holds n s r

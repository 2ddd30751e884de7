use Rattle.std.proofs.Common.{[]}
use Rattle.test_base.proofs.turns.take_turn.Given as goal

abbrev pub ghosts-leave : goal.ghosts-leave
ghosts-leave g a = record { turn = record { number = a.pass.now.number; entries = [] } }

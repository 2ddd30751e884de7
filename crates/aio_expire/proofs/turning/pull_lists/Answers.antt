use Rattle.std.proofs.Common.{arith}
use Rattle.aio_expire.proofs.Pulling.{pulled-room}
use Rattle.aio_expire.proofs.turning.pull_lists.Goals as goal

pub pull_list-requires-clause-room : goal.pull_list-requires-clause-room
pull_list-requires-clause-room c = let room = pulled-room _ _ _ _ c.loop-bucket.invariant.pulled in omega (arith, room, c.requires.room, c.loop-bucket.invariant.room)

use Rattle.sp_base.specs.Addresses.{scheme_of}
use Rattle.test_real.proofs.ListenerNumbers.{is_there}
use Rattle.test_real.proofs.nets.talks_at.Goals as goal

pub talks_to_itself-talked-requires-clause-at : goal.talks_to_itself-talked-requires-clause-at
talks_to_itself-talked-requires-clause-at g c = is_there (g.N.Net.seen c.is_refused-refused.new.net).listens (g.N.Net.seen c.listen.new.self).listens c.in-At.at (scheme_of c.args.addr.now) c.in-At.ensures.shows.listens

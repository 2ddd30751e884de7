use Rattle.sp_base.specs.Addresses.{scheme_of}
use Rattle.test_real.proofs.ListenerNumbers.{is_there}
use Rattle.test_real.proofs.nets.listening.Goals as goal

pub returns-in-At : goal.returns-in-At
returns-in-At g c = is_there (g.N.Net.seen c.loop-step.net).listens (g.N.Net.seen c.listen.new.self).listens c.in-At.at (scheme_of c.place.result) c.in-At.ensures.shows.listens

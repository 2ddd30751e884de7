use Rattle.sp_base.specs.declared.addr.Scheme.TheVariants as schemes
use Rattle.sp_base.specs.Listeners.{listens_of}
use Rattle.test_cat.proofs.FoundListeners.{is_there}
use Rattle.test_cat.proofs.nets.first_read.Goals as goal

pub accept-requires : goal.accept-requires
accept-requires c = is_there (listens_of c.args.net.now.listeners) (listens_of c.listen.new.self.listeners) c.in-At.at schemes.Tcp c.in-At.ensures.after.shows.listens

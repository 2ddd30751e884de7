use Rattle.proto_reqrep.proofs.Offering.{first_onward, first_round}
use Rattle.proto_reqrep.proofs.offers.next_roomy.Goals as goal

pub returns-in-Some : goal.returns-in-Some
returns-in-Some c = first_onward c.args.last c.in-Some.p c.args.roomy.now.keys c.in-Some.ensures

pub returns-in-None : goal.returns-in-None
returns-in-None c = first_round c.args.last c.first_of_all.result c.args.roomy.now.keys c.in-None.ensures c.first_of_all.ensures

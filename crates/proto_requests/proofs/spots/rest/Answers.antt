use Rattle.proto_requests.proofs.FirstPlaces.{whole_rest}
use Rattle.proto_requests.proofs.spots.rest.Goals as goal

pub returns : goal.returns
returns g c = whole_rest c.args.from c.args.list.now

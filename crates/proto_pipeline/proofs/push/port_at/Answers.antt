use Rattle.proto_pipeline.proofs.Marking.{searched}
use Rattle.proto_pipeline.proofs.push.port_at.Goals as goal

pub returns : goal.returns
returns c = searched c.args.p c.args.ports.now.items c.port_among.result c.port_among.ensures

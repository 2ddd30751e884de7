use Rattle.proto_requests.proofs.PortsInOrder.{passed_after}
use Rattle.proto_requests.proofs.ports.remember.Goals as goal

pub returns-then-from-to : goal.returns-then-from-to
returns-then-from-to c = λ turn xs full all. passed_after c.insert.result turn c.args.from c.args.to c.args.passed.now.entries _ xs c.insert.ensures.entries c.insert.ensures.err full all

use Rattle.std.proofs.Common.{ap, ◌∙◌}
use Rattle.std.specs.Prelude.{not}
use Rattle.proto_bus.proofs.Bussed.{goes}
use Rattle.proto_bus.proofs.BusProto.goes_to.Goals as goal

pub returns : goal.returns
returns c = λ t s b l h k up. ap not c.leaves_out.ensures ∙ goes c.args.self.now t c.args.op s b c.args.p l h k up

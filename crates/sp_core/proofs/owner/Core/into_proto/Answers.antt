use Rattle.std.proofs.Common.{◌∙◌}
use Rattle.sp_core.proofs.Parting.{none_yet}
use Rattle.sp_core.proofs.owner.Core.into_proto.Goals as goal

pub into_down-requires : goal.into_down-requires
into_down-requires g c = (none_yet g.P.Proto.ties g.P.Proto.room g.W.Wire.shown c.args.self c.requires).0

pub destroy_empty-requires : goal.destroy_empty-requires
destroy_empty-requires g c = c.into_down.ensures ∙ (none_yet g.P.Proto.ties g.P.Proto.room g.W.Wire.shown c.args.self c.requires).1

pub returns : goal.returns
returns g c = g.met.P.Proto.anew c.args.self.proto c.requires.at c.requires.past_is c.requires.owns.proto

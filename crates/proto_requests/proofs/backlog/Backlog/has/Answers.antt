use Rattle.std.proofs.Common.{◌∙◌, ap}
use Rattle.std.specs.Prelude.{is_some}
use Rattle.proto_requests.proofs.KeptInOrder.{any_number}
use Rattle.proto_requests.proofs.backlog.Backlog.has.Goals as goal

pub returns : goal.returns
returns g c =
    rw (← c.self.view_is, ← c.p.view_is) (c.has.ensures ∙ ap is_some (c.self.invariant.numbers c.p.inside.0) ∙ any_number g.T.FromPipe.pipe_of c.p.inside.0 c.self.inside.kept.entries)

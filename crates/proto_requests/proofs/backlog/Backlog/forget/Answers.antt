use Rattle.std.proofs.Common.{◌≡◌, ◌∙◌, ap, sym, filter, Some}
use Rattle.std.specs.Prelude.{not}
use Rattle.proto_requests.specs.Numbers.{number_at}
use Rattle.proto_requests.proofs.KeptInOrder.{removed, values_same, values_without, numbered_left}
use Rattle.proto_requests.proofs.backlog.Backlog.forget.Goals as goal

pub invariant_of-self : goal.invariant_of-self
invariant_of-self g c =
    let pipe = g.T.FromPipe.pipe_of in
    let known = sym (c.self.invariant.numbers c.p.inside.0) ∙ sym c.get.ensures ∙ c.in-Some.is in
    let left = c.remove.ensures.entries ∙ removed pipe c.p.inside.0 c.in-Some.n c.self.inside.kept.entries c.len-len.ensures.ordered c.self.invariant.apart known in
    numbered_left pipe (number_at c.self.inside.numbers) (number_at c.remove-in-Some.new.self) c.self.inside.next c.p.inside.0 c.self.inside.kept.entries c.remove.new.self.entries c.self.invariant left c.remove-in-Some.ensures

pub returns-in-None : goal.returns-in-None
returns-in-None g c =
    rw (← c.self.view_is, ← c.p.view_is) (values_same g.T.FromPipe.pipe_of c.p.inside.0 c.self.inside.kept.entries (sym (c.self.invariant.numbers c.p.inside.0) ∙ sym c.get.ensures ∙ c.in-None.is))

pub returns-in-Some : goal.returns-in-Some
returns-in-Some g c =
    let pipe = g.T.FromPipe.pipe_of in
    let known = sym (c.self.invariant.numbers c.p.inside.0) ∙ sym c.get.ensures ∙ c.in-Some.is in
    let left = c.remove.ensures.entries ∙ removed pipe c.p.inside.0 c.in-Some.n c.self.inside.kept.entries c.len-len.ensures.ordered c.self.invariant.apart known in
    rw (← c.self.view_is, ← c.p.view_is) (values_without pipe c.p.inside.0 c.self.inside.kept.entries c.remove.new.self.entries left)

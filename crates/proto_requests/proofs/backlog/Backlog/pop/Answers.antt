use Rattle.std.proofs.Common.{◌≡◌, ◌∙◌, ap, subst, sym, List, ◌∷◌, ℕ}
use Rattle.proto_requests.specs.Numbers.{number_at}
use Rattle.proto_requests.specs.Backlogs.{AreNumbered}
use Rattle.proto_requests.proofs.KeptInOrder.{numbered_fewer}
use Rattle.proto_requests.proofs.backlog.Backlog.pop.Goals as goal

pub invariant_of-self-in-Some : goal.invariant_of-self-in-Some
invariant_of-self-in-Some g c =
    let pipe = g.T.FromPipe.pipe_of in
    numbered_fewer pipe (number_at c.self.inside.numbers) (number_at c.remove-in-Some.new.self) c.self.inside.next c.in-Some.field-0-0 c.in-Some.item c.pop_first.new.self.entries
    (subst (AreNumbered pipe (number_at c.self.inside.numbers) c.self.inside.next) c.in-Some.ensures.removal c.self.invariant) (rw (← c.pipe.ensures, ← c.remove.view_is) c.remove-in-Some.ensures)

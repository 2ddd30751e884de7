use Rattle.std.proofs.Common.{◌≡◌, ◌∙◌, ap, sym, ◌++◌, ◌∷◌, [], None}
use Rattle.std.specs.Prelude.{is_some}
use Rattle.std.specs.Map.{values_of}
use Rattle.proto_requests.specs.Numbers.{number_at}
use Rattle.proto_requests.proofs.Backlogged.{went}
use Rattle.proto_requests.proofs.TestValues.{not_both}
use Rattle.proto_requests.proofs.KeptInOrder.{any_number, none_is, inserted_last, numbered_more, values_more}
use Rattle.proto_requests.proofs.backlog.Backlog.push.Goals as goal

pub returns-then-has-clause-more : goal.returns-then-has-clause-more
returns-then-has-clause-more g c =
    let pipe = g.T.FromPipe.pipe_of in
    rw (← c.self.view_is) (λ none. not_both
    (sym (any_number pipe (pipe c.args.item) c.self.inside.kept.entries) ∙ ap is_some (sym (c.self.invariant.numbers (pipe c.args.item))) ∙ rw (← c.pipe-p.ensures, ← c.p.view_is) (sym c.has.ensures ∙ c.if-has.true)) none)

pub invariant_of-self-2 : goal.invariant_of-self-2
invariant_of-self-2 g c =
    let pipe = g.T.FromPipe.pipe_of in
    let known = went c.put.result _ (sym c.is_err.ensures.value ∙ c.if-is_err.false) c.put.ensures.known in
    let entries = went c.insert.result _ (sym c.is_err-2.ensures.value ∙ c.if-is_err-2.false) c.insert.ensures.entries in
    rw (entries ∙ inserted_last pipe c.self.inside.kept.entries c.self.inside.next c.args.item c.self.invariant.below)
    (numbered_more pipe (number_at c.self.inside.numbers) (number_at c.put.new.self) c.self.inside.next c.self.inside.kept.entries c.args.item c.self.invariant
    (none_is _ (rw (← c.pipe-p.ensures, ← c.p.view_is) (sym c.has.ensures ∙ c.if-has.false))) (rw (← c.pipe-p.ensures, ← c.p.view_is) known))

pub returns-clause-more : goal.returns-clause-more
returns-clause-more g c =
    let pipe = g.T.FromPipe.pipe_of in
    let entries = went c.insert.result _ (sym c.is_err-2.ensures.value ∙ c.if-is_err-2.false) c.insert.ensures.entries in
    rw (← c.self.view_is) (λ none. ap values_of (entries ∙ inserted_last pipe c.self.inside.kept.entries c.self.inside.next c.args.item c.self.invariant.below) ∙ values_more pipe c.self.inside.kept.entries c.self.inside.next c.args.item)

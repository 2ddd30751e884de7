use Rattle.std.proofs.Common.{◌≡◌, ◌∙◌, ap, sym, subst, ℕ, Option, Some, None, find}
use Rattle.std.specs.Option.{option_map}
use Rattle.std.proofs.lemmas.Bool.{ne_eqb}
use Rattle.proto_requests.specs.Ports.{AreFull, is_open, is_free_from, number, reached}
use Rattle.proto_requests.proofs.PortsInOrder.{in_rest, one_open, filled}
use Rattle.proto_requests.proofs.ports.first_open.Goals as goal

pub loop-p-init : goal.loop-p-init
loop-p-init c = ap (find (is_open c.args.turn)) (c.into_iter-p-iterator.ensures.into_iter_gives ∙ c.range-p-items.ensures.between tt) ∙ in_rest c.args.turn c.args.start c.args.held.now.entries

pub returns-then-full_in-turn-clause-full : goal.returns-then-full_in-turn-clause-full
returns-then-full_in-turn-clause-full c =
    let xs = c.args.held.now.entries in
    let found : find (is_free_from c.args.turn c.args.start) xs ≡ Some (c.in-Some.p.now, c.in-Some.full_in.now) =
    one_open c.args.turn (c.in-Some.p.now, c.in-Some.full_in.now) _ _ _ c.in-Some.ensures.steps (ne_eqb _ _ c.if-full_in-turn.true) c.loop-p.invariant in
    subst (λ (o : Option (ℕ × ℕ)). AreFull c.args.turn c.args.start (reached (option_map number o)) xs) found (filled c.args.turn c.args.start xs c.range-p-items.ensures.ordered)

pub returns-clause-full : goal.returns-clause-full
returns-clause-full c =
    let xs = c.args.held.now.entries in
    let none : find (is_free_from c.args.turn c.args.start) xs ≡ None = sym c.loop-p.invariant ∙ ap (find (is_open c.args.turn)) c.in-None.ensures.steps.0 in
    subst (λ (o : Option (ℕ × ℕ)). AreFull c.args.turn c.args.start (reached (option_map number o)) xs) none (filled c.args.turn c.args.start xs c.range-p-items.ensures.ordered)

use Rattle.std.proofs.Common.{◌≡◌, refl, ap, [], ◌∷◌, ◌++◌, ℕ, Option, ◌∙◌}
use Rattle.std.specs.Option.{option_to_list}
use Rattle.core_state.proofs.OperationSteps.{drawn}
use Rattle.core_state.proofs.operations.Operations.draw.Goals as goal

pub returns-clause-slot : goal.returns-clause-slot
returns-clause-slot c =
    λ i e t h.
    let items : c.args.self.now.free.items ≡ c.pop.new.self.items ++ i ∷ [] = c.pop.ensures.items ∙ ap (λ (o : Option ℕ). c.pop.new.self.items ++ option_to_list o) e in
    drawn _ _ _ c.args.self.now _ i h items c.pop.ensures.capacity refl refl refl

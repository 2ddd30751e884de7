use Rattle.std.proofs.Common.{◌≡◌, refl, ◌∷◌, ◌++◌, [], rules}
use Rattle.core_state.proofs.OperationSteps.{put_back}
use Rattle.core_state.proofs.operations.Operations.put_back.Goals as goal

pub returns-clause-back : goal.returns-clause-back
returns-clause-back c =
    λ t h.
    let items : c.push.new.self.items ≡ c.args.self.now.free.items ++ c.args.slot ∷ [] = search rules in
    put_back _ _ _ c.args.self.now _ c.args.slot h items c.push.ensures.capacity refl refl refl

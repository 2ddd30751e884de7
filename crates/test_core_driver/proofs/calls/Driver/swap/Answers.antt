use Rattle.std.proofs.Common.{◌≡◌, ap, ◌∙◌, List, ◌∷◌, ◌++◌, []}
use Rattle.sp_base.specs.declared.OpName.{OpName}
use Rattle.test_core_driver.proofs.Driving.{swapped}
use Rattle.test_core_driver.proofs.calls.Driver.swap.Goals as goal

pub invariant_of-self-in-Some-pop_back : goal.invariant_of-self-in-Some-pop_back
invariant_of-self-in-Some-pop_back g c =
    let i = c.self.inside in
    let rest = c.pop_back-2.new.self.items in
    let last = c.in-Some.last in
    let before = c.in-Some-pop_back.before in
    let was : i.ops.items ≡ (rest ++ before ∷ []) ++ last ∷ [] = c.in-Some.ensures.items ∙ ap (λ (l : List OpName). l ++ last ∷ []) c.in-Some-pop_back.ensures.items in
    let is : c.push_back_reserved-in-Some-pop_back-2.new.self.items ≡ (rest ++ last ∷ []) ++ before ∷ [] = c.push_back_reserved-in-Some-pop_back-2.ensures.items ∙ ap (λ (l : List OpName). l ++ before ∷ []) c.push_back_reserved-in-Some-pop_back.ensures.items in
    swapped g.P.Proto.ties g.P.Proto.room g.W.Wire.shown i.core i.seat i.other i.slots i.ops.items rest c.push_back_reserved-in-Some-pop_back-2.new.self.items before last c.self.invariant was is

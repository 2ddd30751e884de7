use Rattle.std.proofs.Common.{◌≡◌, ◌∙◌, ap, Some, None}
use Rattle.std.specs.Option.{option_map}
use Rattle.sp_history.specs.Lists.{same_op}
use Rattle.sp_history.proofs.OnceHolds.{same_op-refl}
use Rattle.proto_requests.proofs.TestValues.{some_inj}
use Rattle.proto_requests.proofs.waits.note_at.Goals as goal

pub returns-in-None-clause-it : goal.returns-in-None-clause-it
returns-in-None-clause-it g c = λ P x e f. let bad : None ≡ Some (g.T.Waiter.name_of x) = c.in-None.ensures P e ∙ ap (option_map g.T.Waiter.name_of) f in absurd cc

pub returns-in-Some-clause-it : goal.returns-in-Some-clause-it
returns-in-Some-clause-it g c = λ P x e f.
    let n = g.T.Waiter.name_of x in
    let is : c.in-Some.op ≡ n = some_inj c.in-Some.op n (c.in-Some.ensures P e ∙ ap (option_map g.T.Waiter.name_of) f) in
    c.add.ensures.more (same_op n) (ap (same_op n) is ∙ same_op-refl n)

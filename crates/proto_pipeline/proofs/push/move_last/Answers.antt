use Rattle.std.proofs.Common.{sym, ap, subst, List, ◌∷◌, ◌++◌, [], false, ◌∙◌, ◌≡◌}
use Rattle.std.specs.Prelude.{remove}
use Rattle.proto_pipeline.specs.declared.push.Port.{Port}
use Rattle.proto_pipeline.specs.Pushes.{AreMarked}
use Rattle.proto_pipeline.proofs.Marking.{marks_without, marks_last}
use Rattle.proto_pipeline.proofs.push.move_last.Goals as goal

pub returns-in-Some-clause-ports : goal.returns-in-Some-clause-ports
returns-in-Some-clause-ports c = c.push_back_reserved.ensures.items ∙ ap (λ (xs : List Port). xs ++ record { pipe = c.args.p; is_full = false } ∷ []) c.in-Some.ensures.items

pub returns-in-Some-clause-marks : goal.returns-in-Some-clause-marks
returns-in-Some-clause-marks c = λ h.
    let xs = c.args.ports.now.items in
    let left = marks_without c.args.marks c.without.result xs h c.args.i c.requires c.without.ensures.0 c.without.ensures.1 in
    let all : c.push_back_reserved.new.self.items ≡ remove xs c.args.i ++ record { pipe = c.args.p; is_full = false } ∷ [] = c.push_back_reserved.ensures.items ∙ ap (λ (ys : List Port). ys ++ record { pipe = c.args.p; is_full = false } ∷ []) c.in-Some.ensures.items in
    subst (λ (ys : List Port). AreMarked c.without.result ys) (sym all) (marks_last c.without.result (remove xs c.args.i) c.args.p left)

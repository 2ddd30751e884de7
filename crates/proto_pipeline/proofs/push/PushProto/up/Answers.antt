use Rattle.std.proofs.Common.{◌≡◌, refl, sym, subst, List, ◌∷◌, ◌++◌, [], false, rules}
use Rattle.proto_pipeline.specs.declared.push.Push.{Push}
use Rattle.proto_pipeline.specs.declared.push.Port.{Port}
use Rattle.proto_pipeline.specs.Pushes.{AreMarked}
use Rattle.proto_pipeline.proofs.Marking.{marks_last}
use Rattle.proto_pipeline.proofs.Pushed.{up_ties}
use Rattle.proto_pipeline.proofs.push.PushProto.up.Goals as goal

pub returns-in-Ok-clause-up : goal.returns-in-Ok-clause-up
returns-in-Ok-clause-up c = λ t place limit name calm l h.
    let was = c.args.self.now in
    let is : Push = record { raw = was.raw; options = was.options; ports = c.push_back.new.self; marks = was.marks; waiting = was.waiting } in
    let items : c.push_back.new.self.items ≡ was.ports.items ++ record { pipe = c.args.p; is_full = false } ∷ [] = search rules in
    up_ties was is t c.args.p place limit name l h items refl (subst (λ (xs : List Port). AreMarked was.marks xs) (sym items) (marks_last was.marks was.ports.items c.args.p h.marks)) (refl, refl)

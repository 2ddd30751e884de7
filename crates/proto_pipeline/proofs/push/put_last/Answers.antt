use Rattle.std.proofs.Common.{◌≡◌, sym, ap, List, ◌∷◌, ◌++◌, [], ℕ, Some, true, false, ◌∙◌}
use Rattle.std.specs.List.{list_any}
use Rattle.proto_pipeline.specs.declared.push.Port.{Port}
use Rattle.proto_pipeline.specs.Pushes.{put_back, is_port}
use Rattle.proto_pipeline.proofs.Marking.{one_forgot}
use Rattle.proto_pipeline.proofs.push.put_last.Goals as goal

same_pipe : (p q : ℕ) → Some p ≡ Some q → p ≡ q
same_pipe p q e = cc

pub returns-in-None-port_at-clause-ports : goal.returns-in-None-port_at-clause-ports
returns-in-None-port_at-clause-ports c = λ p o a k.
    let is : c.in-Some.p ≡ p = same_pipe c.in-Some.p p (sym c.in-Some.is ∙ o) in
    let no : false ≡ true = sym c.in-None-port_at.ensures ∙ ap (λ (q : ℕ). list_any (is_port q) c.args.ports.now.items) is ∙ k in
    absurd cc

pub returns-in-Some-port_at-clause-ports : goal.returns-in-Some-port_at-clause-ports
returns-in-Some-port_at-clause-ports c = λ p o a k.
    let is : c.in-Some.p ≡ p = same_pipe c.in-Some.p p (sym c.in-Some.is ∙ o) in
    let at = c.in-Some-port_at.ensures in
    let d : Port = record { pipe = 0; is_full = true } in
    c.move_last.ensures.ports ∙ ap (λ (xs : List Port). xs ++ record { pipe = c.in-Some.p; is_full = false } ∷ []) (one_forgot c.in-Some.p c.args.ports.now.items c.in-Some-port_at.i d a at.0 (at.1 d)) ∙ ap (λ (q : ℕ). put_back q c.args.ports.now.items) is

use Rattle.std.proofs.Common.{◌≡◌, ◌∙◌, ◌≤◌, ◌<◌, ℕ, Bool, true, false, Some, length, refl, ap, sym, arith}
use Rattle.std.specs.Prelude.{nat_lt}
use Rattle.std.specs.Option.{option_map}
use Rattle.std.proofs.lemmas.Bool.Decides.{nat_tests}
use Rattle.proto_pipeline.specs.declared.push.Port.{Port}
use Rattle.proto_pipeline.proofs.Marking.{none_free, first_free, all_before}
use Rattle.proto_pipeline.proofs.push.Push.free_port.Goals as goal

not_inside : (i n m : ℕ) → n ≡ m → (i < n → false ≡ true) → m ≤ i
not_inside i n m e f = go (nat_lt i n) refl
  where
    go : (b : Bool) → nat_lt i n ≡ b → m ≤ i
    go true q = let no : false ≡ true = f (grind (arith, nat_tests)) in absurd cc
    go false q = let past : n ≤ i = grind (arith, nat_tests) in omega (arith, past, e)

pub returns-in-None-clause-pipe : goal.returns-in-None-clause-pipe
returns-in-None-clause-pipe c = λ h.
    let xs = c.args.self.now.ports.items in
    let i = c.free_place-i.result in
    let past : length xs ≤ i = not_inside i _ (length xs) c.args.self.now.ports.ok.0 c.in-None.ensures.variant.1 in
    sym (ap (option_map (λ (x : Port). x.pipe)) (none_free xs (λ k d l. all_before c.args.self.now.marks xs h i c.free_place-i.ensures.full k d (omega (arith, l, past)))))

pub returns-in-Some-clause-pipe : goal.returns-in-Some-clause-pipe
returns-in-Some-clause-pipe c = λ h.
    let xs = c.args.self.now.ports.items in
    let i = c.free_place-i.result in
    let long = c.in-Some.ensures.variant.0 refl in
    let inside : i < length xs = omega (arith, long, c.args.self.now.ports.ok.0) in
    let found = first_free xs i c.in-Some.x.now inside (λ k d l. all_before c.args.self.now.marks xs h i c.free_place-i.ensures.full k d l) (c.free_place-i.ensures.free c.in-Some.x.now inside) in
    sym (ap (option_map (λ (x : Port). x.pipe)) found ∙ ap (λ (x : Port). Some x.pipe) (sym c.in-Some.ensures.lookup))

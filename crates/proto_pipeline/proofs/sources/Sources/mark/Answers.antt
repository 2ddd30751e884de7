use Rattle.std.proofs.Common.{◌≡◌, refl, sym, ap, ◌∙◌, Bool, true, false, Option, Some, None, cond, ℕ, ◌+◌, length, arith, rules}
use Rattle.std.specs.Prelude.{Result, Ok, Err, is_some, OnOk, IfOk}
use Rattle.std.specs.Result.{is_err}
use Rattle.proto_pipeline.specs.Sources.{mark_at}
use Rattle.proto_pipeline.proofs.Sourced.{marked_at}
use Rattle.proto_pipeline.proofs.sources.Sources.mark.Goals as goal

went : {A E : Type 0} (r : Result A E) (P : Type 0) → is_err r ≡ false → OnOk r P → P
went (Ok a) P e h = h
went (Err x) P e h = absurd cc

grown : {E : Type 0} (n m : ℕ) (k : Option Bool) (r : Result (Option Bool) E) → is_err r ≡ false → is_some k ≡ true → IfOk r (λ o. o ≡ k) → IfOk r (λ o. m ≡ n + cond (is_some o) 0 1) → m ≡ n
grown n m k (Ok (Some b)) e t h l = omega (arith, l)
grown n m k (Ok None) e t h l = let no : false ≡ true = ap is_some h ∙ t in absurd cc
grown n m k (Err x) e t h l = absurd cc

pub returns-clause-kept : goal.returns-clause-kept
returns-clause-kept c = λ q.
    let there : is_some (mark_at c.args.self.now c.args.p) ≡ true = ap is_some (sym c.kept.ensures) ∙ search rules in
    let updates = went c.insert.result _ (sym c.is_err.ensures.value ∙ c.if-is_err.false) c.insert.ensures.updates in
    marked_at c.args.self.now c.insert.new.self.entries c.args.p q c.args.is_kept there (rw (← c.p.view_is, ← c.self.view_is) (updates.0 q))

pub returns-clause-count : goal.returns-clause-count
returns-clause-count c =
    let there : is_some (mark_at c.args.self.now c.args.p) ≡ true = ap is_some (sym c.kept.ensures) ∙ search rules in
    grown (length c.args.self.now) (length c.insert.new.self.entries) (mark_at c.args.self.now c.args.p) c.insert.result (sym c.is_err.ensures.value ∙ c.if-is_err.false) there (rw (← c.p.view_is, ← c.self.view_is) c.insert.ensures.old) (rw (← c.self.view_is) c.insert.ensures.len)

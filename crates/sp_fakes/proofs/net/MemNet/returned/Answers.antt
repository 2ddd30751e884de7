use Rattle.std.proofs.Common.{◌≡◌, ℕ, true, cond, eqb, Some, sym, ap, ◌∙◌, arith}
use Rattle.std.specs.FinMap.{find, get-from_entries}
use Rattle.std.specs.Ordering.{nat_cmp, eq_by_cmp, is_eq}
use Rattle.std.specs.Cmp.{nat_cmp_total}
use Rattle.std.specs.declared.cmp.Ordering.TheVariants.{Less, Equal, Greater}
use Rattle.std.proofs.lemmas.Bool.{le-ltb, eq-eqb}
use Rattle.sp_fakes.specs.declared.net.Returned.{Returned}
use Rattle.sp_fakes.specs.MemLinks.{link_view}
use Rattle.sp_fakes.specs.Nets.{returned_entries}
use Rattle.sp_fakes.proofs.net.MemNet.returned.Goals as goal

same_number : (q n : ℕ) → q ≡ n → eq_by_cmp nat_cmp q n ≡ true
same_number q n e =
    ap (λ b. is_eq (cond b Less (cond (eqb q n) Equal Greater))) (le-ltb q n (omega (arith, e)))
    ∙ ap (λ b. is_eq (cond b Equal Greater)) (eq-eqb q n e)

pub returns-then-place-clause-found : goal.returns-then-place-clause-found
returns-then-place-clause-found c =
    let at : c.args.place ≡ c.in-More.link.number = sym c.if-place.true ∙ c.place.ensures in
    get-from_entries nat_cmp_total (returned_entries c.args.self.now.returned) c.args.place ∙ sym c.loop-rest.invariant
    ∙ ap (λ (r : Returned). find nat_cmp c.args.place (returned_entries r)) c.in-More.is
    ∙ ap (λ b. cond b (Some (link_view c.in-More.link)) (find nat_cmp c.args.place (returned_entries c.in-More.below.value))) (same_number c.args.place c.in-More.link.number at)

pub returns-clause-none : goal.returns-clause-none
returns-clause-none c =
    get-from_entries nat_cmp_total (returned_entries c.args.self.now.returned) c.args.place ∙ sym c.loop-rest.invariant
    ∙ ap (λ (r : Returned). find nat_cmp c.args.place (returned_entries r)) c.in_default.is

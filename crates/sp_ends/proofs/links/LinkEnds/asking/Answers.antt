use Rattle.std.proofs.Common.{◌≡◌, ◌+◌, ◌≤◌, ℕ, Some, refl, sym, ap, subst, ◌∙◌, arith, min, slice_get, IfOk}
use Rattle.std.specs.Prelude.{◌^◌, ◌-◌}
use Rattle.sp_base.specs.Addresses.{scheme_of}
use Rattle.sp_base.specs.declared.addr.Scheme.{Scheme}
use Rattle.sp_links.specs.Origins.{asking}
use Rattle.sp_ends.specs.declared.dialer.Dialer.{Dialer}
use Rattle.sp_ends.specs.EndViews.{LinkEndsView}
use Rattle.sp_ends.specs.EndsTurns.{asked_after}
use Rattle.sp_ends.proofs.ListReads.{at_index}
use Rattle.sp_ends.proofs.links.LinkEnds.asking.Goals as goal

some_dialer : {a b : Dialer} → Some a ≡ Some b → a ≡ b
some_dialer e = cc

start_is : (dice asked start : ℕ) → dice ≤ 2 ^ 64 - 1 → start ≡ min (dice + asked) (2 ^ 64 - 1) → start ≡ dice + min asked (2 ^ 64 - 1 - dice)
start_is dice asked start fits e = omega (arith, fits, e)

pub returns-clause-way : goal.returns-clause-way
returns-clause-way g c =
    let now = c.args.self.now in
    let dice_is : c.self.inside.dice ≡ now.dice = ap (λ (e : LinkEndsView g.row.L.Denot). e.dice) c.self.view_is in
    let asked_is : c.self.inside.asked ≡ now.asked = ap (λ (e : LinkEndsView g.row.L.Denot). e.asked) c.self.view_is in
    let fits : now.dice ≤ 2 ^ 64 - 1 = omega (arith, dice_is, c.from.ensures, c.from.type_inv) in
    let there : slice_get now.dialers c.args.i ≡ Some c.index.result.now = at_index c.self.inside.dialers.items now.dialers c.args.i c.index.result.now (ap (λ (e : LinkEndsView g.row.L.Denot). e.dialers) c.self.view_is) c.requires.inside c.index.ensures in
    let start : c.saturating_add-start.result ≡ now.dice + min now.asked (2 ^ 64 - 1 - now.dice) = start_is now.dice now.asked c.saturating_add-start.result fits (omega (arith, dice_is, asked_is, c.from.ensures, c.saturating_add-start.ensures)) in (
      min now.asked (2 ^ 64 - 1 - now.dice),
      refl,
      λ d at. subst (λ (x : Dialer). IfOk c.asking-way.result (λ w. w ≡ asking x.addr (now.dice + min now.asked (2 ^ 64 - 1 - now.dice)))) (some_dialer (sym there ∙ at))
          (subst (λ (n : ℕ). IfOk c.asking-way.result (λ w. w ≡ asking c.index.result.now.addr n)) start c.asking-way.ensures),
    )

pub returns-clause-asked : goal.returns-clause-asked
returns-clause-asked g c d at =
    let now = c.args.self.now in
    let there : slice_get now.dialers c.args.i ≡ Some c.index-2.result.now = at_index c.self.inside.dialers.items now.dialers c.args.i c.index-2.result.now (ap (λ (e : LinkEndsView g.row.L.Denot). e.dialers) c.self.view_is) c.requires.inside c.index-2.ensures in
    let scheme : c.scheme.result ≡ scheme_of d.addr = c.scheme.ensures ∙ ap (λ (x : Dialer). scheme_of x.addr) (some_dialer (sym there ∙ at)) in
    c.asked_after-self-inside.ensures ∙ ap (λ (s : Scheme). asked_after s c.self.inside.asked) scheme ∙ ap (λ (e : LinkEndsView g.row.L.Denot). asked_after (scheme_of d.addr) e.asked) c.self.view_is

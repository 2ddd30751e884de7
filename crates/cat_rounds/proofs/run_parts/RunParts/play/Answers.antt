use Rattle.std.proofs.Common.{rules, ◌≡◌, arith}
use Rattle.cat_rounds.specs.declared.player.PlayEnd.TheVariants as overs
use Rattle.cat_rounds.proofs.Opened.{running_in}
use Rattle.cat_rounds.proofs.Rounding.{free_at_end}
use Rattle.cat_rounds.proofs.run_parts.RunParts.play.Goals as goal

pub returns-then-ne-clause-went : goal.returns-then-ne-clause-went
returns-then-ne-clause-went g c =
    let r = running_in _ _ c.self.view_is c.self.invariant in
    let p = c.sweeps.self.player in
    let n : p.over ≡ overs.Open → ⊥ = search rules in
    (free_at_end c.sweeps.self.single.setting c.sweeps.self.single.seen p r.play n, n)

pub returns-clause-moved : goal.returns-clause-moved
returns-clause-moved g c = omega (arith, c.sweeps.invariant.many, c.sweeps-test.false)

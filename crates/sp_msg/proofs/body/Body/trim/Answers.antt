use Rattle.std.proofs.Common.{◌≤◌, ◌-◌, ℕ, List, length, drop, arith}
use Rattle.std.specs.Arc.{arc_value}
use Rattle.std.specs.Prelude.{slice_range}
use Rattle.std.proofs.lemmas.List.{length-take}
use Rattle.sp_msg.proofs.Parts.{trimmed}
use Rattle.sp_msg.proofs.body.Body.trim.Goals as goal

pub returns : goal.returns
returns c =
    let s : List ℕ = (arc_value c.self.inside.block).items in
    let from : ℕ = c.self.inside.from in
    let to : ℕ = c.self.inside.to in
    let fits : c.args.n ≤ length (slice_range s from to) = rw c.self.view_is c.requires in
    rw (← c.self.view_is) (trimmed from to c.args.n s (omega (arith, c.self.invariant, length-take (to - from) (drop from s), fits)))

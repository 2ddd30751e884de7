use Rattle.std.proofs.Common.{ℕ, List}
use Rattle.std.specs.Arc.{arc_value}
use Rattle.std.proofs.lemmas.Result.{err_from_is_err_and}
use Rattle.sp_msg.proofs.Parts.{same_part, part_append}
use Rattle.sp_msg.proofs.body.Body.append.Goals as goal

pub returns-in_err-extended-clause-err : goal.returns-in_err-extended-clause-err
returns-in_err-extended-clause-err c =
    let s : List ℕ = (arc_value c.self.inside.block).items in
    let t : List ℕ = (arc_value c.extended.new.block).items in
    let p = err_from_is_err_and c.from_residual-in_err-extended.result c.from_residual-in_err-extended.ensures.1 in
    rw (p.1, ← c.self.view_is) (same_part c.self.inside.from c.self.inside.to s t c.self.invariant.0 c.in_err-extended.ensures.err)

pub returns-then-branch-clause-ok : goal.returns-then-branch-clause-ok
returns-then-branch-clause-ok c =
    let s : List ℕ = (arc_value c.self.inside.block).items in
    let t : List ℕ = (arc_value c.extended.new.block).items in
    let is = c.in_ok-extended.ensures.ok.0 c.if-branch.true in
    rw (← c.self.view_is) (part_append c.self.inside.from c.self.inside.to s t c.args.piece.now c.self.invariant.0 c.self.invariant.1 is)

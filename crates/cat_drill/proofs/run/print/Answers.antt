use Rattle.std.proofs.Common.{◌∙◌, subst}
use Rattle.sp_base.specs.Steps.{AfterPut}
use Rattle.sp_base.specs.declared.outside.Sunk.TheVariants.{Failed}
use Rattle.cat_drill.proofs.EndOfDrill.{failed}
use Rattle.cat_drill.proofs.run.print.Goals as goal

pub returns : goal.returns
returns g c = failed _ _ c.args.count (subst (λ piece. AfterPut Failed piece (g.S.Sink.seen c.args.out.now) (g.S.Sink.seen c.put.new.self)) (c.as_slice.ensures.value ∙ c.in-Ok.ensures) c.in-Failed.ensures)

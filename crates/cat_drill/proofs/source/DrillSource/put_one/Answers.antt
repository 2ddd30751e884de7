use Rattle.std.proofs.Common.{sym, subst, ◌∙◌, arith}
use Rattle.cat_drill.specs.DrillWires.{IsSource}
use Rattle.cat_drill.proofs.Sourcing.{source_more, source_same}
use Rattle.cat_drill.proofs.source.DrillSource.put_one.Goals as goal
use Rattle.cat_drill.proofs.source.DrillSource.put_one.Goals.{in-Full, in-Done}

pub returns-clause-source : goal.returns-clause-source
returns-clause-source g c = elim c.match-put.branch [
  | in-Full w ↦ subst IsSource (sym w.self-is) (source_same c.args.self.now c.put.new.self w.in-Full.ensures.after.1 c.requires.source)
  | in-Done w ↦ subst IsSource (sym w.self-is) (source_more c.args.self.now _ c.in_ok-m.m c.requires.source w.in-Done.ensures.after c.in_ok-m.ensures.header (c.in_ok-m.ensures.body ∙ c.to_be_bytes.ensures) c.next_value-value.ensures c.added-total.ensures (omega arith))
]

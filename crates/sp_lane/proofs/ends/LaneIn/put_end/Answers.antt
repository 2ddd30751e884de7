use Rattle.std.proofs.Common.{◌≡◌, sym, ap, ◌∙◌}
use Rattle.sp_lane.specs.Lanes.{InView, has_end}
use Rattle.sp_lane.specs.declared.item.LaneItem.TheVariants as items
use Rattle.sp_lane.specs.declared.item.PutEnd.TheVariants as put_ends
use Rattle.sp_lane.proofs.Counts.{end_snoc}
use Rattle.sp_lane.proofs.ends.LaneIn.put_end.Goals as goal
use Rattle.sp_lane.proofs.ends.LaneIn.put_end.Goals.{in-Ok, in-Err}

pub returns-clause-ended : goal.returns-clause-ended
returns-clause-ended g c = elim c.match-push.branch [
  | in-Ok w ↦ (λ _. ap (λ (v : InView). has_end v.put) w.in-Ok.ensures.is ∙ end_snoc c.args.self.now.put items.End c.requires)
  | in-Err w ↦ (λ e. let bad : put_ends.Full ≡ put_ends.Done = sym w.result-is ∙ e in cc)
]

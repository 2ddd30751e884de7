use Rattle.std.proofs.Common.{◌≡◌, ap, ◌∙◌}
use Rattle.aio_expire.specs.Schedule.{Schedule, is_of, count_of}
use Rattle.bench_core.proofs.LeftDeadlines.{none_left}
use Rattle.bench_core.proofs.deadlines.DueBench.put.Goals as goal

pub put-requires-clause-free : goal.put-requires-clause-free
put-requires-clause-free g c =
    let none = none_left (is_of c.args.slot) (g.D.Due.schedule c.args.self.now.deadlines).entries in
    ap (λ (s : Schedule). count_of c.args.slot s.entries) c.remove.ensures.rest ∙ none

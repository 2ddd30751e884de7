use Rattle.history_judge_past.proofs.frames.+back.Given as goal

abbrev pub decreases-back : goal.decreases-back
decreases-back l = l.hops

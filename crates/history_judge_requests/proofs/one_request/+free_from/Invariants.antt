use Rattle.history_judge_requests.proofs.one_request.+free_from.Given as goal

abbrev pub decreases-free_from : goal.decreases-free_from
decreases-free_from l = l.tries

use Rattle.proto_survey.proofs.survey.+free_number.Given as goal

abbrev pub decreases-free_number : goal.decreases-free_number
decreases-free_number l = l.tries

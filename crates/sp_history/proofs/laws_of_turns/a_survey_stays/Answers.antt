use Rattle.sp_history.proofs.Surveys.{survey_gone, survey_stays}
use Rattle.sp_history.proofs.laws_of_turns.a_survey_stays.Goals as goal

pub returns : goal.returns
returns c = record { gone = survey_gone; stays = survey_stays }

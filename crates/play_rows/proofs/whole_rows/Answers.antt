use Rattle.play_rows.proofs.Whole.{plays, stands, spent, late}
use Rattle.play_rows.proofs.whole_rows.Goals as goal

pub returns : goal.returns
returns c = record { plays = plays; stands = stands; spent = spent; late = late }

use Rattle.sp_base.proofs.MarkedShows.{text-unmarked, shows-unmarked}
use Rattle.sp_base.proofs.laws.tcp_has_no_mark.Goals as goal

pub returns-clause-text : goal.returns-clause-text
returns-clause-text c = text-unmarked

pub returns-clause-shows : goal.returns-clause-shows
returns-clause-shows c = shows-unmarked

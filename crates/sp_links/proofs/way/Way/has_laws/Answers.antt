use Rattle.sp_links.proofs.Later.{stays_good, stays_bad, never_both, owes_one_text, owes_no_more}
use Rattle.sp_links.proofs.way.Way.has_laws.Goals as goal

pub returns-clause-good : goal.returns-clause-good
returns-clause-good c = stays_good

pub returns-clause-bad : goal.returns-clause-bad
returns-clause-bad c = stays_bad

pub returns-clause-apart : goal.returns-clause-apart
returns-clause-apart c = never_both

pub returns-clause-owes : goal.returns-clause-owes
returns-clause-owes c = owes_one_text

pub returns-clause-no_more : goal.returns-clause-no_more
returns-clause-no_more c = owes_no_more

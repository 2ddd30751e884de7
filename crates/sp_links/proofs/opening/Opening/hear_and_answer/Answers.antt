use Rattle.sp_links.specs.declared.opening.Progress.TheVariants as progress
use Rattle.sp_links.proofs.OpeningTries.{heard_to, answered}
use Rattle.sp_links.proofs.opening.Opening.hear_and_answer.Goals as goal

pub returns-in-Opened-clause-opened : goal.returns-in-Opened-clause-opened
returns-in-Opened-clause-opened g c = answered g.L.Link.seen c.say.result c.args.self.now c.hear.new.self c.say.new.self c.in-Opened.ensures.heard c.in-Opened.ensures.later c.say.ensures.said

pub returns-in-Waits-clause-opened : goal.returns-in-Waits-clause-opened
returns-in-Waits-clause-opened g c = heard_to g.L.Link.seen progress.Waits c.args.self.now c.hear.new.self c.in-Waits.ensures.heard (λ e. cc e)

pub returns-in-Ended-clause-opened : goal.returns-in-Ended-clause-opened
returns-in-Ended-clause-opened g c = heard_to g.L.Link.seen progress.Ended c.args.self.now c.hear.new.self c.in-Ended.ensures.heard (λ e. cc e)

pub returns-in-Failed-clause-opened : goal.returns-in-Failed-clause-opened
returns-in-Failed-clause-opened g c = heard_to g.L.Link.seen progress.Failed c.args.self.now c.hear.new.self c.in-Failed.ensures.heard (λ e. cc e)

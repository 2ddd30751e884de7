use Rattle.sp_links.specs.declared.opening.Progress.TheVariants as progress
use Rattle.sp_links.proofs.OpeningTries.{said_to}
use Rattle.sp_links.proofs.opening.Opening.greet.Goals as goal

pub returns-in-Waits-clause-opened : goal.returns-in-Waits-clause-opened
returns-in-Waits-clause-opened g c = said_to g.L.Link.seen progress.Waits c.args.self.now c.say.new.self c.in-Waits.ensures.said (λ e. cc e)

pub returns-in-Failed-clause-opened : goal.returns-in-Failed-clause-opened
returns-in-Failed-clause-opened g c = said_to g.L.Link.seen progress.Failed c.args.self.now c.say.new.self c.in-Failed.ensures.said (λ e. cc e)

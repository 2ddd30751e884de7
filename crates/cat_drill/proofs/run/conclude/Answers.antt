use Rattle.std.proofs.Common.{◌≡◌, subst}
use Rattle.std.specs.Prelude.{◌%◌, ◌^◌, IfSome}
use Rattle.std.specs.List.{sum}
use Rattle.cat_play.specs.Drilling.{values, GivesAll}
use Rattle.cat_drill.proofs.EndOfDrill.{drilled, undrilled}
use Rattle.cat_drill.proofs.run.conclude.Goals as goal

pub returns-in-None-clause-ends : goal.returns-in-None-clause-ends
returns-in-None-clause-ends g c = λ net files pace. undrilled net files pace c.args.count c.args.record_.turns (g.S.Sink.seen c.args.out.now) c.requires.drills

pub returns-in-Some-clause-ends : goal.returns-in-Some-clause-ends
returns-in-Some-clause-ends g c = λ net files pace. drilled net files pace c.print-status.result c.args.count c.args.record_.turns (g.S.Sink.seen c.args.out.now) (g.S.Sink.seen c.print-status.new.out) c.requires.drills (subst (λ o. IfSome o (λ n. GivesAll c.args.count c.args.record_.turns × (n ≡ sum (values c.args.count) % 2 ^ 64))) c.in-Some.is c.requires.all).0 c.print-status.ensures

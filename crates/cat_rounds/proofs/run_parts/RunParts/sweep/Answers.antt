use Rattle.std.proofs.Common.{◌∙◌, ap, false}
use Rattle.cat_rounds.specs.declared.rounds.Going.TheVariants as goings
use Rattle.cat_rounds.proofs.Opened.{running_of, at_of, stands_in}
use Rattle.cat_rounds.proofs.Rounding.{ServedOnce, serve_along, goes_then, serve_knows}
use Rattle.cat_rounds.proofs.Resting.{at_rest, rests_is, swept_more}
use Rattle.cat_rounds.proofs.run_parts.RunParts.sweep.Given.{Over}
use Rattle.cat_rounds.proofs.run_parts.RunParts.sweep.Goals.{After-serve-served}
use Rattle.cat_rounds.proofs.run_parts.RunParts.sweep.Goals as goal

-- what the serve left
first : (g : Over) (c : After-serve-served g) → ServedOnce c.self.inside.single c.serve-served.new.self c.self.inside.player (g.S.Sink.seen c.args.out.now) c.args.now
first g c =
    serve_along c.serve-served.result c.self.inside.single c.serve-served.new.self c.self.inside.player (g.S.Sink.seen c.args.out.now) c.args.now c.serve-served.ensures.turn (stands_in _ _ c.args.now c.self.view_is c.self.invariant c.requires.at)

pub invariant_of-self : goal.invariant_of-self
invariant_of-self g c =
    running_of c.serve-served.new.self c.self.inside.player c.args.now (first g (goal.at.invariant_of-self g c).After-serve-served).stands

pub steps-requires-clause-at : goal.steps-requires-clause-at
steps-requires-clause-at g c =
    at_of c.serve-served.new.self c.self.inside.player c.args.now (first g (goal.at.steps-requires-clause-at g c).After-serve-served).stands

pub steps-requires-clause-served : goal.steps-requires-clause-served
steps-requires-clause-served g c = (first g (goal.at.steps-requires-clause-served g c).After-serve-served).served

pub steps-requires-clause-pipes : goal.steps-requires-clause-pipes
steps-requires-clause-pipes g c =
    serve_knows c.serve-served.result c.self.inside.single c.serve-served.new.self c.self.inside.player c.serve-served.ensures.turn

pub returns-then-went-clause-goes_on : goal.returns-then-went-clause-goes_on
returns-then-went-clause-goes_on g c =
    let was = (first g (goal.at.returns-then-went-clause-goes_on g c).After-serve-served).along in
    rw (← c.self.view_is) (goes_then c.self.inside.single c.serve-served.new.self c.steps.new.self.single was.goes_on c.steps.ensures.goes_on)

pub returns-then-went-clause-printed : goal.returns-then-went-clause-printed
returns-then-went-clause-printed g c =
    let was = (first g (goal.at.returns-then-went-clause-printed g c).After-serve-served).along in
    rw (← c.self.view_is) (λ before h. c.in-Rests.ensures.printed before (was.printed before h))

pub returns-then-went-clause-turns : goal.returns-then-went-clause-turns
returns-then-went-clause-turns g c =
    rw (← c.self.view_is) (swept_more c.serve-served.result c.self.inside.single c.serve-served.new.self c.steps.new.self.single c.serve-served.ensures.turn c.steps.ensures.goes_on)

pub returns-then-went-clause-same : goal.returns-then-went-clause-same
returns-then-went-clause-same g c = rw (← c.self.view_is) c.steps.ensures.same

pub returns-then-went-clause-names : goal.returns-then-went-clause-names
returns-then-went-clause-names g c = rw (← c.self.view_is) c.steps.ensures.names

pub returns-else-went-clause-goes_on : goal.returns-else-went-clause-goes_on
returns-else-went-clause-goes_on g c =
    let was = (first g (goal.at.returns-else-went-clause-goes_on g c).After-serve-served).along in
    rw (← c.self.view_is) (goes_then c.self.inside.single c.serve-served.new.self c.steps.new.self.single was.goes_on c.steps.ensures.goes_on)

pub returns-else-went-clause-printed : goal.returns-else-went-clause-printed
returns-else-went-clause-printed g c =
    let was = (first g (goal.at.returns-else-went-clause-printed g c).After-serve-served).along in
    rw (← c.self.view_is) (λ before h. c.in-Rests.ensures.printed before (was.printed before h))

pub returns-else-went-clause-turns : goal.returns-else-went-clause-turns
returns-else-went-clause-turns g c =
    rw (← c.self.view_is) (swept_more c.serve-served.result c.self.inside.single c.serve-served.new.self c.steps.new.self.single c.serve-served.ensures.turn c.steps.ensures.goes_on)

pub returns-else-went-clause-same : goal.returns-else-went-clause-same
returns-else-went-clause-same g c = rw (← c.self.view_is) c.steps.ensures.same

pub returns-else-went-clause-names : goal.returns-else-went-clause-names
returns-else-went-clause-names g c = rw (← c.self.view_is) c.steps.ensures.names

pub returns-in-Over-clause-goes_on : goal.returns-in-Over-clause-goes_on
returns-in-Over-clause-goes_on g c =
    let was = (first g (goal.at.returns-in-Over-clause-goes_on g c).After-serve-served).along in
    rw (← c.self.view_is) (goes_then c.self.inside.single c.serve-served.new.self c.steps.new.self.single was.goes_on c.steps.ensures.goes_on)

pub returns-in-Over-clause-printed : goal.returns-in-Over-clause-printed
returns-in-Over-clause-printed g c =
    let was = (first g (goal.at.returns-in-Over-clause-printed g c).After-serve-served).along in
    rw (← c.self.view_is) (λ before h. c.in-Over.ensures.printed before (was.printed before h))

pub returns-in-Over-clause-turns : goal.returns-in-Over-clause-turns
returns-in-Over-clause-turns g c =
    rw (← c.self.view_is) (swept_more c.serve-served.result c.self.inside.single c.serve-served.new.self c.steps.new.self.single c.serve-served.ensures.turn c.steps.ensures.goes_on)

pub returns-in-Over-clause-same : goal.returns-in-Over-clause-same
returns-in-Over-clause-same g c = rw (← c.self.view_is) c.steps.ensures.same

pub returns-in-Over-clause-names : goal.returns-in-Over-clause-names
returns-in-Over-clause-names g c = rw (← c.self.view_is) c.steps.ensures.names

pub returns-in-OutFault-clause-goes_on : goal.returns-in-OutFault-clause-goes_on
returns-in-OutFault-clause-goes_on g c =
    let was = (first g (goal.at.returns-in-OutFault-clause-goes_on g c).After-serve-served).along in
    rw (← c.self.view_is) (goes_then c.self.inside.single c.serve-served.new.self c.steps.new.self.single was.goes_on c.steps.ensures.goes_on)

pub returns-in-OutFault-clause-printed : goal.returns-in-OutFault-clause-printed
returns-in-OutFault-clause-printed g c =
    let was = (first g (goal.at.returns-in-OutFault-clause-printed g c).After-serve-served).along in
    rw (← c.self.view_is) (λ before h. c.in-OutFault.ensures.printed before (was.printed before h))

pub returns-in-OutFault-clause-turns : goal.returns-in-OutFault-clause-turns
returns-in-OutFault-clause-turns g c =
    rw (← c.self.view_is) (swept_more c.serve-served.result c.self.inside.single c.serve-served.new.self c.steps.new.self.single c.serve-served.ensures.turn c.steps.ensures.goes_on)

pub returns-in-OutFault-clause-same : goal.returns-in-OutFault-clause-same
returns-in-OutFault-clause-same g c = rw (← c.self.view_is) c.steps.ensures.same

pub returns-in-OutFault-clause-names : goal.returns-in-OutFault-clause-names
returns-in-OutFault-clause-names g c = rw (← c.self.view_is) c.steps.ensures.names

pub returns-in-NoMemory-clause-goes_on : goal.returns-in-NoMemory-clause-goes_on
returns-in-NoMemory-clause-goes_on g c =
    let was = (first g (goal.at.returns-in-NoMemory-clause-goes_on g c).After-serve-served).along in
    rw (← c.self.view_is) (goes_then c.self.inside.single c.serve-served.new.self c.steps.new.self.single was.goes_on c.steps.ensures.goes_on)

pub returns-in-NoMemory-clause-printed : goal.returns-in-NoMemory-clause-printed
returns-in-NoMemory-clause-printed g c =
    let was = (first g (goal.at.returns-in-NoMemory-clause-printed g c).After-serve-served).along in
    rw (← c.self.view_is) (λ before h. c.in-NoMemory.ensures.printed before (was.printed before h))

pub returns-in-NoMemory-clause-turns : goal.returns-in-NoMemory-clause-turns
returns-in-NoMemory-clause-turns g c =
    rw (← c.self.view_is) (swept_more c.serve-served.result c.self.inside.single c.serve-served.new.self c.steps.new.self.single c.serve-served.ensures.turn c.steps.ensures.goes_on)

pub returns-in-NoMemory-clause-same : goal.returns-in-NoMemory-clause-same
returns-in-NoMemory-clause-same g c = rw (← c.self.view_is) c.steps.ensures.same

pub returns-in-NoMemory-clause-names : goal.returns-in-NoMemory-clause-names
returns-in-NoMemory-clause-names g c = rw (← c.self.view_is) c.steps.ensures.names

pub returns-else-went-clause-still : goal.returns-else-went-clause-still
returns-else-went-clause-still g c e =
    let nothing = ap goings.Rests c.if-went.false in
    at_rest c.serve-served.result c.self.inside.single c.serve-served.new.self c.steps.new.self.single c.serve-served.ensures.turn (rests_is c.serve-served.result.moved false e) c.steps.ensures.goes_on (c.steps.ensures.kept (c.in-Rests.is ∙ nothing))

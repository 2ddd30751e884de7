use Rattle.std.proofs.Common.{◌∙◌, sym, ap}
use Rattle.proto_requests.proofs.Positions.{found_at, not_found, with_at, with_none}
use Rattle.proto_survey.specs.Lives.{is_live_on, given_from, first_in}
use Rattle.proto_survey.proofs.survey.give.Goals as goal

pub returns-in-None-clause-given : goal.returns-in-None-clause-given
returns-in-None-clause-given c = sym (ap first_in (not_found (is_live_on c.args.c) c.args.live.now (sym c.in-None.ensures)))

pub returns-in-None-clause-rest : goal.returns-in-None-clause-rest
returns-in-None-clause-rest c = with_none (is_live_on c.args.c) given_from c.args.live.now (not_found (is_live_on c.args.c) c.args.live.now (sym c.in-None.ensures))

pub returns-in-Some-clause-given : goal.returns-in-Some-clause-given
returns-in-Some-clause-given c = c.give.ensures.given ∙ sym (ap first_in (found_at (is_live_on c.args.c) c.args.live.now c.in-Some.i c.index-live-i.result (sym c.in-Some.ensures)))

pub returns-in-Some-clause-rest : goal.returns-in-Some-clause-rest
returns-in-Some-clause-rest c = rw c.give.ensures.rest (with_at (is_live_on c.args.c) given_from c.args.live.now c.in-Some.i c.index-live-i.result (sym c.in-Some.ensures))

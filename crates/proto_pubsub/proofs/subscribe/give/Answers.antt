use Rattle.std.proofs.Common.{◌∙◌, sym, ap}
use Rattle.proto_pubsub.specs.SubContexts.{is_of_context, given_from, first_in}
use Rattle.proto_pubsub.proofs.SubContexts.{found_at, not_found, with_at, with_none}
use Rattle.proto_pubsub.proofs.subscribe.give.Goals as goal

pub returns-in-None-clause-given : goal.returns-in-None-clause-given
returns-in-None-clause-given c = λ o. sym (ap first_in (not_found (is_of_context c.args.c) c.args.contexts.now (sym (c.in-None.ensures.place o))))

pub returns-in-None-clause-rest : goal.returns-in-None-clause-rest
returns-in-None-clause-rest c = λ o. with_none (is_of_context c.args.c) given_from c.args.contexts.now (not_found (is_of_context c.args.c) c.args.contexts.now (sym (c.in-None.ensures.place o)))

pub returns-in-Some-clause-given : goal.returns-in-Some-clause-given
returns-in-Some-clause-given c = λ o. c.give.ensures.given ∙ sym (ap first_in (found_at (is_of_context c.args.c) c.args.contexts.now c.in-Some.i c.index-contexts-i.result (sym (c.in-Some.ensures.place o))))

pub returns-in-Some-clause-rest : goal.returns-in-Some-clause-rest
returns-in-Some-clause-rest c = λ o. rw c.give.ensures.rest (with_at (is_of_context c.args.c) given_from c.args.contexts.now c.in-Some.i c.index-contexts-i.result (sym (c.in-Some.ensures.place o)))

use Rattle.std.proofs.Common.{sym, refl}
use Rattle.proto_pubsub.specs.SubContexts.{is_of_context}
use Rattle.proto_pubsub.proofs.SubContexts.{found_at, not_found, switch_one, one_off}
use Rattle.proto_pubsub.proofs.subscribe.switch.Goals as goal

pub returns-in-None-clause-switched : goal.returns-in-None-clause-switched
returns-in-None-clause-switched c = λ o. rw (not_found (is_of_context c.args.c) c.args.contexts.now (sym (c.in-None.ensures.place o))) (refl, refl)

pub returns-in-Some-clause-switched : goal.returns-in-Some-clause-switched
returns-in-Some-clause-switched c = λ o.
    rw (found_at (is_of_context c.args.c) c.args.contexts.now c.in-Some.i c.index-contexts-i.result (sym (c.in-Some.ensures.place o)))
    (switch_one c.switch.result c.args.c c.args.contexts.now c.in-Some.i c.index-contexts-i.result c.switch.new.self c.args.t.now c.args.on (sym (c.in-Some.ensures.place o)) c.switch.ensures)

pub returns-in-Some-clause-off : goal.returns-in-Some-clause-off
returns-in-Some-clause-off c = λ e. one_off c.switch.result _ c.switch.new.self c.args.t.now c.args.on e c.switch.ensures

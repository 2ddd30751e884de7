use Rattle.std.proofs.Common.{◌≡◌, ◌∙◌, sym, ap, rules, slice_index_or}
use Rattle.std.specs.Prelude.{not}
use Rattle.proto_pubsub.specs.SubContexts.{SubContextView, is_of_context}
use Rattle.sp_history.specs.Lists.{is_nil}
use Rattle.proto_pubsub.specs.Subs.{is_kept}
use Rattle.proto_pubsub.proofs.SubContexts.{found_at, not_found}
use Rattle.proto_pubsub.proofs.subscribe.keeps_for.Goals as goal

pub returns-in-None : goal.returns-in-None
returns-in-None c = λ o. sym (ap is_kept (not_found (is_of_context c.args.c) c.args.contexts.now (sym (c.in-None.ensures.place o))))

pub returns-in-Some : goal.returns-in-Some
returns-in-Some c = λ o.
    let at : c.index-contexts-i.result ≡ slice_index_or c.args.contexts.now c.in-Some.i c.index-contexts-i.result = search rules in
    ap not c.is_empty.ensures ∙ ap (λ (x : SubContextView). not (is_nil x.kept)) at ∙ sym (ap is_kept (found_at (is_of_context c.args.c) c.args.contexts.now c.in-Some.i c.index-contexts-i.result (sym (c.in-Some.ensures.place o))))

use Rattle.std.proofs.Common.{◌∙◌, ap, arith, length}
use Rattle.proto_pubsub.specs.SubContexts.{is_of_context}
use Rattle.proto_pubsub.proofs.SubContexts.{not_found}
use Rattle.proto_pubsub.proofs.ContextsByNumber.{here, shut_none, shut_at}
use Rattle.proto_pubsub.proofs.subscribe.shut.Goals as goal

pub returns-in-None : goal.returns-in-None
returns-in-None c = λ o.
    let xs = c.args.contexts.now.items in
    shut_none c.args.c xs (not_found (is_of_context c.args.c) xs (here (is_of_context c.args.c) xs c.deref.result.now _ c.deref.ensures.value o c.in-None.ensures.place))

pub returns-in-Some : goal.returns-in-Some
returns-in-Some c = λ o.
    let xs = c.args.contexts.now.items in
    c.remove.ensures.items ∙ shut_at c.args.c xs c.in-Some.i c.remove.result o (here (is_of_context c.args.c) xs c.deref.result.now _ c.deref.ensures.value o c.in-Some.ensures.place)

pub remove-requires : goal.remove-requires
remove-requires c = omega (arith, c.in-Some.ensures.inside, ap length c.deref.ensures.value, c.args.contexts.now.ok.0)

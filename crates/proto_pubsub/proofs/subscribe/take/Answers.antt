use Rattle.std.proofs.Common.{◌∙◌, sym, ap, Some}
use Rattle.std.proofs.lemmas.List.Quantifiers.{position-Some}
use Rattle.proto_pubsub.specs.declared.subscribe.WaitingReceive.{WaitingReceive}
use Rattle.proto_pubsub.specs.Subs.{is_for}
use Rattle.proto_pubsub.proofs.SubContexts.{found_at, not_found}
use Rattle.proto_pubsub.proofs.SearchedReceives.{less_before}
use Rattle.proto_pubsub.proofs.ReceivesLeft.{without_none, without_at}
use Rattle.proto_pubsub.proofs.subscribe.take.Goals as goal

pub returns-in-None-clause-found : goal.returns-in-None-clause-found
returns-in-None-clause-found c = sym (not_found (is_for c.args.op) c.args.waiting.now.items (sym c.in-None.ensures))

pub returns-in-None-clause-rest : goal.returns-in-None-clause-rest
returns-in-None-clause-rest c = without_none c.args.op c.args.waiting.now.items (not_found (is_for c.args.op) c.args.waiting.now.items (sym c.in-None.ensures))

pub returns-in-Some-remove-clause-found : goal.returns-in-Some-remove-clause-found
returns-in-Some-remove-clause-found c =
    sym (found_at (is_for c.args.op) c.args.waiting.now.items c.in-Some.i c.in-Some-remove.w (sym c.in-Some.ensures) ∙ ap (λ (w : WaitingReceive). Some w) (sym c.in-Some-remove.ensures.value))

pub returns-in-Some-remove-clause-rest : goal.returns-in-Some-remove-clause-rest
returns-in-Some-remove-clause-rest c = c.in-Some-remove.ensures.items ∙ without_at c.args.op c.args.waiting.now.items c.in-Some.i c.in-Some-remove.w (sym c.in-Some.ensures)

pub returns-in-None-clause-looked : goal.returns-in-None-clause-looked
returns-in-None-clause-looked c = λ P h. h

pub returns-in-Some-remove-clause-looked : goal.returns-in-Some-remove-clause-looked
returns-in-Some-remove-clause-looked c =
    λ P h.
    let at = position-Some (is_for c.args.op) c.args.waiting.now.items c.in-Some.i c.in-Some-remove.w (sym c.in-Some.ensures) in
    less_before P c.args.waiting.now.items _ c.in-Some.i c.args.looked.now c.moved.result at.0 c.moved.ensures.before c.moved.ensures.behind c.in-Some-remove.ensures.items h

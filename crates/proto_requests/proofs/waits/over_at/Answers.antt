use Rattle.std.proofs.Common.{◌∙◌, sym, ap, cond, Option, Some, None}
use Rattle.sp_base.specs.declared.OpName.{OpName}
use Rattle.proto_requests.specs.Waits.{over_name}
use Rattle.proto_requests.proofs.Spotted.{not_there, found_there}
use Rattle.proto_requests.proofs.waits.over_at.Goals as goal

pub returns-in-None : goal.returns-in-None
returns-in-None g c = λ P h. let W = g.T.Waiter in sym (ap (over_name W.name_of W.is_left) (not_there P c.args.list.now (sym h ∙ c.in-None.is)))

pub returns-in-None-value : goal.returns-in-None-value
returns-in-None-value g c = λ P h. let W = g.T.Waiter in sym (ap (over_name W.name_of W.is_left) (found_there P c.args.list.now c.in-Some.i c.index-list-i.result (sym h ∙ c.in-Some.is) ∙ c.in-None-value.is))

pub returns-then-is_over : goal.returns-then-is_over
returns-then-is_over g c = λ P h.
    let W = g.T.Waiter in
    let n = W.name_of c.in-Some-value.x in
    ap (λ (n : OpName). Some n) c.op.ensures
    ∙ sym (ap (over_name W.name_of W.is_left) (found_there P c.args.list.now c.in-Some.i c.index-list-i.result (sym h ∙ c.in-Some.is) ∙ c.in-Some-value.is) ∙ ap (λ b. cond {A = Option OpName} b (Some n) None) (sym c.is_over.ensures ∙ c.if-is_over.true))

pub returns-else-is_over : goal.returns-else-is_over
returns-else-is_over g c = λ P h.
    let W = g.T.Waiter in
    let n = W.name_of c.in-Some-value.x in
    sym (ap (over_name W.name_of W.is_left) (found_there P c.args.list.now c.in-Some.i c.index-list-i.result (sym h ∙ c.in-Some.is) ∙ c.in-Some-value.is) ∙ ap (λ b. cond {A = Option OpName} b (Some n) None) (sym c.is_over.ensures ∙ c.if-is_over.false))

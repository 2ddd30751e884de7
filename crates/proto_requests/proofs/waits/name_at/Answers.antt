use Rattle.std.proofs.Common.{◌∙◌, sym, ap, Some}
use Rattle.sp_base.specs.declared.OpName.{OpName}
use Rattle.std.specs.Option.{option_map}
use Rattle.proto_requests.proofs.Spotted.{not_there, found_there}
use Rattle.proto_requests.proofs.waits.name_at.Goals as goal

pub returns-in-None : goal.returns-in-None
returns-in-None g c = λ P h. sym (ap (option_map g.T.Waiter.name_of) (not_there P c.args.list.now (sym h ∙ c.in-None.is)))

pub returns-in-None-value : goal.returns-in-None-value
returns-in-None-value g c = λ P h. sym (ap (option_map g.T.Waiter.name_of) (found_there P c.args.list.now c.in-Some.i c.index-list-i.result (sym h ∙ c.in-Some.is) ∙ c.in-None-value.is))

pub returns-in-Some-value : goal.returns-in-Some-value
returns-in-Some-value g c = λ P h.
    ap (λ (n : OpName). Some n) c.op.ensures ∙ sym (ap (option_map g.T.Waiter.name_of) (found_there P c.args.list.now c.in-Some.i c.index-list-i.result (sym h ∙ c.in-Some.is) ∙ c.in-Some-value.is))

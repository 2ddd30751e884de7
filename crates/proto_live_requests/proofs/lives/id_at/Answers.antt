use Rattle.std.proofs.Common.{◌∙◌, sym, ap}
use Rattle.std.specs.Option.{option_map}
use Rattle.proto_live_requests.specs.LiveRequests.{live_id}
use Rattle.proto_requests.proofs.Spotted.{not_there, found_there}
use Rattle.proto_live_requests.proofs.lives.id_at.Goals as goal

pub returns-in-None : goal.returns-in-None
returns-in-None c = λ P h. sym (ap (option_map live_id) (not_there P c.args.list.now (sym h ∙ c.in-None.is)))

pub returns-in-None-value : goal.returns-in-None-value
returns-in-None-value c = λ P h. sym (ap (option_map live_id) (found_there P c.args.list.now c.in-Some.i c.index-list-i.result (sym h ∙ c.in-Some.is) ∙ c.in-None-value.is))

pub returns-in-Some-value : goal.returns-in-Some-value
returns-in-Some-value c = λ P h. sym (ap (option_map live_id) (found_there P c.args.list.now c.in-Some.i c.index-list-i.result (sym h ∙ c.in-Some.is) ∙ c.in-Some-value.is))

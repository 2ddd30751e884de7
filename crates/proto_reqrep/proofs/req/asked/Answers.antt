use Rattle.std.proofs.Common.{◌≡◌, ◌∙◌, ap, Some, None, ◌++◌}
use Rattle.std.specs.Prelude.{option_map}
use Rattle.sp_history.specs.Lists.{word}
use Rattle.proto_live_requests.specs.LiveRequests.{live_id}
use Rattle.proto_reqrep.proofs.req.asked.Goals as goal

pub returns-in-None-clause-message : goal.returns-in-None-clause-message
returns-in-None-clause-message c = λ x f. let k : None ≡ Some x.id = c.in-None.ensures ∙ ap (option_map live_id) f in absurd cc

pub returns-in-Some-clause-message : goal.returns-in-Some-clause-message
returns-in-Some-clause-message c =
    λ x f.
    let k : Some c.in-Some.id ≡ Some x.id = c.in-Some.ensures ∙ ap (option_map live_id) f in
    let is : c.in-Some.id ≡ x.id = cc in
    c.led.ensures ∙ ap (λ n. word n ++ c.args.message.body) is

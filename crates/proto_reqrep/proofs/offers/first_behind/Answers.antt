use Rattle.std.proofs.Common.{◌∙◌, ap, sym}
use Rattle.std.specs.Prelude.{find, nat_lt}
use Rattle.sp_history.specs.Lists.{head_of}
use Rattle.proto_reqrep.proofs.Offering.{first_behind}
use Rattle.proto_reqrep.proofs.offers.first_behind.Goals as goal

pub returns-in-None : goal.returns-in-None
returns-in-None c = sym (ap head_of c.in-None.ensures.steps.0) ∙ ap head_of (c.range.ensures.between tt) ∙ first_behind c.last.inside.0 c.args.roomy.now.keys ∙ ap (λ n. find (nat_lt n) c.args.roomy.now.keys) c.last.view_is

pub returns-in-Some : goal.returns-in-Some
returns-in-Some c = sym (ap head_of c.in-Some.ensures.steps) ∙ ap head_of (c.range.ensures.between tt) ∙ first_behind c.last.inside.0 c.args.roomy.now.keys ∙ ap (λ n. find (nat_lt n) c.args.roomy.now.keys) c.last.view_is

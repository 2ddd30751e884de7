use Rattle.std.proofs.Common.{ap, ◌∙◌}
use Rattle.std.specs.Prelude.{find}
use Rattle.std.specs.Option.{option_map}
use Rattle.sp_history.specs.declared.parts.Orphan.{Orphan}
use Rattle.sp_history.specs.declared.parts.Requests.{Requests}
use Rattle.sp_history.specs.Lists.{same_op}
use Rattle.history_judge_requests.proofs.requests.how_ended.Goals as goal

pub returns : goal.returns
returns c =
    c.how_of.ensures ∙ ap (λ (rs : Requests). option_map (λ (o : Orphan). o.how) (find (λ (o : Orphan). same_op o.op c.args.op) rs.orphans)) c.in_ok-rs.ensures

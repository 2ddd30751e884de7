use Rattle.std.proofs.Common.{◌≡◌, ◌≤◌, ◌∙◌, Bool, ap, false, filter, subst, sym}
use Rattle.std.specs.List.{list_any}
use Rattle.proto_requests.specs.Spots.{held}
use Rattle.proto_rep.specs.Replies.{RepliesView, is_below, is_to}
use Rattle.proto_rep.proofs.KeyedReplies.{same_raw}
use Rattle.proto_rep.proofs.PassedReplies.{none_passed, none_to_pipe, lower_passed}
use Rattle.proto_rep.proofs.replies.WaitingReplies.pass_below.Goals as goal

pub returns-then-raw-self-clause-passed : goal.returns-then-raw-self-clause-passed
returns-then-raw-self-clause-passed c = λ P h. ap (list_any P) (none_passed c.self.inside.raw (held c.self.inside.list.items))

pub returns-then-raw-self-clause-none : goal.returns-then-raw-self-clause-none
returns-then-raw-self-clause-none c = ap (list_any (is_to c.args.raw c.args.p)) (none_passed c.self.inside.raw (held c.self.inside.list.items))

pub returns-clause-passed : goal.returns-clause-passed
returns-clause-passed c = λ P h.
    lower_passed c.self.inside.raw P c.self.inside.below c.lower-self-inside.result (held c.self.inside.list.items) c.lower-self-inside.ensures.one (ap (λ (v : RepliesView). list_any P v.passed) c.self.view_is ∙ h)

pub returns-clause-none : goal.returns-clause-none
returns-clause-none c =
    let at = subst (λ n. c.lower-self-inside.result ≤ n) c.key_of.ensures c.lower-self-inside.ensures.other in
    let e : c.self.inside.raw ≡ c.args.raw = sym (same_raw _ _ c.if-raw-self.false) in
    subst (λ (b : Bool). list_any (is_to b c.args.p) (filter (is_below c.self.inside.raw c.lower-self-inside.result) (held c.self.inside.list.items)) ≡ false) e (none_to_pipe c.self.inside.raw c.args.p c.lower-self-inside.result (held c.self.inside.list.items) at)

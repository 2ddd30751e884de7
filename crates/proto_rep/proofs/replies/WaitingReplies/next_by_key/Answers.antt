use Rattle.std.proofs.Common.{◌∙◌, ap}
use Rattle.std.specs.List.{list_any}
use Rattle.proto_requests.specs.Spots.{held}
use Rattle.proto_rep.specs.Replies.{RepliesView, can_leave}
use Rattle.proto_rep.proofs.KeyedReplies.{passed_on, its_first, same_raw}
use Rattle.proto_rep.proofs.replies.WaitingReplies.next_by_key.Goals as goal

pub returns-clause-stuck : goal.returns-clause-stuck
returns-clause-stuck c = λ s.
    let at = c.self.inside in
    passed_on c.args.raw at.raw c.args.ports.now.items at.below c.first_open-below.result.below at.index.keys (held at.list.items) (same_raw _ _ c.if-raw-self.false) c.first_open-below.ensures.full (c.self.invariant.by_key c.if-not-self.false).1
    (ap (λ (v : RepliesView). list_any (can_leave c.args.raw c.args.ports.now.items) v.passed) c.self.view_is ∙ s)

pub returns-clause-offer : goal.returns-clause-offer
returns-clause-offer c = λ s.
    let at = c.self.inside in
    let index = c.self.invariant.by_key c.if-not-self.false in
    its_first c.args.raw at.raw c.args.ports.now.items at.below c.first_open-below.result.below at.next at.index.keys (held at.list.items) (held c.deref.result.now) c.args.self.now.items c.first_open-below.result.first c.offer_first.result (same_raw _ _ c.if-raw-self.false) (ap held c.deref.ensures.value) (ap (λ (v : RepliesView). v.items) c.self.view_is)
    c.first_open-below.ensures.full c.first_open-below.ensures.first index.1 (c.self.invariant.order index.0) (ap (λ (v : RepliesView). list_any (can_leave c.args.raw c.args.ports.now.items) v.passed) c.self.view_is ∙ s) c.offer_first.ensures

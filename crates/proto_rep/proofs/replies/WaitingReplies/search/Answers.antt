use Rattle.std.proofs.Common.{ap}
use Rattle.proto_rep.specs.Replies.{RepliesView}
use Rattle.proto_rep.proofs.KeyedReplies.{searched_offer}
use Rattle.proto_rep.proofs.replies.WaitingReplies.search.Goals as goal

pub returns : goal.returns
returns c =
    searched_offer c.args.raw c.args.ports.now.items c.self.inside.list.items c.deref.result.now c.deref-2.result.now c.args.self.now.items c.leaving_place.result c.offer_at.result c.deref.ensures.value c.deref-2.ensures.value (ap (λ (v : RepliesView). v.items) c.self.view_is) c.leaving_place.ensures c.offer_at.ensures

use Rattle.std.proofs.Common.{◌∙◌, sym}
use Rattle.proto_rep.proofs.KeyedReplies.{its_offer}
use Rattle.proto_rep.proofs.replies.offer_by.Goals as goal

pub returns-then-is_leaving_at : goal.returns-then-is_leaving_at
returns-then-is_leaving_at c = λ next r.
    its_offer c.args.raw c.args.ports.now.items c.args.key c.args.n next c.hint-i.result c.args.list.now c.index-list-i.result c.offer_at.result r c.if-i-list.true c.index-list-i.is (sym c.is_leaving_at.ensures ∙ c.if-is_leaving_at.true) c.offer_at.ensures

use Rattle.std.proofs.Common.{refl, subst, None}
use Rattle.proto_requests.specs.Spots.{held}
use Rattle.proto_rep.specs.Replies.{IsLeast}
use Rattle.proto_rep.proofs.KeyedReplies.{keyed_offer, none_leaves}
use Rattle.proto_rep.proofs.replies.offer_first.Goals as goal

pub returns-in-None : goal.returns-in-None
returns-in-None c = λ below next ks l h r s. (None, none_leaves c.args.raw c.args.ports.now.items below ks (held c.args.list.now) (subst (IsLeast below ks) c.in-None.is l) h s, refl)

pub returns-in-Some : goal.returns-in-Some
returns-in-Some c = λ below next ks l h r s.
    keyed_offer c.args.raw c.args.ports.now.items below next ks c.in-Some.key c.in-Some.n (held c.args.list.now) c.offer_by.result (subst (IsLeast below ks) c.in-Some.is l) h r (c.offer_by.ensures next r)

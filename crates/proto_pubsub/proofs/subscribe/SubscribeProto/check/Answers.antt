use Rattle.std.proofs.Common.{◌≡◌, true, false, rules, subst, ◌∙◌}
use Rattle.std.specs.Prelude.{not, ◌||◌, ◌==◌}
use Rattle.sp_proto.specs.declared.Verb.TheVariants as verbs
use Rattle.proto_pubsub.proofs.Subscribed.{in_order, no_state, does_is, open_is, zero_is, cooked_is}
use Rattle.proto_pubsub.proofs.subscribe.SubscribeProto.check.Goals.{else-self-via-then-self+else-c-ne0, else-self-via-else-self}
use Rattle.proto_pubsub.proofs.subscribe.SubscribeProto.check.Goals as goal

pub returns-then-not-is_open : goal.returns-then-not-is_open
returns-then-not-is_open c =
    λ t l h act v.
    let m = c.args.self.now in
    let is : c.c.inside.0 ≡ c.args.c = search rules in
    let recv : c.args.verb ≡ verbs.Recv = search rules in
    let ok : ((c.args.c == 0) || not m.raw) ≡ true = elim c.else-self.branch [ else-self-via-then-self+else-c-ne0 w ↦ zero_is _ _ (subst (λ n. n ≡ 0) is w.if-c-ne0.false) | else-self-via-else-self w ↦ cooked_is _ _ w.if-self.false ] in
    (does_is m t c.args.c act true h (v ∙ recv) ok, open_is m t c.args.c c.deref.result.now false c.is_open.result h c.deref.ensures.value (c.is_open.ensures (in_order m t c.deref.result.now h c.deref.ensures.value)) c.if-not-is_open.true)

pub returns : goal.returns
returns c =
    λ t l h act v.
    let m = c.args.self.now in
    let is : c.c.inside.0 ≡ c.args.c = search rules in
    let recv : c.args.verb ≡ verbs.Recv = search rules in
    let ok : ((c.args.c == 0) || not m.raw) ≡ true = elim c.else-self.branch [ else-self-via-then-self+else-c-ne0 w ↦ zero_is _ _ (subst (λ n. n ≡ 0) is w.if-c-ne0.false) | else-self-via-else-self w ↦ cooked_is _ _ w.if-self.false ] in
    (does_is m t c.args.c act true h (v ∙ recv) ok, open_is m t c.args.c c.deref.result.now true c.is_open.result h c.deref.ensures.value (c.is_open.ensures (in_order m t c.deref.result.now h c.deref.ensures.value)) c.if-not-is_open.false, no_state m t c.args.c act h)

use Rattle.std.proofs.Common.{◌≡◌, refl, true, false, rules, subst}
use Rattle.std.specs.Prelude.{not, ◌||◌, ◌==◌}
use Rattle.proto_requests.proofs.TestValues.{zero_is, cooked_is, state_held, no_state}
use Rattle.proto_reqrep.proofs.ReqArrivals.{refused_for, never_raw, does_is, open_is}
use Rattle.proto_reqrep.proofs.req.RequestProto.check.Goals.{else-self-via-then-self+else-c-ne0, else-self-via-else-self, else-not-self-via-then-not-self+else-has_state, else-not-self-via-else-not-self}
use Rattle.proto_reqrep.proofs.req.RequestProto.check.Goals as goal

pub returns-then-not-has : goal.returns-then-not-has
returns-then-not-has c =
    λ t l h act v.
    let m = c.args.self.now in
    let is : c.c.inside.0 ≡ c.args.c = search rules in
    let ok : ((c.args.c == 0) || not m.raw) ≡ true = elim c.else-self.branch [ else-self-via-then-self+else-c-ne0 w ↦ zero_is _ _ (subst (λ n. n ≡ 0) is w.if-c-ne0.false) | else-self-via-else-self w ↦ cooked_is _ _ w.if-self.false ] in
    (does_is m t c.args.c act true h ok, open_is m t c.args.c m.contexts.items false c.has.result h refl c.has.ensures c.if-not-has.true)

pub returns-then-has_state : goal.returns-then-has_state
returns-then-has_state c =
    λ t l h act v.
    let m = c.args.self.now in
    let is : c.c.inside.0 ≡ c.args.c = search rules in
    let ok : ((c.args.c == 0) || not m.raw) ≡ true = elim c.else-self.branch [ else-self-via-then-self+else-c-ne0 w ↦ zero_is _ _ (subst (λ n. n ≡ 0) is w.if-c-ne0.false) | else-self-via-else-self w ↦ cooked_is _ _ w.if-self.false ] in (
      does_is m t c.args.c act true h ok,
      open_is m t c.args.c m.contexts.items true c.has.result h refl c.has.ensures c.if-not-has.false,
      refused_for m t c.args.c c.args.verb act true c.has_state.result h v c.has_state.ensures (state_held _ _ c.if-has_state.true c.if-not-self.true),
    )

pub returns : goal.returns
returns c =
    λ t l h act v.
    let m = c.args.self.now in
    let is : c.c.inside.0 ≡ c.args.c = search rules in
    let ok : ((c.args.c == 0) || not m.raw) ≡ true = elim c.else-self.branch [ else-self-via-then-self+else-c-ne0 w ↦ zero_is _ _ (subst (λ n. n ≡ 0) is w.if-c-ne0.false) | else-self-via-else-self w ↦ cooked_is _ _ w.if-self.false ] in (
      does_is m t c.args.c act true h ok,
      open_is m t c.args.c m.contexts.items true c.has.result h refl c.has.ensures c.if-not-has.false,
      elim c.else-not-self.branch [
        | else-not-self-via-then-not-self+else-has_state w ↦ refused_for m t c.args.c c.args.verb act false w.has_state.result h v w.has_state.ensures (no_state _ _ w.if-has_state.false)
        | else-not-self-via-else-not-self w ↦ never_raw m t c.args.c act h w.if-not-self.false
      ],
    )

use Rattle.std.proofs.Common.{◌∙◌, sym, arith, inl, inr}
use Rattle.sp_core.proofs.owner.Core.why_no_ctx.Goals as goal

pub returns-then-self-clause-told : goal.returns-then-self-clause-told
returns-then-self-clause-told g c = λ t h. h.closed ∙ c.if-self.true

pub returns-then-not-has_ctxs-clause-told : goal.returns-then-not-has_ctxs-clause-told
returns-then-not-has_ctxs-clause-told g c = λ t h. (h.closed ∙ c.if-self.false, sym (c.has_ctxs.ensures t h.proto) ∙ c.if-not-has_ctxs.true)

pub returns-then-self-ge-MOST_CONTEXTS-clause-told : goal.returns-then-self-ge-MOST_CONTEXTS-clause-told
returns-then-self-ge-MOST_CONTEXTS-clause-told g c =
    λ t h.
    (h.closed ∙ c.if-self.false, sym (c.has_ctxs.ensures t h.proto) ∙ c.if-not-has_ctxs.false, inl (omega (arith, h.tally.open_is, c.if-self-ge-MOST_CONTEXTS.true)))

pub returns-then-self-ge-LAST_CONTEXT-clause-told : goal.returns-then-self-ge-LAST_CONTEXT-clause-told
returns-then-self-ge-LAST_CONTEXT-clause-told g c =
    λ t h.
    (h.closed ∙ c.if-self.false, sym (c.has_ctxs.ensures t h.proto) ∙ c.if-not-has_ctxs.false, inr (omega (arith, h.tally.opened_is, c.if-self-ge-LAST_CONTEXT.true)))

pub returns-clause-told : goal.returns-clause-told
returns-clause-told g c =
    λ t h. record {
      is_open = h.closed ∙ c.if-self.false;
      supported = sym (c.has_ctxs.ensures t h.proto) ∙ c.if-not-has_ctxs.false;
      few = omega (arith, h.tally.open_is, c.if-self-ge-MOST_CONTEXTS.false);
      numbers_left = omega (arith, h.tally.opened_is, c.if-self-ge-LAST_CONTEXT.false);
    }

pub returns-clause-room : goal.returns-clause-room
returns-clause-room g c = λ q. (omega (arith, c.if-self-ge-LAST_CONTEXT.false), omega (arith, c.if-self-ge-MOST_CONTEXTS.false))

pub returns-then-self-clause-room : goal.returns-then-self-clause-room
returns-then-self-clause-room g c = λ q. absurd cc

pub returns-then-not-has_ctxs-clause-room : goal.returns-then-not-has_ctxs-clause-room
returns-then-not-has_ctxs-clause-room g c = λ q. absurd cc

pub returns-then-self-ge-MOST_CONTEXTS-clause-room : goal.returns-then-self-ge-MOST_CONTEXTS-clause-room
returns-then-self-ge-MOST_CONTEXTS-clause-room g c = λ q. absurd cc

pub returns-then-self-ge-LAST_CONTEXT-clause-room : goal.returns-then-self-ge-LAST_CONTEXT-clause-room
returns-then-self-ge-LAST_CONTEXT-clause-room g c = λ q. absurd cc

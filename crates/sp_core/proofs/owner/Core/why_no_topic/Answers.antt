use Rattle.std.proofs.Common.{◌∙◌, sym}
use Rattle.sp_core.proofs.Contexted.{topics_ctxs}
use Rattle.sp_core.proofs.owner.Core.why_no_topic.Goals as goal

pub returns-then-self : goal.returns-then-self
returns-then-self g c = λ t b on h. h.closed ∙ c.if-self.true

pub returns-then-not-has_tops : goal.returns-then-not-has_tops
returns-then-not-has_tops g c = λ t b on h. (h.closed ∙ c.if-self.false, sym (c.has_tops.ensures t h.proto) ∙ c.if-not-has_tops.true)

pub returns-then-not-is_ctx_open : goal.returns-then-not-is_ctx_open
returns-then-not-is_ctx_open g c =
    λ t b on h.
    let has = sym (c.has_tops.ensures t h.proto) ∙ c.if-not-has_tops.false in
    (h.closed ∙ c.if-self.false, has, sym (c.is_ctx_open.ensures t h.lawful h.proto (topics_ctxs t.z has)) ∙ c.if-not-is_ctx_open.true)

pub returns : goal.returns
returns g c =
    λ t b on h.
    let has = sym (c.has_tops.ensures t h.proto) ∙ c.if-not-has_tops.false in record {
      is_open = h.closed ∙ c.if-self.false;
      supported = has;
      ctx_open = sym (c.is_ctx_open.ensures t h.lawful h.proto (topics_ctxs t.z has)) ∙ c.if-not-is_ctx_open.false;
    }

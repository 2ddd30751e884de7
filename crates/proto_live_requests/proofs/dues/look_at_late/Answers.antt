use Rattle.std.proofs.Common.{◌≡◌, ◌∙◌, ap, sym, refl, true, inl, inr}
use Rattle.proto_requests.specs.Hints.{HintsView, covers}
use Rattle.proto_requests.proofs.EndedOperations.{shorter, no_head}
use Rattle.proto_live_requests.specs.declared.outs.SentOut.{SentOut}
use Rattle.proto_live_requests.specs.Outs.{AreSince}
use Rattle.proto_live_requests.proofs.DueRequests.{late_kept, late_or, one_in, awaited_at, sent_ctx, none_come, none_there, case_of}
use Rattle.proto_live_requests.proofs.dues.look_at_late.Goals as goal

pub loop-e-init : goal.loop-e-init
loop-e-init c = record { whole = refl; kept = λ x o n k. k; late = λ x o m z k. inl k; more = λ q k. k }

pub loop-e-smaller : goal.loop-e-smaller
loop-e-smaller c = rw c.drop_first.ensures (shorter c.in-Some.e c.loop-e.outs.items (sym c.in-Some.is ∙ c.first.ensures.first))

pub loop-e-preserved : goal.loop-e-preserved
loop-e-preserved c =
    let first = sym c.in-Some.is ∙ c.first.ensures.first in
    let past = sym c.is_past.ensures ∙ c.if-not-is_past.false in
    let at = c.loop-e.invariant in
    record {
      whole = ap (λ (v : HintsView SentOut). v.whole) c.drop_first.ensures ∙ at.whole;
      kept = λ x o n k. late_kept c.loop-e.outs c.drop_first.new.self c.in-Some.e first c.drop_first.ensures c.args.resend c.args.now x o past n (at.kept x o n k);
      late = λ x o m z k.
          case_of
          (λ n.
          late_or c.loop-e.outs c.drop_first.new.self c.in-Some.e first c.drop_first.ensures x o (covers c.look_if_awaited.new.due x ≡ true)
          (λ s. ap (covers c.look_if_awaited.new.due) (sym (sent_ctx x o c.in-Some.e s)) ∙ c.look_if_awaited.ensures.it (awaited_at c.args.live.now.items x o c.in-Some.e z s)) n)
          (λ d. inr (c.look_if_awaited.ensures.more x d)) (at.late x o m z k);
      more = λ q k. c.look_if_awaited.ensures.more q (at.more q k);
    }

pub returns-then-not-is_past-clause-late : goal.returns-then-not-is_past-clause-late
returns-then-not-is_past-clause-late c = λ x o w m z k.
    let at = c.loop-e.invariant in
    case_of (λ n. none_come c.args.resend c.args.now x c.in-Some.e.when o c.loop-e.outs (one_in (λ (e : SentOut). AreSince e.when c.loop-e.outs.items) c.first.result c.in-Some.e c.in-Some.is c.first.ensures.least) (at.whole ∙ w) (sym c.is_past.ensures ∙ c.if-not-is_past.true) m n) (λ d. d) (at.late x o m z k)

pub returns-clause-late : goal.returns-clause-late
returns-clause-late c = λ x o w m z k.
    let at = c.loop-e.invariant in
    case_of (λ n. none_there x o c.loop-e.outs (no_head c.loop-e.outs.items (sym c.in_default.is ∙ c.first.ensures.first)) (at.whole ∙ w) n) (λ d. d) (at.late x o m z k)

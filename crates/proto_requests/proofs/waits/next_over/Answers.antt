use Rattle.std.proofs.Common.{◌∙◌, ap, sym, refl}
use Rattle.sp_base.specs.declared.OpName.{OpName}
use Rattle.proto_requests.specs.Hints.{HintsView}
use Rattle.proto_requests.specs.Spots.{held}
use Rattle.proto_requests.specs.Waits.{is_named}
use Rattle.proto_requests.proofs.EndedOperations.{dropped_over, is_over_named, over_none, shorter}
use Rattle.proto_requests.proofs.waits.next_over.Goals as goal

pub loop-op-init : goal.loop-op-init
loop-op-init g c = record { seen = λ r. r; whole = refl }

pub loop-op-smaller : goal.loop-op-smaller
loop-op-smaller g c = rw c.drop_first.ensures (shorter c.in-Some.op c.loop-op.ended.items (sym c.in-Some.is ∙ c.first.ensures))

pub loop-op-preserved : goal.loop-op-preserved
loop-op-preserved g c =
    let W = g.T.Waiter in
    record {
      seen = λ r. dropped_over W.name_of W.is_left c.loop-op.ended c.drop_first.new.self c.in-Some.op (held c.args.list.now) c.requires.1 (sym c.in-Some.is ∙ c.first.ensures) c.drop_first.ensures (c.in-None.ensures (is_named W.name_of c.in-Some.op) (c.place_by.ensures (λ k. c.requires))) (c.loop-op.invariant.seen r);
      whole = ap (λ (v : HintsView OpName). v.whole) c.drop_first.ensures ∙ c.loop-op.invariant.whole;
    }

pub returns-clause-none : goal.returns-clause-none
returns-clause-none g c = λ r w. let W = g.T.Waiter in over_none W.name_of W.is_left c.loop-op.ended (held c.args.list.now) (c.loop-op.invariant.whole ∙ w) (sym c.in_default.is ∙ c.first.ensures) (c.loop-op.invariant.seen r)

pub returns-in-Some-over_at-clause-over : goal.returns-in-Some-over_at-clause-over
returns-in-Some-over_at-clause-over g c = let W = g.T.Waiter in is_over_named W.name_of W.is_left c.in-Some.op c.in-Some-over_at.found (held c.args.list.now) (c.in-Some-over_at.ensures (is_named W.name_of c.in-Some.op) (c.place_by.ensures (λ k. c.requires)))

use Rattle.std.proofs.Common.{◌∙◌, ap, sym, refl}
use Rattle.proto_requests.specs.Hints.{HintsView}
use Rattle.proto_reqrep.proofs.Hinted.{ready_dropped, reply_on, idle_ready}
use Rattle.proto_requests.proofs.EndedOperations.{shorter, no_head}
use Rattle.proto_reqrep.proofs.req.next_ready.Goals as goal

pub loop-c-init : goal.loop-c-init
loop-c-init c = record { ready = λ r. r; whole = refl }

pub loop-c-smaller : goal.loop-c-smaller
loop-c-smaller c = rw c.drop_first.ensures (shorter c.in-Some.c c.loop-c.ready.items (sym c.in-Some.is ∙ c.first.ensures))

pub loop-c-preserved : goal.loop-c-preserved
loop-c-preserved c =
    record {
      ready = λ r. ready_dropped c.loop-c.ready c.drop_first.new.self c.args.live.now.items c.args.waiting.now.items c.in-Some.c (sym c.in-Some.is ∙ c.first.ensures) c.drop_first.ensures c.in-None.ensures (c.loop-c.invariant.ready r);
      whole = ap (λ (v : HintsView _). v.whole) c.drop_first.ensures ∙ c.loop-c.invariant.whole;
    }

pub returns-clause-none : goal.returns-clause-none
returns-clause-none c = λ r w. idle_ready c.loop-c.ready c.args.live.now.items c.args.waiting.now.items (c.loop-c.invariant.whole ∙ w) (no_head c.loop-c.ready.items (sym c.in_default.is ∙ c.first.ensures)) (c.loop-c.invariant.ready r)

pub returns-in-Some-ready_on-clause-given : goal.returns-in-Some-ready_on-clause-given
returns-in-Some-ready_on-clause-given c = reply_on c.args.live.now.items c.args.waiting.now.items c.in-Some.c c.in-Some-ready_on.op c.in-Some-ready_on.ensures

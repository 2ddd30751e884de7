-- The lanes are accepted one after another.
use Rattle.std.proofs.Common.{refl, sym, subst, arith}
use Rattle.sp_lane.specs.Registry.{Registry}
use Rattle.sp_ends.specs.NameSteps.{HasFewer}
use Rattle.sp_ends.proofs.DialedNames.{goes_none, goes_both, accepts_none, accepts_as, accepts_one, accepts_both, accepts_then}
use Rattle.sp_ends.proofs.Lanes.{keeps_none, keeps_both}
use Rattle.sp_ends.proofs.Bringing.{so_none, so_next, so_one, fewer_none, fewer_both, fewer_one, brings_none, brings_full}
use Rattle.sp_ends.proofs.names.accept_from.Goals as goal

pub lanes-init : goal.lanes-init
lanes-init g c = record { on = goes_none c.args.single.now; links = keeps_none g.L.Link.seen c.args.single.now; accepted = accepts_none 0 c.args.single.now c.args.inproc.now c.args.inproc.now refl; so = so_none c.args.name.now c.args.inproc.now; fewer = fewer_none c.args.inproc.now }

pub lanes-preserved : goal.lanes-preserved
lanes-preserved g c =
    let a = c.args.single.now in
    let b = c.lanes.single in
    let d = c.attach_lane.new.single in
    record {
      on = goes_both a b d c.lanes.invariant.on c.attach_lane.ensures.on;
      links = keeps_both g.L.Link.seen a b d c.lanes.invariant.links c.attach_lane.ensures.links;
      accepted = accepts_both c.lanes.counter 1 a b d c.args.inproc.now c.lanes.inproc c.accept.new.self c.lanes.invariant.on c.attach_lane.ensures.on c.lanes.invariant.accepted (accepts_one _ c.in-Some.lane c.attach_lane.result b d c.lanes.inproc c.accept.new.self c.in-Some.ensures.after c.attach_lane.ensures.came c.attach_lane.ensures.on);
      so = so_next c.args.name.now c.lanes.counter c.args.inproc.now c.lanes.inproc c.accept.new.self c.lanes.invariant.fewer c.lanes.invariant.so (so_one c.args.name.now c.in-Some.lane c.lanes.inproc c.accept.new.self c.in-Some.ensures.after);
      fewer = fewer_both c.args.inproc.now c.lanes.inproc c.accept.new.self c.lanes.invariant.fewer (fewer_one c.args.name.now c.in-Some.lane c.lanes.inproc c.accept.new.self c.in-Some.ensures.after);
    }

pub returns-in_default-clause-accepted : goal.returns-in_default-clause-accepted
returns-in_default-clause-accepted g c =
    accepts_then c.lanes.counter 16 c.args.single.now c.lanes.single c.args.inproc.now c.lanes.inproc c.accept.new.self (omega (arith, c.lanes-test.true)) c.in_default.ensures.after.1 c.lanes.invariant.accepted

pub returns-clause-accepted : goal.returns-clause-accepted
returns-clause-accepted g c = accepts_as c.lanes.counter 16 c.args.single.now c.lanes.single c.args.inproc.now c.lanes.inproc (omega (arith, c.lanes.auto.counter-end)) c.lanes.invariant.accepted

pub returns-in_default-clause-brings : goal.returns-in_default-clause-brings
returns-in_default-clause-brings g c = brings_none c.args.name.now c.args.inproc.now c.lanes.inproc c.accept.new.self c.lanes.invariant.fewer c.in_default.ensures.after

pub returns-in_default-clause-fewer : goal.returns-in_default-clause-fewer
returns-in_default-clause-fewer g c = subst (λ (r : Registry). HasFewer c.args.inproc.now r) (sym c.in_default.ensures.after.1) c.lanes.invariant.fewer

pub returns-clause-brings : goal.returns-clause-brings
returns-clause-brings g c = brings_full c.args.name.now c.lanes.counter c.args.inproc.now c.lanes.inproc (omega (arith, c.lanes-test.false)) c.lanes.invariant.so

pub returns-clause-fewer : goal.returns-clause-fewer
returns-clause-fewer g c = c.lanes.invariant.fewer

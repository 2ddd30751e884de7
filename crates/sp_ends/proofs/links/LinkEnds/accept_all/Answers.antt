-- Each listener is asked.
use Rattle.std.proofs.Common.{◌≡◌, ◌*◌, ap, arith, length, subst}
use Rattle.sp_ends.specs.EndViews.{LinkEndsView}
use Rattle.sp_ends.specs.EndsTurns.{HasAskedTo}
use Rattle.sp_ends.proofs.NewcomingAsks.{asked_first, asked_next, still_listens}
use Rattle.sp_ends.proofs.links.LinkEnds.accept_all.Goals as goal

pub accepts-init : goal.accepts-init
accepts-init g c = asked_first g.L.Link.seen c.args.self.now (g.N.Net.seen c.args.net.now) c.args.single.now c.args.now c.args.turn.now.is_dry c.requires.dry

pub accept_from-requires-clause-in_turn : goal.accept_from-requires-clause-in_turn
accept_from-requires-clause-in_turn g c = (c.requires.in_turn.0, c.accepts.invariant.asked.in_turn c.requires.in_turn.0 c.requires.in_turn.1)

pub accept_from-requires-clause-listens : goal.accept_from-requires-clause-listens
accept_from-requires-clause-listens g c =
    still_listens g.L.Link.seen 0 c.accepts.i (16 * c.accepts.i) c.args.self.now c.accepts.self (g.N.Net.seen c.args.net.now) (g.N.Net.seen c.accepts.net) c.args.single.now c.accepts.single c.args.now c.accepts.turn.is_dry c.accepts.invariant.asked c.requires.listens

pub accept_from-requires-clause-inside : goal.accept_from-requires-clause-inside
accept_from-requires-clause-inside g c =
    let old = ap (λ (e : LinkEndsView g.row.L.Denot). length e.listeners) c.self.view_is in
    let same = ap length c.accepts.invariant.asked.ends.listeners in
    omega (arith, old, same, c.accepts-test.true, c.len-i-end.ensures, c.self.inside.listeners.ok.0)

pub accepts-preserved : goal.accepts-preserved
accepts-preserved g c =
    asked_next g.L.Link.seen c.accepts.i c.args.self.now c.accepts.self c.accept_from.new.self (g.N.Net.seen c.args.net.now) (g.N.Net.seen c.accepts.net) (g.N.Net.seen c.accept_from.new.net) c.args.single.now c.accepts.single c.accept_from.new.single c.args.now c.accepts.turn.is_dry c.accept_from.new.turn.is_dry c.accepts.invariant c.accept_from.ensures

pub returns : goal.returns
returns g c =
    let old = ap (λ (e : LinkEndsView g.row.L.Denot). length e.listeners) c.self.view_is in
    let all : c.accepts.i ≡ length c.args.self.now.listeners = omega (arith, old, c.accepts-test.false, c.accepts.auto.i-end, c.len-i-end.ensures, c.self.inside.listeners.ok.0) in
    subst (λ i. HasAskedTo g.L.Link.seen i c.args.self.now c.accepts.self (g.N.Net.seen c.args.net.now) (g.N.Net.seen c.accepts.net) c.args.single.now c.accepts.single c.args.now c.accepts.turn.is_dry) all c.accepts.invariant

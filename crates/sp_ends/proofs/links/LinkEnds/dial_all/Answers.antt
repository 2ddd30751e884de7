-- Each address that is due is dialed.
use Rattle.std.proofs.Common.{◌≡◌, ◌≤◌, ◌<◌, ◌-◌, length, ap, ◌∙◌, subst, sym, arith, refl}
use Rattle.std.specs.Prelude.{◌^◌, IsTrue, true, false}
use Rattle.sp_ends.specs.EndViews.{LinkEndsView}
use Rattle.sp_ends.proofs.ListReads.{at_index}
use Rattle.sp_ends.specs.Freeing.{IsDue}
use Rattle.sp_ends.proofs.FreedDialers.{turned_turns, turned_waits}
use Rattle.sp_ends.proofs.NewcomingRounds.{dialing_first, dialing_waits, dialing_next, dialable_here, dialed_all, is_there, due_all}
use Rattle.sp_ends.proofs.links.LinkEnds.dial_all.Goals as goal

pub dials-init : goal.dials-init
dials-init g c = dialing_first g.L.Link.seen c.args.self.now (g.N.Net.seen c.args.net.now) c.args.single.now c.args.now c.args.turn.now.is_dry c.requires.dry

pub dial_one-requires-clause-in_turn : goal.dial_one-requires-clause-in_turn
dial_one-requires-clause-in_turn g c = (c.requires.in_turn.0, c.dials.invariant.in_turn c.requires.in_turn.0 c.requires.in_turn.1)

pub dial_one-requires-clause-dialable : goal.dial_one-requires-clause-dialable
dial_one-requires-clause-dialable g c =
    let fits : c.args.now ≤ 2 ^ 64 - 1 = omega arith in
    let old = ap (λ (e : LinkEndsView g.row.L.Denot). length e.dialers) c.self.view_is in
    let there = ap (λ (e : LinkEndsView g.row.L.Denot). e.dialers) c.self-in-dials.view_is in
    let below : c.dials.i < length c.dials.self.dialers = omega (arith, old, c.dials-test.true, c.len-i-end.ensures, c.self.inside.dialers.ok.0, c.dials.invariant.lengths) in
    let at = at_index c.self-in-dials.inside.dialers.items c.dials.self.dialers c.dials.i c.index.result.now there below c.index.ensures in
    let asked = c.requires.asked in
    let a = dialable_here g.L.Link.seen c.dials.i c.args.self.now c.dials.self (g.N.Net.seen c.args.net.now) (g.N.Net.seen c.dials.net) c.args.single.now c.dials.single c.args.now fits c.dials.turn.is_dry c.dials.invariant asked.0 asked.1 asked.2.dials c.index.result.now at in
    (c.index.result.now, at, a)

pub dials-preserved-then-not-is_due : goal.dials-preserved-then-not-is_due
dials-preserved-then-not-is_due g c =
    let fits : c.args.now ≤ 2 ^ 64 - 1 = omega arith in
    let old = ap (λ (e : LinkEndsView g.row.L.Denot). length e.dialers) c.self.view_is in
    let there = ap (λ (e : LinkEndsView g.row.L.Denot). e.dialers) c.self-in-dials.view_is in
    let below : c.dials.i < length c.dials.self.dialers = omega (arith, old, c.dials-test.true, c.len-i-end.ensures, c.self.inside.dialers.ok.0, c.dials.invariant.lengths) in
    dialing_waits g.L.Link.seen c.dials.i c.args.self.now c.dials.self (g.N.Net.seen c.args.net.now) (g.N.Net.seen c.dials.net) c.args.single.now c.dials.single c.args.now fits c.dials.turn.is_dry c.dials.invariant
    (λ q at due. let no : false ≡ true = sym c.if-not-is_due.true ∙ c.is_due.ensures.1 (subst (IsDue c.args.now) (sym (is_there c.self-in-dials.inside.dialers.items c.dials.self.dialers c.dials.i c.index.result.now q there below c.index.ensures at)) due) in cc)

pub dials-preserved : goal.dials-preserved
dials-preserved g c =
    let fits : c.args.now ≤ 2 ^ 64 - 1 = omega arith in
    let old = ap (λ (e : LinkEndsView g.row.L.Denot). length e.dialers) c.self.view_is in
    let there = ap (λ (e : LinkEndsView g.row.L.Denot). e.dialers) c.self-in-dials.view_is in
    let below : c.dials.i < length c.dials.self.dialers = omega (arith, old, c.dials-test.true, c.len-i-end.ensures, c.self.inside.dialers.ok.0, c.dials.invariant.lengths) in
    let e = c.dial_one.ensures in
    dialing_next g.L.Link.seen c.dials.i c.args.self.now c.dials.self (g.N.Net.seen c.args.net.now) (g.N.Net.seen c.dials.net) c.args.single.now c.dials.single c.args.now fits c.dials.turn.is_dry c.dials.invariant c.dial_one.new.self (g.N.Net.seen c.dial_one.new.net) c.dial_one.new.single c.dial_one.new.turn.is_dry
    (λ q at. subst (IsDue c.args.now) (is_there c.self-in-dials.inside.dialers.items c.dials.self.dialers c.dials.i c.index.result.now q there below c.index.ensures at) (c.is_due.ensures.0 (subst IsTrue (sym c.if-not-is_due.false) refl)))
    e.in_turn e.asks e.dialed e.redials e.quietly e.no_lane e.kept e.same e.dry e.known e.young e.waited

pub returns-clause-asked : goal.returns-clause-asked
returns-clause-asked g c start i_in stands =
    let fits : c.args.now ≤ 2 ^ 64 - 1 = omega arith in
    let old = ap (λ (e : LinkEndsView g.row.L.Denot). length e.dialers) c.self.view_is in
    dialed_all g.L.Link.seen c.dials.i c.args.self.now c.dials.self (g.N.Net.seen c.args.net.now) (g.N.Net.seen c.dials.net) c.args.single.now c.dials.single c.args.now fits c.dials.turn.is_dry c.dials.invariant start i_in
    (omega (arith, old, c.dials-test.false, c.dials.auto.i-end, c.len-i-end.ensures, c.self.inside.dialers.ok.0)) stands

pub returns-clause-turns : goal.returns-clause-turns
returns-clause-turns g c =
    record { net = c.dials.invariant.got; dialers = turned_turns c.args.now (g.N.Net.seen c.args.net.now) (g.N.Net.seen c.dials.net) c.dials.i c.args.self.now.dialers c.dials.self.dialers c.dials.invariant.turned }

pub returns-clause-waits : goal.returns-clause-waits
returns-clause-waits g c =
    let old = ap (λ (e : LinkEndsView g.row.L.Denot). length e.dialers) c.self.view_is in
    turned_waits c.args.now (g.N.Net.seen c.args.net.now) (g.N.Net.seen c.dials.net) c.dials.i c.args.self.now.dialers c.dials.self.dialers c.dials.invariant.turned (omega (arith, old, c.dials-test.false, c.dials.auto.i-end, c.len-i-end.ensures, c.self.inside.dialers.ok.0))

pub returns-clause-listens : goal.returns-clause-listens
returns-clause-listens g c = c.dials.invariant.listens

pub returns-clause-dialed : goal.returns-clause-dialed
returns-clause-dialed g c =
    let fits : c.args.now ≤ 2 ^ 64 - 1 = omega arith in
    let old = ap (λ (e : LinkEndsView g.row.L.Denot). length e.dialers) c.self.view_is in
    due_all g.L.Link.seen c.dials.i c.args.self.now c.dials.self (g.N.Net.seen c.args.net.now) (g.N.Net.seen c.dials.net) c.args.single.now c.dials.single c.args.now fits c.dials.turn.is_dry c.dials.invariant (omega (arith, old, c.dials-test.false, c.dials.auto.i-end, c.len-i-end.ensures, c.self.inside.dialers.ok.0))

pub returns-clause-counts : goal.returns-clause-counts
returns-clause-counts g c = (c.dials.invariant.idles, c.dials.invariant.faults, c.dials.invariant.opened)

pub returns-clause-no_lane : goal.returns-clause-no_lane
returns-clause-no_lane g c = c.dials.invariant.lanes

pub returns-clause-few : goal.returns-clause-few
returns-clause-few g c =
    let old = ap (λ (e : LinkEndsView g.row.L.Denot). length e.dialers) c.self.view_is in (c.dials.invariant.own, omega (arith, c.dials.invariant.dialed, old, c.dials.auto.i-end, c.len-i-end.ensures, c.self.inside.dialers.ok.0))

pub returns-clause-waited : goal.returns-clause-waited
returns-clause-waited g c = c.dials.invariant.waited

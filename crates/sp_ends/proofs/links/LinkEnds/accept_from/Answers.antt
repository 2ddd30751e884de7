-- The listener is asked until it has no link.
use Rattle.std.proofs.Common.{ℕ, ◌≡◌, ◌≤◌, ◌<◌, ◌+◌, ap, arith, length, true, false, sym, ◌∙◌, List}
use Rattle.std.specs.Prelude.{nat_le}
use Rattle.std.proofs.lemmas.Bool.Decides.{nat_tests}
use Rattle.sp_ends.specs.declared.newcomer.Newcomer.{Newcomer}
use Rattle.sp_ends.specs.Listening.{own_of}
use Rattle.sp_ends.proofs.NewcomingAsks.{asking_none, asking_more, asking_last, asking_full, asking_all, asked_one, still_listens, listener_at}
use Rattle.sp_ends.proofs.links.LinkEnds.accept_from.Goals as goal

is_so : {L : Type 0} (i : ℕ) (ns : List (Newcomer L)) → nat_le 256 (own_of i ns) ≡ true → 256 ≤ own_of i ns
is_so i ns e = grind (arith, nat_tests)

not_so : {L : Type 0} (i : ℕ) (ns : List (Newcomer L)) → nat_le 256 (own_of i ns) ≡ false → own_of i ns < 256
not_so i ns e = grind (arith, nat_tests)

pub links-init : goal.links-init
links-init g c = asking_none g.L.Link.seen c.args.i c.args.self.now (g.N.Net.seen c.args.net.now) c.args.single.now c.args.now c.args.turn.now.is_dry c.requires.dry

pub is_full-requires : goal.is_full-requires
is_full-requires g c = let same = ap length c.links.invariant.asked.ends.listeners in record { inside = omega (arith, same, c.requires.inside) }

pub returns-then-is_full : goal.returns-then-is_full
returns-then-is_full g c =
    asking_full g.L.Link.seen c.args.i c.links.counter c.args.self.now c.links.self (g.N.Net.seen c.args.net.now) (g.N.Net.seen c.links.net) c.args.single.now c.links.single c.args.now c.links.turn.is_dry c.links.invariant (is_so c.args.i c.links.self.newcomers (sym c.is_full.ensures ∙ c.if-is_full.true)) (omega (arith, c.links-test.true))

pub accept_one-requires-clause-in_turn : goal.accept_one-requires-clause-in_turn
accept_one-requires-clause-in_turn g c = (c.requires.in_turn.0, c.links.invariant.asked.in_turn c.requires.in_turn.0 c.requires.in_turn.1)

pub accept_one-requires-clause-inside : goal.accept_one-requires-clause-inside
accept_one-requires-clause-inside g c = let same = ap length c.links.invariant.asked.ends.listeners in omega (arith, same, c.requires.inside)

pub accept_one-requires-clause-listens : goal.accept_one-requires-clause-listens
accept_one-requires-clause-listens g c at e =
    listener_at g.L.Link.seen (g.N.Net.seen c.links.net) c.links.self.listeners (still_listens g.L.Link.seen c.args.i (c.args.i + 1) c.links.counter c.args.self.now c.links.self (g.N.Net.seen c.args.net.now) (g.N.Net.seen c.links.net) c.args.single.now c.links.single c.args.now c.links.turn.is_dry c.links.invariant.asked c.requires.listens) c.args.i at e

pub returns-then-not-accept_one : goal.returns-then-not-accept_one
returns-then-not-accept_one g c =
    let e = c.accept_one.ensures in
    asking_last g.L.Link.seen c.args.i c.links.counter c.args.self.now c.links.self c.accept_one.new.self (g.N.Net.seen c.args.net.now) (g.N.Net.seen c.links.net) (g.N.Net.seen c.accept_one.new.net) c.args.single.now c.links.single c.accept_one.new.single c.args.now c.links.turn.is_dry c.accept_one.new.turn.is_dry c.links.invariant
    (asked_one g.L.Link.seen c.args.i c.links.self c.accept_one.new.self (g.N.Net.seen c.links.net) (g.N.Net.seen c.accept_one.new.net) c.links.single c.accept_one.new.single c.args.now c.accept_one.new.turn.is_dry e.in_turn e.few e.kept e.asks e.dialers e.frees e.quietly e.no_lane e.same e.dry e.handed (not_so c.args.i c.links.self.newcomers (sym c.is_full.ensures ∙ c.if-is_full.false)) e.young e.waited)
    e.asks (omega (arith, c.links-test.true)) (e.none c.if-not-accept_one.true)

pub links-preserved : goal.links-preserved
links-preserved g c =
    let e = c.accept_one.ensures in
    asking_more g.L.Link.seen c.args.i c.links.counter c.args.self.now c.links.self c.accept_one.new.self (g.N.Net.seen c.args.net.now) (g.N.Net.seen c.links.net) (g.N.Net.seen c.accept_one.new.net) c.args.single.now c.links.single c.accept_one.new.single c.args.now c.links.turn.is_dry c.accept_one.new.turn.is_dry c.links.invariant
    (asked_one g.L.Link.seen c.args.i c.links.self c.accept_one.new.self (g.N.Net.seen c.links.net) (g.N.Net.seen c.accept_one.new.net) c.links.single c.accept_one.new.single c.args.now c.accept_one.new.turn.is_dry e.in_turn e.few e.kept e.asks e.dialers e.frees e.quietly e.no_lane e.same e.dry e.handed (not_so c.args.i c.links.self.newcomers (sym c.is_full.ensures ∙ c.if-is_full.false)) e.young e.waited)
    e.asks

pub returns : goal.returns
returns g c =
    asking_all g.L.Link.seen c.args.i c.links.counter c.args.self.now c.links.self (g.N.Net.seen c.args.net.now) (g.N.Net.seen c.links.net) c.args.single.now c.links.single c.args.now c.links.turn.is_dry c.links.invariant (omega (arith, c.links-test.false, c.links.auto.counter-end))

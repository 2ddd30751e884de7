-- A link that was handed out is met, and greeted; or it is missed at once.
use Rattle.std.proofs.Common.{◌≡◌, ◌≤◌, ◌<◌, sym, ap, ◌∙◌, subst, List, ℕ, length, arith, inl, inr, Result, Ok, Err, IfOk, Option, Some}
use Rattle.sp_base.specs.Views.{LinkView, NetView}
use Rattle.sp_base.specs.declared.error.NoMemory.{NoMemory}
use Rattle.sp_history.specs.declared.entry.Miss.TheVariants as misses
use Rattle.sp_links.specs.declared.way.Way.{Way}
use Rattle.sp_links.specs.Openings.{CanBegin, scheme_for}
use Rattle.sp_socket.specs.Singles.{SingleView, TookOne}
use Rattle.sp_ends.specs.declared.newcomer.Newcomer.{Newcomer}
use Rattle.sp_ends.specs.EndViews.{Beginning, LinkEndsView}
use Rattle.sp_ends.specs.RunLinks.{HandStands, LinksStand, IsCauseOf}
use Rattle.sp_ends.specs.NewcomerSteps.{GivesOneBack}
use Rattle.sp_links.specs.Origins.{Origins}
use Rattle.sp_ends.specs.Listening.{room_for, IsFromOne, KeepsFrom}
use Rattle.sp_ends.specs.EndsTurns.{InTurn, Arrives, AreYoung, AreWaitingBehind, FitsIn}
use Rattle.sp_ends.proofs.Turns.{lanes_both, quiet_both}
use Rattle.sp_ends.proofs.TurnParts.{turn_on, ends_lost, newcomers_lost}
use Rattle.sp_ends.proofs.FreedDialers.{frees_lost}
use Rattle.sp_ends.proofs.NewcomingTurn.{MeetsAt, meets_quiet, meets_lanes, meets_dry, met_hand, newcomer_met, dry_cause}
use Rattle.sp_ends.proofs.links.LinkEnds.meet_newcomer.Goals as goal

-- the way that is left is the same, or missing
fitting_is : {L : Type 0} (way result : Result Way NoMemory) (ends : LinkEndsView L) (begins : Way) → FitsIn way result ends → IfOk way (λ w. w ≡ begins) → IfOk result (λ w. w ≡ begins)
fitting_is way (Ok w) ends begins f is = subst (λ (x : Result Way NoMemory). IfOk x (λ y. y ≡ begins)) f.0 is
fitting_is way (Err e) ends begins f is = tt

fitting_arrives : {L : Type 0} (o : Origins) (link : LinkView) (way result : Result Way NoMemory) (max : ℕ) (ends : LinkEndsView L) (a b : NetView) → FitsIn way result ends → Arrives o link way max a b → Arrives o link result max a b
fitting_arrives o link way result max ends a b f r = record { begins = r.begins; is = fitting_is way result ends r.begins f r.is; known = r.known; can = r.can; limit = r.limit; handed = r.handed }

-- where it is there, there is room
fitting_room : {L : Type 0} (way result : Result Way NoMemory) (ends : LinkEndsView L) (begins : Way) → FitsIn way result ends → result ≡ Ok begins → length ends.newcomers < room_for (length ends.listeners)
fitting_room way (Ok w) ends begins f is = f.1
fitting_room way (Err e) ends begins f is = let no : Err e ≡ Ok begins = is in cc

can_begin : (way : Result Way NoMemory) (begins : Way) → IfOk way (λ w. w ≡ begins) → CanBegin begins → IfOk way CanBegin
can_begin (Ok w) begins is can = subst CanBegin (sym is) can
can_begin (Err e) begins is can = tt

pub newcomer_over-requires-clause-can : goal.newcomer_over-requires-clause-can
newcomer_over-requires-clause-can g c = let r = c.requires.fresh.3 in can_begin c.fitting-way.result r.begins (fitting_is c.args.way c.fitting-way.result c.args.self.now r.begins c.fitting-way.ensures r.is) r.can

pub greet-requires-clause-in_turn : goal.greet-requires-clause-in_turn
greet-requires-clause-in_turn g c =
    let f = c.requires.fresh in
    let n = c.in-Ok.ensures in
    (f.0, 0, newcomer_met g.L.Link.seen f.0 f.1 (g.N.Net.seen c.args.net.now) c.args.self.now c.args.single.now c.met.new.self c.args.now c.in-Ok.newcomer c.args.link c.place-place.result c.self.inside.role c.fitting-way.result c.args.max n.0 c.args.from c.place-place.ensures n.1 n.2 (ap (λ (e : LinkEndsView g.row.L.Denot). e.role) c.self.view_is) c.met.ensures.turn (fitting_arrives f.0.origins (g.L.Link.seen c.args.link) c.args.way c.fitting-way.result c.args.max c.args.self.now f.1 (g.N.Net.seen c.args.net.now) c.fitting-way.ensures f.3) f.2)

pub greet-requires-clause-room : goal.greet-requires-clause-room
greet-requires-clause-room g c = let n = c.in-Ok.ensures in fitting_room c.args.way c.fitting-way.result c.args.self.now n.0 c.fitting-way.ensures n.1

pub greet-requires-clause-from : goal.greet-requires-clause-from
greet-requires-clause-from g c = subst (IsFromOne (length c.args.self.now.listeners)) (sym c.in-Ok.ensures.2.from_is) c.requires.from

pub greet-requires-clause-dry : goal.greet-requires-clause-dry
greet-requires-clause-dry g c = meets_dry c.place-place.result c.args.single.now c.met.new.self c.met.ensures.turn ∙ c.requires.dry

pub returns-in-Ok-clause-in_turn : goal.returns-in-Ok-clause-in_turn
returns-in-Ok-clause-in_turn g c start before i arrives =
    let n = c.in-Ok.ensures in
    c.greet.ensures.in_turn start 0 (newcomer_met g.L.Link.seen start before (g.N.Net.seen c.args.net.now) c.args.self.now c.args.single.now c.met.new.self c.args.now c.in-Ok.newcomer c.args.link c.place-place.result c.self.inside.role c.fitting-way.result c.args.max n.0 c.args.from c.place-place.ensures n.1 n.2 (ap (λ (e : LinkEndsView g.row.L.Denot). e.role) c.self.view_is) c.met.ensures.turn (fitting_arrives start.origins (g.L.Link.seen c.args.link) c.args.way c.fitting-way.result c.args.max c.args.self.now before (g.N.Net.seen c.args.net.now) c.fitting-way.ensures arrives) i)

pub returns-in-Ok-clause-serves : goal.returns-in-Ok-clause-serves
returns-in-Ok-clause-serves g c =
    let s = c.greet.ensures.serves in
    record { ends = s.ends; dialers = s.dialers; counts = s.counts; quietly = quiet_both c.args.single.now c.met.new.self c.greet.new.single (meets_quiet c.place-place.result c.args.single.now c.met.new.self c.met.ensures.turn) s.quietly; lanes = lanes_both c.args.single.now c.met.new.self c.greet.new.single (meets_lanes c.place-place.result c.args.single.now c.met.new.self c.met.ensures.turn) s.lanes }

pub returns-in-Ok-clause-young : goal.returns-in-Ok-clause-young
returns-in-Ok-clause-young g c = λ a. c.greet.ensures.young 0 a

-- ---- Out of memory

module _ {L : Type 0} (seen : L → LinkView) (start : Beginning) (before net : NetView) (ends : LinkEndsView L) (a b : SingleView) (t : ℕ) (link back : L) (place : ℕ) (way : Result Way NoMemory) (max : ℕ) (at : place ≡ (seen link).place) (took : TookOne (MeetsAt place) a b) (r : Arrives start.origins (seen link) way max before net) (same : back ≡ link) where
  hand : InTurn seen start ends before a t 0 → HandStands seen b.setting start b.seen net ends.newcomers 0 (seen back)
  hand i = subst (λ (l : L). HandStands seen b.setting start b.seen net ends.newcomers 0 (seen l)) (sym same) (met_hand seen start before net ends a b t (seen link) place (Some (scheme_for r.begins)) at took r.handed i)

  cause : IsCauseOf start.origins b.setting b.seen misses.NoMemory (seen back)
  cause = subst (λ (l : L). IsCauseOf start.origins b.setting b.seen misses.NoMemory (seen l)) (sym same) (dry_cause start b.setting b.seen (seen link) way max before net r)

pub miss-requires-clause-stands : goal.miss-requires-clause-stands
miss-requires-clause-stands g c =
    let f = c.requires.fresh in
    (f.0, c.args.self.now.newcomers, 0, hand g.L.Link.seen f.0 f.1 (g.N.Net.seen c.args.net.now) c.args.self.now c.args.single.now c.met.new.self c.args.now c.args.link c.in-Err.link c.place-place.result c.args.way c.args.max c.place-place.ensures c.met.ensures.turn f.3 c.in-Err.ensures f.2)

pub returns-in-Err-clause-in_turn : goal.returns-in-Err-clause-in_turn
returns-in-Err-clause-in_turn g c start before i r =
    let seen = g.L.Link.seen in
    let net = g.N.Net.seen c.args.net.now in
    let net' = g.N.Net.seen c.miss.new.net in
    let a = c.args.single.now in
    let b = c.met.new.self in
    let d = c.miss.new.single in
    let same = newcomers_lost c.args.self.now c.lost.new.self c.lost.ensures.same in
    let in_hand = hand seen start before net c.args.self.now a b c.args.now c.args.link c.in-Err.link c.place-place.result c.args.way c.args.max c.place-place.ensures c.met.ensures.turn r c.in-Err.ensures i in
    let why = cause seen start before net c.args.self.now a b c.args.now c.args.link c.in-Err.link c.place-place.result c.args.way c.args.max c.place-place.ensures c.met.ensures.turn r c.in-Err.ensures in
    let links = c.miss.ensures.stands start c.args.self.now.newcomers 0 in_hand why in
    turn_on seen start c.args.self.now c.lost.new.self before net' c.args.now 0 0 a d (ends_lost c.args.self.now c.lost.new.self c.lost.ensures.same) (quiet_both a b d (meets_quiet c.place-place.result a b c.met.ensures.turn) c.miss.ensures.quietly) c.miss.ensures.sound i
    (subst (λ (ns : List (Newcomer g.row.L.Denot)). LinksStand seen d.setting start d.seen net' ns 0) (sym same) links)

pub returns-in-Ok-clause-kept : goal.returns-in-Ok-clause-kept
returns-in-Ok-clause-kept g c =
    subst (λ (o : Option ℕ). KeepsFrom o c.args.self.now.newcomers c.greet.new.self.newcomers) c.in-Ok.ensures.2.from_is c.greet.ensures.kept

pub returns-in-Err-clause-kept : goal.returns-in-Err-clause-kept
returns-in-Err-clause-kept g c = inl (newcomers_lost c.args.self.now c.lost.new.self c.lost.ensures.same)

pub returns-in-Err-clause-few : goal.returns-in-Err-clause-few
returns-in-Err-clause-few g c = let long = ap length (newcomers_lost c.args.self.now c.lost.new.self c.lost.ensures.same) in omega (arith, long)

pub returns-in-Err-clause-serves : goal.returns-in-Err-clause-serves
returns-in-Err-clause-serves g c =
    record {
      ends = ends_lost c.args.self.now c.lost.new.self c.lost.ensures.same;
      dialers = c.lost.ensures.same.dialers;
      counts = c.miss.ensures.counts;
      quietly = quiet_both c.args.single.now c.met.new.self c.miss.new.single (meets_quiet c.place-place.result c.args.single.now c.met.new.self c.met.ensures.turn) c.miss.ensures.quietly;
      lanes = lanes_both c.args.single.now c.met.new.self c.miss.new.single (meets_lanes c.place-place.result c.args.single.now c.met.new.self c.met.ensures.turn) c.miss.ensures.no_lane;
    }

pub returns-in-Err-clause-frees : goal.returns-in-Err-clause-frees
returns-in-Err-clause-frees g c =
    let at : (g.L.Link.seen c.in-Err.link).place ≡ c.place-place.result = ap (λ (l : g.row.L.Denot). (g.L.Link.seen l).place) c.in-Err.ensures ∙ sym c.place-place.ensures in
    frees_lost c.place-place.result (g.N.Net.seen c.args.net.now) (g.N.Net.seen c.miss.new.net) (subst (λ (q : ℕ). GivesOneBack q (g.N.Net.seen c.args.net.now) (g.N.Net.seen c.miss.new.net)) at c.miss.ensures.back) c.args.now c.args.self.now.dialers c.lost.new.self.dialers c.lost.ensures.freed

pub returns-in-Err-clause-young : goal.returns-in-Err-clause-young
returns-in-Err-clause-young g c = λ a.
    subst (λ (ns : List (Newcomer g.row.L.Denot)). AreYoung c.args.now 0 ns) (sym (newcomers_lost c.args.self.now c.lost.new.self c.lost.ensures.same)) a

pub returns-in-Ok-clause-waited : goal.returns-in-Ok-clause-waited
returns-in-Ok-clause-waited g c = λ first opened le a.
    let n = c.in-Ok.ensures in
    c.greet.ensures.waited first opened 0 (inr (subst (λ (l : g.row.L.Denot). opened ≤ (g.L.Link.seen l).place) (sym n.2.fresh.link_is) le)) a

pub returns-in-Err-clause-waited : goal.returns-in-Err-clause-waited
returns-in-Err-clause-waited g c = λ first opened le a.
    subst (λ (ns : List (Newcomer g.row.L.Denot)). AreWaitingBehind g.L.Link.seen first opened 0 ns) (sym (newcomers_lost c.args.self.now c.lost.new.self c.lost.ensures.same)) a

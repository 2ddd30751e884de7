-- The first link is taken out, greeted, and is then after the others, or gone.
use Rattle.std.proofs.Common.{◌≡◌, refl, sym, ap, subst, List, ℕ, ◌+◌, ◌-◌, length, arith}
use Rattle.std.specs.Prelude.{suc}
use Rattle.sp_ends.specs.EndViews.{LinkEndsView}
use Rattle.sp_ends.specs.declared.newcomer.Newcomer.{Newcomer}
use Rattle.sp_ends.specs.EndsTurns.{InTurn, AreYoung, AreWaitingBehind}
use Rattle.sp_ends.proofs.Young.{young_none, young_rest}
use Rattle.sp_ends.proofs.Waited.{waiting_none, waiting_rest}
use Rattle.sp_ends.proofs.links.LinkEnds.greet_all.Goals as goal
use Rattle.sp_ends.proofs.TurnParts.{turn_with, ends_none, same_dialers, counts_none, serves_both, serves_less}
use Rattle.sp_ends.proofs.Turns.{quiet_none, lanes_none}
use Rattle.sp_ends.specs.Freeing.{Frees}
use Rattle.sp_ends.specs.declared.dialer.Dialer.{Dialer}
use Rattle.sp_ends.specs.Listening.{room_for, IsFromOne}
use Rattle.sp_ends.proofs.Owned.{fewer_none, fewer_both, fewer_step}
use Rattle.sp_ends.proofs.FreedDialers.{frees_none, frees_both}

pub greets-init : goal.greets-init
greets-init g c =
    let n : length c.args.self.now.newcomers ≡ length c.args.self.now.newcomers - 0 = omega arith in
    record {
      in_turn = λ start i. subst (λ (m : ℕ). InTurn g.L.Link.seen start c.args.self.now (g.N.Net.seen c.args.net.now) c.args.single.now c.args.now m) n i;
      stands = (c.requires.in_turn.0, subst (λ (m : ℕ). InTurn g.L.Link.seen c.requires.in_turn.0 c.args.self.now (g.N.Net.seen c.args.net.now) c.args.single.now c.args.now m) n c.requires.in_turn.1);
      few = omega arith;
      own = fewer_none c.args.self.now.newcomers;
      serves = record { ends = ends_none c.args.self.now; dialers = same_dialers c.args.self.now.dialers; counts = counts_none (g.N.Net.seen c.args.net.now); quietly = quiet_none c.args.single.now; lanes = lanes_none c.args.single.now };
      frees = frees_none c.args.now (g.N.Net.seen c.args.net.now) (g.N.Net.seen c.args.net.now) c.args.self.now.dialers c.args.self.now.dialers (omega arith) refl refl;
      dry = c.requires.dry;
      young = young_none c.args.now (length c.args.self.now.newcomers - 0) c.args.self.now.newcomers (omega arith);
      waited = λ opened. waiting_none g.L.Link.seen opened (length c.args.self.now.newcomers - 0) c.args.self.now.newcomers (omega arith);
    }

pub greet-requires-clause-in_turn : goal.greet-requires-clause-in_turn
greet-requires-clause-in_turn g c =
    let same = ap (λ (e : LinkEndsView g.row.L.Denot). length e.newcomers) c.self.view_is in
    let end = c.len-end.ensures in
    let below = c.greets-test.true in
    let one : length c.args.self.now.newcomers - c.greets.counter ≡ suc (length c.args.self.now.newcomers - (c.greets.counter + 1)) = omega (arith, same, end, below) in
    let first = c.in-Some.ensures.0 in
    (c.greets.invariant.stands.0, length c.args.self.now.newcomers - (c.greets.counter + 1), turn_with g.L.Link.seen c.greets.invariant.stands.0 c.in-Some.newcomer c.next_newcomer.new.self.newcomers c.greets.self c.next_newcomer.new.self (g.N.Net.seen c.greets.net) c.args.now (length c.args.self.now.newcomers - c.greets.counter) (length c.args.self.now.newcomers - (c.greets.counter + 1)) c.greets.single first c.in-Some.ensures.1 one c.greets.invariant.stands.1)

pub greet-requires-clause-room : goal.greet-requires-clause-room
greet-requires-clause-room g c =
    let listeners = ap (λ (e : LinkEndsView g.row.L.Denot). room_for (length e.listeners)) c.in-Some.ensures.1 in
    let room = c.in-Some.ensures.3 in omega (arith, room, listeners)

pub greet-requires-clause-from : goal.greet-requires-clause-from
greet-requires-clause-from g c =
    subst (λ (n : ℕ). IsFromOne n c.in-Some.newcomer.from) (sym (ap (λ (e : LinkEndsView g.row.L.Denot). length e.listeners) c.in-Some.ensures.1)) c.in-Some.ensures.2

pub greets-preserved : goal.greets-preserved
greets-preserved g c =
    let same = ap (λ (e : LinkEndsView g.row.L.Denot). length e.newcomers) c.self.view_is in
    let end = c.len-end.ensures in
    let below = c.greets-test.true in
    let one : length c.args.self.now.newcomers - c.greets.counter ≡ suc (length c.args.self.now.newcomers - (c.greets.counter + 1)) = omega (arith, same, end, below) in
    let first = c.in-Some.ensures.0 in
    let rest = c.in-Some.ensures.1 in
    record {
      in_turn = λ start i. c.greet.ensures.in_turn start (length c.args.self.now.newcomers - (c.greets.counter + 1)) (turn_with g.L.Link.seen start c.in-Some.newcomer c.next_newcomer.new.self.newcomers c.greets.self c.next_newcomer.new.self (g.N.Net.seen c.greets.net) c.args.now (length c.args.self.now.newcomers - c.greets.counter) (length c.args.self.now.newcomers - (c.greets.counter + 1)) c.greets.single first rest one (c.greets.invariant.in_turn start i));
      stands = (c.greets.invariant.stands.0, c.greet.ensures.in_turn c.greets.invariant.stands.0 (length c.args.self.now.newcomers - (c.greets.counter + 1)) (turn_with g.L.Link.seen c.greets.invariant.stands.0 c.in-Some.newcomer c.next_newcomer.new.self.newcomers c.greets.self c.next_newcomer.new.self (g.N.Net.seen c.greets.net) c.args.now (length c.args.self.now.newcomers - c.greets.counter) (length c.args.self.now.newcomers - (c.greets.counter + 1)) c.greets.single first rest one c.greets.invariant.stands.1));
      few = let long = ap length first in let more = c.greet.ensures.few in let few = c.greets.invariant.few in omega (arith, long, more, few);
      own = fewer_both c.args.self.now.newcomers c.greets.self.newcomers c.greet.new.self.newcomers c.greets.invariant.own (fewer_step c.in-Some.newcomer c.greets.self.newcomers c.next_newcomer.new.self.newcomers c.greet.new.self.newcomers first c.greet.ensures.kept);
      serves = serves_both c.args.self.now c.greets.self c.greet.new.self (g.N.Net.seen c.args.net.now) (g.N.Net.seen c.greets.net) (g.N.Net.seen c.greet.new.net) c.args.single.now c.greets.single c.greet.new.single c.greets.invariant.serves (serves_both c.greets.self c.next_newcomer.new.self c.greet.new.self (g.N.Net.seen c.greets.net) (g.N.Net.seen c.greets.net) (g.N.Net.seen c.greet.new.net) c.greets.single c.greets.single c.greet.new.single (serves_less c.greets.self c.next_newcomer.new.self (g.N.Net.seen c.greets.net) c.greets.single c.next_newcomer.new.self.newcomers rest) c.greet.ensures.serves);
      frees = frees_both c.args.now (g.N.Net.seen c.args.net.now) (g.N.Net.seen c.greets.net) (g.N.Net.seen c.greet.new.net) c.args.self.now.dialers c.greets.self.dialers c.greet.new.self.dialers c.greets.invariant.frees (subst (λ (ds : List Dialer). Frees c.args.now (g.N.Net.seen c.greets.net) (g.N.Net.seen c.greet.new.net) ds c.greet.new.self.dialers) (ap (λ (e : LinkEndsView g.row.L.Denot). e.dialers) rest) c.greet.ensures.frees);
      dry = c.greet.ensures.dry;
      young = c.greet.ensures.young (length c.args.self.now.newcomers - (c.greets.counter + 1)) (young_rest c.args.now (length c.args.self.now.newcomers - c.greets.counter) (length c.args.self.now.newcomers - (c.greets.counter + 1)) c.in-Some.newcomer c.next_newcomer.new.self.newcomers one (subst (λ (ns : List (Newcomer g.row.L.Denot)). AreYoung c.args.now (length c.args.self.now.newcomers - c.greets.counter) ns) first c.greets.invariant.young));
      waited = λ opened.
          let h = waiting_rest g.L.Link.seen c.args.self.now.newcomers opened (length c.args.self.now.newcomers - c.greets.counter) (length c.args.self.now.newcomers - (c.greets.counter + 1)) c.in-Some.newcomer c.next_newcomer.new.self.newcomers one (subst (λ (ns : List (Newcomer g.row.L.Denot)). AreWaitingBehind g.L.Link.seen c.args.self.now.newcomers opened (length c.args.self.now.newcomers - c.greets.counter) ns) first (c.greets.invariant.waited opened)) in
          c.greet.ensures.waited c.args.self.now.newcomers opened (length c.args.self.now.newcomers - (c.greets.counter + 1)) h.0 h.1;
    }

pub returns-clause-in_turn : goal.returns-clause-in_turn
returns-clause-in_turn g c =
    λ start i.
    let same = ap (λ (e : LinkEndsView g.row.L.Denot). length e.newcomers) c.self.view_is in
    let end = c.len-end.ensures in
    let past = c.greets-test.false in
    let none : length c.args.self.now.newcomers - c.greets.counter ≡ 0 = omega (arith, same, end, past) in
    subst (λ (m : ℕ). InTurn g.L.Link.seen start c.greets.self (g.N.Net.seen c.greets.net) c.greets.single c.args.now m) none (c.greets.invariant.in_turn start i)

pub returns-clause-young : goal.returns-clause-young
returns-clause-young g c =
    let same = ap (λ (e : LinkEndsView g.row.L.Denot). length e.newcomers) c.self.view_is in
    let end = c.len-end.ensures in
    let past = c.greets-test.false in
    let none : length c.args.self.now.newcomers - c.greets.counter ≡ 0 = omega (arith, same, end, past) in
    subst (λ (m : ℕ). AreYoung c.args.now m c.greets.self.newcomers) none c.greets.invariant.young

pub returns-clause-waited : goal.returns-clause-waited
returns-clause-waited g c = λ opened.
    let same = ap (λ (e : LinkEndsView g.row.L.Denot). length e.newcomers) c.self.view_is in
    let end = c.len-end.ensures in
    let past = c.greets-test.false in
    let none : length c.args.self.now.newcomers - c.greets.counter ≡ 0 = omega (arith, same, end, past) in
    subst (λ (m : ℕ). AreWaitingBehind g.L.Link.seen c.args.self.now.newcomers opened m c.greets.self.newcomers) none (c.greets.invariant.waited opened)

-- The link is after the others, or with the socket, or back.
use Rattle.std.proofs.Common.{refl, sym, ap, subst, List, [], ◌∷◌, ◌++◌, ℕ, length, length-append, arith, inl, inr}
use Rattle.sp_ends.specs.declared.newcomer.Newcomer.{Newcomer}
use Rattle.sp_ends.specs.declared.dialer.Dialer.{Dialer}
use Rattle.sp_ends.specs.EndViews.{LinkEndsView}
use Rattle.sp_ends.specs.RunLinks.{LinksStand}
use Rattle.sp_ends.specs.Freeing.{AreSameDialers}
use Rattle.sp_ends.specs.EndsTurns.{AreYoung, AreWaitingBehind}
use Rattle.sp_ends.specs.Listening.{IsFromOne}
use Rattle.sp_ends.proofs.Young.{young_more}
use Rattle.sp_ends.proofs.Waited.{waited_since, waiting_more}
use Rattle.sp_ends.proofs.links.LinkEnds.greet.Goals as goal
use Rattle.sp_ends.proofs.FreedDialers.{frees_none, frees_lost}
use Rattle.sp_ends.specs.NewcomerSteps.{GivesOneBack}
use Rattle.sp_ends.proofs.TurnParts.{turn_after, ends_none, ends_others, ends_lost, newcomers_lost, same_dialers}

pub keep-requires : goal.keep-requires
keep-requires g c = record { room = c.requires.room; from = subst (IsFromOne (length c.args.self.now.listeners)) (sym c.in-Stays.ensures.from) c.requires.from }

pub returns-in-Stays-clause-in_turn : goal.returns-in-Stays-clause-in_turn
returns-in-Stays-clause-in_turn g c =
    λ start k i.
    let is = c.keep.ensures in
    let whole = ap (λ (e : LinkEndsView g.row.L.Denot). e.newcomers) is in
    turn_after g.L.Link.seen start c.args.newcomer c.args.self.now c.keep.new.self (g.N.Net.seen c.args.net.now) (g.N.Net.seen c.greet_one.new.net) c.args.now k k c.args.single.now c.greet_one.new.single (ends_others c.args.self.now c.keep.new.self (c.args.self.now.newcomers ++ c.in-Stays.newcomer ∷ []) is)
    c.in-Stays.ensures.quietly c.in-Stays.ensures.sound i
    (subst (λ (ns : List (Newcomer g.row.L.Denot)). LinksStand g.L.Link.seen c.greet_one.new.single.setting start c.greet_one.new.single.seen (g.N.Net.seen c.greet_one.new.net) ns k) (sym whole) (c.in-Stays.ensures.stands start c.args.self.now.newcomers k i.links))

pub returns-in-Stays-clause-serves : goal.returns-in-Stays-clause-serves
returns-in-Stays-clause-serves g c =
    let is = c.keep.ensures in
    record {
      ends = ends_others c.args.self.now c.keep.new.self (c.args.self.now.newcomers ++ c.in-Stays.newcomer ∷ []) is;
      dialers = subst (λ (ds : List Dialer). AreSameDialers c.args.self.now.dialers ds) (sym (ap (λ (e : LinkEndsView g.row.L.Denot). e.dialers) is)) (same_dialers c.args.self.now.dialers);
      counts = c.in-Stays.ensures.counts;
      quietly = c.in-Stays.ensures.quietly;
      lanes = c.in-Stays.ensures.no_lane;
    }

pub returns-in-Stays-clause-kept : goal.returns-in-Stays-clause-kept
returns-in-Stays-clause-kept g c = inr (c.in-Stays.newcomer, c.in-Stays.ensures.from, ap (λ (e : LinkEndsView g.row.L.Denot). e.newcomers) c.keep.ensures)

pub returns-in-Up-clause-kept : goal.returns-in-Up-clause-kept
returns-in-Up-clause-kept g c = inl refl

pub returns-in-Missed-clause-kept : goal.returns-in-Missed-clause-kept
returns-in-Missed-clause-kept g c = inl (newcomers_lost c.args.self.now c.lost.new.self c.lost.ensures.same)

pub returns-in-Stays-clause-few : goal.returns-in-Stays-clause-few
returns-in-Stays-clause-few g c =
    let long = ap (λ (e : LinkEndsView g.row.L.Denot). length e.newcomers) c.keep.ensures in omega (arith, long, length-append c.args.self.now.newcomers (c.in-Stays.newcomer ∷ []))

pub returns-in-Up-clause-in_turn : goal.returns-in-Up-clause-in_turn
returns-in-Up-clause-in_turn g c =
    λ start k i.
    turn_after g.L.Link.seen start c.args.newcomer c.args.self.now c.args.self.now (g.N.Net.seen c.args.net.now) (g.N.Net.seen c.greet_one.new.net) c.args.now k k c.args.single.now c.greet_one.new.single (ends_none c.args.self.now) c.in-Up.ensures.quietly c.in-Up.ensures.sound i (c.in-Up.ensures.stands start c.args.self.now.newcomers k i.links)

pub returns-in-Up-clause-serves : goal.returns-in-Up-clause-serves
returns-in-Up-clause-serves g c =
    record { ends = ends_none c.args.self.now; dialers = same_dialers c.args.self.now.dialers; counts = c.in-Up.ensures.counts; quietly = c.in-Up.ensures.quietly; lanes = c.in-Up.ensures.no_lane }

pub returns-in-Missed-clause-in_turn : goal.returns-in-Missed-clause-in_turn
returns-in-Missed-clause-in_turn g c =
    λ start k i.
    let same = newcomers_lost c.args.self.now c.lost.new.self c.lost.ensures.same in
    turn_after g.L.Link.seen start c.args.newcomer c.args.self.now c.lost.new.self (g.N.Net.seen c.args.net.now) (g.N.Net.seen c.greet_one.new.net) c.args.now k k c.args.single.now c.greet_one.new.single (ends_lost c.args.self.now c.lost.new.self c.lost.ensures.same) c.in-Missed.ensures.quietly c.in-Missed.ensures.sound i
    (subst (λ (ns : List (Newcomer g.row.L.Denot)). LinksStand g.L.Link.seen c.greet_one.new.single.setting start c.greet_one.new.single.seen (g.N.Net.seen c.greet_one.new.net) ns k) (sym same) (c.in-Missed.ensures.stands start c.args.self.now.newcomers k i.links))

pub returns-in-Missed-clause-serves : goal.returns-in-Missed-clause-serves
returns-in-Missed-clause-serves g c =
    record { ends = ends_lost c.args.self.now c.lost.new.self c.lost.ensures.same; dialers = c.lost.ensures.same.dialers; counts = c.in-Missed.ensures.counts; quietly = c.in-Missed.ensures.quietly; lanes = c.in-Missed.ensures.no_lane }

pub returns-in-Stays-clause-frees : goal.returns-in-Stays-clause-frees
returns-in-Stays-clause-frees g c =
    let o = c.in-Stays.ensures.counts.opened in
    frees_none c.args.now (g.N.Net.seen c.args.net.now) (g.N.Net.seen c.greet_one.new.net) c.args.self.now.dialers _ (omega (arith, o)) c.in-Stays.ensures.back (ap (λ (e : LinkEndsView g.row.L.Denot). e.dialers) c.keep.ensures)

pub returns-in-Up-clause-frees : goal.returns-in-Up-clause-frees
returns-in-Up-clause-frees g c =
    let o = c.in-Up.ensures.counts.opened in
    frees_none c.args.now (g.N.Net.seen c.args.net.now) (g.N.Net.seen c.greet_one.new.net) c.args.self.now.dialers _ (omega (arith, o)) c.in-Up.ensures.back refl

pub returns-in-Missed-clause-frees : goal.returns-in-Missed-clause-frees
returns-in-Missed-clause-frees g c =
    frees_lost c.place-place.result (g.N.Net.seen c.args.net.now) (g.N.Net.seen c.greet_one.new.net) (subst (λ (q : ℕ). GivesOneBack q (g.N.Net.seen c.args.net.now) (g.N.Net.seen c.greet_one.new.net)) (sym c.place-place.ensures) c.in-Missed.ensures.back) c.args.now c.args.self.now.dialers c.lost.new.self.dialers c.lost.ensures.freed

pub returns-in-Stays-clause-young : goal.returns-in-Stays-clause-young
returns-in-Stays-clause-young g c = λ k a.
    let whole = sym (ap (λ (e : LinkEndsView g.row.L.Denot). e.newcomers) c.keep.ensures) in
    subst (λ (ns : List (Newcomer g.row.L.Denot)). AreYoung c.args.now k ns) whole (young_more c.args.now k c.args.self.now.newcomers c.in-Stays.newcomer a c.in-Stays.ensures.young)

pub returns-in-Missed-clause-young : goal.returns-in-Missed-clause-young
returns-in-Missed-clause-young g c = λ k a.
    subst (λ (ns : List (Newcomer g.row.L.Denot)). AreYoung c.args.now k ns) (sym (newcomers_lost c.args.self.now c.lost.new.self c.lost.ensures.same)) a

pub returns-in-Stays-clause-waited : goal.returns-in-Stays-clause-waited
returns-in-Stays-clause-waited g c = λ first opened k known a.
    let whole = sym (ap (λ (e : LinkEndsView g.row.L.Denot). e.newcomers) c.keep.ensures) in
    subst (λ (ns : List (Newcomer g.row.L.Denot)). AreWaitingBehind g.L.Link.seen first opened k ns) whole (waiting_more g.L.Link.seen first opened k c.args.self.now.newcomers c.in-Stays.newcomer (waited_since g.L.Link.seen first opened c.args.newcomer c.in-Stays.newcomer known c.in-Stays.ensures.waited) a)

pub returns-in-Up-clause-waited : goal.returns-in-Up-clause-waited
returns-in-Up-clause-waited g c = λ first opened k known a. a

pub returns-in-Missed-clause-waited : goal.returns-in-Missed-clause-waited
returns-in-Missed-clause-waited g c = λ first opened k known a.
    subst (λ (ns : List (Newcomer g.row.L.Denot)). AreWaitingBehind g.L.Link.seen first opened k ns) (sym (newcomers_lost c.args.self.now c.lost.new.self c.lost.ensures.same)) a

use Rattle.std.proofs.Common.{◌≡◌, Some, ap, slice_get, refl, arith, inl}
use Rattle.sp_ends.specs.EndViews.{LinkEndsView}
use Rattle.sp_ends.proofs.ListReads.{at_index}
use Rattle.sp_ends.proofs.TurnParts.{same_dialers}
use Rattle.sp_ends.proofs.NewcomingTurn.{untouched}
use Rattle.sp_ends.proofs.Arriving.{arrives_served}
use Rattle.sp_ends.proofs.FreedDialers.{frees_none, frees_both}
use Rattle.sp_ends.proofs.links.LinkEnds.accept_one.Goals as goal

pub meet_newcomer-requires-clause-fresh : goal.meet_newcomer-requires-clause-fresh
meet_newcomer-requires-clause-fresh g c =
    let net = g.N.Net.seen c.args.net.now in
    let at : slice_get c.args.self.now.listeners c.args.i ≡ Some c.index.result.now = at_index c.self.inside.listeners.items c.args.self.now.listeners c.args.i c.index.result.now (ap (λ (e : LinkEndsView g.row.L.Denot). e.listeners) c.self.view_is) c.requires.inside c.index.ensures in
    let i = c.requires.in_turn in
    (i.0, net, i.1, arrives_served i.0.origins c.args.self.now c.args.i c.index.result.now (g.L.Link.seen c.in-Got.link) c.serving-way.result c.listen_limit-max.result net (g.N.Net.seen c.accept.new.self) i.1.of_run at (c.listen_limit-max.ensures c.index.result.now at) (c.serving-way.ensures c.index.result.now at) (c.requires.listens c.index.result.now at) c.in-Got.ensures.linking.shows)

pub returns-in-NotYet-clause-in_turn : goal.returns-in-NotYet-clause-in_turn
returns-in-NotYet-clause-in_turn g c start i = untouched g.L.Link.seen start c.args.self.now (g.N.Net.seen c.args.net.now) (g.N.Net.seen c.accept.new.self) c.args.single.now c.args.now 0 c.in-NotYet.ensures.linking.shows.0 i

pub returns-in-NotYet-clause-dialers : goal.returns-in-NotYet-clause-dialers
returns-in-NotYet-clause-dialers g c = same_dialers c.args.self.now.dialers

pub returns-in-Failed-clause-in_turn : goal.returns-in-Failed-clause-in_turn
returns-in-Failed-clause-in_turn g c start i = untouched g.L.Link.seen start c.args.self.now (g.N.Net.seen c.args.net.now) (g.N.Net.seen c.accept.new.self) c.args.single.now c.args.now 0 c.in-Failed.ensures.linking.shows.0 i

pub returns-in-Failed-clause-dialers : goal.returns-in-Failed-clause-dialers
returns-in-Failed-clause-dialers g c = same_dialers c.args.self.now.dialers

pub returns-in-Got-clause-in_turn : goal.returns-in-Got-clause-in_turn
returns-in-Got-clause-in_turn g c start i =
    let net = g.N.Net.seen c.args.net.now in
    let at : slice_get c.args.self.now.listeners c.args.i ≡ Some c.index.result.now = at_index c.self.inside.listeners.items c.args.self.now.listeners c.args.i c.index.result.now (ap (λ (e : LinkEndsView g.row.L.Denot). e.listeners) c.self.view_is) c.requires.inside c.index.ensures in
    c.meet_newcomer.ensures.in_turn start net i (arrives_served start.origins c.args.self.now c.args.i c.index.result.now (g.L.Link.seen c.in-Got.link) c.serving-way.result c.listen_limit-max.result net (g.N.Net.seen c.accept.new.self) i.of_run at (c.listen_limit-max.ensures c.index.result.now at) (c.serving-way.ensures c.index.result.now at) (c.requires.listens c.index.result.now at) c.in-Got.ensures.linking.shows)

pub returns-in-NotYet-clause-frees : goal.returns-in-NotYet-clause-frees
returns-in-NotYet-clause-frees g c =
    let u = c.in-NotYet.ensures.linking.shows.0 in
    frees_none c.args.now (g.N.Net.seen c.args.net.now) (g.N.Net.seen c.accept.new.self) c.args.self.now.dialers c.args.self.now.dialers (let o = u.opened in omega (arith, o)) u.back refl

pub returns-in-Failed-clause-frees : goal.returns-in-Failed-clause-frees
returns-in-Failed-clause-frees g c =
    let u = c.in-Failed.ensures.linking.shows.0 in
    frees_none c.args.now (g.N.Net.seen c.args.net.now) (g.N.Net.seen c.accept.new.self) c.args.self.now.dialers c.args.self.now.dialers (let o = u.opened in omega (arith, o)) u.back refl

pub returns-in-Got-clause-frees : goal.returns-in-Got-clause-frees
returns-in-Got-clause-frees g c =
    let h = c.in-Got.ensures.linking.shows in
    frees_both c.args.now (g.N.Net.seen c.args.net.now) (g.N.Net.seen c.accept.new.self) (g.N.Net.seen c.meet_newcomer.new.net) c.args.self.now.dialers c.args.self.now.dialers c.meet_newcomer.new.self.dialers (frees_none c.args.now (g.N.Net.seen c.args.net.now) (g.N.Net.seen c.accept.new.self) c.args.self.now.dialers c.args.self.now.dialers (let o = h.opened in omega (arith, o)) h.back refl) c.meet_newcomer.ensures.frees

pub returns-in-NotYet-clause-handed : goal.returns-in-NotYet-clause-handed
returns-in-NotYet-clause-handed g c = let o = c.in-NotYet.ensures.linking.shows.0.opened in omega (arith, o)

pub returns-in-Failed-clause-handed : goal.returns-in-Failed-clause-handed
returns-in-Failed-clause-handed g c = let o = c.in-Failed.ensures.linking.shows.0.opened in omega (arith, o)

pub returns-in-NotYet-clause-none : goal.returns-in-NotYet-clause-none
returns-in-NotYet-clause-none g c = λ no i f.
    let x = c.in-NotYet.ensures.linking.shows in
    let o = x.0.opened in omega (arith, o, x.1, x.2, i)

pub returns-in-Failed-clause-none : goal.returns-in-Failed-clause-none
returns-in-Failed-clause-none g c = λ no i f.
    let x = c.in-Failed.ensures.linking.shows in
    let o = x.0.opened in omega (arith, o, x.1, x.2, f)

pub returns-in-Got-clause-handed : goal.returns-in-Got-clause-handed
returns-in-Got-clause-handed g c =
    let o = c.in-Got.ensures.linking.shows.opened in
    let same = c.meet_newcomer.ensures.serves.counts.opened in omega (arith, o, same)

pub returns-in-Got-clause-young : goal.returns-in-Got-clause-young
returns-in-Got-clause-young g c = λ a. c.meet_newcomer.ensures.young a

pub returns-in-NotYet-clause-few : goal.returns-in-NotYet-clause-few
returns-in-NotYet-clause-few g c = let o = c.in-NotYet.ensures.linking.shows.0.opened in omega (arith, o)

pub returns-in-Failed-clause-few : goal.returns-in-Failed-clause-few
returns-in-Failed-clause-few g c = let o = c.in-Failed.ensures.linking.shows.0.opened in omega (arith, o)

pub returns-in-Got-clause-few : goal.returns-in-Got-clause-few
returns-in-Got-clause-few g c =
    let o = c.in-Got.ensures.linking.shows.opened in
    let same = c.meet_newcomer.ensures.serves.counts.opened in omega (arith, o, same, c.meet_newcomer.ensures.few)

pub returns-in-NotYet-clause-waited : goal.returns-in-NotYet-clause-waited
returns-in-NotYet-clause-waited g c = λ first opened le a. a

pub returns-in-Failed-clause-waited : goal.returns-in-Failed-clause-waited
returns-in-Failed-clause-waited g c = λ first opened le a. a

pub returns-in-Got-clause-waited : goal.returns-in-Got-clause-waited
returns-in-Got-clause-waited g c = λ first opened le a.
    let place = c.in-Got.ensures.linking.shows.fresh.place in c.meet_newcomer.ensures.waited first opened (omega (arith, place, le)) a

pub returns-in-Begun-clause-in_turn : goal.returns-in-Begun-clause-in_turn
returns-in-Begun-clause-in_turn g c start i = untouched g.L.Link.seen start c.args.self.now (g.N.Net.seen c.args.net.now) (g.N.Net.seen c.accept.new.self) c.args.single.now c.args.now 0 c.in-Begun.ensures.linking.shows.0 i

pub returns-in-Begun-clause-dialers : goal.returns-in-Begun-clause-dialers
returns-in-Begun-clause-dialers g c = same_dialers c.args.self.now.dialers

pub returns-in-Begun-clause-frees : goal.returns-in-Begun-clause-frees
returns-in-Begun-clause-frees g c =
    let u = c.in-Begun.ensures.linking.shows.0 in
    frees_none c.args.now (g.N.Net.seen c.args.net.now) (g.N.Net.seen c.accept.new.self) c.args.self.now.dialers c.args.self.now.dialers (let o = u.opened in omega (arith, o)) u.back refl

pub returns-in-Begun-clause-handed : goal.returns-in-Begun-clause-handed
returns-in-Begun-clause-handed g c = let o = c.in-Begun.ensures.linking.shows.0.opened in omega (arith, o)

pub returns-in-Begun-clause-none : goal.returns-in-Begun-clause-none
returns-in-Begun-clause-none g c = λ no i f.
    let x = c.in-Begun.ensures.linking.shows in
    let o = x.0.opened in omega (arith, o, x.1, x.2, i)

pub returns-in-Begun-clause-few : goal.returns-in-Begun-clause-few
returns-in-Begun-clause-few g c = let o = c.in-Begun.ensures.linking.shows.0.opened in omega (arith, o)

pub returns-in-Begun-clause-waited : goal.returns-in-Begun-clause-waited
returns-in-Begun-clause-waited g c = λ first opened le a. a

pub returns-in-NotYet-clause-kept : goal.returns-in-NotYet-clause-kept
returns-in-NotYet-clause-kept g c = inl refl

pub returns-in-Begun-clause-kept : goal.returns-in-Begun-clause-kept
returns-in-Begun-clause-kept g c = inl refl

pub returns-in-Failed-clause-kept : goal.returns-in-Failed-clause-kept
returns-in-Failed-clause-kept g c = inl refl

pub returns-in-Got-clause-kept : goal.returns-in-Got-clause-kept
returns-in-Got-clause-kept g c = c.meet_newcomer.ensures.kept

use Rattle.std.proofs.Common.{◌≡◌, ◌<◌, ◌+◌, ◌∙◌, ℕ, List, length, Some, None, Result, IfOk, subst, sym, ap, arith, slice_get, set, inl}
use Rattle.std.proofs.lemmas.List.{length-set}
use Rattle.std.proofs.lemmas.Option.{slice_get_within}
use Rattle.sp_base.specs.Addresses.{scheme_of}
use Rattle.sp_base.specs.Steps.{IsHandedOut, LinkedAs, Untouched}
use Rattle.sp_base.specs.Views.{NetView}
use Rattle.sp_base.specs.declared.error.NoMemory.{NoMemory}
use Rattle.sp_base.specs.declared.outside.Linked.{Linked}
use Rattle.sp_base.specs.declared.outside.Linked.TheVariants as linked
use Rattle.sp_links.specs.declared.way.Way.{Way}
use Rattle.sp_links.specs.Origins.{Origins, asking}
use Rattle.sp_ends.specs.RunLinks.{AreOfRun}
use Rattle.sp_ends.specs.declared.dialer.Dialer.{Dialer}
use Rattle.sp_ends.specs.declared.newcomer.Newcomer.{Newcomer}
use Rattle.sp_ends.specs.DialerSteps.{place_after}
use Rattle.sp_ends.specs.EndViews.{LinkEndsView, Beginning}
use Rattle.sp_ends.specs.Freeing.{Frees, AreSameDialers, Redials}
use Rattle.sp_ends.specs.Listening.{KeepsFrom}
use Rattle.sp_ends.specs.EndsTurns.{InTurn, Arrives, AsksNet, SameEnds, DialsOne, AreYoung, AreWaitingBehind}
use Rattle.sp_ends.proofs.ListReads.{at_index}
use Rattle.sp_ends.proofs.NewcomingTurn.{untouched}
use Rattle.sp_ends.proofs.NewcomingDials.{turned_as, tried, tried_free, said_none, asked_none, asked_on, asked_got, dialed_at, dials_then}
use Rattle.sp_ends.proofs.TurnParts.{dials_targets, ends_both, of_run_on}
use Rattle.sp_ends.proofs.Arriving.{arrives_dialed, set_at}
use Rattle.sp_ends.proofs.FreedDialers.{redials_none, redials_got}
use Rattle.sp_ends.proofs.DialedLinks.{knows_none, knows_got}
use Rattle.sp_ends.proofs.links.LinkEnds.dial_one.Given.{Over}
use Rattle.sp_ends.proofs.links.LinkEnds.dial_one.Goals.{After-dialed}
use Rattle.sp_ends.proofs.links.LinkEnds.dial_one.Goals as goal

some_dialer : {a b : Dialer} → Some a ≡ Some b → a ≡ b
some_dialer e = cc

-- ---- The dialer recorded the net's result

dialers_are : (g : Over) (c : After-dialed g) → c.self.inside.dialers.items ≡ c.args.self.now.dialers
dialers_are g c = ap (λ (v : LinkEndsView g.row.L.Denot). v.dialers) c.self.view_is

newcomers_are : (g : Over) (c : After-dialed g) → c.self.inside.newcomers.items ≡ c.args.self.now.newcomers
newcomers_are g c = ap (λ (v : LinkEndsView g.row.L.Denot). v.newcomers) c.self.view_is

there : (g : Over) (c : After-dialed g) → c.args.i < length c.args.self.now.dialers
there g c = slice_get_within c.args.self.now.dialers c.args.i c.requires.dialable.0 c.requires.dialable.1

-- it tried, and had no link where none was handed out
noted : (g : Over) (c : After-dialed g) (same : Type 0) → (same → place_after g.L.Link.seen c.dial-said.result ≡ None) → DialsOne c.args.i c.args.now same c.args.self.now.dialers (set c.self.inside.dialers.items c.args.i c.dialed.new.self)
noted g c same none =
    dialed_at g.L.Link.seen c.dial-said.result c.args.now same c.args.i c.self.inside.dialers.items c.args.self.now.dialers c.index_mut.result.now c.dialed.new.self (dialers_are g c) (there g c) c.index_mut.ensures.value c.dialed.ensures none

-- the dialers are as many as before
still_there : (g : Over) (c : After-dialed g) → c.args.i < length (set c.self.inside.dialers.items c.args.i c.dialed.new.self)
still_there g c =
    let long = ap length (dialers_are g c) in
    let same = length-set c.self.inside.dialers.items c.args.i c.dialed.new.self in
    let lt = there g c in omega (arith, lt, long, same)

-- the ends after that
module _ (g : Over) (c : After-dialed g) where
  abbrev now_ends : LinkEndsView g.row.L.Denot
  now_ends = record { role = c.self.inside.role; dice = c.self.inside.dice; asked = c.self.inside.asked; listeners = c.self.inside.listeners.items; dialers = set c.self.inside.dialers.items c.args.i c.dialed.new.self; newcomers = c.self.inside.newcomers.items }

  same_ends : (same : Type 0) → (same → place_after g.L.Link.seen c.dial-said.result ≡ None) → SameEnds c.args.self.now now_ends
  same_ends same none = tried _ c.args.self.now _ c.self.view_is (dials_targets c.args.i c.args.now same c.args.self.now.dialers _ (noted g c same none))

-- no link was handed out
module _ (g : Over) (c : After-dialed g) (none : place_after g.L.Link.seen c.dial-said.result ≡ None) where
  abbrev net : NetView
  net = g.N.Net.seen c.args.net.now

  abbrev net' : NetView
  net' = g.N.Net.seen c.dial-said.new.self

  net_same : Untouched net net'
  net_same = said_none g.L.Link.seen c.dial-said.result _ net net' c.dial-said.ensures.shows none

  on_in_turn : (start : Beginning) → InTurn g.L.Link.seen start c.args.self.now net c.args.single.now c.args.now 0 → InTurn g.L.Link.seen start (now_ends g c) net' c.args.single.now c.args.now 0
  on_in_turn start i =
      turned_as g.L.Link.seen start c.args.self.now (now_ends g c) net' c.args.single.now c.args.now 0 (same_ends g c (net'.opened ≡ net.opened) (λ m. none)) (newcomers_are g c) (untouched g.L.Link.seen start c.args.self.now net net' c.args.single.now c.args.now 0 net_same i)

  on_asks : AsksNet net net'
  on_asks = asked_none g.L.Link.seen c.dial-said.result _ net net' c.dial-said.ensures none

  on_dialed : DialsOne c.args.i c.args.now (net'.opened ≡ net.opened) c.args.self.now.dialers (set c.self.inside.dialers.items c.args.i c.dialed.new.self)
  on_dialed = noted g c (net'.opened ≡ net.opened) (λ m. none)

  on_redials : Redials c.args.i c.args.now net net' c.args.self.now.dialers (set c.self.inside.dialers.items c.args.i c.dialed.new.self)
  on_redials =
      redials_none c.args.i c.args.now net net' c.self.inside.dialers.items c.args.self.now.dialers c.dialed.new.self net_same (dialers_are g c) (there g c) (tried_free g.L.Link.seen c.dial-said.result c.args.now c.index_mut.result.now c.dialed.new.self c.dialed.ensures none)

pub returns-in-NotYet-clause-in_turn : goal.returns-in-NotYet-clause-in_turn
returns-in-NotYet-clause-in_turn g c = on_in_turn g (goal.at.returns-in-NotYet-clause-in_turn g c).After-dialed (ap (place_after g.L.Link.seen) c.in-NotYet.is)

pub returns-in-NotYet-clause-asks : goal.returns-in-NotYet-clause-asks
returns-in-NotYet-clause-asks g c = on_asks g (goal.at.returns-in-NotYet-clause-asks g c).After-dialed (ap (place_after g.L.Link.seen) c.in-NotYet.is)

pub returns-in-NotYet-clause-dialed : goal.returns-in-NotYet-clause-dialed
returns-in-NotYet-clause-dialed g c = on_dialed g (goal.at.returns-in-NotYet-clause-dialed g c).After-dialed (ap (place_after g.L.Link.seen) c.in-NotYet.is)

pub returns-in-NotYet-clause-redials : goal.returns-in-NotYet-clause-redials
returns-in-NotYet-clause-redials g c = on_redials g (goal.at.returns-in-NotYet-clause-redials g c).After-dialed (ap (place_after g.L.Link.seen) c.in-NotYet.is)

pub returns-in-NotYet-clause-same : goal.returns-in-NotYet-clause-same
returns-in-NotYet-clause-same g c = same_ends g (goal.at.returns-in-NotYet-clause-same g c).After-dialed (c.args.i ≡ c.args.i) (λ m. ap (place_after g.L.Link.seen) c.in-NotYet.is)

pub returns-in-NotYet-clause-kept : goal.returns-in-NotYet-clause-kept
returns-in-NotYet-clause-kept g c = inl (newcomers_are g (goal.at.returns-in-NotYet-clause-kept g c).After-dialed)

pub returns-in-NotYet-clause-few : goal.returns-in-NotYet-clause-few
returns-in-NotYet-clause-few g c = let same = ap length (newcomers_are g (goal.at.returns-in-NotYet-clause-few g c).After-dialed) in omega (arith, same)

pub returns-in-NotYet-clause-known : goal.returns-in-NotYet-clause-known
returns-in-NotYet-clause-known g c =
    let o = (net_same g (goal.at.returns-in-NotYet-clause-known g c).After-dialed (ap (place_after g.L.Link.seen) c.in-NotYet.is)).opened in
    knows_none (g.N.Net.seen c.args.net.now).opened (g.N.Net.seen c.dial-said.new.self) _ (omega (arith, o))

pub returns-in-NotYet-clause-young : goal.returns-in-NotYet-clause-young
returns-in-NotYet-clause-young g c = λ a.
    subst (λ (ns : List (Newcomer g.row.L.Denot)). AreYoung c.args.now 0 ns) (sym (newcomers_are g (goal.at.returns-in-NotYet-clause-young g c).After-dialed)) a

pub returns-in-NotYet-clause-waited : goal.returns-in-NotYet-clause-waited
returns-in-NotYet-clause-waited g c = λ first opened le a.
    subst (λ (ns : List (Newcomer g.row.L.Denot)). AreWaitingBehind g.L.Link.seen first opened 0 ns) (sym (newcomers_are g (goal.at.returns-in-NotYet-clause-waited g c).After-dialed)) a

pub returns-in-Begun-clause-in_turn : goal.returns-in-Begun-clause-in_turn
returns-in-Begun-clause-in_turn g c = on_in_turn g (goal.at.returns-in-Begun-clause-in_turn g c).After-dialed (ap (place_after g.L.Link.seen) c.in-Begun.is)

pub returns-in-Begun-clause-asks : goal.returns-in-Begun-clause-asks
returns-in-Begun-clause-asks g c = on_asks g (goal.at.returns-in-Begun-clause-asks g c).After-dialed (ap (place_after g.L.Link.seen) c.in-Begun.is)

pub returns-in-Begun-clause-dialed : goal.returns-in-Begun-clause-dialed
returns-in-Begun-clause-dialed g c = on_dialed g (goal.at.returns-in-Begun-clause-dialed g c).After-dialed (ap (place_after g.L.Link.seen) c.in-Begun.is)

pub returns-in-Begun-clause-redials : goal.returns-in-Begun-clause-redials
returns-in-Begun-clause-redials g c = on_redials g (goal.at.returns-in-Begun-clause-redials g c).After-dialed (ap (place_after g.L.Link.seen) c.in-Begun.is)

pub returns-in-Begun-clause-same : goal.returns-in-Begun-clause-same
returns-in-Begun-clause-same g c = same_ends g (goal.at.returns-in-Begun-clause-same g c).After-dialed (c.args.i ≡ c.args.i) (λ m. ap (place_after g.L.Link.seen) c.in-Begun.is)

pub returns-in-Begun-clause-kept : goal.returns-in-Begun-clause-kept
returns-in-Begun-clause-kept g c = inl (newcomers_are g (goal.at.returns-in-Begun-clause-kept g c).After-dialed)

pub returns-in-Begun-clause-few : goal.returns-in-Begun-clause-few
returns-in-Begun-clause-few g c = let same = ap length (newcomers_are g (goal.at.returns-in-Begun-clause-few g c).After-dialed) in omega (arith, same)

pub returns-in-Begun-clause-known : goal.returns-in-Begun-clause-known
returns-in-Begun-clause-known g c =
    let o = (net_same g (goal.at.returns-in-Begun-clause-known g c).After-dialed (ap (place_after g.L.Link.seen) c.in-Begun.is)).opened in
    knows_none (g.N.Net.seen c.args.net.now).opened (g.N.Net.seen c.dial-said.new.self) _ (omega (arith, o))

pub returns-in-Begun-clause-young : goal.returns-in-Begun-clause-young
returns-in-Begun-clause-young g c = λ a.
    subst (λ (ns : List (Newcomer g.row.L.Denot)). AreYoung c.args.now 0 ns) (sym (newcomers_are g (goal.at.returns-in-Begun-clause-young g c).After-dialed)) a

pub returns-in-Begun-clause-waited : goal.returns-in-Begun-clause-waited
returns-in-Begun-clause-waited g c = λ first opened le a.
    subst (λ (ns : List (Newcomer g.row.L.Denot)). AreWaitingBehind g.L.Link.seen first opened 0 ns) (sym (newcomers_are g (goal.at.returns-in-Begun-clause-waited g c).After-dialed)) a

pub returns-in-Failed-clause-in_turn : goal.returns-in-Failed-clause-in_turn
returns-in-Failed-clause-in_turn g c = on_in_turn g (goal.at.returns-in-Failed-clause-in_turn g c).After-dialed (ap (place_after g.L.Link.seen) c.in-Failed.is)

pub returns-in-Failed-clause-asks : goal.returns-in-Failed-clause-asks
returns-in-Failed-clause-asks g c = on_asks g (goal.at.returns-in-Failed-clause-asks g c).After-dialed (ap (place_after g.L.Link.seen) c.in-Failed.is)

pub returns-in-Failed-clause-dialed : goal.returns-in-Failed-clause-dialed
returns-in-Failed-clause-dialed g c = on_dialed g (goal.at.returns-in-Failed-clause-dialed g c).After-dialed (ap (place_after g.L.Link.seen) c.in-Failed.is)

pub returns-in-Failed-clause-redials : goal.returns-in-Failed-clause-redials
returns-in-Failed-clause-redials g c = on_redials g (goal.at.returns-in-Failed-clause-redials g c).After-dialed (ap (place_after g.L.Link.seen) c.in-Failed.is)

pub returns-in-Failed-clause-same : goal.returns-in-Failed-clause-same
returns-in-Failed-clause-same g c = same_ends g (goal.at.returns-in-Failed-clause-same g c).After-dialed (c.args.i ≡ c.args.i) (λ m. ap (place_after g.L.Link.seen) c.in-Failed.is)

pub returns-in-Failed-clause-kept : goal.returns-in-Failed-clause-kept
returns-in-Failed-clause-kept g c = inl (newcomers_are g (goal.at.returns-in-Failed-clause-kept g c).After-dialed)

pub returns-in-Failed-clause-few : goal.returns-in-Failed-clause-few
returns-in-Failed-clause-few g c = let same = ap length (newcomers_are g (goal.at.returns-in-Failed-clause-few g c).After-dialed) in omega (arith, same)

pub returns-in-Failed-clause-known : goal.returns-in-Failed-clause-known
returns-in-Failed-clause-known g c =
    let o = (net_same g (goal.at.returns-in-Failed-clause-known g c).After-dialed (ap (place_after g.L.Link.seen) c.in-Failed.is)).opened in
    knows_none (g.N.Net.seen c.args.net.now).opened (g.N.Net.seen c.dial-said.new.self) _ (omega (arith, o))

pub returns-in-Failed-clause-young : goal.returns-in-Failed-clause-young
returns-in-Failed-clause-young g c = λ a.
    subst (λ (ns : List (Newcomer g.row.L.Denot)). AreYoung c.args.now 0 ns) (sym (newcomers_are g (goal.at.returns-in-Failed-clause-young g c).After-dialed)) a

pub returns-in-Failed-clause-waited : goal.returns-in-Failed-clause-waited
returns-in-Failed-clause-waited g c = λ first opened le a.
    subst (λ (ns : List (Newcomer g.row.L.Denot)). AreWaitingBehind g.L.Link.seen first opened 0 ns) (sym (newcomers_are g (goal.at.returns-in-Failed-clause-waited g c).After-dialed)) a

-- ---- A link was handed out

module _ (g : Over) (c : After-dialed g) (link : g.row.L.Denot) (is : c.dial-said.result ≡ linked.Got link) where
  handed : IsHandedOut (g.L.Link.seen link) (Some (scheme_of c.index.result.now.addr)) (g.N.Net.seen c.args.net.now) (g.N.Net.seen c.dial-said.new.self)
  handed =
      subst (λ (r : Linked g.row.L.Denot). LinkedAs g.L.Link.seen r (Some (scheme_of c.index.result.now.addr)) (g.N.Net.seen c.args.net.now) (g.N.Net.seen c.dial-said.new.self)) is c.dial-said.ensures.shows

  has : c.dialed.new.self.place ≡ Some (g.L.Link.seen link).place
  has = c.dialed.ensures.place ∙ ap (place_after g.L.Link.seen) is

  first_ends : SameEnds c.args.self.now (now_ends g c)
  first_ends =
      same_ends g c ((g.N.Net.seen c.dial-said.new.self).opened ≡ (g.N.Net.seen c.args.net.now).opened) (λ m. absurd (let o = handed.opened in omega (arith, m, o)))

  was_dialed : DialsOne c.args.i c.args.now ((g.N.Net.seen c.dial-said.new.self).opened ≡ (g.N.Net.seen c.args.net.now).opened) c.args.self.now.dialers (set c.self.inside.dialers.items c.args.i c.dialed.new.self)
  was_dialed =
      noted g c ((g.N.Net.seen c.dial-said.new.self).opened ≡ (g.N.Net.seen c.args.net.now).opened) (λ m. absurd (let o = handed.opened in omega (arith, m, o)))

module _ (g : Over) (c : After-dialed g) (link : g.row.L.Denot) (is : c.dial-said.result ≡ linked.Got link) (o : Origins) (run : AreOfRun o c.args.self.now) (way : Result Way NoMemory) (max : ℕ) (n : ℕ) (limits : (q : Dialer) → slice_get (set c.self.inside.dialers.items c.args.i c.dialed.new.self) c.args.i ≡ Some q → max ≡ q.max) (says : (q : Dialer) → slice_get (set c.self.inside.dialers.items c.args.i c.dialed.new.self) c.args.i ≡ Some q → IfOk way (λ w. w ≡ asking q.addr (c.self.inside.dice + n))) where
  was : c.index_mut.result.now ≡ c.requires.dialable.0
  was = some_dialer (sym (at_index c.self.inside.dialers.items c.args.self.now.dialers c.args.i c.index_mut.result.now (dialers_are g c) (there g c) c.index_mut.ensures.value) ∙ c.requires.dialable.1)

  named : c.requires.dialable.0 ≡ c.index.result.now
  named = some_dialer (sym c.requires.dialable.1 ∙ at_index c.self.inside.dialers.items c.args.self.now.dialers c.args.i c.index.result.now (dialers_are g c) (there g c) c.index.ensures)

  here : slice_get (set c.self.inside.dialers.items c.args.i c.dialed.new.self) c.args.i ≡ Some c.dialed.new.self
  here = set_at c.self.inside.dialers.items c.args.i c.dialed.new.self (let long = ap length (dialers_are g c) in let lt = there g c in omega (arith, lt, long))

  arrives : Arrives o (g.L.Link.seen link) way max (g.N.Net.seen c.args.net.now) (g.N.Net.seen c.dial-said.new.self)
  arrives =
      arrives_dialed o (now_ends g c) c.args.i n c.requires.dialable.0 c.dialed.new.self (g.L.Link.seen link) way max (g.N.Net.seen c.args.net.now) (g.N.Net.seen c.dial-said.new.self) (of_run_on o c.args.self.now (now_ends g c) (first_ends g c link is) run) here (limits c.dialed.new.self here) (c.dialed.ensures.addr ∙ ap (λ (d : Dialer). d.addr) was) (says c.dialed.new.self here) c.requires.dialable.2
      (subst (λ (d : Dialer). IsHandedOut (g.L.Link.seen link) (Some (scheme_of d.addr)) (g.N.Net.seen c.args.net.now) (g.N.Net.seen c.dial-said.new.self)) (sym named) (handed g c link is))

pub dial_limit-max-requires : goal.dial_limit-max-requires
dial_limit-max-requires g c = record { inside = still_there g (goal.at.dial_limit-max-requires g c).After-dialed }

pub asking-way-requires : goal.asking-way-requires
asking-way-requires g c = record { inside = still_there g (goal.at.asking-way-requires g c).After-dialed }

pub meet_newcomer-requires-clause-fresh : goal.meet_newcomer-requires-clause-fresh
meet_newcomer-requires-clause-fresh g c =
    let d = (goal.at.meet_newcomer-requires-clause-fresh g c).After-dialed in
    let a = c.asking-way.ensures in
    let i = c.requires.in_turn in
    let same = asked_on c.args.self.now (now_ends g d) c.asking-way.new.self (first_ends g d c.in-Got.link c.in-Got.is) a.same in (
      i.0,
      g.N.Net.seen c.args.net.now,
      turned_as g.L.Link.seen i.0 c.args.self.now c.asking-way.new.self (g.N.Net.seen c.args.net.now) c.args.single.now c.args.now 0 same (ap (λ (v : LinkEndsView g.row.L.Denot). v.newcomers) a.same ∙ newcomers_are g d) i.1,
      arrives g d c.in-Got.link c.in-Got.is i.0.origins i.1.of_run c.asking-way.result c.dial_limit-max.result a.way.0 c.dial_limit-max.ensures a.way.2,
    )

pub returns-in-Got-clause-in_turn : goal.returns-in-Got-clause-in_turn
returns-in-Got-clause-in_turn g c start i =
    let d = (goal.at.returns-in-Got-clause-in_turn g c).After-dialed in
    let a = c.asking-way.ensures in
    let same = asked_on c.args.self.now (now_ends g d) c.asking-way.new.self (first_ends g d c.in-Got.link c.in-Got.is) a.same in
    c.meet_newcomer.ensures.in_turn start (g.N.Net.seen c.args.net.now) (turned_as g.L.Link.seen start c.args.self.now c.asking-way.new.self (g.N.Net.seen c.args.net.now) c.args.single.now c.args.now 0 same (ap (λ (v : LinkEndsView g.row.L.Denot). v.newcomers) a.same ∙ newcomers_are g d) i)
    (arrives g d c.in-Got.link c.in-Got.is start.origins i.of_run c.asking-way.result c.dial_limit-max.result a.way.0 c.dial_limit-max.ensures a.way.2)

pub returns-in-Got-clause-same : goal.returns-in-Got-clause-same
returns-in-Got-clause-same g c =
    let d = (goal.at.returns-in-Got-clause-same g c).After-dialed in
    ends_both c.args.self.now c.asking-way.new.self c.meet_newcomer.new.self (asked_on c.args.self.now (now_ends g d) c.asking-way.new.self (first_ends g d c.in-Got.link c.in-Got.is) c.asking-way.ensures.same) c.meet_newcomer.ensures.serves.ends

pub returns-in-Got-clause-dialed : goal.returns-in-Got-clause-dialed
returns-in-Got-clause-dialed g c =
    let d = (goal.at.returns-in-Got-clause-dialed g c).After-dialed in
    let net = g.N.Net.seen c.args.net.now in
    let net' = g.N.Net.seen c.dial-said.new.self in
    let last = g.N.Net.seen c.meet_newcomer.new.net in
    let s = c.meet_newcomer.ensures.serves in
    dials_then c.args.i c.args.now (net'.opened ≡ net.opened) (last.opened ≡ net.opened) c.args.self.now.dialers (set c.self.inside.dialers.items c.args.i c.dialed.new.self) c.meet_newcomer.new.self.dialers (λ m. sym s.counts.opened ∙ m) (was_dialed g d c.in-Got.link c.in-Got.is)
    (subst (λ (ds : List Dialer). AreSameDialers ds c.meet_newcomer.new.self.dialers) (ap (λ (v : LinkEndsView g.row.L.Denot). v.dialers) c.asking-way.ensures.same) s.dialers)

pub returns-in-Got-clause-redials : goal.returns-in-Got-clause-redials
returns-in-Got-clause-redials g c =
    let d = (goal.at.returns-in-Got-clause-redials g c).After-dialed in
    redials_got c.args.i c.args.now (g.N.Net.seen c.args.net.now) (g.N.Net.seen c.dial-said.new.self) (g.N.Net.seen c.meet_newcomer.new.net) (g.L.Link.seen c.in-Got.link) _ c.self.inside.dialers.items c.args.self.now.dialers c.meet_newcomer.new.self.dialers c.dialed.new.self (handed g d c.in-Got.link c.in-Got.is) (dialers_are g d) (there g d) (has g d c.in-Got.link c.in-Got.is)
    (subst (λ (ds : List Dialer). Frees c.args.now (g.N.Net.seen c.dial-said.new.self) (g.N.Net.seen c.meet_newcomer.new.net) ds c.meet_newcomer.new.self.dialers) (ap (λ (v : LinkEndsView g.row.L.Denot). v.dialers) c.asking-way.ensures.same) c.meet_newcomer.ensures.frees)

pub returns-in-Got-clause-known : goal.returns-in-Got-clause-known
returns-in-Got-clause-known g c =
    let d = (goal.at.returns-in-Got-clause-known g c).After-dialed in
    knows_got c.args.i c.args.now (g.N.Net.seen c.args.net.now) (g.N.Net.seen c.dial-said.new.self) (g.N.Net.seen c.meet_newcomer.new.net) (g.L.Link.seen c.in-Got.link) _ c.self.inside.dialers.items c.args.self.now.dialers c.meet_newcomer.new.self.dialers c.dialed.new.self (handed g d c.in-Got.link c.in-Got.is) c.meet_newcomer.ensures.serves.counts.opened (dialers_are g d) (there g d) (has g d c.in-Got.link c.in-Got.is)
    (subst (λ (ds : List Dialer). Frees c.args.now (g.N.Net.seen c.dial-said.new.self) (g.N.Net.seen c.meet_newcomer.new.net) ds c.meet_newcomer.new.self.dialers) (ap (λ (v : LinkEndsView g.row.L.Denot). v.dialers) c.asking-way.ensures.same) c.meet_newcomer.ensures.frees)

pub returns-in-Got-clause-kept : goal.returns-in-Got-clause-kept
returns-in-Got-clause-kept g c =
    subst (λ (ns : List (Newcomer g.row.L.Denot)). KeepsFrom None ns c.meet_newcomer.new.self.newcomers) (ap (λ (v : LinkEndsView g.row.L.Denot). v.newcomers) c.asking-way.ensures.same ∙ newcomers_are g (goal.at.returns-in-Got-clause-kept g c).After-dialed) c.meet_newcomer.ensures.kept

pub returns-in-Got-clause-few : goal.returns-in-Got-clause-few
returns-in-Got-clause-few g c =
    let same = ap length (newcomers_are g (goal.at.returns-in-Got-clause-few g c).After-dialed) in
    let more = ap (λ (v : LinkEndsView g.row.L.Denot). length v.newcomers) c.asking-way.ensures.same in omega (arith, same, more, c.meet_newcomer.ensures.few)

pub returns-in-Got-clause-young : goal.returns-in-Got-clause-young
returns-in-Got-clause-young g c = λ a.
    c.meet_newcomer.ensures.young (subst (λ (ns : List (Newcomer g.row.L.Denot)). AreYoung c.args.now 0 ns) (sym (ap (λ (v : LinkEndsView g.row.L.Denot). v.newcomers) c.asking-way.ensures.same ∙ newcomers_are g (goal.at.returns-in-Got-clause-young g c).After-dialed)) a)

pub returns-in-Got-clause-asks : goal.returns-in-Got-clause-asks
returns-in-Got-clause-asks g c =
    asked_got (g.L.Link.seen c.in-Got.link) _ (g.N.Net.seen c.args.net.now) (g.N.Net.seen c.dial-said.new.self) (g.N.Net.seen c.meet_newcomer.new.net) (handed g (goal.at.returns-in-Got-clause-asks g c).After-dialed c.in-Got.link c.in-Got.is) c.meet_newcomer.ensures.serves.counts

pub returns-in-Got-clause-waited : goal.returns-in-Got-clause-waited
returns-in-Got-clause-waited g c = λ first opened le a.
    let d = (goal.at.returns-in-Got-clause-waited g c).After-dialed in
    let place = (handed g d c.in-Got.link c.in-Got.is).fresh.place in
    c.meet_newcomer.ensures.waited first opened (omega (arith, place, le)) (subst (λ (ns : List (Newcomer g.row.L.Denot)). AreWaitingBehind g.L.Link.seen first opened 0 ns) (sym (ap (λ (v : LinkEndsView g.row.L.Denot). v.newcomers) c.asking-way.ensures.same ∙ newcomers_are g d)) a)

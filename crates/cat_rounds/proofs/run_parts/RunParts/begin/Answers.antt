use Rattle.std.proofs.Common.{refl, ap, sym, subst, ◌∙◌, false, arith}
use Rattle.cat_rounds.specs.Parts.{RunPartsView}
use Rattle.cat_rounds.specs.SubscribedTopics.{CanSubscribe}
use Rattle.cat_rounds.proofs.AllRounds.{same_ends, run_at}
use Rattle.cat_rounds.proofs.Late.{never_late}
use Rattle.cat_rounds.proofs.Opened.{links_of, run_of, links_in}
use Rattle.cat_rounds.proofs.WholeRounds.{cut_nowhere}
use Rattle.cat_rounds.proofs.Subscribing.{fresh_before, prepared_run, first_may_tick, prepared_prints, unpaced}
use Rattle.cat_rounds.proofs.run_parts.RunParts.begin.Goals as goal

pub subscribe_all-requires-clause-before : goal.subscribe_all-requires-clause-before
subscribe_all-requires-clause-before g c =
    let fresh = ap (λ (v : RunPartsView _). v.single.seen) c.self.view_is ∙ c.requires.fresh in
    fresh_before c.self.inside.single c.self.inside.player fresh c.self.invariant.play c.self.invariant.sound

pub subscribe_all-requires-clause-can : goal.subscribe_all-requires-clause-can
subscribe_all-requires-clause-can g c =
    subst (λ (v : RunPartsView _). CanSubscribe v.single.setting v.player.script.topics) (sym c.self.view_is) c.requires.can

pub invariant_of-self : goal.invariant_of-self
invariant_of-self g c =
    let before = c.subscribe_all.ensures.prepares.before in
    record { sound = before.sound; play = before.play }

pub invariant_of-self-in-Err : goal.invariant_of-self-in-Err
invariant_of-self-in-Err g c =
    let before = c.subscribe_all.ensures.prepares.before in
    record { sound = before.sound; play = before.play }

pub go_round-requires-clause-stands : goal.go_round-requires-clause-stands
go_round-requires-clause-stands g c =
    let start = c.requires.stands.0 in
    let net = g.N.Net.seen c.args.net.now in
    let old = c.self.inside in
    let run = run_of g.L.Link.seen start old.single old.ends.links old.player net false c.self.invariant (links_in g.L.Link.seen start _ _ net false c.self.view_is c.requires.stands.1) in
    let prepared = prepared_run g.L.Link.seen start net old.single c.subscribe_all.new.single old.ends.links old.player c.subscribe_all.ensures.prepares run in
    (start, links_of g.L.Link.seen start c.subscribe_all.new.single old.ends.links old.player net false prepared)

pub go_round-requires-clause-may_tick : goal.go_round-requires-clause-may_tick
go_round-requires-clause-may_tick g c = first_may_tick c.subscribe_all.new.single c.self.inside.player c.subscribe_all.ensures.prepares.before c.in-Ok.ensures.on

pub go_round-requires-clause-unticked : goal.go_round-requires-clause-unticked
go_round-requires-clause-unticked g c = c.subscribe_all.ensures.prepares.before.unticked

pub returns-in-Ok-clause-stands : goal.returns-in-Ok-clause-stands
returns-in-Ok-clause-stands g c = rw (← c.self.view_is) (λ start run. c.go_round.ensures.stands start (prepared_run g.L.Link.seen start (g.N.Net.seen c.args.net.now) c.self.inside.single c.subscribe_all.new.single c.self.inside.ends.links c.self.inside.player c.subscribe_all.ensures.prepares run))

pub returns-in-Ok-clause-printed : goal.returns-in-Ok-clause-printed
returns-in-Ok-clause-printed g c = rw (← c.self.view_is) (λ before had. c.go_round.ensures.printed before (prepared_prints before (g.S.Sink.seen c.args.out.now).text c.self.inside.single c.subscribe_all.new.single c.self.inside.player c.subscribe_all.ensures.prepares had))

pub returns-in-Ok-clause-same : goal.returns-in-Ok-clause-same
returns-in-Ok-clause-same g c =
    let s = c.go_round.ensures.same in
    rw (← c.self.view_is) (s.0, s.1, s.2 ∙ c.subscribe_all.ensures.prepares.goes_on.setting)

pub returns-in-Err-clause-stands : goal.returns-in-Err-clause-stands
returns-in-Err-clause-stands g c = rw (← c.self.view_is) (λ start run. run_at g.L.Link.seen start (g.N.Net.seen c.args.net.now) c.subscribe_all.new.single c.self.inside.ends.links c.self.inside.player false (prepared_run g.L.Link.seen start (g.N.Net.seen c.args.net.now) c.self.inside.single c.subscribe_all.new.single c.self.inside.ends.links c.self.inside.player c.subscribe_all.ensures.prepares run))

pub returns-in-Err-clause-pace : goal.returns-in-Err-clause-pace
returns-in-Err-clause-pace g c = unpaced (g.Pa.Pace.seen c.args.pace.now) c.subscribe_all.new.single c.self.inside.player c.subscribe_all.ensures.prepares.before

pub returns-in-Err-clause-printed : goal.returns-in-Err-clause-printed
returns-in-Err-clause-printed g c = rw (← c.self.view_is) (λ before had. cut_nowhere before (g.S.Sink.seen c.args.out.now).text c.subscribe_all.new.single.seen c.self.inside.player (prepared_prints before (g.S.Sink.seen c.args.out.now).text c.self.inside.single c.subscribe_all.new.single c.self.inside.player c.subscribe_all.ensures.prepares had))

pub returns-in-Err-clause-same : goal.returns-in-Err-clause-same
returns-in-Err-clause-same g c = rw (← c.self.view_is) (same_ends c.self.inside.ends.links, refl, c.subscribe_all.ensures.prepares.goes_on.setting)

pub returns-in-Ok-clause-late : goal.returns-in-Ok-clause-late
returns-in-Ok-clause-late g c = c.go_round.ensures.late

pub returns-in-Err-clause-late : goal.returns-in-Err-clause-late
returns-in-Err-clause-late g c =
    let none = never_late c.subscribe_all.new.single c.self.inside.player c.subscribe_all.ensures.prepares.before.unticked in
    omega (arith, none)

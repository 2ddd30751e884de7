-- The greetings of the link go on, and their result decides.
use Rattle.std.proofs.Common.{refl, sym, ap, ◌∙◌, subst, ℕ}
use Rattle.sp_links.specs.declared.opening.Progress.{Progress}
use Rattle.sp_links.specs.Going.{CameTo}
use Rattle.sp_links.proofs.OpeningTries.{has_waited}
use Rattle.sp_ends.specs.NewcomerSteps.{FateBack, GivesOneBack}
use Rattle.sp_ends.specs.declared.newcomer.Newcomer.{Newcomer}
use Rattle.sp_ends.specs.RunLinks.{HandStands, IsCauseOf}
use Rattle.sp_ends.proofs.greeting.greet_one.Goals as goal
use Rattle.sp_ends.proofs.Hands.{to_hand, of_run_later, stays_behind}
use Rattle.sp_ends.proofs.GreetingCauses.{cause_of, out_waited}

pub attach-requires-clause-opened : goal.attach-requires-clause-opened
attach-requires-clause-opened g c =
    subst (λ (x : Progress). CameTo g.N.L.Link.seen x (g.N.L.Link.seen c.args.newcomer.opening.link) c.greet-progress.new.self) c.in-Attach.ensures c.greet-progress.ensures.opened.came_to

pub attach-requires-clause-stands : goal.attach-requires-clause-stands
attach-requires-clause-stands g c =
    let s = c.requires.stands in
    let n = c.args.newcomer in
    let m = c.greet-progress.new.self in
    let e = c.greet-progress.ensures in
    (s.0, s.1, s.2, to_hand g.N.L.Link.seen c.args.single.now.setting s.0 c.args.single.now.seen s.1 s.2 (g.N.Net.seen c.args.net.now) n (g.N.L.Link.seen m.link) e.later s.3, of_run_later g.N.L.Link.seen s.0.origins c.args.single.now.setting n.opening m e.later e.opened.same s.3.progressing.ungreeted.0.of_run, s.3.progressing.ungreeted.0.limit)

pub miss-requires-clause-stands : goal.miss-requires-clause-stands
miss-requires-clause-stands g c =
    let s = c.requires.stands in
    (s.0, s.1, s.2, subst (λ (x : g.row.N-L.Denot). HandStands g.N.L.Link.seen c.args.single.now.setting s.0 c.args.single.now.seen (g.N.Net.seen c.args.net.now) s.1 s.2 (g.N.L.Link.seen x)) (sym c.into_link.ensures) (to_hand g.N.L.Link.seen c.args.single.now.setting s.0 c.args.single.now.seen s.1 s.2 (g.N.Net.seen c.args.net.now) c.args.newcomer (g.N.L.Link.seen c.greet-progress.new.self.link) c.greet-progress.ensures.later s.3))

pub returns-in-Stays-clause-stands : goal.returns-in-Stays-clause-stands
returns-in-Stays-clause-stands g c =
    λ start ns k s.
    let n = c.args.newcomer in
    let m : Newcomer g.row.N-L.Denot = record { opening = c.greet-progress.new.self; met = n.met; from = n.from; max = n.max } in
    let e = c.greet-progress.ensures in
    let waits = subst (λ (x : Progress). CameTo g.N.L.Link.seen x (g.N.L.Link.seen n.opening.link) c.greet-progress.new.self) c.in-Stays.ensures.0 e.opened.came_to in
    stays_behind g.N.L.Link.seen c.args.single.now.setting start c.args.single.now.seen ns k (g.N.Net.seen c.args.net.now) n m e.later e.opened.same refl refl waits.0 waits.1 waits.2 (has_waited g.N.L.Link.seen (g.N.L.Link.seen n.opening.link) c.greet-progress.new.self waits.3) s

pub returns-in-Attach-clause-stands : goal.returns-in-Attach-clause-stands
returns-in-Attach-clause-stands g c =
    λ start ns k s.
    let n = c.args.newcomer in
    let m = c.greet-progress.new.self in
    let e = c.greet-progress.ensures in
    c.attach.ensures.stands start ns k (to_hand g.N.L.Link.seen c.args.single.now.setting start c.args.single.now.seen ns k (g.N.Net.seen c.args.net.now) n (g.N.L.Link.seen m.link) e.later s) (of_run_later g.N.L.Link.seen start.origins c.args.single.now.setting n.opening m e.later e.opened.same s.progressing.ungreeted.0.of_run) s.progressing.ungreeted.0.limit

pub returns-in-Attach-clause-back : goal.returns-in-Attach-clause-back
returns-in-Attach-clause-back g c =
    subst (λ (q : ℕ). FateBack c.attach.result q (g.N.Net.seen c.args.net.now) (g.N.Net.seen c.attach.new.net)) c.greet-progress.ensures.later.place c.attach.ensures.back

pub returns-in-Miss-clause-stands : goal.returns-in-Miss-clause-stands
returns-in-Miss-clause-stands g c =
    λ start ns k s.
    let n = c.args.newcomer in
    let m = c.greet-progress.new.self in
    let e = c.greet-progress.ensures in
    let p = s.progressing.ungreeted.0 in
    let hand = to_hand g.N.L.Link.seen c.args.single.now.setting start c.args.single.now.seen ns k (g.N.Net.seen c.args.net.now) n (g.N.L.Link.seen m.link) e.later s in
    let run = of_run_later g.N.L.Link.seen start.origins c.args.single.now.setting n.opening m e.later e.opened.same p.of_run in
    let cause = cause_of g.N.L.Link.seen start.origins c.args.single.now.setting c.args.single.now.seen n.opening m e.later run c.in-Miss.why c.greet-progress.result n.met c.args.now c.in-Miss.ensures e.opened.came_to p.met c.requires.now in
    c.miss.ensures.stands start ns k
    (subst (λ (x : g.row.N-L.Denot). HandStands g.N.L.Link.seen c.args.single.now.setting start c.args.single.now.seen (g.N.Net.seen c.args.net.now) ns k (g.N.L.Link.seen x)) (sym c.into_link.ensures) hand)
    (subst (λ (x : g.row.N-L.Denot). IsCauseOf start.origins c.args.single.now.setting c.args.single.now.seen c.in-Miss.why (g.N.L.Link.seen x)) (sym c.into_link.ensures) cause)

pub returns-in-Miss-clause-back : goal.returns-in-Miss-clause-back
returns-in-Miss-clause-back g c =
    subst (λ (q : ℕ). GivesOneBack q (g.N.Net.seen c.args.net.now) (g.N.Net.seen c.miss.new.net)) (ap (λ (l : g.row.N-L.Denot). (g.N.L.Link.seen l).place) c.into_link.ensures ∙ c.greet-progress.ensures.later.place) c.miss.ensures.back

pub returns-in-Stays-clause-waited : goal.returns-in-Stays-clause-waited
returns-in-Stays-clause-waited g c =
    let n = c.args.newcomer in
    let e = c.greet-progress.ensures in
    let waits = subst (λ (x : Progress). CameTo g.N.L.Link.seen x (g.N.L.Link.seen n.opening.link) c.greet-progress.new.self) c.in-Stays.ensures.0 e.opened.came_to in
    record { place = e.later.place; waited = waits.3 }

pub returns-in-Attach-clause-waited : goal.returns-in-Attach-clause-waited
returns-in-Attach-clause-waited g c = out_waited g.N.L.Link.seen c.args.newcomer c.attach.result c.attach.ensures.out

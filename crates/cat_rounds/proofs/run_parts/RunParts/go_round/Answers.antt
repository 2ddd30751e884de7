use Rattle.std.proofs.Common.{◌∙◌, refl, subst, false, arith}
use Rattle.cat_rounds.proofs.Faultless.{sinks_then}
use Rattle.cat_rounds.proofs.Late.{never_late}
use Rattle.cat_rounds.proofs.Opened.{links_of}
use Rattle.sp_history.specs.Past.{past_of}
use Rattle.cat_play.specs.declared.status.Status.{Status}
use Rattle.cat_rounds.specs.declared.rounds.Round.TheVariants as rounds
use Rattle.cat_rounds.specs.RunRounds.{is_failed_run, RoundGoesTo}
use Rattle.cat_rounds.proofs.AllRounds.{no_ticks, never, same_ends, same_then, round_over}
use Rattle.cat_rounds.proofs.run_parts.RunParts.go_round.Goals as goal

pub rounds-init : goal.rounds-init
rounds-init g c =
    let none = no_ticks (past_of c.args.self.now.single.seen) c.requires.unticked in
    let zero = never (past_of c.args.self.now.single.seen) c.requires.unticked in
    record {
      some = c.requires.stands;
      stands = λ start run. run;
      may_tick = c.requires.may_tick;
      printed = λ before h. h;
      faultless = refl;
      same = (same_ends c.args.self.now.ends.links, refl, refl);
      left_ = omega (arith, none);
      count = omega (arith, none, c.into_iter-iterator.type_inv);
      now_is = omega (arith, zero);
      late = never_late c.args.self.now.single c.args.self.now.player c.requires.unticked;
      silent = refl;
    }

pub rounds-preserved : goal.rounds-preserved
rounds-preserved g c =
    let i = c.rounds.invariant in
    let r = c.in-Goes.ensures in
    let paced = c.in-At.ensures in
    let less = c.in-Some.ensures.goes.on tt in
    let old = c.rounds.self in
    let new = c.round.new.self in
    let net = g.N.Net.seen c.rounds.net in
    let net' = g.N.Net.seen c.round.new.net in
    record {
      some = (i.some.0, links_of g.L.Link.seen i.some.0 new.single new.ends.links new.player net' false (r.stands i.some.0 i.some.1));
      stands = λ start run. r.stands start (links_of g.L.Link.seen start old.single old.ends.links old.player net false (i.stands start run));
      may_tick = r.went;
      printed = λ before h. r.printed before (i.printed before h);
      faultless = r.sinks ∙ i.faultless;
      same = (same_then c.args.self.now.ends.links c.rounds.self.ends.links c.round.new.self.ends.links i.same.0 r.same.0, r.same.1 ∙ i.same.1, r.same.2 ∙ i.same.2);
      left_ = omega (arith, i.left_, paced.0, r.ticked.ticks_are);
      count = omega (arith, i.count, r.ticked.ticks_are, less.2);
      now_is = omega (arith, r.ticked.now_is, paced.2);
      late = r.late;
      silent = paced.3 ∙ i.silent;
    }

pub returns-in-Ends-clause-stands : goal.returns-in-Ends-clause-stands
returns-in-Ends-clause-stands g c = λ start run.
    let i = c.rounds.invariant in
    let old = c.rounds.self in
    let new = c.round.new.self in
    round_over g.L.Link.seen start (g.N.Net.seen c.round.new.net) c.in-Ends.status new.single new.ends.links new.player (c.in-Ends.ensures.stands start (links_of g.L.Link.seen start old.single old.ends.links old.player (g.N.Net.seen c.rounds.net) false (i.stands start run)))

pub returns-in-Ends-clause-sinks : goal.returns-in-Ends-clause-sinks
returns-in-Ends-clause-sinks g c =
    sinks_then (is_failed_run c.in-Ends.status) (g.S.Sink.seen c.args.out.now) (g.S.Sink.seen c.rounds.out) (g.S.Sink.seen c.round.new.out) c.rounds.invariant.faultless c.in-Ends.ensures.sinks

pub returns-in-Over-clause-pace : goal.returns-in-Over-clause-pace
returns-in-Over-clause-pace g c =
    let i = c.rounds.invariant in
    let paced = c.in-Over.ensures in
    record { left = omega (arith, i.left_, paced.0, paced.1); few = omega (arith, i.count); over = λ is. paced.3; not_over = λ n. absurd (n refl) }

pub returns-in-Ends-clause-pace : goal.returns-in-Ends-clause-pace
returns-in-Ends-clause-pace g c =
    let i = c.rounds.invariant in
    let r = c.in-Ends.ensures in
    let paced = c.in-At.ensures in
    let less = c.in-Some.ensures.goes.on tt in
    record {
      left = omega (arith, i.left_, paced.0, r.ticked.ticks_are);
      few = omega (arith, i.count, r.ticked.ticks_are, less.2);
      over = λ is. absurd (subst (λ (s : Status). RoundGoesTo (rounds.Ends s) c.round.new.self.single c.round.new.self.player) is r.went);
      not_over = λ n. paced.3 ∙ i.silent;
    }

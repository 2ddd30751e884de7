use Rattle.std.proofs.Common.{refl, ◌∙◌}
use Rattle.sp_history.specs.declared.entry.Entry.TheVariants.{End}
use Rattle.sp_history.specs.Moments.{also}
use Rattle.sp_core.proofs.GivenBetween.{ended_none, ended_one, gives_one, gives_none}
use Rattle.sp_core.proofs.NoneWaiting.{last_given}
use Rattle.sp_core.proofs.owner.Core.give_kept.Goals as goal

pub loop-init : goal.loop-init
loop-init g c = record { standing = c.requires; reached = λ t h. (t, ended_none t, h); words = refl; pipes = refl }

pub give_next-requires : goal.give_next-requires
give_next-requires g c = c.loop.invariant.standing

pub loop-smaller : goal.loop-smaller
loop-smaller g c = (gives_one g.P.Proto.ties g.P.Proto.room g.P.Proto.left g.W.Wire.shown c.loop.self c.give_next.new.self c.give_next.result c.loop-test.true c.give_next.ensures.gives).left

pub loop-preserved : goal.loop-preserved
loop-preserved g c =
    let k = gives_one g.P.Proto.ties g.P.Proto.room g.P.Proto.left g.W.Wire.shown c.loop.self c.give_next.new.self c.give_next.result c.loop-test.true c.give_next.ensures.gives in
    record {
      standing = let s = c.loop.invariant.standing in let r = k.does s.0 s.1 in (also s.0 (End r.0 r.1), r.2);
      reached =
          λ t h.
          let s = c.loop.invariant.reached t h in
          let r = k.does s.0 s.2 in
          (also s.0 (End r.0 r.1), ended_one t s.0 r.0 r.1 s.1, r.2);
      words = k.words ∙ c.loop.invariant.words;
      pipes = c.give_next.ensures.pipes ∙ c.loop.invariant.pipes;
    }

pub returns-clause-gives : goal.returns-clause-gives
returns-clause-gives g c =
    let k = gives_none g.P.Proto.ties g.P.Proto.room g.P.Proto.left g.W.Wire.shown c.loop.self c.give_next.new.self c.give_next.result c.loop-test.false c.give_next.ensures.gives in
    record {
      does =
          λ t h.
          let s = c.loop.invariant.reached t h in
          let r = k.does s.0 s.2 in
          (s.0, s.1, r.0, last_given t s.0 s.1 r.1);
      words = k.words ∙ c.loop.invariant.words;
    }

pub returns-clause-pipes : goal.returns-clause-pipes
returns-clause-pipes g c = c.give_next.ensures.pipes ∙ c.loop.invariant.pipes

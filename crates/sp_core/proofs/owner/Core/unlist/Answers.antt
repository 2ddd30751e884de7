use Rattle.std.proofs.Common.{arith, refl, []}
use Rattle.sp_core.proofs.BusyServed.{one_shorter}
use Rattle.sp_core.proofs.MomentSteps.{with_pipes}
use Rattle.sp_core.proofs.owner.Core.unlist.Goals as goal

pub loop-count-init : goal.loop-count-init
loop-count-init g c = record { standing = c.requires; reached = λ t h. h; long = omega (arith, c.len-count.ensures, c.args.self.now.pipes.busy.ok.0); words = refl }

pub next_busy-requires : goal.next_busy-requires
next_busy-requires g c = omega (arith, c.loop-count-test.true, c.loop-count.invariant.long)

pub loop-count-preserved : goal.loop-count-preserved
loop-count-preserved g c = record {
  standing =
      let s = c.loop-count.invariant.standing in
      let k = c.next_busy.ensures s.0 s.1.lawful s.1.pipes in
      (s.0, with_pipes g.P.Proto.ties g.P.Proto.room g.W.Wire.shown [] c.loop-count.self c.next_busy.new.self s.0 s.1 k.stands);
  reached =
      λ t h.
      let s = c.loop-count.invariant.reached t h in
      let k = c.next_busy.ensures t s.lawful s.pipes in
      with_pipes g.P.Proto.ties g.P.Proto.room g.W.Wire.shown [] c.loop-count.self c.next_busy.new.self t s k.stands;
  long =
      let s = c.loop-count.invariant.standing in
      let k = c.next_busy.ensures s.0 s.1.lawful s.1.pipes in
      let n = one_shorter g.W.Wire.shown c.next_busy.result s.0 c.loop-count.self.pipes c.next_busy.new.self k in
      omega (arith, n, c.loop-count.invariant.long, c.loop-count-test.true);
  words = c.loop-count.invariant.words;
}

pub returns : goal.returns
returns g c = record { does = λ t h. c.loop-count.invariant.reached t h; words = c.loop-count.invariant.words }

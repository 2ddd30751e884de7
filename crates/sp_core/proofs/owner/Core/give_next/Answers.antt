use Rattle.std.proofs.Common.{arith, refl, []}
use Rattle.sp_core.specs.ServeSteps.{GivesOne}
use Rattle.sp_core.proofs.MomentSteps.{with_proto}
use Rattle.sp_core.proofs.NoneWaiting.{none_left}
use Rattle.sp_core.proofs.owner.Core.give_next.Goals as goal

pub give-requires : goal.give-requires
give-requires g c =
    let s = c.requires in
    let o = c.in-Give.ensures.offered s.0 s.1.lawful s.1.calm s.1.proto in
    (s.0, o.0, o.1, with_proto g.P.Proto.ties g.P.Proto.room g.W.Wire.shown [] c.args.self.now c.offer.new.self s.0 s.1 (c.offer.ensures.same s.0 s.1.proto) c.offer.ensures.room, o.2)

pub returns-in-Give-clause-gives : goal.returns-in-Give-clause-gives
returns-in-Give-clause-gives g c =
    let one : GivesOne g.P.Proto.ties g.P.Proto.room g.P.Proto.left g.W.Wire.shown c.args.self.now c.give.new.self = record {
      does =
          λ t h.
          let o = c.in-Give.ensures.offered t h.lawful h.calm h.proto in
          let r = c.give.ensures.gave t o.0 o.1 (with_proto g.P.Proto.ties g.P.Proto.room g.W.Wire.shown [] c.args.self.now c.offer.new.self t h (c.offer.ensures.same t h.proto) c.offer.ensures.room) o.2 in
          (c.in-Give.op, r.0, r.2);
      words = c.give.ensures.settles.words;
      left = omega (arith, c.give.ensures.settles.left, c.offer.ensures.left);
    } in
    one

pub returns-in_default-clause-gives : goal.returns-in_default-clause-gives
returns-in_default-clause-gives g c = record {
  does =
      λ t h.
      (with_proto g.P.Proto.ties g.P.Proto.room g.W.Wire.shown [] c.args.self.now c.offer.new.self t h (c.offer.ensures.same t h.proto) c.offer.ensures.room, none_left t c.offer.result c.in_default.not-Give (c.offer.ensures.offered t h.lawful h.calm h.proto));
  words = refl;
}

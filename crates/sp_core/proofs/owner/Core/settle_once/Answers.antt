use Rattle.std.proofs.Common.{arith, refl, []}
use Rattle.sp_core.proofs.MomentSteps.{with_proto}
use Rattle.sp_core.proofs.owner.Core.settle_once.Goals as goal

pub returns-in-Idle : goal.returns-in-Idle
returns-in-Idle g c = record {
  does = λ t h. (with_proto g.P.Proto.ties g.P.Proto.room g.W.Wire.shown [] c.args.self.now c.offer.new.self t h (c.offer.ensures.same t h.proto) c.offer.ensures.room, c.in-Idle.ensures.offered t h.lawful h.calm h.proto);
  words = refl;
  reads = refl;
}

pub give-requires : goal.give-requires
give-requires g c =
    let s = c.requires in
    let o = c.in-Give.ensures.offered s.0 s.1.lawful s.1.calm s.1.proto in
    (s.0, o.0, o.1, with_proto g.P.Proto.ties g.P.Proto.room g.W.Wire.shown [] c.args.self.now c.offer.new.self s.0 s.1 (c.offer.ensures.same s.0 s.1.proto) c.offer.ensures.room, o.2)

pub returns-in-Give : goal.returns-in-Give
returns-in-Give g c = record {
  later =
      λ t h.
      let o = c.in-Give.ensures.offered t h.lawful h.calm h.proto in
      c.give.ensures.settles.later t o.0 o.1 (with_proto g.P.Proto.ties g.P.Proto.room g.W.Wire.shown [] c.args.self.now c.offer.new.self t h (c.offer.ensures.same t h.proto) c.offer.ensures.room) o.2;
  left = omega (arith, c.give.ensures.settles.left, c.offer.ensures.left);
  words = c.give.ensures.settles.words;
  reads = c.give.ensures.settles.reads;
}

pub send-requires : goal.send-requires
send-requires g c =
    let s = c.requires in
    let o = c.in-Send.ensures.offered s.0 s.1.lawful s.1.calm s.1.proto in
    (s.0, o.0, o.1, with_proto g.P.Proto.ties g.P.Proto.room g.W.Wire.shown [] c.args.self.now c.offer.new.self s.0 s.1 (c.offer.ensures.same s.0 s.1.proto) c.offer.ensures.room, o.2)

pub returns-in-Send : goal.returns-in-Send
returns-in-Send g c = record {
  later =
      λ t h.
      let o = c.in-Send.ensures.offered t h.lawful h.calm h.proto in
      c.send.ensures.later t o.0 o.1 (with_proto g.P.Proto.ties g.P.Proto.room g.W.Wire.shown [] c.args.self.now c.offer.new.self t h (c.offer.ensures.same t h.proto) c.offer.ensures.room) o.2;
  left = omega (arith, c.send.ensures.left, c.offer.ensures.left);
  words = c.send.ensures.words;
  reads = c.send.ensures.reads;
}

pub flood-requires : goal.flood-requires
flood-requires g c =
    let s = c.requires in
    let o = c.in-Flood.ensures.offered s.0 s.1.lawful s.1.calm s.1.proto in
    (s.0, o.0, o.1, with_proto g.P.Proto.ties g.P.Proto.room g.W.Wire.shown [] c.args.self.now c.offer.new.self s.0 s.1 (c.offer.ensures.same s.0 s.1.proto) c.offer.ensures.room, o.2, c.offer.ensures.copies c.in-Flood.op c.in-Flood.is s.0 s.1.lawful s.1.calm s.1.proto)

pub returns-in-Flood : goal.returns-in-Flood
returns-in-Flood g c = record {
  later =
      λ t h.
      let o = c.in-Flood.ensures.offered t h.lawful h.calm h.proto in
      c.flood.ensures.later t o.0 o.1 (with_proto g.P.Proto.ties g.P.Proto.room g.W.Wire.shown [] c.args.self.now c.offer.new.self t h (c.offer.ensures.same t h.proto) c.offer.ensures.room) o.2;
  left = omega (arith, c.flood.ensures.left, c.offer.ensures.left);
  words = c.flood.ensures.words;
  reads = c.flood.ensures.reads;
}

pub drop_reply-requires : goal.drop_reply-requires
drop_reply-requires g c =
    let s = c.requires in
    let o = c.in-Drop.ensures.offered s.0 s.1.lawful s.1.calm s.1.proto in
    (s.0, o.0, with_proto g.P.Proto.ties g.P.Proto.room g.W.Wire.shown [] c.args.self.now c.offer.new.self s.0 s.1 (c.offer.ensures.same s.0 s.1.proto) c.offer.ensures.room, o.1)

pub returns-in-Drop : goal.returns-in-Drop
returns-in-Drop g c = record {
  later =
      λ t h.
      let o = c.in-Drop.ensures.offered t h.lawful h.calm h.proto in
      c.drop_reply.ensures.later t o.0 (with_proto g.P.Proto.ties g.P.Proto.room g.W.Wire.shown [] c.args.self.now c.offer.new.self t h (c.offer.ensures.same t h.proto) c.offer.ensures.room) o.1;
  left = omega (arith, c.drop_reply.ensures.left, c.offer.ensures.left);
  words = c.drop_reply.ensures.words;
  reads = c.drop_reply.ensures.reads;
}

pub finish-requires : goal.finish-requires
finish-requires g c =
    let s = c.requires in
    let o = c.in-Finish.ensures.offered s.0 s.1.lawful s.1.calm s.1.proto in
    (s.0, o.0, with_proto g.P.Proto.ties g.P.Proto.room g.W.Wire.shown [] c.args.self.now c.offer.new.self s.0 s.1 (c.offer.ensures.same s.0 s.1.proto) c.offer.ensures.room, o.1)

pub returns-in-Finish : goal.returns-in-Finish
returns-in-Finish g c = record {
  later =
      λ t h.
      let o = c.in-Finish.ensures.offered t h.lawful h.calm h.proto in
      c.finish.ensures.later t o.0 (with_proto g.P.Proto.ties g.P.Proto.room g.W.Wire.shown [] c.args.self.now c.offer.new.self t h (c.offer.ensures.same t h.proto) c.offer.ensures.room) o.1;
  left = omega (arith, c.finish.ensures.left, c.offer.ensures.left);
  words = c.finish.ensures.words;
  reads = c.finish.ensures.reads;
}

pub send_again-requires : goal.send_again-requires
send_again-requires g c =
    let s = c.requires in
    let o = c.in-Again.ensures.offered s.0 s.1.lawful s.1.calm s.1.proto in
    (s.0, o.0, with_proto g.P.Proto.ties g.P.Proto.room g.W.Wire.shown [] c.args.self.now c.offer.new.self s.0 s.1 (c.offer.ensures.same s.0 s.1.proto) c.offer.ensures.room, o.1)

pub returns-in-Again : goal.returns-in-Again
returns-in-Again g c = record {
  later =
      λ t h.
      let o = c.in-Again.ensures.offered t h.lawful h.calm h.proto in
      c.send_again.ensures.later t o.0 (with_proto g.P.Proto.ties g.P.Proto.room g.W.Wire.shown [] c.args.self.now c.offer.new.self t h (c.offer.ensures.same t h.proto) c.offer.ensures.room) o.1;
  left = omega (arith, c.send_again.ensures.left, c.offer.ensures.left);
  words = c.send_again.ensures.words;
  reads = c.send_again.ensures.reads;
}

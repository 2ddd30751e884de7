use Rattle.std.proofs.Common.{arith, refl, [], ap, length, ◌∙◌, length-append}
use Rattle.core_state.proofs.PipeSteps.{up_at}
use Rattle.sp_core.proofs.BusyServed.{asks_none, asks_few, asks_off, asks_next, asks_on, asks_all}
use Rattle.sp_core.proofs.MomentSteps.{with_pipes}
use Rattle.sp_core.proofs.owner.Core.serve_listed.Goals as goal

pub loop-left-init : goal.loop-left-init
loop-left-init g c = record {
  standing =
      let r = c.requires in
      (r.0, r.0, [], c.args.self.now.pipes.busy.items, asks_none g.W.Wire.shown c.args.most c.len-left.result c.args.self.now.pipes r.0 r.2 r.1.pipes (omega (arith, c.len-left.ensures, c.args.self.now.pipes.busy.ok.0)), r.1);
  reached =
      λ s h e.
      (s, [], c.args.self.now.pipes.busy.items, asks_none g.W.Wire.shown c.args.most c.len-left.result c.args.self.now.pipes s e h.pipes (omega (arith, c.len-left.ensures, c.args.self.now.pipes.busy.ok.0)), h);
  words = refl;
}

pub next_busy-requires : goal.next_busy-requires
next_busy-requires g c =
    let o = c.loop-left.invariant.standing in
    let long = ap length o.4.list ∙ length-append o.3 o.2 in
    omega (arith, c.loop-left-test.true, o.4.count, long)

pub serve_pipe-visit-requires : goal.serve_pipe-visit-requires
serve_pipe-visit-requires g c =
    let o = c.loop-left.invariant.standing in
    let k = c.in-Some.ensures o.1 o.5.lawful o.5.pipes in
    let h = with_pipes g.P.Proto.ties g.P.Proto.room g.W.Wire.shown [] c.loop-left.self c.next_busy.new.self o.1 o.5 k.stands in
    (o.1, h, k.turned.1, asks_next g.W.Wire.shown c.args.most c.loop-left.waiting c.loop-left.left c.loop-left.self.pipes c.next_busy.new.self o.2 o.3 o.0 o.1 _ o.5.pipes o.4 (omega (arith, c.loop-left-test.true)) k (up_at g.W.Wire.shown c.next_busy.new.self o.1 _ _ k.stands k.turned.1))

pub overflow_add-waiting : goal.overflow_add-waiting
overflow_add-waiting g c =
    let o = c.loop-left.invariant.standing in
    let k = c.in-Some.ensures o.1 o.5.lawful o.5.pipes in
    let h = with_pipes g.P.Proto.ties g.P.Proto.room g.W.Wire.shown [] c.loop-left.self c.next_busy.new.self o.1 o.5 k.stands in
    let fresh = asks_next g.W.Wire.shown c.args.most c.loop-left.waiting c.loop-left.left c.loop-left.self.pipes c.next_busy.new.self o.2 o.3 o.0 o.1 _ o.5.pipes o.4 (omega (arith, c.loop-left-test.true)) k (up_at g.W.Wire.shown c.next_busy.new.self o.1 _ _ k.stands k.turned.1) in
    let r = c.serve_pipe-visit.ensures.does o.1 h k.turned.1 fresh in
    let low = asks_few g.W.Wire.shown c.args.most c.loop-left.waiting c.loop-left.left c.loop-left.self.pipes o.2 o.3 o.0 o.1 o.5.lawful o.5.pipes o.4 in
    let few = r.1.few in
    grind (arith, low, few)

pub loop-left-preserved-in-Some : goal.loop-left-preserved-in-Some
loop-left-preserved-in-Some g c = record {
  standing =
      let o = c.loop-left.invariant.standing in
      let k = c.in-Some.ensures o.1 o.5.lawful o.5.pipes in
      let h = with_pipes g.P.Proto.ties g.P.Proto.room g.W.Wire.shown [] c.loop-left.self c.next_busy.new.self o.1 o.5 k.stands in
      let fresh = asks_next g.W.Wire.shown c.args.most c.loop-left.waiting c.loop-left.left c.loop-left.self.pipes c.next_busy.new.self o.2 o.3 o.0 o.1 _ o.5.pipes o.4 (omega (arith, c.loop-left-test.true)) k (up_at g.W.Wire.shown c.next_busy.new.self o.1 _ _ k.stands k.turned.1) in
      let r = c.serve_pipe-visit.ensures.does o.1 h k.turned.1 fresh in
      let n = asks_on g.W.Wire.shown c.args.most c.loop-left.waiting c.loop-left.left c.loop-left.self.pipes c.next_busy.new.self o.2 o.3 o.0 o.1 _ c.serve_pipe-visit.result r.0 c.serve_pipe-visit.new.self.pipes o.5.pipes o.4 (omega (arith, c.loop-left-test.true)) k r.1 r.3 in
      (o.0, r.0, _, n.0, n.1, r.2);
  reached =
      λ s h e.
      let o = c.loop-left.invariant.reached s h e in
      let k = c.in-Some.ensures o.0 o.4.lawful o.4.pipes in
      let h' = with_pipes g.P.Proto.ties g.P.Proto.room g.W.Wire.shown [] c.loop-left.self c.next_busy.new.self o.0 o.4 k.stands in
      let fresh = asks_next g.W.Wire.shown c.args.most c.loop-left.waiting c.loop-left.left c.loop-left.self.pipes c.next_busy.new.self o.1 o.2 s o.0 _ o.4.pipes o.3 (omega (arith, c.loop-left-test.true)) k (up_at g.W.Wire.shown c.next_busy.new.self o.0 _ _ k.stands k.turned.1) in
      let r = c.serve_pipe-visit.ensures.does o.0 h' k.turned.1 fresh in
      let n = asks_on g.W.Wire.shown c.args.most c.loop-left.waiting c.loop-left.left c.loop-left.self.pipes c.next_busy.new.self o.1 o.2 s o.0 _ c.serve_pipe-visit.result r.0 c.serve_pipe-visit.new.self.pipes o.4.pipes o.3 (omega (arith, c.loop-left-test.true)) k r.1 r.3 in
      (r.0, _, n.0, n.1, r.2);
  words = c.serve_pipe-visit.ensures.words ∙ c.loop-left.invariant.words;
}

pub loop-left-preserved : goal.loop-left-preserved
loop-left-preserved g c = record {
  standing =
      let o = c.loop-left.invariant.standing in
      let k = c.in_default.ensures o.1 o.5.lawful o.5.pipes in
      let n = asks_off g.W.Wire.shown c.args.most c.loop-left.waiting c.loop-left.left c.loop-left.self.pipes c.next_busy.new.self o.2 o.3 o.0 o.1 o.5.pipes o.4 (omega (arith, c.loop-left-test.true)) k in
      (o.0, o.1, o.2, n.0, n.1, with_pipes g.P.Proto.ties g.P.Proto.room g.W.Wire.shown [] c.loop-left.self c.next_busy.new.self o.1 o.5 k.stands);
  reached =
      λ s h e.
      let o = c.loop-left.invariant.reached s h e in
      let k = c.in_default.ensures o.0 o.4.lawful o.4.pipes in
      let n = asks_off g.W.Wire.shown c.args.most c.loop-left.waiting c.loop-left.left c.loop-left.self.pipes c.next_busy.new.self o.1 o.2 s o.0 o.4.pipes o.3 (omega (arith, c.loop-left-test.true)) k in
      (o.0, o.1, n.0, n.1, with_pipes g.P.Proto.ties g.P.Proto.room g.W.Wire.shown [] c.loop-left.self c.next_busy.new.self o.0 o.4 k.stands);
  words = c.loop-left.invariant.words;
}

pub returns : goal.returns
returns g c = record {
  does =
      λ t h e.
      let o = c.loop-left.invariant.reached t h e in
      (o.0, (o.1, asks_all c.args.most c.loop-left.waiting c.loop-left.left c.loop-left.self.pipes o.1 o.2 t o.0 o.3 (omega (arith, c.loop-left-test.false))), o.4);
  words = c.loop-left.invariant.words;
}

use Rattle.std.proofs.Common.{ap}
use Rattle.sp_history.specs.declared.entry.Why.TheVariants as whys
use Rattle.core_state.specs.declared.op_words.OpWords.{OpWords}
use Rattle.core_state.proofs.PipeSteps.{up_at}
use Rattle.sp_core.proofs.Downs.{closes_down}
use Rattle.sp_core.proofs.owner.Core.take_down_closed.Goals as goal

pub close_pipe-requires : goal.close_pipe-requires
close_pipe-requires g c = let r = c.requires in (r.0, c.args.p, r.1.pipes, r.2)

pub returns : goal.returns
returns g c = record {
  does =
      λ t h there.
      let p = c.args.p in
      let u = up_at g.W.Wire.shown c.args.self.now.pipes t c.args.i p h.pipes there in
      closes_down g.P.Proto.ties g.P.Proto.room g.P.Proto.left g.P.Proto.copies g.W.Wire.shown c.args.self.now c.note_down.new.self c.close_pipe.new.self t p whys.Closed h u (c.close_pipe.ensures t p h.lawful h.pipes there) c.note_down.ensures;
  words = ap (λ (x : OpWords). x.words) c.note_down.ensures.op_words;
}

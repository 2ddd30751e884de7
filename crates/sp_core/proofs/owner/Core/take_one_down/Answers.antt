use Rattle.std.proofs.Common.{refl, inl, inr, [], ap}
use Rattle.std.specs.Prelude.{◌∷◌}
use Rattle.sp_history.specs.declared.entry.Why.TheVariants as whys
use Rattle.sp_history.specs.declared.entry.Entry.TheVariants.{Clear, Stall, Down}
use Rattle.sp_history.specs.Moments.{also}
use Rattle.core_state.specs.declared.op_words.OpWords.{OpWords}
use Rattle.core_state.proofs.PipeSteps.{up_at}
use Rattle.sp_core.proofs.Closings.{flush_lawful, flushed}
use Rattle.sp_core.proofs.Downs.{closes_down}
use Rattle.sp_core.proofs.owner.Core.take_one_down.Goals as goal

pub flush-requires : goal.flush-requires
flush-requires g c = let r = c.requires in (r.0, c.args.p, r.1.lawful, r.1.pipes, r.2)

pub take_down_closed-requires : goal.take_down_closed-requires
take_down_closed-requires g c =
    let r = c.requires in
    let p = c.args.p in
    let u = up_at g.W.Wire.shown c.args.self.now.pipes r.0 c.args.i p r.1.pipes r.2 in
    let l = c.in-Clear.ensures.flushed r.0 p r.1.lawful r.1.pipes r.2 in (
      also r.0 (Clear p),
      flushed g.P.Proto.ties g.P.Proto.room g.W.Wire.shown c.args.self.now c.flush.new.self r.0 p (Clear p) r.1 u (inl refl) (g.met.P.Proto.silent c.args.self.now.proto r.0 (Clear p) tt (flush_lawful g.P.Proto.ties g.P.Proto.room g.W.Wire.shown c.args.self.now r.0 p (Clear p) r.1 u (inl refl)) r.1.proto) l.0,
      l.1,
    )

pub take_down_closed-requires-in-Stall : goal.take_down_closed-requires-in-Stall
take_down_closed-requires-in-Stall g c =
    let r = c.requires in
    let p = c.args.p in
    let u = up_at g.W.Wire.shown c.args.self.now.pipes r.0 c.args.i p r.1.pipes r.2 in
    let l = c.in-Stall.ensures.flushed r.0 p r.1.lawful r.1.pipes r.2 in (
      also r.0 (Stall p),
      flushed g.P.Proto.ties g.P.Proto.room g.W.Wire.shown c.args.self.now c.flush.new.self r.0 p (Stall p) r.1 u (inr refl) (g.met.P.Proto.silent c.args.self.now.proto r.0 (Stall p) tt (flush_lawful g.P.Proto.ties g.P.Proto.room g.W.Wire.shown c.args.self.now r.0 p (Stall p) r.1 u (inr refl)) r.1.proto) l.0,
      l.1,
    )

pub returns-in-Clear : goal.returns-in-Clear
returns-in-Clear g c = record {
  does =
      λ t h there.
      let p = c.args.p in
      let u = up_at g.W.Wire.shown c.args.self.now.pipes t c.args.i p h.pipes there in
      let l = c.in-Clear.ensures.flushed t p h.lawful h.pipes there in
      let k = flushed g.P.Proto.ties g.P.Proto.room g.W.Wire.shown c.args.self.now c.flush.new.self t p (Clear p) h u (inl refl) (g.met.P.Proto.silent c.args.self.now.proto t (Clear p) tt (flush_lawful g.P.Proto.ties g.P.Proto.room g.W.Wire.shown c.args.self.now t p (Clear p) h u (inl refl)) h.proto) l.0 in
      (Clear p ∷ Down p whys.Closed ∷ [], inr (inl refl), c.take_down_closed.ensures.does (also t (Clear p)) k l.1, refl, refl);
  words = c.take_down_closed.ensures.words;
}

pub returns-in-Stall : goal.returns-in-Stall
returns-in-Stall g c = record {
  does =
      λ t h there.
      let p = c.args.p in
      let u = up_at g.W.Wire.shown c.args.self.now.pipes t c.args.i p h.pipes there in
      let l = c.in-Stall.ensures.flushed t p h.lawful h.pipes there in
      let k = flushed g.P.Proto.ties g.P.Proto.room g.W.Wire.shown c.args.self.now c.flush.new.self t p (Stall p) h u (inr refl) (g.met.P.Proto.silent c.args.self.now.proto t (Stall p) tt (flush_lawful g.P.Proto.ties g.P.Proto.room g.W.Wire.shown c.args.self.now t p (Stall p) h u (inr refl)) h.proto) l.0 in
      (Stall p ∷ Down p whys.Closed ∷ [], inl refl, c.take_down_closed-in-Stall.ensures.does (also t (Stall p)) k l.1, refl, refl);
  words = c.take_down_closed-in-Stall.ensures.words;
}

pub returns-in-Down : goal.returns-in-Down
returns-in-Down g c = record {
  does =
      λ t h there.
      let p = c.args.p in
      let why = c.in-Down.field-0 in
      let u = up_at g.W.Wire.shown c.args.self.now.pipes t c.args.i p h.pipes there in
      let l = c.in-Down.ensures.flushed t p h.lawful h.pipes there in
      let k = closes_down g.P.Proto.ties g.P.Proto.room g.P.Proto.left g.P.Proto.copies g.W.Wire.shown c.args.self.now c.note_down.new.self c.flush.new.self t p why h u l.1 c.note_down.ensures in
      (Down p why ∷ [], inr (inr (why, l.0, refl)), k, refl, refl);
  words = ap (λ (x : OpWords). x.words) c.note_down.ensures.op_words;
}

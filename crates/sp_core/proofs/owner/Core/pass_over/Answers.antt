use Rattle.std.proofs.Common.{◌∙◌, arith, refl, ap, inl, inr}
use Rattle.sp_history.specs.declared.entry.Entry.TheVariants.{Frame, Down}
use Rattle.sp_history.specs.declared.entry.Why.TheVariants as whys
use Rattle.sp_history.specs.Moments.{past, also}
use Rattle.sp_history.proofs.Malformed.{too_long}
use Rattle.sp_core.specs.declared.owner.Core.{Core}
use Rattle.sp_core.proofs.AfterFlushOrPull.{frame_lawful, malformed_lawful, place_counted, room_down, goes_down_on, shows_malformed, went_down_malformed}
use Rattle.core_state.proofs.PipeSteps.{up_at}
use Rattle.core_state.specs.declared.op_words.OpWords.{OpWords}
use Rattle.core_state.specs.declared.pipes.Pipes.{Pipes}
use Rattle.sp_core.proofs.owner.Core.pass_over.Goals as goal

pub take_down-requires-clause-there : goal.take_down-requires-clause-there
take_down-requires-clause-there g c = let r = c.requires in place_counted g.W.Wire.shown c.args.self.now.pipes (also r.1 (Frame c.args.p c.args.m.body)) c.args.i c.args.p r.4 r.5

pub take_down-requires-clause-room : goal.take_down-requires-clause-room
take_down-requires-clause-room g c = let r = c.requires in room_down g.W.Wire.shown c.args.self.now.pipes (also r.1 (Frame c.args.p c.args.m.body)) c.args.i c.args.p r.4 r.5

pub returns : goal.returns
returns g c = record {
  does =
      λ l t h car there w long.
      let p = c.args.p in
      let b = c.args.m.body in
      let f = also t (Frame p b) in
      let is_up = up_at g.W.Wire.shown c.args.self.now.pipes f c.args.i p car there in
      let lawful = frame_lawful t p b h.lawful h.calm is_up w in
      let k = c.note_down.ensures in
      let is = c.note_down.new.self in
      let was : Core g.row.P.Denot g.row.W.Denot = record { proto = c.args.self.now.proto; op_words = c.args.self.now.op_words; operations = c.args.self.now.operations; pipes = l; tally = c.args.self.now.tally; closed = c.args.self.now.closed } in
      let bad = too_long t.z (past t) p b long in
      let passed = g.met.P.Proto.passes c.args.self.now.proto t p b long lawful h.proto in
      let down = k.proto f whys.Malformed (malformed_lawful t p b lawful is_up) passed in
      let pipes = goes_down_on g.W.Wire.shown c.args.self.now.pipes c.take_down.new.self is.pipes f c.args.i p whys.Malformed whys.Malformed refl lawful car there (λ v. shows_malformed t.z p b (past t) v bad) c.take_down.ensures.empties k.pipes in
      (also f (Down p whys.Malformed), inr (b, inl (bad, refl)), went_down_malformed g.P.Proto.ties g.P.Proto.room g.W.Wire.shown was is t p b h is_up w bad down (omega (arith, k.has_room)) pipes (k.tally f whys.Malformed (c.frame.ensures t p b h.tally)) k.op_words k.operations k.closed, tt, ap (λ (l : Pipes g.row.W.Denot). l.busy) k.pipes ∙ c.take_down.ensures.empties.busy);
  words = ap (λ (x : OpWords). x.words) c.note_down.ensures.op_words;
}

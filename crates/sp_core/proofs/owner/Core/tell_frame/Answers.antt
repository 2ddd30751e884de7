use Rattle.std.proofs.Common.{◌∷◌, ◌∙◌, arith, refl, subst, inl, inr, ap}
use Rattle.sp_proto.specs.declared.Verdict.{Verdict}
use Rattle.sp_proto.specs.Machines.{Frames}
use Rattle.sp_history.specs.declared.entry.Entry.TheVariants.{Frame, Down, Dry, Unkept}
use Rattle.sp_history.specs.declared.entry.Why.TheVariants as whys
use Rattle.sp_history.specs.Moments.{past, also}
use Rattle.sp_history.proofs.Malformed.{by_rule}
use Rattle.sp_core.specs.declared.owner.Core.{Core}
use Rattle.sp_core.proofs.AfterFlushOrPull.{frame_lawful, malformed_lawful, unkept_lawful, memory_lawful, place_counted, room_down, goes_down_on, shows_malformed, shows_unkept, pipes_unkept, framed, dried, went_down_malformed, went_down_unkept}
use Rattle.core_state.proofs.PipeSteps.{up_at}
use Rattle.core_state.proofs.Tallying.{same_tally}
use Rattle.core_state.specs.declared.op_words.OpWords.{OpWords}
use Rattle.core_state.specs.declared.pipes.Pipes.{Pipes}
use Rattle.sp_core.proofs.owner.Core.tell_frame.Goals as goal
use Rattle.sp_core.proofs.owner.Core.tell_frame.Goals.{in-Malformed, in-NoMemory}

pub returns-in-Fine : goal.returns-in-Fine
returns-in-Fine g c = record {
  does =
      λ l t h car there w short.
      let p = c.args.p in
      let b = c.args.m.body in
      let is_up = up_at g.W.Wire.shown c.args.self.now.pipes (also t (Frame p b)) c.args.i p car there in
      let kept = c.in-Fine.ensures.kept t short (frame_lawful t p b h.lawful h.calm is_up w) h.proto in
      let was : Core g.row.P.Denot g.row.W.Denot = record { proto = c.args.self.now.proto; op_words = c.args.self.now.op_words; operations = c.args.self.now.operations; pipes = l; tally = c.args.self.now.tally; closed = c.args.self.now.closed } in
      let is : Core g.row.P.Denot g.row.W.Denot = record { proto = c.frame-2.new.self; op_words = c.args.self.now.op_words; operations = c.args.self.now.operations; pipes = c.args.self.now.pipes; tally = c.frame.new.self; closed = c.args.self.now.closed } in
      (also t (Frame p b), (b, inl refl), framed g.P.Proto.ties g.P.Proto.room g.W.Wire.shown was is t p b h is_up w (by_rule t.z (past t) p b short ∙ kept.0) kept.1 c.frame-2.ensures.room car (c.frame.ensures t p b h.tally) refl refl refl, there, refl);
  words = refl;
}

pub returns-in-Dry : goal.returns-in-Dry
returns-in-Dry g c = record {
  does =
      λ l t h car there w short.
      let p = c.args.p in
      let b = c.args.m.body in
      let x = c.in-Dry.field-0 in
      let is_up = up_at g.W.Wire.shown c.args.self.now.pipes (also t (Frame p b)) c.args.i p car there in
      let kept = c.in-Dry.ensures.kept t short (frame_lawful t p b h.lawful h.calm is_up w) h.proto in
      let was : Core g.row.P.Denot g.row.W.Denot = record { proto = c.args.self.now.proto; op_words = c.args.self.now.op_words; operations = c.args.self.now.operations; pipes = l; tally = c.args.self.now.tally; closed = c.args.self.now.closed } in
      let is : Core g.row.P.Denot g.row.W.Denot = record { proto = c.frame-2.new.self; op_words = c.args.self.now.op_words; operations = c.args.self.now.operations; pipes = c.args.self.now.pipes; tally = c.frame.new.self; closed = c.args.self.now.closed } in
      (also (also t (Frame p b)) (Dry x), (b, inr (x, kept.1, refl)), dried g.P.Proto.ties g.P.Proto.room g.W.Wire.shown was is t p b x h is_up w (by_rule t.z (past t) p b short ∙ kept.0) kept.1 kept.2 kept.3 c.frame-2.ensures.room car (c.frame.ensures t p b h.tally) refl refl refl, there, refl);
  words = refl;
}

pub take_down-requires-clause-there : goal.take_down-requires-clause-there
take_down-requires-clause-there g c = let r = c.requires in place_counted g.W.Wire.shown c.args.self.now.pipes (also r.1 (Frame c.args.p c.args.m.body)) c.args.i c.args.p r.4 r.5

pub take_down-requires-clause-room : goal.take_down-requires-clause-room
take_down-requires-clause-room g c = let r = c.requires in room_down g.W.Wire.shown c.args.self.now.pipes (also r.1 (Frame c.args.p c.args.m.body)) c.args.i c.args.p r.4 r.5

pub returns : goal.returns
returns g c = record {
  does =
      λ l t h car there w short.
      let p = c.args.p in
      let b = c.args.m.body in
      let f = also t (Frame p b) in
      let n = also f (Unkept p) in
      let is_up = up_at g.W.Wire.shown c.args.self.now.pipes f c.args.i p car there in
      let lawful = frame_lawful t p b h.lawful h.calm is_up w in
      let taken = c.take_down.ensures in
      let k = c.note_down.ensures in
      let is = c.note_down.new.self in
      let was : Core g.row.P.Denot g.row.W.Denot = record { proto = c.args.self.now.proto; op_words = c.args.self.now.op_words; operations = c.args.self.now.operations; pipes = l; tally = c.args.self.now.tally; closed = c.args.self.now.closed } in
      elim c.match-frame.branch [
        | in-Malformed m ↦
            let kept = subst (λ (v : Verdict). Frames (g.P.Proto.ties c.frame-2.new.self) v t p b) m.in-Malformed.is (c.frame-2.ensures.kept t short lawful h.proto) in
            let bad = by_rule t.z (past t) p b short ∙ kept.0 in
            let down = k.proto f whys.Malformed (malformed_lawful t p b lawful is_up) kept.1 in
            let pipes = goes_down_on g.W.Wire.shown c.args.self.now.pipes c.take_down.new.self is.pipes f c.args.i p c.match-frame.why whys.Malformed m.why-is lawful car there (λ v. shows_malformed t.z p b (past t) v bad) taken.empties k.pipes in
            (also f (Down p whys.Malformed), inr (b, inl (bad, refl)), went_down_malformed g.P.Proto.ties g.P.Proto.room g.W.Wire.shown was is t p b h is_up w bad down (omega (arith, c.frame-2.ensures.room, k.has_room)) pipes (k.tally f whys.Malformed (c.frame.ensures t p b h.tally)) k.op_words k.operations k.closed, tt, ap (λ (l : Pipes g.row.W.Denot). l.busy) k.pipes ∙ taken.empties.busy)
        | in-NoMemory m ↦
            let kept = subst (λ (v : Verdict). Frames (g.P.Proto.ties c.frame-2.new.self) v t p b) m.in-NoMemory.is (c.frame-2.ensures.kept t short lawful h.proto) in
            let well = by_rule t.z (past t) p b short ∙ kept.0 in
            let unkept = unkept_lawful t p b lawful is_up well in
            let down = k.proto n whys.NoMemory (memory_lawful t p b unkept h.calm is_up well) kept.1 in
            let pipes = goes_down_on g.W.Wire.shown c.args.self.now.pipes c.take_down.new.self is.pipes n c.args.i p c.match-frame.why whys.NoMemory m.why-is unkept (pipes_unkept g.W.Wire.shown c.args.self.now.pipes f p car) there (λ v. shows_unkept t.z p (Frame p b ∷ past t) v) taken.empties k.pipes in
            (also n (Down p whys.NoMemory), inr (b, inr refl), went_down_unkept g.P.Proto.ties g.P.Proto.room g.W.Wire.shown was is t p b h is_up w well down (omega (arith, c.frame-2.ensures.room, k.has_room)) pipes (k.tally n whys.NoMemory (same_tally c.frame.new.self f (Unkept p) refl refl refl refl refl refl (c.frame.ensures t p b h.tally))) k.op_words k.operations k.closed, tt, ap (λ (l : Pipes g.row.W.Denot). l.busy) k.pipes ∙ taken.empties.busy)
      ];
  words = ap (λ (x : OpWords). x.words) c.note_down.ensures.op_words;
}

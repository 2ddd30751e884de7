use Rattle.std.proofs.Common.{inl, inr, sym, ap, length, ◌∙◌, arith}
use Rattle.std.proofs.lemmas.Bool.Decides.{nat_tests}
use Rattle.sp_ws.proofs.Outlets.{answered_none}
use Rattle.sp_ws.proofs.outlet.FrameOutlet.answer.Goals.{else-is_empty-via-then-is_empty+else-had-waiting, else-is_empty-via-else-is_empty}
use Rattle.sp_ws.proofs.outlet.FrameOutlet.answer.Goals as goal

pub returns-else-is_empty : goal.returns-else-is_empty
returns-else-is_empty g c = elim c.else-is_empty.branch [
  | else-is_empty-via-then-is_empty+else-had-waiting w ↦ answered_none c.args.had c.args.self.now c.args.frames.now (g.L.Link.seen c.args.link.now) (inr (omega (arith, w.if-had-waiting.false, ap length w.waiting.ensures)))
  | else-is_empty-via-else-is_empty w ↦
      let none = sym c.is_empty.ensures ∙ w.if-is_empty.false in
      answered_none c.args.had c.args.self.now c.args.frames.now (g.L.Link.seen c.args.link.now) (inl (grind (arith, nat_tests, none)))
]

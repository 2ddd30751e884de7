use Rattle.std.proofs.Common.{refl}
use Rattle.sp_core.proofs.TurnEnds.{drawn_none}
use Rattle.sp_core.proofs.owner.Core.draw_for.Goals as goal

pub returns-in-Err-clause-drawn : goal.returns-in-Err-clause-drawn
returns-in-Err-clause-drawn g c = record { does = λ t act h v. let k = c.in-Err.ensures t act h v in (h, k.0, k.1); words = refl; reads = refl }

pub returns-in_default-draw-clause-drawn : goal.returns-in_default-draw-clause-drawn
returns-in_default-draw-clause-drawn g c = record {
  does =
      λ t act h v.
      let can = c.in_default.ensures t act h v in
      let d = drawn_none c.draw.result _ _ c.in_default-draw.not-Some (c.draw.ensures.drawn.does t h) in
      (d.0, (can.open_, (can.supported, can.ctx_open, can.no_state), d.1), λ q. cc);
  words = c.draw.ensures.drawn.words;
  reads = c.draw.ensures.drawn.reads;
}

pub returns-clause-drawn : goal.returns-clause-drawn
returns-clause-drawn g c = record {
  does = λ t act h v. let d = c.in-Some.ensures.drawn.does t h in (d.0, d.1, c.in_default.ensures t act h v);
  words = c.draw.ensures.drawn.words;
  reads = c.draw.ensures.drawn.reads;
}

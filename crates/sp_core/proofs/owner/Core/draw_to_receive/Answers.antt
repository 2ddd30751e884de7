use Rattle.std.proofs.Common.{◌≡◌, ◌∙◌, refl, sym, Bool, true, false}
use Rattle.std.specs.Prelude.{not}
use Rattle.sp_history.specs.declared.entry.RecordedAct.TheVariants as acts
use Rattle.sp_core.proofs.ReceivedAtOnce.{slot_left, goes_back}
use Rattle.sp_core.proofs.owner.Core.draw_to_receive.Goals as goal

nothing : (a r : Bool) → r ≡ not a → r ≡ false → a ≡ true
nothing true r h e = refl
nothing false r h e = let q : true ≡ false = sym h ∙ e in absurd cc

something : (a r : Bool) → r ≡ not a → r ≡ true → a ≡ false
something false r h e = refl
something true r h e = let q : false ≡ true = sym h ∙ e in absurd cc

pub returns-in-Err : goal.returns-in-Err
returns-in-Err g c = record {
  does = λ t h. let d = c.in-Err.ensures.drawn.does t acts.Recv h refl in (d.0, (d.1, d.2));
  words = c.draw_for.ensures.drawn.words;
  reads = c.draw_for.ensures.drawn.reads;
}

pub returns-then-not-keeps : goal.returns-then-not-keeps
returns-then-not-keeps g c = record {
  does =
      λ t h.
      let d = c.in-Ok.ensures.drawn.does t acts.Recv h refl in
      let can = d.2 in (
        goes_back g.P.Proto.ties g.P.Proto.room g.W.Wire.shown c.draw_for.new.self c.put_back.new.self c.in-Ok.op.slot t d.0 (c.put_back.ensures.back t d.0.operations) c.put_back.ensures.lengths,
        (can.open_, (can.supported, can.ctx_open, can.no_state), slot_left t c.in-Ok.op d.1, nothing _ c.keeps.result (c.keeps.ensures t d.0.lawful d.0.proto can.role_does can.ctx_open) c.if-not-keeps.true),
      );
  words = c.draw_for.ensures.drawn.words;
  reads = c.draw_for.ensures.drawn.reads;
}

pub returns : goal.returns
returns g c = record {
  does =
      λ t h.
      let d = c.in-Ok.ensures.drawn.does t acts.Recv h refl in
      let can = d.2 in
      (d.0, d.1, can, something _ c.keeps.result (c.keeps.ensures t d.0.lawful d.0.proto can.role_does can.ctx_open) c.if-not-keeps.false);
  words = c.draw_for.ensures.drawn.words;
  reads = c.draw_for.ensures.drawn.reads;
}

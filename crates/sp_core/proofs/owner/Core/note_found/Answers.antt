use Rattle.std.proofs.Common.{ap, ◌∙◌}
use Rattle.sp_history.specs.declared.entry.Ending.TheVariants.{Gone}
use Rattle.core_state.specs.declared.op_words.OpWords.{OpWords}
use Rattle.sp_core.proofs.GoneOperations.{owns_decided}
use Rattle.sp_core.proofs.owner.Core.note_found.Goals as goal

pub note_end-requires : goal.note_end-requires
note_end-requires g c = let r = c.requires.owns in (r.0, r.1, r.2.operations, r.2.lawful, r.3)

pub returns-clause-found : goal.returns-clause-found
returns-clause-found g c = record {
  does =
      λ t s h p.
      let d = c.in-Gone.ensures.found t s h.lawful h.op_words p in
      (Gone c.in-Gone.cause c.in-Gone.by, (owns_decided g.P.Proto.ties g.P.Proto.room g.P.Proto.left g.W.Wire.shown c.args.self.now c.note_end.new.self c.found.new.self t c.args.op s c.in-Gone.cause c.in-Gone.by h p d c.note_end.ensures).0);
  words = ap (λ (x : OpWords). x.words) c.note_end.ensures.op_words ∙ c.found.ensures.same.0;
}

use Rattle.std.proofs.Common.{refl, ap, sym, ◌∙◌, subst, List, [], ◌∷◌, inl, inr, append-nil}
use Rattle.sp_base.specs.declared.OpName.{OpName}
use Rattle.aio_word.specs.declared.phase.Phase.TheVariants.{Pending as PendingPhase}
use Rattle.aio_word.specs.declared.rule.ShownOperation as word
use Rattle.aio_word.specs.Results.{of_op}
use Rattle.sp_history.specs.declared.entry.Ending.{Ending}
use Rattle.sp_history.specs.declared.entry.Ending.TheVariants.{Gone}
use Rattle.sp_history.specs.declared.entry.Entry.TheVariants.{End}
use Rattle.sp_history.specs.Past.{pending}
use Rattle.sp_history.specs.Moments.{also, past}
use Rattle.core_state.proofs.Walks.{off}
use Rattle.sp_core.specs.Looking.{reads_of}
use Rattle.core_state.specs.Reads.{Grows}
use Rattle.core_state.specs.PartSteps.{LeavesPending}
use Rattle.core_state.proofs.Among.{pending_there}
use Rattle.sp_core.proofs.MomentSteps.{with_op_words, is_gone, later-now, later-one}
use Rattle.core_state.specs.declared.op_words.OpWords.{OpWords}
use Rattle.sp_core.proofs.GoneOperations.{owns_decided}
use Rattle.sp_core.proofs.owner.Core.note_if_ended.Goals as goal

pub look-requires : goal.look-requires
look-requires g c =
    let r = c.requires in
    let f = pending_there c.args.self.now.operations r.0 c.args.x.now r.1.operations r.1.lawful r.2 in
    (r.0, f.0, r.1.lawful, r.1.op_words, ap (pending (past r.0)) c.name-op.ensures ∙ f.1)

pub unreachable-requires : goal.unreachable-requires
unreachable-requires g c =
    let r = c.requires in
    let f = pending_there c.args.self.now.operations r.0 c.args.x.now r.1.operations r.1.lawful r.2 in
    (c.in-Some-Won.ensures.looked r.0 f.0 r.1.lawful r.1.op_words (ap (pending (past r.0)) c.name-op.ensures ∙ f.1)).0 c.in-Some-Won.field-0-is

pub note_end-requires : goal.note_end-requires
note_end-requires g c =
    let r = c.requires in
    let f = pending_there c.args.self.now.operations r.0 c.args.x.now r.1.operations r.1.lawful r.2 in
    let p = ap (pending (past r.0)) c.name-op.ensures ∙ f.1 in
    (r.0, f.0, r.1.operations, r.1.lawful, p)

pub returns-then-not-is_on : goal.returns-then-not-is_on
returns-then-not-is_on g c = record {
  later =
      λ t h.
      let other = off c.args.x.now.ctx c.args.c c.is_on.result c.is_on.ensures c.if-not-is_on.true in
      (t, later-now t, h, inl (refl, refl, record { more = []; grew = sym (append-nil (reads_of c.args.self.now)); read = λ e. absurd (other e) }));
  words = refl;
}

pub returns-in-None : goal.returns-in-None
returns-in-None g c = record {
  later =
      λ t h.
      let f = pending_there c.args.self.now.operations t c.args.x.now h.operations h.lawful c.requires.2 in
      let p = ap (pending (past t)) c.name-op.ensures ∙ f.1 in
      let k = c.in-None.ensures.looked t f.0 h.lawful h.op_words p in (
        t,
        later-now t,
        with_op_words g.P.Proto.ties g.P.Proto.room g.W.Wire.shown [] c.args.self.now c.look.new.self t h k,
        inl (refl, refl, record { more = of_op c.name-op.result PendingPhase 0 ∷ []; grew = c.in-None.ensures.reads.1; read = λ e. inl (ap (λ (o : OpName). of_op o PendingPhase 0) c.name-op.ensures) }),
      );
  words = c.look.ensures.reads.0;
}

pub returns-in-Some-Gone : goal.returns-in-Some-Gone
returns-in-Some-Gone g c = record {
  later =
      λ t h.
      let f = pending_there c.args.self.now.operations t c.args.x.now h.operations h.lawful c.requires.2 in
      let p = ap (pending (past t)) c.name-op.ensures ∙ f.1 in
      let k = c.in-Some-Gone.ensures.looked t f.0 h.lawful h.op_words p in
      let ending : Ending = Gone c.in-Some-Gone.cause c.in-Some-Gone.by in
      let e = End c.name-op.result ending in (
        also t e,
        later-one t e tt,
        (owns_decided g.P.Proto.ties g.P.Proto.room g.P.Proto.left g.W.Wire.shown c.args.self.now c.note_end.new.self c.look.new.self t c.name-op.result f.0 c.in-Some-Gone.cause c.in-Some-Gone.by h p (is_gone c.in-Some-Gone.field-0 c.in-Some-Gone.cause c.in-Some-Gone.by c.name-op.result t c.look.new.self c.in-Some-Gone.field-0-is k.1) c.note_end.ensures).0,
        inr (
          subst (λ (o : OpName). LeavesPending o c.args.self.now.operations c.note_end.new.self.operations) c.name-op.ensures c.note_end.ensures.leaves,
          subst (λ (xs : List word.ShownOperation). Grows (reads_of c.args.self.now) xs) (sym (ap (λ (x : OpWords). x.seat.view.reads) c.note_end.ensures.op_words)) c.in-Some-Gone.ensures.reads.1,
          (ending, ap (λ (o : OpName). also t (End o ending)) c.name-op.ensures),
        ),
      );
  words = ap (λ (x : OpWords). x.words) c.note_end.ensures.op_words ∙ c.look.ensures.reads.0;
}

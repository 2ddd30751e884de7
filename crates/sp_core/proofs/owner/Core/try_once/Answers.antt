use Rattle.std.proofs.Common.{◌∙◌, refl, sym, subst, List}
use Rattle.aio_word.specs.declared.rule.ShownOperation as word
use Rattle.sp_history.specs.declared.entry.Entry.TheVariants.{End}
use Rattle.sp_history.specs.Moments.{also}
use Rattle.sp_core.specs.Immediate.{tried}
use Rattle.sp_core.specs.Looking.{reads_of}
use Rattle.core_state.specs.Reads.{Grows}
use Rattle.sp_core.proofs.ContextLooks.{grows_trans}
use Rattle.sp_core.proofs.MoreReads.{grows_same}
use Rattle.sp_core.proofs.ReceivedAtOnce.{now_begun, got, missed, never_sent}
use Rattle.sp_core.proofs.TriedOnce.{begun, begun_now, given_now, took_now}
use Rattle.sp_core.proofs.owner.Core.try_once.Goals as goal

pub draw_to_receive-requires : goal.draw_to_receive-requires
draw_to_receive-requires g c = let r = c.requires in (r.0, r.1.op_words, r.1.operations)

pub returns-in-Err : goal.returns-in-Err
returns-in-Err g c = record {
  does = λ t h settled. let r = c.in-Err.ensures.does t h in (t, r.0, settled, (refl, r.1));
  words = c.draw_to_receive.ensures.words;
  reads = grows_same _ _ c.draw_to_receive.ensures.reads;
}

pub begin_drawn-requires : goal.begin_drawn-requires
begin_drawn-requires g c = let r = c.requires in let d = c.in-Ok.ensures.does r.0 r.1 in (r.0, d.0, d.1, d.2, r.2.no_flood)

pub unreachable-requires : goal.unreachable-requires
unreachable-requires g c = let other = c.in-Err-begin_drawn.ensures.handed_back in absurd cc

pub give-requires : goal.give-requires
give-requires g c =
    let r = c.requires in
    let op = c.in-Ok.op in
    let b = begun_now g.P.Proto.ties g.P.Proto.room g.W.Wire.shown op c.args.c c.draw_to_receive.new.self c.begin_drawn.new.self c.in-Ok-begin_drawn.ensures.begun.does r.0 r.2 (c.in-Ok.ensures.does r.0 r.1) in
    (begun g.P.Proto.ties g.P.Proto.room g.W.Wire.shown op c.args.c r.0, now_begun op c.args.c, b.message, b.owns, b.can)

pub take-outcome-requires : goal.take-outcome-requires
take-outcome-requires g c =
    let r = c.requires in
    let op = c.in-Ok.op in
    let k = given_now g.P.Proto.ties g.P.Proto.room g.W.Wire.shown op c.args.c c.draw_to_receive.new.self c.begin_drawn.new.self c.in-Ok-begin_drawn.ensures.begun.does c.give.new.self c.give.ensures.gave r.0 r.2 (c.in-Ok.ensures.does r.0 r.1) in
    (also (begun g.P.Proto.ties g.P.Proto.room g.W.Wire.shown op c.args.c r.0) (End op k.ending), k.owns, k.there)

pub settle-requires : goal.settle-requires
settle-requires g c =
    let r = c.requires in
    let op = c.in-Ok.op in
    let k = took_now g.P.Proto.ties g.P.Proto.room g.W.Wire.shown op c.args.c c.draw_to_receive.new.self c.begin_drawn.new.self c.in-Ok-begin_drawn.ensures.begun.does c.give.new.self c.give.ensures.gave c.take-outcome.new.self c.take-outcome.result c.take-outcome.ensures.does r.0 r.2 (c.in-Ok.ensures.does r.0 r.1) in
    (tried r.0 op c.args.c k.ending, k.owns)

pub returns-in-Received : goal.returns-in-Received
returns-in-Received g c = record {
  does =
      λ t h settled.
      let op = c.in-Ok.op in
      let k = took_now g.P.Proto.ties g.P.Proto.room g.W.Wire.shown op c.args.c c.draw_to_receive.new.self c.begin_drawn.new.self c.in-Ok-begin_drawn.ensures.begun.does c.give.new.self c.give.ensures.gave c.take-outcome.new.self c.take-outcome.result c.take-outcome.ensures.does t settled (c.in-Ok.ensures.does t h) in
      let v = c.settle.ensures.later (tried t op c.args.c k.ending) k.owns in
      (v.0, v.2, v.3, (op, got t v.0 op c.args.c t.z.callers k.message k.ending c.in-Received.m k.given (sym c.in-Received.is ∙ k.outcome) v.1));
  words = c.settle.ensures.words ∙ c.take-outcome.ensures.words ∙ c.give.ensures.settles.words ∙ c.in-Ok-begin_drawn.ensures.begun.words ∙ c.draw_to_receive.ensures.words;
  reads =
      let first = subst (λ (xs : List word.ShownOperation). Grows xs (reads_of c.give.new.self)) (c.in-Ok-begin_drawn.ensures.begun.reads ∙ c.draw_to_receive.ensures.reads) c.give.ensures.settles.reads in
      let then = subst (λ (xs : List word.ShownOperation). Grows xs (reads_of c.settle.new.self)) c.take-outcome.ensures.reads c.settle.ensures.reads in
      grows_trans _ _ _ first then;
}

pub returns-in-Gone : goal.returns-in-Gone
returns-in-Gone g c = record {
  does =
      λ t h settled.
      let op = c.in-Ok.op in
      let k = took_now g.P.Proto.ties g.P.Proto.room g.W.Wire.shown op c.args.c c.draw_to_receive.new.self c.begin_drawn.new.self c.in-Ok-begin_drawn.ensures.begun.does c.give.new.self c.give.ensures.gave c.take-outcome.new.self c.take-outcome.result c.take-outcome.ensures.does t settled (c.in-Ok.ensures.does t h) in
      let v = c.settle.ensures.later (tried t op c.args.c k.ending) k.owns in
      let lost = missed t v.0 op c.args.c t.z.callers k.message k.ending c.in-Gone.cause c.in-Gone.by c.in-Gone.back k.given (sym c.in-Gone.is ∙ k.outcome) v.1 in
      (v.0, v.2, v.3, (op, lost.0, lost.1, lost.2, lost.3));
  words = c.settle.ensures.words ∙ c.take-outcome.ensures.words ∙ c.give.ensures.settles.words ∙ c.in-Ok-begin_drawn.ensures.begun.words ∙ c.draw_to_receive.ensures.words;
  reads =
      let first = subst (λ (xs : List word.ShownOperation). Grows xs (reads_of c.give.new.self)) (c.in-Ok-begin_drawn.ensures.begun.reads ∙ c.draw_to_receive.ensures.reads) c.give.ensures.settles.reads in
      let then = subst (λ (xs : List word.ShownOperation). Grows xs (reads_of c.settle.new.self)) c.take-outcome.ensures.reads c.settle.ensures.reads in
      grows_trans _ _ _ first then;
}

pub unreachable-requires-in-Sent : goal.unreachable-requires-in-Sent
unreachable-requires-in-Sent g c =
    let r = c.requires in
    let op = c.in-Ok.op in
    let k = took_now g.P.Proto.ties g.P.Proto.room g.W.Wire.shown op c.args.c c.draw_to_receive.new.self c.begin_drawn.new.self c.in-Ok-begin_drawn.ensures.begun.does c.give.new.self c.give.ensures.gave c.take-outcome.new.self c.take-outcome.result c.take-outcome.ensures.does r.0 r.2 (c.in-Ok.ensures.does r.0 r.1) in
    never_sent op c.args.c r.0.z.callers k.message k.ending k.given (sym c.in-Sent.is ∙ k.outcome)

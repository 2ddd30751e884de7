use Rattle.std.proofs.Common.{◌≡◌, ◌∙◌, sym, ap, arith, refl}
use Rattle.std.specs.Vec.{with_items}
use Rattle.std.specs.Option.{option_map}
use Rattle.std.specs.Prelude.{find, List}
use Rattle.sp_history.specs.declared.parts.Begun.{Begun}
use Rattle.sp_proto.specs.Kinds.{text_of}
use Rattle.proto_requests.specs.FirstFound.{with_found}
use Rattle.proto_survey.specs.Lives.{SurveyView, is_live_on, given_from, first_in}
use Rattle.proto_shared.proofs.Sending.{won_send}
use Rattle.proto_survey.proofs.Writing.{found_written}
use Rattle.proto_survey.proofs.SurveyorEnds.{none_taken, is_begun, recv_is, send_is, none_in, not_received, not_sent, flooded_ties, given_raw, given_cooked, oldest_raw, oldest_cooked}
use Rattle.proto_survey.proofs.survey.SurveyProto.won.Goals as goal

pub returns-in-None-clause-given : goal.returns-in-None-clause-given
returns-in-None-clause-given c = λ t s m o l h k. none_taken c.args.self.now t c.args.op s h k.pending c.in-None.ensures.found

pub returns-in-None-clause-flooded : goal.returns-in-None-clause-flooded
returns-in-None-clause-flooded c = λ t s o l h p f. none_taken c.args.self.now t c.args.op s h p c.in-None.ensures.found

pub returns-then-is_some-clause-given : goal.returns-then-is_some-clause-given
returns-then-is_some-clause-given c =
    λ t s m o l h k.
    let w = c.in-Some.w in
    not_received t c.args.op s m k (send_is s w (is_begun c.args.self.now t c.args.op s w h k.pending c.in-Some.ensures.found) (sym c.is_some.ensures ∙ c.if-is_some.true))

pub returns-then-is_some-clause-flooded : goal.returns-then-is_some-clause-flooded
returns-then-is_some-clause-flooded c =
    λ t s o l h p f.
    let was = c.args.self.now in (
      flooded_ties was t c.args.op s h p (record was { waiting = c.take.new.waiting; copies = c.clear.new.self }) l c.take.ensures.rest refl,
      (omega (arith, c.in-Some.ensures.len), omega (arith, c.in-Some.ensures.len, c.take.ensures.capacity, was.waiting.ok.1)),
    )

pub returns-then-self-clause-given : goal.returns-then-self-clause-given
returns-then-self-clause-given c =
    λ t s m o l h k.
    let was = c.args.self.now in (
      ap (option_map text_of) c.oldest.ensures.first ∙ oldest_raw was t c.args.op s m h k c.if-self.true,
      given_raw was t c.args.op s m h k (record was { waiting = c.take.new.waiting; kept = c.oldest.new.kept }) c.if-self.true c.take.ensures.rest c.oldest.ensures.rest refl,
      (omega (arith, c.in-Some.ensures.len), omega (arith, c.in-Some.ensures.len, c.take.ensures.capacity, was.waiting.ok.1)),
    )

pub returns-then-self-clause-flooded : goal.returns-then-self-clause-flooded
returns-then-self-clause-flooded c =
    λ t s o l h p f.
    let was = c.args.self.now in
    let w = c.in-Some.w in
    not_sent t c.args.op s l (won_send t c.args.op s l p) (recv_is s w (is_begun was t c.args.op s w h p c.in-Some.ensures.found) (none_in w.message (sym c.is_some.ensures ∙ c.if-is_some.false)))

pub returns-else-self-clause-given : goal.returns-else-self-clause-given
returns-else-self-clause-given c =
    λ t s m o l h k.
    let was = c.args.self.now in
    let w = c.in-Some.w in
    let ctx : w.ctx ≡ s.ctx = ap (λ (q : Begun). q.ctx) (is_begun was t c.args.op s w h k.pending c.in-Some.ensures.found) in
    let live = found_written (is_live_on w.ctx) given_from was.live c.give.new.live c.deref_mut.result.now c.deref_mut.ensures.value c.give.ensures.rest in (
      ap (option_map text_of) (c.give.ensures.given ∙ ap (λ (xs : List SurveyView). first_in (find (is_live_on w.ctx) xs)) c.deref_mut.ensures.value ∙ ap (λ n. first_in (find (is_live_on n) was.live.items)) ctx) ∙ oldest_cooked was t c.args.op s m h k c.if-self.false,
      given_cooked was t c.args.op s m h k (record was { waiting = c.take.new.waiting; live = with_items was.live c.give.new.live }) c.if-self.false c.take.ensures.rest (live ∙ ap (λ n. with_found (is_live_on n) given_from was.live.items) ctx) refl,
      (omega (arith, c.in-Some.ensures.len), omega (arith, c.in-Some.ensures.len, c.take.ensures.capacity, was.waiting.ok.1)),
    )

pub returns-else-self-clause-flooded : goal.returns-else-self-clause-flooded
returns-else-self-clause-flooded c =
    λ t s o l h p f.
    let was = c.args.self.now in
    let w = c.in-Some.w in
    not_sent t c.args.op s l (won_send t c.args.op s l p) (recv_is s w (is_begun was t c.args.op s w h p c.in-Some.ensures.found) (none_in w.message (sym c.is_some.ensures ∙ c.if-is_some.false)))

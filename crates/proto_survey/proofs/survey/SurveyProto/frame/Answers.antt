use Rattle.std.proofs.Common.{◌≡◌, ◌∙◌, sym, ap, refl, None, Some, true, false, Bool, List, subst}
use Rattle.std.specs.Vec.{with_items}
use Rattle.std.specs.List.{list_any}
use Rattle.sp_history.specs.Lists.{first_word}
use Rattle.sp_history.specs.Moments.{past}
use Rattle.sp_history.proofs.Malformed.{by_rule}
use Rattle.proto_survey.specs.Lives.{SurveyView, has_number, with_reply, awaits}
use Rattle.proto_survey.specs.Surveys.{KeepsReply}
use Rattle.proto_survey.proofs.Writing.{found_written, same_written}
use Rattle.proto_survey.proofs.SurveyorMoments.{same_live}
use Rattle.proto_survey.proofs.SurveyorArrivals.{short_frame, long_frame, some_word, malformed_ties, unkept_ties, raw_frame_all, reply_ties, trimmed_is}
use Rattle.proto_survey.proofs.survey.SurveyProto.frame.Goals as goal

pub returns-then-self-clause-kept : goal.returns-then-self-clause-kept
returns-then-self-clause-kept c = λ t short l h. raw_frame_all c.args.self.now c.keep_raw.new.self t c.args.p c.args.m.body c.keep_raw.result short h c.if-self.true c.keep_raw.ensures

pub returns-in-None-clause-kept : goal.returns-in-None-clause-kept
returns-in-None-clause-kept c =
    λ t short l h.
    let was = c.args.self.now in
    let none : first_word c.args.m.body ≡ None = sym (c.in-None.ensures ∙ ap first_word c.body.ensures) in
    let bad = short_frame was t c.args.m.body h none in
    (bad, malformed_ties was t c.args.p c.args.m.body h (by_rule t.z (past t) c.args.p c.args.m.body short ∙ bad))

pub returns-then-keep-clause-kept : goal.returns-then-keep-clause-kept
returns-then-keep-clause-kept c =
    λ t short l h.
    let was = c.args.self.now in
    let v = c.trim.new.self in
    let one : first_word c.args.m.body ≡ Some c.in-Some.id = sym (c.in-Some.ensures ∙ ap first_word c.body.ensures) in
    let kept : KeepsReply true c.in-Some.id was.options.queue v c.deref_mut.result.now c.keep.new.live = subst (λ (b : Bool). KeepsReply b c.in-Some.id was.options.queue v c.deref_mut.result.now c.keep.new.live) c.if-keep.true c.keep.ensures in
    let live = found_written (has_number c.in-Some.id) (with_reply was.options.queue v) was.live c.keep.new.live c.deref_mut.result.now c.deref_mut.ensures.value kept in (
      long_frame was t c.args.m.body h (some_word _ c.in-Some.id one),
      reply_ties was t c.args.p c.args.m.body h short c.in-Some.id v c.if-self.false one (trimmed_is c.args.m v c.trim.result c.trim.ensures c.requires (some_word _ c.in-Some.id one)) (record was { live = with_items was.live c.keep.new.live }) refl live,
    )

pub returns-else-keep-clause-kept : goal.returns-else-keep-clause-kept
returns-else-keep-clause-kept c =
    λ t short l h.
    let was = c.args.self.now in
    let v = c.trim.new.self in
    let one : first_word c.args.m.body ≡ Some c.in-Some.id = sym (c.in-Some.ensures ∙ ap first_word c.body.ensures) in
    let kept : KeepsReply false c.in-Some.id was.options.queue v c.deref_mut.result.now c.keep.new.live = subst (λ (b : Bool). KeepsReply b c.in-Some.id was.options.queue v c.deref_mut.result.now c.keep.new.live) c.if-keep.false c.keep.ensures in
    let live = same_written was.live c.keep.new.live c.deref_mut.result.now c.deref_mut.ensures.value kept.0 in (
      long_frame was t c.args.m.body h (some_word _ c.in-Some.id one),
      same_live was (record was { live = with_items was.live c.keep.new.live }) _ refl live (unkept_ties was t c.args.p c.args.m.body h),
    )

pub returns-else-keep-clause-memory : goal.returns-else-keep-clause-memory
returns-else-keep-clause-memory c =
    λ r n.
    let was = c.args.self.now in
    let kept : KeepsReply false c.in-Some.id was.options.queue c.trim.new.self c.deref_mut.result.now c.keep.new.live = subst (λ (b : Bool). KeepsReply b c.in-Some.id was.options.queue c.trim.new.self c.deref_mut.result.now c.keep.new.live) c.if-keep.false c.keep.ensures in (
      c.in-Some.id,
      sym (c.in-Some.ensures ∙ ap first_word c.body.ensures),
      subst (λ (xs : List SurveyView). list_any (awaits c.in-Some.id was.options.queue) xs ≡ true) c.deref_mut.ensures.value kept.1,
    )

use Rattle.std.proofs.Common.{◌≡◌, ◌∙◌, sym, ap, arith, Some, None, find, length}
use Rattle.std.specs.List.{position}
use Rattle.sp_history.specs.Moments.{past}
use Rattle.proto_shared.proofs.Copying.{calm}
use Rattle.proto_requests.proofs.Positions.{found_at, not_found}
use Rattle.proto_survey.specs.declared.waiting.SurveyOperation.{SurveyOperation}
use Rattle.proto_survey.specs.Askings.{is_sending}
use Rattle.proto_survey.specs.Surveys.{IsNext}
use Rattle.proto_survey.proofs.SurveyorEnds.{lone, can_flood, enough, can_finish, can_give, is_among, idle, lone_ended}
use Rattle.proto_survey.proofs.survey.SurveyProto.offer.Goals as goal

pub returns-in-Some-clause-offered : goal.returns-in-Some-clause-offered
returns-in-Some-clause-offered c =
    λ t l q h.
    let m = c.args.self.now in
    let w = c.index.result.now in
    let at : position is_sending m.waiting.items ≡ Some c.in-Some.i = ap (position is_sending) (sym c.deref.ensures.value) ∙ sym c.in-Some.ensures in
    let f : find is_sending m.waiting.items ≡ Some w = found_at is_sending m.waiting.items c.in-Some.i w at ∙ ap (λ (v : SurveyOperation). Some v) (sym c.index.ensures) in
    can_flood m t w l h f

pub returns-in-Some-clause-copies : goal.returns-in-Some-clause-copies
returns-in-Some-clause-copies c =
    λ op e t l q h.
    let m = c.args.self.now in
    let w = c.index.result.now in
    let at : position is_sending m.waiting.items ≡ Some c.in-Some.i = ap (position is_sending) (sym c.deref.ensures.value) ∙ sym c.in-Some.ensures in
    let f : find is_sending m.waiting.items ≡ Some w = found_at is_sending m.waiting.items c.in-Some.i w at ∙ ap (λ (v : SurveyOperation). Some v) (sym c.index.ensures) in
    omega (arith, calm t.z (past t) (length m.copies.items) q (enough m t w l h f), m.copies.ok.0)

pub returns-in-None-clause-offered : goal.returns-in-None-clause-offered
returns-in-None-clause-offered c =
    λ t l q h.
    let m = c.args.self.now in
    let w = c.index-w.result.now in
    let at : position lone m.waiting.items ≡ Some c.in-Some-ended_place.i = ap (position lone) (sym c.deref-2.ensures.value) ∙ sym c.in-Some-ended_place.ensures in
    let f : find lone m.waiting.items ≡ Some w = found_at lone m.waiting.items c.in-Some-ended_place.i w at ∙ ap (λ (v : SurveyOperation). Some v) (sym c.index-w.ensures) in
    lone_ended m w f c.in-None.is

pub returns-in-Some-ended-clause-offered : goal.returns-in-Some-ended-clause-offered
returns-in-Some-ended-clause-offered c =
    λ t l q h.
    let m = c.args.self.now in
    let w = c.index-w.result.now in
    let none : find is_sending m.waiting.items ≡ None = not_found is_sending m.waiting.items (ap (position is_sending) (sym c.deref.ensures.value) ∙ sym c.in_default.ensures) in
    let at : position lone m.waiting.items ≡ Some c.in-Some-ended_place.i = ap (position lone) (sym c.deref-2.ensures.value) ∙ sym c.in-Some-ended_place.ensures in
    let f : find lone m.waiting.items ≡ Some w = found_at lone m.waiting.items c.in-Some-ended_place.i w at ∙ ap (λ (v : SurveyOperation). Some v) (sym c.index-w.ensures) in
    can_finish m t w c.in-Some-ended.end c.cause_of.result h none f c.in-Some-ended.is c.cause_of.ensures

pub returns-in-None-give_place-clause-offered : goal.returns-in-None-give_place-clause-offered
returns-in-None-give_place-clause-offered c =
    λ t l q h.
    let m = c.args.self.now in
    let none : find is_sending m.waiting.items ≡ None = not_found is_sending m.waiting.items (ap (position is_sending) (sym c.deref.ensures.value) ∙ sym c.in_default.ensures) in
    let left : find lone m.waiting.items ≡ None = not_found lone m.waiting.items (ap (position lone) (sym c.deref-2.ensures.value) ∙ sym c.in_default-ended_place.ensures) in
    idle m t h none left c.in-None-give_place.ensures.none

pub returns-in-Some-give_place-clause-offered : goal.returns-in-Some-give_place-clause-offered
returns-in-Some-give_place-clause-offered c =
    λ t l q h.
    let m = c.args.self.now in
    let w = c.index-in-Some-give_place.result.now in
    let left : find lone m.waiting.items ≡ None = not_found lone m.waiting.items (ap (position lone) (sym c.deref-2.ensures.value) ∙ sym c.in_default-ended_place.ensures) in
    let next : IsNext m c.in-Some-give_place.i = c.in-Some-give_place.ensures.next in
    let f : find (is_among next.0) m.waiting.items ≡ Some w = found_at (is_among next.0) m.waiting.items c.in-Some-give_place.i w next.1 ∙ ap (λ (v : SurveyOperation). Some v) (sym c.index-in-Some-give_place.ensures) in
    can_give m t w next.0 h left f (next.2 h.0.4.places)

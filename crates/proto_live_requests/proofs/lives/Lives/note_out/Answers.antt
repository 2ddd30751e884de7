use Rattle.std.proofs.Common.{◌≡◌, ◌∙◌, sym, ap, subst, true, List, length, refl}
use Rattle.std.specs.Vec.{with_items}
use Rattle.std.specs.List.{position}
use Rattle.proto_requests.specs.Backlogs.{IsIndexed}
use Rattle.proto_requests.specs.Numbers.{is_known}
use Rattle.proto_live_requests.specs.Lives.{LivesView}
use Rattle.proto_live_requests.specs.LiveRequests.{is_live_on, live_ctx, sent_at}
use Rattle.proto_requests.specs.FirstFound.{with_found}
use Rattle.proto_requests.specs.Spots.{holds, held}
use Rattle.proto_requests.specs.declared.spots.Spot.{Spot}
use Rattle.proto_requests.proofs.Spotted.{items_are}
use Rattle.proto_live_requests.proofs.LiveIndexes.{found_same}
use Rattle.proto_live_requests.proofs.LiveIndexes.{length_same}
use Rattle.proto_live_requests.proofs.lives.Lives.note_out.Goals as goal

pub set_out-requires : goal.set_out-requires
set_out-requires c =
    let P = is_live_on c.args.c in
    let f = sent_at c.args.out in
    let v = c.self.inside.list in
    let ss = v.items in
    let e = c.deref.ensures.value in
    let d = c.deref_mut.ensures.value in
    let index : c.self.inside.is_indexed ≡ true → IsIndexed live_ctx (is_known c.self.inside.by_ctx) (held c.deref.result.now) = λ h. subst (λ (xs : List (Spot _)). IsIndexed live_ctx (is_known c.self.inside.by_ctx) (held xs)) (sym e) (c.self.invariant.by_number h).by_ctx in
    let at : c.ctx_place-place.result ≡ position (holds P) ss = c.ctx_place-place.ensures index ∙ ap (position (holds P)) e in
    at ∙ sym (ap (position (holds P)) d)

pub invariant_of-self : goal.invariant_of-self
invariant_of-self c =
    let P = is_live_on c.args.c in
    let f = sent_at c.args.out in
    let v = c.self.inside.list in
    let ss = v.items in
    let e = c.deref.ensures.value in
    let d = c.deref_mut.ensures.value in
    let index : c.self.inside.is_indexed ≡ true → IsIndexed live_ctx (is_known c.self.inside.by_ctx) (held c.deref.result.now) = λ h. subst (λ (xs : List (Spot _)). IsIndexed live_ctx (is_known c.self.inside.by_ctx) (held xs)) (sym e) (c.self.invariant.by_number h).by_ctx in
    let at : c.ctx_place-place.result ≡ position (holds P) ss = c.ctx_place-place.ensures index ∙ ap (position (holds P)) e in
    let ts = c.set_out.new.list in
    let same : (with_items v ts).items ≡ ts = items_are v ts (c.set_out.ensures.len ∙ ap length d) in
    let whole : held (with_items v ts).items ≡ with_found P f (held ss) = ap held same ∙ c.set_out.ensures.held ∙ ap (λ (xs : List (Spot _)). with_found P f (held xs)) d in
    record {
      by_number = λ h. found_same P f c.self.inside.by_ctx c.self.inside.by_id (held ss) _ (λ x. refl) (λ x. refl) (c.self.invariant.by_number h) whole;
      number = c.self.invariant.number ∙ sym (ap length whole ∙ length_same P f (held ss));
    }

pub returns : goal.returns
returns c =
    let P = is_live_on c.args.c in
    let f = sent_at c.args.out in
    let v = c.self.inside.list in
    let ss = v.items in
    let e = c.deref.ensures.value in
    let d = c.deref_mut.ensures.value in
    let index : c.self.inside.is_indexed ≡ true → IsIndexed live_ctx (is_known c.self.inside.by_ctx) (held c.deref.result.now) = λ h. subst (λ (xs : List (Spot _)). IsIndexed live_ctx (is_known c.self.inside.by_ctx) (held xs)) (sym e) (c.self.invariant.by_number h).by_ctx in
    let at : c.ctx_place-place.result ≡ position (holds P) ss = c.ctx_place-place.ensures index ∙ ap (position (holds P)) e in
    let ts = c.set_out.new.list in
    let same : (with_items v ts).items ≡ ts = items_are v ts (c.set_out.ensures.len ∙ ap length d) in
    let whole : held (with_items v ts).items ≡ with_found P f (held ss) = ap held same ∙ c.set_out.ensures.held ∙ ap (λ (xs : List (Spot _)). with_found P f (held xs)) d in
    record { items = whole ∙ ap (λ (w : LivesView). with_found P f w.items) c.self.view_is }

use Rattle.std.proofs.Common.{◌≡◌, ◌∙◌, sym, ap, subst, true, List, length, refl}
use Rattle.std.specs.Prelude.{find}
use Rattle.std.specs.Vec.{with_items}
use Rattle.std.specs.List.{position}
use Rattle.std.specs.Option.{option_map}
use Rattle.proto_requests.specs.Backlogs.{IsIndexed}
use Rattle.proto_requests.specs.Numbers.{is_known}
use Rattle.proto_live_requests.specs.Lives.{LivesView}
use Rattle.proto_live_requests.specs.LiveRequests.{live_ctx, live_id, waits_for, with_kept}
use Rattle.proto_requests.specs.FirstFound.{with_found}
use Rattle.proto_requests.specs.Spots.{holds, held}
use Rattle.proto_requests.specs.declared.spots.Spot.{Spot}
use Rattle.proto_requests.proofs.Spotted.{items_are}
use Rattle.proto_live_requests.proofs.LiveIndexes.{found_same}
use Rattle.proto_live_requests.proofs.LiveIndexes.{length_same}
use Rattle.proto_live_requests.proofs.lives.Lives.keep_reply.Goals as goal

pub set_reply-requires : goal.set_reply-requires
set_reply-requires c =
    let P = waits_for c.args.id in
    let f = with_kept c.args.kept in
    let v = c.self.inside.list in
    let ss = v.items in
    let e = c.deref.ensures.value in
    let d = c.deref_mut.ensures.value in
    let index : c.self.inside.is_indexed ≡ true → IsIndexed live_id (is_known c.self.inside.by_id) (held c.deref.result.now) = λ h. subst (λ (xs : List (Spot _)). IsIndexed live_id (is_known c.self.inside.by_id) (held xs)) (sym e) (c.self.invariant.by_number h).by_id in
    let at : c.id_place-place.result ≡ position (holds P) ss = c.id_place-place.ensures index ∙ ap (position (holds P)) e in
    at ∙ sym (ap (position (holds P)) d)

pub invariant_of-self : goal.invariant_of-self
invariant_of-self c =
    let P = waits_for c.args.id in
    let f = with_kept c.args.kept in
    let v = c.self.inside.list in
    let ss = v.items in
    let e = c.deref.ensures.value in
    let d = c.deref_mut.ensures.value in
    let index : c.self.inside.is_indexed ≡ true → IsIndexed live_id (is_known c.self.inside.by_id) (held c.deref.result.now) = λ h. subst (λ (xs : List (Spot _)). IsIndexed live_id (is_known c.self.inside.by_id) (held xs)) (sym e) (c.self.invariant.by_number h).by_id in
    let at : c.id_place-place.result ≡ position (holds P) ss = c.id_place-place.ensures index ∙ ap (position (holds P)) e in
    let ts = c.set_reply.new.list in
    let same : (with_items v ts).items ≡ ts = items_are v ts (c.set_reply.ensures.len ∙ ap length d) in
    let whole : held (with_items v ts).items ≡ with_found P f (held ss) = ap held same ∙ c.set_reply.ensures.held ∙ ap (λ (xs : List (Spot _)). with_found P f (held xs)) d in
    record {
      by_number = λ h. found_same P f c.self.inside.by_ctx c.self.inside.by_id (held ss) _ (λ x. refl) (λ x. refl) (c.self.invariant.by_number h) whole;
      number = c.self.invariant.number ∙ sym (ap length whole ∙ length_same P f (held ss));
    }

pub returns-clause-items : goal.returns-clause-items
returns-clause-items c =
    let P = waits_for c.args.id in
    let f = with_kept c.args.kept in
    let v = c.self.inside.list in
    let ss = v.items in
    let e = c.deref.ensures.value in
    let d = c.deref_mut.ensures.value in
    let index : c.self.inside.is_indexed ≡ true → IsIndexed live_id (is_known c.self.inside.by_id) (held c.deref.result.now) = λ h. subst (λ (xs : List (Spot _)). IsIndexed live_id (is_known c.self.inside.by_id) (held xs)) (sym e) (c.self.invariant.by_number h).by_id in
    let at : c.id_place-place.result ≡ position (holds P) ss = c.id_place-place.ensures index ∙ ap (position (holds P)) e in
    let ts = c.set_reply.new.list in
    let same : (with_items v ts).items ≡ ts = items_are v ts (c.set_reply.ensures.len ∙ ap length d) in
    let whole : held (with_items v ts).items ≡ with_found P f (held ss) = ap held same ∙ c.set_reply.ensures.held ∙ ap (λ (xs : List (Spot _)). with_found P f (held xs)) d in
    whole ∙ ap (λ (w : LivesView). with_found P f w.items) c.self.view_is

pub returns-clause-ctx : goal.returns-clause-ctx
returns-clause-ctx c =
    let P = waits_for c.args.id in
    let f = with_kept c.args.kept in
    let v = c.self.inside.list in
    let ss = v.items in
    let e = c.deref.ensures.value in
    let d = c.deref_mut.ensures.value in
    let index : c.self.inside.is_indexed ≡ true → IsIndexed live_id (is_known c.self.inside.by_id) (held c.deref.result.now) = λ h. subst (λ (xs : List (Spot _)). IsIndexed live_id (is_known c.self.inside.by_id) (held xs)) (sym e) (c.self.invariant.by_number h).by_id in
    let at : c.id_place-place.result ≡ position (holds P) ss = c.id_place-place.ensures index ∙ ap (position (holds P)) e in
    c.ctx_at-ctx.ensures P (at ∙ ap (position (holds P)) (sym c.deref-2.ensures.value)) ∙ ap (λ (xs : List (Spot _)). option_map live_ctx (find P (held xs))) c.deref-2.ensures.value ∙ ap (λ (w : LivesView). option_map live_ctx (find P w.items)) c.self.view_is

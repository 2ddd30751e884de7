use Rattle.std.proofs.Common.{◌≡◌, ◌∙◌, sym, ap, subst, true, Some, None, List, map, refl, Option, ℕ}
use Rattle.std.specs.Prelude.{find}
use Rattle.std.specs.List.{position, list_any}
use Rattle.sp_history.specs.Once.{AreDistinct}
use Rattle.proto_requests.specs.Backlogs.{IsIndexed}
use Rattle.proto_requests.specs.Numbers.{is_known}
use Rattle.proto_live_requests.specs.Lives.{LivesView, is_answered}
use Rattle.proto_live_requests.specs.LiveRequests.{is_live_on, live_ctx, keeps_reply}
use Rattle.proto_requests.specs.Spots.{holds, held}
use Rattle.proto_requests.specs.declared.spots.Spot.{Spot}
use Rattle.proto_live_requests.specs.declared.live.Live.{Live}
use Rattle.proto_live_requests.proofs.LiveIndexes.{no_reply, one_reply}
use Rattle.proto_requests.proofs.Spotted.{any_held}
use Rattle.proto_live_requests.proofs.lives.Lives.has_reply.Goals as goal

its : (xs : List Live) (x : Option Live) (n : ℕ) → AreDistinct (map live_ctx xs) → find (is_live_on n) xs ≡ x → is_answered x ≡ list_any (keeps_reply n) xs
its xs None n h f = sym (no_reply n xs f)
its xs (Some x) n h f = one_reply n xs x h f

pub returns-then-not-self : goal.returns-then-not-self
returns-then-not-self c = c.any_reply_on.ensures ∙ ap (list_any (holds (keeps_reply c.args.c))) c.deref.ensures.value ∙ any_held (keeps_reply c.args.c) c.self.inside.list.items ∙ ap (λ (v : LivesView). list_any (keeps_reply c.args.c) v.items) c.self.view_is

pub returns : goal.returns
returns c =
    let e = c.deref-3.ensures.value in
    let index : c.self.inside.is_indexed ≡ true → IsIndexed live_ctx (is_known c.self.inside.by_ctx) (held c.deref-3.result.now) = λ h. subst (λ (xs : List (Spot _)). IsIndexed live_ctx (is_known c.self.inside.by_ctx) (held xs)) (sym e) (c.self.invariant.by_number h).by_ctx in
    let P = is_live_on c.args.c in
    let ss = c.self.inside.list.items in
    c.is_answered_at.ensures P (c.ctx_place.ensures index ∙ ap (position (holds P)) (e ∙ sym c.deref-2.ensures.value)) ∙ ap (λ (xs : List (Spot _)). is_answered (find P (held xs))) c.deref-2.ensures.value
    ∙ its (held ss) (find P (held ss)) c.args.c (c.self.invariant.by_number c.if-not-self.false).by_ctx.1 refl ∙ ap (λ (v : LivesView). list_any (keeps_reply c.args.c) v.items) c.self.view_is

use Rattle.std.proofs.Common.{◌≡◌, ◌∙◌, sym, ap, subst, true, Some, List}
use Rattle.std.specs.Prelude.{find}
use Rattle.std.specs.List.{position}
use Rattle.proto_requests.specs.Backlogs.{IsIndexed}
use Rattle.proto_requests.specs.Numbers.{is_known}
use Rattle.proto_live_requests.specs.Lives.{LivesView}
use Rattle.proto_live_requests.specs.LiveRequests.{is_live_on, live_ctx}
use Rattle.proto_requests.specs.Spots.{holds, held}
use Rattle.proto_requests.specs.declared.spots.Spot.{Spot}
use Rattle.proto_live_requests.specs.declared.live.Live.{Live}
use Rattle.proto_requests.proofs.Spotted.{found_there}
use Rattle.proto_live_requests.proofs.lives.Lives.copy_of.Goals as goal

its : (x y : Live) → Some x ≡ Some y → x ≡ y
its x y q = cc

pub returns-in-Ok : goal.returns-in-Ok
returns-in-Ok c = λ y g.
    let P = is_live_on c.args.c in
    let ss = c.self.inside.list.items in
    let e = c.deref.ensures.value in
    let index : c.self.inside.is_indexed ≡ true → IsIndexed live_ctx (is_known c.self.inside.by_ctx) (held c.deref.result.now) = λ h. subst (λ (xs : List (Spot _)). IsIndexed live_ctx (is_known c.self.inside.by_ctx) (held xs)) (sym e) (c.self.invariant.by_number h).by_ctx in
    let at : position (holds P) ss ≡ Some c.in-Some.i = ap (position (holds P)) (sym e) ∙ sym (c.in-Some.ensures index) in
    let f : find P (held ss) ≡ Some c.in-Some-value.x = found_there P ss c.in-Some.i c.index.result.now at ∙ ap (λ (s : Spot Live). s.value) (sym c.index.ensures) ∙ c.in-Some-value.is in
    c.in-Ok.ensures ∙ ap (λ (v : Live). v.copy) (its _ y (sym f ∙ ap (λ (v : LivesView). find P v.items) c.self.view_is ∙ g))

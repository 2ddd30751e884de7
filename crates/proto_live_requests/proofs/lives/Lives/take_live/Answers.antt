use Rattle.std.proofs.Common.{◌≡◌, ◌∙◌, sym, ap, subst, true, Some, None, List, arith, length}
use Rattle.std.specs.Prelude.{find}
use Rattle.std.specs.Vec.{with_items}
use Rattle.std.specs.List.{position}
use Rattle.proto_requests.specs.Backlogs.{IsIndexed}
use Rattle.proto_requests.specs.Numbers.{is_known}
use Rattle.proto_live_requests.specs.Lives.{LivesView}
use Rattle.proto_live_requests.specs.LiveRequests.{is_live_on, live_ctx}
use Rattle.proto_requests.specs.Spots.{holds, held}
use Rattle.proto_requests.specs.declared.spots.Spot.{Spot}
use Rattle.proto_requests.specs.FirstFound.{without_found}
use Rattle.proto_requests.proofs.Positions.{without_none}
use Rattle.proto_live_requests.proofs.LiveIndexes.{found_less}
use Rattle.proto_requests.proofs.Spotted.{not_there, never, inside, fewer_one, items_are}
use Rattle.proto_live_requests.proofs.lives.Lives.take_live.Goals as goal

pub empty-requires : goal.empty-requires
empty-requires c =
    let P = is_live_on c.args.c in
    let v = c.self.inside.list in
    let ss = v.items in
    let e = c.deref.ensures.value in
    let index : c.self.inside.is_indexed ≡ true → IsIndexed live_ctx (is_known c.self.inside.by_ctx) (held c.deref.result.now) = λ h. subst (λ (xs : List (Spot _)). IsIndexed live_ctx (is_known c.self.inside.by_ctx) (held xs)) (sym e) (c.self.invariant.by_number h).by_ctx in
    let f = c.deref_mut.ensures.value in
    let at : position (holds P) ss ≡ Some c.in-Some.i = ap (position (holds P)) (sym e) ∙ sym (c.in-Some.ensures index) in
    let there : position (holds P) c.deref_mut.result.now ≡ Some c.in-Some.i = ap (position (holds P)) f ∙ at in
    inside P c.deref_mut.result.now c.in-Some.i there

pub invariant_of-self : goal.invariant_of-self
invariant_of-self c =
    let P = is_live_on c.args.c in
    let v = c.self.inside.list in
    let ss = v.items in
    let e = c.deref.ensures.value in
    let index : c.self.inside.is_indexed ≡ true → IsIndexed live_ctx (is_known c.self.inside.by_ctx) (held c.deref.result.now) = λ h. subst (λ (xs : List (Spot _)). IsIndexed live_ctx (is_known c.self.inside.by_ctx) (held xs)) (sym e) (c.self.invariant.by_number h).by_ctx in
    let f = c.deref_mut.ensures.value in
    let at : position (holds P) ss ≡ Some c.in-Some.i = ap (position (holds P)) (sym e) ∙ sym (c.in-Some.ensures index) in
    let there : position (holds P) c.deref_mut.result.now ≡ Some c.in-Some.i = ap (position (holds P)) f ∙ at in
    absurd (never P c.deref_mut.result.now c.in-Some.i there (c.in-None-empty.ensures.found P there))

pub invariant_of-self-in-Some-empty : goal.invariant_of-self-in-Some-empty
invariant_of-self-in-Some-empty c =
    let P = is_live_on c.args.c in
    let v = c.self.inside.list in
    let ss = v.items in
    let e = c.deref.ensures.value in
    let index : c.self.inside.is_indexed ≡ true → IsIndexed live_ctx (is_known c.self.inside.by_ctx) (held c.deref.result.now) = λ h. subst (λ (xs : List (Spot _)). IsIndexed live_ctx (is_known c.self.inside.by_ctx) (held xs)) (sym e) (c.self.invariant.by_number h).by_ctx in
    let f = c.deref_mut.ensures.value in
    let at : position (holds P) ss ≡ Some c.in-Some.i = ap (position (holds P)) (sym e) ∙ sym (c.in-Some.ensures index) in
    let there : position (holds P) c.deref_mut.result.now ≡ Some c.in-Some.i = ap (position (holds P)) f ∙ at in
    let x = c.in-Some-empty.x in
    let found : find P (held ss) ≡ Some x = sym (c.in-Some-empty.ensures.found P there ∙ ap (λ (xs : List (Spot _)). find P (held xs)) f) in
    let ts = c.empty.new.list in
    let same : (with_items v ts).items ≡ ts = items_are v ts (c.empty.ensures.len ∙ ap length f) in
    let rest : held ts ≡ without_found P (held ss) = c.empty.ensures.rest P there ∙ ap (λ (xs : List (Spot _)). without_found P (held xs)) f in
    let whole : held (with_items v ts).items ≡ without_found P (held ss) = ap held same ∙ rest in
    let m = c.self.invariant.number in
    let alive = c.saturating_sub-self-inside.ensures in
    let fewer = fewer_one P (held ss) x found in
    let less = ap length whole in
    record {
      by_number = λ h. found_less c.args.c c.self.inside.by_ctx c.self.inside.by_id c.lose.new.by_ctx c.lose.new.by_id (held ss) _ x (c.self.invariant.by_number h) found c.lose.ensures.ctx c.lose.ensures.id whole;
      number = omega (arith, alive, m, fewer, less);
    }

pub returns-in-None-clause-found : goal.returns-in-None-clause-found
returns-in-None-clause-found c =
    let P = is_live_on c.args.c in
    let v = c.self.inside.list in
    let ss = v.items in
    let e = c.deref.ensures.value in
    let index : c.self.inside.is_indexed ≡ true → IsIndexed live_ctx (is_known c.self.inside.by_ctx) (held c.deref.result.now) = λ h. subst (λ (xs : List (Spot _)). IsIndexed live_ctx (is_known c.self.inside.by_ctx) (held xs)) (sym e) (c.self.invariant.by_number h).by_ctx in
    let none : find P c.args.self.now.items ≡ None = ap (λ (v : LivesView). find P v.items) (sym c.self.view_is) ∙ ap (λ (xs : List (Spot _)). find P (held xs)) (sym e) ∙ not_there P c.deref.result.now (sym (c.in-None.ensures index)) in
    sym none

pub returns-in-None-clause-rest : goal.returns-in-None-clause-rest
returns-in-None-clause-rest c =
    let P = is_live_on c.args.c in
    let v = c.self.inside.list in
    let ss = v.items in
    let e = c.deref.ensures.value in
    let index : c.self.inside.is_indexed ≡ true → IsIndexed live_ctx (is_known c.self.inside.by_ctx) (held c.deref.result.now) = λ h. subst (λ (xs : List (Spot _)). IsIndexed live_ctx (is_known c.self.inside.by_ctx) (held xs)) (sym e) (c.self.invariant.by_number h).by_ctx in
    let none : find P c.args.self.now.items ≡ None = ap (λ (v : LivesView). find P v.items) (sym c.self.view_is) ∙ ap (λ (xs : List (Spot _)). find P (held xs)) (sym e) ∙ not_there P c.deref.result.now (sym (c.in-None.ensures index)) in
    without_none P c.args.self.now.items none

pub returns-in-None-empty : goal.returns-in-None-empty
returns-in-None-empty c =
    let P = is_live_on c.args.c in
    let v = c.self.inside.list in
    let ss = v.items in
    let e = c.deref.ensures.value in
    let index : c.self.inside.is_indexed ≡ true → IsIndexed live_ctx (is_known c.self.inside.by_ctx) (held c.deref.result.now) = λ h. subst (λ (xs : List (Spot _)). IsIndexed live_ctx (is_known c.self.inside.by_ctx) (held xs)) (sym e) (c.self.invariant.by_number h).by_ctx in
    let f = c.deref_mut.ensures.value in
    let at : position (holds P) ss ≡ Some c.in-Some.i = ap (position (holds P)) (sym e) ∙ sym (c.in-Some.ensures index) in
    let there : position (holds P) c.deref_mut.result.now ≡ Some c.in-Some.i = ap (position (holds P)) f ∙ at in
    absurd (never P c.deref_mut.result.now c.in-Some.i there (c.in-None-empty.ensures.found P there))

pub returns-in-Some-empty-clause-found : goal.returns-in-Some-empty-clause-found
returns-in-Some-empty-clause-found c =
    let P = is_live_on c.args.c in
    let v = c.self.inside.list in
    let ss = v.items in
    let e = c.deref.ensures.value in
    let index : c.self.inside.is_indexed ≡ true → IsIndexed live_ctx (is_known c.self.inside.by_ctx) (held c.deref.result.now) = λ h. subst (λ (xs : List (Spot _)). IsIndexed live_ctx (is_known c.self.inside.by_ctx) (held xs)) (sym e) (c.self.invariant.by_number h).by_ctx in
    let f = c.deref_mut.ensures.value in
    let at : position (holds P) ss ≡ Some c.in-Some.i = ap (position (holds P)) (sym e) ∙ sym (c.in-Some.ensures index) in
    let there : position (holds P) c.deref_mut.result.now ≡ Some c.in-Some.i = ap (position (holds P)) f ∙ at in
    let x = c.in-Some-empty.x in
    let found : find P (held ss) ≡ Some x = sym (c.in-Some-empty.ensures.found P there ∙ ap (λ (xs : List (Spot _)). find P (held xs)) f) in
    let ts = c.empty.new.list in
    let same : (with_items v ts).items ≡ ts = items_are v ts (c.empty.ensures.len ∙ ap length f) in
    let rest : held ts ≡ without_found P (held ss) = c.empty.ensures.rest P there ∙ ap (λ (xs : List (Spot _)). without_found P (held xs)) f in
    let whole : held (with_items v ts).items ≡ without_found P (held ss) = ap held same ∙ rest in
    sym found ∙ ap (λ (w : LivesView). find P w.items) c.self.view_is

pub returns-in-Some-empty-clause-rest : goal.returns-in-Some-empty-clause-rest
returns-in-Some-empty-clause-rest c =
    let P = is_live_on c.args.c in
    let v = c.self.inside.list in
    let ss = v.items in
    let e = c.deref.ensures.value in
    let index : c.self.inside.is_indexed ≡ true → IsIndexed live_ctx (is_known c.self.inside.by_ctx) (held c.deref.result.now) = λ h. subst (λ (xs : List (Spot _)). IsIndexed live_ctx (is_known c.self.inside.by_ctx) (held xs)) (sym e) (c.self.invariant.by_number h).by_ctx in
    let f = c.deref_mut.ensures.value in
    let at : position (holds P) ss ≡ Some c.in-Some.i = ap (position (holds P)) (sym e) ∙ sym (c.in-Some.ensures index) in
    let there : position (holds P) c.deref_mut.result.now ≡ Some c.in-Some.i = ap (position (holds P)) f ∙ at in
    let x = c.in-Some-empty.x in
    let found : find P (held ss) ≡ Some x = sym (c.in-Some-empty.ensures.found P there ∙ ap (λ (xs : List (Spot _)). find P (held xs)) f) in
    let ts = c.empty.new.list in
    let same : (with_items v ts).items ≡ ts = items_are v ts (c.empty.ensures.len ∙ ap length f) in
    let rest : held ts ≡ without_found P (held ss) = c.empty.ensures.rest P there ∙ ap (λ (xs : List (Spot _)). without_found P (held xs)) f in
    let whole : held (with_items v ts).items ≡ without_found P (held ss) = ap held same ∙ rest in
    whole ∙ ap (λ (w : LivesView). without_found P w.items) c.self.view_is

pub returns-in-Some-empty-clause-len : goal.returns-in-Some-empty-clause-len
returns-in-Some-empty-clause-len c =
    let P = is_live_on c.args.c in
    let v = c.self.inside.list in
    let ss = v.items in
    let e = c.deref.ensures.value in
    let index : c.self.inside.is_indexed ≡ true → IsIndexed live_ctx (is_known c.self.inside.by_ctx) (held c.deref.result.now) = λ h. subst (λ (xs : List (Spot _)). IsIndexed live_ctx (is_known c.self.inside.by_ctx) (held xs)) (sym e) (c.self.invariant.by_number h).by_ctx in
    let f = c.deref_mut.ensures.value in
    let at : position (holds P) ss ≡ Some c.in-Some.i = ap (position (holds P)) (sym e) ∙ sym (c.in-Some.ensures index) in
    let there : position (holds P) c.deref_mut.result.now ≡ Some c.in-Some.i = ap (position (holds P)) f ∙ at in
    let x = c.in-Some-empty.x in
    let found : find P (held ss) ≡ Some x = sym (c.in-Some-empty.ensures.found P there ∙ ap (λ (xs : List (Spot _)). find P (held xs)) f) in
    let ts = c.empty.new.list in
    let same : (with_items v ts).items ≡ ts = items_are v ts (c.empty.ensures.len ∙ ap length f) in
    let rest : held ts ≡ without_found P (held ss) = c.empty.ensures.rest P there ∙ ap (λ (xs : List (Spot _)). without_found P (held xs)) f in
    let whole : held (with_items v ts).items ≡ without_found P (held ss) = ap held same ∙ rest in
    let fewer = fewer_one P (held ss) x found in
    let less = ap length whole in
    let was = ap (λ (w : LivesView). length w.items) c.self.view_is in
    omega (arith, fewer, less, was)

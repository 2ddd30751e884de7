use Rattle.std.proofs.Common.{◌≡◌, ◌∙◌, sym, ap, subst, true, Some, None, List, arith, length, ◌+◌, cond, false}
use Rattle.std.specs.Prelude.{find, ◌==◌}
use Rattle.std.specs.Vec.{with_items}
use Rattle.std.specs.List.{position, list_any}
use Rattle.proto_requests.specs.Backlogs.{IsIndexed}
use Rattle.proto_requests.specs.Numbers.{is_known}
use Rattle.proto_requests.specs.Spots.{holds, held}
use Rattle.proto_requests.specs.declared.spots.Spot.{Spot}
use Rattle.proto_requests.specs.FirstFound.{without_found}
use Rattle.proto_requests.proofs.NumberIndexes.{index_less}
use Rattle.proto_requests.proofs.KnownOperations.{slot_is}
use Rattle.proto_requests.proofs.Positions.{without_none}
use Rattle.proto_requests.proofs.Spotted.{not_there, never, inside, fewer_one, held_few, items_are}
use Rattle.proto_rep.specs.declared.replies.WaitingReply.{WaitingReply}
use Rattle.proto_rep.specs.Replies.{RepliesView, is_reply_of, reply_slot}
use Rattle.proto_rep.proofs.KeyedReplies.{keyed_less, rising_less}
use Rattle.proto_rep.proofs.PassedReplies.{less_passed}
use Rattle.proto_rep.proofs.replies.WaitingReplies.take_out.Goals as goal

pub empty-requires : goal.empty-requires
empty-requires c =
    let P = is_reply_of c.args.op in
    let v = c.self.inside.list in
    let ss = v.items in
    let e = c.deref.ensures.value in
    let index : c.self.inside.slots_known ≡ true → IsIndexed reply_slot (is_known c.self.inside.by_slot) (held c.deref.result.now) = λ h. subst (λ (xs : List (Spot WaitingReply)). IsIndexed reply_slot (is_known c.self.inside.by_slot) (held xs)) (sym e) (c.self.invariant.by_slot h) in
    let f = c.deref_mut.ensures.value in
    let at : position (holds P) ss ≡ Some c.in-Some.i = ap (position (holds P)) (sym e) ∙ sym (c.in-Some.ensures index) in
    let there : position (holds P) c.deref_mut.result.now ≡ Some c.in-Some.i = ap (position (holds P)) f ∙ at in
    inside P c.deref_mut.result.now c.in-Some.i there

pub invariant_of-self : goal.invariant_of-self
invariant_of-self c =
    let P = is_reply_of c.args.op in
    let v = c.self.inside.list in
    let ss = v.items in
    let e = c.deref.ensures.value in
    let index : c.self.inside.slots_known ≡ true → IsIndexed reply_slot (is_known c.self.inside.by_slot) (held c.deref.result.now) = λ h. subst (λ (xs : List (Spot WaitingReply)). IsIndexed reply_slot (is_known c.self.inside.by_slot) (held xs)) (sym e) (c.self.invariant.by_slot h) in
    let f = c.deref_mut.ensures.value in
    let at : position (holds P) ss ≡ Some c.in-Some.i = ap (position (holds P)) (sym e) ∙ sym (c.in-Some.ensures index) in
    let there : position (holds P) c.deref_mut.result.now ≡ Some c.in-Some.i = ap (position (holds P)) f ∙ at in
    absurd (never P c.deref_mut.result.now c.in-Some.i there (c.in-None-empty.ensures.found P there))

pub invariant_of-self-in-Some-empty : goal.invariant_of-self-in-Some-empty
invariant_of-self-in-Some-empty c =
    let P = is_reply_of c.args.op in
    let v = c.self.inside.list in
    let ss = v.items in
    let e = c.deref.ensures.value in
    let index : c.self.inside.slots_known ≡ true → IsIndexed reply_slot (is_known c.self.inside.by_slot) (held c.deref.result.now) = λ h. subst (λ (xs : List (Spot WaitingReply)). IsIndexed reply_slot (is_known c.self.inside.by_slot) (held xs)) (sym e) (c.self.invariant.by_slot h) in
    let f = c.deref_mut.ensures.value in
    let at : position (holds P) ss ≡ Some c.in-Some.i = ap (position (holds P)) (sym e) ∙ sym (c.in-Some.ensures index) in
    let there : position (holds P) c.deref_mut.result.now ≡ Some c.in-Some.i = ap (position (holds P)) f ∙ at in
    let x = c.in-Some-empty.x in
    let found : find P (held ss) ≡ Some x = sym (c.in-Some-empty.ensures.found P there ∙ ap (λ (xs : List (Spot WaitingReply)). find P (held xs)) f) in
    let ts = c.empty.new.list in
    let same : (with_items v ts).items ≡ ts = items_are v ts (c.empty.ensures.len ∙ ap length f) in
    let rest : held ts ≡ without_found P (held ss) = c.empty.ensures.rest P there ∙ ap (λ (xs : List (Spot WaitingReply)). without_found P (held xs)) f in
    let whole : held (with_items v ts).items ≡ without_found P (held ss) = ap held same ∙ rest in
    let m = c.self.invariant.number in
    let alive = c.saturating_sub-self-inside.ensures in
    let fewer = fewer_one P (held ss) x found in
    let less = ap length whole in
    record {
      order = λ h. rw whole (rising_less P 0 c.self.inside.next (held ss) (c.self.invariant.order h));
      by_slot = λ h. index_less reply_slot P (is_known c.self.inside.by_slot) (is_known c.lose.new.numbers) (held ss) (held (with_items v ts).items) x (c.self.invariant.by_slot h) found (λ q. c.lose.ensures q ∙ ap (λ n. cond (n == q) false (is_known c.self.inside.by_slot q)) (slot_is (λ (w : WaitingReply). w.op) c.args.op (held ss) x found)) whole;
      by_key = λ h.
          let k = c.self.invariant.by_key h in
          (k.0, rw whole (keyed_less c.self.inside.raw P c.self.inside.index.keys c.take_key.new.index.keys 0 c.self.inside.next (held ss) x found c.take_key.ensures (c.self.invariant.order k.0) k.1));
      number = omega (arith, alive, m, fewer, less);
    }

pub returns-in-None-clause-found : goal.returns-in-None-clause-found
returns-in-None-clause-found c =
    let P = is_reply_of c.args.op in
    let v = c.self.inside.list in
    let ss = v.items in
    let e = c.deref.ensures.value in
    let index : c.self.inside.slots_known ≡ true → IsIndexed reply_slot (is_known c.self.inside.by_slot) (held c.deref.result.now) = λ h. subst (λ (xs : List (Spot WaitingReply)). IsIndexed reply_slot (is_known c.self.inside.by_slot) (held xs)) (sym e) (c.self.invariant.by_slot h) in
    let none : find P c.args.self.now.items ≡ None = ap (λ (v : RepliesView). find P v.items) (sym c.self.view_is) ∙ ap (λ (xs : List (Spot WaitingReply)). find P (held xs)) (sym e) ∙ not_there P c.deref.result.now (sym (c.in-None.ensures index)) in
    sym none

pub returns-in-None-clause-items : goal.returns-in-None-clause-items
returns-in-None-clause-items c =
    let P = is_reply_of c.args.op in
    let v = c.self.inside.list in
    let ss = v.items in
    let e = c.deref.ensures.value in
    let index : c.self.inside.slots_known ≡ true → IsIndexed reply_slot (is_known c.self.inside.by_slot) (held c.deref.result.now) = λ h. subst (λ (xs : List (Spot WaitingReply)). IsIndexed reply_slot (is_known c.self.inside.by_slot) (held xs)) (sym e) (c.self.invariant.by_slot h) in
    let none : find P c.args.self.now.items ≡ None = ap (λ (v : RepliesView). find P v.items) (sym c.self.view_is) ∙ ap (λ (xs : List (Spot WaitingReply)). find P (held xs)) (sym e) ∙ not_there P c.deref.result.now (sym (c.in-None.ensures index)) in
    without_none P c.args.self.now.items none

pub returns-in-None-empty : goal.returns-in-None-empty
returns-in-None-empty c =
    let P = is_reply_of c.args.op in
    let v = c.self.inside.list in
    let ss = v.items in
    let e = c.deref.ensures.value in
    let index : c.self.inside.slots_known ≡ true → IsIndexed reply_slot (is_known c.self.inside.by_slot) (held c.deref.result.now) = λ h. subst (λ (xs : List (Spot WaitingReply)). IsIndexed reply_slot (is_known c.self.inside.by_slot) (held xs)) (sym e) (c.self.invariant.by_slot h) in
    let f = c.deref_mut.ensures.value in
    let at : position (holds P) ss ≡ Some c.in-Some.i = ap (position (holds P)) (sym e) ∙ sym (c.in-Some.ensures index) in
    let there : position (holds P) c.deref_mut.result.now ≡ Some c.in-Some.i = ap (position (holds P)) f ∙ at in
    absurd (never P c.deref_mut.result.now c.in-Some.i there (c.in-None-empty.ensures.found P there))

pub returns-in-Some-empty-clause-found : goal.returns-in-Some-empty-clause-found
returns-in-Some-empty-clause-found c =
    let P = is_reply_of c.args.op in
    let v = c.self.inside.list in
    let ss = v.items in
    let e = c.deref.ensures.value in
    let index : c.self.inside.slots_known ≡ true → IsIndexed reply_slot (is_known c.self.inside.by_slot) (held c.deref.result.now) = λ h. subst (λ (xs : List (Spot WaitingReply)). IsIndexed reply_slot (is_known c.self.inside.by_slot) (held xs)) (sym e) (c.self.invariant.by_slot h) in
    let f = c.deref_mut.ensures.value in
    let at : position (holds P) ss ≡ Some c.in-Some.i = ap (position (holds P)) (sym e) ∙ sym (c.in-Some.ensures index) in
    let there : position (holds P) c.deref_mut.result.now ≡ Some c.in-Some.i = ap (position (holds P)) f ∙ at in
    let x = c.in-Some-empty.x in
    let found : find P (held ss) ≡ Some x = sym (c.in-Some-empty.ensures.found P there ∙ ap (λ (xs : List (Spot WaitingReply)). find P (held xs)) f) in
    let ts = c.empty.new.list in
    let same : (with_items v ts).items ≡ ts = items_are v ts (c.empty.ensures.len ∙ ap length f) in
    let rest : held ts ≡ without_found P (held ss) = c.empty.ensures.rest P there ∙ ap (λ (xs : List (Spot WaitingReply)). without_found P (held xs)) f in
    let whole : held (with_items v ts).items ≡ without_found P (held ss) = ap held same ∙ rest in
    sym found ∙ ap (λ (w : RepliesView). find P w.items) c.self.view_is

pub returns-in-Some-empty-clause-items : goal.returns-in-Some-empty-clause-items
returns-in-Some-empty-clause-items c =
    let P = is_reply_of c.args.op in
    let v = c.self.inside.list in
    let ss = v.items in
    let e = c.deref.ensures.value in
    let index : c.self.inside.slots_known ≡ true → IsIndexed reply_slot (is_known c.self.inside.by_slot) (held c.deref.result.now) = λ h. subst (λ (xs : List (Spot WaitingReply)). IsIndexed reply_slot (is_known c.self.inside.by_slot) (held xs)) (sym e) (c.self.invariant.by_slot h) in
    let f = c.deref_mut.ensures.value in
    let at : position (holds P) ss ≡ Some c.in-Some.i = ap (position (holds P)) (sym e) ∙ sym (c.in-Some.ensures index) in
    let there : position (holds P) c.deref_mut.result.now ≡ Some c.in-Some.i = ap (position (holds P)) f ∙ at in
    let x = c.in-Some-empty.x in
    let found : find P (held ss) ≡ Some x = sym (c.in-Some-empty.ensures.found P there ∙ ap (λ (xs : List (Spot WaitingReply)). find P (held xs)) f) in
    let ts = c.empty.new.list in
    let same : (with_items v ts).items ≡ ts = items_are v ts (c.empty.ensures.len ∙ ap length f) in
    let rest : held ts ≡ without_found P (held ss) = c.empty.ensures.rest P there ∙ ap (λ (xs : List (Spot WaitingReply)). without_found P (held xs)) f in
    let whole : held (with_items v ts).items ≡ without_found P (held ss) = ap held same ∙ rest in
    whole ∙ ap (λ (w : RepliesView). without_found P w.items) c.self.view_is

pub returns-in-Some-empty-clause-passed : goal.returns-in-Some-empty-clause-passed
returns-in-Some-empty-clause-passed c =
    λ Q h.
    let P = is_reply_of c.args.op in
    let v = c.self.inside.list in
    let ss = v.items in
    let e = c.deref.ensures.value in
    let index : c.self.inside.slots_known ≡ true → IsIndexed reply_slot (is_known c.self.inside.by_slot) (held c.deref.result.now) = λ h. subst (λ (xs : List (Spot WaitingReply)). IsIndexed reply_slot (is_known c.self.inside.by_slot) (held xs)) (sym e) (c.self.invariant.by_slot h) in
    let f = c.deref_mut.ensures.value in
    let at : position (holds P) ss ≡ Some c.in-Some.i = ap (position (holds P)) (sym e) ∙ sym (c.in-Some.ensures index) in
    let there : position (holds P) c.deref_mut.result.now ≡ Some c.in-Some.i = ap (position (holds P)) f ∙ at in
    let x = c.in-Some-empty.x in
    let found : find P (held ss) ≡ Some x = sym (c.in-Some-empty.ensures.found P there ∙ ap (λ (xs : List (Spot WaitingReply)). find P (held xs)) f) in
    let ts = c.empty.new.list in
    let same : (with_items v ts).items ≡ ts = items_are v ts (c.empty.ensures.len ∙ ap length f) in
    let rest : held ts ≡ without_found P (held ss) = c.empty.ensures.rest P there ∙ ap (λ (xs : List (Spot WaitingReply)). without_found P (held xs)) f in
    let whole : held (with_items v ts).items ≡ without_found P (held ss) = ap held same ∙ rest in
    less_passed c.self.inside.raw Q P c.self.inside.below (held ss) (held (with_items v ts).items) whole (ap (λ (w : RepliesView). list_any Q w.passed) c.self.view_is ∙ h)

pub returns-in-Some-empty-clause-len : goal.returns-in-Some-empty-clause-len
returns-in-Some-empty-clause-len c =
    let P = is_reply_of c.args.op in
    let v = c.self.inside.list in
    let ss = v.items in
    let e = c.deref.ensures.value in
    let index : c.self.inside.slots_known ≡ true → IsIndexed reply_slot (is_known c.self.inside.by_slot) (held c.deref.result.now) = λ h. subst (λ (xs : List (Spot WaitingReply)). IsIndexed reply_slot (is_known c.self.inside.by_slot) (held xs)) (sym e) (c.self.invariant.by_slot h) in
    let f = c.deref_mut.ensures.value in
    let at : position (holds P) ss ≡ Some c.in-Some.i = ap (position (holds P)) (sym e) ∙ sym (c.in-Some.ensures index) in
    let there : position (holds P) c.deref_mut.result.now ≡ Some c.in-Some.i = ap (position (holds P)) f ∙ at in
    let x = c.in-Some-empty.x in
    let found : find P (held ss) ≡ Some x = sym (c.in-Some-empty.ensures.found P there ∙ ap (λ (xs : List (Spot WaitingReply)). find P (held xs)) f) in
    let ts = c.empty.new.list in
    let same : (with_items v ts).items ≡ ts = items_are v ts (c.empty.ensures.len ∙ ap length f) in
    let rest : held ts ≡ without_found P (held ss) = c.empty.ensures.rest P there ∙ ap (λ (xs : List (Spot WaitingReply)). without_found P (held xs)) f in
    let whole : held (with_items v ts).items ≡ without_found P (held ss) = ap held same ∙ rest in
    ap (λ (l : List WaitingReply). length l + 1) whole ∙ fewer_one P (held ss) x found ∙ ap (λ (w : RepliesView). length w.items) c.self.view_is

pub returns-in-Some-empty-clause-room : goal.returns-in-Some-empty-clause-room
returns-in-Some-empty-clause-room c =
    let P = is_reply_of c.args.op in
    let v = c.self.inside.list in
    let ss = v.items in
    let e = c.deref.ensures.value in
    let index : c.self.inside.slots_known ≡ true → IsIndexed reply_slot (is_known c.self.inside.by_slot) (held c.deref.result.now) = λ h. subst (λ (xs : List (Spot WaitingReply)). IsIndexed reply_slot (is_known c.self.inside.by_slot) (held xs)) (sym e) (c.self.invariant.by_slot h) in
    let f = c.deref_mut.ensures.value in
    let at : position (holds P) ss ≡ Some c.in-Some.i = ap (position (holds P)) (sym e) ∙ sym (c.in-Some.ensures index) in
    let there : position (holds P) c.deref_mut.result.now ≡ Some c.in-Some.i = ap (position (holds P)) f ∙ at in
    let x = c.in-Some-empty.x in
    let found : find P (held ss) ≡ Some x = sym (c.in-Some-empty.ensures.found P there ∙ ap (λ (xs : List (Spot WaitingReply)). find P (held xs)) f) in
    let ts = c.empty.new.list in
    let same : (with_items v ts).items ≡ ts = items_are v ts (c.empty.ensures.len ∙ ap length f) in
    let rest : held ts ≡ without_found P (held ss) = c.empty.ensures.rest P there ∙ ap (λ (xs : List (Spot WaitingReply)). without_found P (held xs)) f in
    let whole : held (with_items v ts).items ≡ without_found P (held ss) = ap held same ∙ rest in
    let a = ap length whole in
    let b = fewer_one P (held ss) x found in
    let few = held_few ss in
    let len = v.ok.0 in
    let cap = v.ok.1 in
    let room = ap (λ (w : RepliesView). w.room) c.self.view_is in
    omega (arith, a, b, few, len, cap, room)

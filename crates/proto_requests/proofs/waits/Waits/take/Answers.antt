use Rattle.std.proofs.Common.{◌≡◌, ◌∙◌, sym, ap, subst, cond, Some, None, true, false, arith, length, take, ◌+◌}
use Rattle.std.specs.Prelude.{find, not, ◌==◌}
use Rattle.std.specs.Vec.{with_items}
use Rattle.std.specs.List.{position, list_any}
use Rattle.proto_requests.specs.Backlogs.{IsIndexed}
use Rattle.proto_requests.specs.Numbers.{is_known}
use Rattle.proto_requests.specs.Spots.{holds, held}
use Rattle.proto_requests.specs.Waits.{WaitsView, IsMark, is_named, isnt, is_open, is_overlooked, slot_of}
use Rattle.proto_requests.specs.FirstFound.{without_found}
use Rattle.proto_requests.proofs.Positions.{without_none}
use Rattle.proto_requests.proofs.NumberIndexes.{index_less}
use Rattle.proto_requests.proofs.Spotted.{not_there, never, fewer_one, held_few, items_are}
use Rattle.proto_requests.proofs.KnownOperations.{kind_less, any_less, mark_less, slot_is}
use Rattle.proto_requests.proofs.waits.Waits.take.Goals as goal

pub invariant_of-self : goal.invariant_of-self
invariant_of-self g c =
    let W = g.T.Waiter in
    let P = is_named W.name_of c.args.op in
    let v = c.self.inside.list in
    let ss = v.items in
    let e = c.deref.ensures.value in
    let f = c.deref_mut.ensures.value in
    let apart : c.self.inside.slots_known ≡ true → IsIndexed (slot_of W.name_of) (is_known c.self.inside.by_slot) (held c.deref.result.now) = λ h. subst (λ xs. IsIndexed (slot_of W.name_of) (is_known c.self.inside.by_slot) (held xs)) (sym e) (c.self.invariant.by_slot h) in
    let at : position (holds P) ss ≡ Some c.in-Some.i = ap (position (holds P)) (sym e) ∙ sym (c.in-Some.ensures apart) in
    let there : position (holds P) c.deref_mut.result.now ≡ Some c.in-Some.i = ap (position (holds P)) f ∙ at in
    absurd (never P c.deref_mut.result.now c.in-Some.i there (c.in-None-empty.ensures.found P there))

pub invariant_of-self-in-Some-empty : goal.invariant_of-self-in-Some-empty
invariant_of-self-in-Some-empty g c =
    let W = g.T.Waiter in
    let P = is_named W.name_of c.args.op in
    let v = c.self.inside.list in
    let ss = v.items in
    let e = c.deref.ensures.value in
    let f = c.deref_mut.ensures.value in
    let apart : c.self.inside.slots_known ≡ true → IsIndexed (slot_of W.name_of) (is_known c.self.inside.by_slot) (held c.deref.result.now) = λ h. subst (λ xs. IsIndexed (slot_of W.name_of) (is_known c.self.inside.by_slot) (held xs)) (sym e) (c.self.invariant.by_slot h) in
    let at : position (holds P) ss ≡ Some c.in-Some.i = ap (position (holds P)) (sym e) ∙ sym (c.in-Some.ensures apart) in
    let there : position (holds P) c.deref_mut.result.now ≡ Some c.in-Some.i = ap (position (holds P)) f ∙ at in
    let x = c.in-Some-empty.x in
    let found : find P (held ss) ≡ Some x = sym (c.in-Some-empty.ensures.found P there ∙ ap (λ xs. find P (held xs)) f) in
    let ts = c.empty.new.list in
    let same : (with_items v ts).items ≡ ts = items_are v ts (c.empty.ensures.len ∙ ap length f) in
    let rest : held ts ≡ without_found P (held ss) = c.empty.ensures.rest P there ∙ ap (λ xs. without_found P (held xs)) f in
    let whole : held (with_items v ts).items ≡ without_found P (held ss) = ap held same ∙ rest in
    let long = ap length same ∙ c.empty.ensures.len ∙ ap length f in
    let old = is_known c.self.inside.by_slot in
    let send = mark_less W.is_send c.self.inside.send_from ss (with_items v ts).items long (λ h. ap (λ xs. list_any (holds W.is_send) (take c.self.inside.send_from xs)) same ∙ c.empty.ensures.none W.is_send c.self.inside.send_from (ap (λ xs. list_any (holds W.is_send) (take c.self.inside.send_from xs)) f ∙ h)) c.self.invariant.send in
    let receive = mark_less (isnt W.is_send) c.self.inside.receive_from ss (with_items v ts).items long (λ h. ap (λ xs. list_any (holds (isnt W.is_send)) (take c.self.inside.receive_from xs)) same ∙ c.empty.ensures.none (isnt W.is_send) c.self.inside.receive_from (ap (λ xs. list_any (holds (isnt W.is_send)) (take c.self.inside.receive_from xs)) f ∙ h)) c.self.invariant.receive in
    record {
      by_slot = λ h. index_less (slot_of W.name_of) P old (is_known c.lose.new.numbers) (held ss) _ x (c.self.invariant.by_slot h) found (λ q. c.lose.ensures q ∙ ap (λ n. cond (n == q) false (old q)) (slot_is W.name_of c.args.op (held ss) x found)) whole;
      by_receive = λ h. kind_less W.context_of (isnt W.is_send) P (is_known c.self.inside.receives) (is_known c.lose_if.new.numbers) (not c.sends-sends.result) c.ctx-c.result (held ss) _ x (c.self.invariant.by_receive h) found (ap not c.sends-sends.ensures) c.ctx-c.ensures c.lose_if.ensures whole;
      by_send = λ h. kind_less W.context_of (is_open W.is_send W.is_left) P (is_known c.self.inside.opens) (is_known c.lose_if-in-Some-empty.new.numbers) c.is_open-open.result c.ctx-c.result (held ss) _ x (c.self.invariant.by_send h) found c.is_open-open.ensures c.ctx-c.ensures c.lose_if-in-Some-empty.ensures whole;
      send = subst (λ xs. IsMark W.is_send c.send_mark-self-inside.result xs) c.deref-in-Some-empty.ensures.value (c.send_mark-self-inside.ensures (subst (λ xs. IsMark W.is_send c.self.inside.send_from xs) (sym c.deref-in-Some-empty.ensures.value) send));
      receive = subst (λ xs. IsMark (isnt W.is_send) c.receive_mark-self-inside.result xs) c.deref-in-Some-empty-2.ensures.value (c.receive_mark-self-inside.ensures (subst (λ xs. IsMark (isnt W.is_send) c.self.inside.receive_from xs) (sym c.deref-in-Some-empty-2.ensures.value) receive));
      left = any_less (is_overlooked W.name_of W.is_left c.self.inside.ended) P (held ss) _ whole c.self.invariant.left;
    }

pub returns-in-None-clause-found : goal.returns-in-None-clause-found
returns-in-None-clause-found g c =
    let W = g.T.Waiter in
    let P = is_named W.name_of c.args.op in
    let e = c.deref.ensures.value in
    let apart : c.self.inside.slots_known ≡ true → IsIndexed (slot_of W.name_of) (is_known c.self.inside.by_slot) (held c.deref.result.now) = λ h. subst (λ xs. IsIndexed (slot_of W.name_of) (is_known c.self.inside.by_slot) (held xs)) (sym e) (c.self.invariant.by_slot h) in
    let none : find P c.args.self.now.items ≡ None = ap (λ (v : WaitsView _). find P v.items) (sym c.self.view_is) ∙ ap (λ xs. find P (held xs)) (sym e) ∙ not_there P c.deref.result.now (sym (c.in-None.ensures apart)) in
    sym none

pub returns-in-None-clause-rest : goal.returns-in-None-clause-rest
returns-in-None-clause-rest g c =
    let W = g.T.Waiter in
    let P = is_named W.name_of c.args.op in
    let e = c.deref.ensures.value in
    let apart : c.self.inside.slots_known ≡ true → IsIndexed (slot_of W.name_of) (is_known c.self.inside.by_slot) (held c.deref.result.now) = λ h. subst (λ xs. IsIndexed (slot_of W.name_of) (is_known c.self.inside.by_slot) (held xs)) (sym e) (c.self.invariant.by_slot h) in
    let none : find P c.args.self.now.items ≡ None = ap (λ (v : WaitsView _). find P v.items) (sym c.self.view_is) ∙ ap (λ xs. find P (held xs)) (sym e) ∙ not_there P c.deref.result.now (sym (c.in-None.ensures apart)) in
    without_none P c.args.self.now.items none

pub returns-in-None-empty-clause-len : goal.returns-in-None-empty-clause-len
returns-in-None-empty-clause-len g c =
    let W = g.T.Waiter in
    let P = is_named W.name_of c.args.op in
    let v = c.self.inside.list in
    let ss = v.items in
    let e = c.deref.ensures.value in
    let f = c.deref_mut.ensures.value in
    let apart : c.self.inside.slots_known ≡ true → IsIndexed (slot_of W.name_of) (is_known c.self.inside.by_slot) (held c.deref.result.now) = λ h. subst (λ xs. IsIndexed (slot_of W.name_of) (is_known c.self.inside.by_slot) (held xs)) (sym e) (c.self.invariant.by_slot h) in
    let at : position (holds P) ss ≡ Some c.in-Some.i = ap (position (holds P)) (sym e) ∙ sym (c.in-Some.ensures apart) in
    let there : position (holds P) c.deref_mut.result.now ≡ Some c.in-Some.i = ap (position (holds P)) f ∙ at in
    absurd (never P c.deref_mut.result.now c.in-Some.i there (c.in-None-empty.ensures.found P there))

pub returns-in-None-empty-clause-room : goal.returns-in-None-empty-clause-room
returns-in-None-empty-clause-room g c =
    let W = g.T.Waiter in
    let P = is_named W.name_of c.args.op in
    let v = c.self.inside.list in
    let ss = v.items in
    let e = c.deref.ensures.value in
    let f = c.deref_mut.ensures.value in
    let apart : c.self.inside.slots_known ≡ true → IsIndexed (slot_of W.name_of) (is_known c.self.inside.by_slot) (held c.deref.result.now) = λ h. subst (λ xs. IsIndexed (slot_of W.name_of) (is_known c.self.inside.by_slot) (held xs)) (sym e) (c.self.invariant.by_slot h) in
    let at : position (holds P) ss ≡ Some c.in-Some.i = ap (position (holds P)) (sym e) ∙ sym (c.in-Some.ensures apart) in
    let there : position (holds P) c.deref_mut.result.now ≡ Some c.in-Some.i = ap (position (holds P)) f ∙ at in
    absurd (never P c.deref_mut.result.now c.in-Some.i there (c.in-None-empty.ensures.found P there))

pub returns-in-Some-empty-clause-found : goal.returns-in-Some-empty-clause-found
returns-in-Some-empty-clause-found g c =
    let W = g.T.Waiter in
    let P = is_named W.name_of c.args.op in
    let v = c.self.inside.list in
    let ss = v.items in
    let e = c.deref.ensures.value in
    let f = c.deref_mut.ensures.value in
    let apart : c.self.inside.slots_known ≡ true → IsIndexed (slot_of W.name_of) (is_known c.self.inside.by_slot) (held c.deref.result.now) = λ h. subst (λ xs. IsIndexed (slot_of W.name_of) (is_known c.self.inside.by_slot) (held xs)) (sym e) (c.self.invariant.by_slot h) in
    let at : position (holds P) ss ≡ Some c.in-Some.i = ap (position (holds P)) (sym e) ∙ sym (c.in-Some.ensures apart) in
    let there : position (holds P) c.deref_mut.result.now ≡ Some c.in-Some.i = ap (position (holds P)) f ∙ at in
    let x = c.in-Some-empty.x in
    let found : find P (held ss) ≡ Some x = sym (c.in-Some-empty.ensures.found P there ∙ ap (λ xs. find P (held xs)) f) in
    let ts = c.empty.new.list in
    let same : (with_items v ts).items ≡ ts = items_are v ts (c.empty.ensures.len ∙ ap length f) in
    let rest : held ts ≡ without_found P (held ss) = c.empty.ensures.rest P there ∙ ap (λ xs. without_found P (held xs)) f in
    let whole : held (with_items v ts).items ≡ without_found P (held ss) = ap held same ∙ rest in
    sym found ∙ ap (λ (v : WaitsView _). find P v.items) c.self.view_is

pub returns-in-Some-empty-clause-rest : goal.returns-in-Some-empty-clause-rest
returns-in-Some-empty-clause-rest g c =
    let W = g.T.Waiter in
    let P = is_named W.name_of c.args.op in
    let v = c.self.inside.list in
    let ss = v.items in
    let e = c.deref.ensures.value in
    let f = c.deref_mut.ensures.value in
    let apart : c.self.inside.slots_known ≡ true → IsIndexed (slot_of W.name_of) (is_known c.self.inside.by_slot) (held c.deref.result.now) = λ h. subst (λ xs. IsIndexed (slot_of W.name_of) (is_known c.self.inside.by_slot) (held xs)) (sym e) (c.self.invariant.by_slot h) in
    let at : position (holds P) ss ≡ Some c.in-Some.i = ap (position (holds P)) (sym e) ∙ sym (c.in-Some.ensures apart) in
    let there : position (holds P) c.deref_mut.result.now ≡ Some c.in-Some.i = ap (position (holds P)) f ∙ at in
    let x = c.in-Some-empty.x in
    let found : find P (held ss) ≡ Some x = sym (c.in-Some-empty.ensures.found P there ∙ ap (λ xs. find P (held xs)) f) in
    let ts = c.empty.new.list in
    let same : (with_items v ts).items ≡ ts = items_are v ts (c.empty.ensures.len ∙ ap length f) in
    let rest : held ts ≡ without_found P (held ss) = c.empty.ensures.rest P there ∙ ap (λ xs. without_found P (held xs)) f in
    let whole : held (with_items v ts).items ≡ without_found P (held ss) = ap held same ∙ rest in
    whole ∙ ap (λ (v : WaitsView _). without_found P v.items) c.self.view_is

pub returns-in-Some-empty-clause-len : goal.returns-in-Some-empty-clause-len
returns-in-Some-empty-clause-len g c =
    let W = g.T.Waiter in
    let P = is_named W.name_of c.args.op in
    let v = c.self.inside.list in
    let ss = v.items in
    let e = c.deref.ensures.value in
    let f = c.deref_mut.ensures.value in
    let apart : c.self.inside.slots_known ≡ true → IsIndexed (slot_of W.name_of) (is_known c.self.inside.by_slot) (held c.deref.result.now) = λ h. subst (λ xs. IsIndexed (slot_of W.name_of) (is_known c.self.inside.by_slot) (held xs)) (sym e) (c.self.invariant.by_slot h) in
    let at : position (holds P) ss ≡ Some c.in-Some.i = ap (position (holds P)) (sym e) ∙ sym (c.in-Some.ensures apart) in
    let there : position (holds P) c.deref_mut.result.now ≡ Some c.in-Some.i = ap (position (holds P)) f ∙ at in
    let x = c.in-Some-empty.x in
    let found : find P (held ss) ≡ Some x = sym (c.in-Some-empty.ensures.found P there ∙ ap (λ xs. find P (held xs)) f) in
    let ts = c.empty.new.list in
    let same : (with_items v ts).items ≡ ts = items_are v ts (c.empty.ensures.len ∙ ap length f) in
    let rest : held ts ≡ without_found P (held ss) = c.empty.ensures.rest P there ∙ ap (λ xs. without_found P (held xs)) f in
    let whole : held (with_items v ts).items ≡ without_found P (held ss) = ap held same ∙ rest in
    ap (λ l. length l + 1) whole ∙ fewer_one P (held ss) x found ∙ ap (λ (v : WaitsView _). length v.items) c.self.view_is

pub returns-in-Some-empty-clause-room : goal.returns-in-Some-empty-clause-room
returns-in-Some-empty-clause-room g c =
    let W = g.T.Waiter in
    let P = is_named W.name_of c.args.op in
    let v = c.self.inside.list in
    let ss = v.items in
    let e = c.deref.ensures.value in
    let f = c.deref_mut.ensures.value in
    let apart : c.self.inside.slots_known ≡ true → IsIndexed (slot_of W.name_of) (is_known c.self.inside.by_slot) (held c.deref.result.now) = λ h. subst (λ xs. IsIndexed (slot_of W.name_of) (is_known c.self.inside.by_slot) (held xs)) (sym e) (c.self.invariant.by_slot h) in
    let at : position (holds P) ss ≡ Some c.in-Some.i = ap (position (holds P)) (sym e) ∙ sym (c.in-Some.ensures apart) in
    let there : position (holds P) c.deref_mut.result.now ≡ Some c.in-Some.i = ap (position (holds P)) f ∙ at in
    let x = c.in-Some-empty.x in
    let found : find P (held ss) ≡ Some x = sym (c.in-Some-empty.ensures.found P there ∙ ap (λ xs. find P (held xs)) f) in
    let ts = c.empty.new.list in
    let same : (with_items v ts).items ≡ ts = items_are v ts (c.empty.ensures.len ∙ ap length f) in
    let rest : held ts ≡ without_found P (held ss) = c.empty.ensures.rest P there ∙ ap (λ xs. without_found P (held xs)) f in
    let whole : held (with_items v ts).items ≡ without_found P (held ss) = ap held same ∙ rest in
    let a = ap length whole in
    let b = fewer_one P (held ss) x found in
    let few = held_few ss in
    let len = v.ok.0 in
    let cap = v.ok.1 in
    let room = ap (λ (v : WaitsView _). v.room) c.self.view_is in
    omega (arith, a, b, few, len, cap, room)

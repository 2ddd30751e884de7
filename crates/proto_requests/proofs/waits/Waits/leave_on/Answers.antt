use Rattle.std.proofs.Common.{◌≡◌, ◌∙◌, ap, map, length, false, cond, arith, rules, ℕ, true, sym, subst, List}
use Rattle.std.specs.List.{list_any}
use Rattle.std.specs.Prelude.{not, ◌==◌}
use Rattle.sp_base.specs.declared.OpName.{OpName}
use Rattle.proto_requests.specs.Numbers.{is_known}
use Rattle.proto_requests.specs.Waits.{WaitsView, left_on, left_spot, isnt, slot_of, is_overlooked, AreApartOn}
use Rattle.proto_requests.specs.Spots.{held}
use Rattle.std.proofs.lemmas.List.{length-map}
use Rattle.proto_requests.proofs.Positions.{any_written}
use Rattle.proto_requests.proofs.KnownOperations.{slots_changed, kind_changed, opens_less, mark_left, on_same, held_left, both_true}
use Rattle.proto_requests.proofs.Spotted.{items_are}
use Rattle.proto_requests.proofs.waits.Waits.leave_on.Goals as goal

pub invariant_of-self : goal.invariant_of-self
invariant_of-self g c =
    let W = g.T.Waiter in
    let apart : c.both.result ≡ true → AreApartOn W.context_of W.is_send W.is_left c.self.inside.receives c.self.inside.opens c.deref_mut.result.now = λ h.
    let k = both_true c.self.inside.receives_known c.self.inside.opens_known (sym c.both.ensures ∙ h) in
    subst (AreApartOn W.context_of W.is_send W.is_left c.self.inside.receives c.self.inside.opens) (sym c.deref_mut.ensures.value) (c.self.invariant.by_receive k.0, c.self.invariant.by_send k.1) in
    let x = c.args.c in
    let f = left_on W.context_of W.left x in
    let ss = c.self.inside.list.items in
    let e = any_written (left_spot W.context_of W.left x) c.self.inside.list c.leave.new.list c.deref_mut.result.now c.deref_mut.ensures.value (c.leave.ensures.list apart) in
    let whole = ap held e ∙ held_left W.context_of W.left x ss in
    let name = on_same W.name_of W.context_of W.left x (λ v. (W.left_same v).0) in
    let context = on_same W.context_of W.context_of W.left x (λ v. (W.left_same v).1) in
    let sends = on_same W.is_send W.context_of W.left x (λ v. (W.left_same v).2) in
    let is : c.c.inside.0 ≡ x = search rules in
    record {
      by_slot = λ h. slots_changed (slot_of W.name_of) (is_known c.self.inside.by_slot) f (held ss) _ (λ v. ap (λ (o : OpName). o.slot) (name v)) whole (c.self.invariant.by_slot h);
      by_receive = λ h. kind_changed W.context_of (isnt W.is_send) (is_known c.self.inside.receives) f (held ss) _ context (λ v. ap not (sends v)) whole (c.self.invariant.by_receive h);
      by_send = λ h. opens_less W.context_of W.is_send W.is_left W.left (λ v. W.left_is v c.requires) (is_known c.self.inside.opens) (is_known c.lose.new.numbers) x (held ss) _ (c.self.invariant.by_send h) (λ q. c.lose.ensures q ∙ ap (λ (n : ℕ). cond (n == q) false (is_known c.self.inside.opens q)) is) whole;
      send = mark_left W.is_send W.context_of W.left x sends c.self.inside.send_from ss _ e c.self.invariant.send;
      receive = mark_left (isnt W.is_send) W.context_of W.left x (λ v. ap not (sends v)) c.self.inside.receive_from ss _ e c.self.invariant.receive;
      left = ap (λ (l : List _). list_any (is_overlooked W.name_of W.is_left c.leave.new.ended) (held l)) (items_are c.self.inside.list c.leave.new.list (ap length (c.leave.ensures.list apart) ∙ length-map c.deref_mut.result.now (left_spot W.context_of W.left x) ∙ ap length c.deref_mut.ensures.value))
          ∙ c.leave.ensures.ended apart (ap (λ (l : List _). list_any (is_overlooked W.name_of W.is_left c.self.inside.ended) (held l)) c.deref_mut.ensures.value ∙ c.self.invariant.left);
    }

pub returns-clause-items : goal.returns-clause-items
returns-clause-items g c =
    let W = g.T.Waiter in
    let apart : c.both.result ≡ true → AreApartOn W.context_of W.is_send W.is_left c.self.inside.receives c.self.inside.opens c.deref_mut.result.now = λ h.
    let k = both_true c.self.inside.receives_known c.self.inside.opens_known (sym c.both.ensures ∙ h) in
    subst (AreApartOn W.context_of W.is_send W.is_left c.self.inside.receives c.self.inside.opens) (sym c.deref_mut.ensures.value) (c.self.invariant.by_receive k.0, c.self.invariant.by_send k.1) in
    let x = c.args.c in
    let e = any_written (left_spot W.context_of W.left x) c.self.inside.list c.leave.new.list c.deref_mut.result.now c.deref_mut.ensures.value (c.leave.ensures.list apart) in
    ap held e ∙ held_left W.context_of W.left x c.self.inside.list.items ∙ ap (λ (v : WaitsView _). map (left_on W.context_of W.left x) v.items) c.self.view_is

pub returns-clause-room : goal.returns-clause-room
returns-clause-room g c =
    let W = g.T.Waiter in
    let apart : c.both.result ≡ true → AreApartOn W.context_of W.is_send W.is_left c.self.inside.receives c.self.inside.opens c.deref_mut.result.now = λ h.
    let k = both_true c.self.inside.receives_known c.self.inside.opens_known (sym c.both.ensures ∙ h) in
    subst (AreApartOn W.context_of W.is_send W.is_left c.self.inside.receives c.self.inside.opens) (sym c.deref_mut.ensures.value) (c.self.invariant.by_receive k.0, c.self.invariant.by_send k.1) in
    let x = c.args.c in
    let ss = c.self.inside.list.items in
    let e = any_written (left_spot W.context_of W.left x) c.self.inside.list c.leave.new.list c.deref_mut.result.now c.deref_mut.ensures.value (c.leave.ensures.list apart) in
    let long = ap length (ap held e ∙ held_left W.context_of W.left x ss) ∙ length-map (held ss) (left_on W.context_of W.left x) in
    let room = ap (λ (v : WaitsView _). v.room) c.self.view_is in
    omega (arith, long, room)

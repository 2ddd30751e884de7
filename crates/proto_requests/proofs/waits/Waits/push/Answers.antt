use Rattle.std.proofs.Common.{◌≡◌, ◌∙◌, sym, ap, cond, true, arith, subst, ◌++◌, ◌∷◌, [], length}
use Rattle.std.specs.Prelude.{not, ◌==◌, Some}
use Rattle.sp_base.specs.declared.OpName.{OpName}
use Rattle.proto_requests.specs.declared.spots.Spot.{Spot}
use Rattle.sp_history.specs.Lists.{same_op}
use Rattle.proto_requests.specs.Hints.{covers_by}
use Rattle.proto_requests.specs.Numbers.{is_known}
use Rattle.proto_requests.specs.Waits.{WaitsView, IsMark, isnt, is_open, is_overlooked, slot_of}
use Rattle.proto_requests.specs.Spots.{held}
use Rattle.proto_requests.proofs.Backlogged.{kept_more}
use Rattle.proto_requests.proofs.Spotted.{held_more}
use Rattle.proto_requests.proofs.KnownOperations.{kind_more, mark_more, any_more, length_more}
use Rattle.proto_requests.proofs.EndedOperations.{more_seen, it_seen}
use Rattle.proto_requests.proofs.waits.Waits.push.Goals as goal

pub invariant_of-self : goal.invariant_of-self
invariant_of-self g c =
    let W = g.T.Waiter in
    let ss = c.self.inside.list.items in
    let ts = c.make_spot-moved.new.list.items in
    let ys = c.push_reserved.new.self.items in
    let x = c.args.x in
    let s : Spot _ = record { number = c.self.inside.next; value = Some x } in
    let e : ys ≡ ts ++ s ∷ [] = c.push_reserved.ensures.items in
    let whole : held ys ≡ held ss ++ x ∷ [] = ap held e ∙ held_more ts s ∙ ap (λ l. l ++ x ∷ []) c.make_spot-moved.ensures.held in
    let slot : c.op-name.result.slot ≡ slot_of W.name_of x = ap (λ (o : OpName). o.slot) c.op-name.ensures in
    let old = is_known c.self.inside.by_slot in
    record {
      by_slot = λ h.
          let k = c.know-self-inside.ensures.more h in
          kept_more (slot_of W.name_of) old (is_known c.know-self-inside.new.numbers) (held ss) (held ys) x (c.self.invariant.by_slot (c.know-self-inside.ensures.all h)) (ap old (sym slot) ∙ k.0) (λ q. k.1 q ∙ ap (λ n. cond (n == q) true (old q)) slot) whole;
      by_receive = λ h.
          kind_more W.context_of (isnt W.is_send) (is_known c.self.inside.receives) (is_known c.know_if-self-inside.new.numbers) (not c.sends-sends.result) c.ctx-c.result (held ss) (held ys) x (c.self.invariant.by_receive (c.know_if-self-inside.ensures.all h)) (ap not c.sends-sends.ensures) c.ctx-c.ensures
          (λ s q. ap (λ es. is_known es q) (c.know_if-self-inside.ensures.same s)) (c.know_if-self-inside.ensures.more h) whole;
      by_send = λ h.
          kind_more W.context_of (is_open W.is_send W.is_left) (is_known c.self.inside.opens) (is_known c.know_if-self-inside-2.new.numbers) c.is_open-open.result c.ctx-c.result (held ss) (held ys) x (c.self.invariant.by_send (c.know_if-self-inside-2.ensures.all h)) c.is_open-open.ensures c.ctx-c.ensures
          (λ s q. ap (λ es. is_known es q) (c.know_if-self-inside-2.ensures.same s)) (c.know_if-self-inside-2.ensures.more h) whole;
      send = subst (λ xs. IsMark (W.is_send) c.send_mark-self-inside.result xs) c.deref.ensures.value (c.send_mark-self-inside.ensures (subst (λ xs. IsMark (W.is_send) c.stays.result xs) (sym c.deref.ensures.value) (subst (λ n. IsMark (W.is_send) n ys) (sym c.stays.ensures) (mark_more (W.is_send) c.make_spot-moved.result c.self.inside.send_from ss ts ys s c.make_spot-moved.ensures.same e c.self.invariant.send))));
      receive = subst (λ xs. IsMark (isnt W.is_send) c.receive_mark-self-inside.result xs) c.deref-2.ensures.value (c.receive_mark-self-inside.ensures (subst (λ xs. IsMark (isnt W.is_send) c.stays-2.result xs) (sym c.deref-2.ensures.value) (subst (λ n. IsMark (isnt W.is_send) n ys) (sym c.stays-2.ensures) (mark_more (isnt W.is_send) c.make_spot-moved.result c.self.inside.receive_from ss ts ys s c.make_spot-moved.ensures.same e c.self.invariant.receive))));
      left =
          any_more (is_overlooked W.name_of W.is_left c.note_if.new.ended) (held ss) (held ys) x whole (more_seen W.name_of W.is_left c.self.inside.ended c.note_if.new.ended (held ss) c.note_if.ensures.more c.self.invariant.left)
          (it_seen W.name_of W.is_left c.note_if.new.ended x (λ h. ap (λ (n : OpName). covers_by c.note_if.new.ended (same_op n)) (sym c.op-name.ensures) ∙ c.note_if.ensures.it (c.is_over-is_over.ensures ∙ h)));
    }

pub returns-clause-items : goal.returns-clause-items
returns-clause-items g c =
    let s : Spot _ = record { number = c.self.inside.next; value = Some c.args.x } in
    let ts = c.make_spot-moved.new.list.items in
    ap held c.push_reserved.ensures.items ∙ held_more ts s ∙ ap (λ l. l ++ c.args.x ∷ []) (c.make_spot-moved.ensures.held ∙ ap (λ (v : WaitsView _). v.items) c.self.view_is)

pub returns-clause-room : goal.returns-clause-room
returns-clause-room g c =
    let s : Spot _ = record { number = c.self.inside.next; value = Some c.args.x } in
    let ts = c.make_spot-moved.new.list.items in
    let ss = c.self.inside.list.items in
    let whole = ap held c.push_reserved.ensures.items ∙ held_more ts s ∙ ap (λ l. l ++ c.args.x ∷ []) c.make_spot-moved.ensures.held in
    let long = ap length whole ∙ length_more (held ss) c.args.x in
    let cap = c.push_reserved.ensures.capacity ∙ c.make_spot-moved.ensures.capacity in
    let room = ap (λ (v : WaitsView _). v.room) c.self.view_is in
    let some = c.requires in
    omega (arith, long, cap, room, some)

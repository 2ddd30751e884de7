use Rattle.std.proofs.Common.{◌≡◌, ◌∙◌, ap, arith, refl, false}
use Rattle.std.specs.List.{list_any}
use Rattle.sp_base.specs.declared.OpName.{OpName}
use Rattle.proto_requests.specs.Hints.{HintsView}
use Rattle.proto_requests.specs.Numbers.{is_known}
use Rattle.proto_requests.specs.Spots.{held}
use Rattle.proto_requests.specs.Waits.{slot_of, isnt, is_open, is_overlooked}
use Rattle.proto_requests.proofs.KnownOperations.{all_same, kind_same, mark_kept}
use Rattle.proto_requests.proofs.Spotted.{held_few, on_ok}
use Rattle.proto_requests.proofs.waits.Waits.reserve.Goals as goal

pub invariant_of-self : goal.invariant_of-self
invariant_of-self g c =
    let W = g.T.Waiter in
    let ss = c.self.inside.list.items in
    let us = c.reserve.new.self.items in
    let whole : held us ≡ held ss = ap held c.reserve.ensures.items ∙ c.close_up_for-moved.ensures.held in
    let same : c.close_up_for-moved.result ≡ false → us ≡ ss = λ q. c.reserve.ensures.items ∙ (c.close_up_for-moved.ensures.same q).0 in
    record {
      by_slot = λ h. all_same (slot_of W.name_of) (is_known c.self.inside.by_slot) (is_known c.make_room.new.by_slot) (held ss) (held us) (c.self.invariant.by_slot h) c.make_room.ensures.slot whole;
      by_receive = λ h. kind_same W.context_of (isnt W.is_send) (is_known c.self.inside.receives) (is_known c.make_room.new.receives) (held ss) (held us) (c.self.invariant.by_receive h) c.make_room.ensures.receive whole;
      by_send = λ h. kind_same W.context_of (is_open W.is_send W.is_left) (is_known c.self.inside.opens) (is_known c.make_room.new.opens) (held ss) (held us) (c.self.invariant.by_send h) c.make_room.ensures.open whole;
      send = mark_kept W.is_send c.close_up_for-moved.result c.self.inside.send_from c.stays-self-inside.result ss us c.stays-self-inside.ensures same c.self.invariant.send;
      receive = mark_kept (isnt W.is_send) c.close_up_for-moved.result c.self.inside.receive_from c.stays-self-inside-2.result ss us c.stays-self-inside-2.ensures same c.self.invariant.receive;
      left = ap (λ (v : HintsView OpName). list_any (is_overlooked W.name_of W.is_left v) (held us)) c.make_room.ensures.ended ∙ ap (list_any (is_overlooked W.name_of W.is_left c.self.inside.ended)) whole ∙ c.self.invariant.left;
    }

pub invariant_of-self-in-Err : goal.invariant_of-self-in-Err
invariant_of-self-in-Err g c =
    let W = g.T.Waiter in
    let ss = c.self.inside.list.items in
    let us = c.reserve.new.self.items in
    let whole : held us ≡ held ss = ap held c.reserve.ensures.items ∙ c.close_up_for-moved.ensures.held in
    let same : c.close_up_for-moved.result ≡ false → us ≡ ss = λ q. c.reserve.ensures.items ∙ (c.close_up_for-moved.ensures.same q).0 in
    record {
      by_slot = λ h. all_same (slot_of W.name_of) (is_known c.self.inside.by_slot) (is_known c.self.inside.by_slot) (held ss) (held us) (c.self.invariant.by_slot h) (λ q. refl) whole;
      by_receive = λ h. kind_same W.context_of (isnt W.is_send) (is_known c.self.inside.receives) (is_known c.self.inside.receives) (held ss) (held us) (c.self.invariant.by_receive h) (λ q. refl) whole;
      by_send = λ h. kind_same W.context_of (is_open W.is_send W.is_left) (is_known c.self.inside.opens) (is_known c.self.inside.opens) (held ss) (held us) (c.self.invariant.by_send h) (λ q. refl) whole;
      send = mark_kept W.is_send c.close_up_for-moved.result c.self.inside.send_from c.stays-self-inside.result ss us c.stays-self-inside.ensures same c.self.invariant.send;
      receive = mark_kept (isnt W.is_send) c.close_up_for-moved.result c.self.inside.receive_from c.stays-self-inside-2.result ss us c.stays-self-inside-2.ensures same c.self.invariant.receive;
      left = ap (list_any (is_overlooked W.name_of W.is_left c.self.inside.ended)) whole ∙ c.self.invariant.left;
    }

pub returns-in-Ok-clause-room : goal.returns-in-Ok-clause-room
returns-in-Ok-clause-room g c =
    let few = held_few c.reserve.new.self.items in
    let len = c.reserve.new.self.ok.0 in
    let ok = c.in-Ok.ensures.ok in
    on_ok c.make_room.result _ (omega (arith, few, len, ok))

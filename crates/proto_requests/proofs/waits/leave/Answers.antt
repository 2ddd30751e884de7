use Rattle.std.proofs.Common.{◌∙◌, sym, ap, true, false}
use Rattle.sp_history.specs.Lists.{same_op}
use Rattle.proto_requests.specs.Hints.{HintsView}
use Rattle.sp_base.specs.declared.OpName.{OpName}
use Rattle.proto_requests.specs.Waits.{is_kind_on}
use Rattle.proto_requests.specs.Spots.{held}
use Rattle.proto_requests.proofs.EndedOperations.{left_two, left_noted, send_stays, all_seen}
use Rattle.proto_requests.proofs.KnownOperations.{held_left}
use Rattle.proto_requests.proofs.waits.leave.Goals as goal

pub returns-then-not-known-clause-list : goal.returns-then-not-known-clause-list
returns-then-not-known-clause-list g c = λ h. c.leave_in.ensures

pub returns-then-not-known-clause-ended : goal.returns-then-not-known-clause-ended
returns-then-not-known-clause-ended g c = λ h o. let W = g.T.Waiter in all_seen W.name_of W.is_left c.give_up.new.self (held c.leave_in.new.list) (ap (λ (v : HintsView OpName). v.whole) c.give_up.ensures)

pub returns-clause-list : goal.returns-clause-list
returns-clause-list g c = λ h.
    let W = g.T.Waiter in
    let x = c.args.c in
    let ss = c.args.list.now in
    let apart = h c.if-not-known.false in
    let first = c.leave_at.ensures (is_kind_on W.is_send W.is_left W.context_of false x) (c.place_on-receive.ensures (λ k. apart.0)) in
    let at = c.place_on-send.ensures (λ k. apart.1) ∙ sym (send_stays W.name_of W.context_of W.is_send W.is_left W.left W.left_same W.left_again x ss c.leave_at.new.list first) in
    left_two W.name_of W.context_of W.is_send W.is_left W.left W.left_same W.left_again x c.args.receives.now c.args.opens.now ss c.leave_at.new.list c.leave_at-2.new.list apart first (c.leave_at-2.ensures (is_kind_on W.is_send W.is_left W.context_of true x) at)

pub returns-clause-ended : goal.returns-clause-ended
returns-clause-ended g c = λ h.
    let W = g.T.Waiter in
    let x = c.args.c in
    let ss = c.args.list.now in
    let P = is_kind_on W.is_send W.is_left W.context_of false x in
    let Q = is_kind_on W.is_send W.is_left W.context_of true x in
    let apart = h c.if-not-known.false in
    let first = c.leave_at.ensures P (c.place_on-receive.ensures (λ k. apart.0)) in
    let at = c.place_on-send.ensures (λ k. apart.1) ∙ sym (send_stays W.name_of W.context_of W.is_send W.is_left W.left W.left_same W.left_again x ss c.leave_at.new.list first) in
    let whole = left_two W.name_of W.context_of W.is_send W.is_left W.left W.left_same W.left_again x c.args.receives.now c.args.opens.now ss c.leave_at.new.list c.leave_at-2.new.list apart first (c.leave_at-2.ensures Q at) in
    left_noted W.name_of W.context_of W.is_send W.is_left W.left W.left_same W.left_again x c.args.ended.now c.note_at-2.new.ended c.args.receives.now c.args.opens.now ss c.leave_at-2.new.list apart whole (ap held whole ∙ held_left W.context_of W.left x ss)
    (λ v f. c.note_at-2.ensures.it P v (c.place_on-receive.ensures (λ k. apart.0)) f) (λ v f. c.note_at-2.ensures.more (same_op (W.name_of v)) (c.note_at.ensures.it Q v (c.place_on-send.ensures (λ k. apart.1)) f)) (λ R k. c.note_at-2.ensures.more R (c.note_at.ensures.more R k))

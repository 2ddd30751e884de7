use Rattle.std.proofs.Common.{◌≡◌, ◌≤◌, ◌∙◌, ap, subst, refl, Some, List, arith, length, ◌++◌, ◌∷◌, []}
use Rattle.std.specs.List.{list_any}
use Rattle.proto_requests.specs.Numbers.{is_known}
use Rattle.proto_requests.specs.Spots.{held}
use Rattle.proto_requests.specs.declared.spots.Spot.{Spot}
use Rattle.proto_requests.proofs.Backlogged.{kept_more}
use Rattle.proto_requests.proofs.Spotted.{held_more, held_few}
use Rattle.proto_requests.proofs.KnownOperations.{length_more}
use Rattle.proto_rep.specs.declared.replies.WaitingReply.{WaitingReply}
use Rattle.proto_rep.specs.Replies.{AreKeyed, RepliesView, reply_key, reply_slot}
use Rattle.proto_rep.proofs.KeyedReplies.{rising_more}
use Rattle.proto_rep.proofs.PassedReplies.{more_passed}
use Rattle.proto_rep.proofs.replies.WaitingReplies.push.Goals as goal

pub invariant_of-self : goal.invariant_of-self
invariant_of-self c =
    let ss = c.self.inside.list.items in
    let ts = c.make_spot-self-inside.new.list.items in
    let ys = c.push_reserved.new.self.items in
    let n = c.self.inside.next in
    let x : WaitingReply = record { op = c.args.op; ctx = c.args.ctx; answer = c.args.answer; number = n } in
    let s : Spot WaitingReply = record { number = n; value = Some x } in
    let whole : held ys ≡ held ss ++ x ∷ [] = ap held c.push_reserved.ensures.items ∙ held_more ts s ∙ ap (λ (l : List WaitingReply). l ++ x ∷ []) c.make_spot-self-inside.ensures.held in
    let v = c.self.inside.list in
    let fewer = held_few ss in
    let m = c.self.invariant.number in
    let len = v.ok.0 in
    let cap = v.ok.1 in
    let small = v.small in
    let more = ap length whole ∙ length_more (held ss) x in
    let alive = c.saturating_add-self-inside.ensures in
    record {
      order = λ h. let b = c.behind-next.ensures h in rw whole (rising_more 0 n c.behind-next.result.0 (held ss) x (omega arith) refl b.1 (c.self.invariant.order b.0));
      by_slot = λ h.
          let k = c.know-self-inside.ensures.more h in
          kept_more reply_slot (is_known c.self.inside.by_slot) (is_known c.know-self-inside.new.numbers) (held ss) (held ys) x (c.self.invariant.by_slot (c.know-self-inside.ensures.all h)) k.0 k.1 whole;
      by_key = λ h. (
        c.put_last-self-inside.ensures.order h,
        subst (λ (us : List (Spot WaitingReply)). AreKeyed c.self.inside.raw c.put_last-self-inside.new.index.keys (held us)) c.deref.ensures.value
            (c.put_last-self-inside.ensures.keys (held ss) x (λ k. (c.self.invariant.by_key k).1) (ap held c.deref.ensures.value ∙ whole) c.reply_key-key.ensures refl h),
      );
      number = omega (arith, alive, fewer, m, len, cap, small, more);
    }

pub returns-clause-items : goal.returns-clause-items
returns-clause-items c =
    let ts = c.make_spot-self-inside.new.list.items in
    let n = c.self.inside.next in
    let x : WaitingReply = record { op = c.args.op; ctx = c.args.ctx; answer = c.args.answer; number = n } in
    let s : Spot WaitingReply = record { number = n; value = Some x } in
    (n, ap held c.push_reserved.ensures.items ∙ held_more ts s ∙ ap (λ (l : List WaitingReply). l ++ x ∷ []) (c.make_spot-self-inside.ensures.held ∙ ap (λ (v : RepliesView). v.items) c.self.view_is))

pub returns-clause-passed : goal.returns-clause-passed
returns-clause-passed c = λ P h.
    let ss = c.self.inside.list.items in
    let ts = c.make_spot-self-inside.new.list.items in
    let n = c.self.inside.next in
    let x : WaitingReply = record { op = c.args.op; ctx = c.args.ctx; answer = c.args.answer; number = n } in
    let s : Spot WaitingReply = record { number = n; value = Some x } in
    let whole : held c.push_reserved.new.self.items ≡ held ss ++ x ∷ [] = ap held c.push_reserved.ensures.items ∙ held_more ts s ∙ ap (λ (l : List WaitingReply). l ++ x ∷ []) c.make_spot-self-inside.ensures.held in
    let under : c.lower-self-inside.result ≤ reply_key c.self.inside.raw x = subst (λ k. c.lower-self-inside.result ≤ k) c.reply_key-key.ensures c.lower-self-inside.ensures.other in
    more_passed c.self.inside.raw P c.self.inside.below c.lower-self-inside.result (held ss) (held c.push_reserved.new.self.items) x c.lower-self-inside.ensures.one under whole (ap (λ (v : RepliesView). list_any P v.passed) c.self.view_is ∙ h)

pub returns-clause-room : goal.returns-clause-room
returns-clause-room c =
    let n = c.self.inside.next in
    let x : WaitingReply = record { op = c.args.op; ctx = c.args.ctx; answer = c.args.answer; number = n } in
    let s : Spot WaitingReply = record { number = n; value = Some x } in
    let ts = c.make_spot-self-inside.new.list.items in
    let ss = c.self.inside.list.items in
    let whole = ap held c.push_reserved.ensures.items ∙ held_more ts s ∙ ap (λ (l : List WaitingReply). l ++ x ∷ []) c.make_spot-self-inside.ensures.held in
    let long = ap length whole ∙ length_more (held ss) x in
    let cap = c.push_reserved.ensures.capacity ∙ c.make_spot-self-inside.ensures.capacity in
    let room = ap (λ (v : RepliesView). v.room) c.self.view_is in
    let some = c.requires in
    omega (arith, long, cap, room, some)

use Rattle.std.proofs.Common.{◌≡◌, refl, ap, sym, ◌∙◌, None, Some}
use Rattle.std.specs.Option.{option_map}
use Rattle.sp_proto.specs.Kinds.{text_of}
use Rattle.proto_shared.specs.declared.pending.Pending.{Pending}
use Rattle.proto_shared.specs.declared.pending.Waiting.{Waiting}
use Rattle.proto_shared.proofs.Waiters.{send_ends, is_a_send, is_a_receive, act_message, no_message}
use Rattle.proto_shared.proofs.pending.Pending.end.Goals as goal

pub returns-in-None-clause-ended : goal.returns-in-None-clause-ended
returns-in-None-clause-ended c =
    λ ss s h k.
    let was = c.args.self.now in
    let receive = is_a_receive was was ss c.args.op s None h k (sym c.in-None.ensures.found) in
    let ends = c.end_receive.ensures.ended ss s (rw c.in-None.ensures.same h) k receive in
    (no_message s.act receive, rw (← c.in-None.ensures.same) ends)

pub returns-in-Some-clause-ended : goal.returns-in-Some-clause-ended
returns-in-Some-clause-ended c =
    λ ss s h k.
    let was = c.args.self.now in
    let new : Pending = record { receives = was.receives; sends = c.take.new.waiting } in
    let sent = send_ends was new ss c.args.op s (Some c.in-Some.w) h k (is_a_send was ss c.args.op s c.in-Some.w h k c.in-Some.ensures.found) c.in-Some.ensures.found c.in-Some.ensures.rest c.in-Some.ensures.len c.in-Some.ensures.capacity refl in
    (ap (option_map text_of) (same_message c.in-Some.w sent.0 sent.1) ∙ act_message sent.0 s sent.2, sent.3)
  where
    same_message : (v w : Waiting) → Some v ≡ Some w → v.message ≡ w.message
    same_message v w q = cc

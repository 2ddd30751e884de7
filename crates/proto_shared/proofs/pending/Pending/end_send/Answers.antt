use Rattle.std.proofs.Common.{◌≡◌, refl, ap, ◌∙◌, None, Some}
use Rattle.std.specs.Option.{option_map}
use Rattle.sp_proto.specs.Kinds.{text_of}
use Rattle.sp_proto.specs.Machines.{message_of}
use Rattle.proto_shared.specs.declared.pending.Pending.{Pending}
use Rattle.proto_shared.specs.declared.pending.Waiting.{Waiting}
use Rattle.proto_shared.proofs.Waiters.{send_ends, sends_it, act_message}
use Rattle.proto_shared.proofs.pending.Pending.end_send.Goals as goal

pub returns-in-None-clause-ended : goal.returns-in-None-clause-ended
returns-in-None-clause-ended c =
    λ ss s m h k e.
    let was = c.args.self.now in
    let new : Pending = record { receives = was.receives; sends = c.take.new.waiting } in
    let sent = send_ends was new ss c.args.op s None h k (sends_it s.act m e) c.in-None.ensures.found c.in-None.ensures.rest c.in-None.ensures.len c.in-None.ensures.capacity refl in
    let no : None ≡ Some sent.0 = sent.1 in
    absurd cc

pub returns-in-Some-clause-ended : goal.returns-in-Some-clause-ended
returns-in-Some-clause-ended c =
    λ ss s m h k e.
    let was = c.args.self.now in
    let new : Pending = record { receives = was.receives; sends = c.take.new.waiting } in
    let sent = send_ends was new ss c.args.op s (Some c.in-Some.w) h k (sends_it s.act m e) c.in-Some.ensures.found c.in-Some.ensures.rest c.in-Some.ensures.len c.in-Some.ensures.capacity refl in
    (ap (option_map text_of) (same_message c.in-Some.w sent.0 sent.1) ∙ act_message sent.0 s sent.2 ∙ ap message_of e, sent.3)
  where
    same_message : (v w : Waiting) → Some v ≡ Some w → v.message ≡ w.message
    same_message v w q = cc

use Rattle.std.proofs.Common.{◌≡◌, refl, ap, arith, None, Some, ◌∙◌, true, false}
use Rattle.std.specs.Prelude.{Option}
use Rattle.std.specs.Option.{option_map}
use Rattle.sp_msg.specs.Views.{MessageView}
use Rattle.sp_history.specs.Past.{pend}
use Rattle.sp_history.specs.Moments.{past}
use Rattle.sp_proto.specs.Kinds.{text_of}
use Rattle.proto_pair.specs.declared.Pair.{Pair}
use Rattle.proto_pair.proofs.Paired.{given_ties, dropped_ties, sent_ties, sent_text, the_send}
use Rattle.proto_pair.proofs.Asking.{never_floods, is_received, is_sent}
use Rattle.proto_pair.proofs.PairProto.won.Goals.{in-None-end, in-Some-end}
use Rattle.proto_pair.proofs.PairProto.won.Goals as goal

pub returns-after-end-clause-given : goal.returns-after-end-clause-given
returns-after-end-clause-given c =
    λ t s m o l h k.
    let was = c.args.self.now in
    elim c.match-end.branch [
      | in-None-end w ↦
          let ended = w.in-None-end.ensures.ended (pend (past t)) s h.pending k.pending in
          let given = given_ties was (record was { pending = c.end.new.self; kept = w.take.new.self }) t c.args.op s m h k ended.1.0 (ap (λ (x : Option MessageView). let n : Pair = record was { pending = c.end.new.self; kept = x } in n) w.take.ensures.after) in
          rw (w.result-is, w.self-is) (ap (option_map text_of) w.take.ensures.value ∙ given.0, given.1, (omega (arith, ended.1.1.0), ended.1.1.1))
      | in-Some-end w ↦
          let ended = w.in-Some-end.ensures.ended (pend (past t)) s h.pending k.pending in
          is_received s.act _ k.may.is_receive ended.0 refl
    ]

pub returns-after-end-clause-flooded : goal.returns-after-end-clause-flooded
returns-after-end-clause-flooded c = λ t s o l h k f. never_floods c.args.self.now t h f

pub returns-after-end-clause-dropped : goal.returns-after-end-clause-dropped
returns-after-end-clause-dropped c =
    λ t s o l h k.
    let was = c.args.self.now in
    elim c.match-end.branch [
      | in-None-end w ↦
          let ended = w.in-None-end.ensures.ended (pend (past t)) s h.pending k.pending in
          is_sent s.act k.is_send ended.0
      | in-Some-end w ↦
          let ended = w.in-Some-end.ensures.ended (pend (past t)) s h.pending k.pending in
          rw w.self-is (dropped_ties was (record was { pending = c.end.new.self }) t c.args.op h ended.1.0 refl, (omega (arith, ended.1.1.0), ended.1.1.1))
    ]

pub returns-in-None-end_send-clause-sent : goal.returns-in-None-end_send-clause-sent
returns-in-None-end_send-clause-sent c =
    λ t p s b o l h k.
    let was = c.args.self.now in
    let sent = the_send was t c.args.op p s b k in
    let ended = c.in-None-end_send.ensures.ended (pend (past t)) s sent.0 h.pending k.pending sent.1 in
    let no : None ≡ Some sent.0 = ended.0 in
    absurd cc

pub returns-in-Some-end_send-clause-sent : goal.returns-in-Some-end_send-clause-sent
returns-in-Some-end_send-clause-sent c =
    λ t p s b o l h k.
    let was = c.args.self.now in
    let sent = the_send was t c.args.op p s b k in
    let ended = c.in-Some-end_send.ensures.ended (pend (past t)) s sent.0 h.pending k.pending sent.1 in (
      sent_text was t c.args.op p s b sent.0 c.in-Some-end_send.message c.outgoing.result h k sent.1 ended.0 c.outgoing.ensures,
      sent_ties was (record was { pending = c.end_send.new.self }) t c.args.op p b h ended.1.0 refl,
      (omega (arith, ended.1.1.0), ended.1.1.1),
    )

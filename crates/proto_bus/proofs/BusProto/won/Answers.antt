use Rattle.std.proofs.Common.{◌≡◌, ◌∙◌, refl, sym, Some, None, true, false}
use Rattle.std.specs.Prelude.{Option, is_some}
use Rattle.std.specs.Option.{option_map}
use Rattle.sp_msg.specs.Views.{MessageView}
use Rattle.sp_history.specs.declared.entry.RecordedAct.{RecordedAct}
use Rattle.sp_history.specs.declared.entry.RecordedAct.TheVariants.{Recv, Send}
use Rattle.sp_history.specs.Legal.{is_recv}
use Rattle.sp_history.specs.Past.{pend}
use Rattle.sp_history.specs.Moments.{past}
use Rattle.sp_proto.specs.Kinds.{text_of}
use Rattle.sp_proto.specs.Machines.{message_of}
use Rattle.proto_shared.proofs.Sending.{won_send}
use Rattle.proto_bus.proofs.Bussed.{given_ties, flooded_ties}
use Rattle.proto_bus.proofs.BusProto.won.Goals as goal

has_message : (o : Option MessageView) (a : RecordedAct) → option_map text_of o ≡ message_of a → is_some o ≡ true → is_recv a ≡ true → ⊥
has_message None a e h r = absurd cc
has_message (Some v) Recv e h r = absurd cc
has_message (Some v) (Send m) e h r = absurd cc

has_none : (o : Option MessageView) (a : RecordedAct) → option_map text_of o ≡ message_of a → is_some o ≡ false → is_recv a ≡ false → ⊥
has_none None Recv e h r = absurd cc
has_none None (Send m) e h r = absurd cc
has_none (Some v) a e h r = absurd cc

pub returns-then-is_some-clause-given : goal.returns-then-is_some-clause-given
returns-then-is_some-clause-given c =
    λ t s m o l h k.
    let ended = c.end-sent.ensures.ended (pend (past t)) s h.0.pending k.pending in
    absurd (has_message c.end-sent.result s.act ended.0 (sym c.is_some.ensures ∙ c.if-is_some.true) k.may.is_receive)

pub returns-then-is_some-clause-flooded : goal.returns-then-is_some-clause-flooded
returns-then-is_some-clause-flooded c =
    λ t s o l h p f.
    let was = c.args.self.now in
    let ended = c.end-sent.ensures.ended (pend (past t)) s h.0.pending p in
    (flooded_ties was (record was { pending = c.end-sent.new.self; copies = c.clear.new.self }) t c.args.op s l h p ended.1.0 refl, ended.1.1)

pub returns-clause-given : goal.returns-clause-given
returns-clause-given c =
    λ t s m o l h k.
    let was = c.args.self.now in
    let ended = c.end-sent.ensures.ended (pend (past t)) s h.0.pending k.pending in
    let given = given_ties was (record was { pending = c.end-sent.new.self; kept = c.pop_front.new.self }) t c.args.op s m c.pop_front.result h k ended.1.0 c.pop_front.ensures.value c.pop_front.ensures.items refl in
    (given.0, given.1, ended.1.1)

pub returns-clause-flooded : goal.returns-clause-flooded
returns-clause-flooded c =
    λ t s o l h p f.
    let was = c.args.self.now in
    let ended = c.end-sent.ensures.ended (pend (past t)) s h.0.pending p in
    absurd (has_none c.end-sent.result s.act ended.0 (sym c.is_some.ensures ∙ c.if-is_some.false) (won_send t c.args.op s l p))

use Rattle.std.proofs.Common.{◌∙◌, ap, sym, cond, None, Option}
use Rattle.std.specs.Option.{option_map}
use Rattle.std.specs.Prelude.{find}
use Rattle.sp_base.specs.declared.OpName.{OpName}
use Rattle.proto_reqrep.specs.declared.req.Asking.{Asking}
use Rattle.proto_reqrep.specs.Reqs.{is_receiving_on}
use Rattle.proto_reqrep.proofs.req.ready_on.Goals as goal

pub returns-then-not-has_reply : goal.returns-then-not-has_reply
returns-then-not-has_reply c = sym (ap (λ b. cond {A = Option OpName} b (option_map (λ (w : Asking). w.op) (find (is_receiving_on c.args.c) c.args.waiting.now.items)) None) (sym c.has_reply.ensures ∙ c.if-not-has_reply.true))

pub returns : goal.returns
returns c = c.receive_on.ensures ∙ sym (ap (λ b. cond {A = Option OpName} b (option_map (λ (w : Asking). w.op) (find (is_receiving_on c.args.c) c.args.waiting.now.items)) None) (sym c.has_reply.ensures ∙ c.if-not-has_reply.false))

use Rattle.std.proofs.Common.{ap, sym, subst, ℕ, ◌<◌}
use Rattle.sp_socket.specs.declared.pass_parts.PassParts.{PassParts}
use Rattle.sp_socket.proofs.Ticks.{known_pass}
use Rattle.sp_socket.proofs.socket.Socket.cancel.Goals as goal

pub returns-clause-rule : goal.returns-clause-rule
returns-clause-rule g c = λ inside.
    let k : PassParts = record { seat = c.cancel-raced.new.seat; names = c.pass.inside.parts.names } in
    let slots = ap (λ q. q.words.slots) c.self.view_is in
    known_pass c.self.inside.words.slots c.args.self.now.words.slots c.pass.inside.turn c.pass.inside.parts k slots c.pass.invariant c.cancel-raced.ensures.own.1 (c.cancel-raced.ensures.rule (subst (λ (n : ℕ). c.args.op.slot < n) (sym slots) inside))

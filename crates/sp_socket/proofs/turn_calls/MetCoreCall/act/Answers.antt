use Rattle.std.proofs.Common.{refl}
use Rattle.sp_history.specs.declared.entry.Entry.TheVariants.{Met}
use Rattle.sp_socket.proofs.NoneTaken.{leaves, none_first}
use Rattle.sp_socket.proofs.turn_calls.MetCoreCall.act.Goals as goal

pub returns-clause-turn : goal.returns-clause-turn
returns-clause-turn g c = λ h s. let a = c.met.ensures.turn h s in (a.0, a.1, a.2, (leaves h a.0 (none_first (Met c.args.self.place) a.0 (λ op. refl) a.3), a.3))

use Rattle.sp_core.specs.Standing.{core_setting}
use Rattle.sp_socket.proofs.NoneTaken.{leaves, none_subscribed}
use Rattle.sp_socket.proofs.turn_calls.SubscribeTopicCoreCall.act.Goals as goal

pub returns-clause-turn : goal.returns-clause-turn
returns-clause-turn g c = λ h s. let a = c.subscribe.ensures.turn h s in (a.0, a.1, a.2, (leaves h a.0 (none_subscribed c.subscribe.result (core_setting g.P.Proto.kind c.args.core.now) h a.0 c.args.self.c c.args.self.topic.now a.3), a.3))

use Rattle.std.proofs.Common.{ap, length}
use Rattle.std.specs.List.{concat}
use Rattle.sp_ws.specs.Streams.{unread_in}
use Rattle.sp_ws.proofs.SocketShows.{is_sent, is_unsent}
use Rattle.sp_ws.proofs.socket.MemorySocketFrames.send.Goals as goal

pub returns-in-Ok-clause-after : goal.returns-in-Ok-clause-after
returns-in-Ok-clause-after c =
    let s = c.in-Ok.ensures in
    rw (← c.self.view_is) (is_sent _ _ _ _ _ _ _ _ _ _ s.1.0 _ _ _ _ _ _ _ _ _ _ c.args.b.now s.0.2 (ap (λ v. concat v.texts) s.0.4) (ap (λ v. v.items) s.0.0) (ap (λ v. length (unread_in v.stream)) s.0.1) s.1.1 s.1.2 c.and-self-inside.ensures (ap (λ v. v.all) s.0.3) (ap (λ v. v.conn.config) s.0.1))

pub returns-in-Err-clause-after : goal.returns-in-Err-clause-after
returns-in-Err-clause-after c =
    let s = c.in-Err.ensures in
    rw (← c.self.view_is) (is_unsent _ _ _ _ _ _ _ _ _ _ _ _ _ _ _ _ _ _ _ s.0.2 (ap (λ v. concat v.texts) s.0.4) (ap (λ v. v.items) s.0.0) (ap (λ v. length (unread_in v.stream)) s.0.1) s.1 (ap (λ v. v.all) s.0.3) (ap (λ v. v.conn.config) s.0.1))

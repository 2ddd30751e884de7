use Rattle.sp_ws.proofs.wire.WsWire.made.Given as goal

abbrev pub ghost-of : goal.ghost-of
ghost-of g a = g.spent

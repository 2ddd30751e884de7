use Rattle.sp_tcp.proofs.wire.TcpWire.made.Given as goal

abbrev pub ghost-of : goal.ghost-of
ghost-of g a = g.spent

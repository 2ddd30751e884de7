use Rattle.std.proofs.Common.{arith, ◌∷◌, ◌++◌, []}
use Rattle.sp_history.specs.Past.{past_of}
use Rattle.sp_socket.proofs.Closed.{closed_of}
use Rattle.bench_socket.proofs.alone.end_alone.Goals as goal

pub close-requires : goal.close-requires
close-requires g c = let p = c.requires in record { turn = ((p.history, p.stands), (omega arith, p.has_caller)) }

pub into_wires-requires : goal.into_wires-requires
into_wires-requires g c =
    let p = c.requires in
    let t = c.close.ensures.turn p.history p.stands in
    (p.history ++ t.0 ∷ [], t.2, closed_of (past_of (p.history ++ t.0 ∷ [])) c.close.result t.3.returned)

use Rattle.std.proofs.Common.{◌≡◌, ap, arith, ◌∷◌, ◌++◌, []}
use Rattle.sp_history.specs.Past.{past_of}
use Rattle.aio_word.specs.Sight.{Named}
use Rattle.sp_core.proofs.Labels.{same_words}
use Rattle.test_core_driver.proofs.Driving.{totals_closed}
use Rattle.test_core_driver.proofs.calls.Driver.take_apart.Goals as goal

pub close-requires : goal.close-requires
close-requires g c =
    let p = c.self.invariant in
    let w : c.join.new.self.op_words.words.callers ≡ c.self.inside.core.op_words.words.callers = ap (λ (n : Named). n.callers) (same_words g.P.Proto.kind c.self.inside.core c.join.new.self c.join.ensures.label) in
    record { turn = ((p.history, c.join.ensures.stands p.history p.stands), (omega arith, omega (arith, w, p.has_caller))) }

pub into_wires-requires : goal.into_wires-requires
into_wires-requires g c =
    let p = c.self.invariant in
    let t = c.close.ensures.turn p.history (c.join.ensures.stands p.history p.stands) in
    (p.history ++ t.0 ∷ [], t.2, totals_closed (past_of (p.history ++ t.0 ∷ [])) c.close.result t.3.returned)

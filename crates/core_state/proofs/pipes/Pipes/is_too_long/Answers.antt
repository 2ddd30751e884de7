use Rattle.std.proofs.Common.{◌∙◌, ap, arith, sym, ℕ, Some}
use Rattle.std.specs.Prelude.{Option}
use Rattle.sp_history.specs.Frames.{is_above}
use Rattle.core_state.proofs.PipeSteps.{limit_at}
use Rattle.core_state.proofs.pipes.Pipes.is_too_long.Goals as goal

pub index-requires : goal.index-requires
index-requires g c = let inside = c.requires.3.inside in let len = c.args.self.now.places.ok.0 in omega (arith, inside, len)

pub returns : goal.returns
returns g c = λ t p lawful h there.
    c.is_above.ensures ∙ ap (is_above (Some c.index.result.now.limit)) c.body.ensures
    ∙ ap (λ (o : Option ℕ). is_above o c.args.m.now.body) (sym (limit_at g.W.Wire.shown c.args.self.now t c.args.i p c.index.result.now h there c.index.ensures))

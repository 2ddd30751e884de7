use Rattle.sp_history.specs.declared.entry.Entry.TheVariants.{NoUp}
use Rattle.sp_core.proofs.Labels.{same_words}
use Rattle.test_core_driver.proofs.Driving.{plain_turn, first_plain}
use Rattle.test_core_driver.proofs.calls.Driver.missed.Goals as goal

pub invariant_of-self : goal.invariant_of-self
invariant_of-self g c =
    let p = c.self.invariant in
    let i = c.self.inside in
    let t = c.missed.ensures.turn p.history p.stands in
    plain_turn g.P.Proto.ties g.P.Proto.room g.W.Wire.shown i.core c.missed.new.self i.seat i.other i.slots i.ops.items p t.0 t.2 (first_plain (NoUp c.args.place c.args.miss) t.0 tt t.3) (same_words g.P.Proto.kind i.core c.missed.new.self c.missed.ensures.label)

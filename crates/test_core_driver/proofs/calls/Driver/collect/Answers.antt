use Rattle.std.proofs.Common.{arith, ap, sym, ◌∙◌, ◌∷◌, ◌++◌, []}
use Rattle.sp_base.specs.declared.OpName.{OpName}
use Rattle.sp_core.proofs.Labels.{same_words}
use Rattle.test_core_driver.proofs.Driving.{is_open, took_turn, kept_turn, settling_plain}
use Rattle.test_core_driver.proofs.calls.Driver.collect.Goals as goal

pub collect-requires-clause-turn : goal.collect-requires-clause-turn
collect-requires-clause-turn g c =
    let p = c.self.invariant in
    let i = c.self.inside in
    ((p.history, p.stands, is_open g.P.Proto.ties g.P.Proto.room g.W.Wire.shown i.core i.seat i.other i.slots i.ops.items c.pop_back.new.self.items c.in-Some.op p c.in-Some.ensures.items), (omega arith, p.has_caller))

pub invariant_of-self-in-Ended : goal.invariant_of-self-in-Ended
invariant_of-self-in-Ended g c =
    let p = c.self.invariant in
    let i = c.self.inside in
    let o = is_open g.P.Proto.ties g.P.Proto.room g.W.Wire.shown i.core i.seat i.other i.slots i.ops.items c.pop_back.new.self.items c.in-Some.op p c.in-Some.ensures.items in
    let t = c.in-Ended.ensures.turn p.history p.stands o in
    took_turn g.P.Proto.ties g.P.Proto.room g.W.Wire.shown i.core c.collect.new.self i.seat c.collect.new.seat i.other i.slots i.ops.items c.pop_back.new.self.items c.in-Some.op p t.0 c.in-Some.ensures.items t.2 t.3.0 (same_words g.P.Proto.kind i.core c.collect.new.self c.collect.ensures.label) c.collect.ensures.seat

pub invariant_of-self-in-NotYet : goal.invariant_of-self-in-NotYet
invariant_of-self-in-NotYet g c =
    let p = c.self.invariant in
    let i = c.self.inside in
    let o = is_open g.P.Proto.ties g.P.Proto.room g.W.Wire.shown i.core i.seat i.other i.slots i.ops.items c.pop_back.new.self.items c.in-Some.op p c.in-Some.ensures.items in
    let t = c.in-NotYet.ensures.turn p.history p.stands o in
    let is = c.push_back_reserved.ensures.items ∙ ap (λ (y : OpName). c.pop_back.new.self.items ++ y ∷ []) t.3.0 ∙ sym c.in-Some.ensures.items in
    kept_turn g.P.Proto.ties g.P.Proto.room g.W.Wire.shown i.core c.collect.new.self i.seat c.collect.new.seat i.other i.slots i.ops.items c.push_back_reserved.new.self.items p t.0 t.2 (settling_plain t.0.entries t.3.1) (same_words g.P.Proto.kind i.core c.collect.new.self c.collect.ensures.label) c.collect.ensures.seat is

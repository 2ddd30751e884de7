use Rattle.std.proofs.Common.{◌<◌, ◌++◌, ℕ, List, [], ◌∷◌, length, take, Some, ap, sym, ◌∙◌, append-nil, arith}
use Rattle.sp_msg.specs.Views.{WireView}
use Rattle.sp_fakes.specs.MemWires.{frames_in, mem_wire}
use Rattle.sp_fakes.specs.declared.wire.WireStep.TheVariants as steps
use Rattle.sp_fakes.proofs.Frames.{frames_more}
use Rattle.sp_fakes.proofs.wire.MemWire.next_step.Goals as goal

pub returns-in-Ok-clause-came : goal.returns-in-Ok-clause-came
returns-in-Ok-clause-came c =
    let w = c.self.inside in
    let view : WireView = mem_wire w.script.items w.at w.kept.items w.marks in
    let lt : w.at < length w.script.items = omega (arith, c.len.ensures, c.if-self-len.false) in
    let e = frames_more w.script.items w.at c.index.result.now (steps.Bytes c.in-Bytes.bytes) lt c.index.ensures c.in-Bytes.is ∙ ap (λ (b : List ℕ). frames_in (take w.at w.script.items) ++ b ∷ []) (sym (c.in-Ok.ensures.body ∙ c.as_slice.ensures)) in
    rw (← c.self.view_is) (λ i. record view { came = Some (e i) })

pub returns-in-NotYet-clause-came : goal.returns-in-NotYet-clause-came
returns-in-NotYet-clause-came c =
    let w = c.self.inside in
    let view : WireView = mem_wire w.script.items w.at w.kept.items w.marks in
    let lt : w.at < length w.script.items = omega (arith, c.len.ensures, c.if-self-len.false) in
    let e = frames_more w.script.items w.at c.index.result.now steps.NotYet lt c.index.ensures c.in-NotYet.is ∙ append-nil (frames_in (take w.at w.script.items)) in
    rw (← c.self.view_is) (λ i. record view { came = Some (e i) })

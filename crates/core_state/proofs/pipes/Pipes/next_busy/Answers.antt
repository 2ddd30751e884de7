use Rattle.std.proofs.Common.{refl, ◌∙◌, false}
use Rattle.std.specs.VecDeque.{deque_with_item}
use Rattle.core_state.specs.declared.pipes.Pipes.{Pipes}
use Rattle.core_state.proofs.BusyTurns.{first_and_rest, off_at, next_absent, next_busy, next_idle}
use Rattle.core_state.proofs.pipes.Pipes.next_busy.Goals as goal

pub returns-in_default : goal.returns-in_default
returns-in_default g c = λ t lawful h.
    let m : Pipes g.row.W.Denot = record c.args.self.now { busy = c.pop_front.new.self } in
    let was = first_and_rest c.args.self.now.busy.items c.pop_front.new.self.items c.index-p.result.now c.requires c.index-p.ensures c.pop_front.ensures.rest in
    next_absent g.W.Wire.shown c.args.self.now m t c.index-p.result.now h was c.pop_front.ensures.capacity (c.in_default.ensures t lawful h)

pub returns-then-not-index : goal.returns-then-not-index
returns-then-not-index g c = λ t lawful h.
    let m : Pipes g.row.W.Denot = record c.args.self.now { places = deque_with_item c.args.self.now.places c.in-Some.i (record c.index_mut.result.now { listed = false }); busy = c.pop_front.new.self } in
    let was = first_and_rest c.args.self.now.busy.items c.pop_front.new.self.items c.index-p.result.now c.requires c.index-p.ensures c.pop_front.ensures.rest in
    next_idle g.W.Wire.shown c.args.self.now m t c.in-Some.i c.index-p.result.now c.index_mut.result.now lawful h was c.pop_front.ensures.capacity c.in-Some.ensures c.index_mut.ensures.value (off_at c.args.self.now.places.items c.in-Some.i c.index_mut.result.now c.index.result.now c.in-Some.ensures.inside c.index_mut.ensures.value c.index.ensures c.if-not-index.true) refl refl refl

pub returns : goal.returns
returns g c = λ t lawful h.
    let m : Pipes g.row.W.Denot = record c.args.self.now { busy = c.push_back_reserved.new.self } in
    let was = first_and_rest c.args.self.now.busy.items c.pop_front.new.self.items c.index-p.result.now c.requires c.index-p.ensures c.pop_front.ensures.rest in
    next_busy g.W.Wire.shown c.args.self.now m t c.in-Some.i c.index-p.result.now c.index.result.now c.pop_front.new.self.items h was c.push_back_reserved.ensures.items (c.push_back_reserved.ensures.capacity ∙ c.pop_front.ensures.capacity) c.in-Some.ensures c.index.ensures c.if-not-index.false

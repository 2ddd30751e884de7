use Rattle.std.proofs.Common.{arith, rules, ap, ◌∙◌, sym}
use Rattle.aio_word.proofs.Steps.{races_ok, polls_ok}
use Rattle.aio_word.proofs.CallResults.{call_missed, call_unraced}
use Rattle.std.proofs.Common.{subst}
use Rattle.aio_word.specs.Sight.{Sight}
use Rattle.aio_word.specs.Results.{CallEnded}
use Rattle.aio_word.proofs.calls.Words.race.Goals as goal

pub load-requires : goal.load-requires
load-requires c =
    let w = c.self.invariant in
    let caller = c.seat.invariant in
    let d = c.deref.ensures in
    let wide = ap (λ t. t.shared.table_id.words) d ∙ w.0 in
    let key = ap (λ t. t.shared.key) d ∙ w.1 in
    (search rules, omega arith, polls_ok _ _ _ _ c.args.op.slot caller.1 (omega arith))

pub compare_exchange-found-requires : goal.compare_exchange-found-requires
compare_exchange-found-requires c =
    let w = c.self.invariant in
    let caller = c.seat.invariant in
    let d = c.deref-2.ensures in
    let wide = ap (λ t. t.shared.table_id.words) d ∙ w.0 in
    let key = ap (λ t. t.shared.key) d ∙ w.1 in
    let number = caller.2 in
    (search rules, omega arith, races_ok _ _ _ _ c.args.op.slot c.args.op.generation c.args.to _ _ caller.1 (omega arith) (omega arith) (omega arith) c.requires.end (omega arith) (omega arith))

pub returns-clause-returned : goal.returns-clause-returned
returns-clause-returned c =
    let x = c.compare_exchange-found.ensures.2 in
    let v = c.seat.inside.seat.me.0 in
    let g = c.args.op.generation in
    let n = c.compare_exchange-found.result in
    let w = call_unraced v c.compare_exchange-found.new.seat.me.0 c.args.op.slot _ _ n c.if-found-pending.false (ap (λ m. m.0) x.0) in (
      search rules,
      subst (λ (s : Sight). CallEnded s.view c.args.op c.phase_in.result c.by_in.result c.compare_exchange-found.new.seat.me.0) c.seat.view_is (
          call_missed v c.compare_exchange-found.new.seat.me.0 c.args.op.slot g c.phase_in.result c.by_in.result n (omega arith) (sym c.if-generation_in-op.false ∙ c.generation_in.ensures) c.phase_in.ensures c.by_in.ensures
          (λ e. c.if-found-pending.false (let f = e in omega arith)) w x.1),
    )

use Rattle.std.proofs.Common.{◌≡◌, ℕ, List, ◌<◌, get_or, arith, rules, ap, ◌∙◌, sym, ◌++◌, ◌∷◌, []}
use Rattle.aio_word.specs.declared.phase.Phase.TheVariants.{Pending}
use Rattle.aio_word.specs.Views.{entry}
use Rattle.aio_word.proofs.Steps.{decides_ok}
use Rattle.aio_word.proofs.CallResults.{core_took, core_missed, seen_noted, seen_put}
use Rattle.std.proofs.Common.{subst, true}
use Rattle.aio_word.specs.Sight.{Sight}
use Rattle.aio_word.specs.Word.{is_decided}
use Rattle.aio_word.specs.Results.{CoreTook, CoreSaw, of_op}
use Rattle.aio_word.proofs.calls.Words.decide.Goals as goal

small : (items generations : List ℕ) (i g : ℕ) → ((k : ℕ) → get_or items k 0 < 1099511627776) → generations ≡ items → g ≡ get_or generations i 0 → g < 1099511627776
small items generations i g h e is = let a = h i in let b = ap (λ (l : List ℕ). get_or l i 0) e in omega arith

pub word_with-pending-requires : goal.word_with-pending-requires
word_with-pending-requires c = record { generation = small _ _ _ _ c.core.invariant.4 c.core.invariant.2 (c.requires.name.2 ∙ ap (λ (z : Sight). get_or z.view.generations c.args.op.slot 0) (sym c.core.view_is)); by = omega arith }

pub compare_exchange-found-requires : goal.compare_exchange-found-requires
compare_exchange-found-requires c =
    let w = c.self.invariant in
    let core = c.core.invariant in
    let d = c.deref.ensures in
    let wide = ap (λ t. t.shared.table_id.words) d ∙ w.0 in
    let key = ap (λ t. t.shared.key) d ∙ w.1 in
    let name = c.requires.name in
    let here = name.0 in
    let slots = ap (λ z. z.slots) c.self.view_is in
    (search rules, omega arith, decides_ok _ _ _ _ c.args.op.slot c.args.op.generation c.args.to _ _ core.1 (omega arith) name.1 c.requires.end (omega arith) (omega arith))

pub returns-then-found-pending-clause-returned : goal.returns-then-found-pending-clause-returned
returns-then-found-pending-clause-returned c =
    let x = c.compare_exchange-found.ensures.2 in
    subst (λ (z : Sight). CoreTook z.view c.args.op c.args.to c.compare_exchange-found.new.seat.me.0) c.core.view_is (core_took c.core.inside.seat.me.0 c.compare_exchange-found.new.seat.me.0 c.args.op.slot c.args.op.generation c.args.to c.word_with-pending.result c.word_with-ended.result c.compare_exchange-found.result c.requires.end (omega arith) (omega arith) c.if-found-pending.true (ap (λ m. m.0) x.0) x.1)

pub returns-clause-returned : goal.returns-clause-returned
returns-clause-returned c =
    let x = c.compare_exchange-found.ensures.2 in
    let r = core_missed c.core.inside.seat.me.0 c.compare_exchange-found.new.seat.me.0 c.args.op.slot c.args.op.generation c.phase_in.result c.by_in.result c.word_with-pending.result c.word_with-ended.result c.compare_exchange-found.result (omega arith) c.requires.name.1 ((c.requires.name.2 ∙ ap (λ (z : Sight). get_or z.view.generations c.args.op.slot 0) (sym c.core.view_is)) ∙ sym x.1.current) c.phase_in.ensures c.by_in.ensures c.if-found-pending.false (ap (λ m. m.0) x.0) x.1 in
    let t : (is_decided c.phase_in.result ≡ true) × CoreSaw c.core.inside.seat.me.0 (of_op c.args.op c.phase_in.result c.by_in.result) c.compare_exchange-found.new.seat.me.0 = (r.0, (r.1, r.2)) in
    subst (λ (z : Sight). (is_decided c.phase_in.result ≡ true) × CoreSaw z.view (of_op c.args.op c.phase_in.result c.by_in.result) c.compare_exchange-found.new.seat.me.0) c.core.view_is t

pub returns-then-found-pending-clause-seen : goal.returns-then-found-pending-clause-seen
returns-then-found-pending-clause-seen c =
    let t = returns-then-found-pending-clause-returned c in
    let v = c.args.core.now.view in
    seen_put v c.compare_exchange-found.new.seat.me.0 (entry c.args.op.slot c.args.op.generation c.args.to 0) (v.reads ++ entry c.args.op.slot c.args.op.generation Pending 0 ∷ []) c.requires.name.2 t.1

pub returns-clause-seen : goal.returns-clause-seen
returns-clause-seen c =
    let r = returns-clause-returned c in
    seen_noted c.args.core.now.view c.compare_exchange-found.new.seat.me.0 (entry c.args.op.slot c.args.op.generation c.phase_in.result c.by_in.result) r.1.1.current r.0 r.1.0

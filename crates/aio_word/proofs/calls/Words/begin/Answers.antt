use Rattle.std.proofs.Common.{◌≡◌, ℕ, List, ◌+◌, ◌<◌, get_or, length, arith, rules, ap, ◌∙◌, sym, subst, refl}
use Rattle.aio_word.specs.declared.rule.WordsView.{WordsView}
use Rattle.aio_word.specs.Results.{HasSeen}
use Rattle.aio_word.proofs.Entries.{get_or_any}
use Rattle.aio_word.proofs.Steps.{begins_ok}
use Rattle.aio_word.proofs.calls.Words.begin.Goals as goal

pub store-requires : goal.store-requires
store-requires c =
    let w = c.self.invariant in
    let core = c.core.invariant in
    let d = c.deref.ensures in
    let last : ℕ = c.index-last.result.now in
    let slot : ℕ = c.args.slot in
    let wide = ap (λ t. t.shared.table_id.words) d ∙ w.0 in
    let key = ap (λ t. t.shared.key) d ∙ w.1 in
    let here = c.requires.slot in
    let slots = ap (λ z. z.slots) c.self.view_is in
    let id = ap (λ z. z.id) c.self.view_is in
    let seen_as = ap (λ z. z.view) c.core.view_is in
    let long : slot < length c.core.inside.generations.items = let e = core.3 in let f = ap (λ z. z.words) (ap (λ z. z.words) c.core.view_is ∙ (c.requires.own ∙ sym id)) in omega (arith, w.0) in
    let is : last ≡ get_or c.core.inside.seat.me.0.generations slot 0 =
    c.index-last.ensures ∙ (get_or_any c.core.inside.generations.items slot last 0 long ∙ ap (λ (l : List ℕ). get_or l slot 0) (sym core.2)) in
    (search rules, omega arith, begins_ok _ _ _ _ slot (last + 1) _ core.1 (omega arith) (subst (λ (u : WordsView). HasSeen u slot) (sym seen_as) c.requires.seen) (ap (λ (z : ℕ). z + 1) is) (omega arith))

pub index-last-requires : goal.index-last-requires
index-last-requires c =
    let w = c.self.invariant in
    let core = c.core.invariant in
    let here = c.requires.slot in
    let slots = ap (λ z. z.slots) c.self.view_is in
    let wide = ap (λ z. z.words) (ap (λ z. z.words) c.core.view_is ∙ (c.requires.own ∙ sym (ap (λ z. z.id) c.self.view_is))) in
    let ok = c.core.inside.generations.ok in
    let long = core.3 in omega (arith, w.0)

pub returns-then-last-ge-LAST-clause-begun : goal.returns-then-last-ge-LAST-clause-begun
returns-then-last-ge-LAST-clause-begun c =
    let w = c.self.invariant in
    let core = c.core.invariant in
    let here = c.requires.slot in
    let slots = ap (λ z. z.slots) c.self.view_is in
    let wide = ap (λ z. z.words) (ap (λ z. z.words) c.core.view_is ∙ (c.requires.own ∙ sym (ap (λ z. z.id) c.self.view_is))) in
    let long : c.args.slot < length c.core.inside.generations.items = let e = core.3 in omega (arith, w.0) in
    let is : c.index-last.result.now ≡ get_or c.args.core.now.view.generations c.args.slot 0 =
    c.index-last.ensures ∙ (get_or_any c.core.inside.generations.items c.args.slot c.index-last.result.now 0 long ∙ (ap (λ (l : List ℕ). get_or l c.args.slot 0) (sym core.2) ∙ ap (λ z. get_or z.view.generations c.args.slot 0) c.core.view_is)) in
    let big = c.if-last-ge-LAST.true in
    let small = c.core.invariant.4 c.args.slot in
    let same : get_or c.args.core.now.view.generations c.args.slot 0 ≡ get_or c.core.inside.generations.items c.args.slot 0 = sym (ap (λ (l : List ℕ). get_or l c.args.slot 0) (sym core.2) ∙ ap (λ z. get_or z.view.generations c.args.slot 0) c.core.view_is) in
    (omega arith, refl)

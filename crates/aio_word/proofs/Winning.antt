-- The rule gives that each operation which has ended was won once.
use Rattle.std.proofs.Common.{◌≡◌, ℕ, ◌<◌, List, sym, subst, ap, ◌∙◌, ⊎_elim, inr, arith}
use mathlib.Core.Logic.{dite}
use native.Mathlib.Decide.{ℕ_discrete}
use Rattle.std.specs.Prelude.{slice_index, true}
use Rattle.aio_word.specs.declared.rule.ShownOperation.{ShownOperation}
use Rattle.aio_word.specs.declared.rule.WordsView.{WordsView}
use Rattle.aio_word.specs.declared.rule.SeatRole.{SeatRole}
use Rattle.aio_word.specs.declared.rule.SeatRole.TheVariants.{Core, Spent}
use Rattle.aio_word.specs.Word.{is_decided}
use Rattle.aio_word.specs.Views.{shown, times, Stands}
use Rattle.aio_word.specs.OneWinner.{OneWinner, IsKnownCore, HasCore, HasWins}
use Rattle.aio_word.specs.Winners.{IsJoined, AllSeen, HasOneWinner}
use Rattle.aio_word.proofs.Entries.{some_named}

not_spent : (r : SeatRole) → r ≡ Core → r ≡ Spent → ⊥
not_spent r e s = cc

pub one_winner : (n : ℕ) (v : WordsView) → IsKnownCore n v → HasOneWinner v
one_winner n v known = record {
  named = λ k wins j e st. (
    (λ by. (rule.past_wins v core k wins (at k wins j) e st).1 by),
    (λ w. (rule.only_wins v core k wins (at k wins j) e w).3),
  );
  ended = λ k wins j e d se sd same. rule.agree v core k wins (at k wins j) e d se sd same;
  apart = λ k l wins others j h e d se sd same. rule.apart k l wins others (at k wins j) (at l others h) e d se sd same;
  own = λ k wins j e d se by sd same.
      let is : d ≡ e = rule.agree v core k wins (at k wins j) e d se sd same in
      let o = rule.only_wins v core k wins (at k wins j) d sd in
      let zero : d.by ≡ 0 = ap (λ (x : ShownOperation). x.by) is ∙ by in
      omega (arith, o.3, o.4);
  all = λ seen k wins j e st. seen_end seen k wins j e st;
  read = λ seen e st d. read_end seen e st d;
}
  where
    rule : OneWinner n known.1.0 known.1.1
    rule = known.1.2

    core : HasCore known.1.1 v
    core = (known.1.3, known.0)

    at : (k : ℕ) (wins : List ShownOperation) → IsJoined v k wins → HasWins known.1.1 k wins
    at k wins j = (v, known.1.3, inr (known.0, j))

    seen_end : AllSeen v → (k : ℕ) (wins : List ShownOperation) → IsJoined v k wins → (e : ShownOperation) → Stands e wins → Stands e v.ends
    seen_end seen k wins j e st =
        let begun = (known.1.2.only_wins v (known.1.3, known.0) k wins (v, known.1.3, inr (known.0, j)) e st).0 in
        let long = (known.1.2.generations v (known.1.3, known.0)).0 in
        let here : 0 < times e.slot e.generation v.ends = dite (ℕ_discrete e.generation (slice_index v.generations e.slot))
        (λ z. ⊎_elim (λ (n : slice_index v.generations e.slot ≡ 0). absurd (omega arith))
        (λ (t : 0 < times e.slot (slice_index v.generations e.slot) v.ends). subst (λ (g : ℕ). 0 < times e.slot g v.ends) (sym z) t)
        (seen e.slot (omega arith)))
        (λ z. let p = known.1.2.past v (known.1.3, known.0) e.slot e.generation begun.0 begun.1 (omega arith) in omega arith) in
        let d = some_named e.slot e.generation v.ends here in
        let same = known.1.2.agree v (known.1.3, known.0) k wins (v, known.1.3, inr (known.0, j)) d.0 e d.1 st (sym d.2, sym d.3) in
        subst (λ (y : ShownOperation). Stands y v.ends) (sym same) d.1

    still_shown : AllSeen v → (e : ShownOperation) → e ≡ shown e.slot (slice_index known.1.0 e.slot) → e.slot < n → 0 < e.generation → Stands e v.ends
    still_shown seen e s inside begun =
        let are = known.1.2.generations v (known.1.3, known.0) in
        let gen : e.generation ≡ slice_index v.generations e.slot = ap (λ (x : ShownOperation). x.generation) s ∙ are.1 e.slot inside in
        let here : 0 < times e.slot e.generation v.ends = ⊎_elim (λ (z : slice_index v.generations e.slot ≡ 0). absurd (omega arith))
        (λ (t : 0 < times e.slot (slice_index v.generations e.slot) v.ends). subst (λ (g : ℕ). 0 < times e.slot g v.ends) (sym gen) t)
        (seen e.slot (omega arith)) in
        let o = some_named e.slot e.generation v.ends here in
        let same : o.0 ≡ shown e.slot (slice_index known.1.0 e.slot) = known.1.2.now_ends v (known.1.3, known.0) e.slot inside o.0 o.1 (o.2, o.3 ∙ ap (λ (x : ShownOperation). x.generation) s) in
        subst (λ (y : ShownOperation). Stands y v.ends) (same ∙ sym s) o.1

    read_end : AllSeen v → (e : ShownOperation) → Stands e v.reads → is_decided e.phase ≡ true → Stands e v.ends
    read_end seen e st d =
        let found = known.1.2.reads v (known.1.3, known.0) v known.1.3 (not_spent v.role known.0) e st d in
        ⊎_elim (λ (s : e ≡ shown e.slot (slice_index known.1.0 e.slot)). still_shown seen e s found.0.0 found.0.1) (λ (t : Stands e v.ends). t) found.1

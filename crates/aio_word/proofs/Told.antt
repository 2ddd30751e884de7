-- What a step shows about what it found.
use Rattle.std.proofs.Common.{◌≡◌, ◌≢◌, ℕ, ◌<◌, ◌≤◌, true, false, true≢false, List, refl, sym, ap, ◌∙◌, subst, arith}
use mathlib.Core.Logic.{dite}
use native.Mathlib.Decide.{ℕ_discrete}
use Rattle.aio_word.specs.declared.phase.Phase.{Phase}
use Rattle.aio_word.specs.declared.phase.Phase.TheVariants.{Idle, Pending, Won, Shut, Superseded, SurveyOver, Cancelled, Expired}
use Rattle.aio_word.specs.declared.rule.ShownOperation.{ShownOperation}
use Rattle.aio_word.specs.declared.rule.WordsView.{WordsView}
use Rattle.aio_word.specs.Word.{is_decided, is_core_end, is_call_end}
use Rattle.aio_word.specs.Views.{entry, times, Stands, Each}
use Rattle.aio_word.specs.Rule.{Fate, Lawful, owns, IsEnd, IsRead, IsWins, IsOwner, IsCore, IsCaller}
use Rattle.aio_word.specs.Results.{IsBegun, Agrees, AgreesEnded, IsTold, IsFound, IsSeen}
use Rattle.aio_word.proofs.Entries.{Each-map, Each-at, some_named, owned}

-- two entries of one operation that both give its fate are equal
pub one_entry : (fate : ℕ → ℕ → Fate) (d e : ShownOperation) → fate d.slot d.generation ≡ (d.phase, d.by) → fate e.slot e.generation ≡ (e.phase, e.by) → d.slot ≡ e.slot → d.generation ≡ e.generation → d ≡ e
one_entry fate d e hd he s g =
    let same : fate d.slot d.generation ≡ fate e.slot e.generation = λ k. fate (s k) (g k) in
    let f : (d.phase, d.by) ≡ (e.phase, e.by) = sym hd ∙ (same ∙ he) in
    λ k. entry (s k) (g k) (f k).0 (f k).1

module _ (fate : ℕ → ℕ → Fate) (e : ShownOperation) (is : fate e.slot e.generation ≡ (e.phase, e.by)) where
  agrees_reads : (es : List ShownOperation) → Each (IsRead fate) es → Agrees e es
  agrees_reads es h = Each-map (IsRead fate) (λ d. is_decided d.phase ≡ true → d.slot ≡ e.slot → d.generation ≡ e.generation → d ≡ e) (λ d r t a b. one_entry fate d e (r t) is a b) es h

  agrees_ends : (es : List ShownOperation) → Each (IsEnd fate) es → AgreesEnded e es
  agrees_ends es h = Each-map (IsEnd fate) (λ d. d.slot ≡ e.slot → d.generation ≡ e.generation → (is_decided d.phase ≡ true) × (d ≡ e)) (λ d r a b. (r.0, one_entry fate d e r.1 is a b)) es h

  pub told : (k : ℕ) (wins : List ShownOperation) → IsWins fate k wins → IsTold k wins e
  told k wins r d = (
    (λ by. let one : times e.slot e.generation wins ≡ 1 = r.once e.slot e.generation ∙ (ap (λ (f : Fate). owns f.1 k) is ∙ owned e.by k by) in
        let s = some_named e.slot e.generation wins (omega arith) in
        let t = Each-at (λ (z : ShownOperation). IsEnd fate z × (z.by ≡ k)) wins s.0 s.1 r.ends in
        subst (λ (z : ShownOperation). Stands z wins) (one_entry fate s.0 e t.0.1 is s.2 s.3) s.1),
    (λ s. (Each-at (λ (z : ShownOperation). IsEnd fate z × (z.by ≡ k)) wins e s r.ends).1),
  )

  pub found : (seat : ℕ → ℕ) (made at n : ℕ) (generation : ℕ → ℕ) (v : WordsView) → IsCore fate seat made at n generation v → e.slot < n → e.generation ≡ generation e.slot → IsBegun e → (fate e.slot e.generation).1 ≤ made → IsFound v e
  found seat made at n generation v c inside now begun few = record {
    current = now ∙ sym (c.generations e.slot inside);
    begun = begun;
    reads = agrees_reads v.reads c.reads;
    ends = agrees_ends v.ends c.ends;
    kept = Each-map (λ k. IsOwner fate seat made at k.number k.wins) (λ k. IsTold k.number k.wins e) (λ k r. told k.number k.wins r.wins_are) v.kept c.kept;
    own = λ d z.
        let one : times e.slot e.generation v.ends ≡ 1 = c.own e.slot e.generation (ap (λ (f : Fate). is_decided f.0) is ∙ d) (ap (λ (f : Fate). f.1) is ∙ z) in
        omega (arith, one);
    made = let b : (fate e.slot e.generation).1 ≡ e.by = ap (λ (f : Fate). f.1) is in omega (arith, few, b, c.made_is);
  }

  pub seen : (seat : ℕ → ℕ) (made at n : ℕ) (v : WordsView) → IsCaller fate seat made at n v → IsBegun e → IsSeen v e
  seen seat made at n v c begun = record { begun = begun; told = told v.number v.wins c.owner.wins_are }

pub core_end : (p : Phase) → is_core_end p ≡ true → (is_decided p ≡ true) × Lawful p 0 × (p ≢ Idle)
core_end Idle h = absurd (true≢false (sym h))
core_end Pending h = absurd (true≢false (sym h))
core_end Won h = (refl, refl, λ e. cc)
core_end Shut h = (refl, refl, λ e. cc)
core_end Superseded h = (refl, refl, λ e. cc)
core_end SurveyOver h = (refl, refl, λ e. cc)
core_end Cancelled h = absurd (true≢false (sym h))
core_end Expired h = absurd (true≢false (sym h))

pub call_end : (p : Phase) (k : ℕ) → is_call_end p ≡ true → 0 < k → k < 65536 → (is_decided p ≡ true) × Lawful p k × (p ≢ Idle)
call_end Idle k h a b = absurd (true≢false (sym h))
call_end Pending k h a b = absurd (true≢false (sym h))
call_end Won k h a b = absurd (true≢false (sym h))
call_end Shut k h a b = absurd (true≢false (sym h))
call_end Superseded k h a b = absurd (true≢false (sym h))
call_end SurveyOver k h a b = absurd (true≢false (sym h))
call_end Cancelled k h a b = (refl, (a, b), λ e. cc)
call_end Expired k h a b = (refl, (a, b), λ e. cc)

-- an operation that is pending is in no ends
pub unended : (v : WordsView) (e : ShownOperation) → is_decided e.phase ≡ false → IsFound v e → times e.slot e.generation v.ends ≡ 0
unended v e still_open f = dite (ℕ_discrete (times e.slot e.generation v.ends) 0) (λ z. z)
    (λ some. let s = some_named e.slot e.generation v.ends (omega arith) in
    let t = Each-at (λ (d : ShownOperation). d.slot ≡ e.slot → d.generation ≡ e.generation → (is_decided d.phase ≡ true) × (d ≡ e)) v.ends s.0 s.1 f.ends s.2 s.3 in
    absurd (true≢false (sym t.0 ∙ (ap (λ (d : ShownOperation). is_decided d.phase) t.1 ∙ still_open))))

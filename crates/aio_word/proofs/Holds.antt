-- The rule with its fates gives what is true of the words and of all seats.
use Rattle.std.proofs.Common.{◌≡◌, ◌≢◌, ◌⊎◌, ◌↔◌, ℕ, ◌<◌, ◌≤◌, true, false, true≢false, List, get_or, set, refl, sym, ap, ◌∙◌, subst, ⊎_elim, inl, inr, arith}
use mathlib.Core.Logic.{dite}
use mathlib.Core.Option.{some, some-injective}
use native.Mathlib.Decide.{ℕ_discrete, dec_le}
use lib.ListN.{get_elem?}
use Rattle.atomic_table.proofs.Lists.{set_here}
use Rattle.aio_word.specs.declared.phase.Phase.{Phase}
use Rattle.aio_word.specs.declared.phase.Phase.TheVariants.{Idle}
use Rattle.aio_word.specs.declared.rule.ShownOperation.{ShownOperation}
use Rattle.aio_word.specs.declared.rule.JoinedWins.{JoinedWins}
use Rattle.aio_word.specs.declared.rule.SeatRole.{SeatRole}
use Rattle.aio_word.specs.declared.rule.SeatRole.TheVariants.{Core, Caller, Note, Spent}
use Rattle.aio_word.specs.declared.rule.WordsView.{WordsView}
use Rattle.aio_word.specs.Word.{is_decided}
use Rattle.aio_word.specs.Views.{shown, times, Stands, Each}
use Rattle.aio_word.specs.Rule.{Fate, Lawful, owns, IsEnd, IsRead, IsOwner, IsKept, IsCore, IsCaller, Knows, Ruled}
use Rattle.aio_word.specs.OneWinner.{HasCore, HasWins, WasBegun, OneWinner, IsKnown}
use Rattle.aio_word.proofs.Entries.{Each-at, some_named, owned, disowned}
use Rattle.aio_word.proofs.Decode.{core_by}
use Rattle.aio_word.proofs.Told.{one_entry}
use Rattle.aio_word.proofs.Changes.{St, now, shows_now}
use Rattle.aio_word.proofs.Holders.{at_length}

module _ (n : ℕ) (s : St) (r : Ruled n s) where
  word : ℕ → ℕ
  word i = get_or s.words i 0

  core_of : (c : WordsView) → (h : HasCore s.views c) → IsCore r.fate r.seat r.made h.0.0 n r.generation c
  core_of c h = subst (λ (p : SeatRole). Knows r.fate r.seat r.made h.0.0 n r.generation p c) h.1 (r.views h.0.0 c h.0.1)

  owner_of : (k : ℕ) (wins : List ShownOperation) (h : HasWins s.views k wins) → IsOwner r.fate r.seat r.made h.1.0 k wins
  owner_of k wins h = ⊎_elim
      (λ (t : (h.0.role ≡ Caller) × (h.0.number ≡ k) × (h.0.wins ≡ wins)).
      let c : IsCaller r.fate r.seat r.made h.1.0 n h.0 = subst (λ (p : SeatRole). Knows r.fate r.seat r.made h.1.0 n r.generation p h.0) t.0 (r.views h.1.0 h.0 h.1.1) in
      subst (λ (z : ℕ × List ShownOperation). IsOwner r.fate r.seat r.made h.1.0 z.0 z.1) (λ i. (t.1 i, t.2 i)) c.owner)
      (λ (t : (h.0.role ≡ Core) × Stands (let x : JoinedWins = record { number = k; wins = wins } in x) h.0.kept).
      Each-at (λ (q : JoinedWins). IsOwner r.fate r.seat r.made h.1.0 q.number q.wins) h.0.kept (record { number = k; wins = wins }) t.1 (core_of h.0 (h.1, t.0)).kept)
      h.2

  module _ (i : ℕ) (inside : i < n) where
    abbrev e : ShownOperation
    e = shown i (get_or s.words i 0)

    is_now : e ≡ now n s r i
    is_now = shows_now n s r i inside

    current : e.generation ≡ r.generation i
    current = ap (λ (z : ShownOperation). z.generation) is_now

    truth : r.fate i e.generation ≡ (e.phase, e.by)
    truth = subst (λ (z : ShownOperation). r.fate i z.generation ≡ (z.phase, z.by)) (sym is_now) refl

    lawful : Lawful e.phase e.by
    lawful = subst (λ (z : ShownOperation). Lawful z.phase z.by) (sym is_now) (r.lawful i (r.generation i))

    idle : (e.phase ≡ Idle) ↔ (e.generation ≡ 0)
    idle = (
      (λ p. dite (ℕ_discrete e.generation 0) (λ z. z) (λ z. absurd (r.begun i e.generation (omega arith) (let c = current in omega arith) (ap (λ (f : Fate). f.0) truth ∙ p)))),
      (λ z. ap (λ (f : Fate). f.0) (sym truth ∙ (ap (r.fate i) z ∙ r.idle i))),
    )

  -- an operation that has ended was begun
  placed : (i g : ℕ) → is_decided (r.fate i g).0 ≡ true → (i < n) × (0 < g) × (g ≤ r.generation i)
  placed i g d =
      let low : 0 < g = dite (ℕ_discrete g 0) (λ z. absurd (clash (ap (r.fate i) z ∙ r.idle i))) (λ z. let p : 0 < g = omega arith in p) in
      let high : g ≤ r.generation i = dite (dec_le g (r.generation i)) (λ z. z) (λ z. absurd (clash (r.unbegun i g (omega arith)))) in
      let inside : i < n = dite (dec_le n i) (λ z. let b = r.beyond i z in absurd (omega arith)) (λ z. let p : i < n = omega arith in p) in
      (inside, low, high)
    where
      clash : r.fate i g ≡ (Idle, 0) → ⊥
      clash is = true≢false (sym d ∙ ap (λ (f : Fate). is_decided f.0) is)

  was_begun : (c : WordsView) → HasCore s.views c → (x : ShownOperation) → is_decided x.phase ≡ true → r.fate x.slot x.generation ≡ (x.phase, x.by) → WasBegun n c x
  was_begun c h x d is = let p = placed x.slot x.generation (ap (λ (f : Fate). is_decided f.0) is ∙ d) in let g = (core_of c h).generations x.slot p.0 in (p.0, p.1, let q = p.2 in omega arith)

  fate_lawful : (x : ShownOperation) → r.fate x.slot x.generation ≡ (x.phase, x.by) → Lawful x.phase x.by
  fate_lawful x is = subst (λ (f : Fate). Lawful f.0 f.1) is (r.lawful x.slot x.generation)

  -- an operation in a list of ends is there with its own end
  stands_as : (P : ShownOperation → Type 0) (es : List ShownOperation) (x : ShownOperation) → ((y : ShownOperation) → P y → r.fate y.slot y.generation ≡ (y.phase, y.by)) → Each P es → r.fate x.slot x.generation ≡ (x.phase, x.by) → 0 < times x.slot x.generation es → Stands x es
  stands_as P es x f all is there = let t = some_named x.slot x.generation es there in subst (λ (z : ShownOperation). Stands z es) (one_entry r.fate t.0 x (f t.0 (Each-at P es t.0 t.1 all)) is t.2 t.3) t.1

  wins_stands : (k : ℕ) (wins : List ShownOperation) → HasWins s.views k wins → (x : ShownOperation) → r.fate x.slot x.generation ≡ (x.phase, x.by) → (times x.slot x.generation wins ≡ owns x.by k) × (x.by ≡ k → Stands x wins)
  wins_stands k wins h x is =
      let o = (owner_of k wins h).wins_are in
      let n' : times x.slot x.generation wins ≡ owns x.by k = o.once x.slot x.generation ∙ ap (λ (f : Fate). owns f.1 k) is in
      (n', λ by. stands_as (λ y. IsEnd r.fate y × (y.by ≡ k)) wins x (λ y p. p.0.1) o.ends is (let a = n' ∙ owned x.by k by in omega arith))

  ends_stands : (c : WordsView) → HasCore s.views c → (x : ShownOperation) → r.fate x.slot x.generation ≡ (x.phase, x.by) → 0 < times x.slot x.generation c.ends → Stands x c.ends
  ends_stands c h x is there = stands_as (IsEnd r.fate) c.ends x (λ y p. p.1) (core_of c h).ends is there

  end_of : (c : WordsView) → HasCore s.views c → (x : ShownOperation) → Stands x c.ends → IsEnd r.fate x
  end_of c h x st = Each-at (IsEnd r.fate) c.ends x st (core_of c h).ends

  reads_of : (j : ℕ) (v : WordsView) (p : SeatRole) → v.role ≡ p → p ≢ Spent → Knows r.fate r.seat r.made j n r.generation p v → Each (IsRead r.fate) v.reads
  reads_of j v Core is other c = c.reads
  reads_of j v Caller is other c = c.reads
  reads_of j v Note is other c = c
  reads_of j v Spent is other c = absurd (other refl)

  -- an operation that is open is in no ends
  open_ends_of : (c : WordsView) → HasCore s.views c → (i g : ℕ) → is_decided (r.fate i g).0 ≡ false → times i g c.ends ≡ 0
  open_ends_of c h i g o = dite (ℕ_discrete (times i g c.ends) 0) (λ z. z)
      (λ there. let t = some_named i g c.ends (omega arith) in
      let p = end_of c h t.0 t.1 in
      absurd (true≢false (sym (subst (λ (z : ℕ × ℕ). is_decided (r.fate z.0 z.1).0 ≡ true) (λ k. (t.2 k, t.3 k)) (ap (λ (f : Fate). is_decided f.0) p.1 ∙ p.0)) ∙ o)))

  core_there : (c : WordsView) × HasCore s.views c
  core_there = let h = r.held 0 (omega arith) in ⊎_elim
      (λ (t : (h.0.role ≡ Core) × ((0 ≡ 0) ⊎ IsKept 0 h.0.kept)). (h.0, ((r.seat 0, h.1), t.0)))
      (λ (t : (h.0.role ≡ Caller) × (h.0.number ≡ 0) × (0 < 0)). let z = t.2 in absurd (omega arith))
      h.2

  wins_there : (k : ℕ) → 0 < k → k ≤ r.made → (wins : List ShownOperation) × HasWins s.views k wins
  wins_there k pos small = let h = r.held k small in ⊎_elim
      (λ (t : (h.0.role ≡ Core) × ((k ≡ 0) ⊎ IsKept k h.0.kept)). ⊎_elim
      (λ (z : k ≡ 0). absurd (omega arith))
      (λ (q : IsKept k h.0.kept). (q.0, (h.0, (r.seat k, h.1), inr (t.0, q.1))))
      t.1)
      (λ (t : (h.0.role ≡ Caller) × (h.0.number ≡ k) × (0 < k)). (h.0.wins, (h.0, (r.seat k, h.1), inl (t.0, t.1, refl))))
      h.2

  open_by : (p : Phase) (b : ℕ) → Lawful p b → is_decided p ≡ false → b ≡ 0
  open_by p b l o = core_by p b l o

  pub holds : OneWinner n s.words s.views
  holds = record {
    wide = r.wide;
    core = core_there;
    one_core = λ c d h g. some-injective c d (sym h.0.1 ∙ (ap (λ (z : ℕ). get_elem? s.views z) (sym (core_of c h).here ∙ (core_of d g).here) ∙ g.0.1));
    all_wins = λ c h k pos small. wins_there k pos (let m = (core_of c h).made_is in omega arith);
    generations = λ c h. let k = core_of c h in (k.long, λ i inside. current i inside ∙ sym (k.generations i inside));
    idle = idle;
    lawful = lawful;
    open_ends = λ c h i inside o. open_ends_of c h i (e i inside).generation (ap (λ (f : Fate). is_decided f.0) (truth i inside) ∙ o);
    open_wins = λ k wins h i inside o. let w = wins_stands k wins h (e i inside) (truth i inside) in let p = (owner_of k wins h).number.0 in
        w.0 ∙ disowned (e i inside).by k (λ z. let b = open_by (e i inside).phase (e i inside).by (lawful i inside) o in omega arith);
    core_ends = λ c h i inside d b. let t = truth i inside in
        let one = (core_of c h).own i (e i inside).generation (ap (λ (f : Fate). is_decided f.0) t ∙ d) (ap (λ (f : Fate). f.1) t ∙ b) in
        (one, ends_stands c h (e i inside) t (omega arith));
    now_wins = λ k wins h i inside _. wins_stands k wins h (e i inside) (truth i inside);
    once = λ c h. (core_of c h).once;
    now_ends = λ c h i inside x st same. one_entry r.fate x (e i inside) (end_of c h x st).1 (truth i inside) same.0 same.1;
    past = λ c h i g inside p q. let k = core_of c h in k.past i g inside p (let a = k.generations i inside in omega arith);
    past_wins = λ c h k wins w x st. wins_stands k wins w x (end_of c h x st).1;
    agree = λ c h k wins w x y sx sy same. one_entry r.fate y x (Each-at (λ (z : ShownOperation). IsEnd r.fate z × (z.by ≡ k)) wins y sy (owner_of k wins w).wins_are.ends).0.1 (end_of c h x sx).1 same.0 same.1;
    only_ends = λ c h x st. let p = end_of c h x st in (was_begun c h x p.0 p.1, p.0, fate_lawful x p.1);
    only_wins = λ c h k wins w x st. let o = owner_of k wins w in let p = Each-at (λ (y : ShownOperation). IsEnd r.fate y × (y.by ≡ k)) wins x st o.wins_are.ends in
        (was_begun c h x p.0.0 p.0.1, p.0.0, fate_lawful x p.0.1, p.1, o.number.0);
    apart = λ k l wins others w o x y sx sy same.
        let p = Each-at (λ (z : ShownOperation). IsEnd r.fate z × (z.by ≡ k)) wins x sx (owner_of k wins w).wins_are.ends in
        let q = Each-at (λ (z : ShownOperation). IsEnd r.fate z × (z.by ≡ l)) others y sy (owner_of l others o).wins_are.ends in
        sym p.1 ∙ (ap (λ (z : ShownOperation). z.by) (sym (one_entry r.fate y x q.0.1 p.0.1 same.0 same.1)) ∙ q.1);
    numbers = λ c h i inside.
        let few = r.numbers i (e i inside).generation in
        let by : (r.fate i (e i inside).generation).1 ≡ (e i inside).by = ap (λ (f : Fate). f.1) (truth i inside) in
        let made : c.made ≡ r.made = (core_of c h).made_is in
        omega arith;
    end_numbers = λ c h x st.
        let few = r.numbers x.slot x.generation in
        let by : (r.fate x.slot x.generation).1 ≡ x.by = ap (λ (f : Fate). f.1) (end_of c h x st).1 in
        let made : c.made ≡ r.made = (core_of c h).made_is in
        omega arith;
    reads = λ c h v hv other x st d.
        let is = Each-at (IsRead r.fate) v.reads x st (reads_of hv.0 v v.role refl other (r.views hv.0 v hv.1)) d in
        let b = was_begun c h x d is in (
          b,
          dite (ℕ_discrete x.generation (r.generation x.slot))
              (λ z. inl (one_entry r.fate x (e x.slot b.0) is (truth x.slot b.0) refl (z ∙ sym (current x.slot b.0))))
              (λ z. inr (ends_stands c h x is (let k = core_of c h in let g = k.generations x.slot b.0 in let q = k.past x.slot x.generation b.0 b.1 (let y = b.2 in omega arith) in omega arith))),
        );
  }

-- after a step the rule is known of the seat's view
pub known : (n : ℕ) (s : St) (words : List ℕ) (id : ℕ) (v w : WordsView) → v.slots ≡ n → get_elem? s.views id ≡ some v → Ruled n record { words = words; homes = s.homes; views = set s.views id w } → IsKnown v.slots w
known n s words id v w slots at r = subst (λ (m : ℕ). IsKnown m w) (sym slots) (words, set s.views id w, holds n record { words = words; homes = s.homes; views = set s.views id w } r, (id, set_here s.views id w (at_length s.views id v at)))

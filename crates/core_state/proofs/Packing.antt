-- Empty places are removed, from the front.
use Rattle.std.proofs.Common.{◌≡◌, refl, ap, sym, ◌∙◌, subst, List, [], ◌∷◌, ◌++◌, append_assoc, append-nil, ℕ, suc, ◌-◌, ◌<◌, ◌≤◌, Bool, true, false, arith, length, Some, None}
use Rattle.std.specs.Prelude.{◌==◌, ◌||◌, Option}
use Rattle.std.proofs.lemmas.List.{map-append}
use Rattle.std.specs.List.{All}
use Rattle.std.proofs.lemmas.List.Elements.{All-push}
use Rattle.sp_history.specs.declared.entry.Entry.{Entry}
use Rattle.sp_history.specs.Lists.{has}
use Rattle.core_state.specs.declared.pipes.PipePlace.{PipePlace}
use Rattle.core_state.specs.Pipes.{UpPipe, numbers, held, before_others, up_pipe, HasLimit, IsRising}
use Rattle.core_state.proofs.PipesInOrder.{held_more}

-- of the former places, some are left to be looked at, and these are kept
abbrev pub PackedTo : {W : Type 0} → List (PipePlace W) → List (PipePlace W) → ℕ → Type 0
PackedTo {W = W} old now left =
    (rest kept : List (PipePlace W)) × (now ≡ rest ++ kept) × (length rest ≡ left) × (held old ≡ held kept ++ held rest) × ((q : ℕ) → IsRising (numbers old ++ q ∷ []) → IsRising (numbers kept ++ (numbers rest ++ q ∷ [])))

more_in : (xs ys : List ℕ) (p y : ℕ) → has (xs ++ ys) y ≡ true → has (xs ++ p ∷ ys) y ≡ true
more_in [] ys p y e = go (p == y)
  where
    go : (b : Bool) → (b || has ys y) ≡ true
    go true = refl
    go false = e
more_in (x ∷ xs) ys p y e = go (x == y) e (more_in xs ys p y)
  where
    go : (b : Bool) → (b || has (xs ++ ys) y) ≡ true → (has (xs ++ ys) y ≡ true → has (xs ++ p ∷ ys) y ≡ true) → (b || has (xs ++ p ∷ ys) y) ≡ true
    go true m again = refl
    go false m again = again m

rising_less : (xs : List ℕ) (p : ℕ) (ys : List ℕ) → IsRising (xs ++ p ∷ ys) → IsRising (xs ++ ys)
rising_less [] p ys h = h.1
rising_less (x ∷ xs) p ys h = (λ y e. h.0 y (more_in xs ys p y e), rising_less xs p ys h.1)

pub packs_none : {W : Type 0} (xs : List (PipePlace W)) (n : ℕ) → n ≡ length xs → PackedTo xs xs n
packs_none xs n e = (xs, [], sym (append-nil xs), sym e, refl, λ q h. h)

-- each place that is left has its limit
abbrev pub KeepsLimits : {W : Type 0} → List (PipePlace W) → List (PipePlace W) → Type 0
KeepsLimits old now = (before : List Entry) → All (HasLimit before) old → All (HasLimit before) now

pub limits_moved : {W : Type 0} (old now tail : List (PipePlace W)) (x : PipePlace W) (o : Option W) → KeepsLimits old now → now ≡ x ∷ tail → KeepsLimits old (tail ++ record x { wire = o } ∷ [])
limits_moved old now tail x o h at before all =
    let every : All (HasLimit before) (x ∷ tail) = subst (All (HasLimit before)) at (h before all) in
    let own : HasLimit before x = every 0 x (omega arith) in
    All-push (HasLimit before) tail (record x { wire = o }) (λ k d m. every (suc k) d (omega (arith, m))) own

pub limits_left : {W : Type 0} (old now tail : List (PipePlace W)) (x : PipePlace W) → KeepsLimits old now → now ≡ x ∷ tail → KeepsLimits old tail
limits_left old now tail x h at before all = λ k d m.
    let every : All (HasLimit before) (x ∷ tail) = subst (All (HasLimit before)) at (h before all) in
    every (suc k) d (omega (arith, m))

module _ {W : Type 0} where
  -- the next place holds a pipe
  pub packs_some : (old now tail : List (PipePlace W)) (n : ℕ) (x : PipePlace W) (w : W) → PackedTo old now n → 0 < n → now ≡ x ∷ tail → x.wire ≡ Some w → PackedTo old (tail ++ record x { wire = Some w } ∷ []) (n - 1)
  packs_some old now tail n x w h some at holds = go h.0 h.2 h.3 h.4 h.5
    where
      y : PipePlace W
      y = record x { wire = Some w }

      same : x ≡ y
      same = ap (λ (o : Option W). let z : PipePlace W = record x { wire = o } in z) holds

      go : (rest : List (PipePlace W)) → now ≡ rest ++ h.1 → length rest ≡ n → held old ≡ held h.1 ++ held rest → ((q : ℕ) → IsRising (numbers old ++ q ∷ []) → IsRising (numbers h.1 ++ (numbers rest ++ q ∷ []))) → PackedTo old (tail ++ y ∷ []) (n - 1)
      go [] is long us rise = absurd (omega (arith, long, some))
      go (r ∷ rest) is long us rise =
          let both : x ∷ tail ≡ r ∷ (rest ++ h.1) = sym at ∙ is in
          let first : x ≡ r = cc in
          let others : tail ≡ rest ++ h.1 = cc in
          let it : r ≡ y = sym first ∙ same in (
            rest,
            h.1 ++ y ∷ [],
            ap (λ (xs : List (PipePlace W)). xs ++ y ∷ []) others ∙ append_assoc rest h.1 (y ∷ []),
            omega (arith, long),
            us ∙ ap (λ (z : PipePlace W). held h.1 ++ held (z ∷ rest)) it ∙ sym (append_assoc (held h.1) (up_pipe y w ∷ []) (held rest)) ∙ ap (λ (us : List (UpPipe W)). us ++ held rest) (sym (held_more h.1 y w refl)),
            λ q k. subst IsRising (ap (λ (z : PipePlace W). numbers h.1 ++ (z.id ∷ (numbers rest ++ q ∷ []))) it ∙ sym (append_assoc (numbers h.1) (x.id ∷ []) (numbers rest ++ q ∷ [])) ∙ ap (λ (ns : List ℕ). ns ++ (numbers rest ++ q ∷ [])) (sym (map-append (λ (z : PipePlace W). z.id) h.1 (y ∷ [])))) (rise q k),
          )

  -- the next place is empty
  pub packs_empty : (old now tail : List (PipePlace W)) (n : ℕ) (x : PipePlace W) → PackedTo old now n → 0 < n → now ≡ x ∷ tail → x.wire ≡ None → PackedTo old tail (n - 1)
  packs_empty old now tail n x h some at empty = go h.0 h.2 h.3 h.4 h.5
    where
      go : (rest : List (PipePlace W)) → now ≡ rest ++ h.1 → length rest ≡ n → held old ≡ held h.1 ++ held rest → ((q : ℕ) → IsRising (numbers old ++ q ∷ []) → IsRising (numbers h.1 ++ (numbers rest ++ q ∷ []))) → PackedTo old tail (n - 1)
      go [] is long us rise = absurd (omega (arith, long, some))
      go (r ∷ rest) is long us rise =
          let both : x ∷ tail ≡ r ∷ (rest ++ h.1) = sym at ∙ is in
          let first : x ≡ r = cc in
          let others : tail ≡ rest ++ h.1 = cc in
          let none : r.wire ≡ None = ap (λ (z : PipePlace W). z.wire) (sym first) ∙ empty in
          (rest, h.1, others, omega (arith, long), us ∙ ap (λ (o : Option W). held h.1 ++ before_others r o (held rest)) none, λ q k. rising_less (numbers h.1) r.id (numbers rest ++ q ∷ []) (rise q k))

  -- all were looked at
  pub packs_all : (old now : List (PipePlace W)) (n : ℕ) → PackedTo old now n → n ≤ 0 → (held now ≡ held old) × ((q : ℕ) → IsRising (numbers old ++ q ∷ []) → IsRising (numbers now ++ q ∷ []))
  packs_all old now n h none = go h.0 h.2 h.3 h.4 h.5
    where
      go : (rest : List (PipePlace W)) → now ≡ rest ++ h.1 → length rest ≡ n → held old ≡ held h.1 ++ held rest → ((q : ℕ) → IsRising (numbers old ++ q ∷ []) → IsRising (numbers h.1 ++ (numbers rest ++ q ∷ []))) → (held now ≡ held old) × ((q : ℕ) → IsRising (numbers old ++ q ∷ []) → IsRising (numbers now ++ q ∷ []))
      go [] is long us rise = (ap held is ∙ sym (append-nil (held h.1)) ∙ sym us, λ q k. subst (λ (xs : List (PipePlace W)). IsRising (numbers xs ++ q ∷ [])) (sym is) (rise q k))
      go (r ∷ rest) is long us rise = absurd (omega (arith, long, none))

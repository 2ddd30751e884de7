-- Callers that acted, in the history of their lock.
use Rattle.std.proofs.Common.{◌≡◌, ℕ, zero, suc, ◌+◌, ◌≤◌, ◌==◌, ◌⊎◌, inl, inr, ⊎_elim, List, [], ◌∷◌, ◌++◌, length, Option, cond, Bool, refl, sym, ap, ◌∙◌, subst, arith, append-nil, append_assoc, length-append, eq-eqb}
use Rattle.std.proofs.lemmas.List.Elements.{filter-append, All-head, All-tail}
use Rattle.atomic_table.specs.Seated.{TableId}
use Rattle.turn_lock.specs.declared.turn.Turn.{Turn}
use Rattle.turn_lock.specs.History.{turns_of, IsByCallers}
use Rattle.turn_lock.specs.Passes.{TurnPassView, IsReady, IsSameCaller, OwnTurn, FitsIn, new_pass}
use Rattle.turn_lock.proofs.Keeps.{nothing_more}
use Rattle.ex_turn_lock.specs.declared.setting.MachineLabel.{MachineLabel}
use Rattle.ex_turn_lock.specs.Acts.{Acted, ReturnsInOrder, RepliesTo}

one_or_two : (n : ℕ) → 1 ≤ n → n ≤ 2 → (n ≡ 1) ⊎ (n ≡ 2)
one_or_two zero low high = absurd (omega arith)
one_or_two (suc zero) low high = inl refl
one_or_two (suc (suc zero)) low high = inr refl
one_or_two (suc (suc (suc n))) low high = absurd (omega arith)

one_to_three : (n : ℕ) → 1 ≤ n → n ≤ 3 → (n ≡ 1) ⊎ ((n ≡ 2) ⊎ (n ≡ 3))
one_to_three zero low high = absurd (omega arith)
one_to_three (suc zero) low high = inl refl
one_to_three (suc (suc zero)) low high = inr (inl refl)
one_to_three (suc (suc (suc zero))) low high = inr (inr refl)
one_to_three (suc (suc (suc (suc n)))) low high = absurd (omega arith)

module _ {A : Type 0} where
  pub nil_or : (x : A) (xs ys : List A) → xs ++ x ∷ ys ≡ [] → ⊥
  nil_or x [] ys e = cc
  nil_or x (z ∷ zs) ys e = cc

  -- an element of two appended lists is in the first or in the second
  pub stands_in : (xs ys prefix : List A) (t : A) (rest : List A) → xs ++ ys ≡ prefix ++ t ∷ rest
      → ((more : List A) × (xs ≡ prefix ++ t ∷ more)) ⊎ ((less : List A) × (prefix ≡ xs ++ less) × (ys ≡ less ++ t ∷ rest))
  stands_in [] ys prefix t rest e = inr (prefix, refl, e)
  stands_in (x ∷ xs) ys [] t rest e = let f : x ≡ t = cc in inl (xs, ap (λ (z : A). z ∷ xs) f)
  stands_in (x ∷ xs) ys (z ∷ zs) t rest e = let f : x ≡ z = cc in let g : xs ++ ys ≡ zs ++ t ∷ rest = cc in
      ⊎_elim
      (λ (h : (more : List A) × (xs ≡ zs ++ t ∷ more)). inl (h.0, (λ i. f i ∷ h.1 i)))
      (λ (h : (less : List A) × (zs ≡ xs ++ less) × (ys ≡ less ++ t ∷ rest)). inr (h.0, (λ i. sym f i ∷ h.1 i), h.2))
      (stands_in xs ys zs t rest g)

  pub only_one : (less rest : List A) (u t : A) → u ∷ [] ≡ less ++ t ∷ rest → (less ≡ []) × (u ≡ t)
  only_one [] rest u t e = (refl, cc)
  only_one (z ∷ zs) rest u t e = let f : [] ≡ zs ++ t ∷ rest = cc in absurd (nil_or t zs rest (sym f))

module _ {E : Type 0} where
  turns_own : (n : ℕ) (t : Turn E) → t.number ≡ n → turns_of n (t ∷ []) ≡ t ∷ []
  turns_own n t e = ap (λ (b : Bool). cond b (t ∷ []) []) (eq-eqb t.number n e)

  turns_split : (n : ℕ) (xs ys : List (Turn E)) → turns_of n (xs ++ ys) ≡ turns_of n xs ++ turns_of n ys
  turns_split n xs ys = filter-append (λ (t : Turn E). t.number == n) xs ys

  -- where there are no turns of a number, none of them has it
  pub none_there : (n : ℕ) (past prefix rest : List (Turn E)) (t : Turn E) → turns_of n past ≡ [] → past ≡ prefix ++ t ∷ rest → t.number ≡ n → ⊥
  none_there n past prefix rest t none is e =
      let all : turns_of n (prefix ++ t ∷ rest) ≡ [] = sym (ap (turns_of n) is) ∙ none in
      let prefix_is = turns_split n prefix (t ∷ rest) in
      let here : turns_of n (t ∷ rest) ≡ t ∷ turns_of n rest = ap (λ (b : Bool). cond b (t ∷ turns_of n rest) (turns_of n rest)) (eq-eqb t.number n e) in
      nil_or t (turns_of n prefix) (turns_of n rest) (ap (λ (l : List (Turn E)). turns_of n prefix ++ l) (sym here) ∙ (sym prefix_is ∙ all))

  -- a caller's turns, and one more
  turns_more : (n : ℕ) (past between : List (Turn E)) (t : Turn E) → turns_of n between ≡ [] → t.number ≡ n → turns_of n (past ++ (between ++ t ∷ [])) ≡ turns_of n past ++ t ∷ []
  turns_more n past between t none e = turns_split n past (between ++ t ∷ []) ∙ ap (λ (l : List (Turn E)). turns_of n past ++ l) (turns_split n between (t ∷ []) ∙ ((λ i. none i ++ turns_own n t e i)))

  turns_same : (n : ℕ) (past between : List (Turn E)) → turns_of n between ≡ [] → turns_of n (past ++ between) ≡ turns_of n past
  turns_same n past between none = turns_split n past between ∙ (ap (λ (l : List (Turn E)). turns_of n past ++ l) none ∙ append-nil (turns_of n past))

  returned_more : (says : ℕ → List (Turn E) → Turn E → Type 0) (n k : ℕ) (before past between : List (Turn E)) (t : Turn E) → ReturnsInOrder says n before past → length (turns_of n past) ≡ k → turns_of n between ≡ []
      → says k (before ++ (past ++ between)) t → ReturnsInOrder says n before (past ++ (between ++ t ∷ []))
  returned_more says n k before past between t so_far turns none new prefix u rest is e = ⊎_elim
      (λ (h : (more : List (Turn E)) × (past ≡ prefix ++ u ∷ more)). so_far prefix u h.0 h.1 e)
      (λ (h : (less : List (Turn E)) × (prefix ≡ past ++ less) × (between ++ t ∷ [] ≡ less ++ u ∷ rest)). ⊎_elim
      (λ (g : (more : List (Turn E)) × (between ≡ h.0 ++ u ∷ more)). absurd (none_there n between h.0 g.0 u none g.1 e))
      (λ (g : (less : List (Turn E)) × (h.0 ≡ between ++ less) × (t ∷ [] ≡ less ++ u ∷ rest)).
      let last = only_one g.0 rest t u g.2 in
      let whole : prefix ≡ past ++ between = h.1 ∙ ap (λ (l : List (Turn E)). past ++ l) (g.1 ∙ (ap (λ (l : List (Turn E)). between ++ l) last.0 ∙ append-nil between)) in
      let count : length (turns_of n prefix) ≡ k = ap (λ (l : List (Turn E)). length (turns_of n l)) whole ∙ (ap length (turns_same n past between none) ∙ turns) in
      subst (λ (z : ℕ × List (Turn E) × Turn E). says z.0 (before ++ z.1) z.2) (λ i. (sym count i, sym whole i, last.1 i)) new)
      (stands_in between (t ∷ []) h.0 u rest h.2))
      (stands_in past (between ++ t ∷ []) prefix u rest is)

module _ {E L : Type 0} where
  pub none_yet : (says : ℕ → List (Turn E) → Turn E → Type 0) (lock : TableId) (p : TurnPassView E L) → IsReady lock p → Acted says lock p 0 p
  none_yet says lock p ready = record {
    ready = ready;
    same = (refl, refl);
    past = [];
    seen = sym (append-nil p.seen);
    mine = sym (append-nil p.mine);
    turns = refl;
    returned = λ prefix t rest is _. absurd (nil_or t prefix rest (sym is));
  }

  pub one_more : (says : ℕ → List (Turn E) → Turn E → Type 0) (lock : TableId) (k : ℕ) (p q r : TurnPassView E L) (past : List (Turn E)) (t : Turn E) → Acted says lock p k q → IsReady lock r → IsSameCaller q r → OwnTurn q past t r → says k past t
      → Acted says lock p (k + 1) r
  one_more says lock k p q r past t a ready same own said =
      let n : ℕ = p.number in let between = own.others.0 in
      let number : q.number ≡ n = a.same.0 in
      let none : turns_of n between ≡ [] = ap (λ (z : ℕ). turns_of z between) (sym number) ∙ own.others.2 in
      let mine_so = turns_more n a.past between t none (own.number ∙ number) in
      let before : past ≡ p.seen ++ (a.past ++ between) = own.others.1 ∙ (ap (λ (l : List (Turn E)). l ++ between) a.seen ∙ append_assoc p.seen a.past between) in record {
        ready = ready;
        same = (same.0 ∙ a.same.0, same.1 ∙ a.same.1);
        past = a.past ++ (between ++ t ∷ []);
        seen = own.seen ∙ (ap (λ (l : List (Turn E)). l ++ t ∷ []) before ∙ (append_assoc p.seen (a.past ++ between) (t ∷ []) ∙ ap (λ (l : List (Turn E)). p.seen ++ l) (append_assoc a.past between (t ∷ []))));
        mine = own.mine ∙ (ap (λ (l : List (Turn E)). l ++ t ∷ []) a.mine ∙ (append_assoc p.mine (turns_of n a.past) (t ∷ []) ∙ ap (λ (l : List (Turn E)). p.mine ++ l) (sym mine_so)));
        turns = ap length mine_so ∙ (length-append (turns_of n a.past) (t ∷ []) ∙ ap (λ (z : ℕ). z + 1) a.turns);
        returned = returned_more says n k p.seen a.past between t a.returned a.turns none (subst (λ (l : List (Turn E)). says k l t) before said);
      }

  new_acted : (says : ℕ → List (Turn E) → Turn E → Type 0) (lock lock' : TableId) (first label : Option L) (k times : ℕ) (past : List (Turn E)) (q : TurnPassView E L) → Acted says lock' (new_pass lock first k) times q → FitsIn past label q
      → (length (turns_of k past) ≡ times) × ReturnsInOrder says k [] past
  new_acted says lock lock' first label k times past q a fits =
      let number : q.number ≡ k = a.same.0 in let rest = fits.0.0 in
      let whole : past ≡ a.past ++ rest = fits.0.1 ∙ ap (λ (l : List (Turn E)). l ++ rest) a.seen in
      let mine : turns_of k a.past ≡ turns_of k past = sym a.mine ∙ (fits.1 ∙ ap (λ (z : ℕ). turns_of z past) number) in
      let none : turns_of k rest ≡ [] = nothing_more (turns_of k a.past) (turns_of k rest) (mine ∙ (ap (turns_of k) whole ∙ turns_split k a.past rest)) in (
        ap length (sym mine) ∙ a.turns,
        λ prefix t after is e. ⊎_elim
            (λ (h : (more : List (Turn E)) × (a.past ≡ prefix ++ t ∷ more)). a.returned prefix t h.0 h.1 e)
            (λ (h : (less : List (Turn E)) × (prefix ≡ a.past ++ less) × (rest ≡ less ++ t ∷ after)). absurd (none_there k rest h.0 after t none h.2 e))
            (stands_in a.past rest prefix t after (sym whole ∙ is)),
      )

  -- the history has as many turns of a new pass as it took, and they return in order
  pub turns_made : (says : ℕ → List (Turn E) → Turn E → Type 0) (lock lock' : TableId) (first label : Option L) (k times : ℕ) (past : List (Turn E)) (p q : TurnPassView E L) → p ≡ new_pass lock first k → Acted says lock' p times q → FitsIn past label q
      → (length (turns_of k past) ≡ times) × ReturnsInOrder says k [] past
  turns_made says lock lock' first label k times past p q is acted fits = new_acted says lock lock' first label k times past q (subst (λ (z : TurnPassView E L). Acted says lock' z times q) is acted) fits

module _ {E : Type 0} where
  -- the same where the replies depend on the label
  pub replies_made : (replies : ℕ → ℕ → Option ℕ → List (Turn E) → Turn E → Type 0) (lock lock' : TableId) (first label : Option MachineLabel) (k times : ℕ) (past : List (Turn E)) (p q : TurnPassView E MachineLabel) → p ≡ new_pass lock first k → Acted (RepliesTo replies p.label) lock' p times q → FitsIn past label q
      → (length (turns_of k past) ≡ times) × ReturnsInOrder (RepliesTo replies first) k [] past
  replies_made replies lock lock' first label k times past p q is acted fits = new_acted (RepliesTo replies first) lock lock' first label k times past q (subst (λ (z : TurnPassView E MachineLabel). Acted (RepliesTo replies z.label) lock' z times q) is acted) fits

  -- every turn returns
  abbrev pub AllReturn : (ℕ → List (Turn E) → Turn E → Type 0) → List (Turn E) → Type 0
  AllReturn says past = (prefix : List (Turn E)) (t : Turn E) (rest : List (Turn E)) → past ≡ prefix ++ t ∷ rest → says (length (turns_of t.number prefix)) prefix t

  by_there : (callers : ℕ) (past prefix rest : List (Turn E)) (t : Turn E) → IsByCallers callers past → past ≡ prefix ++ t ∷ rest → (1 ≤ t.number) × (t.number ≤ callers)
  by_there callers [] prefix rest t all is = absurd (nil_or t prefix rest (sym is))
  by_there callers (x ∷ xs) [] rest t all is = let e : x ≡ t = cc in subst (λ (z : Turn E). (1 ≤ z.number) × (z.number ≤ callers)) e (All-head (λ (z : Turn E). (1 ≤ z.number) × (z.number ≤ callers)) x xs all)
  by_there callers (x ∷ xs) (z ∷ zs) rest t all is = let e : xs ≡ zs ++ t ∷ rest = cc in by_there callers xs zs rest t (All-tail (λ (z : Turn E). (1 ≤ z.number) × (z.number ≤ callers)) x xs all) e

  return_at : (says : ℕ → List (Turn E) → Turn E → Type 0) (k : ℕ) (past prefix rest : List (Turn E)) (t : Turn E) → ReturnsInOrder says k [] past → past ≡ prefix ++ t ∷ rest → t.number ≡ k → says (length (turns_of t.number prefix)) prefix t
  return_at says k past prefix rest t all is e = subst (λ (z : ℕ). says (length (turns_of z prefix)) prefix t) (sym e) (all prefix t rest is e)

  pub both_return : (says : ℕ → List (Turn E) → Turn E → Type 0) (past : List (Turn E)) → IsByCallers 2 past → ReturnsInOrder says 1 [] past → ReturnsInOrder says 2 [] past → AllReturn says past
  both_return says past by first second prefix t rest is = let known = by_there 2 past prefix rest t by is in
      ⊎_elim (return_at says 1 past prefix rest t first is) (return_at says 2 past prefix rest t second is) (one_or_two t.number known.0 known.1)

  pub three_return : (says : ℕ → List (Turn E) → Turn E → Type 0) (past : List (Turn E)) → IsByCallers 3 past → ReturnsInOrder says 1 [] past → ReturnsInOrder says 2 [] past → ReturnsInOrder says 3 [] past → AllReturn says past
  three_return says past by first second third prefix t rest is = let known = by_there 3 past prefix rest t by is in
      ⊎_elim (return_at says 1 past prefix rest t first is) (⊎_elim (return_at says 2 past prefix rest t second is) (return_at says 3 past prefix rest t third is)) (one_to_three t.number known.0 known.1)

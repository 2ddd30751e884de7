-- What a pull knows of its pipes, when one comes up, goes down, gives a frame, or a message of it is given to a
-- receive.
use Rattle.std.proofs.Common.{◌≡◌, refl, ap, sym, ◌∙◌, subst, List, [], ◌∷◌, ◌++◌, ℕ, ◌+◌, ◌≤◌, Bool, true, false, cond, arith, Option, Some, None, length}
use Rattle.std.specs.Prelude.{not, ◌||◌, ◌&&◌, ◌==◌, is_some, filter}
use Rattle.std.specs.List.{list_any}
use Rattle.std.specs.Option.{option_map}
use Rattle.std.proofs.lemmas.Bool.Decides.{nat_tests}
use Rattle.std.proofs.lemmas.List.Folds.{list_any-append}
use Rattle.sp_history.specs.declared.parts.Item.{Item}
use Rattle.sp_history.specs.Lists.{has, without}
use Rattle.sp_history.specs.Kept.{is_from}
use Rattle.proto_pipeline.specs.Sources.{mark_at}
use Rattle.proto_pipeline.specs.Pulls.{AreSingle, mark_of}
use Rattle.proto_pipeline.proofs.Ports.{has_append}

equal_of : (m n : ℕ) → (m == n) ≡ true → m ≡ n
equal_of m n h = grind (arith, nat_tests)

turned : (m n : ℕ) (b : Bool) → (m == n) ≡ b → (n == m) ≡ b
turned m n true h = grind (arith, nat_tests)
turned m n false h = grind (arith, nat_tests)

or_true : (a : Bool) → (a || true) ≡ true
or_true true = refl
or_true false = refl

or_false : (a : Bool) → (a || (false || false)) ≡ a
or_false true = refl
or_false false = refl

-- ---- A pipe comes up, or goes down

pub marks_up : (us : List ℕ) (is : List Item) (p q : ℕ) (old : Option Bool) → list_any (is_from p) is ≡ false → old ≡ mark_of us is q → cond (p == q) (Some false) old ≡ mark_of (us ++ p ∷ []) is q
marks_up us is p q old none h = ap (λ (o : Option Bool). cond (p == q) (Some false) o) h ∙ go (p == q) refl ∙ sym (ap (λ (b : Bool). cond b (Some (list_any (is_from q) is)) None) (has_append us p q))
  where
    go : (b : Bool) → (p == q) ≡ b → cond b (Some false) (mark_of us is q) ≡ cond (has us q || (b || false)) (Some (list_any (is_from q) is)) None
    go true e =
        let same : list_any (is_from q) is ≡ false = ap (λ (n : ℕ). list_any (is_from n) is) (sym (equal_of p q e)) ∙ none in
        ap (λ (b : Bool). Some b) (sym same) ∙ sym (ap (λ (b : Bool). cond b (Some (list_any (is_from q) is)) None) (or_true (has us q)))
    go false e = sym (ap (λ (b : Bool). cond b (Some (list_any (is_from q) is)) None) (or_false (has us q)))

has_left : (us : List ℕ) (p q : ℕ) → has (without us p) q ≡ (not (p == q) && has us q)
has_left [] p q = and_false (not (p == q))
  where
    and_false : (b : Bool) → false ≡ (b && false)
    and_false true = refl
    and_false false = refl
has_left (u ∷ us) p q = go (u == p) refl (u == q) refl (p == q) refl (has_left us p q)
  where
    clash : (a : ℕ) → (u == p) ≡ true → (u == q) ≡ true → (p == q) ≡ false → ⊥
    clash a e f g = grind (arith, nat_tests)

    join : (u == p) ≡ true → (p == q) ≡ true → (u == q) ≡ false → ⊥
    join e g f = grind (arith, nat_tests)

    meet : (u == p) ≡ false → (u == q) ≡ true → (p == q) ≡ true → ⊥
    meet e f g = grind (arith, nat_tests)

    go : (a : Bool) → (u == p) ≡ a → (b : Bool) → (u == q) ≡ b → (c : Bool) → (p == q) ≡ c → has (without us p) q ≡ (not c && has us q) → has (cond (not a) (u ∷ without us p) (without us p)) q ≡ (not c && (b || has us q))
    go true e true f true g k = k
    go true e true f false g k = absurd (clash u e f g)
    go true e false f c g k = k
    go false e true f true g k = absurd (meet e f g)
    go false e true f false g k = ap (λ (x : Bool). x || has (without us p) q) f
    go false e false f c g k = ap (λ (x : Bool). x || has (without us p) q) f ∙ k

pub marks_down : (us : List ℕ) (is : List Item) (p q : ℕ) (old : Option Bool) → old ≡ mark_of us is q → cond (p == q) None old ≡ mark_of (without us p) is q
marks_down us is p q old h = ap (λ (o : Option Bool). cond (p == q) None o) h ∙ go (p == q) ∙ sym (ap (λ (b : Bool). cond b (Some (list_any (is_from q) is)) None) (has_left us p q))
  where
    go : (b : Bool) → cond b None (mark_of us is q) ≡ cond (not b && has us q) (Some (list_any (is_from q) is)) None
    go true = refl
    go false = refl

-- ---- A frame comes, or the oldest is given

module _ (kept : ℕ → Option Bool) (us : List ℕ) (is : List Item) (i : Item) where
  pub marks_frame : (q : ℕ) → ((n : ℕ) → kept n ≡ mark_of us is n) → has us i.pipe ≡ true → cond (i.pipe == q) (option_map (λ _. true) (kept i.pipe)) (kept q) ≡ mark_of us (is ++ i ∷ []) q
  marks_frame q h is_up =
      let here : option_map (λ _. true) (kept i.pipe) ≡ Some true = ap (λ (o : Option Bool). option_map (λ _. true) o) (h i.pipe) ∙ ap (λ (b : Bool). option_map (λ _. true) (cond b (Some (list_any (is_from i.pipe) is)) None)) is_up in
      ap (λ (o : Option Bool). cond (i.pipe == q) o (kept q)) here ∙ ap (λ (o : Option Bool). cond (i.pipe == q) (Some true) o) (h q) ∙ go (i.pipe == q) refl ∙ sym (ap (λ (b : Bool). cond (has us q) (Some b) None) (list_any-append (is_from q) is (i ∷ [])))
    where
      go : (b : Bool) → (i.pipe == q) ≡ b → cond b (Some true) (mark_of us is q) ≡ cond (has us q) (Some (list_any (is_from q) is || (b || false))) None
      go true e =
          let there : has us q ≡ true = ap (has us) (sym (equal_of i.pipe q e)) ∙ is_up in
          ap (λ (b : Bool). Some b) (sym (or_true (list_any (is_from q) is))) ∙ sym (ap (λ (b : Bool). cond b (Some (list_any (is_from q) is || true)) None) there)
      go false e = ap (λ (b : Bool). cond (has us q) (Some b) None) (sym (or_false (list_any (is_from q) is)))

  pub marks_given : (q : ℕ) → ((n : ℕ) → kept n ≡ mark_of us (i ∷ is) n) → list_any (is_from i.pipe) is ≡ false → cond (i.pipe == q) (option_map (λ _. false) (kept i.pipe)) (kept q) ≡ mark_of us is q
  marks_given q h none =
      ap (λ (o : Option Bool). cond (i.pipe == q) (option_map (λ _. false) o) (kept q)) (h i.pipe) ∙ ap (λ (o : Option Bool). cond (i.pipe == q) (option_map (λ _. false) (mark_of us (i ∷ is) i.pipe)) o) (h q) ∙ go (i.pipe == q) refl
    where
      all_false : (a b c : Bool) → c ≡ false → option_map (λ _. false) (cond a (Some b) None) ≡ cond a (Some c) None
      all_false true b c e = ap (λ (x : Bool). Some x) (sym e)
      all_false false b c e = refl

      go : (b : Bool) → (i.pipe == q) ≡ b → cond b (option_map (λ _. false) (mark_of us (i ∷ is) i.pipe)) (cond (has us q) (Some (b || list_any (is_from q) is)) None) ≡ mark_of us is q
      go true e = subst (λ (n : ℕ). option_map (λ _. false) (mark_of us (i ∷ is) i.pipe) ≡ mark_of us is n) (equal_of i.pipe q e) (all_false (has us i.pipe) (list_any (is_from i.pipe) (i ∷ is)) (list_any (is_from i.pipe) is) none)
      go false e = refl

-- what is kept came from a pipe that was up
pub came_frame : (is : List Item) (i : Item) (last q : ℕ) → ((n : ℕ) → list_any (is_from n) is ≡ true → n ≤ last) → i.pipe ≤ last → list_any (is_from q) (is ++ i ∷ []) ≡ true → q ≤ last
came_frame is i last q h low e = go (list_any (is_from q) is) refl (i.pipe == q) refl (sym (list_any-append (is_from q) is (i ∷ [])) ∙ e)
  where
    go : (a : Bool) → list_any (is_from q) is ≡ a → (b : Bool) → (i.pipe == q) ≡ b → (a || (b || false)) ≡ true → q ≤ last
    go true f b g k = h q f
    go false f true g k = let same : i.pipe ≡ q = equal_of i.pipe q g in omega (arith, same, low)
    go false f false g k = absurd cc

pub came_given : (is : List Item) (i : Item) (last q : ℕ) → ((n : ℕ) → list_any (is_from n) (i ∷ is) ≡ true → n ≤ last) → list_any (is_from q) is ≡ true → q ≤ last
came_given is i last q h e = h q (ap (λ (b : Bool). is_from q i || b) e ∙ or_true (is_from q i))

pub single_frame : (is : List Item) (i : Item) → AreSingle is → list_any (is_from i.pipe) is ≡ false → AreSingle (is ++ i ∷ [])
single_frame [] i s none = (refl, tt)
single_frame (j ∷ is) i s none = go (j.pipe == i.pipe) refl none (single_frame is i s.1)
  where
    go : (b : Bool) → (j.pipe == i.pipe) ≡ b → (b || list_any (is_from i.pipe) is) ≡ false → (list_any (is_from i.pipe) is ≡ false → AreSingle (is ++ i ∷ [])) → AreSingle ((j ∷ is) ++ i ∷ [])
    go true e k again = absurd cc
    go false e k again =
        let other : (i.pipe == j.pipe) ≡ false = turned j.pipe i.pipe false e in
        (list_any-append (is_from j.pipe) is (i ∷ []) ∙ ap (λ (b : Bool). b || ((i.pipe == j.pipe) || false)) s.0 ∙ ap (λ (b : Bool). b || false) other, again k)

-- ---- How many are up

shorter : (us : List ℕ) (p : ℕ) → length (without us p) ≤ length us
shorter [] p = omega arith
shorter (u ∷ us) p = go (u == p) (shorter us p)
  where
    go : (b : Bool) → length (without us p) ≤ length us → length (cond (not b) (u ∷ without us p) (without us p)) ≤ length (u ∷ us)
    go true h = omega (arith, h)
    go false h = omega (arith, h)

one_fewer : (us : List ℕ) (p : ℕ) → has us p ≡ true → length (without us p) + 1 ≤ length us
one_fewer [] p h = absurd cc
one_fewer (u ∷ us) p h = go (u == p) h (shorter us p) (one_fewer us p)
  where
    go : (b : Bool) → (b || has us p) ≡ true → length (without us p) ≤ length us → (has us p ≡ true → length (without us p) + 1 ≤ length us) → length (cond (not b) (u ∷ without us p) (without us p)) + 1 ≤ length (u ∷ us)
    go true h most again = omega (arith, most)
    go false h most again = omega (arith, again h)

append_one : (us : List ℕ) (p : ℕ) → length (us ++ p ∷ []) ≡ length us + 1
append_one [] p = refl
append_one (u ∷ us) p = omega (arith, append_one us p)

pub counted_up : (us : List ℕ) (is : List Item) (p old new : ℕ) (k : Option Bool) → has us p ≡ false → k ≡ mark_of us is p → new ≡ old + cond (is_some k) 0 1 → length us ≤ old → length (us ++ p ∷ []) ≤ new
counted_up us is p old new k free h e le =
    let none : k ≡ None = h ∙ ap (λ (b : Bool). cond b (Some (list_any (is_from p) is)) None) free in
    let grown : new ≡ old + 1 = e ∙ ap (λ (o : Option Bool). old + cond (is_some o) 0 1) none in
    omega (arith, grown, le, append_one us p)

pub counted_down : (us : List ℕ) (is : List Item) (p old new : ℕ) (k : Option Bool) → has us p ≡ true → k ≡ mark_of us is p → new + cond (is_some k) 1 0 ≡ old → length us ≤ old → length (without us p) ≤ new
counted_down us is p old new k is_up h e le =
    let some : k ≡ Some (list_any (is_from p) is) = h ∙ ap (λ (b : Bool). cond b (Some (list_any (is_from p) is)) None) is_up in
    let down : new + 1 ≡ old = sym (ap (λ (o : Option Bool). new + cond (is_some o) 1 0) some) ∙ e in
    omega (arith, down, le, one_fewer us p is_up)

-- ---- The map

-- where it is in the map, its mark is the new one
pub marked_at : (es fs : List (ℕ × Bool)) (p q : ℕ) (b : Bool) → is_some (mark_at es p) ≡ true → mark_at fs q ≡ cond (p == q) (Some b) (mark_at es q) → mark_at fs q ≡ cond (p == q) (option_map (λ _. b) (mark_at es p)) (mark_at es q)
marked_at es fs p q b there h = h ∙ go (mark_at es p) there
  where
    go : (o : Option Bool) → is_some o ≡ true → cond (p == q) (Some b) (mark_at es q) ≡ cond (p == q) (option_map (λ _. b) o) (mark_at es q)
    go None e = absurd cc
    go (Some x) e = refl

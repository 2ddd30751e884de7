-- Changes of the pipes that a machine knows.
use Rattle.std.proofs.Common.{◌≡◌, refl, ap, sym, ◌∙◌, subst, List, [], ◌∷◌, ◌++◌, ℕ, ◌+◌, Bool, true, false, cond, arith, Some, None, map, ◌<◌, ◌≤◌}
use Rattle.std.specs.Prelude.{find, filter, not, nat_lt, ◌&&◌, ◌||◌, ◌==◌}
use Rattle.std.specs.List.{list_all}
use Rattle.std.proofs.lemmas.Bool.Decides.{nat_tests}
use Rattle.sp_history.specs.Lists.{has, without}
use Rattle.proto_requests.specs.Ports.{PortView, port_of, marked, cleared, is_pipe, is_below, free_count, way_at, where_is}
use Rattle.proto_requests.specs.declared.ports.Destination.TheVariants as ways
use Rattle.sp_history.specs.Lists.{is_number}
use Rattle.std.proofs.Common.{Option}
use Rattle.proto_requests.proofs.TestValues.{equal_of, same_number}

or_right : (a : Bool) → (a || true) ≡ true
or_right true = refl
or_right false = refl

-- ---- A pipe comes up

-- all have numbers below that of the new one
pub below_all : (full : ℕ → Bool) (us : List ℕ) (last p : ℕ) → ((q : ℕ) → has us q ≡ true → q ≤ last) → p ≡ last + 1 → list_all (is_below p) (map (port_of full) us) ≡ true
below_all full [] last p k e = refl
below_all full (u ∷ us) last p k e =
    let low : u ≤ last = k u (ap (λ b. b || has us u) (same_number u)) in
    let yes : nat_lt u p ≡ true = lower u low in
    rw yes (below_all full us last p (λ q h. k q (ap (λ b. (u == q) || b) h ∙ or_right (u == q))) e)
  where
    lower : (m : ℕ) → m ≤ last → nat_lt m p ≡ true
    lower m l = grind (arith, nat_tests, e)

pub ports_more : (full : ℕ → Bool) (us : List ℕ) (p : ℕ) → full p ≡ false → map (port_of full) us ++ record { pipe = p; is_full = false } ∷ [] ≡ map (port_of full) (us ++ p ∷ [])
ports_more full [] p f = ap (λ (b : Bool). (let x : PortView = record { pipe = p; is_full = b } in x) ∷ []) (sym f)
ports_more full (u ∷ us) p f = ap (λ (rest : List PortView). port_of full u ∷ rest) (ports_more full us p f)

pub known_more : (us : List ℕ) (last p : ℕ) → ((q : ℕ) → has us q ≡ true → q ≤ last) → p ≡ last + 1 → (q : ℕ) → has (us ++ p ∷ []) q ≡ true → q ≤ last + 1
known_more [] last p k e q h = go (p == q) refl h
  where
    go : (b : Bool) → (p == q) ≡ b → (b || false) ≡ true → q ≤ last + 1
    go true f h = let is : p ≡ q = equal_of p q f in omega (arith, is, e)
    go false f h = absurd cc
known_more (u ∷ us) last p k e q h = go (u == q) refl h (known_more us last p (λ n m. k n (ap (λ b. (u == n) || b) m ∙ or_right (u == n))) e q)
  where
    go : (b : Bool) → (u == q) ≡ b → (b || has (us ++ p ∷ []) q) ≡ true → (has (us ++ p ∷ []) q ≡ true → q ≤ last + 1) → q ≤ last + 1
    go true f h again =
        let low : u ≤ last = k u (ap (λ b. b || has us u) (same_number u)) in
        let is : u ≡ q = equal_of u q f in
        omega (arith, is, low)
    go false f h again = again h

-- ---- A pipe goes down

pub ports_without : (full : ℕ → Bool) (us : List ℕ) (p : ℕ) → filter (λ (x : PortView). not (x.pipe == p)) (map (port_of full) us) ≡ map (port_of full) (without us p)
ports_without full [] p = refl
ports_without full (u ∷ us) p = go (u == p) (ports_without full us p)
  where
    go : (b : Bool) → filter (λ (x : PortView). not (x.pipe == p)) (map (port_of full) us) ≡ map (port_of full) (without us p)
        → cond (not b) (port_of full u ∷ filter (λ (x : PortView). not (x.pipe == p)) (map (port_of full) us)) (filter (λ (x : PortView). not (x.pipe == p)) (map (port_of full) us)) ≡ map (port_of full) (cond (not b) (u ∷ without us p) (without us p))
    go true h = h
    go false h = ap (λ (rest : List PortView). port_of full u ∷ rest) h

pub has_without : (us : List ℕ) (p q : ℕ) → has (without us p) q ≡ true → has us q ≡ true
has_without [] p q h = h
has_without (u ∷ us) p q h = go (u == p) h (has_without us p q)
  where
    go : (b : Bool) → has (cond (not b) (u ∷ without us p) (without us p)) q ≡ true → (has (without us p) q ≡ true → has us q ≡ true) → ((u == q) || has us q) ≡ true
    go true h again = ap (λ b. (u == q) || b) (again h) ∙ or_right (u == q)
    go false h again = more (u == q) h again
      where
        more : (a : Bool) → (a || has (without us p) q) ≡ true → (has (without us p) q ≡ true → has us q ≡ true) → (a || has us q) ≡ true
        more true h again = refl
        more false h again = again h

-- one more, where the pipe is not full
abbrev pub plus : Bool → ℕ → ℕ
plus full n = cond full n (n + 1)

plus-le : (f : Bool) (m n : ℕ) → m ≤ n → plus f m ≤ plus f n
plus-le true m n h = h
plus-le false m n h = omega (arith, h)

plus-lt : (f : Bool) (m n : ℕ) → m < n → plus f m < plus f n
plus-lt true m n h = h
plus-lt false m n h = omega (arith, h)

plus-more : (f : Bool) (m n : ℕ) → m ≤ n → m ≤ plus f n
plus-more true m n h = h
plus-more false m n h = omega (arith, h)

plus-above : (f : Bool) (m n : ℕ) → m < n → m < plus f n
plus-above true m n h = h
plus-above false m n h = omega (arith, h)

module _ (full : ℕ → Bool) (p : ℕ) where
  no_more_free : (us : List ℕ) → free_count (map (port_of full) (without us p)) ≤ free_count (map (port_of full) us)
  no_more_free [] = omega arith
  no_more_free (u ∷ us) = go (u == p) (no_more_free us)
    where
      go : (b : Bool) → free_count (map (port_of full) (without us p)) ≤ free_count (map (port_of full) us)
          → free_count (map (port_of full) (cond (not b) (u ∷ without us p) (without us p))) ≤ plus (full u) (free_count (map (port_of full) us))
      go true h = plus-more (full u) _ _ h
      go false h = plus-le (full u) _ _ h

  -- without one that was not full, fewer are left that are not full
  pub fewer_free : (us : List ℕ) → full p ≡ false → has us p ≡ true → free_count (map (port_of full) (without us p)) < free_count (map (port_of full) us)
  fewer_free [] f h = absurd cc
  fewer_free (u ∷ us) f h = go (u == p) refl h (no_more_free us) (fewer_free us f)
    where
      go : (b : Bool) → (u == p) ≡ b → (b || has us p) ≡ true → free_count (map (port_of full) (without us p)) ≤ free_count (map (port_of full) us)
          → (has us p ≡ true → free_count (map (port_of full) (without us p)) < free_count (map (port_of full) us))
          → free_count (map (port_of full) (cond (not b) (u ∷ without us p) (without us p))) < plus (full u) (free_count (map (port_of full) us))
      go true e h most again =
          let is_open : full u ≡ false = ap full (equal_of u p e) ∙ f in
          rw is_open (omega (arith, most))
      go false e h most again = plus-lt (full u) _ _ (again h)

  -- ---- A pipe is found full

  pub ports_marked : (us : List ℕ) → map (marked p) (map (port_of full) us) ≡ map (port_of (λ q. (p == q) || full q)) us
  ports_marked [] = refl
  ports_marked (u ∷ us) = ap (λ (rest : List PortView). port_of (λ q. (p == q) || full q) u ∷ rest) (ports_marked us)

  marks_no_more : (us : List ℕ) → free_count (map (port_of (λ q. (p == q) || full q)) us) ≤ free_count (map (port_of full) us)
  marks_no_more [] = omega arith
  marks_no_more (u ∷ us) = go (p == u) (marks_no_more us)
    where
      go : (b : Bool) → free_count (map (port_of (λ q. (p == q) || full q)) us) ≤ free_count (map (port_of full) us)
          → plus (b || full u) (free_count (map (port_of (λ q. (p == q) || full q)) us)) ≤ plus (full u) (free_count (map (port_of full) us))
      go true h = plus-more (full u) _ _ h
      go false h = plus-le (full u) _ _ h

  -- once one that was not full is found full, fewer are left that are not full
  pub marks_fewer : (us : List ℕ) → full p ≡ false → has us p ≡ true → free_count (map (port_of (λ q. (p == q) || full q)) us) < free_count (map (port_of full) us)
  marks_fewer [] f h = absurd cc
  marks_fewer (u ∷ us) f h = go (u == p) refl h (p == u) refl (marks_no_more us) (marks_fewer us f)
    where
      turned : (m n : ℕ) (b : Bool) → (m == n) ≡ true → (n == m) ≡ false → ⊥
      turned m n b h k = grind (arith, nat_tests)

      go : (b : Bool) → (u == p) ≡ b → (b || has us p) ≡ true → (c : Bool) → (p == u) ≡ c → free_count (map (port_of (λ q. (p == q) || full q)) us) ≤ free_count (map (port_of full) us)
          → (has us p ≡ true → free_count (map (port_of (λ q. (p == q) || full q)) us) < free_count (map (port_of full) us))
          → plus (c || full u) (free_count (map (port_of (λ q. (p == q) || full q)) us)) < plus (full u) (free_count (map (port_of full) us))
      go true e h true k most again =
          let is_open : full u ≡ false = ap full (equal_of u p e) ∙ f in
          rw is_open (omega (arith, most))
      go true e h false k most again = absurd (turned u p true e k)
      go false e h true k most again = plus-above (full u) _ _ (again h)
      go false e h false k most again = plus-lt (full u) _ _ (again h)

pub ports_cleared : (full : ℕ → Bool) (us : List ℕ) → map cleared (map (port_of full) us) ≡ map (port_of (λ q. false)) us
ports_cleared full [] = refl
ports_cleared full (u ∷ us) = ap (λ (rest : List PortView). port_of (λ q. false) u ∷ rest) (ports_cleared full us)

-- ---- Where a message may go

module _ (full : ℕ → Bool) (p : ℕ) where
  -- the pipe, where it is up
  pub found_port : (us : List ℕ) → find (is_pipe p) (map (port_of full) us) ≡ cond (has us p) (Some (port_of full p)) None
  found_port [] = refl
  found_port (u ∷ us) = go (u == p) refl (found_port us)
    where
      go : (b : Bool) → (u == p) ≡ b → find (is_pipe p) (map (port_of full) us) ≡ cond (has us p) (Some (port_of full p)) None
          → cond b (Some (port_of full u)) (find (is_pipe p) (map (port_of full) us)) ≡ cond (b || has us p) (Some (port_of full p)) None
      go true e h = ap (λ (n : ℕ). Some (port_of full n)) (equal_of u p e)
      go false e h = h

pub way_is : (full : ℕ → Bool) (us : List ℕ) (p : ℕ) → where_is (map (port_of full) us) (Some p) ≡ cond (has us p) (cond (full p) ways.Full (ways.To p)) ways.Nowhere
way_is full us p = ap (way_at p) (found_port full p us) ∙ go (has us p)
  where
    go : (b : Bool) → way_at p (cond b (Some (port_of full p)) None) ≡ cond b (cond (full p) ways.Full (ways.To p)) ways.Nowhere
    go true = refl
    go false = refl

module _ (full : ℕ → Bool) (us : List ℕ) where
  pub goes_on : (to : Option ℕ) (p : ℕ) → where_is (map (port_of full) us) to ≡ ways.To p → (to ≡ Some p) × (has us p ≡ true) × (full p ≡ false)
  goes_on None p h = absurd cc
  goes_on (Some q) p h = go (has us q) refl (full q) refl (sym (way_is full us q) ∙ h)
    where
      go : (b : Bool) → has us q ≡ b → (f : Bool) → full q ≡ f → cond b (cond f ways.Full (ways.To q)) ways.Nowhere ≡ ways.To p → (Some q ≡ Some p) × (has us p ≡ true) × (full p ≡ false)
      go true e true k h = absurd cc
      go true e false k h =
          let is : q ≡ p = cc in
          (ap (λ (n : ℕ). Some n) is, subst (λ n. has us n ≡ true) is e, subst (λ n. full n ≡ false) is k)
      go false e f k h = absurd cc

  pub is_full_at : (to : Option ℕ) → where_is (map (port_of full) us) to ≡ ways.Full → (q : ℕ) × (to ≡ Some q) × (has us q ≡ true) × (full q ≡ true)
  is_full_at None h = absurd cc
  is_full_at (Some q) h = go (has us q) refl (full q) refl (sym (way_is full us q) ∙ h)
    where
      go : (b : Bool) → has us q ≡ b → (f : Bool) → full q ≡ f → cond b (cond f ways.Full (ways.To q)) ways.Nowhere ≡ ways.Full → (n : ℕ) × (Some q ≡ Some n) × (has us n ≡ true) × (full n ≡ true)
      go true e true k h = (q, refl, e, k)
      go true e false k h = absurd cc
      go false e f k h = absurd cc

  pub nowhere_up : (to : Option ℕ) → where_is (map (port_of full) us) to ≡ ways.Nowhere → filter (is_number to) us ≡ []
  nowhere_up None h = none_of us
    where
      none_of : (vs : List ℕ) → filter (is_number None) vs ≡ []
      none_of [] = refl
      none_of (v ∷ vs) = none_of vs
  nowhere_up (Some q) h = go (has us q) refl (full q) (sym (way_is full us q) ∙ h)
    where
      gone : (vs : List ℕ) → has vs q ≡ false → filter (is_number (Some q)) vs ≡ []
      gone [] k = refl
      gone (v ∷ vs) k = step (q == v) refl (v == q) refl k (gone vs)
        where
          turned : (m n : ℕ) → (m == n) ≡ true → (n == m) ≡ false → ⊥
          turned m n h k = grind (arith, nat_tests)

          step : (a : Bool) → (q == v) ≡ a → (b : Bool) → (v == q) ≡ b → (b || has vs q) ≡ false → (has vs q ≡ false → filter (is_number (Some q)) vs ≡ []) → cond a (v ∷ filter (is_number (Some q)) vs) (filter (is_number (Some q)) vs) ≡ []
          step a e true f k again = absurd cc
          step true e false f k again = absurd (turned q v e f)
          step false e false f k again = again k

      go : (b : Bool) → has us q ≡ b → (f : Bool) → cond b (cond f ways.Full (ways.To q)) ways.Nowhere ≡ ways.Nowhere → filter (is_number (Some q)) us ≡ []
      go true e true h = absurd cc
      go true e false h = absurd cc
      go false e f h = gone us e

-- the pipe is among those of this number if it is there at all
pub has_number : (us : List ℕ) (q p : ℕ) → has (filter (is_number (Some q)) us) p ≡ ((q == p) && has us p)
has_number [] q p = and_none (q == p)
  where
    and_none : (b : Bool) → false ≡ (b && false)
    and_none true = refl
    and_none false = refl
has_number (u ∷ us) q p = go (q == u) refl (u == p) refl (q == p) refl (has_number us q p)
  where
    third : (l m n : ℕ) → (l == m) ≡ true → (m == n) ≡ true → (l == n) ≡ false → ⊥
    third l m n h k f = grind (arith, nat_tests)

    other : (l m n : ℕ) → (l == m) ≡ true → (m == n) ≡ false → (l == n) ≡ true → ⊥
    other l m n h k f = grind (arith, nat_tests)

    last : (l m n : ℕ) → (l == m) ≡ false → (m == n) ≡ true → (l == n) ≡ true → ⊥
    last l m n h k f = grind (arith, nat_tests)

    go : (a : Bool) → (q == u) ≡ a → (b : Bool) → (u == p) ≡ b → (c : Bool) → (q == p) ≡ c → has (filter (is_number (Some q)) us) p ≡ (c && has us p)
        → has (cond a (u ∷ filter (is_number (Some q)) us) (filter (is_number (Some q)) us)) p ≡ (c && (b || has us p))
    go true e true f true g h = rw f refl
    go true e true f false g h = absurd (third q u p e f g)
    go true e false f true g h = absurd (other q u p e f g)
    go true e false f false g h = rw f h
    go false e true f true g h = absurd (last q u p e f g)
    go false e true f false g h = h
    go false e false f c g h = h

-- all of this number are full, where it is
pub all_full : (full : ℕ → Bool) (us : List ℕ) (q : ℕ) → full q ≡ true → list_all full (filter (is_number (Some q)) us) ≡ true
all_full full [] q h = refl
all_full full (u ∷ us) q h = go (q == u) refl (all_full full us q h)
  where
    go : (a : Bool) → (q == u) ≡ a → list_all full (filter (is_number (Some q)) us) ≡ true → list_all full (cond a (u ∷ filter (is_number (Some q)) us) (filter (is_number (Some q)) us)) ≡ true
    go true e h' = let is : full u ≡ true = subst (λ n. full n ≡ true) (equal_of q u e) h in rw is h'
    go false e h' = h'

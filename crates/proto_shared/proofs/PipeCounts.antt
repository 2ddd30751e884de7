-- The number of pipes that are up: none is among them twice.
use Rattle.std.proofs.Common.{◌≡◌, refl, ap, sym, ◌∙◌, subst, List, [], ◌∷◌, ◌++◌, ℕ, ◌+◌, ◌-◌, ◌≤◌, ◌^◌, Bool, true, false, cond, arith, length}
use Rattle.std.specs.Prelude.{not, ◌||◌, ◌==◌, min}
use Rattle.std.proofs.lemmas.Bool.Decides.{nat_tests}
use Rattle.turn_lock.specs.declared.turn.Turn.{Turn}
use Rattle.sp_history.specs.declared.setting.Setting.{Setting}
use Rattle.sp_history.specs.declared.entry.WireNumbers.{WireNumbers}
use Rattle.sp_history.specs.declared.entry.Why.{Why}
use Rattle.sp_history.specs.declared.entry.Entry.{Entry}
use Rattle.sp_history.specs.declared.entry.Entry.TheVariants.{Up, Down}
use Rattle.sp_history.specs.Lists.{has, without}
use Rattle.sp_history.specs.Past.{up, ups, onto, past_from}
use Rattle.sp_history.specs.Once.{AreDistinct}
use Rattle.sp_history.specs.Legal.{Allowed, Follows, LegalFrom}
use Rattle.sp_history.specs.Moments.{Moment, Lawful, AllowedBack, past, also}
use Rattle.proto_shared.proofs.Copying.{lawful_before, no_longer}

-- ---- Lists in which no number is twice

equal_of : (m n : ℕ) → (m == n) ≡ true → m ≡ n
equal_of m n h = grind (arith, nat_tests)

turned : (m n : ℕ) → (m == n) ≡ false → (n == m) ≡ false
turned m n h = grind (arith, nat_tests)

has_more : (us : List ℕ) (p q : ℕ) → has (us ++ p ∷ []) q ≡ (has us q || (p == q))
has_more [] p q = go (p == q)
  where
    go : (b : Bool) → (b || false) ≡ b
    go true = refl
    go false = refl
has_more (u ∷ us) p q = go (u == q) (has_more us p q)
  where
    go : (b : Bool) → has (us ++ p ∷ []) q ≡ (has us q || (p == q)) → (b || has (us ++ p ∷ []) q) ≡ ((b || has us q) || (p == q))
    go true h = refl
    go false h = h

no_left : (a b : Bool) → (a || b) ≡ false → a ≡ false
no_left true b h = absurd cc
no_left false b h = refl

no_right : (a b : Bool) → (a || b) ≡ false → b ≡ false
no_right true b h = absurd cc
no_right false b h = h

neither : (a b : Bool) → a ≡ false → b ≡ false → (a || b) ≡ false
neither a b h k = rw (h, k) refl

apart_more : (us : List ℕ) (p : ℕ) → AreDistinct us → has us p ≡ false → AreDistinct (us ++ p ∷ [])
apart_more [] p h n = (refl, tt)
apart_more (u ∷ us) p h n =
    (has_more us p u ∙ neither (has us u) (p == u) h.0 (turned u p (no_left (u == p) (has us p) n)), apart_more us p h.1 (no_right (u == p) (has us p) n))

left_in : (us : List ℕ) (p q : ℕ) → has us q ≡ false → has (without us p) q ≡ false
left_in [] p q h = h
left_in (u ∷ us) p q h = go (u == p) (left_in us p q (no_right (u == q) (has us q) h))
  where
    go : (b : Bool) → has (without us p) q ≡ false → has (cond (not b) (u ∷ without us p) (without us p)) q ≡ false
    go true k = k
    go false k = neither (u == q) (has (without us p) q) (no_left (u == q) (has us q) h) k

apart_without : (us : List ℕ) (p : ℕ) → AreDistinct us → AreDistinct (without us p)
apart_without [] p h = h
apart_without (u ∷ us) p h = go (u == p) (apart_without us p h.1)
  where
    go : (b : Bool) → AreDistinct (without us p) → AreDistinct (cond (not b) (u ∷ without us p) (without us p))
    go true k = k
    go false k = (left_in us p u h.0, k)

all_stay : (us : List ℕ) (p : ℕ) → has us p ≡ false → without us p ≡ us
all_stay [] p h = refl
all_stay (u ∷ us) p h = go (u == p) (no_left (u == p) (has us p) h) (all_stay us p (no_right (u == p) (has us p) h))
  where
    go : (b : Bool) → b ≡ false → without us p ≡ us → cond (not b) (u ∷ without us p) (without us p) ≡ u ∷ us
    go true e k = absurd cc
    go false e k = ap (λ (rest : List ℕ). u ∷ rest) k

one_more : (us : List ℕ) (p : ℕ) → length (us ++ p ∷ []) ≡ length us + 1
one_more [] p = refl
one_more (u ∷ us) p = omega (arith, one_more us p)

-- a number that was there is no longer there
pub one_fewer : (us : List ℕ) (p : ℕ) → AreDistinct us → has us p ≡ true → length (without us p) + 1 ≡ length us
one_fewer [] p h e = absurd cc
one_fewer (u ∷ us) p h e = go (u == p) refl e (one_fewer us p h.1)
  where
    go : (b : Bool) → (u == p) ≡ b → (b || has us p) ≡ true → (has us p ≡ true → length (without us p) + 1 ≡ length us) → length (cond (not b) (u ∷ without us p) (without us p)) + 1 ≡ length (u ∷ us)
    go true f i again =
        let none : has us p ≡ false = subst (λ n. has us n ≡ false) (equal_of u p f) h.0 in
        omega (arith, ap length (all_stay us p none))
    go false f i again = omega (arith, again i)

-- ---- A history's pipes

abbrev Counted : List Entry → Type 0
Counted before = AreDistinct (up before) × ((q : ℕ) → ups before + 1 ≤ q → has (up before) q ≡ false)

counted_next : (z : Setting) (k : ℕ) (before : List Entry) (e : Entry) → Counted before → Allowed z k before e → Counted (e ∷ before)
counted_next z k before (Up p place limit name) h a = (apart_more (up before) p h.0 (h.1 p (omega (arith, a.itself.0))), λ q l. has_more (up before) p q ∙ neither (has (up before) q) (p == q) (h.1 q (omega (arith, l))) (other q l))
  where
    other : (q : ℕ) → ups before + 1 + 1 ≤ q → (p == q) ≡ false
    other q l = let is : p ≡ ups before + 1 = a.itself.0 in grind (arith, nat_tests)
counted_next z k before (Down p why) h a = (apart_without (up before) p h.0, λ q l. left_in (up before) p q (h.1 q l))
counted_next z k before e h a = h

counted_turn : (z : Setting) (k : ℕ) (before entries : List Entry) → Counted before → Follows z k before entries → Counted (onto entries before)
counted_turn z k before [] h f = h
counted_turn z k before (e ∷ entries) h f = counted_turn z k (e ∷ before) entries (counted_next z k before e h f.0) f.1

counted_all : (z : Setting) (before : List Entry) (history : List (Turn Entry)) → Counted before → LegalFrom z before history → Counted (past_from before history)
counted_all z before [] h l = h
counted_all z before (t ∷ history) h l = counted_all z (onto t.entries before) history (counted_turn z t.number before t.entries h l.0.entries) l.1

counted_back : (z : Setting) (k : ℕ) (before turn : List Entry) → Counted before → AllowedBack z k before turn → Counted (turn ++ before)
counted_back z k before [] h b = h
counted_back z k before (e ∷ turn) h b = counted_next z k (turn ++ before) e (counted_back z k before turn h b.1) b.0

pub ups_apart : (t : Moment) → Lawful t → AreDistinct (up (past t))
ups_apart t l = (counted_back t.z t.caller t.before t.turn (subst Counted (sym l.before) (counted_all t.z [] l.history (tt, λ q h. refl) l.legal)) l.turn).0

-- ---- A machine's count of the pipes that are up

-- a pipe's number is at least the number of pipes that came up
up_most : (before : List Entry) → length (up before) ≤ ups before
up_most [] = omega arith
up_most (Up p place limit name ∷ before) = omega (arith, up_most before, one_more (up before) p)
up_most (Down p why ∷ before) = omega (arith, up_most before, no_longer (up before) p)
up_most (_ ∷ before) = up_most before

-- a pipe comes up; the count never overflows
pub counted_up : (t : Moment) (p place limit : ℕ) (name : WireNumbers) (n : ℕ) → Lawful (also t (Up p place limit name)) → n ≡ length (up (past t)) → min (n + 1) (2 ^ 64 - 1) ≡ length (up (past t) ++ p ∷ [])
counted_up t p place limit name n l h =
    let next = l.turn.0.itself.0 in
    let small = l.turn.0.itself.2 in
    omega (arith, one_more (up (past t)) p, up_most (past t), next, small, h)

-- a pipe goes down
pub counted_down : (t : Moment) (p : ℕ) (why : Why) (n : ℕ) → Lawful (also t (Down p why)) → n ≡ length (up (past t)) → n - 1 ≡ length (without (up (past t)) p)
counted_down t p why n l h = omega (arith, one_fewer (up (past t)) p (ups_apart t (lawful_before t (Down p why) l)) l.turn.0.itself.0, h)

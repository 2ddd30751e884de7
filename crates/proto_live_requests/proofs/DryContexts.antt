-- The contexts that are dry.
use Rattle.std.proofs.Common.{◌≡◌, refl, ap, sym, ◌∙◌, List, [], ◌∷◌, ◌++◌, ℕ, ◌+◌, ◌<◌, ◌≤◌, Bool, true, false, cond, arith, Option, Some, None, map}
use Rattle.std.specs.Prelude.{◌&&◌, ◌||◌, ◌==◌}
use Rattle.std.specs.declared.cmp.Ordering.{Ordering}
use Rattle.std.specs.declared.cmp.Ordering.TheVariants.{Less, Equal, Greater}
use Rattle.std.specs.Ordering.{nat_cmp, match_ordering}
use Rattle.std.specs.List.{AllByRecursion}
use Rattle.std.specs.List.Sorted.{IsStrictlySortedBy}
use Rattle.std.specs.Map.{keys_of, lookup, remove_entry, set_value}
use Rattle.std.specs.BTreeMap.{is_at, insert_entry}
use Rattle.std.proofs.lemmas.Bool.Decides.{nat_tests}
use Rattle.std.proofs.lemmas.Map.Keys.{sorted_head, sorted_tail}
use Rattle.proto_requests.proofs.NumberedEntries.{at_is, behind, with_all}
use Rattle.proto_requests.proofs.TestValues.{equal_of, same_number, or_true}
use Rattle.proto_live_requests.specs.ReqContexts.{ReqContextView, ReqContextsView, context_in, AreUpTo, AreByTick}
use Rattle.proto_live_requests.specs.LiveRequests.{dry_at, dried, wetted}

or_false : (b : Bool) → (b || false) ≡ b
or_false true = refl
or_false false = refl

below : (m n : ℕ) → m < n → (m == n) ≡ false
below m n h = grind (arith, nat_tests)

abbrev context : ℕ → Bool → ReqContextView
context c b = record { ctx = c; is_dry = b }

pair : {A : Type 0} {x y : A} {xs ys : List A} → x ≡ y → xs ≡ ys → x ∷ xs ≡ y ∷ ys
pair {A} {x} {y} {xs} {ys} p q = ap (λ v. v ∷ xs) p ∙ ap (λ vs. y ∷ vs) q

-- it is another context's entry, where that of the context is before it
others_isnt : (c n k : ℕ) → n ≡ c → nat_cmp n k ≡ Less → (k == c) ≡ false
others_isnt c n k e h = ap (λ (m : ℕ). k == m) (sym e) ∙ behind n k h

-- ---- Whether one is dry

-- what a query finds
abbrev pub dry_found : ℕ → Option ℕ → Bool
dry_found tick None = false
dry_found tick (Some n) = n == tick

none_dry : (tick c n : ℕ) (es : List (ℕ × ℕ)) → n ≡ c → AllByRecursion (λ k. nat_cmp n k ≡ Less) (keys_of es) → dry_at c (map (context_in tick) es) ≡ false
none_dry tick c n [] h o = refl
none_dry tick c n (e ∷ es) h o = ap (λ a. (a && (e.1 == tick)) || dry_at c (map (context_in tick) es)) (others_isnt c n e.0 h o.0) ∙ none_dry tick c n es h o.1

-- the only entry of the context decides
pub dry_seen : (tick c : ℕ) (es : List (ℕ × ℕ)) → IsStrictlySortedBy nat_cmp (keys_of es) → dry_found tick (lookup (is_at (nat_cmp c)) es) ≡ dry_at c (map (context_in tick) es)
dry_seen tick c [] o = refl
dry_seen tick c (e ∷ es) o = go (is_at (nat_cmp c) e.0) (e.0 == c) (at_is c e.0) refl (dry_seen tick c es (sorted_tail nat_cmp e.0 (keys_of es) o))
  where
    go : (a b : Bool) → a ≡ b → (e.0 == c) ≡ b → dry_found tick (lookup (is_at (nat_cmp c)) es) ≡ dry_at c (map (context_in tick) es) → dry_found tick (cond a (Some e.1) (lookup (is_at (nat_cmp c)) es)) ≡ ((b && (e.1 == tick)) || dry_at c (map (context_in tick) es))
    go true true h q k =
        let rest = none_dry tick c e.0 es (equal_of e.0 c q) (sorted_head nat_cmp e.0 (keys_of es) o) in
        sym (ap (λ b. (e.1 == tick) || b) rest ∙ or_false (e.1 == tick))
    go true false h q k = absurd cc
    go false true h q k = absurd cc
    go false false h q k = k

-- ---- One is dry

now_dried : (tick c : ℕ) (e : ℕ × ℕ) → (e.0 == c) ≡ true → context_in tick (e.0, tick) ≡ dried c (context_in tick e)
now_dried tick c e h = ap (context e.0) (same_number tick ∙ sym (ap (λ b. (e.1 == tick) || b) h ∙ or_true (e.1 == tick)))

same_dried : (tick c : ℕ) (e : ℕ × ℕ) → (e.0 == c) ≡ false → context_in tick e ≡ dried c (context_in tick e)
same_dried tick c e h = ap (context e.0) (sym (ap (λ b. (e.1 == tick) || b) h ∙ or_false (e.1 == tick)))

others_dried : (tick c n : ℕ) (es : List (ℕ × ℕ)) → n ≡ c → AllByRecursion (λ k. nat_cmp n k ≡ Less) (keys_of es) → map (context_in tick) es ≡ map (dried c) (map (context_in tick) es)
others_dried tick c n [] h o = refl
others_dried tick c n (e ∷ es) h o = pair (same_dried tick c e (others_isnt c n e.0 h o.0)) (others_dried tick c n es h o.1)

pub one_dried : (tick c : ℕ) (es : List (ℕ × ℕ)) → IsStrictlySortedBy nat_cmp (keys_of es) → map (context_in tick) (set_value (is_at (nat_cmp c)) es tick) ≡ map (dried c) (map (context_in tick) es)
one_dried tick c [] o = refl
one_dried tick c (e ∷ es) o = go (is_at (nat_cmp c) e.0) (at_is c e.0) (one_dried tick c es (sorted_tail nat_cmp e.0 (keys_of es) o))
  where
    go : (a : Bool) → a ≡ (e.0 == c) → map (context_in tick) (set_value (is_at (nat_cmp c)) es tick) ≡ map (dried c) (map (context_in tick) es)
        → map (context_in tick) (cond a ((e.0, tick) ∷ es) (e ∷ set_value (is_at (nat_cmp c)) es tick)) ≡ dried c (context_in tick e) ∷ map (dried c) (map (context_in tick) es)
    go true h again = pair (now_dried tick c e (sym h)) (others_dried tick c e.0 es (equal_of e.0 c (sym h)) (sorted_head nat_cmp e.0 (keys_of es) o))
    go false h again = pair (same_dried tick c e (sym h)) again

-- a context that isn't open has no entry
pub none_dried : (tick c : ℕ) (es : List (ℕ × ℕ)) → lookup (is_at (nat_cmp c)) es ≡ None → map (context_in tick) es ≡ map (dried c) (map (context_in tick) es)
none_dried tick c [] h = refl
none_dried tick c (e ∷ es) h = go (is_at (nat_cmp c) e.0) (at_is c e.0) h (none_dried tick c es)
  where
    go : (a : Bool) → a ≡ (e.0 == c) → cond a (Some e.1) (lookup (is_at (nat_cmp c)) es) ≡ None → (lookup (is_at (nat_cmp c)) es ≡ None → map (context_in tick) es ≡ map (dried c) (map (context_in tick) es)) → map (context_in tick) (e ∷ es) ≡ map (dried c) (map (context_in tick) (e ∷ es))
    go true f h again = absurd cc
    go false f h again = pair (same_dried tick c e (sym f)) (again h)

ticks_set : (P : ℕ → Bool) (tick : ℕ) (es : List (ℕ × ℕ)) → AreUpTo tick es → AreUpTo tick (set_value P es tick)
ticks_set P tick [] h = h
ticks_set P tick (e ∷ es) h = go (P e.0) (ticks_set P tick es h.1)
  where
    go : (b : Bool) → AreUpTo tick (set_value P es tick) → AreUpTo tick (cond b ((e.0, tick) ∷ es) (e ∷ set_value P es tick))
    go true k = (omega arith, h.1)
    go false k = (h.0, k)

pub one_by_tick : (P : ℕ → Bool) (tick : ℕ) (es : List (ℕ × ℕ)) → AreByTick tick es → AreByTick tick (set_value P es tick)
one_by_tick P tick es h = record { ticks = ticks_set P tick es h.ticks; begun = h.begun }

-- ---- A tick

ticks_on : (tick : ℕ) (es : List (ℕ × ℕ)) → AreUpTo tick es → AreUpTo (tick + 1) es
ticks_on tick [] h = h
ticks_on tick (e ∷ es) h = (omega (arith, h.0), ticks_on tick es h.1)

pub next_by_tick : (tick : ℕ) (es : List (ℕ × ℕ)) → AreByTick tick es → AreByTick (tick + 1) es
next_by_tick tick es h = record { ticks = ticks_on tick es h.ticks; begun = omega (arith, h.begun) }

pub next_view : (tick : ℕ) (es : List (ℕ × ℕ)) → AreUpTo tick es → map (context_in (tick + 1)) es ≡ map wetted (map (context_in tick) es)
next_view tick [] h = refl
next_view tick (e ∷ es) h = pair (ap (context e.0) (below e.1 (tick + 1) (omega (arith, h.0)))) (next_view tick es h.1)

ticks_anew : (es : List (ℕ × ℕ)) → AreUpTo 1 (with_all 0 es)
ticks_anew [] = tt
ticks_anew (e ∷ es) = (omega arith, ticks_anew es)

pub anew_by_tick : (es : List (ℕ × ℕ)) → AreByTick 1 (with_all 0 es)
anew_by_tick es = record { ticks = ticks_anew es; begun = omega arith }

pub anew_view : (tick : ℕ) (es : List (ℕ × ℕ)) → map (context_in 1) (with_all 0 es) ≡ map wetted (map (context_in tick) es)
anew_view tick [] = refl
anew_view tick (e ∷ es) = ap (λ (rest : List ReqContextView). context e.0 false ∷ rest) (anew_view tick es)

-- ---- One more, and one fewer

pub more_view : (tick c : ℕ) (es : List (ℕ × ℕ)) → 1 ≤ tick → map (context_in tick) (es ++ (c, 0) ∷ []) ≡ map (context_in tick) es ++ record { ctx = c; is_dry = false } ∷ []
more_view tick c [] l = ap (λ (b : Bool). context c b ∷ []) (below 0 tick (omega (arith, l)))
more_view tick c (e ∷ es) l = ap (λ (rest : List ReqContextView). context_in tick e ∷ rest) (more_view tick c es l)

ticks_more : (tick c : ℕ) (es : List (ℕ × ℕ)) → AreUpTo tick es → AreUpTo tick (insert_entry nat_cmp es c 0)
ticks_more tick c [] h = (omega arith, tt)
ticks_more tick c (e ∷ es) h = go (nat_cmp c e.0) (ticks_more tick c es h.1)
  where
    go : (o : Ordering) → AreUpTo tick (insert_entry nat_cmp es c 0) → AreUpTo tick (match_ordering o ((c, 0) ∷ e ∷ es) ((e.0, 0) ∷ es) (e ∷ insert_entry nat_cmp es c 0))
    go Less k = (omega arith, h)
    go Equal k = (omega arith, h.1)
    go Greater k = (h.0, k)

pub more_by_tick : (tick c : ℕ) (es : List (ℕ × ℕ)) → AreByTick tick es → AreByTick tick (insert_entry nat_cmp es c 0)
more_by_tick tick c es h = record { ticks = ticks_more tick c es h.ticks; begun = h.begun }

ticks_less : (P : ℕ → Bool) (tick : ℕ) (es : List (ℕ × ℕ)) → AreUpTo tick es → AreUpTo tick (remove_entry P es)
ticks_less P tick [] h = h
ticks_less P tick (e ∷ es) h = go (P e.0) (ticks_less P tick es h.1)
  where
    go : (b : Bool) → AreUpTo tick (remove_entry P es) → AreUpTo tick (cond b es (e ∷ remove_entry P es))
    go true k = h.1
    go false k = (h.0, k)

pub less_by_tick : (P : ℕ → Bool) (tick : ℕ) (es : List (ℕ × ℕ)) → AreByTick tick es → AreByTick tick (remove_entry P es)
less_by_tick P tick es h = record { ticks = ticks_less P tick es h.ticks; begun = h.begun }

-- ---- The contexts as they are seen, where n is the context's number

abbrev pub seen : ℕ → List (ℕ × ℕ) → ReqContextsView
seen tick es = record { items = map (context_in tick) es }

module _ (n c tick : ℕ) (v : ReqContextsView) (es : List (ℕ × ℕ)) (same : n ≡ c) (e : seen tick es ≡ v) where
  pub dry_is : IsStrictlySortedBy nat_cmp (keys_of es) → (o : Option ℕ) → lookup (is_at (nat_cmp n)) es ≡ o → dry_found tick o ≡ dry_at c v.items
  dry_is o r h = ap (dry_found tick) (sym h) ∙ dry_seen tick n es o ∙ ap (λ (u : ReqContextsView). dry_at n u.items) e ∙ ap (λ (m : ℕ). dry_at m v.items) same

  pub dried_view : (fs : List (ℕ × ℕ)) → map (context_in tick) fs ≡ map (dried n) (map (context_in tick) es) → map (context_in tick) fs ≡ map (dried c) v.items
  dried_view fs h = h ∙ ap (λ (u : ReqContextsView). map (dried n) u.items) e ∙ ap (λ (m : ℕ). map (dried m) v.items) same

-- Timers in order, and the deadlines that they make.
use Rattle.std.proofs.Common.{◌≡◌, refl, ap, sym, ◌∙◌, List, [], ◌∷◌, ◌++◌, ℕ, Bool, true, false, cond, arith}
use Rattle.std.specs.Prelude.{map, filter, not, ◌&&◌, ◌||◌, ◌==◌, nat_lt}
use Rattle.std.specs.List.{AllByRecursion as Each}
use Rattle.std.proofs.lemmas.Bool.Decides.{nat_tests}
use Rattle.aio_expire.specs.declared.deadlines.Deadline.{Deadline}
use Rattle.aio_expire.specs.Schedule.{is_before, put_in, others_than, count_of}
use Rattle.sp_history.specs.declared.parts.Timer.{Timer}
use Rattle.sp_history.specs.Past.{is_earlier, put_in_order, by_deadline}
use Rattle.core_state.specs.OperationsStand.{deadline_of, deadlines_of}

-- ---- Earlier

times_trans : (a s b t c u : ℕ) → (nat_lt a b || (a == b && nat_lt s t)) ≡ true → (nat_lt b c || (b == c && nat_lt t u)) ≡ true → (nat_lt a c || (a == c && nat_lt s u)) ≡ true
times_trans a s b t c u p q = grind (arith, nat_tests)

times_other : (a s b t : ℕ) → (nat_lt a b || (a == b && nat_lt s t)) ≡ true → (nat_lt b a || (b == a && nat_lt t s)) ≡ false
times_other a s b t p = grind (arith, nat_tests)

times_total : (a s b t : ℕ) → (nat_lt a b || (a == b && nat_lt s t)) ≡ false → (s == t) ≡ false → (nat_lt b a || (b == a && nat_lt t s)) ≡ true
times_total a s b t p q = grind (arith, nat_tests)

times_late : (a s b t c u : ℕ) → (nat_lt a b || (a == b && nat_lt s t)) ≡ true → (nat_lt c b || (c == b && nat_lt u t)) ≡ false → (nat_lt a c || (a == c && nat_lt s u)) ≡ true
times_late a s b t c u p q = grind (arith, nat_tests)

trans : (d e x : Timer) → is_earlier d e ≡ true → is_earlier e x ≡ true → is_earlier d x ≡ true
trans d e x p q = times_trans d.due d.op.slot e.due e.op.slot x.due x.op.slot p q

other : (d e : Timer) → is_earlier d e ≡ true → is_earlier e d ≡ false
other d e p = times_other d.due d.op.slot e.due e.op.slot p

total : (d e : Timer) → is_earlier d e ≡ false → (d.op.slot == e.op.slot) ≡ false → is_earlier e d ≡ true
total d e p q = times_total d.due d.op.slot e.due e.op.slot p q

late : (d e x : Timer) → is_earlier d e ≡ true → is_earlier x e ≡ false → is_earlier d x ≡ true
late d e x p q = times_late d.due d.op.slot e.due e.op.slot x.due x.op.slot p q

-- ---- Sorted

pub Each-weaker : {X : Type 0} (P Q : X → Type 0) → ((x : X) → P x → Q x) → (xs : List X) → Each P xs → Each Q xs
Each-weaker P Q w [] h = tt
Each-weaker P Q w (x ∷ xs) h = (w x h.0, Each-weaker P Q w xs h.1)

pub Each-filter : {X : Type 0} (P : X → Type 0) (p : X → Bool) (xs : List X) → Each P xs → Each P (filter p xs)
Each-filter P p [] h = tt
Each-filter P p (x ∷ xs) h = go (p x) (Each-filter P p xs h.1)
  where
    go : (b : Bool) → Each P (filter p xs) → Each P (cond b (x ∷ filter p xs) (filter p xs))
    go true again = (h.0, again)
    go false again = again

Each-put : (P : Timer → Type 0) (d : Timer) (ts : List Timer) → P d → Each P ts → Each P (put_in_order d ts)
Each-put P d [] p h = (p, tt)
Each-put P d (e ∷ ts) p h = go (is_earlier d e) (Each-put P d ts p h.1)
  where
    go : (b : Bool) → Each P (put_in_order d ts) → Each P (cond b (d ∷ e ∷ ts) (e ∷ put_in_order d ts))
    go true again = (p, h)
    go false again = (h.0, again)

Each-by_deadline : (P : Timer → Type 0) (ts : List Timer) → Each P ts → Each P (by_deadline ts)
Each-by_deadline P [] h = tt
Each-by_deadline P (d ∷ ts) h = Each-put P d (by_deadline ts) h.0 (Each-by_deadline P ts h.1)

-- none is earlier than those before it
abbrev Sorted : List Timer → Type 0
Sorted [] = Unit {0}
Sorted (d ∷ ts) = Each (λ x. is_earlier x d ≡ false) ts × Sorted ts

sorted_put : (d : Timer) (ts : List Timer) → Sorted ts → Sorted (put_in_order d ts)
sorted_put d [] h = (tt, tt)
sorted_put d (e ∷ ts) h = go (is_earlier d e) refl (sorted_put d ts h.1)
  where
    go : (b : Bool) → is_earlier d e ≡ b → Sorted (put_in_order d ts) → Sorted (cond b (d ∷ e ∷ ts) (e ∷ put_in_order d ts))
    go true f again =
        ((other d e f, Each-weaker (λ (x : Timer). is_earlier x e ≡ false) (λ (x : Timer). is_earlier x d ≡ false) (λ x k. other d x (late d e x f k)) ts h.0), h)
    go false f again = (Each-put (λ x. is_earlier x e ≡ false) d ts f h.0, again)

sorted : (ts : List Timer) → Sorted (by_deadline ts)
sorted [] = tt
sorted (d ∷ ts) = sorted_put d (by_deadline ts) (sorted ts)

-- ---- Where one more goes

put_first : (d : Timer) (ts : List Timer) → Each (λ x. is_earlier d x ≡ true) ts → put_in_order d ts ≡ d ∷ ts
put_first d [] h = refl
put_first d (e ∷ ts) h = ap (λ (b : Bool). cond b (d ∷ e ∷ ts) (e ∷ put_in_order d ts)) h.0

all_late : (d e : Timer) (ts : List Timer) → is_earlier d e ≡ true → Each (λ x. is_earlier x e ≡ false) ts → Each (λ x. is_earlier d x ≡ true) (e ∷ ts)
all_late d e ts f h = (f, Each-weaker (λ (x : Timer). is_earlier x e ≡ false) (λ (x : Timer). is_earlier d x ≡ true) (λ x k. late d e x f k) ts h)

filter_put : (p : Timer → Bool) (d : Timer) (ts : List Timer) → Sorted ts → filter p (put_in_order d ts) ≡ cond (p d) (put_in_order d (filter p ts)) (filter p ts)
filter_put p d [] h = refl
filter_put p d (e ∷ ts) h = filter_cond (is_earlier d e) (d ∷ e ∷ ts) (e ∷ put_in_order d ts) ∙ go (is_earlier d e) refl (p d) (p e) refl (filter_put p d ts h.1)
  where
    filter_cond : (b : Bool) (xs ys : List Timer) → filter p (cond b xs ys) ≡ cond b (filter p xs) (filter p ys)
    filter_cond true xs ys = refl
    filter_cond false xs ys = refl

    go : (b : Bool) → is_earlier d e ≡ b → (c k : Bool) → p e ≡ k → filter p (put_in_order d ts) ≡ cond c (put_in_order d (filter p ts)) (filter p ts)
        → cond b (cond c (d ∷ cond k (e ∷ filter p ts) (filter p ts)) (cond k (e ∷ filter p ts) (filter p ts))) (cond k (e ∷ filter p (put_in_order d ts)) (filter p (put_in_order d ts)))
        ≡ cond c (put_in_order d (cond k (e ∷ filter p ts) (filter p ts))) (cond k (e ∷ filter p ts) (filter p ts))
    go true f true true q again = sym (put_first d (e ∷ filter p ts) (f, Each-filter _ p ts (all_late d e ts f h.0).1))
    go true f true false q again = sym (put_first d (filter p ts) (Each-filter _ p ts (all_late d e ts f h.0).1))
    go true f false k q again = refl
    go false f true true q again = ap (λ (xs : List Timer). e ∷ xs) again ∙ sym (ap (λ (b : Bool). cond b (d ∷ e ∷ filter p ts) (e ∷ put_in_order d (filter p ts))) f)
    go false f true false q again = again
    go false f false true q again = ap (λ (xs : List Timer). e ∷ xs) again
    go false f false false q again = again

pub filter_by_deadline : (p : Timer → Bool) (ts : List Timer) → filter p (by_deadline ts) ≡ by_deadline (filter p ts)
filter_by_deadline p [] = refl
filter_by_deadline p (d ∷ ts) = filter_put p d (by_deadline ts) (sorted ts) ∙ go (p d) (filter_by_deadline p ts)
  where
    go : (b : Bool) → filter p (by_deadline ts) ≡ by_deadline (filter p ts) → cond b (put_in_order d (filter p (by_deadline ts))) (filter p (by_deadline ts)) ≡ by_deadline (cond b (d ∷ filter p ts) (filter p ts))
    go true again = ap (put_in_order d) again
    go false again = again

-- ---- Two that are put in

turned : (d x : Timer) → (d.op.slot == x.op.slot) ≡ false → is_earlier x d ≡ not (is_earlier d x)
turned d x apart = go (is_earlier d x) refl
  where
    go : (b : Bool) → is_earlier d x ≡ b → is_earlier x d ≡ not b
    go true f = other d x f
    go false f = total d x f apart

not_between : (x d e : Timer) → is_earlier d e ≡ true → is_earlier x e ≡ false → is_earlier x d ≡ false
not_between x d e f g = other d x (late d e x f g)

put_swap : (d x : Timer) (ts : List Timer) → (d.op.slot == x.op.slot) ≡ false → put_in_order x (put_in_order d ts) ≡ put_in_order d (put_in_order x ts)
put_swap d x [] apart = rw (turned d x apart) (go (is_earlier d x))
  where
    go : (b : Bool) → cond (not b) (x ∷ d ∷ []) (d ∷ x ∷ []) ≡ cond b (d ∷ x ∷ []) (x ∷ d ∷ [])
    go true = refl
    go false = refl
put_swap d x (e ∷ ts) apart = go (is_earlier d e) refl (is_earlier x e) refl (put_swap d x ts apart)
  where
    both : (b : Bool) → is_earlier x d ≡ not b → cond (is_earlier x d) (x ∷ d ∷ e ∷ ts) (d ∷ x ∷ e ∷ ts) ≡ cond b (d ∷ x ∷ e ∷ ts) (x ∷ d ∷ e ∷ ts)
    both true f = ap (λ (c : Bool). cond c (x ∷ d ∷ e ∷ ts) (d ∷ x ∷ e ∷ ts)) f
    both false f = ap (λ (c : Bool). cond c (x ∷ d ∷ e ∷ ts) (d ∷ x ∷ e ∷ ts)) f

    go : (b : Bool) → is_earlier d e ≡ b → (c : Bool) → is_earlier x e ≡ c → put_in_order x (put_in_order d ts) ≡ put_in_order d (put_in_order x ts)
        → put_in_order x (cond b (d ∷ e ∷ ts) (e ∷ put_in_order d ts)) ≡ put_in_order d (cond c (x ∷ e ∷ ts) (e ∷ put_in_order x ts))
    go true f true g again =
        rw (f, g) (both (is_earlier d x) (turned d x apart))
    go true f false g again =
        let no = not_between x d e f g in
        rw (f, g, no) refl
    go false f true g again =
        let no = not_between d x e g f in
        rw (f, g, no) refl
    go false f false g again = rw (f, g) (ap (λ (xs : List Timer). e ∷ xs) again)

pub by_deadline_push : (ts : List Timer) (d : Timer) → Each (λ x. (d.op.slot == x.op.slot) ≡ false) ts → by_deadline (ts ++ d ∷ []) ≡ put_in_order d (by_deadline ts)
by_deadline_push [] d h = refl
by_deadline_push (x ∷ ts) d h = ap (put_in_order x) (by_deadline_push ts d h.1) ∙ put_swap d x (by_deadline ts) h.0

-- ---- Deadlines

none_before : (d : Timer) (ts : List Timer) → Each (λ x. is_earlier x d ≡ false) ts → filter (λ x. is_before x (deadline_of d)) (map deadline_of ts) ≡ []
none_before d [] h = refl
none_before d (e ∷ ts) h = rw h.0 (none_before d ts h.1)

all_after : (d : Timer) (ts : List Timer) → Each (λ x. is_earlier x d ≡ false) ts → filter (λ x. not (is_before x (deadline_of d))) (map deadline_of ts) ≡ map deadline_of ts
all_after d [] h = refl
all_after d (e ∷ ts) h = rw h.0 (ap (λ (xs : List Deadline). deadline_of e ∷ xs) (all_after d ts h.1))

map_put : (d : Timer) (ts : List Timer) → Sorted ts → Each (λ x. (d.op.slot == x.op.slot) ≡ false) ts → map deadline_of (put_in_order d ts) ≡ put_in (deadline_of d) (map deadline_of ts)
map_put d [] h apart = refl
map_put d (e ∷ ts) h apart = go (is_earlier d e) refl (map_put d ts h.1 apart.1)
  where
    go : (b : Bool) → is_earlier d e ≡ b → map deadline_of (put_in_order d ts) ≡ put_in (deadline_of d) (map deadline_of ts) → map deadline_of (cond b (d ∷ e ∷ ts) (e ∷ put_in_order d ts)) ≡ put_in (deadline_of d) (map deadline_of (e ∷ ts))
    go true f again =
        let after : Each (λ (x : Timer). is_earlier x d ≡ false) (e ∷ ts) = Each-weaker (λ (x : Timer). is_earlier d x ≡ true) (λ (x : Timer). is_earlier x d ≡ false) (λ x k. other d x k) (e ∷ ts) (all_late d e ts f h.0) in
        sym (λ i. none_before d (e ∷ ts) after i ++ deadline_of d ∷ all_after d (e ∷ ts) after i)
    go false f again =
        let before : is_earlier e d ≡ true = total d e f apart.0 in
        rw before (ap (λ (xs : List Deadline). deadline_of e ∷ xs) again)

map_others : (slot : ℕ) (ts : List Timer) → others_than slot (map deadline_of ts) ≡ map deadline_of (filter (λ t. not (t.op.slot == slot)) ts)
map_others slot [] = refl
map_others slot (e ∷ ts) = go (e.op.slot == slot) (map_others slot ts)
  where
    go : (b : Bool) → others_than slot (map deadline_of ts) ≡ map deadline_of (filter (λ t. not (t.op.slot == slot)) ts)
        → cond (not b) (deadline_of e ∷ others_than slot (map deadline_of ts)) (others_than slot (map deadline_of ts)) ≡ map deadline_of (cond (not b) (e ∷ filter (λ t. not (t.op.slot == slot)) ts) (filter (λ t. not (t.op.slot == slot)) ts))
    go true again = again
    go false again = ap (λ (xs : List Deadline). deadline_of e ∷ xs) again

none_of : (slot : ℕ) (ts : List Timer) → Each (λ x. (x.op.slot == slot) ≡ false) ts → count_of slot (map deadline_of ts) ≡ 0
none_of slot [] h = refl
none_of slot (e ∷ ts) h = rw h.0 (none_of slot ts h.1)

-- one more, whose slot has none
pub deadlines_put : (ts : List Timer) (d : Timer) → Each (λ x. (d.op.slot == x.op.slot) ≡ false) ts → deadlines_of (ts ++ d ∷ []) ≡ put_in (deadline_of d) (deadlines_of ts)
deadlines_put ts d h =
    ap (map deadline_of) (by_deadline_push ts d h) ∙ map_put d (by_deadline ts) (sorted ts) (Each-by_deadline _ ts h)

-- without those of a slot
pub deadlines_others : (slot : ℕ) (ts : List Timer) → others_than slot (deadlines_of ts) ≡ deadlines_of (filter (λ t. not (t.op.slot == slot)) ts)
deadlines_others slot ts = map_others slot (by_deadline ts) ∙ ap (map deadline_of) (filter_by_deadline (λ t. not (t.op.slot == slot)) ts)

pub deadlines_none : (slot : ℕ) (ts : List Timer) → Each (λ x. (x.op.slot == slot) ≡ false) ts → count_of slot (deadlines_of ts) ≡ 0
deadlines_none slot ts h = none_of slot (by_deadline ts) (Each-by_deadline _ ts h)

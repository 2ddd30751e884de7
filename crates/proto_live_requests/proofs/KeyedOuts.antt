-- What went out, as keys of two ordered sets: by time and by pipe.
use Rattle.std.proofs.Common.{◌≡◌, refl, ap, sym, ◌∙◌, subst, List, [], ◌∷◌, ℕ, ◌+◌, ◌≤◌, Bool, true, false, cond, arith, map, filter, length, Ordering, Less, Equal, Greater, Result, Ok, Err}
use Rattle.std.specs.Prelude.{nat_lt, ◌&&◌, ◌||◌, ◌==◌, OnOk, is_err}
use Rattle.std.specs.List.{list_any}
use Rattle.std.specs.Ordering.{is_eq, is_gt, nat_cmp, ordering_then}
use Rattle.std.specs.BTreeSet.{BTreeSet, IsKeyRangeOf}
use Rattle.std.specs.declared.ops.Bound.TheVariants.{Included, Unbounded}
use Rattle.std.proofs.lemmas.Bool.Decides.{nat_tests}
use Rattle.sp_history.specs.declared.parts.LastOut.{LastOut}
use Rattle.proto_live_requests.specs.declared.outs.SentOut.{SentOut}
use Rattle.proto_live_requests.specs.Outs.{AreFrom, AreSame, AreSince, IsSet, NoneOn, is_entry, is_sent, out_in, piped, timed}
use Rattle.proto_requests.proofs.TestValues.{equal_of, same_number, turned}

-- keys compare number by number
abbrev pub key_cmp : ℕ × ℕ × ℕ → ℕ × ℕ × ℕ → Ordering
key_cmp x y = ordering_then (ordering_then (nat_cmp x.0 y.0) (nat_cmp x.1 y.1)) (nat_cmp x.2 y.2)

abbrev pub has_key : ℕ × ℕ × ℕ → List (ℕ × ℕ × ℕ) → Bool
has_key q ks = list_any (λ k. is_eq (key_cmp q k)) ks

abbrev pub time_key : ℕ → LastOut → ℕ × ℕ × ℕ
time_key c o = (o.when, o.pipe, c)

abbrev pub pipe_key : ℕ → LastOut → ℕ × ℕ × ℕ
pipe_key c o = (o.pipe, c, o.when)

-- ---- Two keys

both_eq : (a b : Ordering) → is_eq (ordering_then a b) ≡ (is_eq a && is_eq b)
both_eq Less b = refl
both_eq Equal b = refl
both_eq Greater b = refl

same_cmp : (m n : ℕ) → is_eq (nat_cmp m n) ≡ (m == n)
same_cmp m n = go (nat_lt m n) refl (m == n) refl
  where
    apart : nat_lt m n ≡ true → (m == n) ≡ true → ⊥
    apart e f = grind (arith, nat_tests)

    go : (a : Bool) → nat_lt m n ≡ a → (b : Bool) → (m == n) ≡ b → is_eq (cond a Less (cond b Equal Greater)) ≡ b
    go true e true f = absurd (apart e f)
    go true e false f = refl
    go false e true f = refl
    go false e false f = refl

key_eq : (a b c d e f : ℕ) → is_eq (key_cmp (a, b, c) (d, e, f)) ≡ (((a == d) && (b == e)) && (c == f))
key_eq a b c d e f =
    both_eq (ordering_then (nat_cmp a d) (nat_cmp b e)) (nat_cmp c f) ∙ ap (λ x. x && is_eq (nat_cmp c f)) (both_eq (nat_cmp a d) (nat_cmp b e)) ∙ ap (λ x. (x && is_eq (nat_cmp b e)) && is_eq (nat_cmp c f)) (same_cmp a d)
    ∙ ap (λ x. ((a == d) && x) && is_eq (nat_cmp c f)) (same_cmp b e) ∙ ap (λ x. ((a == d) && (b == e)) && x) (same_cmp c f)

turn : (m n : ℕ) → (m == n) ≡ (n == m)
turn m n = sym (turned m n (m == n) refl)

turned_eq : (x y : ℕ × ℕ × ℕ) → is_eq (key_cmp x y) ≡ is_eq (key_cmp y x)
turned_eq x y =
    key_eq x.0 x.1 x.2 y.0 y.1 y.2 ∙ ap (λ b. (b && (x.1 == y.1)) && (x.2 == y.2)) (turn x.0 y.0) ∙ ap (λ b. ((y.0 == x.0) && b) && (x.2 == y.2)) (turn x.1 y.1) ∙ ap (λ b. ((y.0 == x.0) && (y.1 == x.1)) && b) (turn x.2 y.2)
    ∙ sym (key_eq y.0 y.1 y.2 x.0 x.1 x.2)

by_time : (a b c : Bool) → (a && (b && c)) ≡ ((c && b) && a)
by_time true true true = refl
by_time true true false = refl
by_time true false true = refl
by_time true false false = refl
by_time false true true = refl
by_time false true false = refl
by_time false false true = refl
by_time false false false = refl

by_pipe : (a b c : Bool) → (a && (b && c)) ≡ ((b && a) && c)
by_pipe true true true = refl
by_pipe true true false = refl
by_pipe true false true = refl
by_pipe true false false = refl
by_pipe false true true = refl
by_pipe false true false = refl
by_pipe false false true = refl
by_pipe false false false = refl

-- it is this key
pub timed_is : (c : ℕ) (o : LastOut) (k : ℕ × ℕ × ℕ) → is_sent c o (timed k) ≡ is_eq (key_cmp k (time_key c o))
timed_is c o k = by_time (k.2 == c) (k.1 == o.pipe) (k.0 == o.when) ∙ sym (key_eq k.0 k.1 k.2 o.when o.pipe c)

pub piped_is : (c : ℕ) (o : LastOut) (k : ℕ × ℕ × ℕ) → is_sent c o (piped k) ≡ is_eq (key_cmp k (pipe_key c o))
piped_is c o k = by_pipe (k.1 == c) (k.0 == o.pipe) (k.2 == o.when) ∙ sym (key_eq k.0 k.1 k.2 o.pipe c o.when)

-- ---- Keys of a set, seen as entries

module _ (see : ℕ × ℕ × ℕ → SentOut) (key : ℕ → LastOut → ℕ × ℕ × ℕ) (is : (c : ℕ) (o : LastOut) (k : ℕ × ℕ × ℕ) → is_sent c o (see k) ≡ is_eq (key_cmp k (key c o))) where
  pub any_seen : (c : ℕ) (o : LastOut) (ks : List (ℕ × ℕ × ℕ)) → list_any (is_sent c o) (map see ks) ≡ has_key (key c o) ks
  any_seen c o [] = refl
  any_seen c o (k ∷ ks) = ap (λ b. b || list_any (is_sent c o) (map see ks)) (is c o k ∙ turned_eq k (key c o)) ∙ ap (λ b. is_eq (key_cmp (key c o) k) || b) (any_seen c o ks)

  -- one key is added, or removed
  pub seen_set : (b : Bool) (k : ℕ × ℕ × ℕ) (old new : List (ℕ × ℕ × ℕ)) → ((q : ℕ × ℕ × ℕ) → has_key q new ≡ cond (is_eq (key_cmp k q)) b (has_key q old)) → IsSet b (see k) (map see old) (map see new)
  seen_set b k old new u c o =
      any_seen c o new ∙ u (key c o) ∙ ap (λ x. cond x b (has_key (key c o) old)) (sym (is c o k)) ∙ ap (λ x. cond (is_sent c o (see k)) b x) (sym (any_seen c o old))

  -- those that pass a test stay
  pub seen_kept : (keep : SentOut → Bool) (old new : List (ℕ × ℕ × ℕ)) → new ≡ filter (λ k. keep (see k)) old → map see new ≡ filter keep (map see old)
  seen_kept keep old new e = ap (map see) e ∙ go old
    where
      go : (ks : List (ℕ × ℕ × ℕ)) → map see (filter (λ k. keep (see k)) ks) ≡ filter keep (map see ks)
      go [] = refl
      go (k ∷ ks) = step (keep (see k)) (go ks)
        where
          step : (b : Bool) → map see (filter (λ k. keep (see k)) ks) ≡ filter keep (map see ks) → map see (cond b (k ∷ filter (λ k. keep (see k)) ks) (filter (λ k. keep (see k)) ks)) ≡ cond b (see k ∷ filter keep (map see ks)) (filter keep (map see ks))
          step true h = ap (λ (es : List SentOut). see k ∷ es) h
          step false h = h

pub time_set : (b : Bool) (k : ℕ × ℕ × ℕ) (old new : List (ℕ × ℕ × ℕ)) → ((q : ℕ × ℕ × ℕ) → has_key q new ≡ cond (is_eq (key_cmp k q)) b (has_key q old)) → IsSet b (timed k) (map timed old) (map timed new)
time_set = seen_set timed time_key timed_is

pub pipe_set : (b : Bool) (k : ℕ × ℕ × ℕ) (old new : List (ℕ × ℕ × ℕ)) → ((q : ℕ × ℕ × ℕ) → has_key q new ≡ cond (is_eq (key_cmp k q)) b (has_key q old)) → IsSet b (piped k) (map piped old) (map piped new)
pipe_set = seen_set piped pipe_key piped_is

-- ---- The two sets

-- both stay the same where both change alike
pub same_set : (b : Bool) (e : SentOut) (ts us ps qs : List SentOut) → AreSame ts ps → IsSet b e ts us → IsSet b e ps qs → AreSame us qs
same_set b e ts us ps qs s t p c o = t c o ∙ ap (λ x. cond (is_sent c o e) b x) (s c o) ∙ sym (p c o)

any_kept : (keep : SentOut → Bool) (c : ℕ) (o : LastOut) (es : List SentOut) → list_any (is_sent c o) (filter keep es) ≡ (keep (record { ctx = c; pipe = o.pipe; when = o.when }) && list_any (is_sent c o) es)
any_kept keep c o [] = shut (keep (record { ctx = c; pipe = o.pipe; when = o.when }))
  where
    shut : (b : Bool) → false ≡ (b && false)
    shut true = refl
    shut false = refl
any_kept keep c o (e ∷ es) = go (is_sent c o e) refl (keep e) refl (any_kept keep c o es)
  where
    it : SentOut
    it = record { ctx = c; pipe = o.pipe; when = o.when }

    first_of : (a b : Bool) → (a && b) ≡ true → a ≡ true
    first_of true b h = refl
    first_of false b h = absurd cc

    second_of : (a b : Bool) → (a && b) ≡ true → b ≡ true
    second_of true b h = h
    second_of false b h = absurd cc

    alike : is_sent c o e ≡ true → e ≡ it
    alike h =
        let r = second_of (e.ctx == c) _ h in
        ap (λ n. record { ctx = n; pipe = e.pipe; when = e.when }) (equal_of e.ctx c (first_of (e.ctx == c) _ h)) ∙ ap (λ n. record { ctx = c; pipe = n; when = e.when }) (equal_of e.pipe o.pipe (first_of (e.pipe == o.pipe) _ r))
        ∙ ap (λ n. record { ctx = c; pipe = o.pipe; when = n }) (equal_of e.when o.when (second_of (e.pipe == o.pipe) _ r))

    all : (b : Bool) → (b && true) ≡ b
    all true = refl
    all false = refl

    go : (a : Bool) → is_sent c o e ≡ a → (b : Bool) → keep e ≡ b → list_any (is_sent c o) (filter keep es) ≡ (keep it && list_any (is_sent c o) es) → list_any (is_sent c o) (cond b (e ∷ filter keep es) (filter keep es)) ≡ (keep it && (a || list_any (is_sent c o) es))
    go true q true r k = ap (λ x. x || list_any (is_sent c o) (filter keep es)) q ∙ sym (ap (λ x. x && true) (ap keep (sym (alike q)) ∙ r))
    go true q false r k = k ∙ ap (λ x. x && list_any (is_sent c o) es) (ap keep (sym (alike q)) ∙ r) ∙ sym (ap (λ x. x && true) (ap keep (sym (alike q)) ∙ r))
    go false q true r k = ap (λ x. x || list_any (is_sent c o) (filter keep es)) q ∙ k
    go false q false r k = k

pub same_kept : (keep : SentOut → Bool) (ts us ps qs : List SentOut) → AreSame ts ps → us ≡ filter keep ts → qs ≡ filter keep ps → AreSame us qs
same_kept keep ts us ps qs s t p c o =
    ap (list_any (is_sent c o)) t ∙ any_kept keep c o ts ∙ ap (λ x. keep (record { ctx = c; pipe = o.pipe; when = o.when }) && x) (s c o) ∙ sym (any_kept keep c o ps) ∙ sym (ap (list_any (is_sent c o)) p)

pub same_none : (ts ps : List (ℕ × ℕ × ℕ)) → ts ≡ [] → ps ≡ [] → AreSame (map timed ts) (map piped ps)
same_none ts ps t p c o = ap (λ (ks : List (ℕ × ℕ × ℕ)). list_any (is_sent c o) (map timed ks)) t ∙ sym (ap (λ (ks : List (ℕ × ℕ × ℕ)). list_any (is_sent c o) (map piped ks)) p)

-- ---- The first

ge_first : (a b d : Ordering) → is_gt (ordering_then (ordering_then a b) d) ≡ false → is_gt a ≡ false
ge_first Less b d h = refl
ge_first Equal b d h = refl
ge_first Greater b d h = absurd cc

le_cmp : (m n : ℕ) → is_gt (nat_cmp m n) ≡ false → m ≤ n
le_cmp m n h = go (nat_lt m n) refl (m == n) refl h
  where
    less : nat_lt m n ≡ true → m ≤ n
    less e = grind (arith, nat_tests)

    same : (m == n) ≡ true → m ≤ n
    same e = grind (arith, nat_tests)

    go : (a : Bool) → nat_lt m n ≡ a → (b : Bool) → (m == n) ≡ b → is_gt (cond a Less (cond b Equal Greater)) ≡ false → m ≤ n
    go true e b f k = less e
    go false e true f k = same f
    go false e false f k = absurd cc

-- the first number of one key is not greater
pub key_first : (x y : ℕ × ℕ × ℕ) → is_gt (key_cmp x y) ≡ false → x.0 ≤ y.0
key_first x y h = le_cmp x.0 y.0 (ge_first (nat_cmp x.0 y.0) (nat_cmp x.1 y.1) (nat_cmp x.2 y.2) h)

-- no key is before the first
pub least_time : (k : ℕ × ℕ × ℕ) (ks : List (ℕ × ℕ × ℕ)) → ((q : ℕ × ℕ × ℕ) → has_key q ks ≡ true → is_gt (key_cmp k q) ≡ false) → AreSince k.0 (map timed ks)
least_time k ks h c o e = key_first k (time_key c o) (h (time_key c o) (sym (any_seen timed time_key timed_is c o ks) ∙ e))

-- no key of a pipe from this one on is before the start of its range
pub from_pipe : (p : ℕ) (c : ℕ) (o : LastOut) → p ≤ o.pipe → is_gt (key_cmp (p, 0, 0) (pipe_key c o)) ≡ false
from_pipe p c o l = go (nat_lt p o.pipe) refl (p == o.pipe) refl
  where
    never : nat_lt p o.pipe ≡ false → (p == o.pipe) ≡ false → ⊥
    never e f = grind (arith, nat_tests)

    zero_first : (n : ℕ) → is_gt (nat_cmp 0 n) ≡ false
    zero_first n = step (nat_lt 0 n) refl (0 == n) refl
      where
        none : nat_lt 0 n ≡ false → (0 == n) ≡ false → ⊥
        none e f = grind (arith, nat_tests)

        step : (a : Bool) → nat_lt 0 n ≡ a → (b : Bool) → (0 == n) ≡ b → is_gt (cond a Less (cond b Equal Greater)) ≡ false
        step true e b f = refl
        step false e true f = refl
        step false e false f = absurd (none e f)

    rest : (a b : Ordering) → is_gt a ≡ false → is_gt b ≡ false → is_gt (ordering_then a b) ≡ false
    rest Less b h k = refl
    rest Equal b h k = k
    rest Greater b h k = h

    go : (a : Bool) → nat_lt p o.pipe ≡ a → (b : Bool) → (p == o.pipe) ≡ b → is_gt (ordering_then (ordering_then (cond a Less (cond b Equal Greater)) (nat_cmp 0 c)) (nat_cmp 0 o.when)) ≡ false
    go true e b f = refl
    go false e true f = rest (nat_cmp 0 c) (nat_cmp 0 o.when) (zero_first c) (zero_first o.when)
    go false e false f = absurd (never e f)

-- ---- The keys from the start of a pipe on

-- what the first of a range is
pub first_in_range : (lo : ℕ × ℕ × ℕ) (s : BTreeSet (ℕ × ℕ × ℕ)) (r t : List (ℕ × ℕ × ℕ)) (k : ℕ × ℕ × ℕ) → r ≡ k ∷ t → IsKeyRangeOf key_cmp (Included lo) Unbounded s r
    → (is_gt (key_cmp lo k) ≡ false) × (has_key k s.keys ≡ true) × ((q : ℕ × ℕ × ℕ) → is_gt (key_cmp lo q) ≡ false → has_key q s.keys ≡ true → is_gt (key_cmp k q) ≡ false)
first_in_range lo s r t k e h = let g = subst (IsKeyRangeOf key_cmp (Included lo) Unbounded s) e h in (g.1.0.0, g.1.1, λ q a b. g.2 q (a, tt) b)

pub first_from_pipe : (p : ℕ) (s : BTreeSet (ℕ × ℕ × ℕ)) (r t : List (ℕ × ℕ × ℕ)) (k : ℕ × ℕ × ℕ) → r ≡ k ∷ t → IsKeyRangeOf key_cmp (Included (p, 0, 0)) Unbounded s r → AreFrom p k.0 (map piped s.keys)
first_from_pipe p s r t k e h =
    let f = first_in_range (p, 0, 0) s r t k e h in (key_first (p, 0, 0) k f.0, λ c o l n. key_first k (pipe_key c o) (f.2 (pipe_key c o) (from_pipe p c o l) (sym (any_seen piped pipe_key piped_is c o s.keys) ∙ n)))

pub none_from_pipe : (p : ℕ) (s : BTreeSet (ℕ × ℕ × ℕ)) (r : List (ℕ × ℕ × ℕ)) → r ≡ [] → IsKeyRangeOf key_cmp (Included (p, 0, 0)) Unbounded s r → NoneOn p (map piped s.keys)
none_from_pipe p s r e h c o n = any_seen piped pipe_key piped_is c o s.keys ∙ h.5 e (pipe_key c o) (from_pipe p c o (omega (arith, n)), tt)

-- the key is among them, so its entry is
pub piped_in : (k : ℕ × ℕ × ℕ) (ks : List (ℕ × ℕ × ℕ)) → has_key k ks ≡ true → list_any (is_entry (piped k)) (map piped ks) ≡ true
piped_in k ks h = any_seen piped pipe_key piped_is k.1 (out_in (piped k)) ks ∙ h

pub timed_in : (k : ℕ × ℕ × ℕ) (ks : List (ℕ × ℕ × ℕ)) → list_any (is_entry (timed k)) (map timed ks) ≡ true → has_key k ks ≡ true
timed_in k ks h = sym (any_seen timed time_key timed_is k.2 (out_in (timed k)) ks) ∙ h

-- ---- One more entry, or one fewer

pub same_entry : (e : SentOut) → is_entry e e ≡ true
same_entry e = both (e.ctx == e.ctx) _ (same_number e.ctx) (both (e.pipe == e.pipe) _ (same_number e.pipe) (same_number e.when))
  where
    both : (a b : Bool) → a ≡ true → b ≡ true → (a && b) ≡ true
    both a b h k = rw (h, k) refl

pub entry_added : (e : SentOut) (old new : List SentOut) (b : Bool) → IsSet true e old new → (b || list_any (is_entry e) new) ≡ true
entry_added e old new b s = last b (s e.ctx (out_in e) ∙ ap (λ x. cond x true (list_any (is_entry e) old)) (same_entry e))
  where
    last : (a : Bool) {d : Bool} → d ≡ true → (a || d) ≡ true
    last true h = refl
    last false h = h

pub one_fewer : (old new : List (ℕ × ℕ × ℕ)) (b : Bool) → length new + cond b 1 0 ≡ length old → b ≡ true → length (map timed new) + 1 ≡ length (map timed old)
one_fewer old new b l e = let n = ap (λ x. length new + cond x 1 0) (sym e) ∙ l in ap (λ x. x + 1) (as_long new) ∙ n ∙ sym (as_long old)
  where
    as_long : (ks : List (ℕ × ℕ × ℕ)) → length (map timed ks) ≡ length ks
    as_long [] = refl
    as_long (k ∷ ks) = let r = as_long ks in omega (arith, r)

pub ok_in : {A E P : Type 0} (r : Result A E) → is_err r ≡ false → OnOk r P → P
ok_in (Ok x) e h = h
ok_in (Err x) e h = absurd cc

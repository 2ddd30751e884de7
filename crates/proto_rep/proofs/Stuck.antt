-- Replies that are passed over, none of which can leave.
use Rattle.std.proofs.Common.{◌≡◌, refl, ap, sym, subst, ◌∙◌, List, [], ◌∷◌, ◌++◌, ℕ, Bool, true, false, cond, Option, Some, None, map, arith}
use Rattle.std.specs.Prelude.{find, filter, not, ◌||◌, ◌==◌}
use Rattle.std.specs.List.{list_any}
use Rattle.std.proofs.lemmas.Bool.Decides.{nat_tests}
use Rattle.proto_requests.specs.Ports.{PortView, marked, is_pipe, way_at, where_is}
use Rattle.proto_requests.specs.declared.ports.Destination.TheVariants as ways
use Rattle.proto_requests.proofs.FirstPlaces.{none_as}
use Rattle.proto_requests.proofs.TestValues.{both_false, or_true}
use Rattle.proto_rep.specs.declared.replies.WaitingReply.{WaitingReply}
use Rattle.proto_rep.specs.declared.rep.Reply.{Reply}
use Rattle.proto_rep.specs.Replies.{RepliesView, AreStuck, StayPassed, can_leave, is_to, isnt_full, key_of, target_of}

pub none_stuck : (raw : Bool) (xs : List PortView) (v : RepliesView) → v.passed ≡ [] → AreStuck raw xs v
none_stuck raw xs v e = ap (list_any (can_leave raw xs)) e

pub stay_stuck : (m n : Reply) → n.ports ≡ m.ports → n.raw ≡ m.raw → StayPassed m.waiting.replies n.waiting.replies → AreStuck m.raw m.ports.items m.waiting.replies → AreStuck n.raw n.ports.items n.waiting.replies
stay_stuck m n p r s h = rw (p, r) (s (can_leave m.raw m.ports.items) h)

-- where one more pipe is full, no more can go
still_full : (p : ℕ) (xs : List PortView) (to : Option ℕ) → isnt_full (where_is (map (marked p) xs) to) ≡ true → isnt_full (where_is xs to) ≡ true
still_full p xs None h = h
still_full p xs (Some q) h = go xs h
  where
    full : (a b : Bool) → isnt_full (cond (a || b) ways.Full (ways.To q)) ≡ true → isnt_full (cond b ways.Full (ways.To q)) ≡ true
    full true b h = absurd cc
    full false b h = h

    go : (xs : List PortView) → isnt_full (way_at q (find (is_pipe q) (map (marked p) xs))) ≡ true → isnt_full (way_at q (find (is_pipe q) xs)) ≡ true
    go [] h = h
    go (x ∷ xs) h = step (x.pipe == q) h (go xs)
      where
        step : (b : Bool) → isnt_full (way_at q (cond b (Some (marked p x)) (find (is_pipe q) (map (marked p) xs)))) ≡ true → (isnt_full (way_at q (find (is_pipe q) (map (marked p) xs))) ≡ true → isnt_full (way_at q (find (is_pipe q) xs)) ≡ true)
            → isnt_full (way_at q (cond b (Some x) (find (is_pipe q) xs))) ≡ true
        step true h again = full (p == x.pipe) x.is_full h
        step false h again = again h

pub marked_stuck : (raw : Bool) (p : ℕ) (xs : List PortView) (v : RepliesView) → AreStuck raw xs v → AreStuck raw (map (marked p) xs) v
marked_stuck raw p xs v h = none_as (can_leave raw xs) (can_leave raw (map (marked p) xs)) v.passed (λ w. still_full p xs (target_of raw w.answer)) h

-- where one more pipe is up, what goes to a full pipe still can't go
full_among : (x : PortView) (xs : List PortView) (to : Option ℕ) → isnt_full (where_is (xs ++ x ∷ []) to) ≡ true → isnt_full (where_is xs to) ≡ true
full_among x xs None h = h
full_among x xs (Some q) h = go xs h
  where
    go : (ys : List PortView) → isnt_full (way_at q (find (is_pipe q) (ys ++ x ∷ []))) ≡ true → isnt_full (way_at q (find (is_pipe q) ys)) ≡ true
    go [] h = refl
    go (y ∷ ys) h = step (y.pipe == q) h (go ys)
      where
        step : (b : Bool) → isnt_full (way_at q (cond b (Some y) (find (is_pipe q) (ys ++ x ∷ [])))) ≡ true → (isnt_full (way_at q (find (is_pipe q) (ys ++ x ∷ []))) ≡ true → isnt_full (way_at q (find (is_pipe q) ys)) ≡ true)
            → isnt_full (way_at q (cond b (Some y) (find (is_pipe q) ys))) ≡ true
        step true h again = h
        step false h again = again h

pub more_stuck : (raw : Bool) (x : PortView) (xs : List PortView) (v : RepliesView) → AreStuck raw xs v → AreStuck raw (xs ++ x ∷ []) v
more_stuck raw x xs v h = none_as (can_leave raw xs) (can_leave raw (xs ++ x ∷ [])) v.passed (λ w. full_among x xs (target_of raw w.answer)) h

-- without a pipe, what goes to another pipe goes as before
others_way : (p q : ℕ) (xs : List PortView) → (q == p) ≡ false → isnt_full (where_is (filter (λ (x : PortView). not (x.pipe == p)) xs) (Some q)) ≡ true → isnt_full (where_is xs (Some q)) ≡ true
others_way p q xs f h = ap (λ (r : Option PortView). isnt_full (way_at q r)) (sym (others xs f)) ∙ h
  where
    differ : (l m n : ℕ) → (l == m) ≡ true → (n == m) ≡ false → (l == n) ≡ false
    differ l m n e f = grind (arith, nat_tests)

    others : (xs : List PortView) → (q == p) ≡ false → find (is_pipe q) (filter (λ (x : PortView). not (x.pipe == p)) xs) ≡ find (is_pipe q) xs
    others [] f = refl
    others (x ∷ xs) f = step (x.pipe == p) refl (others xs f)
      where
        step : (b : Bool) → (x.pipe == p) ≡ b → find (is_pipe q) (filter (λ (y : PortView). not (y.pipe == p)) xs) ≡ find (is_pipe q) xs
            → find (is_pipe q) (cond (not b) (x ∷ filter (λ (y : PortView). not (y.pipe == p)) xs) (filter (λ (y : PortView). not (y.pipe == p)) xs)) ≡ cond (x.pipe == q) (Some x) (find (is_pipe q) xs)
        step true e again = let other : (x.pipe == q) ≡ false = differ x.pipe p q e f in rw other again
        step false e again = ap (λ (r : Option PortView). cond (x.pipe == q) (Some x) r) again

-- without a pipe that isn't full, what goes to a full pipe still can't go
full_without : (p : ℕ) (xs : List PortView) (to : Option ℕ) → isnt_full (where_is xs (Some p)) ≡ true → isnt_full (where_is (filter (λ (x : PortView). not (x.pipe == p)) xs) to) ≡ true → isnt_full (where_is xs to) ≡ true
full_without p xs None k h = h
full_without p xs (Some q) k h = go (q == p) refl
  where
    same : (m n : ℕ) → (m == n) ≡ true → m ≡ n
    same m n e = grind (arith, nat_tests)

    go : (b : Bool) → (q == p) ≡ b → isnt_full (where_is xs (Some q)) ≡ true
    go true e = subst (λ n. isnt_full (where_is xs (Some n)) ≡ true) (sym (same q p e)) k
    go false e = others_way p q xs e h

pub less_stuck : (raw : Bool) (p : ℕ) (xs : List PortView) (v : RepliesView) → isnt_full (where_is xs (Some p)) ≡ true → AreStuck raw xs v → AreStuck raw (filter (λ (x : PortView). not (x.pipe == p)) xs) v
less_stuck raw p xs v k h = none_as (can_leave raw xs) (can_leave raw (filter (λ (x : PortView). not (x.pipe == p)) xs)) v.passed (λ w. full_without p xs (target_of raw w.answer) k) h

-- without a pipe to which none of those that are passed over may go, none of them can go
pub other_stuck : (raw : Bool) (p : ℕ) (xs : List PortView) (v w : RepliesView) → StayPassed v w → list_any (is_to raw p) w.passed ≡ false → AreStuck raw xs v → AreStuck raw (filter (λ (x : PortView). not (x.pipe == p)) xs) w
other_stuck raw p xs v w s n h =
    none_as (λ r. is_to raw p r || can_leave raw xs r) (can_leave raw (filter (λ (x : PortView). not (x.pipe == p)) xs)) w.passed (λ r k. either (target_of raw r.answer) k) (both w.passed n (s (can_leave raw xs) h))
  where
    both : (ws : List WaitingReply) → list_any (is_to raw p) ws ≡ false → list_any (can_leave raw xs) ws ≡ false → list_any (λ r. is_to raw p r || can_leave raw xs r) ws ≡ false
    both [] a b = refl
    both (x ∷ ws) a b =
        let c = both_false (is_to raw p x) (list_any (is_to raw p) ws) a in
        let d = both_false (can_leave raw xs x) (list_any (can_leave raw xs) ws) b in
        ap (λ z. (z || can_leave raw xs x) || list_any (λ r. is_to raw p r || can_leave raw xs r) ws) c.0 ∙ ap (λ z. z || list_any (λ r. is_to raw p r || can_leave raw xs r) ws) d.0 ∙ both ws c.1 d.1

    either : (to : Option ℕ) → isnt_full (where_is (filter (λ (x : PortView). not (x.pipe == p)) xs) to) ≡ true → ((key_of to == key_of (Some p)) || isnt_full (where_is xs to)) ≡ true
    either None k = or_true (key_of None == key_of (Some p))
    either (Some q) k = go (q == p) refl
      where
        as_keys : (b : Bool) → (q == p) ≡ b → (key_of (Some q) == key_of (Some p)) ≡ b
        as_keys true e = grind (arith, nat_tests)
        as_keys false e = grind (arith, nat_tests)

        go : (b : Bool) → (q == p) ≡ b → ((key_of (Some q) == key_of (Some p)) || isnt_full (where_is xs (Some q))) ≡ true
        go true e = ap (λ z. z || isnt_full (where_is xs (Some q))) (as_keys true e)
        go false e = ap (λ z. (key_of (Some q) == key_of (Some p)) || z) (others_way p q xs e k) ∙ or_true (key_of (Some q) == key_of (Some p))

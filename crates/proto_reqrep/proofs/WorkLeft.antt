-- How much is left for a req to offer.
use Rattle.std.proofs.Common.{◌≡◌, refl, ap, sym, ◌∙◌, subst, List, [], ◌∷◌, ℕ, ◌+◌, ◌*◌, ◌<◌, ◌≤◌, Bool, true, false, cond, arith, Some, map, length}
use Rattle.std.specs.Prelude.{find, not, is_some, nat_le, ◌&&◌, ◌||◌, ◌==◌}
use Rattle.std.specs.List.{list_any}
use Rattle.std.proofs.lemmas.Bool.Decides.{nat_tests}
use Rattle.std.proofs.lemmas.Nat.{row_fits, mul-le}
use Rattle.sp_history.specs.Lists.{has}
use Rattle.proto_requests.specs.Ports.{PortView, is_pipe, port_of}
use Rattle.proto_live_requests.specs.declared.live.Live.{Live}
use Rattle.proto_reqrep.specs.declared.req.Asking.{Asking}
use Rattle.std.proofs.lemmas.List.{length-map}
use Rattle.proto_live_requests.specs.ReqContexts.{ReqContextView}
use Rattle.proto_live_requests.specs.LiveRequests.{is_live_on, without_live, sent_at, dry_at, dried}
use Rattle.proto_reqrep.specs.Reqs.{is_late_in, is_due, due_count}
use Rattle.proto_requests.specs.FirstFound.{without_found, with_found}
use Rattle.proto_live_requests.proofs.LiveIndexes.{length_same}

pub count_most : (due : Live → Bool) (xs : List Live) → due_count due xs ≤ length xs
count_most due [] = omega arith
count_most due (x ∷ xs) = go (due x) (count_most due xs)
  where
    go : (b : Bool) → due_count due xs ≤ length xs → cond b (due_count due xs + 1) (due_count due xs) ≤ length (x ∷ xs)
    go true h = omega (arith, h)
    go false h = omega (arith, h)

-- one free pipe fewer, whatever is then due
pub less_free : (f g l d e w : ℕ) → f < g → d ≤ l → f * (l + 1) + d + w < g * (l + 1) + e + w
less_free f g l d e w h k = let row = row_fits f (l + 1) g (l + 1) h (omega arith) in omega (arith, row, k)

-- one operation fewer
pub less_waiting : (f l m d e v w : ℕ) → l ≤ m → d ≤ e → v < w → f * (l + 1) + d + v < f * (m + 1) + e + w
less_waiting f l m d e v w h k n = let row = mul-le f (l + 1) f (m + 1) (omega arith) (omega (arith, h)) in omega (arith, row, k, n)

-- one due request fewer
pub less_due : (f l d e w : ℕ) → d < e → f * (l + 1) + d + w < f * (l + 1) + e + w
less_due f l d e w h = omega (arith, h)

pub length_less : (c : ℕ) (xs : List Live) → length (without_live c xs) ≤ length xs
length_less c [] = omega arith
length_less c (x ∷ xs) = go (is_live_on c x) (length_less c xs)
  where
    go : (b : Bool) → length (without_live c xs) ≤ length xs → length (cond b xs (x ∷ without_live c xs)) ≤ length (x ∷ xs)
    go true h = omega arith
    go false h = omega (arith, h)

pub count_less : (due : Live → Bool) (c : ℕ) (xs : List Live) → due_count due (without_live c xs) ≤ due_count due xs
count_less due c [] = omega arith
count_less due c (x ∷ xs) = go (is_live_on c x) (due x) (count_less due c xs)
  where
    go : (b d : Bool) → due_count due (without_live c xs) ≤ due_count due xs → due_count due (cond b xs (x ∷ without_live c xs)) ≤ cond (due x) (due_count due xs + 1) (due_count due xs)
    go true d h = more (due x)
      where
        more : (d : Bool) → due_count due xs ≤ cond d (due_count due xs + 1) (due_count due xs)
        more true = omega arith
        more false = omega arith
    go false d h = both (due x)
      where
        both : (d : Bool) → cond d (due_count due (without_live c xs) + 1) (due_count due (without_live c xs)) ≤ cond d (due_count due xs + 1) (due_count due xs)
        both true = omega (arith, h)
        both false = h

-- one request is changed, and is then not due
pub count_changed : (due : Live → Bool) (c : ℕ) (f : Live → Live) (xs : List Live) → ((x : Live) → x.ctx ≡ c → due (f x) ≡ false) → due_count due (with_found (is_live_on c) f xs) ≤ due_count due xs
count_changed due c f [] k = omega arith
count_changed due c f (x ∷ xs) k = go (x.ctx == c) refl (count_changed due c f xs k)
  where
    equal_of : (m n : ℕ) → (m == n) ≡ true → m ≡ n
    equal_of m n h = grind (arith, nat_tests)

    more : (d : Bool) → due_count due xs ≤ cond d (due_count due xs + 1) (due_count due xs)
    more true = omega arith
    more false = omega arith

    both : (d : Bool) → due_count due (with_found (is_live_on c) f xs) ≤ due_count due xs → cond d (due_count due (with_found (is_live_on c) f xs) + 1) (due_count due (with_found (is_live_on c) f xs)) ≤ cond d (due_count due xs + 1) (due_count due xs)
    both true h = omega (arith, h)
    both false h = h

    go : (b : Bool) → (x.ctx == c) ≡ b → due_count due (with_found (is_live_on c) f xs) ≤ due_count due xs → due_count due (cond b (f x ∷ xs) (x ∷ with_found (is_live_on c) f xs)) ≤ cond (due x) (due_count due xs + 1) (due_count due xs)
    go true e h = rw (k x (equal_of x.ctx c e)) (more (due x))
    go false e h = both (due x) h

pub count_falls : (due : Live → Bool) (c : ℕ) (f : Live → Live) (xs : List Live) (y : Live) → find (is_live_on c) xs ≡ Some y → due y ≡ true → ((x : Live) → x.ctx ≡ c → due (f x) ≡ false) → due_count due (with_found (is_live_on c) f xs) < due_count due xs
count_falls due c f [] y h d k = absurd cc
count_falls due c f (x ∷ xs) y h d k = go (x.ctx == c) refl h (λ q. count_falls due c f xs y q d k)
  where
    equal_of : (m n : ℕ) → (m == n) ≡ true → m ≡ n
    equal_of m n h = grind (arith, nat_tests)

    its : Some x ≡ Some y → x ≡ y
    its q = cc

    both : (d : Bool) → due_count due (with_found (is_live_on c) f xs) < due_count due xs → cond d (due_count due (with_found (is_live_on c) f xs) + 1) (due_count due (with_found (is_live_on c) f xs)) < cond d (due_count due xs + 1) (due_count due xs)
    both true h = omega (arith, h)
    both false h = h

    go : (b : Bool) → (x.ctx == c) ≡ b → cond b (Some x) (find (is_live_on c) xs) ≡ Some y → (find (is_live_on c) xs ≡ Some y → due_count due (with_found (is_live_on c) f xs) < due_count due xs)
        → due_count due (cond b (f x ∷ xs) (x ∷ with_found (is_live_on c) f xs)) < cond (due x) (due_count due xs + 1) (due_count due xs)
    go true e h again =
        let is : due x ≡ true = ap due (its h) ∙ d in
        rw (k x (equal_of x.ctx c e), is) (omega arith)
    go false e h again = both (due x) (again h)

-- where fewer are due, one fewer of a context
pub count_narrowed : (due now : Live → Bool) (c : ℕ) (xs : List Live) (y : Live) → find (is_live_on c) xs ≡ Some y → due y ≡ true → ((x : Live) → now x ≡ true → due x ≡ true) → ((x : Live) → x.ctx ≡ c → now x ≡ false) → due_count now xs < due_count due xs
count_narrowed due now c [] y h d k n = absurd cc
count_narrowed due now c (x ∷ xs) y h d k n = go (x.ctx == c) refl h (λ q. count_narrowed due now c xs y q d k n)
  where
    equal_of : (m n : ℕ) → (m == n) ≡ true → m ≡ n
    equal_of m n h = grind (arith, nat_tests)

    its : Some x ≡ Some y → x ≡ y
    its q = cc

    no_more : (vs : List Live) → due_count now vs ≤ due_count due vs
    no_more [] = omega arith
    no_more (v ∷ vs) = step (now v) refl (due v) refl (no_more vs)
      where
        step : (a : Bool) → now v ≡ a → (b : Bool) → due v ≡ b → due_count now vs ≤ due_count due vs → cond a (due_count now vs + 1) (due_count now vs) ≤ cond b (due_count due vs + 1) (due_count due vs)
        step true e true g h = omega (arith, h)
        step true e false g h = let bad : true ≡ false = sym (k v e) ∙ g in absurd cc
        step false e true g h = omega (arith, h)
        step false e false g h = h

    go : (b : Bool) → (x.ctx == c) ≡ b → cond b (Some x) (find (is_live_on c) xs) ≡ Some y → (find (is_live_on c) xs ≡ Some y → due_count now xs < due_count due xs) → cond (now x) (due_count now xs + 1) (due_count now xs) < cond (due x) (due_count due xs + 1) (due_count due xs)
    go true e h again =
        let is : due x ≡ true = ap due (its h) ∙ d in
        let rest = no_more xs in
        rw (n x (equal_of x.ctx c e), is) (omega (arith, rest))
    go false e h again = step (now x) refl (due x) refl (again h)
      where
        step : (a : Bool) → now x ≡ a → (b : Bool) → due x ≡ b → due_count now xs < due_count due xs → cond a (due_count now xs + 1) (due_count now xs) < cond b (due_count due xs + 1) (due_count due xs)
        step true f true g h = omega (arith, h)
        step true f false g h = let bad : true ≡ false = sym (k x f) ∙ g in absurd cc
        step false f true g h = omega (arith, h)
        step false f false g h = h

-- ---- What is due

-- what went out now on a pipe that is up is not due
pub not_due : (resend t p : ℕ) (ps : List PortView) (ss : List ReqContextView) (x : Live) → 1 ≤ resend → list_any (is_pipe p) ps ≡ true → is_due resend t ps ss (sent_at (record { pipe = p; when = t }) x) ≡ false
not_due resend t p ps ss x h u = rw (u, later t resend h) (never (is_some x.reply))
  where
    later : (m n : ℕ) → 1 ≤ n → nat_le (m + n) m ≡ false
    later m n h = grind (arith, nat_tests)

    never : (a : Bool) → (not a && false) ≡ false
    never true = refl
    never false = refl

pub dry_not_due : (resend t c : ℕ) (ps : List PortView) (ss : List ReqContextView) (x : Live) → x.ctx ≡ c → dry_at c ss ≡ true → is_due resend t ps ss x ≡ false
dry_not_due resend t c ps ss x e d = rw (e, d) (never (is_some x.reply) (is_late_in resend t ps x.last_out))
  where
    never : (a b : Bool) → (not a && (b && false)) ≡ false
    never true b = refl
    never false true = refl
    never false false = refl

-- a pipe is up as far as the machine knows
pub up_is : (full : ℕ → Bool) (us : List ℕ) (p : ℕ) → list_any (is_pipe p) (map (port_of full) us) ≡ has us p
up_is full [] p = refl
up_is full (u ∷ us) p = ap (λ b. (u == p) || b) (up_is full us p)

-- ---- Dry contexts

pub dry_more : (c d : ℕ) (ss : List ReqContextView) → dry_at d ss ≡ true → dry_at d (map (dried c) ss) ≡ true
dry_more c d [] h = h
dry_more c d (s ∷ ss) h = go (s.ctx == d) s.is_dry (s.ctx == c) h (dry_more c d ss)
  where
    go : (a b e : Bool) → (a && b || dry_at d ss) ≡ true → (dry_at d ss ≡ true → dry_at d (map (dried c) ss) ≡ true) → (a && (b || e) || dry_at d (map (dried c) ss)) ≡ true
    go true true e h again = refl
    go true false true h again = refl
    go true false false h again = again h
    go false b e h again = again h

pub due_before : (resend t c : ℕ) (ps : List PortView) (ss : List ReqContextView) (x : Live) → is_due resend t ps (map (dried c) ss) x ≡ true → is_due resend t ps ss x ≡ true
due_before resend t c ps ss x h = go (dry_at x.ctx ss) refl (is_some x.reply) (is_late_in resend t ps x.last_out) h
  where
    go : (d : Bool) → dry_at x.ctx ss ≡ d → (a b : Bool) → (not a && (b && not (dry_at x.ctx (map (dried c) ss)))) ≡ true → (not a && (b && not d)) ≡ true
    go true e a b h = let k = dry_more c x.ctx ss e in let bad : (not a && (b && false)) ≡ true = subst (λ q. (not a && (b && not q)) ≡ true) k h in never a b bad
      where
        never : (a b : Bool) → (not a && (b && false)) ≡ true → (not a && (b && false)) ≡ true
        never a b q = q
    go false e true b h = h
    go false e false true h = refl
    go false e false false h = h

pub length_taken : {A : Type 0} (P : A → Bool) (xs : List A) (x : A) → find P xs ≡ Some x → length (without_found P xs) + 1 ≡ length xs
length_taken P [] x h = absurd cc
length_taken P (y ∷ xs) x h = go (P y) h (length_taken P xs x)
  where
    go : (b : Bool) → cond b (Some y) (find P xs) ≡ Some x → (find P xs ≡ Some x → length (without_found P xs) + 1 ≡ length xs) → length (cond b xs (y ∷ without_found P xs)) + 1 ≡ length (y ∷ xs)
    go true h again = omega arith
    go false h again = let k = again h in omega (arith, k)

pub fewer_live : (c : ℕ) (xs ys : List Live) → ys ≡ without_live c xs → length ys ≤ length xs
fewer_live c xs ys e = let k = length_less c xs in rw e k

pub fewer_due : (due : Live → Bool) (c : ℕ) (xs ys : List Live) → ys ≡ without_live c xs → due_count due ys ≤ due_count due xs
fewer_due due c xs ys e = let k = count_less due c xs in rw e k

pub fewer_ops : (P : Asking → Bool) (ws vs : List Asking) (w : Asking) → Some w ≡ find P ws → vs ≡ without_found P ws → length vs < length ws
fewer_ops P ws vs w f e = let k = length_taken P ws w (sym f) in let l : length vs ≡ length (without_found P ws) = ap length e in omega (arith, k, l)

pub fewer_marked : (P : Asking → Bool) (g : Asking → Asking) (ws us vs : List Asking) (w : Asking) → Some w ≡ find P ws → us ≡ without_found P ws → vs ≡ map g us → length vs < length ws
fewer_marked P g ws us vs w f e m = let k = fewer_ops P ws us w f e in let l : length vs ≡ length us = ap length m ∙ length-map us g in omega (arith, k, l)

pub same_live : (P : Live → Bool) (f : Live → Live) (xs ys : List Live) → ys ≡ with_found P f xs → length ys ≤ length xs
same_live P f xs ys e = let k = length_same P f xs in let l : length ys ≡ length (with_found P f xs) = ap length e in omega (arith, k, l)

pub none_due : (due : Live → Bool) (c : ℕ) (f : Live → Live) (xs ys : List Live) → ((x : Live) → x.ctx ≡ c → due (f x) ≡ false) → ys ≡ with_found (is_live_on c) f xs → due_count due ys ≤ due_count due xs
none_due due c f xs ys k e = let l = count_changed due c f xs k in rw e l

pub not_true : (b : Bool) → not b ≡ true → b ≡ false
not_true true h = absurd cc
not_true false h = refl

pub not_false : (b : Bool) → not b ≡ false → b ≡ true
not_false true h = refl
not_false false h = absurd cc

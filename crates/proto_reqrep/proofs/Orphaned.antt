-- The operations of a req that no longer have a request.
use Rattle.std.proofs.Common.{◌≡◌, refl, ap, sym, ◌∙◌, subst, List, [], ◌∷◌, ◌++◌, ℕ, ◌+◌, Bool, true, false, cond, arith, Some, map, ◌≤◌}
use Rattle.std.specs.Prelude.{find, filter, not, ◌&&◌, ◌||◌, ◌==◌}
use Rattle.std.specs.List.{list_any, list_all}
use Rattle.std.specs.Option.{option_map}
use Rattle.sp_base.specs.declared.OpName.{OpName}
use Rattle.sp_history.specs.declared.parts.Begun.{Begun}
use Rattle.sp_history.specs.declared.parts.How.{How}
use Rattle.sp_history.specs.declared.parts.Orphan.{Orphan}
use Rattle.sp_history.specs.declared.parts.Requests.{Requests}
use Rattle.sp_history.specs.Lists.{same_op}
use Rattle.sp_history.specs.Past.{is_of, without_begun}
use Rattle.sp_history.specs.Once.{AreApart, occurs}
use Rattle.sp_history.specs.Requests.{is_orphan, orphan_of, is_bereft, end_on, without_orphan}
use Rattle.sp_history.specs.Legal.{was_superseded}
use Rattle.sp_history.proofs.OnceHolds.{same_op-refl, same_op-eq}
use Rattle.proto_reqrep.specs.declared.req.Asking.{Asking}
use Rattle.proto_requests.specs.Waits.{left_on}
use Rattle.proto_reqrep.specs.Reqs.{begun_of, is_asked, is_left, orphaned, without_first, is_superseded}

pub any_either : {A : Type 0} (f : A → Bool) (xs ys : List A) → list_any f (xs ++ ys) ≡ (list_any f xs || list_any f ys)
any_either f [] ys = refl
any_either f (x ∷ xs) ys = go (f x) (any_either f xs ys)
  where
    go : (b : Bool) → list_any f (xs ++ ys) ≡ (list_any f xs || list_any f ys) → (b || list_any f (xs ++ ys)) ≡ ((b || list_any f xs) || list_any f ys)
    go true h = refl
    go false h = h

pub all_both : {A : Type 0} (f : A → Bool) (xs ys : List A) → list_all f xs ≡ true → list_all f ys ≡ true → list_all f (xs ++ ys) ≡ true
all_both f [] ys h k = k
all_both f (x ∷ xs) ys h k = go (f x) h (λ g. all_both f xs ys g k)
  where
    go : (b : Bool) → (b && list_all f xs) ≡ true → (list_all f xs ≡ true → list_all f (xs ++ ys) ≡ true) → (b && list_all f (xs ++ ys)) ≡ true
    go true h again = again h
    go false h again = absurd cc

pub all_kept : {A : Type 0} (f p : A → Bool) (xs : List A) → list_all f xs ≡ true → list_all f (filter p xs) ≡ true
all_kept f p [] h = h
all_kept f p (x ∷ xs) h = go (f x) refl (p x) h (all_kept f p xs)
  where
    go : (a : Bool) → f x ≡ a → (b : Bool) → (a && list_all f xs) ≡ true → (list_all f xs ≡ true → list_all f (filter p xs) ≡ true) → list_all f (cond b (x ∷ filter p xs) (filter p xs)) ≡ true
    go true e true h again = rw e (again h)
    go true e false h again = again h
    go false e b h again = absurd cc

-- ---- The request of a context ends

module _ (c : ℕ) (op : OpName) where
  -- the operation of the context with this name
  abbrev named : Asking → Bool
  named w = (c == w.ctx) && same_op w.op op

  marked_any : (ws : List Asking) → list_any (is_left op) (map (orphaned c) ws) ≡ (list_any (is_left op) ws || list_any named ws)
  marked_any [] = refl
  marked_any (w ∷ ws) = go w.is_orphan (c == w.ctx) (same_op w.op op) (list_any (is_left op) ws) (list_any named ws) (marked_any ws)
    where
      go : (l m s x y : Bool) → list_any (is_left op) (map (orphaned c) ws) ≡ (x || y) → ((l || m) && s || list_any (is_left op) (map (orphaned c) ws)) ≡ ((l && s || x) || (m && s || y))
      go l m false x y h = rw (h) (none l m x y)
        where
          none : (l m x y : Bool) → ((l || m) && false || (x || y)) ≡ ((l && false || x) || (m && false || y))
          none true true x y = refl
          none true false x y = refl
          none false true x y = refl
          none false false x y = refl
      go true m true x y h = refl
      go false true true true y h = refl
      go false true true false y h = refl
      go false false true x y h = h

  module _ (rs : Requests) (h : How) where
    new_any : (ws : List Asking) → list_any (λ o. same_op o.op op) (map (orphan_of h) (filter (is_bereft (c ∷ []) rs) (map begun_of ws))) ≡ (not (is_orphan rs op) && list_any named ws)
    new_any [] = none (is_orphan rs op)
      where
        none : (b : Bool) → false ≡ (not b && false)
        none true = refl
        none false = refl
    new_any (w ∷ ws) = go (c == w.ctx) (is_orphan rs w.op) refl (same_op w.op op) refl (new_any ws)
      where
        rest : List Orphan
        rest = map (orphan_of h) (filter (is_bereft (c ∷ []) rs) (map begun_of ws))

        out : (b : Bool) → list_any (λ o. same_op o.op op) rest ≡ (not (is_orphan rs op) && list_any named ws) → (not b && list_any named ws) ≡ (not b && (false || list_any named ws))
        out b k = refl

        go : (m l : Bool) → is_orphan rs w.op ≡ l → (s : Bool) → same_op w.op op ≡ s → list_any (λ o. same_op o.op op) rest ≡ (not (is_orphan rs op) && list_any named ws)
            → list_any (λ o. same_op o.op op) (map (orphan_of h) (cond ((m || false) && not l) (begun_of w ∷ filter (is_bereft (c ∷ []) rs) (map begun_of ws)) (filter (is_bereft (c ∷ []) rs) (map begun_of ws)))) ≡ (not (is_orphan rs op) && (m && s || list_any named ws))
        go false l e s f k = k
        go true true e true f k =
            let it : is_orphan rs op ≡ true = subst (λ (o : OpName). is_orphan rs o ≡ true) (same_op-eq w.op op f) e in
            k ∙ rw it refl
        go true true e false f k = k
        go true false e true f k =
            let it : is_orphan rs op ≡ false = subst (λ (o : OpName). is_orphan rs o ≡ false) (same_op-eq w.op op f) e in
            rw (f, it) refl
        go true false e false f k = rw f k

    pub left_more : (ws : List Asking) → is_orphan rs op ≡ list_any (is_left op) ws → is_orphan (end_on (c ∷ []) h (map begun_of ws) rs) op ≡ list_any (is_left op) (map (orphaned c) ws)
    left_more ws k =
        any_either (λ (o : Orphan). same_op o.op op) rs.orphans (map (orphan_of h) (filter (is_bereft (c ∷ []) rs) (map begun_of ws)))
        ∙ ap (λ b. is_orphan rs op || b) (new_any ws) ∙ either (is_orphan rs op) (list_any named ws) ∙ ap (λ b. b || list_any named ws) k ∙ sym (marked_any ws)
      where
        either : (a b : Bool) → (a || (not a && b)) ≡ (a || b)
        either true b = refl
        either false b = refl

    -- where each of the context is an orphan, no more are left behind
    pub none_more : (ws : List Asking) → ((o : OpName) → list_any (is_left o) ws ≡ true → is_orphan rs o ≡ true) → list_any (λ (w : Asking). not w.is_orphan && (c == w.ctx)) ws ≡ false → filter (is_bereft (c ∷ []) rs) (map begun_of ws) ≡ []
    none_more [] g k = refl
    none_more (w ∷ ws) g k = go (c == w.ctx) w.is_orphan refl k (none_more ws (λ o q. g o (or_right _ _ q)))
      where
        or_right : (a b : Bool) → b ≡ true → (a || b) ≡ true
        or_right true b q = refl
        or_right false b q = q

        skip : (l b : Bool) → (not l && false || b) ≡ false → b ≡ false
        skip true b q = q
        skip false b q = q

        go : (e l : Bool) → w.is_orphan ≡ l → (not l && e || list_any (λ (w : Asking). not w.is_orphan && (c == w.ctx)) ws) ≡ false
            → (list_any (λ (w : Asking). not w.is_orphan && (c == w.ctx)) ws ≡ false → filter (is_bereft (c ∷ []) rs) (map begun_of ws) ≡ [])
            → cond ((e || false) && not (is_orphan rs w.op)) (begun_of w ∷ filter (is_bereft (c ∷ []) rs) (map begun_of ws)) (filter (is_bereft (c ∷ []) rs) (map begun_of ws)) ≡ []
        go false l f k again = again (skip l _ k)
        go true false f k again = absurd cc
        go true true f k again =
            let there : list_any (is_left w.op) (w ∷ ws) ≡ true = rw (f, same_op-refl w.op) refl in
            let it : is_orphan rs w.op ≡ true = g w.op there in
            rw it (again k)

pub caused : (h : How) (ss : List Begun) → was_superseded (Some h) ≡ true → list_all is_superseded (map (orphan_of h) ss) ≡ true
caused h [] k = refl
caused h (s ∷ ss) k = rw k (caused h ss k)

-- ---- An operation is taken out

pub without_map : (op : OpName) (ws : List Asking) → occurs (map begun_of ws) op ≤ 1 → map begun_of (without_first op ws) ≡ without_begun (map begun_of ws) op
without_map op [] h = refl
without_map op (w ∷ ws) h = go (is_asked op w) h (without_map op ws)
  where
    no_more : (ss : List Begun) → occurs ss op ≤ 0 → ss ≡ without_begun ss op
    no_more [] k = refl
    no_more (s ∷ ss) k = step (is_of op s) k (no_more ss)
      where
        step : (b : Bool) → cond b (occurs ss op + 1) (occurs ss op) ≤ 0 → (occurs ss op ≤ 0 → ss ≡ without_begun ss op) → s ∷ ss ≡ cond (not b) (s ∷ without_begun ss op) (without_begun ss op)
        step true k again = absurd (omega (arith, k))
        step false k again = ap (λ (rest : List Begun). s ∷ rest) (again k)

    go : (b : Bool) → cond b (occurs (map begun_of ws) op + 1) (occurs (map begun_of ws) op) ≤ 1 → (occurs (map begun_of ws) op ≤ 1 → map begun_of (without_first op ws) ≡ without_begun (map begun_of ws) op)
        → map begun_of (cond b ws (w ∷ without_first op ws)) ≡ cond (not b) (begun_of w ∷ without_begun (map begun_of ws) op) (without_begun (map begun_of ws) op)
    go true h again = no_more (map begun_of ws) (omega (arith, h))
    go false h again = ap (λ (rest : List Begun). begun_of w ∷ rest) (again h)

less_orphans : (op other : OpName) (os : List Orphan) → list_any (λ o. same_op o.op other) (filter (λ o. not (same_op o.op op)) os) ≡ (not (same_op op other) && list_any (λ o. same_op o.op other) os)
less_orphans op other [] = none (same_op op other)
  where
    none : (b : Bool) → false ≡ (not b && false)
    none true = refl
    none false = refl
less_orphans op other (o ∷ os) = go (same_op o.op op) refl (same_op o.op other) refl (less_orphans op other os)
  where
    go : (a : Bool) → same_op o.op op ≡ a → (b : Bool) → same_op o.op other ≡ b → list_any (λ o. same_op o.op other) (filter (λ o. not (same_op o.op op)) os) ≡ (not (same_op op other) && list_any (λ o. same_op o.op other) os)
        → list_any (λ o. same_op o.op other) (cond (not a) (o ∷ filter (λ o. not (same_op o.op op)) os) (filter (λ o. not (same_op o.op op)) os)) ≡ (not (same_op op other) && (b || list_any (λ o. same_op o.op other) os))
    go true e true f h =
        let it : same_op op other ≡ true = subst (λ (x : OpName). same_op x other ≡ true) (same_op-eq o.op op e) f in
        h ∙ rw it refl
    go true e false f h = h
    go false e true f h =
        let it : same_op op other ≡ false = apart (same_op op other) refl in
        rw (f, it) refl
      where
        apart : (b : Bool) → same_op op other ≡ b → b ≡ false
        apart false g = refl
        apart true g =
            let x : same_op o.op op ≡ true = subst (λ (y : OpName). same_op o.op y ≡ true) (sym (same_op-eq op other g)) f in
            let bad : true ≡ false = sym x ∙ e in absurd cc
    go false e false f h = rw f h

less_left : (op other : OpName) (ws : List Asking) → occurs (map begun_of ws) op ≤ 1 → list_any (is_left other) (without_first op ws) ≡ (not (same_op op other) && list_any (is_left other) ws)
less_left op other [] h = none (same_op op other)
  where
    none : (b : Bool) → false ≡ (not b && false)
    none true = refl
    none false = refl
less_left op other (w ∷ ws) h = go (same_op w.op op) refl (same_op w.op other) refl h (less_left op other ws)
  where
    nowhere : (vs : List Asking) → occurs (map begun_of vs) op ≤ 0 → same_op op other ≡ true → list_any (is_left other) vs ≡ false
    nowhere [] k e = refl
    nowhere (v ∷ vs) k e = step (same_op v.op op) refl (same_op v.op other) refl v.is_orphan k (λ q. nowhere vs q e)
      where
        step : (a : Bool) → same_op v.op op ≡ a → (b : Bool) → same_op v.op other ≡ b → (l : Bool) → cond a (occurs (map begun_of vs) op + 1) (occurs (map begun_of vs) op) ≤ 0 → (occurs (map begun_of vs) op ≤ 0 → list_any (is_left other) vs ≡ false)
            → (l && b || list_any (is_left other) vs) ≡ false
        step true f b g l k again = absurd (omega (arith, k))
        step false f true g l k again =
            let x : same_op v.op op ≡ true = subst (λ (y : OpName). same_op v.op y ≡ true) (sym (same_op-eq op other e)) g in
            let bad : true ≡ false = sym x ∙ f in absurd cc
        step false f false g true k again = again k
        step false f false g false k again = again k

    skip : (l b : Bool) → (l && false || b) ≡ b
    skip true b = refl
    skip false b = refl

    go : (a : Bool) → same_op w.op op ≡ a → (b : Bool) → same_op w.op other ≡ b → cond a (occurs (map begun_of ws) op + 1) (occurs (map begun_of ws) op) ≤ 1
        → (occurs (map begun_of ws) op ≤ 1 → list_any (is_left other) (without_first op ws) ≡ (not (same_op op other) && list_any (is_left other) ws))
        → list_any (is_left other) (cond a ws (w ∷ without_first op ws)) ≡ (not (same_op op other) && (w.is_orphan && b || list_any (is_left other) ws))
    go true e true f h again =
        let it : same_op op other ≡ true = subst (λ (x : OpName). same_op x other ≡ true) (same_op-eq w.op op e) f in
        nowhere ws (omega (arith, h)) it ∙ rw it refl
    go true e false f h again =
        let it : same_op op other ≡ false = subst (λ (x : OpName). same_op x other ≡ false) (same_op-eq w.op op e) f in
        rw it (sym (skip w.is_orphan (list_any (is_left other) ws)))
    go false e true f h again =
        let it : same_op op other ≡ false = apart (same_op op other) refl in
        ap (λ b. w.is_orphan && b || list_any (is_left other) (without_first op ws)) f ∙ ap (λ b. w.is_orphan && true || b) (again h) ∙ rw it refl
      where
        apart : (b : Bool) → same_op op other ≡ b → b ≡ false
        apart false g = refl
        apart true g =
            let x : same_op w.op op ≡ true = subst (λ (y : OpName). same_op w.op y ≡ true) (sym (same_op-eq op other g)) f in
            let bad : true ≡ false = sym x ∙ e in absurd cc
    go false e false f h again =
        ap (λ b. w.is_orphan && b || list_any (is_left other) (without_first op ws)) f ∙ skip w.is_orphan _ ∙ again h ∙ sym (ap (λ b. not (same_op op other) && b) (skip w.is_orphan (list_any (is_left other) ws)))

-- the operation is no longer an orphan
pub left_less : (op : OpName) (ws : List Asking) (rs : Requests) → ((o : OpName) → is_orphan rs o ≡ list_any (is_left o) ws) → AreApart (map begun_of ws) → (o : OpName) → is_orphan (without_orphan op rs) o ≡ list_any (is_left o) (without_first op ws)
left_less op ws rs h a o = less_orphans op o rs.orphans ∙ ap (λ b. not (same_op op o) && b) (h o) ∙ sym (less_left op o ws (a op))

-- ---- Whether an operation is an orphan

pub orphan_found : (os : List Orphan) (op : OpName) → list_any (λ o. same_op o.op op) os ≡ true → list_all is_superseded os ≡ true → was_superseded (option_map (λ o. o.how) (find (λ o. same_op o.op op) os)) ≡ true
orphan_found [] op h k = absurd cc
orphan_found (o ∷ os) op h k = go (same_op o.op op) (is_superseded o) refl h k (orphan_found os op)
  where
    go : (a b : Bool) → is_superseded o ≡ b → (a || list_any (λ o. same_op o.op op) os) ≡ true → (b && list_all is_superseded os) ≡ true
        → (list_any (λ o. same_op o.op op) os ≡ true → list_all is_superseded os ≡ true → was_superseded (option_map (λ o. o.how) (find (λ o. same_op o.op op) os)) ≡ true)
        → was_superseded (option_map (λ o. o.how) (cond a (Some o) (find (λ o. same_op o.op op) os))) ≡ true
    go true true e h k again = e
    go false true e h k again = again h k
    go a false e h k again = absurd cc

pub no_orphans : (os : List Orphan) → ((op : OpName) → list_any (λ o. same_op o.op op) os ≡ false) → os ≡ []
no_orphans [] h = refl
no_orphans (o ∷ os) h =
    let k : (same_op o.op o.op || list_any (λ x. same_op x.op o.op) os) ≡ false = h o.op in
    let yes_ : (same_op o.op o.op || list_any (λ x. same_op x.op o.op) os) ≡ true = ap (λ b. b || list_any (λ x. same_op x.op o.op) os) (same_op-refl o.op) in
    let bad : true ≡ false = sym yes_ ∙ k in absurd cc

none_left : (ws : List Asking) (op : OpName) → list_any (λ (w : Asking). w.is_orphan) ws ≡ false → list_any (is_left op) ws ≡ false
none_left [] op h = refl
none_left (w ∷ ws) op h = go w.is_orphan h (none_left ws op)
  where
    go : (l : Bool) → (l || list_any (λ (w : Asking). w.is_orphan) ws) ≡ false → (list_any (λ (w : Asking). w.is_orphan) ws ≡ false → list_any (is_left op) ws ≡ false) → (l && same_op w.op op || list_any (is_left op) ws) ≡ false
    go true h again = absurd cc
    go false h again = again h

pub all_finished : (ws : List Asking) (rs : Requests) → ((o : OpName) → is_orphan rs o ≡ list_any (is_left o) ws) → list_any (λ (w : Asking). w.is_orphan) ws ≡ false → rs.orphans ≡ []
all_finished ws rs h k = no_orphans rs.orphans (λ op. h op ∙ none_left ws op k)

-- where names are distinct, the flag of an operation says it
pub flag_of : (ws : List Asking) (P : Asking → Bool) (w : Asking) → AreApart (map begun_of ws) → find P ws ≡ Some w → list_any (is_left w.op) ws ≡ w.is_orphan
flag_of [] P w a h = absurd cc
flag_of (v ∷ ws) P w a h = go (P v) h (λ k. flag_of ws P w (rest_apart v ws a) k)
  where
    some_inj : Some v ≡ Some w → v ≡ w
    some_inj q = cc

    rest_apart : (v : Asking) (ws : List Asking) → AreApart (map begun_of (v ∷ ws)) → AreApart (map begun_of ws)
    rest_apart v ws a op = step (same_op v.op op) (a op)
      where
        step : (b : Bool) → cond b (occurs (map begun_of ws) op + 1) (occurs (map begun_of ws) op) ≤ 1 → occurs (map begun_of ws) op ≤ 1
        step true k = omega (arith, k)
        step false k = k

    absent : (vs : List Asking) (op : OpName) → occurs (map begun_of vs) op ≤ 0 → list_any (is_left op) vs ≡ false
    absent [] op k = refl
    absent (u ∷ vs) op k = step (same_op u.op op) u.is_orphan k (absent vs op)
      where
        step : (b l : Bool) → cond b (occurs (map begun_of vs) op + 1) (occurs (map begun_of vs) op) ≤ 0 → (occurs (map begun_of vs) op ≤ 0 → list_any (is_left op) vs ≡ false) → (l && b || list_any (is_left op) vs) ≡ false
        step true l k again = absurd (omega (arith, k))
        step false true k again = again k
        step false false k again = again k

    present : (vs : List Asking) → find P vs ≡ Some w → 1 ≤ occurs (map begun_of vs) w.op
    present [] k = absurd cc
    present (u ∷ vs) k = step (P u) k (present vs)
      where
        its : Some u ≡ Some w → u ≡ w
        its q = cc

        more : (b : Bool) (n : ℕ) → 1 ≤ n → 1 ≤ cond b (n + 1) n
        more true n k = omega (arith, k)
        more false n k = k

        step : (b : Bool) → cond b (Some u) (find P vs) ≡ Some w → (find P vs ≡ Some w → 1 ≤ occurs (map begun_of vs) w.op) → 1 ≤ cond (same_op u.op w.op) (occurs (map begun_of vs) w.op + 1) (occurs (map begun_of vs) w.op)
        step true k again =
            let it : same_op u.op w.op ≡ true = subst (λ (x : Asking). same_op x.op w.op ≡ true) (sym (its k)) (same_op-refl w.op) in
            rw it (omega arith)
        step false k again = more (same_op u.op w.op) _ (again k)

    go : (b : Bool) → cond b (Some v) (find P ws) ≡ Some w → (find P ws ≡ Some w → list_any (is_left w.op) ws ≡ w.is_orphan) → (v.is_orphan && same_op v.op w.op || list_any (is_left w.op) ws) ≡ w.is_orphan
    go true k again = first (same_op v.op w.op) refl
      where
        is : v ≡ w
        is = some_inj k

        flag : (l : Bool) → (l && true || false) ≡ l
        flag true = refl
        flag false = refl

        first : (b : Bool) → same_op v.op w.op ≡ b → (v.is_orphan && b || list_any (is_left w.op) ws) ≡ w.is_orphan
        first true e =
            let few : cond (same_op v.op w.op) (occurs (map begun_of ws) w.op + 1) (occurs (map begun_of ws) w.op) ≤ 1 = a w.op in
            let fewer : cond true (occurs (map begun_of ws) w.op + 1) (occurs (map begun_of ws) w.op) ≤ 1 = subst (λ x. cond x (occurs (map begun_of ws) w.op + 1) (occurs (map begun_of ws) w.op) ≤ 1) e few in
            rw (absent ws w.op (omega (arith, fewer))) (flag v.is_orphan ∙ ap (λ (x : Asking). x.is_orphan) is)
        first false e =
            let it : same_op v.op w.op ≡ true = subst (λ (x : Asking). same_op x.op w.op ≡ true) (sym is) (same_op-refl w.op) in
            let bad : true ≡ false = sym it ∙ e in absurd cc
    go false k again = other (same_op v.op w.op) refl
      where
        other : (b : Bool) → same_op v.op w.op ≡ b → (v.is_orphan && b || list_any (is_left w.op) ws) ≡ w.is_orphan
        other true e =
            let few : cond (same_op v.op w.op) (occurs (map begun_of ws) w.op + 1) (occurs (map begun_of ws) w.op) ≤ 1 = a w.op in
            let fewer : cond true (occurs (map begun_of ws) w.op + 1) (occurs (map begun_of ws) w.op) ≤ 1 = subst (λ x. cond x (occurs (map begun_of ws) w.op + 1) (occurs (map begun_of ws) w.op) ≤ 1) e few in
            let there = present ws k in
            absurd (omega (arith, fewer, there))
        other false e = skip v.is_orphan (again k)
          where
            skip : (l : Bool) → list_any (is_left w.op) ws ≡ w.is_orphan → (l && false || list_any (is_left w.op) ws) ≡ w.is_orphan
            skip true h = h
            skip false h = h

-- the operations that are left behind
pub left_orphaned : (c : ℕ) (ws : List Asking) → map (left_on (λ (w : Asking). w.ctx) (λ (w : Asking). record { op = w.op; ctx = w.ctx; message = w.message; is_orphan = true }) c) ws ≡ map (orphaned c) ws
left_orphaned c [] = refl
left_orphaned c (w ∷ ws) = ap (λ (v : Asking). v ∷ map (left_on (λ (w : Asking). w.ctx) (λ (w : Asking). record { op = w.op; ctx = w.ctx; message = w.message; is_orphan = true }) c) ws) (go (c == w.ctx) w.is_orphan refl) ∙ ap (λ (vs : List Asking). orphaned c w ∷ vs) (left_orphaned c ws)
  where
    go : (b a : Bool) → w.is_orphan ≡ a → cond b (record { op = w.op; ctx = w.ctx; message = w.message; is_orphan = true }) w ≡ record { op = w.op; ctx = w.ctx; message = w.message; is_orphan = w.is_orphan || b }
    go true true e = rw e refl
    go true false e = rw e refl
    go false true e = ap (λ v. record { op = w.op; ctx = w.ctx; message = w.message; is_orphan = v }) (e ∙ sym (ap (λ v. v || false) e))
    go false false e = ap (λ v. record { op = w.op; ctx = w.ctx; message = w.message; is_orphan = v }) (e ∙ sym (ap (λ v. v || false) e))

-- Contexts that are to be looked at: what keeps each of them among the hints.
use Rattle.std.proofs.Common.{◌≡◌, refl, ap, sym, subst, ◌∙◌, List, [], ◌∷◌, ◌++◌, ℕ, Bool, true, false, cond, Option, Some, None, map, inl, inr}
use Rattle.std.specs.Prelude.{◌⊎◌, find, not, is_some, drop, ◌&&◌, ◌||◌, ◌==◌}
use Rattle.std.specs.List.{list_any}
use Rattle.std.specs.Option.{option_map}
use Rattle.sp_base.specs.declared.OpName.{OpName}
use Rattle.sp_history.specs.Lists.{has, head_of}
use Rattle.proto_live_requests.specs.declared.live.Live.{Live}
use Rattle.proto_reqrep.specs.declared.req.Asking.{Asking}
use Rattle.proto_live_requests.specs.declared.live.KeptReply.{KeptReply}
use Rattle.sp_msg.specs.Views.{MessageView}
use Rattle.proto_reqrep.specs.declared.req.Request.{Request as Machine}
use Rattle.proto_requests.specs.Hints.{HintsView, covers}
use Rattle.proto_live_requests.specs.LiveRequests.{without_live, is_live_on, keeps_reply, with_reply, with_kept, waits_for, live_ctx}
use Rattle.proto_reqrep.specs.Reqs.{Asks, answers, is_missed, AreReady, IsReply, ready_on, is_sending, is_receiving_on, orphaned}
use Rattle.proto_requests.specs.FirstFound.{without_found, with_found}
use Rattle.proto_requests.proofs.FirstPlaces.{none_as}
use Rattle.proto_requests.proofs.KnownOperations.{any_less, any_more}
use Rattle.proto_requests.proofs.TestValues.{both_false, equal_of}

-- ---- Bools

swap : (a b d c : Bool) → (b ≡ true → d ≡ true) → ((a && b) && c) ≡ true → ((a && d) && c) ≡ true
swap false b d c k h = h
swap true false d c k h = absurd cc
swap true true d c k h = let e = k refl in rw e h

narrow : (a c d : Bool) → (c ≡ true → d ≡ true) → (a && not d) ≡ true → (a && not c) ≡ true
narrow false c d k h = h
narrow true false d k h = refl
narrow true true d k h = let bad : true ≡ false = sym h ∙ ap not (k refl) in absurd cc

either : (a b d c e : Bool) → (b ≡ true → (d ≡ true) ⊎ (c ≡ true)) → (e ≡ true → c ≡ true) → ((a && b) && not c) ≡ true → ((a && d) && not e) ≡ true
either false b d c e k l h = h
either true false d c e k l h = absurd cc
either true true d c e k l h = go (k refl)
  where
    go : (d ≡ true) ⊎ (c ≡ true) → (d && not e) ≡ true
    go (inl f) = rw f (narrow true e c l h)
    go (inr f) = let bad : true ≡ false = sym h ∙ ap not f in absurd cc

-- ---- What is kept

module _ (q : ℕ) where
  pub keeps_less : (P : Live → Bool) (xs ys : List Live) → ys ≡ without_found P xs → list_any (keeps_reply q) ys ≡ true → list_any (keeps_reply q) xs ≡ true
  keeps_less P xs ys e h = go (list_any (keeps_reply q) xs) refl
    where
      go : (b : Bool) → list_any (keeps_reply q) xs ≡ b → b ≡ true
      go true f = refl
      go false f = let bad : true ≡ false = sym h ∙ any_less (keeps_reply q) P xs ys e f in absurd cc

  pub keeps_same : (P : Live → Bool) (f : Live → Live) (xs ys : List Live) → ((x : Live) → keeps_reply q (f x) ≡ keeps_reply q x) → ys ≡ with_found P f xs → list_any (keeps_reply q) ys ≡ list_any (keeps_reply q) xs
  keeps_same P f xs ys s e = rw e (go xs)
    where
      go : (xs : List Live) → list_any (keeps_reply q) (with_found P f xs) ≡ list_any (keeps_reply q) xs
      go [] = refl
      go (x ∷ xs) = step (P x) (go xs)
        where
          step : (b : Bool) → list_any (keeps_reply q) (with_found P f xs) ≡ list_any (keeps_reply q) xs → list_any (keeps_reply q) (cond b (f x ∷ xs) (x ∷ with_found P f xs)) ≡ (keeps_reply q x || list_any (keeps_reply q) xs)
          step true k = ap (λ b. b || list_any (keeps_reply q) xs) (s x)
          step false k = ap (λ b. keeps_reply q x || b) k

  pub keeps_new : (xs ys : List Live) (x : Live) → keeps_reply q x ≡ false → ys ≡ xs ++ x ∷ [] → list_any (keeps_reply q) ys ≡ true → list_any (keeps_reply q) xs ≡ true
  keeps_new xs ys x k e h = go (list_any (keeps_reply q) xs) refl
    where
      go : (b : Bool) → list_any (keeps_reply q) xs ≡ b → b ≡ true
      go true f = refl
      go false f = let bad : true ≡ false = sym h ∙ any_more (keeps_reply q) xs ys x e f k in absurd cc

  -- with one more reply
  pub keeps_more : (id : ℕ) (k : KeptReply) (xs : List Live) → list_any (keeps_reply q) (with_reply id k xs) ≡ true → (list_any (keeps_reply q) xs ≡ true) ⊎ (option_map live_ctx (find (waits_for id) xs) ≡ Some q)
  keeps_more id k [] h = inl h
  keeps_more id k (x ∷ xs) h = go (waits_for id x) h (keeps_more id k xs)
    where
      this : (b : Bool) → (x.ctx == q) ≡ b → (b && true || list_any (keeps_reply q) xs) ≡ true → ((x.ctx == q) && is_some x.reply || list_any (keeps_reply q) xs) ≡ true ⊎ (Some x.ctx ≡ Some q)
      this true e h = inr (ap (λ (n : ℕ). Some n) (equal_of x.ctx q e))
      this false e h = inl (rw e h)

      other : (b : Bool) → (b || list_any (keeps_reply q) (with_reply id k xs)) ≡ true → (list_any (keeps_reply q) (with_reply id k xs) ≡ true → (list_any (keeps_reply q) xs ≡ true) ⊎ (option_map live_ctx (find (waits_for id) xs) ≡ Some q)) → ((b || list_any (keeps_reply q) xs) ≡ true) ⊎ (option_map live_ctx (find (waits_for id) xs) ≡ Some q)
      other true h again = inl refl
      other false h again = again h

      go : (b : Bool) → list_any (keeps_reply q) (cond b (with_kept k x ∷ xs) (x ∷ with_reply id k xs)) ≡ true → (list_any (keeps_reply q) (with_reply id k xs) ≡ true → (list_any (keeps_reply q) xs ≡ true) ⊎ (option_map live_ctx (find (waits_for id) xs) ≡ Some q))
          → ((keeps_reply q x || list_any (keeps_reply q) xs) ≡ true) ⊎ (option_map live_ctx (cond b (Some x) (find (waits_for id) xs)) ≡ Some q)
      go true h again = this (x.ctx == q) refl h
      go false h again = other (keeps_reply q x) h again

-- ---- What is looked at

-- fewer keep a reply
pub ready_live : (h : HintsView ℕ) (xs ys : List Live) (ws : List Asking) → ((q : ℕ) → list_any (keeps_reply q) ys ≡ true → list_any (keeps_reply q) xs ≡ true) → AreReady h xs ws → AreReady h ys ws
ready_live h xs ys ws k r = none_as (is_missed h xs) (is_missed h ys) ws (λ w e. swap (not (is_sending w)) (list_any (keeps_reply w.ctx) ys) (list_any (keeps_reply w.ctx) xs) (not (covers h w.ctx)) (k w.ctx) e) r

-- more are looked at, and others keep a reply
pub ready_answered : (h g : HintsView ℕ) (xs ys : List Live) (ws : List Asking) → ((q : ℕ) → covers h q ≡ true → covers g q ≡ true) → ((q : ℕ) → list_any (keeps_reply q) ys ≡ true → (list_any (keeps_reply q) xs ≡ true) ⊎ (covers g q ≡ true)) → AreReady h xs ws → AreReady g ys ws
ready_answered h g xs ys ws s k r =
    none_as (is_missed h xs) (is_missed g ys) ws (λ w e. either (not (is_sending w)) (list_any (keeps_reply w.ctx) ys) (list_any (keeps_reply w.ctx) xs) (covers g w.ctx) (covers h w.ctx) (k w.ctx) (s w.ctx) e) r

pub ready_fewer : (h : HintsView ℕ) (xs : List Live) (P : Asking → Bool) (ws vs : List Asking) → vs ≡ without_found P ws → AreReady h xs ws → AreReady h xs vs
ready_fewer h xs P ws vs e r = any_less (is_missed h xs) P ws vs e r

pub ready_more : (h : HintsView ℕ) (xs : List Live) (ws vs : List Asking) (w : Asking) → vs ≡ ws ++ w ∷ [] → is_missed h xs w ≡ false → AreReady h xs ws → AreReady h xs vs
ready_more h xs ws vs w e n r = any_more (is_missed h xs) ws vs w e r n

-- requests end
pub ready_marked : (h : HintsView ℕ) (xs : List Live) (c : ℕ) (ws vs : List Asking) → vs ≡ map (orphaned c) ws → AreReady h xs ws → AreReady h xs vs
ready_marked h xs c ws vs e r = rw e (go ws ∙ r)
  where
    go : (ws : List Asking) → list_any (is_missed h xs) (map (orphaned c) ws) ≡ list_any (is_missed h xs) ws
    go [] = refl
    go (w ∷ ws) = ap (λ b. is_missed h xs w || b) (go ws)

-- none keeps a reply
pub ready_none : (h : HintsView ℕ) (xs : List Live) (ws : List Asking) → xs ≡ [] → AreReady h xs ws
ready_none h xs ws e = rw e (go ws)
  where
    none : (b c : Bool) → ((b && false) && c) ≡ false
    none true c = refl
    none false c = refl

    go : (ws : List Asking) → AreReady h [] ws
    go [] = refl
    go (w ∷ ws) = ap (λ b. b || list_any (is_missed h []) ws) (none (not (is_sending w)) (not (covers h w.ctx))) ∙ go ws

-- none that keeps a reply receives
pub ready_idle : (h : HintsView ℕ) (xs : List Live) (ws : List Asking) → list_any (answers xs) ws ≡ false → AreReady h xs ws
ready_idle h xs ws e = none_as (answers xs) (is_missed h xs) ws (λ w k. first (answers xs w) (not (covers h w.ctx)) k) e
  where
    first : (a b : Bool) → (a && b) ≡ true → a ≡ true
    first true b h = refl
    first false b h = h

-- all are looked at, and none is left
pub idle_ready : (h : HintsView ℕ) (xs : List Live) (ws : List Asking) → h.whole ≡ true → h.items ≡ [] → AreReady h xs ws → list_any (answers xs) ws ≡ false
idle_ready h xs ws e f r = none_as (is_missed h xs) (answers xs) ws (λ w k. rw (e, f) (last (answers xs w) k)) r
  where
    last : (a : Bool) → a ≡ true → (a && true) ≡ true
    last true k = refl
    last false k = k

-- ---- The first that is looked at

some_is : {A : Type 0} (x y : A) → Some x ≡ Some y → x ≡ y
some_is x y q = cc

is_context : (w : Asking) (c : ℕ) → is_receiving_on c w ≡ true → w.ctx ≡ c
is_context w c h = go (is_sending w) (w.ctx == c) refl h
  where
    go : (a b : Bool) → (w.ctx == c) ≡ b → (not a && b) ≡ true → w.ctx ≡ c
    go true b e h = absurd cc
    go false true e h = equal_of w.ctx c e
    go false false e h = absurd cc

found_ctx : (c : ℕ) (ws : List Asking) (w : Asking) → find (is_receiving_on c) ws ≡ Some w → w.ctx ≡ c
found_ctx c [] w h = absurd cc
found_ctx c (v ∷ ws) w h = go (is_receiving_on c v) refl h (found_ctx c ws w)
  where
    go : (b : Bool) → is_receiving_on c v ≡ b → cond b (Some v) (find (is_receiving_on c) ws) ≡ Some w → (find (is_receiving_on c) ws ≡ Some w → w.ctx ≡ c) → w.ctx ≡ c
    go true e h again = ap (λ (x : Asking). x.ctx) (sym (some_is v w h)) ∙ is_context v c e
    go false e h again = again h

-- it is given a reply
pub reply_on : (xs : List Live) (ws : List Asking) (c : ℕ) (op : OpName) → Some op ≡ ready_on xs ws c → IsReply xs ws op
reply_on xs ws c op e = go (list_any (keeps_reply c) xs) refl (find (is_receiving_on c) ws) refl e
  where
    go : (b : Bool) → list_any (keeps_reply c) xs ≡ b → (o : Option Asking) → find (is_receiving_on c) ws ≡ o → Some op ≡ cond {A = Option OpName} b (option_map (λ (w : Asking). w.op) o) None → IsReply xs ws op
    go false k o f e = absurd cc
    go true k None f e = absurd cc
    go true k (Some w) f e =
        let on = found_ctx c ws w f in
        (w, subst (λ (n : ℕ). find (is_receiving_on n) ws ≡ Some w) (sym on) f, sym (some_is op w.op e), subst (λ (n : ℕ). list_any (keeps_reply n) xs ≡ true) (sym on) k)

dropped_keeps : (whole : Bool) (c : ℕ) (cs : List ℕ) (xs : List Live) (ws : List Asking) → list_any (keeps_reply c) xs ≡ false → AreReady (record { whole = whole; items = c ∷ cs }) xs ws → AreReady (record { whole = whole; items = cs }) xs ws
dropped_keeps whole c cs xs ws n r = none_as (is_missed (record { whole = whole; items = c ∷ cs }) xs) (is_missed (record { whole = whole; items = cs }) xs) ws it r
  where
    step : (a k b v : Bool) → (b ≡ true → k ≡ false) → ((a && k) && not (not whole || v)) ≡ true → ((a && k) && not (not whole || (b || v))) ≡ true
    step a k false v e h = h
    step false k true v e h = h
    step true k true v e h = let no = e refl in let bad : false ≡ true = ap (λ x. x && not (not whole || v)) (sym no) ∙ h in absurd cc

    it : (w : Asking) → is_missed (record { whole = whole; items = cs }) xs w ≡ true → is_missed (record { whole = whole; items = c ∷ cs }) xs w ≡ true
    it w h = step (not (is_sending w)) (list_any (keeps_reply w.ctx) xs) (c == w.ctx) (has cs w.ctx) (λ e. ap (λ (q : ℕ). list_any (keeps_reply q) xs) (sym (equal_of c w.ctx e)) ∙ n) h

dropped_receives : (whole : Bool) (c : ℕ) (cs : List ℕ) (xs : List Live) (ws : List Asking) → find (is_receiving_on c) ws ≡ None → AreReady (record { whole = whole; items = c ∷ cs }) xs ws → AreReady (record { whole = whole; items = cs }) xs ws
dropped_receives whole c cs xs [] n r = refl
dropped_receives whole c cs xs (w ∷ ws) n r =
    let b = both_false (is_missed (record { whole = whole; items = c ∷ cs }) xs w) (list_any (is_missed (record { whole = whole; items = c ∷ cs }) xs) ws) r in
    go (is_receiving_on c w) refl n b.0 (λ q. dropped_receives whole c cs xs ws q b.1)
  where
    turned : (b : Bool) → (c == w.ctx) ≡ b → (w.ctx == c) ≡ false → b ≡ false
    turned false e f = refl
    turned true e f = let same = equal_of c w.ctx e in let bad : true ≡ false = sym e ∙ ap (λ n. n == w.ctx) same ∙ ap (λ n. w.ctx == n) (sym same) ∙ f in absurd cc

    this : (s k b d v : Bool) → (not s && d) ≡ false → (d ≡ false → b ≡ false) → ((not s && k) && not (not whole || (b || v))) ≡ false → ((not s && k) && not (not whole || v)) ≡ false
    this true k b d v e f h = refl
    this false k b true v e f h = absurd cc
    this false k b false v e f h = let no = f refl in ap (λ x. k && not (not whole || (x || v))) (sym no) ∙ h

    go : (b : Bool) → is_receiving_on c w ≡ b → cond b (Some w) (find (is_receiving_on c) ws) ≡ None → is_missed (record { whole = whole; items = c ∷ cs }) xs w ≡ false → (find (is_receiving_on c) ws ≡ None → AreReady (record { whole = whole; items = cs }) xs ws)
        → (is_missed (record { whole = whole; items = cs }) xs w || list_any (is_missed (record { whole = whole; items = cs }) xs) ws) ≡ false
    go true e n m again = absurd cc
    go false e n m again =
        ap (λ b. b || list_any (is_missed (record { whole = whole; items = cs }) xs) ws) (this (is_sending w) (list_any (keeps_reply w.ctx) xs) (c == w.ctx) (w.ctx == c) (has cs w.ctx) e (turned (c == w.ctx) refl) m) ∙ again n

-- one that gets none is no longer looked at
pub ready_dropped : (h g : HintsView ℕ) (xs : List Live) (ws : List Asking) (c : ℕ) → Some c ≡ head_of h.items → g ≡ record { whole = h.whole; items = drop 1 h.items } → None ≡ ready_on xs ws c → AreReady h xs ws → AreReady g xs ws
ready_dropped h g xs ws c e f n r = rw f (go h.items e r)
  where
    gone : (b : Bool) → list_any (keeps_reply c) xs ≡ b → (o : Option Asking) → find (is_receiving_on c) ws ≡ o → None ≡ cond {A = Option OpName} b (option_map (λ (w : Asking). w.op) o) None → (cs : List ℕ) → AreReady (record { whole = h.whole; items = c ∷ cs }) xs ws → AreReady (record { whole = h.whole; items = cs }) xs ws
    gone false k o p q cs r = dropped_keeps h.whole c cs xs ws k r
    gone true k None p q cs r = dropped_receives h.whole c cs xs ws p r
    gone true k (Some w) p q cs r = absurd cc

    go : (is : List ℕ) → Some c ≡ head_of is → AreReady (record { whole = h.whole; items = is }) xs ws → AreReady (record { whole = h.whole; items = drop 1 is }) xs ws
    go [] e r = absurd cc
    go (i ∷ is) e r = let same : c ≡ i = some_is c i e in gone (list_any (keeps_reply c) xs) refl (find (is_receiving_on c) ws) refl n is (rw same r)

-- one more receive waits
pub ready_begun : (h g : HintsView ℕ) (xs : List Live) (ws : List Asking) (w : Asking) (c : ℕ) → w.ctx ≡ c → ((q : ℕ) → covers h q ≡ true → covers g q ≡ true) → (covers g c ≡ true) ⊎ (list_any (keeps_reply c) xs ≡ false) → AreReady h xs ws → AreReady g xs (ws ++ w ∷ [])
ready_begun h g xs ws w c e s o r = ready_more g xs ws (ws ++ w ∷ []) w refl (rw e at_it) (ready_answered h g xs xs ws s (λ q k. inl k) r)
  where
    shut : (a k : Bool) → ((a && k) && not true) ≡ false
    shut false k = refl
    shut true false = refl
    shut true true = refl

    none : (a v : Bool) → ((a && false) && not v) ≡ false
    none false v = refl
    none true v = refl

    go : (covers g c ≡ true) ⊎ (list_any (keeps_reply c) xs ≡ false) → ((not (is_sending w) && list_any (keeps_reply c) xs) && not (covers g c)) ≡ false
    go (inl f) = rw f (shut (not (is_sending w)) (list_any (keeps_reply c) xs))
    go (inr f) = rw f (none (not (is_sending w)) (covers g c))

    at_it : ((not (is_sending w) && list_any (keeps_reply c) xs) && not (covers g c)) ≡ false
    at_it = go o

-- one more reply is kept
pub ready_kept : (h g : HintsView ℕ) (xs ys : List Live) (ws : List Asking) (id : ℕ) (k : KeptReply) (c : ℕ) → ys ≡ with_reply id k xs → Some c ≡ option_map live_ctx (find (waits_for id) xs) → covers g c ≡ true → ((q : ℕ) → covers h q ≡ true → covers g q ≡ true) → AreReady h xs ws → AreReady g ys ws
ready_kept h g xs ys ws id k c e f v s r = ready_answered h g xs ys ws s (λ q n. go q (keeps_more q id k xs (ap (list_any (keeps_reply q)) (sym e) ∙ n))) r
  where
    go : (q : ℕ) → (list_any (keeps_reply q) xs ≡ true) ⊎ (option_map live_ctx (find (waits_for id) xs) ≡ Some q) → (list_any (keeps_reply q) xs ≡ true) ⊎ (covers g q ≡ true)
    go q (inl n) = inl n
    go q (inr n) = let same : c ≡ q = some_is c q (f ∙ n) in inr (ap (covers g) (sym same) ∙ v)

-- none waits for the reply
pub ready_unkept : (h : HintsView ℕ) (xs ys : List Live) (ws : List Asking) (id : ℕ) (k : KeptReply) → ys ≡ with_reply id k xs → None ≡ option_map live_ctx (find (waits_for id) xs) → AreReady h xs ws → AreReady h ys ws
ready_unkept h xs ys ws id k e f r = ready_live h xs ys ws (λ q n. go q (keeps_more q id k xs (ap (list_any (keeps_reply q)) (sym e) ∙ n))) r
  where
    go : (q : ℕ) → (list_any (keeps_reply q) xs ≡ true) ⊎ (option_map live_ctx (find (waits_for id) xs) ≡ Some q) → list_any (keeps_reply q) xs ≡ true
    go q (inl n) = n
    go q (inr n) = let bad : None ≡ Some q = f ∙ n in absurd cc

-- a request begins
pub asked_ready : (m n : Machine) (c : ℕ) (body : List ℕ) (op : OpName) (x : MessageView) (ws : List Asking) → Asks c body m n → ws ≡ n.waiting.items ++ record { op = op; ctx = c; message = Some x; is_orphan = false } ∷ [] → AreReady m.ready m.live.items m.waiting.items → AreReady n.ready n.live.items ws
asked_ready m n c body op x ws a e r =
    let bare : (q : ℕ) → keeps_reply q a.0 ≡ false = λ q. ap (λ (o : Option KeptReply). (a.0.ctx == q) && is_some o) a.1.6 ∙ none (a.0.ctx == q) in
    let live = ready_live m.ready m.live.items n.live.items m.waiting.items (λ q k. keeps_less q (is_live_on c) m.live.items (without_live c m.live.items) refl (keeps_new q (without_live c m.live.items) n.live.items a.0 (bare q) a.3 k)) r in
    let left = ready_marked m.ready n.live.items c m.waiting.items n.waiting.items a.4 live in
    rw a.13 (ready_more m.ready n.live.items n.waiting.items ws (record { op = op; ctx = c; message = Some x; is_orphan = false }) e refl left)
  where
    none : (b : Bool) → (b && false) ≡ false
    none true = refl
    none false = refl

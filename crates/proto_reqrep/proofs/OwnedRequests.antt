-- The operations of a req that have a live request.
use Rattle.std.proofs.Common.{◌≡◌, ◌≢◌, refl, ap, sym, ◌∙◌, subst, List, [], ◌∷◌, ◌++◌, ℕ, Bool, true, false, cond, arith, Option, Some, None, map}
use Rattle.std.specs.Prelude.{find, not, is_some, ◌&&◌, ◌||◌, ◌==◌}
use Rattle.std.specs.List.{list_any}
use Rattle.std.specs.Option.{option_map}
use Rattle.std.proofs.lemmas.Bool.Decides.{nat_tests}
use Rattle.sp_base.specs.declared.OpName.{OpName}
use Rattle.sp_msg.specs.Views.{MessageView}
use Rattle.sp_history.specs.declared.parts.LastOut.{LastOut}
use Rattle.proto_live_requests.specs.declared.live.Live.{Live}
use Rattle.proto_live_requests.specs.declared.live.KeptReply.{KeptReply}
use Rattle.proto_reqrep.specs.declared.req.Asking.{Asking}
use Rattle.proto_live_requests.specs.LiveRequests.{live_ctx, is_live_on, without_live, with_out_on, with_reply, with_kept, waits_for}
use Rattle.proto_reqrep.specs.Reqs.{is_asked, is_sending, without_first, orphaned, IsOf, HasLive, HaveLive, is_sending_on, is_receiving_on, AreSingle}
use Rattle.proto_live_requests.proofs.RequestLives.{find_less, find_first}
use Rattle.proto_live_requests.proofs.Outgoing.{find_out}
use Rattle.proto_requests.proofs.TestValues.{equal_of, same_number, some_inj, turned}

-- ---- One more, one fewer

pub owned_more : (xs : List Live) (ws : List Asking) (w : Asking) → HaveLive xs ws → (w.is_orphan ≡ false → HasLive xs w) → HaveLive xs (ws ++ w ∷ [])
owned_more xs [] w h k = (k, h)
owned_more xs (v ∷ ws) w h k = (h.0, owned_more xs ws w h.1 k)

pub owned_taken : (xs : List Live) (op : OpName) (ws : List Asking) → HaveLive xs ws → HaveLive xs (without_first op ws)
owned_taken xs op [] h = h
owned_taken xs op (w ∷ ws) h = go (is_asked op w) (owned_taken xs op ws h.1)
  where
    go : (b : Bool) → HaveLive xs (without_first op ws) → HaveLive xs (cond b ws (w ∷ without_first op ws))
    go true again = h.1
    go false again = (h.0, again)

pub owned_at : (xs : List Live) (P : Asking → Bool) (ws : List Asking) (w : Asking) → HaveLive xs ws → find P ws ≡ Some w → w.is_orphan ≡ false → HasLive xs w
owned_at xs P [] w h f k = absurd cc
owned_at xs P (v ∷ ws) w h f k = go (P v) f (owned_at xs P ws w h.1)
  where
    go : (b : Bool) → cond b (Some v) (find P ws) ≡ Some w → (find P ws ≡ Some w → w.is_orphan ≡ false → HasLive xs w) → HasLive xs w
    go true f again =
        let is : v ≡ w = some_inj v w f in
        subst (λ (y : Asking). HasLive xs y) is (h.0 (subst (λ (y : Asking). y.is_orphan ≡ false) (sym is) k))
    go false f again = again f k

single_last : (P : ℕ → Asking → Bool) (c : ℕ) (ws : List Asking) (w : Asking) → list_any (P c) ws ≡ false → P c w ≡ false → list_any (P c) (ws ++ w ∷ []) ≡ false
single_last P c [] w h k = rw k refl
single_last P c (v ∷ ws) w h k = go (P c v) h (λ q. single_last P c ws w q k)
  where
    go : (b : Bool) → (b || list_any (P c) ws) ≡ false → (list_any (P c) ws ≡ false → list_any (P c) (ws ++ w ∷ []) ≡ false) → (b || list_any (P c) (ws ++ w ∷ [])) ≡ false
    go true h again = absurd cc
    go false h again = again h

-- one more at the end: there is no other receive of its context before it, and, where it is a send, no operation of a
-- live request
pub single_more : (ws : List Asking) (w : Asking) → AreSingle ws → (is_sending w ≡ false → list_any (is_receiving_on w.ctx) ws ≡ false) → (is_sending w ≡ true → list_any (λ (v : Asking). not v.is_orphan && (v.ctx == w.ctx)) ws ≡ false) → AreSingle (ws ++ w ∷ [])
single_more [] w h r s = (λ q. refl, λ q. refl, h)
single_more (v ∷ ws) w h r s = (λ q. receives q, λ q. sends q, single_more ws w h.2 (λ q. rest_of _ _ (r q)) (λ q. rest_of _ _ (s q)))
  where
    rest_of : (a b : Bool) → (a || b) ≡ false → b ≡ false
    rest_of true b k = absurd cc
    rest_of false b k = k

    first_of : (a b : Bool) → (a || b) ≡ false → a ≡ false
    first_of true b k = absurd cc
    first_of false b k = refl

    receives : is_sending v ≡ false → list_any (is_receiving_on v.ctx) (ws ++ w ∷ []) ≡ false
    receives q = single_last is_receiving_on v.ctx ws w (h.0 q) (go (is_sending w) refl)
      where
        go : (b : Bool) → is_sending w ≡ b → (not (is_sending w) && (w.ctx == v.ctx)) ≡ false
        go true e = rw e refl
        go false e =
            let other : (not (is_sending v) && (v.ctx == w.ctx)) ≡ false = first_of _ _ (r e) in
            let apart : (v.ctx == w.ctx) ≡ false = sym (ap (λ b. not b && (v.ctx == w.ctx)) q) ∙ other in
            rw (e, turned v.ctx w.ctx false apart) refl

    sends : v.is_orphan ≡ false → list_any (is_sending_on v.ctx) (ws ++ w ∷ []) ≡ false
    sends q = single_last is_sending_on v.ctx ws w (h.1 q) (go (is_sending w) refl)
      where
        go : (b : Bool) → is_sending w ≡ b → (is_sending w && (w.ctx == v.ctx)) ≡ false
        go false e = rw e refl
        go true e =
            let other : (not v.is_orphan && (v.ctx == w.ctx)) ≡ false = first_of _ _ (s e) in
            let apart : (v.ctx == w.ctx) ≡ false = sym (ap (λ b. not b && (v.ctx == w.ctx)) q) ∙ other in
            rw (e, turned v.ctx w.ctx false apart) refl

any_taken : (P : Asking → Bool) (op : OpName) (ws : List Asking) → list_any P ws ≡ false → list_any P (without_first op ws) ≡ false
any_taken P op [] h = h
any_taken P op (w ∷ ws) h = go (is_asked op w) (P w) refl h (any_taken P op ws)
  where
    go : (a b : Bool) → P w ≡ b → (b || list_any P ws) ≡ false → (list_any P ws ≡ false → list_any P (without_first op ws) ≡ false) → list_any P (cond a ws (w ∷ without_first op ws)) ≡ false
    go a true e h again = absurd cc
    go true false e h again = h
    go false false e h again = rw e (again h)

pub single_taken : (op : OpName) (ws : List Asking) → AreSingle ws → AreSingle (without_first op ws)
single_taken op [] h = h
single_taken op (w ∷ ws) h = go (is_asked op w) (single_taken op ws h.2)
  where
    go : (b : Bool) → AreSingle (without_first op ws) → AreSingle (cond b ws (w ∷ without_first op ws))
    go true again = h.2
    go false again = (λ q. any_taken (is_receiving_on w.ctx) op ws (h.0 q), λ q. any_taken (is_sending_on w.ctx) op ws (h.1 q), again)

-- ---- The request of a context ends

any_marked : (P : Asking → Bool) (c : ℕ) → ((w : Asking) → P (orphaned c w) ≡ P w) → (ws : List Asking) → list_any P (map (orphaned c) ws) ≡ list_any P ws
any_marked P c k [] = refl
any_marked P c k (w ∷ ws) = rw (k w) (ap (λ b. P w || b) (any_marked P c k ws))

kept_flag : (a b : Bool) → (a || b) ≡ false → a ≡ false
kept_flag true b h = absurd cc
kept_flag false b h = refl

pub single_marked : (c : ℕ) (ws : List Asking) → AreSingle ws → AreSingle (map (orphaned c) ws)
single_marked c [] h = h
single_marked c (w ∷ ws) h =
    (λ q. any_marked (is_receiving_on w.ctx) c (λ v. refl) ws ∙ h.0 q, λ q. any_marked (is_sending_on w.ctx) c (λ v. refl) ws ∙ h.1 (kept_flag _ _ q), single_marked c ws h.2)

pub owned_marked : (c : ℕ) (xs : List Live) (ws : List Asking) → HaveLive xs ws → HaveLive (without_live c xs) (map (orphaned c) ws)
owned_marked c xs [] h = h
owned_marked c xs (w ∷ ws) h = (λ q. go (other_flag _ _ q) (h.0 (kept_flag _ _ q)), owned_marked c xs ws h.1)
  where
    other_flag : (a b : Bool) → (a || b) ≡ false → b ≡ false
    other_flag true b k = absurd cc
    other_flag false b k = k

    go : (c == w.ctx) ≡ false → HasLive xs w → HasLive (without_live c xs) (orphaned c w)
    go e k = (k.0, find_less c w.ctx xs e ∙ k.1, k.2)

pub owned_longer : (xs ys : List Live) (ws : List Asking) → HaveLive xs ws → HaveLive (xs ++ ys) ws
owned_longer xs ys [] h = h
owned_longer xs ys (w ∷ ws) h = (λ q. let k = h.0 q in (k.0, find_first (is_live_on w.ctx) xs ys k.0 k.1, k.2), owned_longer xs ys ws h.1)

-- afterwards all of the context are orphans
pub all_marked : (c d : ℕ) (ws : List Asking) → (c == d) ≡ true → list_any (λ (v : Asking). not v.is_orphan && (v.ctx == d)) (map (orphaned c) ws) ≡ false
all_marked c d [] e = refl
all_marked c d (w ∷ ws) e = let k : list_any (λ (v : Asking). not v.is_orphan && (v.ctx == d)) (map (orphaned c) ws) ≡ false = all_marked c d ws e in rw k (go w.is_orphan (c == w.ctx) refl (w.ctx == d) refl)
  where
    third : (l m n : ℕ) → (l == m) ≡ true → (l == n) ≡ false → (n == m) ≡ true → ⊥
    third l m n a b k = grind (arith, nat_tests)

    go : (l a : Bool) → (c == w.ctx) ≡ a → (b : Bool) → (w.ctx == d) ≡ b → (not (l || a) && b || false) ≡ false
    go true a f b g = refl
    go false true f b g = refl
    go false false f false g = refl
    go false false f true g = absurd (third c d w.ctx e f g)

-- ---- No other of the context

-- a receive is the only one of its context
pub only_receive : (op : OpName) (ws : List Asking) (w : Asking) → AreSingle ws → find (is_asked op) ws ≡ Some w → is_sending w ≡ false → list_any (is_receiving_on w.ctx) (without_first op ws) ≡ false
only_receive op [] w h f k = absurd cc
only_receive op (v ∷ ws) w h f k = go (is_asked op v) f (λ q. only_receive op ws w h.2 q k)
  where
    there : (us : List Asking) → find (is_asked op) us ≡ Some w → list_any (is_receiving_on w.ctx) us ≡ true
    there [] g = absurd cc
    there (u ∷ us) g = step (is_asked op u) g (there us)
      where
        or_right : (a b : Bool) → b ≡ true → (a || b) ≡ true
        or_right true b q = refl
        or_right false b q = q

        step : (b : Bool) → cond b (Some u) (find (is_asked op) us) ≡ Some w → (find (is_asked op) us ≡ Some w → list_any (is_receiving_on w.ctx) us ≡ true) → (is_receiving_on w.ctx u || list_any (is_receiving_on w.ctx) us) ≡ true
        step true g again =
            let is : u ≡ w = some_inj u w g in
            subst (λ (y : Asking). (not (is_sending y) && (y.ctx == w.ctx) || list_any (is_receiving_on w.ctx) us) ≡ true) (sym is) (rw (k, same_number w.ctx) refl)
        step false g again = or_right _ _ (again g)

    go : (b : Bool) → cond b (Some v) (find (is_asked op) ws) ≡ Some w → (find (is_asked op) ws ≡ Some w → list_any (is_receiving_on w.ctx) (without_first op ws) ≡ false) → list_any (is_receiving_on w.ctx) (cond b ws (v ∷ without_first op ws)) ≡ false
    go true g again =
        let is : v ≡ w = some_inj v w g in
        subst (λ (y : Asking). list_any (is_receiving_on y.ctx) ws ≡ false) is (h.0 (subst (λ (y : Asking). is_sending y ≡ false) (sym is) k))
    go false g again = rw (again g) (isnt (is_sending v) refl (v.ctx == w.ctx) refl)
      where
        isnt : (s : Bool) → is_sending v ≡ s → (e : Bool) → (v.ctx == w.ctx) ≡ e → (not s && e || false) ≡ false
        isnt true a e b = refl
        isnt false a false b = refl
        isnt false a true b =
            let none : list_any (is_receiving_on w.ctx) ws ≡ false = subst (λ n. list_any (is_receiving_on n) ws ≡ false) (equal_of v.ctx w.ctx b) (h.0 a) in
            let bad : true ≡ false = sym (there ws g) ∙ none in absurd cc

-- a send whose request is live is the only one of its context that has one
pub only_send : (op : OpName) (ws : List Asking) (w : Asking) → AreSingle ws → find (is_asked op) ws ≡ Some w → is_sending w ≡ true → w.is_orphan ≡ false → list_any (λ (v : Asking). not v.is_orphan && is_sending_on w.ctx v) (without_first op ws) ≡ false
only_send op [] w h f k o = absurd cc
only_send op (v ∷ ws) w h f k o = go (is_asked op v) f (λ q. only_send op ws w h.2 q k o)
  where
    there : (us : List Asking) → find (is_asked op) us ≡ Some w → list_any (is_sending_on w.ctx) us ≡ true
    there [] g = absurd cc
    there (u ∷ us) g = step (is_asked op u) g (there us)
      where
        or_right : (a b : Bool) → b ≡ true → (a || b) ≡ true
        or_right true b q = refl
        or_right false b q = q

        step : (b : Bool) → cond b (Some u) (find (is_asked op) us) ≡ Some w → (find (is_asked op) us ≡ Some w → list_any (is_sending_on w.ctx) us ≡ true) → (is_sending_on w.ctx u || list_any (is_sending_on w.ctx) us) ≡ true
        step true g again =
            let is : u ≡ w = some_inj u w g in
            subst (λ (y : Asking). (is_sending y && (y.ctx == w.ctx) || list_any (is_sending_on w.ctx) us) ≡ true) (sym is) (rw (k, same_number w.ctx) refl)
        step false g again = or_right _ _ (again g)

    fewer : (us : List Asking) → list_any (is_sending_on w.ctx) us ≡ false → list_any (λ (v : Asking). not v.is_orphan && is_sending_on w.ctx v) us ≡ false
    fewer [] q = refl
    fewer (u ∷ us) q = step (is_sending_on w.ctx u) u.is_orphan q (fewer us)
      where
        step : (a l : Bool) → (a || list_any (is_sending_on w.ctx) us) ≡ false → (list_any (is_sending_on w.ctx) us ≡ false → list_any (λ (v : Asking). not v.is_orphan && is_sending_on w.ctx v) us ≡ false) → (not l && a || list_any (λ (v : Asking). not v.is_orphan && is_sending_on w.ctx v) us) ≡ false
        step true l q again = absurd cc
        step false true q again = again q
        step false false q again = again q

    go : (b : Bool) → cond b (Some v) (find (is_asked op) ws) ≡ Some w → (find (is_asked op) ws ≡ Some w → list_any (λ (v : Asking). not v.is_orphan && is_sending_on w.ctx v) (without_first op ws) ≡ false)
        → list_any (λ (v : Asking). not v.is_orphan && is_sending_on w.ctx v) (cond b ws (v ∷ without_first op ws)) ≡ false
    go true g again =
        let is : v ≡ w = some_inj v w g in
        fewer ws (subst (λ (y : Asking). list_any (is_sending_on y.ctx) ws ≡ false) is (h.1 (subst (λ (y : Asking). y.is_orphan ≡ false) (sym is) o)))
    go false g again = rw (again g) (isnt v.is_orphan refl (is_sending v) (v.ctx == w.ctx) refl)
      where
        isnt : (l : Bool) → v.is_orphan ≡ l → (s e : Bool) → (v.ctx == w.ctx) ≡ e → (not l && (s && e) || false) ≡ false
        isnt true a s e b = refl
        isnt false a false e b = refl
        isnt false a true false b = refl
        isnt false a true true b =
            let none : list_any (is_sending_on w.ctx) ws ≡ false = subst (λ n. list_any (is_sending_on n) ws ≡ false) (equal_of v.ctx w.ctx b) (h.1 a) in
            let bad : true ≡ false = sym (there ws g) ∙ none in absurd cc

-- ---- A request is answered

-- a live request with a reply has no send that waits, and its one receive is taken out
pub none_beside : (c : ℕ) (xs : List Live) (x : Live) (ws : List Asking) → HaveLive xs ws → find (is_live_on c) xs ≡ Some x → x.last_out ≢ None → list_any (is_receiving_on c) ws ≡ false → list_any (λ (w : Asking). not w.is_orphan && (c == w.ctx)) ws ≡ false
none_beside c xs x [] h f l r = refl
none_beside c xs x (w ∷ ws) h f l r =
    let k : list_any (λ (v : Asking). not v.is_orphan && (c == v.ctx)) ws ≡ false = none_beside c xs x ws h.1 f l (rest_of _ _ r) in
    rw k (go w.is_orphan refl (c == w.ctx) refl w.message refl)
  where
    rest_of : (a b : Bool) → (a || b) ≡ false → b ≡ false
    rest_of true b k = absurd cc
    rest_of false b k = k

    first_of : (a b : Bool) → (a || b) ≡ false → a ≡ false
    first_of true b k = absurd cc
    first_of false b k = refl

    go : (o : Bool) → w.is_orphan ≡ o → (e : Bool) → (c == w.ctx) ≡ e → (m : Option MessageView) → w.message ≡ m → (not o && e || false) ≡ false
    go true a e b m g = refl
    go false a false b m g = refl
    go false a true b None g =
        let no_ : (not (is_some w.message) && (w.ctx == c)) ≡ false = first_of _ _ r in
        let on : (w.ctx == c) ≡ true = turned c w.ctx true b in
        let bad : true ≡ false = sym (ap (λ (o : Option MessageView). not (is_some o) && (w.ctx == c)) g ∙ on) ∙ no_ in
        absurd cc
    go false a true b (Some m) g =
        let k = h.0 a in
        let is : Some k.0 ≡ Some x = sym k.1 ∙ ap (λ n. find (is_live_on n) xs) (sym (equal_of c w.ctx b)) ∙ f in
        let of : IsOf x (Some m) = subst (λ (o : Option MessageView). IsOf x o) g (subst (λ (y : Live). IsOf y w.message) (some_inj k.0 x is) k.2) in
        absurd (l of.1)

pub owned_less : (c : ℕ) (xs : List Live) (ws : List Asking) → HaveLive xs ws → list_any (λ (w : Asking). not w.is_orphan && (c == w.ctx)) ws ≡ false → HaveLive (without_live c xs) ws
owned_less c xs [] h k = h
owned_less c xs (w ∷ ws) h k = (λ q. go q (h.0 q), owned_less c xs ws h.1 (rest_of _ _ k))
  where
    rest_of : (a b : Bool) → (a || b) ≡ false → b ≡ false
    rest_of true b k = absurd cc
    rest_of false b k = k

    first_of : (a b : Bool) → (a || b) ≡ false → a ≡ false
    first_of true b k = absurd cc
    first_of false b k = refl

    go : w.is_orphan ≡ false → HasLive xs w → HasLive (without_live c xs) w
    go q l =
        let away : (c == w.ctx) ≡ false = sym (ap (λ b. not b && (c == w.ctx)) q) ∙ first_of _ _ k in
        (l.0, find_less c w.ctx xs away ∙ l.1, l.2)

-- ---- A request goes out

pub owned_out : (c now p : ℕ) (xs : List Live) (ws : List Asking) → HaveLive xs ws → list_any (λ (v : Asking). not v.is_orphan && is_sending_on c v) ws ≡ false → HaveLive (map (with_out_on c (record { pipe = p; when = now })) xs) ws
owned_out c now p xs [] h k = h
owned_out c now p xs (w ∷ ws) h k = (λ q. go q (h.0 q), owned_out c now p xs ws h.1 (rest_of _ _ k))
  where
    rest_of : (a b : Bool) → (a || b) ≡ false → b ≡ false
    rest_of true b k = absurd cc
    rest_of false b k = k

    first_of : (a b : Bool) → (a || b) ≡ false → a ≡ false
    first_of true b k = absurd cc
    first_of false b k = refl

    o : LastOut
    o = record { pipe = p; when = now }

    still : w.is_orphan ≡ false → (x : Live) → x.ctx ≡ w.ctx → (m : Option MessageView) → w.message ≡ m → IsOf x m → IsOf (with_out_on c o x) m
    still q x e None g i = i
    still q x e (Some m) g i = (i.0, step (x.ctx == c) refl)
      where
        step : (b : Bool) → (x.ctx == c) ≡ b → cond b (Some o) x.last_out ≡ None
        step false a = i.1
        step true a =
            let on : (w.ctx == c) ≡ true = subst (λ n. (n == c) ≡ true) e a in
            let no_ : (not w.is_orphan && (is_some w.message && (w.ctx == c))) ≡ false = first_of _ _ k in
            let bad : true ≡ false = sym (ap (λ b. not b && (is_some w.message && (w.ctx == c))) q ∙ ap (λ (n : Option MessageView). is_some n && (w.ctx == c)) g ∙ on) ∙ no_ in
            absurd cc

    go : w.is_orphan ≡ false → HasLive xs w → HasLive (map (with_out_on c o) xs) w
    go q l =
        (with_out_on c o l.0, find_out c now p w.ctx xs ∙ ap (option_map (with_out_on c o)) l.1, still q l.0 (ctx_of xs l.0 l.1) w.message refl l.2)
      where
        ctx_of : (ys : List Live) (x : Live) → find (is_live_on w.ctx) ys ≡ Some x → x.ctx ≡ w.ctx
        ctx_of [] x f = absurd cc
        ctx_of (y ∷ ys) x f = step (y.ctx == w.ctx) refl f (ctx_of ys x)
          where
            step : (b : Bool) → (y.ctx == w.ctx) ≡ b → cond b (Some y) (find (is_live_on w.ctx) ys) ≡ Some x → (find (is_live_on w.ctx) ys ≡ Some x → x.ctx ≡ w.ctx) → x.ctx ≡ w.ctx
            step true a f again = ap live_ctx (sym (some_inj y x f)) ∙ equal_of y.ctx w.ctx a
            step false a f again = again f

-- ---- A reply comes

find_kept : (id : ℕ) (k : KeptReply) (d : ℕ) (xs : List Live) (x : Live) → find (is_live_on d) xs ≡ Some x → (y : Live) × (find (is_live_on d) (with_reply id k xs) ≡ Some y) × (y.copy ≡ x.copy) × (y.last_out ≡ x.last_out)
find_kept id k d [] x f = absurd cc
find_kept id k d (z ∷ xs) x f = go (waits_for id z) (z.ctx == d) refl f (find_kept id k d xs x)
  where
    go : (w b : Bool) → (z.ctx == d) ≡ b → cond b (Some z) (find (is_live_on d) xs) ≡ Some x → (find (is_live_on d) xs ≡ Some x → (y : Live) × (find (is_live_on d) (with_reply id k xs) ≡ Some y) × (y.copy ≡ x.copy) × (y.last_out ≡ x.last_out))
        → (y : Live) × (find (is_live_on d) (cond w (with_kept k z ∷ xs) (z ∷ with_reply id k xs)) ≡ Some y) × (y.copy ≡ x.copy) × (y.last_out ≡ x.last_out)
    go true true e f again = (with_kept k z, rw e refl, ap (λ (u : Live). u.copy) (some_inj z x f), ap (λ (u : Live). u.last_out) (some_inj z x f))
    go false true e f again = (z, rw e refl, ap (λ (u : Live). u.copy) (some_inj z x f), ap (λ (u : Live). u.last_out) (some_inj z x f))
    go true false e f again = (x, rw e f, refl, refl)
    go false false e f again = let y = again f in (y.0, rw e y.1, y.2, y.3)

pub owned_kept : (id : ℕ) (k : KeptReply) (xs : List Live) (ws : List Asking) → HaveLive xs ws → HaveLive (with_reply id k xs) ws
owned_kept id k xs [] h = h
owned_kept id k xs (w ∷ ws) h = (λ q. go (h.0 q), owned_kept id k xs ws h.1)
  where
    still : (x y : Live) → y.copy ≡ x.copy → y.last_out ≡ x.last_out → (m : Option MessageView) → IsOf x m → IsOf y m
    still x y c l None i = i
    still x y c l (Some m) i = (ap (λ (u : MessageView). u.body) c ∙ i.0, l ∙ i.1)

    go : HasLive xs w → HasLive (with_reply id k xs) w
    go l = let y = find_kept id k w.ctx xs l.0 l.1 in (y.0, y.1, still l.0 y.0 y.2 y.3 w.message l.2)

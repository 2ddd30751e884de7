-- The live requests of a req that are looked at when they are due, after each call.
use Rattle.std.proofs.Common.{◌≡◌, refl, ap, sym, ◌∙◌, subst, List, [], ◌∷◌, ◌++◌, ℕ, ◌+◌, ◌≤◌, Bool, true, false, cond, arith, Option, Some, None, map, filter, inl, inr}
use Rattle.std.specs.Prelude.{◌⊎◌, find, not, is_some, nat_le, drop, ◌&&◌, ◌||◌, ◌==◌}
use Rattle.std.specs.List.{list_any}
use Rattle.std.proofs.lemmas.Bool.Decides.{nat_tests}
use Rattle.sp_history.specs.declared.parts.LastOut.{LastOut}
use Rattle.sp_history.specs.Lists.{has, head_of}
use Rattle.sp_history.specs.Past.{up, ups}
use Rattle.sp_history.specs.Once.{AreDistinct}
use Rattle.sp_history.specs.Moments.{Moment, past}
use Rattle.proto_requests.specs.Ports.{PortView, is_pipe}
use Rattle.proto_requests.specs.Hints.{covers, covers_by}
use Rattle.proto_reqrep.specs.declared.req.Request.{Request as Machine}
use Rattle.proto_live_requests.specs.declared.live.Live.{Live}
use Rattle.proto_live_requests.specs.declared.live.KeptReply.{KeptReply}
use Rattle.proto_live_requests.specs.ReqContexts.{ReqContextView}
use Rattle.proto_live_requests.specs.Dues.{DuesView, AreSeen, StaySeen, StayLate, awaited}
use Rattle.proto_live_requests.specs.Outs.{is_sent}
use Rattle.proto_live_requests.specs.LiveRequests.{is_live_on, live_ctx, without_live, dry_at, dried, wetted}
use Rattle.proto_reqrep.specs.Reqs.{Ties, Asks, IsSeen, IsDueOn, is_late, is_late_in, due_in, late_in, dry_in, is_due_out}
use Rattle.proto_requests.proofs.TestValues.{both_false, equal_of, same_number}
use Rattle.proto_live_requests.proofs.RequestLives.{found_ctx, gone_on}
use Rattle.proto_reqrep.proofs.WorkLeft.{dry_more, up_is}
use Rattle.proto_live_requests.proofs.DueRequests.{seen_live, seen_late, seen_less, seen_more, seen_dropped, seen_cleared, none_unseen}

-- ---- What is due

first_of : (a b : Bool) → (a && b) ≡ true → a ≡ true
first_of true b h = refl
first_of false b h = absurd cc

second_of : (a b : Bool) → (a && b) ≡ true → b ≡ true
second_of true b h = h
second_of false b h = absurd cc

both : (a b : Bool) → a ≡ true → b ≡ true → (a && b) ≡ true
both a b h k = rw (h, k) refl

is_false : (b : Bool) → not b ≡ true → b ≡ false
is_false true h = absurd cc
is_false false h = refl

pub due_parts : (m : Machine) (x : Live) → due_in m x ≡ true → (o : LastOut) × (x.reply ≡ None) × (x.last_out ≡ Some o) × (late_in m o ≡ true) × (dry_in m x.ctx ≡ false)
due_parts m x h = go x.reply refl x.last_out refl h
  where
    go : (r : Option KeptReply) → x.reply ≡ r → (l : Option LastOut) → x.last_out ≡ l → (not (is_some r) && (is_late_in m.options.resend m.tick m.ports.items l && not (dry_at x.ctx m.contexts.items))) ≡ true → (o : LastOut) × (x.reply ≡ None) × (x.last_out ≡ Some o) × (late_in m o ≡ true) × (dry_in m x.ctx ≡ false)
    go (Some k) e l f h = absurd cc
    go None e None f h = absurd cc
    go None e (Some o) f h = (o, e, f, first_of _ _ h, is_false _ (second_of (late_in m o) _ h))

pub due_made : (m : Machine) (x : Live) (o : LastOut) → x.reply ≡ None → x.last_out ≡ Some o → late_in m o ≡ true → dry_in m x.ctx ≡ false → due_in m x ≡ true
due_made m x o r l e d =
    ap (λ (y : Option KeptReply). not (is_some y) && (is_late_in m.options.resend m.tick m.ports.items x.last_out && not (dry_at x.ctx m.contexts.items))) r ∙ ap (λ (y : Option LastOut). is_late_in m.options.resend m.tick m.ports.items y && not (dry_at x.ctx m.contexts.items)) l
    ∙ both _ _ e (ap not d)

pub due_found : (m : Machine) (c : ℕ) → is_due_out m (awaited (find (is_live_on c) m.live.items)) c ≡ true → IsDueOn m c
due_found m c h = go (find (is_live_on c) m.live.items) refl h
  where
    waits : (x : Live) → find (is_live_on c) m.live.items ≡ Some x → (r : Option KeptReply) → x.reply ≡ r → (l : Option LastOut) → x.last_out ≡ l → is_due_out m (cond (is_some r) None l) c ≡ true → IsDueOn m c
    waits x f (Some k) e l g h = absurd cc
    waits x f None e None g h = absurd cc
    waits x f None e (Some o) g h = (x, f, due_made m x o e g (first_of _ _ h) (ap (dry_in m) (found_ctx c m.live.items x f) ∙ is_false _ (second_of (late_in m o) _ h)))

    go : (o : Option Live) → find (is_live_on c) m.live.items ≡ o → is_due_out m (awaited o) c ≡ true → IsDueOn m c
    go None f h = absurd cc
    go (Some x) f h = waits x f x.reply refl x.last_out refl h

-- what is no longer looked at is not due
pub looked_past : (m : Machine) (v : DuesView) (last c : ℕ) → AreDistinct (map live_ctx m.live.items) → Some c ≡ head_of v.due.items → is_due_out m (awaited (find (is_live_on c) m.live.items)) c ≡ false → AreSeen v (late_in m) (dry_in m) last m.live.items
    → AreSeen (record v { due = record { whole = v.due.whole; items = drop 1 v.due.items } }) (late_in m) (dry_in m) last m.live.items
looked_past m v last c a e n h = seen_dropped v (late_in m) (dry_in m) last c m.live.items a e (λ o z. sym (ap (λ y. is_due_out m y c) z) ∙ n) h

pub none_looked : (m : Machine) (v : DuesView) (last : ℕ) → v.due.whole ≡ true → v.due.items ≡ [] → AreSeen v (late_in m) (dry_in m) last m.live.items → list_any (due_in m) m.live.items ≡ false
none_looked m v last e f h = none_unseen v (late_in m) (dry_in m) last (due_in m) m.live.items e f (due_parts m) h

pub none_searched : (m : Machine) (last : ℕ) → list_any (due_in m) m.live.items ≡ false → IsSeen m last → AreSeen (record m.dues { due = record { whole = true; items = [] } }) (late_in m) (dry_in m) last m.live.items
none_searched m last n h = seen_cleared m.dues (late_in m) (dry_in m) last (due_in m) m.live.items n (λ x o r l e d. due_made m x o r l e d) h

-- ---- Pipes

any_mapped : (f : PortView → PortView) (q : ℕ) (ps : List PortView) → ((x : PortView) → (f x).pipe ≡ x.pipe) → list_any (is_pipe q) (map f ps) ≡ list_any (is_pipe q) ps
any_mapped f q [] s = refl
any_mapped f q (p ∷ ps) s = ap (λ (n : ℕ). (n == q) || list_any (is_pipe q) (map f ps)) (s p) ∙ ap (λ b. (p.pipe == q) || b) (any_mapped f q ps s)

pub seen_mapped : (m : Machine) (last : ℕ) (f : PortView → PortView) (ps : List PortView) → ((x : PortView) → (f x).pipe ≡ x.pipe) → ps ≡ map f m.ports.items → IsSeen m last → AreSeen m.dues (λ o. is_late m.options.resend m.tick ps o) (dry_in m) last m.live.items
seen_mapped m last f ps s e h =
    seen_late m.dues (late_in m) (λ o. is_late m.options.resend m.tick ps o) (dry_in m) (dry_in m) last last m.live.items (λ o k. ap (λ b. not b || nat_le (o.when + m.options.resend) m.tick) (ap (list_any (is_pipe o.pipe)) e ∙ any_mapped f o.pipe m.ports.items s)) (λ q. refl) (omega arith) h

pub seen_up : (m : Machine) (last p : ℕ) (ps : List PortView) → p ≡ last + 1 → ps ≡ m.ports.items ++ record { pipe = p; is_full = false } ∷ [] → IsSeen m last → AreSeen m.dues (λ o. is_late m.options.resend m.tick ps o) (dry_in m) (last + 1) m.live.items
seen_up m last p ps n e h =
    seen_late m.dues (late_in m) (λ o. is_late m.options.resend m.tick ps o) (dry_in m) (dry_in m) last (last + 1) m.live.items (λ o k. ap (λ b. not b || nat_le (o.when + m.options.resend) m.tick) (ap (list_any (is_pipe o.pipe)) e ∙ one_more o.pipe m.ports.items (other o.pipe k))) (λ q. refl) (omega arith) h
  where
    other : (q : ℕ) → q ≤ last → (p == q) ≡ false
    other q k = grind (arith, nat_tests)

    one_more : (q : ℕ) (xs : List PortView) → (p == q) ≡ false → list_any (is_pipe q) (xs ++ record { pipe = p; is_full = false } ∷ []) ≡ list_any (is_pipe q) xs
    one_more q [] k = ap (λ b. b || false) k
    one_more q (x ∷ xs) k = ap (λ b. (x.pipe == q) || b) (one_more q xs k)

any_without : (p q : ℕ) (ps : List PortView) → list_any (is_pipe q) (filter (λ (x : PortView). not (x.pipe == p)) ps) ≡ (not (p == q) && list_any (is_pipe q) ps)
any_without p q [] = go (p == q)
  where
    go : (b : Bool) → false ≡ (not b && false)
    go true = refl
    go false = refl
any_without p q (x ∷ ps) = step (x.pipe == p) refl (p == q) refl (any_without p q ps)
  where
    off : (n : ℕ) → (x.pipe == p) ≡ true → (p == q) ≡ false → (x.pipe == q) ≡ false
    off n a b = let is = equal_of x.pipe p a in ap (λ n. n == q) is ∙ b

    onto : (x.pipe == p) ≡ false → (p == q) ≡ true → (x.pipe == q) ≡ false
    onto a b = let is = equal_of p q b in ap (λ n. x.pipe == n) (sym is) ∙ a

    step : (a : Bool) → (x.pipe == p) ≡ a → (b : Bool) → (p == q) ≡ b → list_any (is_pipe q) (filter (λ (x : PortView). not (x.pipe == p)) ps) ≡ (not b && list_any (is_pipe q) ps)
        → list_any (is_pipe q) (cond (not a) (x ∷ filter (λ (x : PortView). not (x.pipe == p)) ps) (filter (λ (x : PortView). not (x.pipe == p)) ps)) ≡ (not b && ((x.pipe == q) || list_any (is_pipe q) ps))
    step true e true f k = k
    step true e false f k = k ∙ sym (ap (λ b. b || list_any (is_pipe q) ps) (off q e f))
    step false e true f k = ap (λ b. b || list_any (is_pipe q) (filter (λ (x : PortView). not (x.pipe == p)) ps)) (onto e f) ∙ k
    step false e false f k = ap (λ b. (x.pipe == q) || b) k

module _ (m : Machine) (p : ℕ) (ps : List PortView) (e : ps ≡ filter (λ (x : PortView). not (x.pipe == p)) m.ports.items) where
  up_now : (q : ℕ) → list_any (is_pipe q) ps ≡ (not (p == q) && list_any (is_pipe q) m.ports.items)
  up_now q = ap (list_any (is_pipe q)) e ∙ any_without p q m.ports.items

  pub down_stays : StayLate (late_in m) (λ o. is_late m.options.resend m.tick ps o)
  down_stays o h = ap (λ b. not b || nat_le (o.when + m.options.resend) m.tick) (up_now o.pipe) ∙ go (p == o.pipe) (list_any (is_pipe o.pipe) m.ports.items) h
    where
      go : (a b : Bool) → (not b || nat_le (o.when + m.options.resend) m.tick) ≡ true → (not (not a && b) || nat_le (o.when + m.options.resend) m.tick) ≡ true
      go true b h = refl
      go false b h = h

  pub down_only : (o : LastOut) → is_late m.options.resend m.tick ps o ≡ true → (late_in m o ≡ true) ⊎ (o.pipe ≡ p)
  down_only o h = go (p == o.pipe) refl (sym (ap (λ b. not b || nat_le (o.when + m.options.resend) m.tick) (up_now o.pipe)) ∙ h)
    where
      go : (a : Bool) → (p == o.pipe) ≡ a → (not (not a && list_any (is_pipe o.pipe) m.ports.items) || nat_le (o.when + m.options.resend) m.tick) ≡ true → (late_in m o ≡ true) ⊎ (o.pipe ≡ p)
      go true f h = inr (sym (equal_of p o.pipe f))
      go false f h = inl h

  pub down_late : (o : LastOut) → o.pipe ≡ p → is_late m.options.resend m.tick ps o ≡ true
  down_late o f = ap (λ b. not b || nat_le (o.when + m.options.resend) m.tick) (up_now o.pipe ∙ ap (λ b. not b && list_any (is_pipe o.pipe) m.ports.items) (ap (λ n. p == n) f ∙ same_number p))

-- ---- Ticks

module _ (m : Machine) (now : ℕ) (l : m.tick ≤ now) where
  pub tick_stays : StayLate (late_in m) (λ o. is_late m.options.resend now m.ports.items o)
  tick_stays o h = go (list_any (is_pipe o.pipe) m.ports.items) h
    where
      later : nat_le (o.when + m.options.resend) m.tick ≡ true → nat_le (o.when + m.options.resend) now ≡ true
      later k = grind (arith, nat_tests)

      go : (b : Bool) → (not b || nat_le (o.when + m.options.resend) m.tick) ≡ true → (not b || nat_le (o.when + m.options.resend) now) ≡ true
      go true h = later h
      go false h = refl

  pub tick_only : (o : LastOut) → is_late m.options.resend now m.ports.items o ≡ true → (late_in m o ≡ true) ⊎ (nat_le (o.when + m.options.resend) now ≡ true)
  tick_only o h = go (list_any (is_pipe o.pipe) m.ports.items) h
    where
      go : (b : Bool) → (not b || nat_le (o.when + m.options.resend) now) ≡ true → ((not b || nat_le (o.when + m.options.resend) m.tick) ≡ true) ⊎ (nat_le (o.when + m.options.resend) now ≡ true)
      go true h = inr h
      go false h = inl refl

pub tick_late : (m : Machine) (now : ℕ) (o : LastOut) → nat_le (o.when + m.options.resend) now ≡ true → is_late m.options.resend now m.ports.items o ≡ true
tick_late m now o h = go (not (list_any (is_pipe o.pipe) m.ports.items))
  where
    go : (b : Bool) → (b || nat_le (o.when + m.options.resend) now) ≡ true
    go true = refl
    go false = h

-- ---- Contexts

dry_wetted : (d : ℕ) (ss : List ReqContextView) → dry_at d (map wetted ss) ≡ false
dry_wetted d [] = refl
dry_wetted d (s ∷ ss) = ap (λ b. ((s.ctx == d) && false) || b) (dry_wetted d ss) ∙ go (s.ctx == d)
  where
    go : (a : Bool) → (a && false || false) ≡ false
    go true = refl
    go false = refl

-- none is dry after a tick
pub seen_wet : (v : DuesView) (late : LastOut → Bool) (last : ℕ) (ss rs : List ReqContextView) (xs : List Live) → rs ≡ map wetted ss → AreSeen v late (λ q. false) last xs → AreSeen v late (λ q. dry_at q rs) last xs
seen_wet v late last ss rs xs e h = seen_late v late late (λ q. false) (λ q. dry_at q rs) last last xs (λ o k. refl) (λ q. ap (dry_at q) e ∙ dry_wetted q ss) (omega arith) h

dry_opened : (c d : ℕ) (ss : List ReqContextView) → dry_at d (ss ++ record { ctx = c; is_dry = false } ∷ []) ≡ dry_at d ss
dry_opened c d [] = go (c == d)
  where
    go : (b : Bool) → (b && false || false) ≡ false
    go true = refl
    go false = refl
dry_opened c d (s ∷ ss) = ap (λ b. ((s.ctx == d) && s.is_dry) || b) (dry_opened c d ss)

pub seen_opened : (m : Machine) (last c : ℕ) (rs : List ReqContextView) → rs ≡ m.contexts.items ++ record { ctx = c; is_dry = false } ∷ [] → IsSeen m last → AreSeen m.dues (late_in m) (λ q. dry_at q rs) last m.live.items
seen_opened m last c rs e h = seen_late m.dues (late_in m) (late_in m) (dry_in m) (λ q. dry_at q rs) last last m.live.items (λ o k. refl) (λ q. ap (dry_at q) e ∙ dry_opened c q m.contexts.items) (omega arith) h

-- context 0 of a new req is not dry
pub none_dry : (q : ℕ) (ss : List ReqContextView) → ss ≡ record { ctx = 0; is_dry = false } ∷ [] → dry_at q ss ≡ false
none_dry q ss e = ap (dry_at q) e ∙ go (0 == q)
  where
    go : (b : Bool) → (b && false || false) ≡ false
    go true = refl
    go false = refl

dry_shut : (c d : ℕ) (ss : List ReqContextView) → (d == c) ≡ false → dry_at d (filter (λ (s : ReqContextView). not (s.ctx == c)) ss) ≡ dry_at d ss
dry_shut c d [] e = refl
dry_shut c d (s ∷ ss) e = go (s.ctx == c) refl (dry_shut c d ss e)
  where
    other : (b : Bool) → (s.ctx == d) ≡ b → (s.ctx == c) ≡ true → b ≡ false
    other false k q = refl
    other true k q = let same : d ≡ c = sym (equal_of s.ctx d k) ∙ equal_of s.ctx c q in let bad : true ≡ false = sym (same_number c) ∙ sym (ap (λ n. n == c) same) ∙ e in absurd cc

    go : (b : Bool) → (s.ctx == c) ≡ b → dry_at d (filter (λ (s : ReqContextView). not (s.ctx == c)) ss) ≡ dry_at d ss → dry_at d (cond (not b) (s ∷ filter (λ (s : ReqContextView). not (s.ctx == c)) ss) (filter (λ (s : ReqContextView). not (s.ctx == c)) ss)) ≡ ((s.ctx == d) && s.is_dry || dry_at d ss)
    go true q k = k ∙ sym (ap (λ b. b && s.is_dry || dry_at d ss) (other (s.ctx == d) refl q))
    go false q k = ap (λ b. (s.ctx == d) && s.is_dry || b) k

dry_fewer : (c d : ℕ) (ss : List ReqContextView) → dry_at d (filter (λ (s : ReqContextView). not (s.ctx == c)) ss) ≡ true → dry_at d ss ≡ true
dry_fewer c d [] h = h
dry_fewer c d (s ∷ ss) h = go (s.ctx == c) h (dry_fewer c d ss)
  where
    or_right : (a b : Bool) → b ≡ true → (a || b) ≡ true
    or_right true b h = refl
    or_right false b h = h

    keep : (a : Bool) → (a || dry_at d (filter (λ (s : ReqContextView). not (s.ctx == c)) ss)) ≡ true → (dry_at d (filter (λ (s : ReqContextView). not (s.ctx == c)) ss) ≡ true → dry_at d ss ≡ true) → (a || dry_at d ss) ≡ true
    keep true h again = refl
    keep false h again = again h

    go : (b : Bool) → dry_at d (cond (not b) (s ∷ filter (λ (s : ReqContextView). not (s.ctx == c)) ss) (filter (λ (s : ReqContextView). not (s.ctx == c)) ss)) ≡ true → (dry_at d (filter (λ (s : ReqContextView). not (s.ctx == c)) ss) ≡ true → dry_at d ss ≡ true) → ((s.ctx == d) && s.is_dry || dry_at d ss) ≡ true
    go true h again = or_right ((s.ctx == d) && s.is_dry) (dry_at d ss) (again h)
    go false h again = keep ((s.ctx == d) && s.is_dry) h again

-- the context is closed, and no request of it is live any more
pub seen_shut : (m : Machine) (t : Moment) (last c : ℕ) (xs : List Live) (rs : List ReqContextView) → Ties m t → rs ≡ filter (λ (s : ReqContextView). not (s.ctx == c)) m.contexts.items → xs ≡ without_live c m.live.items → AreDistinct (map live_ctx xs) → IsSeen m last → AreSeen m.dues (late_in m) (λ q. dry_at q rs) last xs
seen_shut m t last c xs rs h e f a s =
    let less = seen_less m.dues (late_in m) (dry_in m) last (is_live_on c) m.live.items xs f s in
    seen_live m.dues m.dues (late_in m) (late_in m) (dry_in m) (λ q. dry_at q rs) last last xs a (λ q k. less.1 q (dry_fewer c q m.contexts.items (sym (ap (dry_at q) e) ∙ k)))
    (λ q o z k. ap (λ b. nat_le o.pipe last && cond (late_in m o) (b || covers m.dues.due q) (covers_by m.dues.outs (is_sent q o))) (ap (dry_at q) e ∙ dry_shut c q m.contexts.items (other q o z (q == c) refl)) ∙ k) less
  where
    gone : has (map live_ctx xs) c ≡ false
    gone = rw f (gone_on c m.live.items h.3.places)

    none : (ys : List Live) → has (map live_ctx ys) c ≡ false → awaited (find (is_live_on c) ys) ≡ None
    none [] g = refl
    none (y ∷ ys) g = let b = both_false (y.ctx == c) (has (map live_ctx ys) c) g in ap (λ b. awaited (cond b (Some y) (find (is_live_on c) ys))) b.0 ∙ none ys b.1

    other : (q : ℕ) (o : LastOut) → awaited (find (is_live_on q) xs) ≡ Some o → (b : Bool) → (q == c) ≡ b → b ≡ false
    other q o z false g = refl
    other q o z true g = let bad : None ≡ Some o = sym (none xs gone) ∙ ap (λ n. awaited (find (is_live_on n) xs)) (sym (equal_of q c g)) ∙ z in absurd cc

-- a context is dry
pub dry_others : (c q : ℕ) (ss rs : List ReqContextView) → rs ≡ map (dried c) ss → (q == c) ≡ false → dry_at q rs ≡ dry_at q ss
dry_others c q ss rs e n = ap (dry_at q) e ∙ go ss
  where
    other : (s : ReqContextView) (b : Bool) → (s.ctx == q) ≡ b → (b && (s.is_dry || (s.ctx == c))) ≡ (b && s.is_dry)
    other s false k = refl
    other s true k = ap (λ b. s.is_dry || b) (ap (λ n. n == c) (equal_of s.ctx q k) ∙ n) ∙ end s.is_dry
      where
        end : (b : Bool) → (b || false) ≡ b
        end true = refl
        end false = refl

    go : (ss : List ReqContextView) → dry_at q (map (dried c) ss) ≡ dry_at q ss
    go [] = refl
    go (s ∷ ss) = ap (λ b. b || dry_at q (map (dried c) ss)) (other s (s.ctx == q) refl) ∙ ap (λ b. ((s.ctx == q) && s.is_dry) || b) (go ss)

pub dry_itself : (c : ℕ) (ss rs : List ReqContextView) → rs ≡ map (dried c) ss → dry_at c ss ≡ true → dry_at c rs ≡ true
dry_itself c ss rs e k = ap (dry_at c) e ∙ dry_more c c ss k

-- ---- Requests

-- what goes out now on a pipe that is up is not late, and its number is not above the last one that came up
pub out_now : (m : Machine) (t : Moment) (p : ℕ) → Ties m t → has (up (past t)) p ≡ true → (late_in m (record { pipe = p; when = m.tick }) ≡ false) × (nat_le p (ups (past t)) ≡ true)
out_now m t p h u =
    (ap (λ b. not b || nat_le (m.tick + m.options.resend) m.tick) (ap (list_any (is_pipe p)) h.1.ports ∙ up_is _ (up (past t)) p ∙ u) ∙ later m.tick m.options.resend h.0.resend, below p (ups (past t)) (h.1.known p u))
  where
    later : (m n : ℕ) → 1 ≤ n → nat_le (m + n) m ≡ false
    later m n h = grind (arith, nat_tests)

    below : (m n : ℕ) → m ≤ n → nat_le m n ≡ true
    below m n h = grind (arith, nat_tests)

-- a request begins
pub begun_seen : (m n : Machine) (c last : ℕ) (body : List ℕ) → Asks c body m n → AreDistinct (map live_ctx m.live.items) → IsSeen m last → IsSeen n last
begun_seen m n c last body a d h =
    let was = a.14 d (late_in m) (dry_in m) last h in
    let less = seen_less n.dues (late_in m) (dry_in m) last (is_live_on c) m.live.items (without_live c m.live.items) refl was in
    rw (a.3, a.7, a.8, a.9, a.12) (seen_more n.dues (late_in m) (dry_in m) last (without_live c m.live.items) (without_live c m.live.items ++ a.0 ∷ []) a.0 refl a.1.5 less)

-- none begins
pub kept_back : (m n : Machine) (t : Moment) → (n.live.items ≡ m.live.items) × (AreDistinct (map live_ctx m.live.items) → StaySeen m.dues n.dues m.live.items) × (n ≡ record m { live = n.live; dues = n.dues }) → Ties m t → Ties n t
kept_back m n t k h = subst (λ (x : Machine). Ties x t) (sym k.2) (h.0, h.1, h.2, rw k.0 h.3, rw k.0 h.4, (rw k.0 (k.1 h.3.places (late_in m) (dry_in m) (ups (past t)) h.5.0), rw k.0 h.5.1))

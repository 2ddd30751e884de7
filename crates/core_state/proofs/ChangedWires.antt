-- One pipe's wire changes, and those of the others stay as they are.
use Rattle.std.proofs.Common.{◌≡◌, ◌≢◌, refl, ap, sym, ◌∙◌, subst, List, [], ◌∷◌, ◌++◌, ℕ, zero, suc, ◌+◌, ◌<◌, ◌≤◌, Bool, true, false, cond, arith, length, get_or, Some, None, inl, inr}
use Rattle.std.specs.Prelude.{remove, min, not, ◌||◌, ◌==◌, ◌⊎◌, IfSome, Option}
use Rattle.std.proofs.lemmas.Bool.{or_right}
use Rattle.std.proofs.lemmas.Bool.Decides.{nat_tests}
use Rattle.sp_msg.specs.Views.{WireView, MessageView, wire_text}
use Rattle.sp_msg.specs.Marks.{one_more}
use Rattle.sp_msg.specs.Wires.{AfterRoom, AfterPut, with_text}
use Rattle.sp_msg.specs.declared.wire.Room.TheVariants as rooms
use Rattle.sp_history.specs.declared.entry.Why.{Why}
use Rattle.sp_history.specs.declared.entry.Why.TheVariants as whys
use Rattle.sp_history.specs.declared.entry.Entry.{Entry}
use Rattle.sp_history.specs.declared.entry.Entry.TheVariants.{Up, Down, Frame, Out, Full, Quiet, Stall, Clear, Unkept, Taken}
use Rattle.sp_history.specs.declared.setting.Setting.{Setting}
use Rattle.sp_history.specs.Lists.{has, without}
use Rattle.sp_history.specs.Past.{up, ups, untaken, outs, fulls, limit_of, down_for}
use Rattle.sp_history.specs.Once.{AreDistinct}
use Rattle.sp_history.specs.Legal.{Allowed, last_is_malformed}
use Rattle.sp_history.specs.Wires.{Agrees}
use Rattle.sp_history.specs.Moments.{Moment, past, Lawful}
use Rattle.core_state.specs.Wires.{state_of, IsUpWire, IsDownWire, ShowsWhy, has_unkept}
use Rattle.core_state.proofs.Lawfuls.{by_steps}

-- ---- Numbers in lists

pub same_number : (p : ℕ) → (p == p) ≡ true
same_number p = grind (arith, nat_tests)

pub equal_numbers : (x p : ℕ) → (x == p) ≡ true → x ≡ p
equal_numbers x p e = grind (arith, nat_tests)

pub turned_round : (x y : ℕ) → (x == y) ≡ false → (y == x) ≡ false
turned_round x y e = grind (arith, nat_tests)

pub has-push : (xs : List ℕ) (y p : ℕ) → has (xs ++ y ∷ []) p ≡ (has xs p || (y == p))
has-push [] y p = go (y == p)
  where
    go : (b : Bool) → (b || false) ≡ (false || b)
    go true = refl
    go false = refl
has-push (x ∷ xs) y p = go (x == p) (has-push xs y p)
  where
    go : (b : Bool) → has (xs ++ y ∷ []) p ≡ (has xs p || (y == p)) → (b || has (xs ++ y ∷ []) p) ≡ ((b || has xs p) || (y == p))
    go true again = refl
    go false again = again

pub has-more : (xs : List ℕ) (y p : ℕ) → has xs p ≡ false → (y == p) ≡ false → has (xs ++ y ∷ []) p ≡ false
has-more xs y p h k = rw (has-push xs y p, h) k

pub has-without : (xs : List ℕ) (q p : ℕ) → has xs p ≡ false → has (without xs q) p ≡ false
has-without [] q p h = refl
has-without (x ∷ xs) q p h = go (x == p) refl (x == q) h (has-without xs q p)
  where
    go : (a : Bool) → (x == p) ≡ a → (b : Bool) → (a || has xs p) ≡ false → (has xs p ≡ false → has (without xs q) p ≡ false) → has (cond (not b) (x ∷ without xs q) (without xs q)) p ≡ false
    go true e b h again = absurd cc
    go false e true h again = again h
    go false e false h again = ap (λ (y : Bool). y || has (without xs q) p) e ∙ again h

without-gone : (xs : List ℕ) (q : ℕ) → has (without xs q) q ≡ false
without-gone [] q = refl
without-gone (x ∷ xs) q = go (x == q) refl (without-gone xs q)
  where
    go : (b : Bool) → (x == q) ≡ b → has (without xs q) q ≡ false → has (cond (not b) (x ∷ without xs q) (without xs q)) q ≡ false
    go true e again = again
    go false e again = ap (λ (y : Bool). y || has (without xs q) q) e ∙ again

pub without-left : (xs : List ℕ) (q p : ℕ) → has (without xs q) p ≡ true → (has xs p ≡ true) × ((q == p) ≡ false)
without-left xs q p h = (go (has xs p) refl, part (q == p) refl)
  where
    go : (b : Bool) → has xs p ≡ b → has xs p ≡ true
    go true e = e
    go false e = let none = has-without xs q p e in absurd cc

    part : (b : Bool) → (q == p) ≡ b → (q == p) ≡ false
    part false e = e
    part true e = let same : q ≡ p = equal_numbers q p e in let none : has (without xs q) p ≡ false = subst (λ (x : ℕ). has (without xs q) x ≡ false) same (without-gone xs q) in absurd cc

pub distinct-without : (xs : List ℕ) (q : ℕ) → AreDistinct xs → AreDistinct (without xs q)
distinct-without [] q h = tt
distinct-without (x ∷ xs) q h = go (x == q) (distinct-without xs q h.1)
  where
    go : (b : Bool) → AreDistinct (without xs q) → AreDistinct (cond (not b) (x ∷ without xs q) (without xs q))
    go true k = k
    go false k = (has-without xs q x h.0, k)

pub distinct-more : (xs : List ℕ) (y : ℕ) → AreDistinct xs → has xs y ≡ false → AreDistinct (xs ++ y ∷ [])
distinct-more [] y h k = (refl, tt)
distinct-more (x ∷ xs) y h k = go (x == y) refl k (distinct-more xs y h.1)
  where
    go : (b : Bool) → (x == y) ≡ b → (b || has xs y) ≡ false → (has xs y ≡ false → AreDistinct (xs ++ y ∷ [])) → AreDistinct (x ∷ (xs ++ y ∷ []))
    go true e k again = absurd cc
    go false e k again = (has-more xs y x h.0 (turned_round x y e), again k)

pub has_at : (xs : List ℕ) (k : ℕ) → k < length xs → has xs (get_or xs k 0) ≡ true
has_at [] k h = absurd (omega arith)
has_at (x ∷ xs) zero h = let same : (x == x) ≡ true = same_number x in rw same refl
has_at (x ∷ xs) (suc k) h = go (x == get_or xs k 0) (has_at xs k (omega (arith, h)))
  where
    go : (b : Bool) → has xs (get_or xs k 0) ≡ true → (b || has xs (get_or xs k 0)) ≡ true
    go true r = refl
    go false r = r

pub differ : (xs : List ℕ) (x p : ℕ) → has xs x ≡ false → has xs p ≡ true → (x == p) ≡ false
differ xs x p h k = go (x == p) refl
  where
    go : (b : Bool) → (x == p) ≡ b → b ≡ false
    go false e = refl
    go true e = let s : x ≡ p = equal_numbers x p e in let c : has xs x ≡ true = rw s k in absurd cc

pub distinct_at : (xs : List ℕ) (i k : ℕ) → AreDistinct xs → i < length xs → k < length xs → k ≢ i → (get_or xs i 0 == get_or xs k 0) ≡ false
distinct_at [] i k h l m n = absurd (omega arith)
distinct_at (x ∷ xs) zero zero h l m n = absurd (n refl)
distinct_at (x ∷ xs) zero (suc k) h l m n = differ xs x (get_or xs k 0) h.0 (has_at xs k (omega (arith, m)))
distinct_at (x ∷ xs) (suc i) zero h l m n = turned_round x (get_or xs i 0) (differ xs x (get_or xs i 0) h.0 (has_at xs i (omega (arith, l))))
distinct_at (x ∷ xs) (suc i) (suc k) h l m n = distinct_at xs i k h.1 (omega (arith, l)) (omega (arith, m)) (λ e. n (ap suc e))

pub without_absent : (xs : List ℕ) (q : ℕ) → has xs q ≡ false → without xs q ≡ xs
without_absent [] q h = refl
without_absent (x ∷ xs) q h = go (x == q) h (without_absent xs q)
  where
    go : (b : Bool) → (b || has xs q) ≡ false → (has xs q ≡ false → without xs q ≡ xs) → cond (not b) (x ∷ without xs q) (without xs q) ≡ x ∷ xs
    go true h again = absurd cc
    go false h again = ap (λ (rest : List ℕ). x ∷ rest) (again h)

pub without_removed : (xs : List ℕ) (i : ℕ) → AreDistinct xs → i < length xs → remove xs i ≡ without xs (get_or xs i 0)
without_removed [] i h l = absurd (omega arith)
without_removed (x ∷ xs) zero h l = rw (same_number x) (sym (without_absent xs x h.0))
without_removed (x ∷ xs) (suc i) h l =
    let n : (x == get_or xs i 0) ≡ false = differ xs x (get_or xs i 0) h.0 (has_at xs i (omega (arith, l))) in
    rw n (ap (λ (rest : List ℕ). x ∷ rest) (without_removed xs i h.1 (omega (arith, l))))

-- ---- The pipes of a history

-- no pipe is up twice or has a number that was not given yet, and none is both up and untaken
abbrev pub Numbered : List Entry → Type 0
Numbered before = AreDistinct (up before) × ((p : ℕ) → ups before < p → (has (up before) p ≡ false) × (has (untaken before) p ≡ false)) × ((p : ℕ) → has (up before) p ≡ true → has (untaken before) p ≡ false)

not_equal : (y p : ℕ) → y < p → (y == p) ≡ false
not_equal y p h = grind (arith, nat_tests)

up_parted : (before : List Entry) (q p : ℕ) → Numbered before → q ≡ ups before + 1 → has (up before ++ q ∷ []) p ≡ true → has (untaken before) p ≡ false
up_parted before q p h n u = go (has (up before) p) refl (sym (has-push (up before) q p) ∙ u)
  where
    go : (b : Bool) → has (up before) p ≡ b → (b || (q == p)) ≡ true → has (untaken before) p ≡ false
    go true e k = h.2 p e
    go false e k = let same : q ≡ p = equal_numbers q p k in (h.1 p (omega (arith, n, same))).1

pub down_low : (before : List Entry) (q p : ℕ) → Numbered before → has (up before) q ≡ true → ups before < p → (q == p) ≡ false
down_low before q p h u l = go (q == p) refl
  where
    go : (b : Bool) → (q == p) ≡ b → b ≡ false
    go false e = refl
    go true e = let same : q ≡ p = equal_numbers q p e in let none : has (up before) q ≡ false = (h.1 q (omega (arith, same, l))).0 in absurd cc

down_parted : (before : List Entry) (q p : ℕ) → Numbered before → has (without (up before) q) p ≡ true → has (untaken before ++ q ∷ []) p ≡ false
down_parted before q p h u =
    let k = without-left (up before) q p u in has-more (untaken before) q p (h.2 p k.0) k.1

pub numbered_next : (z : Setting) (k : ℕ) (before : List Entry) (e : Entry) → Numbered before → Allowed z k before e → Numbered (e ∷ before)
numbered_next z k before (Up q place limit name) h a =
    let q_is : q ≡ ups before + 1 = a.itself.0 in (
      distinct-more (up before) q h.0 (h.1 q (omega (arith, q_is))).0,
      λ p l. (has-more (up before) q p (h.1 p (omega (arith, l))).0 (not_equal q p (omega (arith, q_is, l))), (h.1 p (omega (arith, l))).1),
      λ p u. up_parted before q p h q_is u,
    )
numbered_next z k before (Down q why) h a = (
  distinct-without (up before) q h.0,
  λ p l. (has-without (up before) q p (h.1 p l).0, has-more (untaken before) q p (h.1 p l).1 (down_low before q p h a.itself.0 l)),
  λ p u. down_parted before q p h u,
)
numbered_next z k before (Taken q) h a =
    (h.0, λ p l. ((h.1 p l).0, has-without (untaken before) q p (h.1 p l).1), λ p u. has-without (untaken before) q p (h.2 p u))
numbered_next z k before _ h a = h

pub numbered : (t : Moment) → Lawful t → Numbered (past t)
numbered t l = by_steps t Numbered (tt, λ p l. (refl, refl), λ p u. refl) (λ k before e h a. numbered_next t.z k before e h a) l

pub ups_distinct : (t : Moment) → Lawful t → AreDistinct (up (past t))
ups_distinct t l = (numbered t l).0

-- a pipe that is up isn't one of those that are down until taken
pub up_untaken : (t : Moment) (p : ℕ) → Lawful t → has (up (past t)) p ≡ true → has (untaken (past t)) p ≡ false
up_untaken t p l u = (numbered t l).2 p u

down_next : (z : Setting) (k : ℕ) (before : List Entry) (e : Entry) → Numbered before × AreDistinct (untaken before) → Allowed z k before e → Numbered (e ∷ before) × AreDistinct (untaken (e ∷ before))
down_next z k before (Down q why) h a = (numbered_next z k before (Down q why) h.0 a, distinct-more (untaken before) q h.1 (h.0.2 q a.itself.0))
down_next z k before (Up q place limit name) h a = (numbered_next z k before (Up q place limit name) h.0 a, h.1)
down_next z k before (Taken q) h a = (numbered_next z k before (Taken q) h.0 a, distinct-without (untaken before) q h.1)
down_next z k before _ h a = (h.0, h.1)

pub untaken_distinct : (t : Moment) → Lawful t → AreDistinct (untaken (past t))
untaken_distinct t l = (by_steps t (λ before. Numbered before × AreDistinct (untaken before)) ((tt, λ p l. (refl, refl), λ p u. refl), tt) (λ k before e h a. down_next t.z k before e h a) l).1

-- ---- Entries of one pipe

abbrev pub IsOf : ℕ → Entry → Type 0
IsOf p (Down q why) = q ≡ p
IsOf p (Frame q b) = q ≡ p
IsOf p (Out q b) = q ≡ p
IsOf p (Full q) = q ≡ p
IsOf p (Quiet q) = q ≡ p
IsOf p (Stall q) = q ≡ p
IsOf p (Clear q) = q ≡ p
IsOf p _ = ⊥

pub others : (before : List Entry) (e : Entry) (x p : ℕ) (w : WireView) → IsOf x e → (x == p) ≡ false → Agrees before p w → Agrees (e ∷ before) p w
others before (Down q why) x p w i n h = h
others before (Frame q b) x p w i n h = let k : (q == p) ≡ false = rw i n in rw k h
others before (Out q b) x p w i n h = let k : (q == p) ≡ false = rw i n in rw k h
others before (Full q) x p w i n h = let k : (q == p) ≡ false = rw i n in rw k h
others before (Quiet q) x p w i n h = let k : (q == p) ≡ false = rw i n in rw k h
others before (Stall q) x p w i n h = let k : (q == p) ≡ false = rw i n in rw k h
others before (Clear q) x p w i n h = let k : (q == p) ≡ false = rw i n in rw k h
others before _ x p w i n h = absurd i

others_down : (before : List Entry) (e : Entry) (x p : ℕ) → IsOf x e → (x == p) ≡ false → down_for (e ∷ before) p ≡ down_for before p
others_down before (Down q why) x p i n = let k : (q == p) ≡ false = rw i n in rw k refl
others_down before (Up q place limit name) x p i n = absurd i
others_down before _ x p i n = refl

pub limit_kept : (before : List Entry) (e : Entry) (x p : ℕ) → IsOf x e → limit_of (e ∷ before) p ≡ limit_of before p
limit_kept before (Up q place limit name) x p i = absurd i
limit_kept before _ x p i = refl

others_last : (z : Setting) (before : List Entry) (e : Entry) (x p : ℕ) → IsOf x e → (x == p) ≡ false → last_is_malformed z (e ∷ before) p ≡ last_is_malformed z before p
others_last z before (Frame q b) x p i n = let k : (q == p) ≡ false = rw i n in rw k refl
others_last z before _ x p i n = refl

pub unkept_more : (e : Entry) (before : List Entry) (p : ℕ) → has_unkept before p ≡ true → has_unkept (e ∷ before) p ≡ true
unkept_more (Unkept q) before p h = or_right (q == p) (has_unkept before p) h
unkept_more _ before p h = h

pub shows_still : (z : Setting) (before after : List Entry) (p : ℕ) (why : Why) (w : WireView) → last_is_malformed z after p ≡ last_is_malformed z before p → (has_unkept before p ≡ true → has_unkept after p ≡ true) → ShowsWhy z before p why w → ShowsWhy z after p why w
shows_still z before after p whys.Ended w e u h = h
shows_still z before after p whys.Failed w e u h = h
shows_still z before after p whys.Refusal w e u h = h
shows_still z before after p whys.Malformed w e u h = subst (λ (o : Bool). (o ≡ true) ⊎ (w.malformed ≡ true)) (sym e) h
shows_still z before after p whys.Closed w e u h = h
shows_still z before after p whys.NoMemory w e u (inl h) = inl h
shows_still z before after p whys.NoMemory w e u (inr h) = inr (u h)

pub others_open : (before : List Entry) (e : Entry) (x p : ℕ) (w : WireView) → IsOf x e → (x == p) ≡ false → IsUpWire before p w → IsUpWire (e ∷ before) p w
others_open before e x p w i n h = record { agrees = others before e x p (state_of w) i n h.agrees; is_open = h.is_open }

pub others_went_down : (z : Setting) (before : List Entry) (e : Entry) (x p : ℕ) (why : Why) (w : WireView) → IsOf x e → (x == p) ≡ false → IsDownWire z before p why w → IsDownWire z (e ∷ before) p why w
others_went_down z before e x p why w i n h = record {
  agrees = others before e x p (state_of w) i n h.agrees;
  why_is = others_down before e x p i n ∙ h.why_is;
  shows = shows_still z before (e ∷ before) p why w (others_last z before e x p i n) (unkept_more e before p) h.shows;
}

-- ---- What a wire shows after a call

pub most_more : (q m : ℕ) → min (min q m + 1) m ≡ min (q + 1) m
most_more q m = omega arith

pub told : (o : Option (List (List ℕ))) (fs : List (List ℕ)) (b : List ℕ) → IfSome o (λ texts. texts ≡ fs) → IfSome (with_text o b) (λ texts. texts ≡ fs ++ b ∷ [])
told None fs b h = h
told (Some texts) fs b h = ap (λ (x : List (List ℕ)). x ++ b ∷ []) h

-- what waits to be written has become less
pub waits_agree : (before : List Entry) (p : ℕ) (w v : WireView) → Agrees before p w → v.waits ≤ w.waits → v ≡ record w { waits = v.waits } → Agrees before p v
waits_agree before p w v h l e =
    subst (λ (x : WireView). Agrees before p x) (sym e) (record {
      name_is = h.name_is;
      came_is = h.came_is;
      outs_is = h.outs_is;
      waits_is = λ c. let z = h.waits_is c in omega (arith, z, l);
      fulls_is = h.fulls_is;
      idles_is = h.idles_is;
      stalls_is = h.stalls_is;
    })

pub full_agrees : (before : List Entry) (p : ℕ) (w v : WireView) → Agrees before p w → v.waits ≤ w.waits → v ≡ record w { waits = v.waits; fulls = one_more w.fulls } → Agrees (Full p ∷ before) p v
full_agrees before p w v h l e =
    subst (λ (x : WireView). Agrees (Full p ∷ before) p x) (sym e) (record {
      name_is = h.name_is;
      came_is = h.came_is;
      outs_is = h.outs_is;
      waits_is = λ c. let z = h.waits_is c in omega (arith, z, l);
      fulls_is = rw (same_number p, h.fulls_is) (most_more (fulls before p) _);
      idles_is = h.idles_is;
      stalls_is = h.stalls_is;
    })

pub out_agrees : (before : List Entry) (p : ℕ) (b : List ℕ) (w v : WireView) → Agrees before p w → v ≡ record w { waits = v.waits; outs = with_text w.outs b } → Agrees (Out p b ∷ before) p v
out_agrees before p b w v h e =
    subst (λ (x : WireView). Agrees (Out p b ∷ before) p x) (sym e) (record {
      name_is = h.name_is;
      came_is = h.came_is;
      outs_is = rw (same_number p) (told w.outs (outs before p) b h.outs_is);
      waits_is = λ c. let k : false ≡ true = rw (same_number p) at c in absurd cc;
      fulls_is = h.fulls_is;
      idles_is = h.idles_is;
      stalls_is = h.stalls_is;
    })

one_at_least : (n : ℕ) → 1 ≤ one_more n
one_at_least n = omega arith

pub roomed : (before : List Entry) (p : ℕ) (w v : WireView) → IsUpWire before p w → AfterRoom rooms.Yes w v → IsUpWire before p v × (v.is_ready ≡ true)
roomed before p w v h a =
    (record { agrees = waits_agree before p (state_of w) (state_of v) h.agrees a.waits (ap state_of a.shows); is_open = ap (λ (x : WireView). x.is_open) a.shows ∙ h.is_open }, ap (λ (x : WireView). x.is_ready) a.shows)

pub filled : (before : List Entry) (p : ℕ) (w v : WireView) → IsUpWire before p w → AfterRoom rooms.Full w v → IsUpWire (Full p ∷ before) p v
filled before p w v h a =
    record { agrees = full_agrees before p (state_of w) (state_of v) h.agrees a.waits (ap state_of a.shows); is_open = ap (λ (x : WireView). x.is_open) a.shows ∙ h.is_open }

pub sent : (before : List Entry) (p : ℕ) (b : List ℕ) (m : MessageView) (w v : WireView) → wire_text m ≡ b → IsUpWire before p w → AfterPut m w v → IsUpWire (Out p b ∷ before) p v
sent before p b m w v e h a =
    let shows = subst (λ (text : List ℕ). v ≡ record w { outs = with_text w.outs text; is_ready = false; waits = v.waits }) e a.shows in
    record { agrees = out_agrees before p b (state_of w) (state_of v) h.agrees (ap state_of shows); is_open = ap (λ (x : WireView). x.is_open) shows ∙ h.is_open }

-- the wire of a pipe that goes down agrees with the past, and shows why it goes down
abbrev pub GoesDown : Setting → List Entry → ℕ → Why → WireView → Type 0
GoesDown z before p why v = Agrees before p (state_of v) × ShowsWhy z before p why v

pub failed : (z : Setting) (before : List Entry) (p : ℕ) (w v : WireView) → Agrees before p (state_of w) → AfterRoom rooms.Failed w v → GoesDown z before p whys.Failed v
failed z before p w v h a =
    (waits_agree before p (state_of w) (state_of v) h a.waits (ap state_of a.shows), let k = ap (λ (x : WireView). x.faults) a.shows in omega (arith, k, one_at_least w.faults))

pub refused : (z : Setting) (before : List Entry) (p : ℕ) (w v : WireView) → Agrees before p (state_of w) → AfterRoom rooms.Refused w v → GoesDown z before p whys.Refusal v
refused z before p w v h a =
    (waits_agree before p (state_of w) (state_of v) h a.waits (ap state_of a.shows), let k = ap (λ (x : WireView). x.refusals) a.shows in omega (arith, k, one_at_least w.refusals))

pub without_memory : (z : Setting) (before : List Entry) (p : ℕ) (w v : WireView) → Agrees before p (state_of w) → AfterRoom rooms.NoMemory w v → GoesDown z before p whys.NoMemory v
without_memory z before p w v h a = (waits_agree before p (state_of w) (state_of v) h a.waits (ap state_of a.shows), inl (ap (λ (x : WireView). x.is_open) a.shows))

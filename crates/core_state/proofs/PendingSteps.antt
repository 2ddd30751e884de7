-- Pending operations are put into their rings, taken out and found.
use Rattle.std.proofs.Common.{◌≡◌, refl, ap, sym, ◌∙◌, subst, List, [], ◌∷◌, ◌++◌, ℕ, zero, suc, ◌+◌, ◌<◌, ◌≤◌, Bool, true, false, cond, arith, Option, Some, None, length, get_or, replicate, set, inl, inr}
use Rattle.std.specs.Prelude.{map, filter, not, ◌≢◌, ◌==◌}
use Rattle.std.proofs.lemmas.List.{get_or-set_same, get_or-set_other, length-set, length-append, length-map, length-replicate, map-append}
use Rattle.std.proofs.lemmas.Option.{same_Some}
use Rattle.sp_base.specs.declared.OpName.{OpName}
use Rattle.core_state.specs.declared.pending.PendingOperation.{PendingOperation}
use Rattle.core_state.specs.declared.rings.Rings.{Rings}
use Rattle.core_state.specs.Rings.{at, IsPath, AreAlone, PutsLast, TakesOut}
use Rattle.core_state.specs.Pendings.{is_named, others_than, slot_of, bucket_of, in_bucket, first_of, behind, IsAmong, IsIn, NotIn, Differ, place_at, ArePlaced, with_one, placed, shown, Keeps}
use Rattle.core_state.proofs.RingSteps.{same, is_same, differs, apart, not_in, in_middle, differ-last, differ-without, last_in, before_in, after_in, kept, put_at, removed, walked}

-- ---- Names

pub named_self : (x : PendingOperation) → is_named x.op x ≡ true
named_self x = rw (is_same x.op.slot x.op.slot refl, is_same x.op.generation x.op.generation refl) refl

pub unnamed : (x y : PendingOperation) → y.op.slot ≢ x.op.slot → is_named x.op y ≡ false
unnamed x y n = rw (differs y.op.slot x.op.slot n) refl

pub among_in : (x : PendingOperation) (xs : List PendingOperation) → IsAmong x xs → IsIn x.op.slot (map slot_of xs)
among_in x [] m = absurd m
among_in x (y ∷ ys) (inl e) = inl (ap slot_of e)
among_in x (y ∷ ys) (inr m) = inr (among_in x ys m)

none_named : (x : PendingOperation) (xs : List PendingOperation) → NotIn x.op.slot (map slot_of xs) → filter (λ y. not (is_named x.op y)) xs ≡ xs
none_named x [] n = refl
none_named x (y ∷ ys) n = rw (unnamed x y n.0) (ap (λ (zs : List PendingOperation). y ∷ zs) (none_named x ys n.1))

-- the operations before this one and after it
pub record Split (x : PendingOperation) (xs : List PendingOperation) : Type 0 where
  pub fs : List PendingOperation
  pub gs : List PendingOperation
  pub is : xs ≡ fs ++ x ∷ gs
  pub left : filter (λ y. not (is_named x.op y)) xs ≡ fs ++ gs

pub split : (x : PendingOperation) (xs : List PendingOperation) → IsAmong x xs → Differ (map slot_of xs) → Split x xs
split x [] m d = absurd m
split x (y ∷ ys) (inl e) d =
    let there : is_named x.op y ≡ true = ap (is_named x.op) e ∙ named_self x in
    let none : NotIn x.op.slot (map slot_of ys) = subst (λ (z : PendingOperation). NotIn z.op.slot (map slot_of ys)) e d.0 in
    record { fs = []; gs = ys; is = ap (λ (z : PendingOperation). z ∷ ys) e; left = rw there (none_named x ys none) }
split x (y ∷ ys) (inr m) d =
    let r = split x ys m d.1 in
    let no : is_named x.op y ≡ false = unnamed x y (apart (map slot_of ys) y.op.slot x.op.slot d.0 (among_in x ys m)) in
    record { fs = y ∷ r.fs; gs = r.gs; is = ap (λ (zs : List PendingOperation). y ∷ zs) r.is; left = rw no (ap (λ (zs : List PendingOperation). y ∷ zs) r.left) }

-- ---- Buckets

module _ (p : PendingOperation → Bool) where
  not_in_filter : (xs : List PendingOperation) (i : ℕ) → NotIn i (map slot_of xs) → NotIn i (map slot_of (filter p xs))
  not_in_filter [] i n = tt
  not_in_filter (x ∷ xs) i n = go (p x) (not_in_filter xs i n.1)
    where
      go : (b : Bool) → NotIn i (map slot_of (filter p xs)) → NotIn i (map slot_of (cond b (x ∷ filter p xs) (filter p xs)))
      go true m = (n.0, m)
      go false m = m

  pub differ_filter : (xs : List PendingOperation) → Differ (map slot_of xs) → Differ (map slot_of (filter p xs))
  differ_filter [] d = tt
  differ_filter (x ∷ xs) d = go (p x) (differ_filter xs d.1)
    where
      go : (b : Bool) → Differ (map slot_of (filter p xs)) → Differ (map slot_of (cond b (x ∷ filter p xs) (filter p xs)))
      go true m = (not_in_filter xs x.op.slot d.0, m)
      go false m = m

  pub placed_filter : (slots : ℕ) (places : List (Option PendingOperation)) (xs : List PendingOperation) → ArePlaced slots places xs → ArePlaced slots places (filter p xs)
  placed_filter slots places [] h = tt
  placed_filter slots places (x ∷ xs) h = go (p x) (placed_filter slots places xs h.2)
    where
      go : (b : Bool) → ArePlaced slots places (filter p xs) → ArePlaced slots places (cond b (x ∷ filter p xs) (filter p xs))
      go true m = (h.0, h.1, m)
      go false m = m

module _ (slots n : ℕ) where
  bucket_on : (fs gs : List PendingOperation) (x : PendingOperation) → bucket_of slots x.ctx ≡ n → in_bucket slots n (fs ++ x ∷ gs) ≡ in_bucket slots n fs ++ x ∷ in_bucket slots n gs
  bucket_on [] gs x e = rw (is_same (bucket_of slots x.ctx) n e) refl
  bucket_on (f ∷ fs) gs x e = go (bucket_of slots f.ctx == n) (bucket_on fs gs x e)
    where
      go : (b : Bool) → in_bucket slots n (fs ++ x ∷ gs) ≡ in_bucket slots n fs ++ x ∷ in_bucket slots n gs → cond b (f ∷ in_bucket slots n (fs ++ x ∷ gs)) (in_bucket slots n (fs ++ x ∷ gs)) ≡ cond b (f ∷ in_bucket slots n fs) (in_bucket slots n fs) ++ x ∷ in_bucket slots n gs
      go true k = ap (λ (zs : List PendingOperation). f ∷ zs) k
      go false k = k

  bucket_off : (fs gs : List PendingOperation) (x : PendingOperation) → bucket_of slots x.ctx ≢ n → in_bucket slots n (fs ++ x ∷ gs) ≡ in_bucket slots n (fs ++ gs)
  bucket_off [] gs x e = rw (differs (bucket_of slots x.ctx) n e) refl
  bucket_off (f ∷ fs) gs x e = go (bucket_of slots f.ctx == n) (bucket_off fs gs x e)
    where
      go : (b : Bool) → in_bucket slots n (fs ++ x ∷ gs) ≡ in_bucket slots n (fs ++ gs) → cond b (f ∷ in_bucket slots n (fs ++ x ∷ gs)) (in_bucket slots n (fs ++ x ∷ gs)) ≡ cond b (f ∷ in_bucket slots n (fs ++ gs)) (in_bucket slots n (fs ++ gs))
      go true k = ap (λ (zs : List PendingOperation). f ∷ zs) k
      go false k = k

  bucket_parts : (fs gs : List PendingOperation) → in_bucket slots n (fs ++ gs) ≡ in_bucket slots n fs ++ in_bucket slots n gs
  bucket_parts [] gs = refl
  bucket_parts (f ∷ fs) gs = go (bucket_of slots f.ctx == n) (bucket_parts fs gs)
    where
      go : (b : Bool) → in_bucket slots n (fs ++ gs) ≡ in_bucket slots n fs ++ in_bucket slots n gs → cond b (f ∷ in_bucket slots n (fs ++ gs)) (in_bucket slots n (fs ++ gs)) ≡ cond b (f ∷ in_bucket slots n fs) (in_bucket slots n fs) ++ in_bucket slots n gs
      go true k = ap (λ (zs : List PendingOperation). f ∷ zs) k
      go false k = k

no_more : (xs : List PendingOperation) → xs ++ [] ≡ xs
no_more [] = refl
no_more (x ∷ xs) = ap (λ (zs : List PendingOperation). x ∷ zs) (no_more xs)

-- ---- Places

module _ (slots : ℕ) (places : List (Option PendingOperation)) where
  head_out : (h : ℕ) (xs : List PendingOperation) → slots ≤ h → ArePlaced slots places xs → NotIn h (map slot_of xs)
  head_out h [] l p = tt
  head_out h (x ∷ xs) l p = ((λ s. omega (arith, l, p.0, s)), head_out h xs l p.2)

  slot_below : (i : ℕ) (xs : List PendingOperation) → ArePlaced slots places xs → IsIn i (map slot_of xs) → i < slots
  slot_below i [] p m = absurd m
  slot_below i (x ∷ xs) p (inl s) = omega (arith, p.0, s)
  slot_below i (x ∷ xs) p (inr m) = slot_below i xs p.2 m

  -- a place of a ring is in the lists of places
  member_below : (n e i : ℕ) (xs : List PendingOperation) → ArePlaced slots places xs → e < n → slots ≤ n → IsIn i (e ∷ map slot_of xs) → i < n
  member_below n e i xs p l k (inl s) = omega (arith, l, s)
  member_below n e i xs p l k (inr m) = omega (arith, k, slot_below i xs p m)

  placed_else : (i : ℕ) (v : Option PendingOperation) (xs : List PendingOperation) → NotIn i (map slot_of xs) → ArePlaced slots places xs → ArePlaced slots (set places i v) xs
  placed_else i v [] n h = tt
  placed_else i v (x ∷ xs) n h = (h.0, get_or-set_other places i x.op.slot v None n.0 ∙ h.1, placed_else i v xs n.1 h.2)

  placed_append : (xs ys : List PendingOperation) → ArePlaced slots places xs → ArePlaced slots places ys → ArePlaced slots places (xs ++ ys)
  placed_append [] ys h k = k
  placed_append (x ∷ xs) ys h k = (h.0, h.1, placed_append xs ys h.2 k)

  placed_without : (fs gs : List PendingOperation) (x : PendingOperation) → ArePlaced slots places (fs ++ x ∷ gs) → ArePlaced slots places (fs ++ gs)
  placed_without [] gs x h = h.2
  placed_without (f ∷ fs) gs x h = (h.0, h.1, placed_without fs gs x h.2)

  pub placed_here : (x : PendingOperation) (xs : List PendingOperation) → ArePlaced slots places xs → IsAmong x xs → (x.op.slot < slots) × (place_at places x.op.slot ≡ Some x)
  placed_here x [] h m = absurd m
  placed_here x (y ∷ ys) h (inl e) = subst (λ (z : PendingOperation). (z.op.slot < slots) × (place_at places z.op.slot ≡ Some z)) e (h.0, h.1)
  placed_here x (y ∷ ys) h (inr m) = placed_here x ys h.2 m

  -- what is at the places of these is these
  all_placed : (xs : List PendingOperation) → ArePlaced slots places xs → placed places (map slot_of xs) ≡ xs
  all_placed [] h = refl
  all_placed (x ∷ xs) h = ap (λ (o : Option PendingOperation). with_one o (placed places (map slot_of xs))) h.1 ∙ ap (λ (zs : List PendingOperation). x ∷ zs) (all_placed xs h.2)

  -- the operation of a slot in a bucket
  on_bucket : (n i : ℕ) (xs : List PendingOperation) → ArePlaced slots places xs → IsIn i (map slot_of (in_bucket slots n xs)) → (x : PendingOperation) × (place_at places i ≡ Some x) × (bucket_of slots x.ctx ≡ n) × (i < slots)
  on_bucket n i [] h m = absurd m
  on_bucket n i (x ∷ xs) h m = go (λ k. on_bucket n i xs h.2 k) (bucket_of slots x.ctx == n) refl m
    where
      go : (IsIn i (map slot_of (in_bucket slots n xs)) → (y : PendingOperation) × (place_at places i ≡ Some y) × (bucket_of slots y.ctx ≡ n) × (i < slots)) → (b : Bool) → (bucket_of slots x.ctx == n) ≡ b → IsIn i (map slot_of (cond b (x ∷ in_bucket slots n xs) (in_bucket slots n xs))) → (y : PendingOperation) × (place_at places i ≡ Some y) × (bucket_of slots y.ctx ≡ n) × (i < slots)
      go rest true e (inl s) = (x, ap (place_at places) (sym s) ∙ h.1, same (bucket_of slots x.ctx) n e, omega (arith, h.0, s))
      go rest true e (inr k) = rest k
      go rest false e k = rest k

  buckets_apart : (n m i j : ℕ) (xs : List PendingOperation) → n ≢ m → ArePlaced slots places xs → IsIn i (map slot_of (in_bucket slots n xs)) → IsIn j (map slot_of (in_bucket slots m xs)) → i ≢ j
  buckets_apart n m i j xs o h a b s =
      let x = on_bucket n i xs h a in
      let y = on_bucket m j xs h b in
      o (sym x.2 ∙ ap (λ (z : PendingOperation). bucket_of slots z.ctx) (same_Some x.0 y.0 (sym x.1 ∙ ap (place_at places) s ∙ y.1)) ∙ y.2)

  -- a member of one bucket's ring is in no other bucket's ring
  elsewhere : (n m i : ℕ) (xs : List PendingOperation) → n ≢ m → ArePlaced slots places xs → IsIn i ((slots + n) ∷ map slot_of (in_bucket slots n xs)) → NotIn i ((slots + m) ∷ map slot_of (in_bucket slots m xs))
  elsewhere n m i xs o h (inl s) =
      ((λ t. o (omega (arith, s, t))), subst (λ (k : ℕ). NotIn k (map slot_of (in_bucket slots m xs))) s (head_out (slots + n) (in_bucket slots m xs) (omega arith) (placed_filter (λ x. bucket_of slots x.ctx == m) slots places xs h)))
  elsewhere n m i xs o h (inr k) =
      let x = on_bucket n i xs h k in
      ((λ t. omega (arith, t, x.3)), not_in (map slot_of (in_bucket slots m xs)) i (λ j l. buckets_apart n m i j xs o h k l))

moved : (f g b c : List ℕ) (a : ℕ) (xs ys : List ℕ) (e : ℕ) → g ≡ f → c ≡ b → ys ≡ xs → IsPath f b a xs e → IsPath g c a ys e
moved f g b c a xs ys e p q r h = subst (λ (zs : List ℕ). IsPath g c a zs e) (sym r) (subst (λ (zs : List ℕ). IsPath g zs a xs e) (sym q) (subst (λ (zs : List ℕ). IsPath zs b a xs e) (sym p) h))

-- ---- What is seen

pub seen : (slots : ℕ) (places : List (Option PendingOperation)) (o l : Rings) (xs : List PendingOperation) → Keeps slots places o l xs → shown slots places o ≡ xs
seen slots places o l xs h =
    let out = head_out slots places slots xs (omega arith) h.are_placed in
    let few : length (map slot_of xs) ≤ slots = omega (arith, length-map xs slot_of, h.count) in
    ap (placed places) (walked o.after.items o.before.items slots slots (map slot_of xs) slots h.in_order out few) ∙ all_placed slots places xs h.are_placed

-- ---- One more

module _ (slots : ℕ) (places more : List (Option PendingOperation)) (o l p q : Rings) (xs : List PendingOperation) (x : PendingOperation) where
  pub put_in : Keeps slots places o l xs → x.op.slot < slots → NotIn x.op.slot (map slot_of xs) → length xs < slots → PutsLast slots x.op.slot o p → bucket_of slots x.ctx < slots → PutsLast (slots + bucket_of slots x.ctx) x.op.slot l q → more ≡ set places x.op.slot (Some x) → Keeps slots more p q (xs ++ x ∷ [])
  put_in h inside free room po lx pl pm =
      let i = x.op.slot in
      let out = head_out slots places slots xs (omega arith) h.are_placed in
      let slots_are : map slot_of (xs ++ x ∷ []) ≡ map slot_of xs ++ i ∷ [] = map-append slot_of xs (x ∷ []) in
      let here : place_at (set places i (Some x)) i ≡ Some x = get_or-set_same places i (Some x) None (omega (arith, inside, h.place_count)) in
      let last : at o.before.items slots < slots + 1 = member_below slots places (slots + 1) slots (at o.before.items slots) xs h.are_placed (omega arith) (omega arith) (last_in o.after.items o.before.items slots (map slot_of xs) slots h.in_order) in
      record {
        some = h.some;
        few = h.few;
        count = omega (arith, room, length-append xs (x ∷ []));
        differ = subst Differ (sym slots_are) (differ-last (map slot_of xs) i h.differ free);
        are_placed = subst (λ (ys : List (Option PendingOperation)). ArePlaced slots ys (xs ++ x ∷ [])) (sym pm) (placed_append slots (set places i (Some x)) xs (x ∷ []) (placed_else slots places i (Some x) xs free h.are_placed) (inside, here, tt));
        in_order = moved _ p.after.items _ p.before.items slots _ (map slot_of (xs ++ x ∷ [])) slots po.0 po.1 slots_are
            (put_at o.after.items o.before.items i slots slots (map slot_of xs) h.in_order (out, h.differ) out ((λ s. omega (arith, s, inside)), free) (λ s. omega (arith, s, inside)) (omega (arith, last, h.order_after)) (omega (arith, inside, h.order_after)) (omega (arith, h.order_before)) (omega (arith, inside, h.order_before)));
        in_buckets = λ n k. bucketd n k (bucket_of slots x.ctx == n) refl;
        place_count = ap length pm ∙ length-set places i (Some x) ∙ h.place_count;
        order_after = ap length po.0 ∙ length-set (set o.after.items (at o.before.items slots) i) i slots ∙ length-set o.after.items (at o.before.items slots) i ∙ h.order_after;
        order_before = ap length po.1 ∙ length-set (set o.before.items slots i) i (at o.before.items slots) ∙ length-set o.before.items slots i ∙ h.order_before;
        buckets_after = ap length pl.0 ∙ length-set (set l.after.items (at l.before.items (slots + bucket_of slots x.ctx)) i) i (slots + bucket_of slots x.ctx) ∙ length-set l.after.items (at l.before.items (slots + bucket_of slots x.ctx)) i ∙ h.buckets_after;
        buckets_before = ap length pl.1 ∙ length-set (set l.before.items (slots + bucket_of slots x.ctx) i) i (at l.before.items (slots + bucket_of slots x.ctx)) ∙ length-set l.before.items (slots + bucket_of slots x.ctx) i ∙ h.buckets_before;
      }
    where
      -- the last of its bucket
      in_ring : IsIn (at l.before.items (slots + bucket_of slots x.ctx)) ((slots + bucket_of slots x.ctx) ∷ map slot_of (in_bucket slots (bucket_of slots x.ctx) xs))
      in_ring = last_in l.after.items l.before.items (slots + bucket_of slots x.ctx) (map slot_of (in_bucket slots (bucket_of slots x.ctx) xs)) (slots + bucket_of slots x.ctx) (h.in_buckets (bucket_of slots x.ctx) lx)

      on_it : IsPath q.after.items q.before.items (slots + bucket_of slots x.ctx) (map slot_of (in_bucket slots (bucket_of slots x.ctx) (xs ++ x ∷ []))) (slots + bucket_of slots x.ctx)
      on_it =
          let i = x.op.slot in
          let n = bucket_of slots x.ctx in
          let ys = in_bucket slots n xs in
          let test : PendingOperation → Bool = λ y. bucket_of slots y.ctx == n in
          let there = placed_filter test slots places xs h.are_placed in
          let out = head_out slots places (slots + n) ys (omega arith) there in
          let last : at l.before.items (slots + n) < slots + slots = member_below slots places (slots + slots) (slots + n) (at l.before.items (slots + n)) ys there (omega (arith, lx)) (omega arith) in_ring in
          let slots_are : map slot_of (in_bucket slots n (xs ++ x ∷ [])) ≡ map slot_of ys ++ i ∷ [] = ap (map slot_of) (bucket_on slots n xs [] x refl) ∙ map-append slot_of ys (x ∷ []) in
          moved _ q.after.items _ q.before.items (slots + n) _ _ (slots + n) pl.0 pl.1 slots_are
          (put_at l.after.items l.before.items i (slots + n) (slots + n) (map slot_of ys) (h.in_buckets n lx) (out, differ_filter test xs h.differ) out ((λ s. omega (arith, s, inside)), not_in_filter test xs i free) (λ s. omega (arith, s, inside)) (omega (arith, last, h.buckets_after)) (omega (arith, inside, h.buckets_after)) (omega (arith, lx, h.buckets_before)) (omega (arith, inside, h.buckets_before)))

      bucketd : (n : ℕ) → n < slots → (b : Bool) → (bucket_of slots x.ctx == n) ≡ b → IsPath q.after.items q.before.items (slots + n) (map slot_of (in_bucket slots n (xs ++ x ∷ []))) (slots + n)
      bucketd n k true e = subst (λ (m : ℕ). IsPath q.after.items q.before.items (slots + m) (map slot_of (in_bucket slots m (xs ++ x ∷ []))) (slots + m)) (same (bucket_of slots x.ctx) n e) on_it
      bucketd n k false e =
          let i = x.op.slot in
          let m = bucket_of slots x.ctx in
          let test : PendingOperation → Bool = λ y. bucket_of slots y.ctx == n in
          let far : m ≢ n = (λ s. let no : true ≡ false = sym (is_same m n s) ∙ e in absurd cc) in
          let ys = map slot_of (in_bucket slots n xs) in
          let last = at l.before.items (slots + m) in
          let none : NotIn i ((slots + n) ∷ ys) = ((λ s. omega (arith, s, inside)), not_in_filter test xs i free) in
          let one = kept l.after.items l.before.items last i (slots + m) i (slots + n) ys (slots + n) (elsewhere slots places m n last xs far h.are_placed in_ring) (elsewhere slots places m n (slots + m) xs far h.are_placed (inl refl)) (h.in_buckets n k) in
          let two = kept (set l.after.items last i) (set l.before.items (slots + m) i) i (slots + m) i last (slots + n) ys (slots + n) none none one in
          moved _ q.after.items _ q.before.items (slots + n) _ _ (slots + n) pl.0 pl.1 (ap (map slot_of) (bucket_off slots n xs [] x far ∙ ap (in_bucket slots n) (no_more xs))) two

-- ---- One fewer

module _ (slots : ℕ) (places fewer : List (Option PendingOperation)) (o l p q : Rings) (xs : List PendingOperation) (x : PendingOperation) where
  pub taken_out : Keeps slots places o l xs → IsAmong x xs → bucket_of slots x.ctx < slots → TakesOut x.op.slot o p → TakesOut x.op.slot l q → fewer ≡ set places x.op.slot None → Keeps slots fewer p q (filter (λ y. not (is_named x.op y)) xs)
  taken_out h m lx po pl pm = subst (Keeps slots fewer p q) (sym s.left) rest
    where
      i : ℕ
      i = x.op.slot

      s : Split x xs
      s = split x xs m h.differ

      slots_are : map slot_of xs ≡ map slot_of s.fs ++ x.op.slot ∷ map slot_of s.gs
      slots_are = ap (map slot_of) s.is ∙ map-append slot_of s.fs (x ∷ s.gs)

      rest_are : map slot_of (s.fs ++ s.gs) ≡ map slot_of s.fs ++ map slot_of s.gs
      rest_are = map-append slot_of s.fs s.gs

      differ : Differ (map slot_of s.fs ++ map slot_of s.gs) × NotIn x.op.slot (map slot_of s.fs ++ map slot_of s.gs)
      differ = differ-without (map slot_of s.fs) x.op.slot (map slot_of s.gs) (subst Differ slots_are h.differ)

      there : ArePlaced slots places (s.fs ++ x ∷ s.gs)
      there = subst (ArePlaced slots places) s.is h.are_placed

      inside : x.op.slot < slots
      inside = (placed_here slots places x xs h.are_placed m).0

      out : (e : ℕ) → slots ≤ e → NotIn e (map slot_of s.fs ++ x.op.slot ∷ map slot_of s.gs)
      out e k = subst (NotIn e) slots_are (head_out slots places e xs k h.are_placed)

      among : IsIn x.op.slot (map slot_of xs)
      among = among_in x xs m

      bucket_is : in_bucket slots (bucket_of slots x.ctx) xs ≡ in_bucket slots (bucket_of slots x.ctx) s.fs ++ x ∷ in_bucket slots (bucket_of slots x.ctx) s.gs
      bucket_is = ap (in_bucket slots (bucket_of slots x.ctx)) s.is ∙ bucket_on slots (bucket_of slots x.ctx) s.fs s.gs x refl

      bucket_slots : map slot_of (in_bucket slots (bucket_of slots x.ctx) xs) ≡ map slot_of (in_bucket slots (bucket_of slots x.ctx) s.fs) ++ x.op.slot ∷ map slot_of (in_bucket slots (bucket_of slots x.ctx) s.gs)
      bucket_slots = ap (map slot_of) bucket_is ∙ map-append slot_of (in_bucket slots (bucket_of slots x.ctx) s.fs) (x ∷ in_bucket slots (bucket_of slots x.ctx) s.gs)

      in_its_bucket : IsIn x.op.slot (map slot_of (in_bucket slots (bucket_of slots x.ctx) xs))
      in_its_bucket = subst (IsIn x.op.slot) (sym bucket_slots) (in_middle (map slot_of (in_bucket slots (bucket_of slots x.ctx) s.fs)) x.op.slot (map slot_of (in_bucket slots (bucket_of slots x.ctx) s.gs)))

      before_it : IsIn (at l.before.items x.op.slot) ((slots + bucket_of slots x.ctx) ∷ map slot_of (in_bucket slots (bucket_of slots x.ctx) xs))
      before_it = before_in l.after.items l.before.items (slots + bucket_of slots x.ctx) (map slot_of (in_bucket slots (bucket_of slots x.ctx) xs)) (slots + bucket_of slots x.ctx) x.op.slot (h.in_buckets (bucket_of slots x.ctx) lx) in_its_bucket

      after_it : IsIn (at l.after.items x.op.slot) ((slots + bucket_of slots x.ctx) ∷ map slot_of (in_bucket slots (bucket_of slots x.ctx) xs))
      after_it = after_in l.after.items l.before.items (slots + bucket_of slots x.ctx) (map slot_of (in_bucket slots (bucket_of slots x.ctx) xs)) (slots + bucket_of slots x.ctx) x.op.slot (h.in_buckets (bucket_of slots x.ctx) lx) in_its_bucket

      on_it : IsPath q.after.items q.before.items (slots + bucket_of slots x.ctx) (map slot_of (in_bucket slots (bucket_of slots x.ctx) (s.fs ++ s.gs))) (slots + bucket_of slots x.ctx)
      on_it =
          let n = bucket_of slots x.ctx in
          let test : PendingOperation → Bool = λ y. bucket_of slots y.ctx == n in
          let placed_there = placed_filter test slots places xs h.are_placed in
          let no_head = subst (NotIn (slots + n)) bucket_slots (head_out slots places (slots + n) (in_bucket slots n xs) (omega arith) placed_there) in
          let apart_there = subst Differ bucket_slots (differ_filter test xs h.differ) in
          let path = subst (λ (zs : List ℕ). IsPath l.after.items l.before.items (slots + n) zs (slots + n)) bucket_slots (h.in_buckets n lx) in
          let b : at l.before.items x.op.slot < slots + slots = member_below slots places (slots + slots) (slots + n) (at l.before.items x.op.slot) (in_bucket slots n xs) placed_there (omega (arith, lx)) (omega arith) before_it in
          let a : at l.after.items x.op.slot < slots + slots = member_below slots places (slots + slots) (slots + n) (at l.after.items x.op.slot) (in_bucket slots n xs) placed_there (omega (arith, lx)) (omega arith) after_it in
          moved _ q.after.items _ q.before.items (slots + n) _ _ (slots + n) pl.0 pl.1 (ap (map slot_of) (bucket_parts slots n s.fs s.gs) ∙ map-append slot_of (in_bucket slots n s.fs) (in_bucket slots n s.gs))
          (removed l.after.items l.before.items x.op.slot (slots + n) (slots + n) (map slot_of (in_bucket slots n s.fs)) (map slot_of (in_bucket slots n s.gs)) path (no_head, apart_there) no_head (omega (arith, b, h.buckets_after)) (omega (arith, a, h.buckets_before)))

      bucketd : (n : ℕ) → n < slots → (b : Bool) → (bucket_of slots x.ctx == n) ≡ b → IsPath q.after.items q.before.items (slots + n) (map slot_of (in_bucket slots n (s.fs ++ s.gs))) (slots + n)
      bucketd n k true e = subst (λ (j : ℕ). IsPath q.after.items q.before.items (slots + j) (map slot_of (in_bucket slots j (s.fs ++ s.gs))) (slots + j)) (same (bucket_of slots x.ctx) n e) on_it
      bucketd n k false e =
          let j = bucket_of slots x.ctx in
          let far : j ≢ n = (λ t. let no : true ≡ false = sym (is_same j n t) ∙ e in absurd cc) in
          let ys = map slot_of (in_bucket slots n xs) in
          let one = kept l.after.items l.before.items (at l.before.items x.op.slot) (at l.after.items x.op.slot) (at l.after.items x.op.slot) (at l.before.items x.op.slot) (slots + n) ys (slots + n) (elsewhere slots places j n (at l.before.items x.op.slot) xs far h.are_placed before_it) (elsewhere slots places j n (at l.after.items x.op.slot) xs far h.are_placed after_it) (h.in_buckets n k) in
          moved _ q.after.items _ q.before.items (slots + n) _ _ (slots + n) pl.0 pl.1 (ap (map slot_of) (sym (bucket_off slots n s.fs s.gs x far) ∙ ap (in_bucket slots n) (sym s.is))) one

      rest : Keeps slots fewer p q (s.fs ++ s.gs)
      rest =
          let b : at o.before.items x.op.slot < slots + 1 = member_below slots places (slots + 1) slots (at o.before.items x.op.slot) xs h.are_placed (omega arith) (omega arith) (before_in o.after.items o.before.items slots (map slot_of xs) slots x.op.slot h.in_order among) in
          let a : at o.after.items x.op.slot < slots + 1 = member_below slots places (slots + 1) slots (at o.after.items x.op.slot) xs h.are_placed (omega arith) (omega arith) (after_in o.after.items o.before.items slots (map slot_of xs) slots x.op.slot h.in_order among) in
          let path = subst (λ (zs : List ℕ). IsPath o.after.items o.before.items slots zs slots) slots_are h.in_order in
          record {
            some = h.some;
            few = h.few;
            count = omega (arith, h.count, ap length s.is, length-append s.fs (x ∷ s.gs), length-append s.fs s.gs);
            differ = subst Differ (sym rest_are) differ.0;
            are_placed = subst (λ (zs : List (Option PendingOperation)). ArePlaced slots zs (s.fs ++ s.gs)) (sym pm) (placed_else slots places x.op.slot None (s.fs ++ s.gs) (subst (NotIn x.op.slot) (sym rest_are) differ.1) (placed_without slots places s.fs s.gs x there));
            in_order = moved _ p.after.items _ p.before.items slots _ _ slots po.0 po.1 rest_are
                (removed o.after.items o.before.items x.op.slot slots slots (map slot_of s.fs) (map slot_of s.gs) path (out slots (omega arith), subst Differ slots_are h.differ) (out slots (omega arith)) (omega (arith, b, h.order_after)) (omega (arith, a, h.order_before)));
            in_buckets = λ n k. bucketd n k (bucket_of slots x.ctx == n) refl;
            place_count = ap length pm ∙ length-set places x.op.slot None ∙ h.place_count;
            order_after = ap length po.0 ∙ length-set o.after.items (at o.before.items x.op.slot) (at o.after.items x.op.slot) ∙ h.order_after;
            order_before = ap length po.1 ∙ length-set o.before.items (at o.after.items x.op.slot) (at o.before.items x.op.slot) ∙ h.order_before;
            buckets_after = ap length pl.0 ∙ length-set l.after.items (at l.before.items x.op.slot) (at l.after.items x.op.slot) ∙ h.buckets_after;
            buckets_before = ap length pl.1 ∙ length-set l.before.items (at l.after.items x.op.slot) (at l.before.items x.op.slot) ∙ h.buckets_before;
          }

-- ---- The next one

-- the place after this one tells what comes next
abbrev pub Tells : ℕ → List (Option PendingOperation) → List ℕ → ℕ → ℕ → Option PendingOperation → Type 0
Tells slots places f a e r = (at f a ≡ e → r ≡ None) × (at f a ≢ e → (at f a < slots) × (place_at places (at f a) ≡ r))

module _ (slots : ℕ) (places : List (Option PendingOperation)) (f b : List ℕ) (e : ℕ) where
  pub first_is : (a : ℕ) (xs : List PendingOperation) → IsPath f b a (map slot_of xs) e → ArePlaced slots places xs → slots ≤ e → Tells slots places f a e (first_of xs)
  first_is a [] h p l = ((λ s. refl), (λ n. absurd (n h.0)))
  first_is a (x ∷ xs) h p l = ((λ s. absurd (omega (arith, s, h.0, p.0, l))), (λ n. (omega (arith, h.0, p.0), ap (place_at places) h.0 ∙ p.1)))

  pub behind_is : (a : ℕ) (x : PendingOperation) (xs : List PendingOperation) → IsAmong x xs → Differ (map slot_of xs) → IsPath f b a (map slot_of xs) e → ArePlaced slots places xs → slots ≤ e → Tells slots places f x.op.slot e (behind x.op xs)
  behind_is a x [] m d h p l = absurd m
  behind_is a x (y ∷ ys) (inl s) d h p l =
      subst (λ (z : PendingOperation). Tells slots places f z.op.slot e (behind z.op (y ∷ ys))) s (subst (λ (c : Bool). Tells slots places f y.op.slot e (cond c (first_of ys) (behind y.op ys))) (sym (named_self y)) (first_is y.op.slot ys h.2 p.2 l))
  behind_is a x (y ∷ ys) (inr m) d h p l =
      let no : is_named x.op y ≡ false = unnamed x y (apart (map slot_of ys) y.op.slot x.op.slot d.0 (among_in x ys m)) in
      subst (λ (c : Bool). Tells slots places f x.op.slot e (cond c (first_of ys) (behind x.op ys))) (sym no) (behind_is y.op.slot x ys m d.1 h.2 p.2 l)

-- ---- What the calls require

-- within a list the default for places beyond its end doesn't matter
any_default : {A : Type 0} (xs : List A) (i : ℕ) (d e : A) → i < length xs → get_or xs i d ≡ get_or xs i e
any_default [] i d e l = absurd (omega (arith, l))
any_default (x ∷ xs) zero d e l = refl
any_default (x ∷ xs) (suc i) d e l = any_default xs i d e (omega (arith, l))

pub among_filter : (p : PendingOperation → Bool) (x : PendingOperation) (xs : List PendingOperation) → p x ≡ true → IsAmong x xs → IsAmong x (filter p xs)
among_filter p x [] e m = absurd m
among_filter p x (y ∷ ys) e (inl s) = rw (ap p s ∙ e) (inl s)
among_filter p x (y ∷ ys) e (inr m) = go (p y) (among_filter p x ys e m)
  where
    go : (b : Bool) → IsAmong x (filter p ys) → IsAmong x (cond b (y ∷ filter p ys) (filter p ys))
    go true k = inr k
    go false k = k

-- this place tells what comes next, if it isn't the head
abbrev pub PlaceTells : List (Option PendingOperation) → ℕ → ℕ → Option PendingOperation → Type 0
PlaceTells places n head r = (n ≡ head → r ≡ None) × (n ≢ head → (n < length places) × ((d : Option PendingOperation) → get_or places n d ≡ r))

module _ (slots : ℕ) (places : List (Option PendingOperation)) (o l : Rings) (xs : List PendingOperation) (h : Keeps slots places o l xs) where
  told : (f : List ℕ) (a e n : ℕ) (r : Option PendingOperation) → Tells slots places f a e r → n ≡ at f a → PlaceTells places n e r
  told f a e n r t s = (
    (λ q. t.0 (sym s ∙ q)),
    (λ q. let k = t.1 (λ u. q (s ∙ u)) in let inside : n < length places = omega (arith, k.0, s, h.place_count) in (inside, λ d. any_default places n d None inside ∙ ap (place_at places) s ∙ k.1)),
  )

  pub first_told : (n : ℕ) → n ≡ at o.after.items slots → PlaceTells places n slots (first_of xs)
  first_told n s = told o.after.items slots slots n (first_of xs) (first_is slots places o.after.items o.before.items slots slots xs h.in_order h.are_placed (omega arith)) s

  pub bucket_first_told : (c head n : ℕ) → head ≡ slots + bucket_of slots c → bucket_of slots c < slots → n ≡ at l.after.items head → PlaceTells places n head (first_of (in_bucket slots (bucket_of slots c) xs))
  bucket_first_told c head n e k s =
      let bucket = bucket_of slots c in
      let ys = in_bucket slots bucket xs in
      let t = told l.after.items (slots + bucket) (slots + bucket) n (first_of ys) (first_is slots places l.after.items l.before.items (slots + bucket) (slots + bucket) ys (h.in_buckets bucket k) (placed_filter (λ x. bucket_of slots x.ctx == bucket) slots places xs h.are_placed) (omega arith)) (s ∙ ap (at l.after.items) e) in
      subst (λ (i : ℕ). PlaceTells places n i (first_of ys)) (sym e) t

  pub bucket_next_told : (x : PendingOperation) (head n : ℕ) → IsAmong x xs → head ≡ slots + bucket_of slots x.ctx → bucket_of slots x.ctx < slots → n ≡ at l.after.items x.op.slot → PlaceTells places n head (behind x.op (in_bucket slots (bucket_of slots x.ctx) xs))
  bucket_next_told x head n m e k s =
      let bucket = bucket_of slots x.ctx in
      let ys = in_bucket slots bucket xs in
      let p : PendingOperation → Bool = λ y. bucket_of slots y.ctx == bucket in
      let there = among_filter p x xs (is_same bucket bucket refl) m in
      let next = behind_is slots places l.after.items l.before.items (slots + bucket) (slots + bucket) x ys there (differ_filter p xs h.differ) (h.in_buckets bucket k) (placed_filter p slots places xs h.are_placed) (omega arith) in
      subst (λ (i : ℕ). PlaceTells places n i (behind x.op ys)) (sym e) (told l.after.items x.op.slot (slots + bucket) n (behind x.op ys) next s)

  pub order_room : (i : ℕ) → i < slots → (slots < length o.before.items) × (i < length o.before.items) × (i < length o.after.items) × (at o.before.items slots < length o.after.items)
  order_room i k =
      let last : at o.before.items slots < slots + 1 = member_below slots places (slots + 1) slots (at o.before.items slots) xs h.are_placed (omega arith) (omega arith) (last_in o.after.items o.before.items slots (map slot_of xs) slots h.in_order) in
      (omega (arith, h.order_before), omega (arith, k, h.order_before), omega (arith, k, h.order_after), omega (arith, last, h.order_after))

  pub bucket_room : (c i head : ℕ) → i < slots → head ≡ slots + bucket_of slots c → bucket_of slots c < slots → (head < length l.before.items) × (i < length l.before.items) × (i < length l.after.items) × (at l.before.items head < length l.after.items)
  bucket_room c i head k e b =
      let bucket = bucket_of slots c in
      let ys = in_bucket slots bucket xs in
      let last : at l.before.items (slots + bucket) < slots + slots = member_below slots places (slots + slots) (slots + bucket) (at l.before.items (slots + bucket)) ys (placed_filter (λ x. bucket_of slots x.ctx == bucket) slots places xs h.are_placed) (omega (arith, b)) (omega arith) (last_in l.after.items l.before.items (slots + bucket) (map slot_of ys) (slots + bucket) (h.in_buckets bucket b)) in
      let same : at l.before.items head ≡ at l.before.items (slots + bucket) = ap (at l.before.items) e in
      (omega (arith, e, b, h.buckets_before), omega (arith, k, h.buckets_before), omega (arith, k, h.buckets_after), omega (arith, last, same, h.buckets_after))

  pub slot_inside : (x : PendingOperation) → IsAmong x xs → x.op.slot < slots
  slot_inside x m = (placed_here slots places x xs h.are_placed m).0

  pub order_neighbours : (x : PendingOperation) → IsAmong x xs → (x.op.slot < length o.before.items) × (x.op.slot < length o.after.items) × (at o.before.items x.op.slot < length o.after.items) × (at o.after.items x.op.slot < length o.before.items)
  order_neighbours x m =
      let k = slot_inside x m in
      let among = among_in x xs m in
      let b : at o.before.items x.op.slot < slots + 1 = member_below slots places (slots + 1) slots (at o.before.items x.op.slot) xs h.are_placed (omega arith) (omega arith) (before_in o.after.items o.before.items slots (map slot_of xs) slots x.op.slot h.in_order among) in
      let a : at o.after.items x.op.slot < slots + 1 = member_below slots places (slots + 1) slots (at o.after.items x.op.slot) xs h.are_placed (omega arith) (omega arith) (after_in o.after.items o.before.items slots (map slot_of xs) slots x.op.slot h.in_order among) in
      (omega (arith, k, h.order_before), omega (arith, k, h.order_after), omega (arith, b, h.order_after), omega (arith, a, h.order_before))

  pub bucket_neighbours : (x : PendingOperation) → IsAmong x xs → bucket_of slots x.ctx < slots → (x.op.slot < length l.before.items) × (x.op.slot < length l.after.items) × (at l.before.items x.op.slot < length l.after.items) × (at l.after.items x.op.slot < length l.before.items)
  bucket_neighbours x m lx =
      let k = slot_inside x m in
      let bucket = bucket_of slots x.ctx in
      let p : PendingOperation → Bool = λ y. bucket_of slots y.ctx == bucket in
      let ys = in_bucket slots bucket xs in
      let there = placed_filter p slots places xs h.are_placed in
      let among = among_in x ys (among_filter p x xs (is_same bucket bucket refl) m) in
      let b : at l.before.items x.op.slot < slots + slots = member_below slots places (slots + slots) (slots + bucket) (at l.before.items x.op.slot) ys there (omega (arith, lx)) (omega arith) (before_in l.after.items l.before.items (slots + bucket) (map slot_of ys) (slots + bucket) x.op.slot (h.in_buckets bucket lx) among) in
      let a : at l.after.items x.op.slot < slots + slots = member_below slots places (slots + slots) (slots + bucket) (at l.after.items x.op.slot) ys there (omega (arith, lx)) (omega arith) (after_in l.after.items l.before.items (slots + bucket) (map slot_of ys) (slots + bucket) x.op.slot (h.in_buckets bucket lx) among) in
      (omega (arith, k, h.buckets_before), omega (arith, k, h.buckets_after), omega (arith, b, h.buckets_after), omega (arith, a, h.buckets_before))

-- at the start
pub made : (slots : ℕ) (places : List (Option PendingOperation)) (o l : Rings) → 0 < slots → slots ≤ 4096 → places ≡ replicate slots None → AreAlone (slots + 1) o.after.items → AreAlone (slots + 1) o.before.items → AreAlone (slots + slots) l.after.items → AreAlone (slots + slots) l.before.items → Keeps slots places o l []
made slots places o l s f p oa ob la lb = record {
  some = s;
  few = f;
  count = omega arith;
  differ = tt;
  are_placed = tt;
  in_order = (oa.each slots (omega arith), ob.each slots (omega arith));
  in_buckets = λ n k. (la.each (slots + n) (omega (arith, k)), lb.each (slots + n) (omega (arith, k)));
  place_count = ap length p ∙ length-replicate slots None;
  order_after = oa.count;
  order_before = ob.count;
  buckets_after = la.count;
  buckets_before = lb.count;
}

pub bucket_below : (slots c : ℕ) → 0 < slots → bucket_of slots c < slots
bucket_below slots c s = search arith

-- the operation of this name is taken out
pub named_out : (slots : ℕ) (places : List (Option PendingOperation)) (o l p q : Rings) (xs : List PendingOperation) (x : PendingOperation) (op : OpName) → x.op ≡ op → Keeps slots places o l xs → IsAmong x xs → TakesOut op.slot o p → TakesOut op.slot l q → Keeps slots (set places op.slot None) p q (others_than op xs)
named_out slots places o l p q xs x op e h m =
    subst (λ (n : OpName). TakesOut n.slot o p → TakesOut n.slot l q → Keeps slots (set places n.slot None) p q (others_than n xs)) e (λ a b. taken_out slots places (set places x.op.slot None) o l p q xs x h m (bucket_below slots x.ctx h.some) a b refl)

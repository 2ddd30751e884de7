-- A walk along a bucket: what is left of it, and what is left when an operation is taken out.
use Rattle.std.proofs.Common.{◌≡◌, refl, ap, sym, ◌∙◌, subst, List, [], ◌∷◌, ◌++◌, ℕ, Bool, true, false, cond, Option, Some, inl, inr}
use Rattle.std.specs.Prelude.{map, filter, not, ◌≢◌, ◌==◌}
use Rattle.sp_base.specs.declared.OpName.{OpName}
use Rattle.core_state.specs.declared.pending.PendingOperation.{PendingOperation}
use Rattle.core_state.specs.Pendings.{is_named, slot_of, bucket_of, in_bucket, first_of, behind, from_on, left_of, others_than, IsAmong, IsNextIn, Differ}
use Rattle.core_state.proofs.RingSteps.{same, is_same, apart}
use Rattle.core_state.proofs.PendingSteps.{split, named_self, unnamed, among_in, among_filter, differ_filter}

-- ---- One list

pub left_first : (xs : List PendingOperation) → left_of (first_of xs) xs ≡ xs
left_first [] = refl
left_first (x ∷ xs) = rw (named_self x) refl

pub first_in : (xs : List PendingOperation) → IsNextIn (first_of xs) xs
first_in [] = tt
first_in (x ∷ xs) = inl refl

middle : (fs : List PendingOperation) (x : PendingOperation) (gs : List PendingOperation) → IsAmong x (fs ++ x ∷ gs)
middle [] x gs = inl refl
middle (f ∷ fs) x gs = inr (middle fs x gs)

-- no operation before this one has its name
before_unnamed : (f : PendingOperation) (fs : List PendingOperation) (x : PendingOperation) (gs : List PendingOperation) → Differ (map slot_of ((f ∷ fs) ++ x ∷ gs)) → is_named x.op f ≡ false
before_unnamed f fs x gs d = unnamed x f (apart (map slot_of (fs ++ x ∷ gs)) f.op.slot x.op.slot d.0 (among_in x (fs ++ x ∷ gs) (middle fs x gs)))

left_here : (fs : List PendingOperation) (x : PendingOperation) (gs : List PendingOperation) → Differ (map slot_of (fs ++ x ∷ gs)) → from_on x.op (fs ++ x ∷ gs) ≡ x ∷ gs
left_here [] x gs d = rw (named_self x) refl
left_here (f ∷ fs) x gs d = rw (before_unnamed f fs x gs d) (left_here fs x gs d.1)

left_behind : (fs gs : List PendingOperation) → Differ (map slot_of (fs ++ gs)) → left_of (first_of gs) (fs ++ gs) ≡ gs
left_behind fs [] d = refl
left_behind fs (g ∷ gs) d = left_here fs g gs d

next_there : (fs gs : List PendingOperation) → IsNextIn (first_of gs) (fs ++ gs)
next_there fs [] = tt
next_there fs (g ∷ gs) = middle fs g gs

behind_it : (fs : List PendingOperation) (x : PendingOperation) (gs : List PendingOperation) → Differ (map slot_of (fs ++ x ∷ gs)) → behind x.op (fs ++ x ∷ gs) ≡ first_of gs
behind_it [] x gs d = rw (named_self x) refl
behind_it (f ∷ fs) x gs d = rw (before_unnamed f fs x gs d) (behind_it fs x gs d.1)

one_before : (fs : List PendingOperation) (x : PendingOperation) (gs : List PendingOperation) → (fs ++ x ∷ []) ++ gs ≡ fs ++ x ∷ gs
one_before [] x gs = refl
one_before (f ∷ fs) x gs = ap (λ (zs : List PendingOperation). f ∷ zs) (one_before fs x gs)

-- ---- One step

-- the walk goes from the operation to the next one, whether the operation stays or is taken out
pub record Step (x : PendingOperation) (xs : List PendingOperation) : Type 0 where
  pub rest : List PendingOperation
  pub here : left_of (Some x) xs ≡ x ∷ rest
  pub stays : left_of (behind x.op xs) xs ≡ rest
  pub stays_in : IsNextIn (behind x.op xs) xs
  pub gone : left_of (behind x.op xs) (others_than x.op xs) ≡ rest
  pub gone_in : IsNextIn (behind x.op xs) (others_than x.op xs)

pub step : (x : PendingOperation) (xs : List PendingOperation) → IsAmong x xs → Differ (map slot_of xs) → Step x xs
step x xs m d =
    let s = split x xs m d in
    let differ : Differ (map slot_of (s.fs ++ x ∷ s.gs)) = subst (λ (zs : List PendingOperation). Differ (map slot_of zs)) s.is d in
    let other : Differ (map slot_of (others_than x.op xs)) = differ_filter (λ y. not (is_named x.op y)) xs d in
    let next : behind x.op xs ≡ first_of s.gs = ap (behind x.op) s.is ∙ behind_it s.fs x s.gs differ in
    let longer : xs ≡ (s.fs ++ x ∷ []) ++ s.gs = s.is ∙ sym (one_before s.fs x s.gs) in
    record {
      rest = s.gs;
      here = ap (from_on x.op) s.is ∙ left_here s.fs x s.gs differ;
      stays = ap (λ (o : Option PendingOperation). left_of o xs) next ∙ ap (left_of (first_of s.gs)) longer ∙ left_behind (s.fs ++ x ∷ []) s.gs (subst (λ (zs : List PendingOperation). Differ (map slot_of zs)) longer d);
      stays_in = subst (λ (o : Option PendingOperation). IsNextIn o xs) (sym next) (subst (IsNextIn (first_of s.gs)) (sym longer) (next_there (s.fs ++ x ∷ []) s.gs));
      gone = ap (λ (o : Option PendingOperation). left_of o (others_than x.op xs)) next ∙ ap (left_of (first_of s.gs)) s.left ∙ left_behind s.fs s.gs (subst (λ (zs : List PendingOperation). Differ (map slot_of zs)) s.left other);
      gone_in = subst (λ (o : Option PendingOperation). IsNextIn o (others_than x.op xs)) (sym next) (subst (IsNextIn (first_of s.gs)) (sym s.left) (next_there s.fs s.gs));
    }

-- ---- In the list of all

module _ (p q : PendingOperation → Bool) where
  filters : (xs : List PendingOperation) → filter p (filter q xs) ≡ filter q (filter p xs)
  filters [] = refl
  filters (x ∷ xs) = go (p x) (q x) refl refl (filters xs)
    where
      go : (a b : Bool) → p x ≡ a → q x ≡ b → filter p (filter q xs) ≡ filter q (filter p xs) → filter p (cond b (x ∷ filter q xs) (filter q xs)) ≡ filter q (cond a (x ∷ filter p xs) (filter p xs))
      go true true e f k = rw (e, f) (ap (λ (zs : List PendingOperation). x ∷ zs) k)
      go true false e f k = rw f k
      go false true e f k = rw e k
      go false false e f k = k

pub bucket_without : (slots n : ℕ) (op : OpName) (xs : List PendingOperation) → in_bucket slots n (others_than op xs) ≡ others_than op (in_bucket slots n xs)
bucket_without slots n op xs = filters (λ x. bucket_of slots x.ctx == n) (λ x. not (is_named op x)) xs

pub among_bucket : (slots n : ℕ) (x : PendingOperation) (xs : List PendingOperation) → IsAmong x (in_bucket slots n xs) → IsAmong x xs × (bucket_of slots x.ctx ≡ n)
among_bucket slots n x [] m = absurd m
among_bucket slots n x (y ∷ ys) m = go (bucket_of slots y.ctx == n) refl m (λ k. among_bucket slots n x ys k)
  where
    go : (b : Bool) → (bucket_of slots y.ctx == n) ≡ b → IsAmong x (cond b (y ∷ in_bucket slots n ys) (in_bucket slots n ys)) → (IsAmong x (in_bucket slots n ys) → IsAmong x ys × (bucket_of slots x.ctx ≡ n)) → IsAmong x (y ∷ ys) × (bucket_of slots x.ctx ≡ n)
    go true e (inl s) again = (inl s, ap (λ (z : PendingOperation). bucket_of slots z.ctx) (sym s) ∙ same (bucket_of slots y.ctx) n e)
    go true e (inr k) again = let r = again k in (inr r.0, r.1)
    go false e k again = let r = again k in (inr r.0, r.1)

-- the step in the bucket of the operation
pub bucket_step : (slots n : ℕ) (x : PendingOperation) (xs : List PendingOperation) → IsAmong x (in_bucket slots n xs) → Differ (map slot_of xs) → Step x (in_bucket slots n xs)
bucket_step slots n x xs m d = step x (in_bucket slots n xs) m (differ_filter (λ y. bucket_of slots y.ctx == n) xs d)

-- ---- One of a context

-- each of the context that is in one list is in the other
abbrev pub AreLeft : ℕ → List PendingOperation → List PendingOperation → Type 0
AreLeft c xs left = (x : PendingOperation) → IsAmong x xs → x.ctx ≡ c → IsAmong x left

pub all_left : (slots c : ℕ) (xs : List PendingOperation) → AreLeft c xs (in_bucket slots (bucket_of slots c) xs)
all_left slots c xs x m e = among_filter (λ y. bucket_of slots y.ctx == bucket_of slots c) x xs (is_same (bucket_of slots x.ctx) (bucket_of slots c) (ap (bucket_of slots) e)) m

pub fewer_left : (c : ℕ) (xs : List PendingOperation) (y : PendingOperation) (left : List PendingOperation) → y.ctx ≢ c → AreLeft c xs (y ∷ left) → AreLeft c xs left
fewer_left c xs y left n h x m e = go (h x m e)
  where
    go : IsAmong x (y ∷ left) → IsAmong x left
    go (inl s) = absurd (n (ap (λ (z : PendingOperation). z.ctx) s ∙ e))
    go (inr k) = k

-- a test of the context that fails
pub off : (i j : ℕ) (b : Bool) → b ≡ (i == j) → b ≡ false → i ≢ j
off i j b e f q = let no : true ≡ false = sym (is_same i j q) ∙ sym e ∙ f in absurd cc

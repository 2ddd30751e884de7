-- The state of a caller after a call.
use Rattle.std.proofs.Common.{◌≡◌, ◌≢◌, refl, ap, sym, ◌∙◌, subst, List, [], ◌∷◌, ◌++◌, ℕ, suc, length, inl, inr}
use Rattle.std.proofs.lemmas.List.FromFn.{length-map-range_with_len}
use Rattle.std.specs.Prelude.{map}
use Rattle.sp_base.specs.declared.OpName.{OpName}
use Rattle.aio_word.specs.Views.{Stands, Each}
use Rattle.sp_history.specs.declared.setting.Setting.{Setting}
use Rattle.sp_core.specs.declared.calls.collect.Collected.{Collected}
use Rattle.sp_core.specs.declared.calls.collect.Collected.TheVariants as collected
use Rattle.sp_socket.specs.Passes.{SocketName, PassView, ListView, IsOf, IsSamePass, new_pass, new_list}
use Rattle.sp_socket.specs.Open.{IsOpenFor, OpensFor, AreOpenFor, KeepsOpen, KeepsOthers, KeepsPass, TakesNoTurn}
use Rattle.sp_socket.proofs.Held.{all_keep, all_more, last_open, others_keep}
use Rattle.sp_socket.proofs.Waits.{still_of}
use Rattle.test_socket.specs.Calls.{IsListOf, Calls}

-- ---- A caller

pub stays : (s : SocketName) (p q : PassView) (ops : List OpName) → KeepsPass p q → Calls s p ops → Calls s q ops
stays s p q ops k c = record { own = still_of s p q k.same c.own; open_ = all_keep p q ops k.open_ c.open_ }

pub ticks : (s : SocketName) (p q : PassView) (ops : List OpName) → IsSamePass p q → KeepsOpen p q → Calls s p ops → Calls s q ops
ticks s p q ops same k c = record { own = still_of s p q same c.own; open_ = all_keep p q ops k c.open_ }

pub rests : (s : SocketName) (p q : PassView) (ops : List OpName) → TakesNoTurn p q → Calls s p ops → Calls s q ops
rests s p q ops k c = ticks s p q ops k.same k.open_ c

pub begins : (s : SocketName) (p q : PassView) (ops more : List OpName) (op : OpName) → KeepsPass p q → OpensFor p q op → more ≡ ops ++ op ∷ [] → Calls s p ops → Calls s q more
begins s p q ops more op k new is c =
    record { own = still_of s p q k.same c.own; open_ = subst (AreOpenFor q) (sym is) (all_more p q ops op k.open_ new c.open_) }

-- the last operation is open
pub last : (s : SocketName) (p : PassView) (ops less : List OpName) (op : OpName) → ops ≡ less ++ op ∷ [] → Calls s p ops → IsOpenFor p op
last s p ops less op is c = last_open p less op (subst (AreOpenFor p) is c.open_)

pub collects : (s : SocketName) (p q : PassView) (ops less : List OpName) (op : OpName) → ops ≡ less ++ op ∷ [] → IsSamePass p q → ((other : OpName) → op ≢ other → IsOpenFor p other → IsOpenFor q other) → Calls s p ops → Calls s q less
collects s p q ops less op is same k c =
    record { own = still_of s p q same c.own; open_ = others_keep p q less op k (subst (AreOpenFor p) is c.open_) }

-- an operation that had not ended is put back
pub puts_back : (s : SocketName) (p q : PassView) (ops less more : List OpName) (op o : OpName) → ops ≡ less ++ op ∷ [] → more ≡ less ++ o ∷ [] → o ≡ op → IsSamePass p q → KeepsOpen p q → Calls s p ops → Calls s q more
puts_back s p q ops less more op o is new same_op same k c =
    subst (Calls s q) (is ∙ ap (λ (x : OpName). less ++ x ∷ []) (sym same_op) ∙ sym new) (ticks s p q ops same k c)

pub no_ops : (s : SocketName) (p : PassView) → IsOf s p → Calls s p []
no_ops s p own = record { own = own; open_ = tt }

-- ---- A list

each_mapped : {A B : Type 0} (P : B → Type 0) (f : A → B) → ((x : A) → P (f x)) → (xs : List A) → Each P (map f xs)
each_mapped P f h [] = tt
each_mapped P f h (x ∷ xs) = (h x, each_mapped P f h xs)

pub list_made : (s : SocketName) (l : ListView) (z : Setting) → l ≡ new_list s z → z.slots ≡ s.words.slots → z.callers ≡ s.words.callers → IsListOf s l
list_made s l z is slots callers =
    subst (IsListOf s) (sym is) (record { lock = refl; callers = callers; own = each_mapped (IsOf s) (new_pass s z) (λ n. (refl, (z, refl, slots, callers))) _ })

pub each_prefix : {A : Type 0} (P : A → Type 0) (xs : List A) (x : A) → Each P (xs ++ x ∷ []) → Each P xs × P x
each_prefix P [] x h = (tt, h.0)
each_prefix P (y ∷ xs) x h = let r = each_prefix P xs x h.1 in ((h.0, r.0), r.1)

pub each_more : {A : Type 0} (P : A → Type 0) (xs : List A) (x : A) → Each P xs → P x → Each P (xs ++ x ∷ [])
each_more P [] x h p = (p, tt)
each_more P (y ∷ xs) x h p = (h.0, each_more P xs x h.1 p)

pub list_less : (s : SocketName) (l m : ListView) (p : PassView) → l.items ≡ m.items ++ p ∷ [] → m.callers ≡ l.callers → m.lock ≡ l.lock → IsListOf s l → IsListOf s m × IsOf s p
list_less s l m p is callers lock h =
    let r = each_prefix (IsOf s) m.items p (subst (Each (IsOf s)) is h.own) in
    (record { lock = lock ∙ h.lock; callers = callers ∙ h.callers; own = r.0 }, r.1)

pub list_more : (s : SocketName) (l m : ListView) (p : PassView) → m.items ≡ l.items ++ p ∷ [] → m.callers ≡ l.callers → m.lock ≡ l.lock → IsOf s p → IsListOf s l → IsListOf s m
list_more s l m p is callers lock own h =
    record { lock = lock ∙ h.lock; callers = callers ∙ h.callers; own = subst (Each (IsOf s)) (sym is) (each_more (IsOf s) l.items p h.own own) }

pub stands_last : {A : Type 0} (x : A) (xs : List A) → Stands x (xs ++ x ∷ [])
stands_last x [] = inl refl
stands_last x (y ∷ xs) = inr (stands_last x xs)

-- a new list has all its passes
pub list_whole : (s : SocketName) (l : ListView) (z : Setting) → l ≡ new_list s z → length l.items ≡ l.callers
list_whole s l z is =
    subst (λ (x : ListView). length x.items ≡ x.callers) (sym is) (length-map-range_with_len (new_pass s z) 1 z.callers)

-- so has a list to which the pass that was taken is given back, whatever it has seen since
pub whole_again : (l m n : ListView) (p q : PassView) → length l.items ≡ l.callers → l.items ≡ m.items ++ p ∷ [] → m.callers ≡ l.callers → n.items ≡ m.items ++ q ∷ [] → n.callers ≡ m.callers → length n.items ≡ n.callers
whole_again l m n p q all taken a given b =
    ap length given ∙ one_more m.items q ∙ sym (ap length taken ∙ one_more m.items p) ∙ all ∙ sym a ∙ sym b
  where
    one_more : (xs : List PassView) (x : PassView) → length (xs ++ x ∷ []) ≡ suc (length xs)
    one_more [] x = refl
    one_more (y ∷ xs) x = ap suc (one_more xs x)

-- What is in a history is what is found there, and its ticks are in order.
use Rattle.std.proofs.Common.{◌≡◌, refl, sym, subst, List, [], ◌∷◌, ◌++◌, ℕ, zero, suc, ◌+◌, ◌≤◌, ◌<◌, max, Bool, true, false, arith, Option, Some}
use Rattle.std.specs.Prelude.{◌==◌, ⊤, length, slice_index_or, if◌then◌else◌}
use Rattle.std.specs.List.{Contains}
use Rattle.std.proofs.lemmas.Bool.Decides.{nat_tests}
use Rattle.sp_base.specs.declared.OpName.{OpName}
use Rattle.sp_history.specs.declared.entry.Ending.{Ending}
use Rattle.sp_history.specs.declared.entry.Entry.{Entry}
use Rattle.sp_history.specs.declared.entry.Entry.TheVariants.{Begin, End, Tick}
use Rattle.sp_history.specs.declared.entry.RecordedAct.{RecordedAct}
use Rattle.sp_history.specs.declared.setting.Setting.{Setting}
use Rattle.sp_history.specs.Lists.{same_op}
use Rattle.sp_history.specs.Past.{now, caller_of}
use Rattle.sp_history.specs.Once.{begin_count, end_count}
use Rattle.sp_history.specs.Legal.{AreAllowed}
use Rattle.sp_history.specs.Found.{act_of, end_of, ticks, last_tick, before_last_tick, IsLeast, AreOrdered}

-- ---- Ends

same_self : (op : OpName) → same_op op op ≡ true
same_self op = let a : (op.slot == op.slot) ≡ true = grind (arith, nat_tests) in let b : (op.generation == op.generation) ≡ true = grind (arith, nat_tests) in rw (a, b) refl

less : (e : Entry) (past : List Entry) (op : OpName) → end_count past op ≤ end_count (e ∷ past) op
less (End other x) past op = go (same_op other op)
  where
    go : (b : Bool) → end_count past op ≤ (if b then end_count past op + 1 else end_count past op)
    go true = omega arith
    go false = omega arith
less _ past op = omega arith

counted_in : (past : List Entry) (op : OpName) (x : Ending) (k : ℕ) → k < length past → slice_index_or past k (End op x) ≡ End op x → 1 ≤ end_count past op
counted_in [] op x k l h = omega arith
counted_in (e ∷ past) op x zero l h = subst (λ (d : Entry). 1 ≤ end_count (d ∷ past) op) (sym h) (rw (same_self op) (omega arith))
counted_in (e ∷ past) op x (suc k) l h =
    let m = counted_in past op x k (omega arith) h in let n = less e past op in omega arith

found : (past : List Entry) (op : OpName) (x : Ending) (k : ℕ) → k < length past → slice_index_or past k (End op x) ≡ End op x → end_count past op ≤ 1 → end_of past op ≡ Some x
found [] op x k l h once = let bad : ⊥ = omega arith in elim bad [ ]
found (e ∷ past) op x zero l h once = subst (λ (d : Entry). end_of (d ∷ past) op ≡ Some x) (sym h) (rw (same_self op) refl)
found (End other y ∷ past) op x (suc k) l h once = go (same_op other op) once (counted_in past op x k (omega arith) h) (found past op x k (omega arith) h)
  where
    go : (b : Bool) → (if b then end_count past op + 1 else end_count past op) ≤ 1 → 1 ≤ end_count past op → (end_count past op ≤ 1 → end_of past op ≡ Some x) → (if b then Some y else end_of past op) ≡ Some x
    go true c m again = let bad : ⊥ = omega arith in elim bad [ ]
    go false c m again = again c
found (_ ∷ past) op x (suc k) l h once = found past op x k (omega arith) h once

pub end_is_found : (past : List Entry) (op : OpName) (x : Ending) → Contains past (End op x) → end_count past op ≤ 1 → end_of past op ≡ Some x
end_is_found past op x c once = found past op x c.0 c.1 c.2 once

-- ---- Begins

less_begun : (e : Entry) (past : List Entry) (op : OpName) → begin_count past op ≤ begin_count (e ∷ past) op
less_begun (Begin other k c act d) past op = go (same_op other op)
  where
    go : (b : Bool) → begin_count past op ≤ (if b then begin_count past op + 1 else begin_count past op)
    go true = omega arith
    go false = omega arith
less_begun _ past op = omega arith

begun_in : (past : List Entry) (op : OpName) (n c : ℕ) (act : RecordedAct) (d : Option ℕ) (k : ℕ) → k < length past → slice_index_or past k (Begin op n c act d) ≡ Begin op n c act d → 1 ≤ begin_count past op
begun_in [] op n c act d k l h = omega arith
begun_in (e ∷ past) op n c act d zero l h = subst (λ (x : Entry). 1 ≤ begin_count (x ∷ past) op) (sym h) (rw (same_self op) (omega arith))
begun_in (e ∷ past) op n c act d (suc k) l h =
    let m = begun_in past op n c act d k (omega arith) h in let j = less_begun e past op in omega arith

found_begin : (past : List Entry) (op : OpName) (n c : ℕ) (act : RecordedAct) (d : Option ℕ) (k : ℕ) → k < length past → slice_index_or past k (Begin op n c act d) ≡ Begin op n c act d → begin_count past op ≤ 1
    → (act_of past op ≡ Some act) × (caller_of past op ≡ Some n)
found_begin [] op n c act d k l h once = let bad : ⊥ = omega arith in elim bad [ ]
found_begin (e ∷ past) op n c act d zero l h once =
    subst (λ (x : Entry). (act_of (x ∷ past) op ≡ Some act) × (caller_of (x ∷ past) op ≡ Some n)) (sym h) (rw (same_self op) (refl, refl))
found_begin (Begin other m e other_act x ∷ past) op n c act d (suc k) l h once = go (same_op other op) once (begun_in past op n c act d k (omega arith) h) (found_begin past op n c act d k (omega arith) h)
  where
    go : (b : Bool) → (if b then begin_count past op + 1 else begin_count past op) ≤ 1 → 1 ≤ begin_count past op
        → (begin_count past op ≤ 1 → (act_of past op ≡ Some act) × (caller_of past op ≡ Some n))
        → ((if b then Some other_act else act_of past op) ≡ Some act) × ((if b then Some m else caller_of past op) ≡ Some n)
    go true few one again = let bad : ⊥ = omega arith in elim bad [ ]
    go false few one again = again few
found_begin (_ ∷ past) op n c act d (suc k) l h once = found_begin past op n c act d k (omega arith) h once

pub begin_is_found : (past : List Entry) (op : OpName) (n c : ℕ) (act : RecordedAct) (d : Option ℕ) → Contains past (Begin op n c act d) → begin_count past op ≤ 1
    → (act_of past op ≡ Some act) × (caller_of past op ≡ Some n)
begin_is_found past op n c act d i once = found_begin past op n c act d i.0 i.1 i.2 once

-- ---- Ticks

abbrev AtMost : ℕ → List ℕ → Type 0
AtMost t [] = ⊤
AtMost t (x ∷ xs) = (x ≤ t) × AtMost t xs

later : (s t : ℕ) (xs : List ℕ) → s ≤ t → AtMost s xs → AtMost t xs
later s t [] h a = tt
later s t (x ∷ xs) h a = (let b : x ≤ s = a.0 in omega arith, later s t xs h a.1)

at_most_more : (t : ℕ) (xs : List ℕ) → AtMost t xs → AtMost t (xs ++ t ∷ [])
at_most_more t [] a = (omega arith, tt)
at_most_more t (x ∷ xs) a = (a.0, at_most_more t xs a.1)

least_more : (x t : ℕ) (xs : List ℕ) → x ≤ t → IsLeast x xs → IsLeast x (xs ++ t ∷ [])
least_more x t [] h l = (h, tt)
least_more x t (y ∷ xs) h l = (l.0, least_more x t xs h l.1)

ordered_more : (t : ℕ) (xs : List ℕ) → AtMost t xs → AreOrdered xs → AreOrdered (xs ++ t ∷ [])
ordered_more t [] a o = (tt, tt)
ordered_more t (x ∷ xs) a o = (least_more x t xs a.0 o.0, ordered_more t xs a.1 o.1)

in_order : (z : Setting) (past : List Entry) → AreAllowed z past → AreOrdered (ticks past) × AtMost (now past) (ticks past)
in_order z [] h = (tt, tt)
in_order z (Tick t due ∷ past) h =
    let before = in_order z past h.1 in
    let rises : now past ≤ t = h.0.1.itself.0 in
    let small = later (now past) t (ticks past) rises before.1 in
    (ordered_more t (ticks past) small before.0, later t (max (now past) t) (ticks past ++ t ∷ []) (omega arith) (at_most_more t (ticks past) small))
in_order z (_ ∷ past) h = in_order z past h.1

pub ticks_in_order : (z : Setting) (past : List Entry) → AreAllowed z past → AreOrdered (ticks past)
ticks_in_order z past h = (in_order z past h).0

pub earlier_in_order : (z : Setting) (past : List Entry) → AreAllowed z past → AreOrdered (ticks (before_last_tick past))
earlier_in_order z [] h = tt
earlier_in_order z (Tick t due ∷ past) h = ticks_in_order z past h.1
earlier_in_order z (_ ∷ past) h = earlier_in_order z past h.1

-- time does not go back
pub last_is_now : (z : Setting) (past : List Entry) → AreAllowed z past → now past ≡ last_tick past
last_is_now z [] h = refl
last_is_now z (Tick t due ∷ past) h = latest (now past) t h.0.1.itself.0
  where
    latest : (a t : ℕ) → a ≤ t → max a t ≡ t
    latest a t k = omega (arith, k)
last_is_now z (_ ∷ past) h = last_is_now z past h.1

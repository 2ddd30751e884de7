-- One queue of a net changes.
use Rattle.std.proofs.Common.{◌≡◌, ◌≤◌, ℕ, zero, suc, List, [], ◌∷◌, length, slice_set, Some, Vec, Global, inl, inr, refl, sym, ap, arith}
use Rattle.std.specs.Prelude.{slice_get}
use Rattle.sp_base.specs.declared.addr.Addr.{Addr}
use Rattle.std.specs.declared.collections.VecDeque.{VecDeque}
use Rattle.sp_fakes.specs.declared.net.NetLink.{NetLink}
use Rattle.sp_fakes.specs.Nets.{queue_of, queues_of, queues_to, GoesAt, GoesTo, IsPast, IsPlaceOf}

-- a number after the last one
pub goes_at_past : (n : ℕ) (lists : List (VecDeque NetLink Global)) → length lists ≤ n → GoesAt n (queues_of lists) (queues_of lists) [] []
goes_at_past n [] le = (refl, refl, refl)
goes_at_past zero (v ∷ rest) le = absurd (omega (arith, le))
goes_at_past (suc n) (v ∷ rest) le = (queues_of rest, goes_at_past n rest (omega (arith, le)), refl)

pub goes_at_set : (n : ℕ) (lists : List (VecDeque NetLink Global)) (v v' : VecDeque NetLink Global) → slice_get lists n ≡ Some v → GoesAt n (queues_of lists) (queues_of (slice_set lists n v')) (queue_of v.items) (queue_of v'.items)
goes_at_set n [] v v' e = absurd cc
goes_at_set zero (w ∷ rest) v v' e = let same : w ≡ v = cc in (ap (λ (x : VecDeque NetLink Global). queue_of x.items) (sym same), refl)
goes_at_set (suc n) (w ∷ rest) v v' e = (queues_of (slice_set rest n v'), goes_at_set n rest v v' e, refl)

-- an address without a list
pub goes_to_none : (addr : Addr) (lists : List (Addr × VecDeque NetLink Global)) → IsPast addr lists (length lists) → GoesTo addr (queues_to lists) (queues_to lists) [] []
goes_to_none addr [] past = (refl, refl, refl)
goes_to_none addr (d ∷ rest) past = inr (past 0 (omega arith) d refl, (queues_to rest, goes_to_none addr rest (λ k lt x e. past (suc k) (omega (arith, lt)) x e), refl))

pub goes_to_set : (addr : Addr) (lists : List (Addr × VecDeque NetLink Global)) (at : ℕ) (d : Addr × VecDeque NetLink Global) (v' : VecDeque NetLink Global) → IsPlaceOf addr lists at → slice_get lists at ≡ Some d
    → GoesTo addr (queues_to lists) (queues_to (slice_set lists at (d.0, v'))) (queue_of d.1.items) (queue_of v'.items)
goes_to_set addr [] at d v' place e = absurd cc
goes_to_set addr (x ∷ rest) zero d v' place e =
    let same : x ≡ d = cc in
    inl (place.2 x refl, ap (λ (y : Addr × VecDeque NetLink Global). queue_of y.1.items) (sym same), ap (λ (y : Addr × VecDeque NetLink Global). (y.0, queue_of v'.items) ∷ queues_to rest) (sym same))
goes_to_set addr (x ∷ rest) (suc at) d v' place e =
    inr (place.0 0 (omega arith) x refl, (queues_to (slice_set rest at (d.0, v')), goes_to_set addr rest at d v' ((λ k lt y f. place.0 (suc k) (omega (arith, lt)) y f), omega (arith, place.1), place.2) e, refl))

-- The lanes that names have brought.
use Rattle.std.proofs.Common.{◌≡◌, refl, ap, sym, ◌∙◌, subst, List, [], ◌∷◌, ℕ, zero, suc, ◌+◌, ◌≤◌, ◌<◌, arith, length, Some, None, inl, inr, slice_get}
use Rattle.std.specs.Prelude.{⊤, slice_index_or, slice_set}
use Rattle.sp_lane.specs.LaneWires.{LaneWireView}
use Rattle.sp_lane.specs.Registry.{ListenerView, Registry, IsPast, IsUnlisted, Accepts}
use Rattle.sp_ends.specs.NameSteps.{HasBrought, Brings, AllBring, HasFewer}

-- ---- Registries one after another

pub fewer_none : (reg : Registry) → HasFewer reg reg
fewer_none [] = tt
fewer_none (l ∷ reg) = (refl, omega arith, fewer_none reg)

pub fewer_both : (a b c : Registry) → HasFewer a b → HasFewer b c → HasFewer a c
fewer_both [] [] [] f g = tt
fewer_both [] [] (z ∷ c) f g = absurd g
fewer_both [] (y ∷ b) c f g = absurd f
fewer_both (x ∷ a) [] c f g = absurd f
fewer_both (x ∷ a) (y ∷ b) [] f g = absurd g
fewer_both (x ∷ a) (y ∷ b) (z ∷ c) f g = (g.0 ∙ f.0, (let m = f.1 in let n = g.1 in omega (arith, m, n)), fewer_both a b c f.2 g.2)

fewer_set : (i : ℕ) (reg : Registry) (l : ListenerView) (rest : List LaneWireView) → i < length reg → ((d : ListenerView) → slice_index_or reg i d ≡ l) → length rest ≤ length l.halves → HasFewer reg (slice_set reg i (record l { halves = rest }))
fewer_set i [] l rest lt is le = absurd (omega (arith, lt))
fewer_set zero (x ∷ reg) l rest lt is le = (ap (λ (v : ListenerView). v.name) (sym (is x)), (let e : length x.halves ≡ length l.halves = ap (λ (v : ListenerView). length v.halves) (is x) in omega (arith, e, le)), fewer_none reg)
fewer_set (suc i) (x ∷ reg) l rest lt is le = (refl, omega arith, fewer_set i reg l rest (omega (arith, lt)) is le)

-- ---- One name

-- the first listener with the name brought n
abbrev pub BroughtSo : List ℕ → ℕ → Registry → Registry → Type 0
BroughtSo name n [] reg' = ⊤
BroughtSo name n (l ∷ reg) [] = ⊥
BroughtSo name n (l ∷ reg) (l' ∷ reg') = (l.name ≡ name → length l'.halves + n ≡ length l.halves) × ((l.name ≡ name → ⊥) → BroughtSo name n reg reg')

pub so_none : (name : List ℕ) (reg : Registry) → BroughtSo name 0 reg reg
so_none name [] = tt
so_none name (l ∷ reg) = (λ e. omega arith, λ ne. so_none name reg)

pub so_next : (name : List ℕ) (n : ℕ) (a b c : Registry) → HasFewer a b → BroughtSo name n a b → BroughtSo name 1 b c → BroughtSo name (n + 1) a c
so_next name n [] b c f x y = tt
so_next name n (l ∷ a) [] c f x y = absurd x
so_next name n (l ∷ a) (m ∷ b) [] f x y = absurd y
so_next name n (l ∷ a) (m ∷ b) (k ∷ c) f x y =
    (λ e. let p = x.0 e in let q = y.0 (f.0 ∙ e) in omega (arith, p, q), λ ne. so_next name n a b c f.2 (x.1 ne) (y.1 (λ e. ne (sym f.0 ∙ e))))

so_at : (i : ℕ) (reg : Registry) (name : List ℕ) (l : ListenerView) (w : LaneWireView) (rest : List LaneWireView) → IsPast name reg i → i < length reg → ((d : ListenerView) → slice_index_or reg i d ≡ l) → l.name ≡ name → l.halves ≡ w ∷ rest → BroughtSo name 1 reg (slice_set reg i (record l { halves = rest }))
so_at i [] name l w rest past lt is named halves = tt
so_at zero (x ∷ reg) name l w rest past lt is named halves =
    (λ e. let f : length x.halves ≡ length (w ∷ rest) = ap (λ (v : ListenerView). length v.halves) (is x) ∙ ap length halves in omega (arith, f), λ ne. absurd (ne (ap (λ (v : ListenerView). v.name) (is x) ∙ named)))
so_at (suc i) (x ∷ reg) name l w rest past lt is named halves =
    (λ e. absurd (past 0 x (omega arith) e), λ ne. so_at i reg name l w rest (λ j d less. past (suc j) d (omega (arith, less))) (omega (arith, lt)) is named halves)

pub so_one : (name : List ℕ) (w : LaneWireView) (reg reg' : Registry) → Accepts name (Some w) reg reg' → BroughtSo name 1 reg reg'
so_one name w reg reg' (i, l, rest, at, halves, is) = subst (λ (r : Registry). BroughtSo name 1 reg r) (sym is) (so_at i reg name l w rest at.first at.within at.is at.named halves)

pub fewer_one : (name : List ℕ) (w : LaneWireView) (reg reg' : Registry) → Accepts name (Some w) reg reg' → HasFewer reg reg'
fewer_one name w reg reg' (i, l, rest, at, halves, is) = subst (λ (r : Registry). HasFewer reg r) (sym is) (fewer_set i reg l rest at.within at.is (let e = ap length halves in omega (arith, e)))

-- the first listener of the name has none left
abbrev NoneLeft : List ℕ → Registry → Type 0
NoneLeft name [] = ⊤
NoneLeft name (l ∷ reg) = (l.name ≡ name → l.halves ≡ []) × ((l.name ≡ name → ⊥) → NoneLeft name reg)

none_unlisted : (name : List ℕ) (reg : Registry) → IsUnlisted name reg → NoneLeft name reg
none_unlisted name [] u = tt
none_unlisted name (x ∷ reg) u = (λ e. absurd (u 0 x (omega arith) e), λ ne. none_unlisted name reg (λ j d less. u (suc j) d (omega (arith, less))))

none_at : (i : ℕ) (reg : Registry) (name : List ℕ) (l : ListenerView) → IsPast name reg i → i < length reg → ((d : ListenerView) → slice_index_or reg i d ≡ l) → l.name ≡ name → l.halves ≡ [] → NoneLeft name reg
none_at i [] name l past lt is named halves = tt
none_at zero (x ∷ reg) name l past lt is named halves = (λ e. ap (λ (v : ListenerView). v.halves) (is x) ∙ halves, λ ne. absurd (ne (ap (λ (v : ListenerView). v.name) (is x) ∙ named)))
none_at (suc i) (x ∷ reg) name l past lt is named halves = (λ e. absurd (past 0 x (omega arith) e), λ ne. none_at i reg name l (λ j d less. past (suc j) d (omega (arith, less))) (omega (arith, lt)) is named halves)

brings_empty : (name : List ℕ) (a b : Registry) → HasFewer a b → NoneLeft name b → Brings name a b
brings_empty name [] b f x = tt
brings_empty name (l ∷ a) [] f x = absurd f
brings_empty name (l ∷ a) (m ∷ b) f x = (λ e. inl (x.0 (f.0 ∙ e)), λ ne. brings_empty name a b f.2 (x.1 (λ e. ne (sym f.0 ∙ e))))

-- it had none left
pub brings_none : (name : List ℕ) (a b c : Registry) → HasFewer a b → Accepts name None b c → Brings name a c
brings_none name a b c f (inl u, is) = subst (λ (r : Registry). Brings name a r) (sym is) (brings_empty name a b f (none_unlisted name b u))
brings_none name a b c f (inr (i, l, at, halves), is) = subst (λ (r : Registry). Brings name a r) (sym is) (brings_empty name a b f (none_at i b name l at.first at.within at.is at.named halves))

-- it brought 16
pub brings_full : (name : List ℕ) (n : ℕ) (a b : Registry) → 16 ≤ n → BroughtSo name n a b → Brings name a b
brings_full name n [] b le x = tt
brings_full name n (l ∷ a) [] le x = absurd x
brings_full name n (l ∷ a) (m ∷ b) le x = (λ e. inr (let p = x.0 e in omega (arith, p, le)), λ ne. brings_full name n a b le (x.1 ne))

-- and later fewer are left
pub brings_later : (name : List ℕ) (a b c : Registry) → HasFewer b c → Brings name a b → Brings name a c
brings_later name [] b c g x = tt
brings_later name (l ∷ a) [] c g x = absurd x
brings_later name (l ∷ a) (m ∷ b) [] g x = absurd g
brings_later name (l ∷ a) (m ∷ b) (k ∷ c) g x = (λ e. go (x.0 e), λ ne. brings_later name a b c g.2 (x.1 ne))
  where
    none : (ws : List LaneWireView) → length ws ≤ 0 → ws ≡ []
    none [] le = refl
    none (w ∷ ws) le = absurd (omega (arith, le))

    go : HasBrought l m → HasBrought l k
    go (inl e) = inl (none k.halves (let z = ap length e in let n = g.1 in omega (arith, z, n)))
    go (inr p) = inr (let n = g.1 in omega (arith, p, n))

-- there were as many before, or more
pub brings_before : (name : List ℕ) (a b c : Registry) → HasFewer a b → Brings name b c → Brings name a c
brings_before name [] [] c f x = tt
brings_before name [] (m ∷ b) c f x = absurd f
brings_before name (l ∷ a) [] c f x = absurd f
brings_before name (l ∷ a) (m ∷ b) [] f x = absurd x
brings_before name (l ∷ a) (m ∷ b) (k ∷ c) f x = (λ e. go (x.0 (f.0 ∙ e)), λ ne. brings_before name a b c f.2 (x.1 (λ e. ne (sym f.0 ∙ e))))
  where
    go : HasBrought m k → HasBrought l k
    go (inl e) = inl e
    go (inr p) = inr (let n = f.1 in omega (arith, p, n))

-- ---- All names

-- the first i names brought their lanes
abbrev pub BringTo : ℕ → List (List ℕ) → Registry → Registry → Type 0
BringTo zero ns a b = ⊤
BringTo (suc i) [] a b = ⊤
BringTo (suc i) (name ∷ ns) a b = Brings name a b × BringTo i ns a b

pub to_later : (i : ℕ) (ns : List (List ℕ)) (a b c : Registry) → HasFewer b c → BringTo i ns a b → BringTo i ns a c
to_later zero ns a b c g x = tt
to_later (suc i) [] a b c g x = tt
to_later (suc i) (name ∷ ns) a b c g x = (brings_later name a b c g x.0, to_later i ns a b c g x.1)

pub to_next : (i : ℕ) (ns : List (List ℕ)) (name : List ℕ) (a b : Registry) → BringTo i ns a b → slice_get ns i ≡ Some name → Brings name a b → BringTo (suc i) ns a b
to_next i [] name a b x at y = tt
to_next zero (n ∷ ns) name a b x at y = let same : n ≡ name = cc in (subst (λ (m : List ℕ). Brings m a b) (sym same) y, tt)
to_next (suc i) (n ∷ ns) name a b x at y = (x.0, to_next i ns name a b x.1 at y)

pub to_all : (i : ℕ) (ns : List (List ℕ)) (a b : Registry) → length ns ≤ i → BringTo i ns a b → AllBring ns a b
to_all zero [] a b le x = tt
to_all zero (n ∷ ns) a b le x = absurd (omega (arith, le))
to_all (suc i) [] a b le x = tt
to_all (suc i) (n ∷ ns) a b le x = (x.0, to_all i ns a b (omega (arith, le)) x.1)

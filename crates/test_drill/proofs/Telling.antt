-- What the end of a lane can't return after the other end's calls.
use Rattle.std.proofs.Common.{◌≡◌, ◌+◌, ◌<◌, ℕ, List, [], ◌∷◌, ◌++◌, length, ap, ◌∙◌, subst, arith, length-append}
use Rattle.sp_lane.specs.declared.item.LaneItem.{LaneItem}
use Rattle.sp_base.specs.Outside.{IsPrefix}
use Rattle.sp_lane.specs.Lanes.{InView, OutView, DidPut, FoundFull, FoundEmpty}

prefix_length : (prefix all : List LaneItem) (p : IsPrefix prefix all) → length all ≡ length prefix + length p.0
prefix_length prefix all p = ap length p.1 ∙ length-append prefix p.0

-- it isn't full where there is room
pub has_room : (old mid : InView) (taken : List LaneItem) → mid ≡ record old { seen_taken = taken } → length old.put < length taken + old.cap → FoundFull mid → ⊥
has_room old mid taken e room found =
    let f = subst FoundFull e found in
    omega (arith, room, ap length f.is, length-append f.taken f.held, f.full, prefix_length taken f.taken f.later)

-- it isn't empty where something is left
pub has_left : (old mid : OutView) (put : List LaneItem) → mid ≡ record old { seen_put = put } → length old.taken < length put → FoundEmpty mid → ⊥
has_left old mid put e left found =
    let f = subst FoundEmpty e found in
    omega (arith, left, prefix_length put old.taken f)

-- what was put last is left
pub one_left : (old mid new : InView) (out told : OutView) (x : LaneItem) → mid ≡ record old { seen_taken = out.taken } → told ≡ record out { seen_put = old.put } → IsPrefix out.taken old.put → DidPut x mid new → length told.taken < length new.put
one_left old mid new out told x e f p did =
    omega (arith, ap (λ (v : OutView). length v.taken) f, ap (λ (v : InView). length v.put) did.is, length-append mid.put (x ∷ []), ap (λ (v : InView). length v.put) e, prefix_length out.taken old.put p)

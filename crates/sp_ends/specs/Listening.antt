-- Which listener brought each link that is being opened, and how many each listener has.
use Rattle.std.specs.Prelude.{◌≡◌, ◌≤◌, ◌<◌, ◌+◌, ◌*◌, ◌-◌, ◌==◌, ◌++◌, ◌⊎◌, min, nat_le, nat_lt, ℕ, zero, suc, ⊤, Bool, false, if◌then◌else◌, List, [], ◌∷◌, length, get_or, Option, Some, None}
use Rattle.std.specs.List.{AllByRecursion}
use Rattle.sp_ends.specs.declared.newcomer.Newcomer.{Newcomer}
use Rattle.sp_ends.specs.EndViews.{LinkEndsView}

-- ---- Whose link it is

abbrev pub is_from : ℕ → Option ℕ → Bool
is_from i None = false
is_from i (Some j) = j == i

abbrev pub one_from : ℕ → Option ℕ → ℕ
one_from i from = if is_from i from then 1 else 0

-- how many of these links the listener at this place of the list brought
abbrev pub own_of : {L : Type 0} → ℕ → List (Newcomer L) → ℕ
own_of i [] = 0
own_of i (n ∷ ns) = own_of i ns + one_from i n.from

-- the number that were dialed
abbrev pub one_dialed : Option ℕ → ℕ
one_dialed None = 1
one_dialed (Some i) = 0

abbrev pub dialed_of : {L : Type 0} → List (Newcomer L) → ℕ
dialed_of [] = 0
dialed_of (n ∷ ns) = dialed_of ns + one_dialed n.from

-- it is of one of the listeners, or was dialed
abbrev pub IsFromOne : ℕ → Option ℕ → Type 0
IsFromOne listeners None = ⊤
IsFromOne listeners (Some i) = i < listeners

-- the same, except for one of this listener that may come after them
abbrev pub KeepsFrom : {L : Type 0} → Option ℕ → List (Newcomer L) → List (Newcomer L) → Type 0
KeepsFrom {L} from old new = (new ≡ old) ⊎ ((n : Newcomer L) × (n.from ≡ from) × (new ≡ old ++ n ∷ []))

-- each listener has the same number of them
abbrev pub KeepsOwn : {L : Type 0} → List (Newcomer L) → List (Newcomer L) → Type 0
KeepsOwn old new = (i : ℕ) → own_of i new ≡ own_of i old

-- no listener has more, and no more were dialed
pub record FewerOwn {L : Type 0} (old new : List (Newcomer L)) : Type 0 where
  pub own : (i : ℕ) → own_of i new ≤ own_of i old
  pub dialed : dialed_of new ≤ dialed_of old

-- ---- What is kept

-- the number of links that there is room for with this many listeners: 256 of each, and 64 that were dialed
abbrev pub room_for : ℕ → ℕ
room_for listeners = listeners * 256 + 64

-- each listener's are counted, and there is room for all
pub record AreCounted {L : Type 0} (counts : List ℕ) (listeners : ℕ) (ns : List (Newcomer L)) (capacity : ℕ) : Type 0 where
  pub lengths : length counts ≡ listeners
  pub counted : (i : ℕ) → i < length counts → get_or counts i 0 ≡ own_of i ns
  pub within : AllByRecursion (λ (n : Newcomer L). IsFromOne listeners n.from) ns
  pub few : length ns ≤ room_for listeners
  pub room : room_for listeners ≤ capacity

-- the first was taken out, or there is none
abbrev pub LeavesFirst : {L : Type 0} → Option (Newcomer L) → LinkEndsView L → LinkEndsView L → Type 0
LeavesFirst None old new = (old.newcomers ≡ []) × (new ≡ old)
LeavesFirst (Some n) old new =
    (old.newcomers ≡ n ∷ new.newcomers) × (new ≡ record old { newcomers = new.newcomers }) × IsFromOne (length old.listeners) n.from × (length new.newcomers < room_for (length old.listeners))

-- ---- What may be asked

-- the listener has fewer than 256
abbrev pub one_open : {L : Type 0} → ℕ → List (Newcomer L) → ℕ
one_open i ns = if nat_lt (own_of i ns) 256 then 1 else 0

-- the number of the first listeners that have fewer than 256
abbrev pub open_of : {L : Type 0} → ℕ → List (Newcomer L) → ℕ
open_of zero ns = 0
open_of (suc i) ns = open_of i ns + one_open i ns

-- how often the listener is asked in a turn in which `handed` links are handed out: until it has no link, fails or has
-- brought 16; unless it has 256 before that
abbrev pub asks_one : {L : Type 0} → ℕ → ℕ → List (Newcomer L) → ℕ
asks_one i handed ns = if nat_le 256 (own_of i ns + handed) then min 16 (256 - own_of i ns) else 16

-- how often the first listeners are asked in all
abbrev pub asks_to : {L : Type 0} → ℕ → ℕ → List (Newcomer L) → ℕ
asks_to zero handed ns = 0
asks_to (suc i) handed ns = asks_to i handed ns + asks_one i handed ns

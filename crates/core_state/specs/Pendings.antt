-- The pending operations of a core.
use Rattle.std.specs.Prelude.{◌≡◌, ◌≢◌, ◌⊎◌, ◌<◌, ◌≤◌, ◌+◌, ◌%◌, ◌==◌, ◌&&◌, ℕ, Bool, if◌then◌else◌, Option, Some, None, List, [], ◌∷◌, map, filter, not, length, slice_index_or, MatchOption}
use Rattle.sp_base.specs.declared.OpName.{OpName}
use Rattle.core_state.specs.declared.pending.PendingOperation.{PendingOperation}
use Rattle.core_state.specs.declared.rings.Rings.{Rings}
use Rattle.core_state.specs.Rings.{IsPath, walk}

-- what contracts see of them: the slots are the numbers below `slots`, and the operations are in the order of their
-- begins
pub record PendingView : Type 0 where
  pub slots : ℕ
  pub items : List PendingOperation

-- the operation has this name
abbrev pub is_named : OpName → PendingOperation → Bool
is_named op x = (x.op.slot == op.slot) && (x.op.generation == op.generation)

abbrev pub slot_of : PendingOperation → ℕ
slot_of x = x.op.slot

-- the bucket of the context
abbrev pub bucket_of : ℕ → ℕ → ℕ
bucket_of slots c = c % slots

-- those of a bucket
abbrev pub in_bucket : ℕ → ℕ → List PendingOperation → List PendingOperation
in_bucket slots n xs = filter (λ x. bucket_of slots x.ctx == n) xs

abbrev pub first_of : List PendingOperation → Option PendingOperation
first_of [] = None
first_of (x ∷ xs) = Some x

-- the one after the operation
abbrev pub behind : OpName → List PendingOperation → Option PendingOperation
behind op [] = None
behind op (x ∷ xs) = if is_named op x then first_of xs else behind op xs

-- one of this name is there
abbrev pub IsAmong : PendingOperation → List PendingOperation → Type 0
IsAmong x [] = ⊥
IsAmong x (y ∷ ys) = (y ≡ x) ⊎ IsAmong x ys

-- the operation and those after it
abbrev pub from_on : OpName → List PendingOperation → List PendingOperation
from_on op [] = []
from_on op (x ∷ xs) = if is_named op x then x ∷ xs else from_on op xs

-- what is left of a bucket, from the next one on
abbrev pub left_of : Option PendingOperation → List PendingOperation → List PendingOperation
left_of None xs = []
left_of (Some x) xs = from_on x.op xs

-- the next one, if any, is in the bucket
abbrev pub IsNextIn : Option PendingOperation → List PendingOperation → Type 0
IsNextIn None xs = Unit {0}
IsNextIn (Some x) xs = IsAmong x xs

-- those that are left when the operation is taken out
abbrev pub others_than : OpName → List PendingOperation → List PendingOperation
others_than op xs = filter (λ x. not (is_named op x)) xs

-- an operation of the context is there, or none is
abbrev pub FindsOn : Option OpName → ℕ → List PendingOperation → Type 0
FindsOn r c xs = MatchOption r ((x : PendingOperation) → IsAmong x xs → x.ctx ≢ c) (λ op. (x : PendingOperation) × IsAmong x xs × (x.op ≡ op) × (x.ctx ≡ c))

-- ---- How they are kept

abbrev pub IsIn : ℕ → List ℕ → Type 0
IsIn i [] = ⊥
IsIn i (x ∷ xs) = (x ≡ i) ⊎ IsIn i xs

abbrev pub NotIn : ℕ → List ℕ → Type 0
NotIn i [] = Unit {0}
NotIn i (x ∷ xs) = (x ≢ i) × NotIn i xs

-- no number occurs twice
abbrev pub Differ : List ℕ → Type 0
Differ [] = Unit {0}
Differ (x ∷ xs) = NotIn x xs × Differ xs

-- what is at the slot's place
abbrev pub place_at : List (Option PendingOperation) → ℕ → Option PendingOperation
place_at places slot = slice_index_or places slot None

-- each is at its slot's place
abbrev pub ArePlaced : ℕ → List (Option PendingOperation) → List PendingOperation → Type 0
ArePlaced slots places [] = Unit {0}
ArePlaced slots places (x ∷ xs) = (x.op.slot < slots) × (place_at places x.op.slot ≡ Some x) × ArePlaced slots places xs

abbrev pub with_one : Option PendingOperation → List PendingOperation → List PendingOperation
with_one None xs = xs
with_one (Some x) xs = x ∷ xs

-- what is at these places
abbrev pub placed : List (Option PendingOperation) → List ℕ → List PendingOperation
placed places [] = []
placed places (i ∷ is) = with_one (place_at places i) (placed places is)

-- all of them, the oldest first
abbrev pub shown : ℕ → List (Option PendingOperation) → Rings → List PendingOperation
shown slots places order = placed places (walk order.after.items slots slots slots)

-- these are kept, in rings: all of them in one, and each bucket in one of its own
pub record Keeps (slots : ℕ) (places : List (Option PendingOperation)) (order buckets : Rings) (items : List PendingOperation) : Type 0 where
  pub some : 0 < slots
  pub few : slots ≤ 4096
  pub count : length items ≤ slots
  pub differ : Differ (map slot_of items)
  pub are_placed : ArePlaced slots places items
  pub in_order : IsPath order.after.items order.before.items slots (map slot_of items) slots
  pub in_buckets : (n : ℕ) → n < slots → IsPath buckets.after.items buckets.before.items (slots + n) (map slot_of (in_bucket slots n items)) (slots + n)
  pub place_count : length places ≡ slots
  pub order_after : length order.after.items ≡ slots + 1
  pub order_before : length order.before.items ≡ slots + 1
  pub buckets_after : length buckets.after.items ≡ slots + slots
  pub buckets_before : length buckets.before.items ≡ slots + slots

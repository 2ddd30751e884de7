-- Lists of slots in buckets, and the links that keep them.
use Rattle.std.specs.Prelude.{Bool, ◌≡◌, ℕ, zero, suc, ◌+◌, ◌<◌, ◌≤◌, ◌==◌, nat_lt, cond, List, [], ◌∷◌, Option, None, length, map, drop, slice_index, slice_index_or, slice_get}

-- the slots are the numbers below `slots`; the lists are numbered from 0
pub record Buckets : Type 0 where
  pub slots : ℕ
  pub lists : List (List ℕ)

abbrev pub list_at : ℕ → List (List ℕ) → List ℕ
list_at bucket lists = slice_index_or lists bucket []

-- 1 where the test holds
abbrev pub one_if : Bool → ℕ
one_if b = cond b 1 0

-- how often the list has the slot
abbrev pub count_in : ℕ → List ℕ → ℕ
count_in slot [] = 0
count_in slot (x ∷ xs) = one_if (x == slot) + count_in slot xs

-- the list without the slot
abbrev pub but : ℕ → List ℕ → List ℕ
but slot [] = []
but slot (x ∷ xs) = cond (x == slot) (but slot xs) (x ∷ but slot xs)

-- the slot that follows it
abbrev pub after : ℕ → List ℕ → Option ℕ
after slot [] = None
after slot (x ∷ xs) = cond (x == slot) (slice_get xs 0) (after slot xs)

-- the list with the slot put at the front, in the bucket that it joins
abbrev pub joined_at : ℕ → ℕ → ℕ → List ℕ → List ℕ
joined_at slot bucket b xs = cond (b == bucket) (slot ∷ xs) xs

-- the slot is in a list
abbrev pub IsListed : ℕ → List (List ℕ) → Type 0
IsListed slot lists = (b : ℕ) × (b < 513) × (0 < count_in slot (list_at b lists))

-- ---- How the links keep them

-- The slots that the links lead over from one on, at most as many as the first number says. A number that isn't a slot
-- ends them.
abbrev pub walk : ℕ → List ℕ → ℕ → ℕ → List ℕ
walk zero next slots i = []
walk (suc k) next slots i = cond (nat_lt i slots) (i ∷ walk k next slots (slice_index next i)) []

-- the slots of the ring of a head
abbrev pub ring : List ℕ → ℕ → ℕ → List ℕ
ring next slots head = walk slots next slots (slice_index next head)

-- The links lead from one place over the slots to the head, and back.
abbrev pub Links : (next prev : List ℕ) (slots head from : ℕ) → List ℕ → Type 0
Links next prev slots head from [] = (slice_index next from ≡ head) × (slice_index prev head ≡ from)
Links next prev slots head from (x ∷ xs) = (slice_index next from ≡ x) × (x < slots) × (slice_index prev x ≡ from) × Links next prev slots head x xs

-- After the slots there are 513 heads, each with a ring of its own. No slot is in two places.
pub record AreRings (slots : ℕ) (next prev : List ℕ) : Type 0 where
  pub next_length : length next ≡ slots + 513
  pub prev_length : length prev ≡ slots + 513
  pub linked : (b : ℕ) → b < 513 → Links next prev slots (slots + b) (slots + b) (ring next slots (slots + b))
  pub once : (slot b : ℕ) → b < 513 → count_in slot (ring next slots (slots + b)) ≤ 1
  pub apart : (slot b c : ℕ) → b < 513 → c < 513 → (b ≡ c → ⊥) → count_in slot (ring next slots (slots + b)) + count_in slot (ring next slots (slots + c)) ≤ 1

-- the lists of the heads' rings
abbrev pub rings : ℕ → List ℕ → List (List ℕ)
rings slots next = map (walk slots next slots) (drop slots next)

-- Operations that wait.
use Rattle.std.specs.Prelude.{◌≡◌, ◌≤◌, ℕ, ◌==◌, ◌&&◌, Bool, true, false, not, if◌then◌else◌, List, take, filter, find, length, Option, Some, None}
use Rattle.std.specs.List.{list_any}
use Rattle.std.specs.Option.{option_map}
use Rattle.sp_base.specs.declared.OpName.{OpName}
use Rattle.sp_history.specs.Lists.{same_op}
use Rattle.proto_requests.specs.Backlogs.{IsIndexed}
use Rattle.proto_requests.specs.Hints.{HintsView, covers_by}
use Rattle.proto_requests.specs.Numbers.{is_known}
use Rattle.proto_requests.specs.Spots.{holds, held}
use Rattle.proto_requests.specs.declared.spots.Spot.{Spot}

-- the operations, in the order of their begins, and how many more there is room for
pub record WaitsView (A : Type 0) : Type 0 where
  pub items : List A
  pub room : ℕ

-- it has this name
abbrev pub is_named : {A : Type 0} → (A → OpName) → OpName → A → Bool
is_named name op x = same_op (name x) op

abbrev pub slot_of : {A : Type 0} → (A → OpName) → A → ℕ
slot_of name x = (name x).slot

abbrev pub isnt : {A : Type 0} → (A → Bool) → A → Bool
isnt P x = not (P x)

-- a send whose request has not ended
abbrev pub is_open : {A : Type 0} → (A → Bool) → (A → Bool) → A → Bool
is_open sends is_left x = sends x && not (is_left x)

-- a send whose request has not ended, or a receive
abbrev pub is_kind : {A : Type 0} → (A → Bool) → (A → Bool) → Bool → A → Bool
is_kind sends is_left true x = is_open sends is_left x
is_kind sends is_left false x = isnt sends x

-- the same, on the context
abbrev pub is_kind_on : {A : Type 0} → (A → Bool) → (A → Bool) → (A → ℕ) → Bool → ℕ → A → Bool
is_kind_on sends is_left context send c x = is_kind sends is_left send x && (context x == c)

-- a receive on the context
abbrev pub receives_on : {A : Type 0} → (A → Bool) → (A → ℕ) → ℕ → A → Bool
receives_on sends context c x = not (sends x) && (context x == c)

-- its request has ended, if it is of this context
abbrev pub left_on : {A : Type 0} → (A → ℕ) → (A → A) → ℕ → A → A
left_on context left c x = if c == context x then left x else x

abbrev pub left_spot : {A : Type 0} → (A → ℕ) → (A → A) → ℕ → Spot A → Spot A
left_spot context left c s = record { number = s.number; value = option_map (left_on context left c) s.value }

-- the name of the one that was found, if its request has ended
abbrev pub over_name : {A : Type 0} → (A → OpName) → (A → Bool) → Option A → Option OpName
over_name name is_left None = None
over_name name is_left (Some x) = if is_left x then Some (name x) else None

-- the operation of this name is among them, and its request has ended
abbrev pub IsOver : {A : Type 0} → (A → OpName) → (A → Bool) → List A → OpName → Type 0
IsOver {A} name is_left xs op = (P : A → Bool) × (x : A) × (find P xs ≡ Some x) × (is_left x ≡ true) × (name x ≡ op)

-- its request has ended, and it is not among those that are to be looked at
abbrev pub is_overlooked : {A : Type 0} → (A → OpName) → (A → Bool) → HintsView OpName → A → Bool
is_overlooked name is_left h x = is_left x && not (covers_by h (same_op (name x)))

-- each whose request has ended is among those that are to be looked at
abbrev pub AreLookedAt : {A : Type 0} → (A → OpName) → (A → Bool) → HintsView OpName → List (Spot A) → Type 0
AreLookedAt name is_left h ss = list_any (is_overlooked name is_left h) (held ss) ≡ false

-- none that passes the test is before this spot
pub record IsMark {A : Type 0} (P : A → Bool) (from : ℕ) (ss : List (Spot A)) : Type 0 where
  pub bound : from ≤ length ss
  pub none : list_any (holds P) (take from ss) ≡ false

-- No two have the same slot, no two receives the same context, no two open sends the same context, and these are known,
-- where the flags say so. No send is before one spot, no receive before the other. Those whose requests have ended are
-- to be looked at.
pub record AreNoted {A : Type 0} (name : A → OpName) (context : A → ℕ) (sends : A → Bool) (is_left : A → Bool) (slots_known : Bool) (slots : List (ℕ × ℕ)) (receives_known : Bool) (receives : List (ℕ × ℕ)) (sends_known : Bool) (opens : List (ℕ × ℕ)) (send_from receive_from : ℕ) (ended : HintsView OpName) (ss : List (Spot A)) : Type 0 where
  pub by_slot : slots_known ≡ true → IsIndexed (slot_of name) (is_known slots) (held ss)
  pub by_receive : receives_known ≡ true → IsIndexed context (is_known receives) (filter (isnt sends) (held ss))
  pub by_send : sends_known ≡ true → IsIndexed context (is_known opens) (filter (is_open sends is_left) (held ss))
  pub send : IsMark sends send_from ss
  pub receive : IsMark (isnt sends) receive_from ss
  pub left : AreLookedAt name is_left ended ss

-- no two receives are of the same context, nor two open sends, and these contexts are known
abbrev pub AreApartOn : {A : Type 0} → (A → ℕ) → (A → Bool) → (A → Bool) → List (ℕ × ℕ) → List (ℕ × ℕ) → List (Spot A) → Type 0
AreApartOn context sends is_left receives opens ss =
    IsIndexed context (is_known receives) (filter (isnt sends) (held ss)) × IsIndexed context (is_known opens) (filter (is_open sends is_left) (held ss))

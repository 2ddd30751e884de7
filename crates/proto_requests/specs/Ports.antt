-- The pipes that a machine knows as up, and those that it found full.
use Rattle.std.specs.Prelude.{◌≡◌, ◌<◌, ◌≤◌, ℕ, ◌+◌, ◌^◌, ◌==◌, ◌&&◌, ◌||◌, nat_lt, nat_le, Bool, true, false, not, ⊤, if◌then◌else◌, List, [], ◌∷◌, map, find, Option, Some, None}
use Rattle.sp_history.specs.Lists.{has}
use Rattle.proto_requests.specs.declared.ports.Destination.{Destination}
use Rattle.proto_requests.specs.declared.ports.Destination.TheVariants as ways

-- a pipe that is up, and whether it was found full in this turn
pub record PortView : Type 0 where
  pub pipe : ℕ
  pub is_full : Bool

-- the pipes that are up
pub record PortsView : Type 0 where
  pub items : List PortView

-- a pipe that is up, full or not as the function says
abbrev pub port_of : (ℕ → Bool) → ℕ → PortView
port_of full p = record { pipe = p; is_full = full p }

-- with this pipe found full
abbrev pub marked : ℕ → PortView → PortView
marked p x = record { pipe = x.pipe; is_full = (p == x.pipe) || x.is_full }

abbrev pub cleared : PortView → PortView
cleared x = record { pipe = x.pipe; is_full = false }

abbrev pub is_pipe : ℕ → PortView → Bool
is_pipe p x = x.pipe == p

abbrev pub is_free : PortView → Bool
is_free x = not x.is_full

-- the first, or else the second
abbrev pub or_else : {A : Type 0} → Option A → Option A → Option A
or_else None y = y
or_else (Some x) y = Some x

-- the first of the pipes that is free and after this number, or else the first that is free
abbrev pub next_number : (ℕ → Bool) → ℕ → List ℕ → Option ℕ
next_number free last us = or_else (find (λ q. free q && nat_lt last q) us) (find free us)

abbrev pub is_free_behind : ℕ → PortView → Bool
is_free_behind last x = is_free x && nat_lt last x.pipe

abbrev pub is_free_at : ℕ → PortView → Bool
is_free_at from x = not (nat_lt x.pipe from) && is_free x

abbrev pub next_port : ℕ → List PortView → Option PortView
next_port last xs = or_else (find (is_free_behind last) xs) (find is_free xs)

-- the number of pipes that are not full
abbrev pub free_count : List PortView → ℕ
free_count [] = 0
free_count (x ∷ xs) = if x.is_full then free_count xs else free_count xs + 1

abbrev pub way_at : ℕ → Option PortView → Destination
way_at p None = ways.Nowhere
way_at p (Some x) = if x.is_full then ways.Full else ways.To p

-- whether what goes only to this pipe can go
abbrev pub where_is : List PortView → Option ℕ → Destination
where_is xs None = ways.Nowhere
where_is xs (Some p) = way_at p (find (is_pipe p) xs)

-- the pipes that are up, those of them that are full, and none above the last one that came up
pub record Knows (ps : List PortView) (us : List ℕ) (last : ℕ) (full : ℕ → Bool) : Type 0 where
  pub ports : ps ≡ map (port_of full) us
  pub known : (q : ℕ) → has us q ≡ true → q ≤ last
  pub unmet : (q : ℕ) → last < q → full q ≡ false

-- ---- As they are held: the number of each, and the turn in which it was last found full

abbrev pub number : ℕ × ℕ → ℕ
number x = x.0

abbrev pub is_full_in : ℕ → ℕ × ℕ → Bool
is_full_in turn x = x.1 == turn

-- as it is in this turn
abbrev pub port_in : ℕ → ℕ × ℕ → PortView
port_in turn x = record { pipe = x.0; is_full = is_full_in turn x }

-- its number is below this one
abbrev pub is_under : ℕ → ℕ × ℕ → Bool
is_under p x = nat_lt x.0 p

abbrev pub is_below : ℕ → PortView → Bool
is_below p x = nat_lt x.pipe p

abbrev pub is_open : ℕ → ℕ × ℕ → Bool
is_open turn x = not (is_full_in turn x)

-- it is not full, and its number is not below this one
abbrev pub is_free_from : ℕ → ℕ → ℕ × ℕ → Bool
is_free_from turn from x = not (nat_lt x.0 from) && is_open turn x

abbrev pub unmarked : ℕ × ℕ → ℕ × ℕ
unmarked x = (x.0, 0)

-- where all from the number up to another one are known to be full, that one
abbrev pub begin_at : Option ℕ → ℕ → ℕ
begin_at None from = from
begin_at (Some to) from = if nat_le from to then to else from

abbrev pub reached : Option ℕ → ℕ
reached None = 2 ^ 32
reached (Some p) = p

-- each number is one of a pipe
abbrev pub AreNumbers : List (ℕ × ℕ) → Type 0
AreNumbers [] = ⊤
AreNumbers (x ∷ xs) = (x.0 < 2 ^ 32) × AreNumbers xs

-- none was found full in a later turn
abbrev pub AreUpTo : ℕ → List (ℕ × ℕ) → Type 0
AreUpTo turn [] = ⊤
AreUpTo turn (x ∷ xs) = (x.1 ≤ turn) × AreUpTo turn xs

-- each with a number from one up to the other is full
abbrev pub AreFull : ℕ → ℕ → ℕ → List (ℕ × ℕ) → Type 0
AreFull turn from to [] = ⊤
AreFull turn from to (x ∷ xs) = (from ≤ x.0 → x.0 < to → is_full_in turn x ≡ true) × AreFull turn from to xs

-- each stretch that was skipped: from its number on, up to the other, all are full
abbrev pub AllPassed : ℕ → List (ℕ × ℕ) → List (ℕ × ℕ) → Type 0
AllPassed turn [] xs = ⊤
AllPassed turn (e ∷ es) xs = AreFull turn e.0 e.1 xs × AllPassed turn es xs

-- what a machine knows of them between two calls
pub record AreKnown (turn : ℕ) (es : List (ℕ × ℕ)) (xs : List (ℕ × ℕ)) : Type 0 where
  pub numbers : AreNumbers xs
  pub turns : AreUpTo turn xs
  pub begun : 1 ≤ turn
  pub passed : AllPassed turn es xs

-- Moments at which a dialer may try.
use Rattle.std.specs.Prelude.{◌≤◌, ◌^◌, ℕ, Bool, false, Option, Some, None, ◌-◌, if◌then◌else◌, nat_le, ◌&&◌, is_none}
use Rattle.sp_history.specs.Past.{now}
use Rattle.sp_ends.specs.declared.dialer.Dialer.{Dialer}

-- the moment, where it is below 2^64; there is no later tick
abbrev pub moment : ℕ → Option ℕ
moment n = if nat_le n (2 ^ 64 - 1) then Some n else None

-- it has come
abbrev pub IsDueAt : Option ℕ → ℕ → Type 0
IsDueAt None now = ⊥
IsDueAt (Some next) now = next ≤ now

-- the dialer has no link, and its moment has come
abbrev pub is_due_at : Option ℕ → ℕ → Bool
is_due_at None now = false
is_due_at (Some next) now = nat_le next now

abbrev pub is_due : ℕ → Dialer → Bool
is_due now d = is_none d.place && is_due_at d.next now

-- When an address is dialed.
use Rattle.std.specs.Prelude.{◌≡◌, ◌≤◌, ◌<◌, ◌+◌, ◌^◌, ℕ, true, List, [], ◌∷◌, length, Option, Some, None, if◌then◌else◌, nat_le}
use Rattle.sp_base.specs.Addresses.{is_dialable}
use Rattle.sp_history.specs.declared.entry.Entry.{Entry}
use Rattle.sp_ends.specs.LinkCounts.{spaced_from}
use Rattle.sp_history.specs.Found.{ticks}
use Rattle.sp_ends.specs.declared.dialer.Dialer.{Dialer}
use Rattle.sp_base.specs.declared.addr.Addr.{Addr}
use Rattle.sp_ends.specs.DialMoments.{IsDueAt}

-- from this moment on the next try may come, after tries at the first tick from `from` on, and then at each that is at
-- least 100 above the one before
abbrev pub next_from : ℕ → List ℕ → ℕ
next_from from [] = from
next_from from (t ∷ ts) = if nat_le from t then next_from (t + 100) ts else next_from from ts

-- a link to it can be asked for
abbrev pub IsDialable : Addr → Type 0
IsDialable addr = is_dialable addr ≡ true

-- the last of these ticks, or this number
abbrev pub last_of : ℕ → List ℕ → ℕ
last_of t [] = t
last_of t (u ∷ us) = last_of u us

-- it may be dialed at each tick from this number on
abbrev pub IsDueFrom : ℕ → Option ℕ → Type 0
IsDueFrom n next = (t : ℕ) → n ≤ t → t < 2 ^ 64 → IsDueAt next t

-- The address can be dialed. As long as no link was handed out, it was dialed at least as often as at the first tick and then
-- at each that is at least 100 above the one before; and it was dialed at the first tick
pub record IsDialed (same : Type 0) (past : List Entry) (d : Dialer) : Type 0 where
  pub dialable : IsDialable d.addr
  pub free : same → d.place ≡ None
  -- it may be dialed 100 after the last tick, and where it was dialed no more often than that, at the next of those
  pub soon : same → IsDueFrom (last_of 0 (ticks past) + 100) d.next
  pub next : same → length (ticks past) < 2 ^ 64 → d.tries ≤ length (spaced_from 0 (ticks past)) → IsDueFrom (next_from 0 (ticks past)) d.next
  pub tries : same → length (ticks past) < 2 ^ 64 → length (spaced_from 0 (ticks past)) ≤ d.tries
  -- before the first tick it is free, and may be dialed at once
  pub begun : ticks past ≡ [] → (d.place ≡ None) × (d.next ≡ Some 0)
  pub once : 0 < length (ticks past) → 1 ≤ d.tries

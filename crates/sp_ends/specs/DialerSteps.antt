-- What becomes of a dialer that is dialed, and of one whose link comes back.
use Rattle.std.specs.Prelude.{◌≡◌, ◌+◌, ◌-◌, ◌^◌, min, ℕ, Option, Some, None}
use Rattle.sp_base.specs.Views.{LinkView}
use Rattle.sp_base.specs.declared.outside.Linked.{Linked}
use Rattle.sp_base.specs.declared.outside.Linked.TheVariants as linked
use Rattle.sp_history.specs.Past.{now}
use Rattle.sp_ends.specs.declared.dialer.Dialer.{Dialer}
use Rattle.sp_ends.specs.DialMoments.{moment}

-- the net was asked for it once more; `from` is the moment from which it may be asked again, and `link` is its link
pub record HasTried (from link : Option ℕ) (old new : Dialer) : Type 0 where
  pub addr : new.addr ≡ old.addr
  pub max : new.max ≡ old.max
  pub next : new.next ≡ from
  pub place : new.place ≡ link
  pub tries : new.tries ≡ min (old.tries + 1) (2 ^ 64 - 1)

-- while a connection is under way it may be asked for at the next tick; after the end of a try comes the pause
abbrev pub next_after : {L : Type 0} → Linked L → ℕ → Option ℕ
next_after linked.Begun now = Some now
next_after (linked.Got link) now = moment (now + 100)
next_after linked.NotYet now = moment (now + 100)
next_after linked.Failed now = moment (now + 100)

-- the link that the net handed out
abbrev pub place_after : {L : Type 0} → (L → LinkView) → Linked L → Option ℕ
place_after seen (linked.Got link) = Some (seen link).place
place_after seen linked.NotYet = None
place_after seen linked.Begun = None
place_after seen linked.Failed = None

-- the dialer is the same, except for the link that it has lost
pub record IsSameDialer (old new : Dialer) : Type 0 where
  pub addr : new.addr ≡ old.addr
  pub max : new.max ≡ old.max
  pub tries : new.tries ≡ old.tries
  pub free : old.place ≡ None → new ≡ old

-- the dialer has no link, and may dial after the pause
abbrev pub IsFree : ℕ → Dialer → Type 0
IsFree now d = (d.place ≡ None) × (d.next ≡ moment (now + 100))

-- a connection of the dialer is under way, so it may be asked for at the next tick
abbrev pub IsUnderWay : ℕ → Dialer → Type 0
IsUnderWay now d = (d.place ≡ None) × (d.next ≡ Some now)

-- the dialer whose link has this place is free; any other is the same
pub record IsFreed (now place : ℕ) (old new : Dialer) : Type 0 where
  pub lost : old.place ≡ Some place → IsFree now new
  pub others : (old.place ≡ Some place → ⊥) → new ≡ old

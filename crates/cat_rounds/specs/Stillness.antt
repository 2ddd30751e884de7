-- Since when no link takes a byte, and when a run whose send timed out gives up.
use Rattle.std.specs.Prelude.{◌*◌, ◌-◌, ◌==◌, ◌&&◌, nat_le, nat_lt, ℕ, Bool, false, if◌then◌else◌, Option, Some, None}
use Rattle.cat_rounds.specs.declared.player.PlayEnd.{PlayEnd}
use Rattle.cat_rounds.specs.declared.player.PlayEnd.TheVariants as overs
use Rattle.cat_rounds.specs.declared.stillness.Stillness.{Stillness}

-- where they have taken more since, it begins anew
abbrev pub noted_still : Option Stillness → ℕ → ℕ → Stillness
noted_still None taken now = record { taken = taken; since = now }
noted_still (Some s) taken now = if s.taken == taken then s else record { taken = taken; since = now }

-- its send timed out, and none took a byte for as many seconds as the send may take, and since a tick before this one
abbrev pub gives_up : PlayEnd → Option ℕ → Stillness → ℕ → Bool
gives_up overs.Open timeout s now = false
gives_up overs.Finished timeout s now = false
gives_up overs.SendTimedOut None s now = false
gives_up overs.SendTimedOut (Some seconds) s now = nat_lt s.since now && nat_le (1000 * seconds) (now - s.since)

-- by what is known of it
abbrev pub gives_up_at : PlayEnd → Option ℕ → Option Stillness → ℕ → Bool
gives_up_at over timeout None now = false
gives_up_at over timeout (Some s) now = gives_up over timeout s now

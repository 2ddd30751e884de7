-- How often links, pipes and addresses are asked, by the record and the counts of the outside.
use Rattle.std.specs.Prelude.{◌≤◌, ◌<◌, ◌+◌, ◌-◌, ◌^◌, ◌==◌, ℕ, nat_le, Bool, ◌&&◌, if◌then◌else◌, List, [], ◌∷◌, length, filter}
use Rattle.std.specs.List.{list_any}
use Rattle.turn_lock.specs.declared.turn.Turn.{Turn}
use Rattle.sp_base.specs.Views.{LinkView}
use Rattle.sp_history.specs.declared.entry.Entry.{Entry}
use Rattle.sp_history.specs.declared.entry.Entry.TheVariants.{Tick}
use Rattle.sp_history.specs.Lists.{has}
use Rattle.sp_history.specs.Past.{past_of, frames}
use Rattle.sp_history.specs.Swept.{is_quiet, frame_count}
use Rattle.sp_ends.specs.LinkRecords.{greeting}

-- a count that can still rise
abbrev pub CanRise : ℕ → Type 0
CanRise n = n < 2 ^ 64 - 1

-- the number of ticks at which this held
abbrev pub ticks_where : (List Entry → Bool) → List Entry → ℕ
ticks_where test [] = 0
ticks_where test (Tick t due ∷ past) = if test past then ticks_where test past + 1 else ticks_where test past
ticks_where test (_ ∷ past) = ticks_where test past

-- the ticks at which the link was in progress
abbrev pub greeting_ticks : List Entry → ℕ → ℕ
greeting_ticks past place = ticks_where (λ before. has (greeting before) place) past

-- while a link was in progress, it returned at least once a round, except for one round, that nothing was there or that
-- it took nothing
abbrev pub IsAsked : List Entry → ℕ → LinkView → Type 0
IsAsked past place link = CanRise link.idles → CanRise link.stalls → greeting_ticks past place ≤ link.idles + link.stalls + 1

-- the turn found nothing to pull from the pipe
abbrev pub is_idle_turn : ℕ → Turn Entry → Bool
is_idle_turn p t = list_any (is_quiet p) t.entries && (frame_count t.entries p == 0)

abbrev pub idle_turns : List (Turn Entry) → ℕ → ℕ
idle_turns record_ p = length (filter (is_idle_turn p) record_)

-- the number of such turns is at most one more than how often its link had nothing, together with its frames
abbrev pub IsRead : List (Turn Entry) → ℕ → LinkView → Type 0
IsRead record_ p link = CanRise link.idles → idle_turns record_ p ≤ link.idles + length (frames (past_of record_) p) + 1

-- at most 192 links are in progress
abbrev pub has_room : List Entry → Bool
has_room past = nat_le (length (greeting past)) 192

-- the first tick from this number on, and then each that is at least 100 above the one before: a longest such list, for
-- ticks in order
abbrev pub spaced_from : ℕ → List ℕ → List ℕ
spaced_from from [] = []
spaced_from from (t ∷ ts) = if nat_le from t then t ∷ spaced_from (t + 100) ts else spaced_from from ts

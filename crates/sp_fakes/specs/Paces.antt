-- What a pace in memory shows, and what a turn of it does.
use Rattle.std.specs.Prelude.{◌≡◌, ◌+◌, ◌-◌, ◌^◌, ℕ, min}
use Rattle.sp_base.specs.Views.{PaceView}
use Rattle.sp_base.specs.declared.outside.Paced.{Paced}
use Rattle.sp_base.specs.declared.outside.Paced.TheVariants as paced
use Rattle.sp_fakes.specs.declared.pace.MemPace.{MemPace}

abbrev pub pace_view : MemPace → PaceView
pace_view p = record { left = p.turns; latest = p.latest; is_over = p.over }

-- the tick of the next turn, and how far apart the ticks are
pub record Ticks : Type 0 where
  pub next : ℕ
  pub step : ℕ

abbrev pub ticks_of : MemPace → Ticks
ticks_of p = record { next = p.next; step = p.step }

-- a turn is at the next tick, and the one after it a step later; the last possible tick stays
abbrev pub TurnBy : Paced → Ticks → Ticks → Type 0
TurnBy (paced.At tick) old new = (tick ≡ old.next) × (new ≡ record { next = min (old.next + old.step) (2 ^ 64 - 1); step = old.step })
TurnBy paced.Over old new = new ≡ old

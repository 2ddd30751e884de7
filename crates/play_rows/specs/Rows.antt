-- Definitions for the example records.
use Rattle.std.specs.Prelude.{ℕ, false, List, [], None}
use Rattle.turn_lock.specs.declared.turn.Turn.{Turn}
use Rattle.sp_base.specs.declared.OpName.{OpName}
use Rattle.sp_base.specs.declared.role.Role.{Role}
use Rattle.sp_history.specs.declared.entry.Entry.{Entry}
use Rattle.sp_history.specs.declared.entry.WireNumbers.{WireNumbers}
use Rattle.sp_history.specs.declared.setting.Setting.{Setting}
use Rattle.sp_history.specs.Options.{usual}
use Rattle.cat_text.specs.declared.plan.Format.TheVariants as formats
use Rattle.sp_history.specs.Past.{past_of}
use Rattle.cat_play.specs.Plans.{Play}
use Rattle.cat_play.specs.Scripts.{counted, printed}

-- the socket of a run: 16 slots and one caller
abbrev pub socket : Role → Setting
socket role = record { role = role; raw = false; options = usual role 0; slots = 16; callers = 1 }

-- a plan with only its role
abbrev pub bare : Role → Play
bare role =
    record { role = role; body = None; topics = []; count = None; interval = None; recv_timeout = None; send_timeout = None; format = formats.Ascii }

-- a turn of the one caller
abbrev pub turn : List Entry → Turn Entry
turn entries = record { number = 1; entries = entries }

-- the operation of this slot and generation
abbrev pub op : ℕ → ℕ → OpName
op slot generation = record { slot = slot; generation = generation }

abbrev pub unnamed : WireNumbers
unnamed = record { numbers = [] }

-- how many items counted, and what was printed
abbrev pub gives : Setting → Play → List (Turn Entry) → ℕ × List ℕ
gives z play record_ = (counted z play (past_of record_), printed play (past_of record_))

-- What a wire in memory shows.
use Rattle.std.specs.Prelude.{◌≡◌, ◌<◌, ◌-◌, ℕ, Bool, true, false, List, [], ◌∷◌, Some, length, map, take, drop}
use Rattle.sp_msg.specs.Views.{MessageView, WireView, wire_text, Nameless}
use Rattle.sp_msg.specs.Marks.{wire_view, fresh_marks, one_more}
use Rattle.sp_msg.specs.declared.marks.WireMarks.{WireMarks}
use Rattle.sp_msg.specs.declared.wire.WireIn.{WireIn}
use Rattle.sp_msg.specs.declared.wire.WireIn.TheVariants as ins
use Rattle.sp_msg.specs.declared.wire.Room.{Room}
use Rattle.sp_msg.specs.declared.wire.Room.TheVariants as rooms
use Rattle.sp_fakes.specs.Calls.{is_among}
use Rattle.sp_fakes.specs.declared.wire.WireStep.{WireStep}
use Rattle.sp_fakes.specs.declared.wire.WireStep.TheVariants as steps

-- the frames among the steps
abbrev pub frames_in : List WireStep → List (List ℕ)
frames_in [] = []
frames_in (steps.Bytes b ∷ rest) = b ∷ frames_in rest
frames_in (steps.NotYet ∷ rest) = frames_in rest
frames_in (steps.End ∷ rest) = frames_in rest
frames_in (steps.Malformed ∷ rest) = frames_in rest

-- what it shows as a wire; the steps of its script that were not passed; the numbers of the pulls that fail; how often
-- it was pulled; and how many more messages it takes
pub record MemView : Type 0 where
  pub wire : WireView
  pub left : List WireStep
  pub fails : List ℕ
  pub pulls : ℕ
  pub room : ℕ

-- the frames of the steps that were passed came, and what was put is written at once
abbrev pub mem_wire : List WireStep → ℕ → List MessageView → WireMarks → WireView
mem_wire script at kept marks = wire_view Nameless (Some (frames_in (take at script))) (Some (map wire_text kept)) 0 false marks

abbrev pub mem_view : List WireStep → ℕ → List MessageView → WireMarks → List ℕ → ℕ → ℕ → MemView
mem_view script at kept marks fails pulls most = record { wire = mem_wire script at kept marks; left = drop at script; fails = fails; pulls = pulls; room = most - length kept }

-- nothing was pulled or put, and every call is lawful
abbrev pub unused_wire : WireView
unused_wire = wire_view Nameless (Some []) (Some []) 0 false fresh_marks

-- a message of these bytes, or out of memory, and then the step is not passed
abbrev pub GivesBytes : List ℕ → List WireStep → WireIn → List WireStep → Type 0
GivesBytes b rest (ins.Message m) left = (m.header ≡ []) × (m.body ≡ b) × (left ≡ rest)
GivesBytes b rest ins.NotYet left = ⊥
GivesBytes b rest ins.Ended left = ⊥
GivesBytes b rest ins.Malformed left = ⊥
GivesBytes b rest ins.Failed left = ⊥
GivesBytes b rest ins.Refused left = ⊥
GivesBytes b rest ins.NoMemory left = left ≡ steps.Bytes b ∷ rest

-- what a pull gives, by the steps that are left, and the steps left after it: after the last one nothing is there,
-- forever; the end and a malformed message are not passed
abbrev pub GivesNext : List WireStep → WireIn → List WireStep → Type 0
GivesNext [] result left = (result ≡ ins.NotYet) × (left ≡ [])
GivesNext (steps.Bytes b ∷ rest) result left = GivesBytes b rest result left
GivesNext (steps.NotYet ∷ rest) result left = (result ≡ ins.NotYet) × (left ≡ rest)
GivesNext (steps.End ∷ rest) result left = (result ≡ ins.Ended) × (left ≡ steps.End ∷ rest)
GivesNext (steps.Malformed ∷ rest) result left = (result ≡ ins.Malformed) × (left ≡ steps.Malformed ∷ rest)

-- a pull that fails passes no step
abbrev pub Gives : Bool → List WireStep → WireIn → List WireStep → Type 0
Gives true old result left = (result ≡ ins.Failed) × (left ≡ old)
Gives false old result left = GivesNext old result left

-- a pull fails exactly where its number is among those, and otherwise follows the script
pub record MemPulled (result : WireIn) (old new : MemView) : Type 0 where
  pub gives : Gives (is_among old.pulls old.fails) old.left result new.left
  pub pulls : new.pulls ≡ one_more old.pulls
  pub fails : new.fails ≡ old.fails
  pub room : new.room ≡ old.room

-- Full exactly where it takes no further message
abbrev pub HasRoom : Room → ℕ → Type 0
HasRoom rooms.Yes room = 0 < room
HasRoom rooms.Full room = room ≡ 0
HasRoom rooms.Failed room = ⊥
HasRoom rooms.Refused room = ⊥
HasRoom rooms.NoMemory room = 0 < room

-- nothing changed except what it shows as a wire
pub record OnlyWire (old new : MemView) : Type 0 where
  pub left : new.left ≡ old.left
  pub fails : new.fails ≡ old.fails
  pub pulls : new.pulls ≡ old.pulls
  pub room : new.room ≡ old.room

-- and there is room for one message fewer
pub record MemPut (old new : MemView) : Type 0 where
  pub left : new.left ≡ old.left
  pub fails : new.fails ≡ old.fails
  pub pulls : new.pulls ≡ old.pulls
  pub room : new.room ≡ old.room - 1

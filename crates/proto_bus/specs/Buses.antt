-- The history that a bus stands for.
use Rattle.std.specs.Prelude.{◌≡◌, ℕ, Bool, true, false, ⊤, List, [], ◌∷◌, length, map, filter, Option, None}
use Rattle.sp_base.specs.declared.OpName.{OpName}
use Rattle.sp_base.specs.declared.role.Role.TheVariants as role
use Rattle.sp_msg.specs.Views.{MessageView}
use Rattle.sp_history.specs.declared.entry.RecordedAct.{RecordedAct}
use Rattle.sp_history.specs.declared.entry.RecordedAct.TheVariants.{Recv, Send}
use Rattle.sp_history.specs.declared.entry.RecordedMessage.{RecordedMessage}
use Rattle.sp_history.specs.declared.parts.Begun.{Begun}
use Rattle.sp_history.specs.declared.parts.Item.{Item}
use Rattle.sp_history.specs.declared.setting.Options.{Options}
use Rattle.sp_history.specs.Lists.{first_word, word}
use Rattle.sp_history.specs.Moments.{Moment}
use Rattle.sp_proto.specs.Kinds.{Kind, text_of}
use Rattle.sp_proto.specs.Readings.{MomentReading, reading}
use Rattle.proto_shared.specs.Copies.{AreCopies, HasFlood}
use Rattle.proto_shared.specs.Waits.{Holds, is_receive, count, room, first_name}
use Rattle.proto_bus.specs.declared.Bus.{Bus}

abbrev pub bus_kind : Bool → Options → Kind
bus_kind raw options = record { role = role.Bus; raw = raw; options = options }

abbrev pub message_in : Item → RecordedMessage
message_in i = i.message

-- the maximum number of operations that are still to be offered
abbrev pub offers_left : Bus → ℕ
offers_left m = count m.pending

-- how many more operations can begin
abbrev pub places_left : Bus → ℕ
places_left m = room m.pending

-- the copies of a send that have not gone out
abbrev pub copies_left : Bus → ℕ
copies_left m = length m.copies.items

-- the receive that gets the oldest of these messages
abbrev pub receiver_of : List MessageView → List Begun → Option OpName
receiver_of [] ss = None
receiver_of (m ∷ ms) ss = first_name (filter is_receive ss)

-- the pipe that the header of a raw send leaves out
abbrev pub left_out_of : Bool → List ℕ → Option ℕ
left_out_of true header = first_word header
left_out_of false header = None

-- the header that a frame of the pipe is given
abbrev pub header_of : Bool → ℕ → List ℕ
header_of true p = word p
header_of false p = []

-- the copies are those of the send, and this pipe is left out
abbrev pub IsFlood : Bool → Option ℕ → List MessageView → RecordedAct → Type 0
IsFlood raw out copies Recv = ⊤
IsFlood raw out copies (Send m) = (out ≡ left_out_of raw m.header) × AreCopies m.body copies

-- The bus has this kind, knows how many pipes are up, keeps these items, for which it has places, and has these
-- operations pending
pub record Shows (m : Bus) (k : Kind) (us : List ℕ) (is : List Item) (ss : List Begun) (cs : List ℕ) : Type 0 where
  pub kind : k ≡ bus_kind m.raw m.options
  pub pipes : m.pipes ≡ length us
  pub items : map text_of m.kept.items ≡ map message_in is
  pub places : m.kept.capacity ≡ m.options.queue
  pub pending : Holds m.pending ss
  pub contexts : cs ≡ 0 ∷ []

-- it shows what it reads of a moment
abbrev pub Stands : Bus → MomentReading → Type 0
Stands m r = Shows m r.kind r.up (r.pool 0) r.pend r.ctxs

abbrev pub Ties : Bus → Moment → Type 0
Ties m t = Stands m (reading t) × HasFlood t (length m.copies.items) (λ (s : Begun). IsFlood t.z.raw m.left_out m.copies.items s.act)

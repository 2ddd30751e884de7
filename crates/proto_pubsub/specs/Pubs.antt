-- The history that a pub stands for.
use Rattle.std.specs.Prelude.{◌≡◌, ℕ, Bool, ⊤, List, [], ◌∷◌, length}
use Rattle.sp_base.specs.declared.role.Role.TheVariants as role
use Rattle.sp_msg.specs.Views.{MessageView}
use Rattle.sp_history.specs.declared.entry.RecordedAct.{RecordedAct}
use Rattle.sp_history.specs.declared.entry.RecordedAct.TheVariants.{Recv, Send}
use Rattle.sp_history.specs.declared.parts.Begun.{Begun}
use Rattle.sp_history.specs.declared.parts.Item.{Item}
use Rattle.sp_history.specs.declared.setting.Options.{Options}
use Rattle.sp_history.specs.Moments.{Moment}
use Rattle.sp_proto.specs.Kinds.{Kind}
use Rattle.sp_proto.specs.Readings.{MomentReading, reading}
use Rattle.proto_shared.specs.Copies.{AreCopies, HasFlood}
use Rattle.proto_shared.specs.Waits.{Holds, count, room}
use Rattle.proto_pubsub.specs.declared.publish.Publish.{Publish}

abbrev pub pub_kind : Bool → Options → Kind
pub_kind raw options = record { role = role.Pub; raw = raw; options = options }

-- the maximum number of operations that are still to be offered
abbrev pub offers_left : Publish → ℕ
offers_left m = count m.pending

-- how many more operations can begin
abbrev pub places_left : Publish → ℕ
places_left m = room m.pending

-- the copies of a send that have not gone out
abbrev pub copies_left : Publish → ℕ
copies_left m = length m.copies.items

-- the copies are those of the send
abbrev pub IsFlood : List MessageView → RecordedAct → Type 0
IsFlood copies Recv = ⊤
IsFlood copies (Send m) = AreCopies m.body copies

-- The pub has this kind, knows how many pipes are up, and has these operations pending; nothing is kept
pub record Shows (m : Publish) (k : Kind) (us : List ℕ) (is : List Item) (ss : List Begun) (cs : List ℕ) : Type 0 where
  pub kind : k ≡ pub_kind m.raw m.options
  pub pipes : m.pipes ≡ length us
  pub items : is ≡ []
  pub pending : Holds m.pending ss
  pub contexts : cs ≡ 0 ∷ []

-- it shows what it reads of a moment
abbrev pub Stands : Publish → MomentReading → Type 0
Stands m r = Shows m r.kind r.up (r.pool 0) r.pend r.ctxs

abbrev pub Ties : Publish → Moment → Type 0
Ties m t = Stands m (reading t) × HasFlood t (length m.copies.items) (λ (s : Begun). IsFlood m.copies.items s.act)

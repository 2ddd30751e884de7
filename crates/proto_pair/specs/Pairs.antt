-- The history that a pair stands for.
use Rattle.std.specs.Prelude.{◌≡◌, ◌≤◌, ◌<◌, ◌+◌, ℕ, Bool, true, false, ◌&&◌, MatchOption, if◌then◌else◌, List, [], ◌∷◌, map, filter, option_to_list, Option, Some, None}
use Rattle.std.specs.Option.{option_map}
use Rattle.sp_base.specs.declared.OpName.{OpName}
use Rattle.sp_base.specs.declared.role.Role.{Role}
use Rattle.sp_base.specs.declared.role.Role.TheVariants as role
use Rattle.sp_msg.specs.Views.{MessageView, wire_text}
use Rattle.sp_history.specs.declared.entry.RecordedMessage.{RecordedMessage}
use Rattle.sp_history.specs.declared.parts.Begun.{Begun}
use Rattle.sp_history.specs.declared.parts.Item.{Item}
use Rattle.sp_history.specs.declared.parts.LiveRequest.{LiveRequest}
use Rattle.sp_history.specs.declared.parts.Origin.{Origin}
use Rattle.sp_history.specs.Frames.{malformed_for, item_for}
use Rattle.sp_history.specs.Sends.{bytes_for}
use Rattle.sp_history.specs.declared.setting.Options.{Options}
use Rattle.sp_history.specs.Lists.{has}
use Rattle.sp_history.specs.Moments.{Moment}
use Rattle.sp_proto.specs.Kinds.{Kind, text_of}
use Rattle.sp_proto.specs.Readings.{MomentReading, reading}
use Rattle.sp_proto.specs.declared.Offer.{Offer}
use Rattle.sp_proto.specs.declared.Offer.TheVariants as offer
use Rattle.proto_shared.specs.Waits.{Holds, is_receive, is_send, is_uncounted, count, room, first_name}
use Rattle.proto_pair.specs.declared.Pair.{Pair}
use Rattle.proto_pair.specs.declared.PairPort.{PairPort}
use Rattle.proto_pair.specs.declared.PairVersion.{PairVersion}
use Rattle.proto_pair.specs.declared.PairVersion.TheVariants as versions
use Rattle.proto_pair.specs.declared.Arrival.{Arrival}
use Rattle.proto_pair.specs.declared.Arrival.TheVariants as arrivals

abbrev pub role_of : PairVersion → Role
role_of versions.Zero = role.Pair0
role_of versions.One = role.Pair1

abbrev pub kind_for : PairVersion → Bool → Options → Kind
kind_for version raw options = record { role = role_of version; raw = raw; options = options }

-- a pair of version 0
abbrev pub pair_kind : Bool → Options → Kind
pair_kind raw options = record { role = role.Pair0; raw = raw; options = options }

-- a pair of version 1
abbrev pub pair1_kind : Bool → Options → Kind
pair1_kind raw options = record { role = role.Pair1; raw = raw; options = options }

-- ---- Hop counts

-- a send needs one in its header
abbrev pub counts : PairVersion → Bool → Bool
counts versions.Zero raw = false
counts versions.One raw = raw

-- no pipe will get the send
abbrev pub is_stray : PairVersion → Bool → Begun → Bool
is_stray version raw s = counts version raw && is_uncounted s

-- none of these operations is one
abbrev pub NoneStray : Pair → List Begun → Type 0
NoneStray m ss = filter (is_stray m.version m.raw) ss ≡ []

-- a send that is one, or none
abbrev pub FindsStray : Option OpName → Pair → Type 0
FindsStray r m =
    (ss : List Begun) → Holds m.pending ss → MatchOption r ((m.may_stray ≡ false → NoneStray m ss) → NoneStray m ss) (λ op. Some op ≡ first_name (filter (is_stray m.version m.raw) ss))

-- what a frame is
abbrev pub Arrives : PairVersion → Bool → ℕ → MessageView → Arrival → Type 0
Arrives version raw ttl m (arrivals.Kept v) =
    (malformed_for (role_of version) ttl m.body ≡ false) × ((p : ℕ) → (i : Item) × (item_for (role_of version) raw ttl p m.body ≡ Some i) × (text_of v ≡ i.message))
Arrives version raw ttl m arrivals.TooFar =
    (malformed_for (role_of version) ttl m.body ≡ false) × ((p : ℕ) → item_for (role_of version) raw ttl p m.body ≡ None)
Arrives version raw ttl m arrivals.Malformed = malformed_for (role_of version) ttl m.body ≡ true

-- what goes out, where a pipe may get it
abbrev pub GoesOut : PairVersion → Bool → MessageView → MessageView → Type 0
GoesOut version raw m out =
    (o : Option Origin) (r : Option LiveRequest) (b : List ℕ) → bytes_for (role_of version) raw o r (text_of m) ≡ Some b → wire_text out ≡ b

-- a pipe that is up, full or not as the function says
abbrev pub port_of : (ℕ → Bool) → ℕ → PairPort
port_of full p = record { pipe = p; is_full = full p }

abbrev pub marked : Bool → Option PairPort → Option PairPort
marked is_full port = option_map (λ (x : PairPort). let y : PairPort = record { pipe = x.pipe; is_full = is_full } in y) port

abbrev pub message_in : Item → RecordedMessage
message_in i = i.message

-- the pipe may be offered to a send
abbrev pub free : Option PairPort → ℕ
free None = 0
free (Some x) = if x.is_full then 0 else 1

-- the maximum number of sends and receives, and pipes for them, that are still to be offered
abbrev pub offers_left : Pair → ℕ
offers_left m = free m.port + count m.pending

-- how many more operations can begin
abbrev pub places_left : Pair → ℕ
places_left m = room m.pending

-- the receive that gets what is kept
abbrev pub receiver_of : Option MessageView → List Begun → Option OpName
receiver_of None ss = None
receiver_of (Some m) ss = first_name (filter is_receive ss)

abbrev pub to_pipe : ℕ → Option OpName → Offer
to_pipe p None = offer.Idle
to_pipe p (Some op) = offer.Send op p

-- the first send, where the pipe may have room
abbrev pub send_offer : Option PairPort → List Begun → Offer
send_offer None ss = offer.Idle
send_offer (Some x) ss = if x.is_full then offer.Idle else to_pipe x.pipe (first_name (filter is_send ss))

-- The pair has this kind, knows the pipe that is up, if one is, and whether it is full, keeps these items, and has
-- these operations pending, and knows whether one may be a send that no pipe will get. No pipe has a number above that of the last one that came up, so the next one is not full
-- yet
pub record Shows (m : Pair) (k : Kind) (us : List ℕ) (last : ℕ) (full : ℕ → Bool) (is : List Item) (ss : List Begun) (cs : List ℕ) : Type 0 where
  pub kind : k ≡ kind_for m.version m.raw m.options
  pub port : option_to_list m.port ≡ map (port_of full) us
  pub known : (q : ℕ) → has us q ≡ true → q ≤ last
  pub unmet : (q : ℕ) → last < q → full q ≡ false
  pub items : map text_of (option_to_list m.kept) ≡ map message_in is
  pub pending : Holds m.pending ss
  pub none_stray : m.may_stray ≡ false → NoneStray m ss
  pub contexts : cs ≡ 0 ∷ []

-- it shows what it reads of a moment
abbrev pub Stands : Pair → MomentReading → Type 0
Stands m r = Shows m r.kind r.up r.ups r.full (r.pool 0) r.pend r.ctxs

abbrev pub Ties : Pair → Moment → Type 0
Ties m t = Stands m (reading t)

-- What a wire over a link shows, and what ties it to its link.
use Rattle.std.specs.Prelude.{◌≡◌, ◌≤◌, ◌<◌, ◌+◌, ◌-◌, ◌^◌, ◌++◌, ◌⊎◌, ℕ, true, false, List, [], ◌∷◌, length, take, drop, Option, Some, None}
use Rattle.std.specs.Int.{w16, from_be_bytes}
use Rattle.sp_base.specs.SpTcp.{hello, Fit}
use Rattle.sp_base.specs.Outside.{Rose, Told, IsPrefix}
use Rattle.sp_base.specs.Views.{LinkView}
use Rattle.sp_base.specs.Steps.{Came, Went}
use Rattle.sp_base.specs.Roles.{role_number, role_peer}
use Rattle.sp_base.specs.declared.role.Role.{Role}
use Rattle.sp_base.specs.Wires.{WireView, WireName, OverLink, scheme_number}
use Rattle.sp_msg.specs.Marks.{wire_view, fresh_marks}
use Rattle.sp_msg.specs.declared.marks.WireMarks.{WireMarks}
use Rattle.sp_msg.specs.declared.wire.WireIn.{WireIn}
use Rattle.sp_msg.specs.declared.wire.WireIn.TheVariants as ins
use Rattle.sp_msg.specs.declared.wire.Room.{Room}
use Rattle.sp_msg.specs.declared.wire.Room.TheVariants as rooms
use Rattle.sp_msg.specs.declared.wire.WireFlush.{WireFlush}
use Rattle.sp_msg.specs.declared.wire.WireFlush.TheVariants as flushes
use Rattle.sp_tcp.specs.Views.{TcpView, InletView, OutletView}
use Rattle.sp_msg.specs.Links.{ReadCounts, WriteCounts}
use Rattle.sp_base.specs.SpIpc.{IsMarkedPart, IsMarkedBad}
use Rattle.sp_base.specs.SpStream.{framing_for, mark_of, stream_frame, stream_frames, stream_text, stream_shows, IsStreamBad}
use Rattle.sp_base.specs.declared.framing.Framing.{Framing}
use Rattle.sp_tcp.specs.Outlets.{SentWithin}

-- the role number in the greeting that a text begins with
abbrev pub number_in : List ℕ → ℕ
number_in s = from_be_bytes w16 (take 2 (drop 4 s))

abbrev pub told_number : Option (List ℕ) → Option ℕ
told_number None = None
told_number (Some s) = Some (number_in s)

-- the maximum size of a message that is written
abbrev pub greatest : ℕ
greatest = 2 ^ 64 - 1

-- the bodies before the bytes that were not taken
abbrev pub taken_in : Framing → ℕ → List ℕ → Option (List ℕ) → Option (List (List ℕ))
taken_in f max unread None = None
taken_in f max unread (Some s) = Some (stream_shows f (number_in s) max (take (length s - length unread) s))

-- the texts before the part of a frame, and those that wait
abbrev pub put_in : Framing → List (List ℕ) → ℕ → Option (List ℕ) → Option (List (List ℕ))
put_in f waiting sent None = None
put_in f waiting sent (Some s) = Some (stream_shows f (number_in s) greatest (take (length s - sent) s) ++ waiting)

-- what the wire keeps
pub record TcpState : Type 0 where
  pub framing : Framing
  pub link : LinkView
  pub unread : List ℕ
  pub waiting : List (List ℕ)
  pub sent : ℕ
  pub max : ℕ
  pub spent : ℕ
  pub marks : WireMarks

abbrev pub tcp_state : Framing → LinkView → InletView → OutletView → ℕ → ℕ → WireMarks → TcpState
tcp_state framing link inlet outlet max spent marks =
    record { framing = framing; link = link; unread = inlet.unread; waiting = outlet.waiting; sent = outlet.sent; max = max; spent = spent; marks = marks }

abbrev pub wire_name : LinkView → ℕ → ℕ → WireName
wire_name link max spent = OverLink link.place max (scheme_number link.scheme) spent (told_number link.written) (told_number link.came)

abbrev pub wire_of : TcpState → WireView
wire_of t = wire_view (wire_name t.link t.max t.spent) (taken_in t.framing t.max t.unread t.link.came) (put_in t.framing t.waiting t.sent t.link.written) (length t.waiting) false t.marks

abbrev pub tcp_view : TcpState → TcpView
tcp_view t = record { wire = wire_of t; link = t.link; max = t.max; framing = t.framing }

-- a greeting, the bodies that were taken, and the bytes that were not
pub record ReadsAs (f : Framing) (max : ℕ) (unread s : List ℕ) : Type 0 where
  pub role : ℕ
  pub bodies : List (List ℕ)
  pub small : role < 2 ^ 16
  pub fit : Fit max bodies
  pub is : s ≡ stream_text f role bodies ++ unread

-- a greeting, the texts that are wholly written, and a part of the next frame
pub record WritesAs (f : Framing) (waiting : List (List ℕ)) (sent : ℕ) (s : List ℕ) : Type 0 where
  pub role : ℕ
  pub bodies : List (List ℕ)
  pub small : role < 2 ^ 16
  pub fit : Fit greatest bodies
  pub is : s ≡ stream_text f role bodies ++ take sent (stream_frames f waiting)

-- what the marks say about the link and of the bytes that were not taken
pub record MarksHold (f : Framing) (max : ℕ) (link : LinkView) (unread : List ℕ) (k : WireMarks) : Type 0 where
  pub link_open : k.is_open ≡ true → link.is_open ≡ true
  pub going : k.is_open ≡ true → (k.ended ≡ false) × (k.malformed ≡ false)
  pub at_end : k.ended ≡ true → (link.ended ≡ true) × IsMarkedPart (mark_of f) max unread
  pub bad : k.malformed ≡ true → IsMarkedBad (mark_of f) max unread
  pub faults : k.faults ≤ link.faults
  pub idles : k.idles ≤ link.idles
  pub stalls : k.stalls ≤ link.stalls
  pub refusals : k.refusals ≡ 0

pub record Holds (t : TcpState) : Type 0 where
  pub framed_by : t.framing ≡ framing_for t.link.scheme
  pub reads : Told t.link.came (ReadsAs t.framing t.max t.unread)
  pub writes : Told t.link.written (WritesAs t.framing t.waiting t.sent)
  pub within : SentWithin (mark_of t.framing) t.sent t.waiting
  pub fit : Fit greatest t.waiting
  pub small : t.max < 2 ^ 64
  pub most : length t.waiting ≤ 16
  pub room : t.marks.is_ready ≡ true → length t.waiting < 16
  pub waited : t.spent ≤ t.link.idles + t.link.stalls
  pub marks : MarksHold t.framing t.max t.link t.unread t.marks

-- ---- what callers see

-- what came shows: text(peer, came) is a prefix of it, and came a prefix of all that it shows
pub record ShowsIn (v : TcpView) (s : List ℕ) : Type 0 where
  pub bodies : List (List ℕ)
  pub came : v.wire.came ≡ Some bodies
  pub text_prefix : IsPrefix (stream_text v.framing (number_in s) bodies) s
  pub prefix : IsPrefix bodies (stream_shows v.framing (number_in s) v.max s)

-- a part of the first frame, and not all of it
abbrev pub CutShort : Framing → List ℕ → List (List ℕ) → Type 0
CutShort f part [] = part ≡ []
CutShort f part (t ∷ rest) = IsPrefix part (stream_frame f t) × (length part < length (stream_frame f t))

-- what is written: all frames but those of the texts that wait, and a part of the next one
pub record WrittenIn (v : TcpView) (s : List ℕ) : Type 0 where
  pub whole : List (List ℕ)
  pub waiting : List (List ℕ)
  pub part : List ℕ
  pub outs : v.wire.outs ≡ Some (whole ++ waiting)
  pub waits : length waiting ≡ v.wire.waits
  pub is : s ≡ stream_text v.framing (number_in s) whole ++ part
  pub cut : CutShort v.framing part waiting

-- no whole message is left
abbrev pub AllShown : TcpView → Type 0
AllShown v = Told v.link.came (λ s. v.wire.came ≡ Some (stream_shows v.framing (number_in s) v.max s))

-- the next size is above max; over IPC also: another byte than 01 comes first
abbrev pub NextIsBad : TcpView → Type 0
NextIsBad v = Told v.link.came (λ s. IsStreamBad v.framing (number_in s) v.max s)

abbrev pub NextFits : TcpView → Type 0
NextFits v = Told v.link.came (λ s. IsStreamBad v.framing (number_in s) v.max s → ⊥)

-- SP over TCP or IPC, at every moment: what ties a wire's texts, counts and end to its link; a link of IPC, and no
-- other, is framed as of IPC
pub record Framed (v : TcpView) : Type 0 where
  pub framed_by : v.framing ≡ framing_for v.link.scheme
  pub spent : ℕ
  pub name : v.wire.name ≡ wire_name v.link v.max spent
  pub waited : spent ≤ v.link.idles + v.link.stalls
  pub came : Told v.link.came (ShowsIn v)
  pub written : Told v.link.written (WrittenIn v)
  pub faults : v.wire.faults ≤ v.link.faults
  pub idles : v.wire.idles ≤ v.link.idles
  pub stalls : v.wire.stalls ≤ v.link.stalls
  pub refusals : v.wire.refusals ≡ 0
  pub most : v.wire.waits ≤ 16
  pub link_open : v.wire.is_open ≡ true → v.link.is_open ≡ true
  pub ended : v.wire.ended ≡ true → (v.link.ended ≡ true) × AllShown v × NextFits v
  pub malformed : v.wire.malformed ≡ true → AllShown v × NextIsBad v

abbrev pub PullCause : WireIn → TcpView → TcpView → Type 0
PullCause (ins.Message m) old new = length m.body ≤ new.max
PullCause ins.NotYet old new = AllShown new × NextFits new × Rose old.link.idles new.link.idles × (old.link.ended ≡ false)
PullCause ins.Ended old new = AllShown new × NextFits new × (new.link.ended ≡ true)
PullCause ins.Malformed old new = AllShown new × NextIsBad new
PullCause ins.Failed old new = AllShown new × NextFits new × Rose old.link.faults new.link.faults × (old.link.ended ≡ false)
PullCause ins.Refused old new = ⊥
PullCause ins.NoMemory old new = Unit {0}

-- a pull writes nothing, and asks the link for nothing where a whole message or what is bad stands at the front
pub record TcpPulled (result : WireIn) (old new : TcpView) : Type 0 where
  pub cause : PullCause result old new
  pub piece : List ℕ
  pub came : Came piece old.link new.link
  pub counts : ReadCounts old.link new.link
  pub max : new.max ≡ old.max
  pub framing : new.framing ≡ old.framing
  pub whole : (s : List ℕ) → old.link.came ≡ Some s → (old.wire.came ≡ Some (stream_shows old.framing (number_in s) old.max s) → ⊥) → new.link ≡ old.link
  pub bad : (s : List ℕ) → old.link.came ≡ Some s → IsStreamBad old.framing (number_in s) old.max s → new.link ≡ old.link

-- room and flush read nothing, and write only at the end of what is written
pub record TcpWrote (old new : TcpView) : Type 0 where
  pub piece : List ℕ
  pub went : Went piece old.link new.link
  pub counts : WriteCounts old.link new.link
  pub max : new.max ≡ old.max
  pub framing : new.framing ≡ old.framing

-- fewer than 16 wait: nothing is written, one more message may be put, and all else is as it was
abbrev pub IsLeft : Room → TcpView → TcpView → Type 0
IsLeft room old new = (room ≡ rooms.Yes) × (new ≡ record old { wire = record old.wire { is_ready = true } })

-- 16 wait: room comes after all was written that the link takes
abbrev pub RoomMade : Room → TcpView → TcpView → Type 0
RoomMade rooms.Yes old new = (new.wire.waits < 16) × ((new.wire.waits ≡ 0) ⊎ Rose old.link.stalls new.link.stalls)
RoomMade rooms.Full old new = (new.wire.waits ≡ 16) × Rose old.link.stalls new.link.stalls
RoomMade rooms.Failed old new = Rose old.link.faults new.link.faults
RoomMade rooms.Refused old new = ⊥
RoomMade rooms.NoMemory old new = ⊥

pub record RoomCause (room : Room) (old new : TcpView) : Type 0 where
  pub few : old.wire.waits < 16 → IsLeft room old new
  pub many : 16 ≤ old.wire.waits → RoomMade room old new

abbrev pub FlushCause : WireFlush → TcpView → TcpView → Type 0
FlushCause flushes.Empty old new = Unit {0}
FlushCause flushes.NotYet old new = Rose old.link.stalls new.link.stalls
FlushCause flushes.Failed old new = Rose old.link.faults new.link.faults
FlushCause flushes.Refused old new = ⊥
FlushCause flushes.NoMemory old new = ⊥

-- a role's greeting was written, and its peer's came followed by these bytes
abbrev pub Met : List ℕ → LinkView → Type 0
Met rest link = (role : Role) × Told link.written (λ s. s ≡ hello (role_number role)) × Told link.came (λ s. s ≡ hello (role_number (role_peer role)) ++ rest)

abbrev pub none_of : Option (List ℕ) → Option (List (List ℕ))
none_of None = None
none_of (Some _) = Some []

-- nothing was pulled or put, and every call is lawful
pub record IsNewWire (framing : Framing) (max : ℕ) (link : LinkView) (v : TcpView) : Type 0 where
  pub framing_is : v.framing ≡ framing
  pub link_is : v.link ≡ link
  pub max_is : v.max ≡ max
  pub wire : v.wire ≡ wire_view (wire_name link max (link.idles + link.stalls)) (none_of link.came) (none_of link.written) 0 false fresh_marks
  pub framed : Framed v

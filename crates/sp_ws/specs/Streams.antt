-- What each call does to a socket over memory and what is kept beside it.
use Rattle.std.specs.Prelude.{◌≡◌, ◌≤◌, ◌++◌, ◌⊎◌, ℕ, zero, suc, Bool, true, false, List, [], length, drop, Option, Some, None, ◌==◌, Result, Ok, Err}
use Rattle.std.specs.List.{concat}
use Rattle.sp_base.specs.declared.error.NoMemory.{NoMemory}
use Rattle.tungstenite.specs.declared.error.Error.{Error}
use Rattle.tungstenite.specs.declared.message.Message.{Message}
use Rattle.tungstenite.specs.Socket.{Socket, Reads}
use Rattle.sp_ws.specs.declared.memory.Memory.{Memory}
use Rattle.sp_ws.specs.declared.stream.Stream.{Stream}
use Rattle.sp_ws.specs.declared.frames.FrameIn.{FrameIn}
use Rattle.sp_ws.specs.declared.frames.FrameIn.TheVariants as ins
use Rattle.sp_ws.specs.declared.frames.LastResult.{LastResult}
use Rattle.sp_ws.specs.Views.{FramesView}
use Rattle.sp_ws.specs.Frames.{IsPassed, Names, ReadsTo, IsFrame}

-- what was handed over and not read
abbrev pub unread_in : Memory → List ℕ
unread_in m = drop m.at m.fed.items

abbrev pub remaining_in : Memory → Option (List ℕ)
remaining_in m = Some (unread_in m)

-- what was handed over so far
abbrev pub handed_in : Stream → List ℕ
handed_in s = concat s.handed.texts

abbrev pub unread_of : Stream → ℕ
unread_of s = length (unread_in s.socket.stream)

-- what a socket shows of its stream and of what it counts besides; it refuses nothing
abbrev pub frames_view : Stream → List (List ℕ) → List (List ℕ) → LastResult → ℕ → FramesView
frames_view s came sent last breaks =
    record { role = s.role; handed = handed_in s; fed = s.fed.items; left = unread_of s; waiting = s.out; came = came; sent = sent; last = last; refusals = 0; breaks = breaks; reads = s.reads.all; config = s.socket.conn.config }

-- the bytes of b are all that follows the first n bytes of s
abbrev pub IsBehind : ℕ → List ℕ → List ℕ → Type 0
IsBehind n b s = (n ≤ length s) × (drop n s ≡ b)

-- what was fed was handed over: it follows as many bytes as were not read; and what waits stays
abbrev pub Loaded : Bool → Stream → Stream → Type 0
Loaded true old new = (new.fed.items ≡ []) × IsBehind (unread_of old) old.fed.items (unread_in new.socket.stream) × (new.out ≡ old.out) × (new.role ≡ old.role) × (handed_in new ≡ handed_in old ++ old.fed.items)
Loaded false old new = (new.out ≡ old.out) × (new.role ≡ old.role) × (new.handed ≡ old.handed) × (new.fed ≡ old.fed)

-- what was fed is as it was, and the number of unread bytes too
abbrev pub KeptUnread : Bool → Stream → Stream → Type 0
KeptUnread done old new = (new.fed ≡ old.fed) × (new.role ≡ old.role) × (done ≡ true → unread_of new ≡ unread_of old) × (new.handed ≡ old.handed)

-- and more waits than before
abbrev pub Fetched : Bool → Stream → Stream → Type 0
Fetched done old new = KeptUnread done old new × ((replies : List ℕ) × (new.out ≡ old.out ++ replies))

-- ---- reading

-- this many reads gave such messages
abbrev pub Passed : ℕ → Socket Memory → Socket Memory → Type 0
Passed zero old new = new ≡ old
Passed (suc n) old new = (mid : Socket Memory) × Passed n old mid × ((r : Result Message Error) × IsPassed r × Reads remaining_in mid new r)

abbrev pub IsNamed : Option FrameIn → Result Message Error → Bool → Type 0
IsNamed None r empty = IsPassed r
IsNamed (Some returned) r empty = Names returned r empty

-- the stream has nothing left
abbrev pub is_dry : Socket Memory → Bool
is_dry s = length (unread_in s.stream) == 0

-- the socket's read returned that, after messages that were skipped; or it was all such messages
abbrev pub ReadTo : FrameIn → Socket Memory → Socket Memory → Type 0
ReadTo returned old new =
    ((count : ℕ) × (mid : Socket Memory) × Passed count old mid × ((r : Result Message Error) × Reads remaining_in mid new r × Names returned r (is_dry new)))
    ⊎ (returned ≡ ins.NoMemory)

-- all that was fed was read
abbrev pub IdleWhen : FrameIn → Stream → Type 0
IdleWhen (ins.Binary bytes) s = Unit {0}
IdleWhen ins.Text s = Unit {0}
IdleWhen ins.Idle s = (s.fed.items ≡ []) × (unread_of s ≡ 0)
IdleWhen ins.Closed s = Unit {0}
IdleWhen ins.Broken s = Unit {0}
IdleWhen ins.NoMemory s = Unit {0}

-- the reads that a call noted
abbrev pub Noted : FrameIn → Stream → Stream → Type 0
Noted returned old new = ReadsTo returned old.reads.all new.reads.all (unread_of new == 0)

pub record NextIs (returned : FrameIn) (old new : Stream) : Type 0 where
  pub replies : List ℕ
  pub waiting : new.out ≡ old.out ++ replies
  pub idle : IdleWhen returned new
  pub role : new.role ≡ old.role
  pub fed : handed_in new ++ new.fed.items ≡ handed_in old ++ old.fed.items

-- ---- sending

-- what was fed and handed over is as it was, and so are the side and what was read
abbrev pub IsBeside : Stream → Stream → Type 0
IsBeside old new = (new.fed ≡ old.fed) × (new.socket ≡ old.socket) × (new.role ≡ old.role) × (new.reads ≡ old.reads) × (new.handed ≡ old.handed)

abbrev pub SendIs : Result Unit NoMemory → List ℕ → Stream → Stream → Type 0
SendIs (Ok _) b old new = IsBeside old new × ((piece : List ℕ) × (new.out ≡ old.out ++ piece) × IsFrame old.role piece b)
SendIs (Err _) b old new = IsBeside old new × (new.out ≡ old.out)

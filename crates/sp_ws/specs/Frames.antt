-- What each call of frames returns, and what it does to what the frames show.
use Rattle.std.specs.Prelude.{◌≡◌, ◌++◌, ◌⊎◌, ◌==◌, ℕ, Bool, true, List, [], ◌∷◌, Option, Result, Ok, Err}
use Rattle.std.specs.List.{All}
use Rattle.std.specs.IoError.{error_kind}
use Rattle.std.specs.declared.io.ErrorKind.TheVariants as kinds
use Rattle.tungstenite.specs.declared.error.Error.{Error}
use Rattle.tungstenite.specs.declared.error.Error.TheVariants as errors
use Rattle.tungstenite.specs.declared.message.Message.{Message}
use Rattle.tungstenite.specs.declared.message.Message.TheVariants as messages
use Rattle.tungstenite.specs.Failure.{IsOutside}
use Rattle.sp_base.specs.declared.error.NoMemory.{NoMemory}
use Rattle.sp_msg.specs.Marks.{one_more}
use Rattle.websocket.specs.declared.error.ProtocolError.TheVariants as breaches
use Rattle.websocket.specs.declared.protocol.frame.coding.OpCode.TheVariants as codes
use Rattle.websocket.specs.declared.protocol.frame.coding.Data.TheVariants as datas
use Rattle.websocket.specs.Frame.{encode_frame}
use Rattle.websocket.specs.Connection.{whole_header, IsMaskOf}
use Rattle.websocket.specs.declared.protocol.config.Role.{Role}
use Rattle.sp_ws.specs.Views.{FramesView, all_fed}
use Rattle.sp_ws.specs.declared.frames.FrameIn.{FrameIn}
use Rattle.sp_ws.specs.declared.frames.FrameIn.TheVariants as ins
use Rattle.sp_ws.specs.declared.frames.FrameOut.{FrameOut}
use Rattle.sp_ws.specs.declared.frames.FrameOut.TheVariants as outs
use Rattle.sp_ws.specs.declared.frames.LastResult.{LastResult}
use Rattle.sp_ws.specs.declared.frames.LastResult.TheVariants as lasts

abbrev pub AfterFeed : Result Unit NoMemory → List ℕ → FramesView → FramesView → Type 0
AfterFeed (Ok _) b old new = new ≡ record old { fed = old.fed ++ b }
AfterFeed (Err _) b old new = new ≡ old

-- ---- the result of a read of the crate that does the framing, and its name here

-- messages that are skipped
abbrev pub IsControl : Message → Type 0
IsControl (messages.Text s) = ⊥
IsControl (messages.Binary s) = ⊥
IsControl (messages.Ping s) = Unit {0}
IsControl (messages.Pong s) = Unit {0}
IsControl (messages.Close frame) = ⊥

abbrev pub IsPassed : Result Message Error → Type 0
IsPassed (Ok m) = IsControl m
IsPassed (Err e) = ⊥

-- a copy, or out of memory
abbrev pub IsCopied : FrameIn → List ℕ → Type 0
IsCopied (ins.Binary bytes) b = bytes ≡ b
IsCopied ins.Text b = ⊥
IsCopied ins.Idle b = ⊥
IsCopied ins.Closed b = ⊥
IsCopied ins.Broken b = ⊥
IsCopied ins.NoMemory b = Unit {0}

abbrev pub IsClosed : Error → Type 0
IsClosed e = (e ≡ errors.ConnectionClosed) ⊎ (e ≡ errors.AlreadyClosed)

-- there was no memory for it, or for what the framing rules answer by themselves
abbrev pub IsOutOfMemory : Error → Type 0
IsOutOfMemory errors.OutOfMemory = Unit {0}
IsOutOfMemory (errors.Io cause) = error_kind cause ≡ kinds.OutOfMemory
IsOutOfMemory e = ⊥

-- the stream ended
abbrev pub IsEnd : Error → Type 0
IsEnd (errors.Protocol cause) = cause ≡ breaches.ResetWithoutClosingHandshake
IsEnd e = ⊥

-- there was nothing to read
abbrev pub Waits : Error → Type 0
Waits (errors.Io cause) = error_kind cause ≡ kinds.WouldBlock
Waits e = ⊥

-- the name of a failed read, where the stream is empty or not
abbrev pub Fails : FrameIn → Error → Bool → Type 0
Fails (ins.Binary bytes) e is_empty = ⊥
Fails ins.Text e is_empty = ⊥
Fails ins.Idle e is_empty = Waits e × (is_empty ≡ true)
Fails ins.Closed e is_empty = IsClosed e
Fails ins.Broken e is_empty = (IsClosed e → ⊥) × (IsOutOfMemory e → ⊥) × (Waits e → is_empty ≡ true → ⊥) × (IsEnd e → is_empty ≡ true → ⊥)
Fails ins.NoMemory e is_empty = IsOutside e ⊎ (IsEnd e × (is_empty ≡ true))

-- the name of a read's result
abbrev pub Names : FrameIn → Result Message Error → Bool → Type 0
Names returned (Ok (messages.Text s)) is_empty = returned ≡ ins.Text
Names returned (Ok (messages.Binary s)) is_empty = IsCopied returned s
Names returned (Ok (messages.Ping s)) is_empty = ⊥
Names returned (Ok (messages.Pong s)) is_empty = ⊥
Names returned (Ok (messages.Close frame)) is_empty = returned ≡ ins.Closed
Names returned (Err e) is_empty = Fails returned e is_empty

-- the reads of one call: pings and pongs, and then the one that is returned; or out of memory
pub record ReadsTo (returned : FrameIn) (old new : List (Result Message Error)) (is_empty : Bool) : Type 0 where
  pub passed : List (Result Message Error)
  pub are : All IsPassed passed
  pub last : ((r : Result Message Error) × (new ≡ old ++ (passed ++ r ∷ [])) × Names returned r is_empty) ⊎ ((returned ≡ ins.NoMemory) × ((more : List (Result Message Error)) × (new ≡ old ++ more)))

-- ---- calls

-- the bodies that came, after this result
abbrev pub came_with : FrameIn → List (List ℕ) → List (List ℕ)
came_with (ins.Binary b) came = came ++ b ∷ []
came_with ins.Text came = came
came_with ins.Idle came = came
came_with ins.Closed came = came
came_with ins.Broken came = came
came_with ins.NoMemory came = came

abbrev pub last_of : FrameIn → LastResult
last_of (ins.Binary b) = lasts.Binary
last_of ins.Text = lasts.Text
last_of ins.Idle = lasts.Idle
last_of ins.Closed = lasts.Closed
last_of ins.Broken = lasts.Broken
last_of ins.NoMemory = lasts.NoMemory

abbrev pub breaks_with : FrameIn → ℕ → ℕ
breaks_with (ins.Binary b) n = n
breaks_with ins.Text n = n
breaks_with ins.Idle n = n
breaks_with ins.Closed n = n
breaks_with ins.Broken n = one_more n
breaks_with ins.NoMemory n = n

-- nothing that was fed is left
abbrev pub AllRead : FrameIn → FramesView → Type 0
AllRead (ins.Binary b) new = Unit {0}
AllRead ins.Text new = Unit {0}
AllRead ins.Idle new = (new.fed ≡ []) × (new.left ≡ 0)
AllRead ins.Closed new = Unit {0}
AllRead ins.Broken new = Unit {0}
AllRead ins.NoMemory new = Unit {0}

-- more may wait than before: what the framing rules answer by themselves; nothing that was fed is lost
pub record AfterNext (returned : FrameIn) (old new : FramesView) : Type 0 where
  pub replies : List ℕ
  pub waiting : new.waiting ≡ old.waiting ++ replies
  pub came : new.came ≡ came_with returned old.came
  pub sent : new.sent ≡ old.sent
  pub last : new.last ≡ last_of returned
  pub refusals : new.refusals ≡ old.refusals
  pub breaks : new.breaks ≡ breaks_with returned old.breaks
  pub read : AllRead returned new
  pub fed : all_fed new ≡ all_fed old
  pub role : new.role ≡ old.role
  pub reads : ReadsTo returned old.reads new.reads (new.left == 0)

-- the bytes are one binary frame of this body, masked where a client sends it
pub record IsFrame (role : Role) (bytes body : List ℕ) : Type 0 where
  pub mask : Option (List ℕ)
  pub masked : IsMaskOf role mask
  pub is : bytes ≡ encode_frame (whole_header (codes.Data datas.Binary) mask) body

-- it comes after what waited
pub record IsSent (body : List ℕ) (old new : FramesView) : Type 0 where
  pub piece : List ℕ
  pub frame : IsFrame old.role piece body
  pub rest : new ≡ record old { waiting = old.waiting ++ piece; sent = old.sent ++ body ∷ [] }

-- after a refusal, and after out of memory, nothing else is changed
abbrev pub AfterSend : FrameOut → List ℕ → FramesView → FramesView → Type 0
AfterSend outs.Done b old new = IsSent b old new
AfterSend outs.Refused b old new = new ≡ record old { refusals = one_more old.refusals }
AfterSend outs.NoMemory b old new = new ≡ old

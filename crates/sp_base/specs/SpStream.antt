-- The texts of a link over a stream, and what they say, by how its messages are framed.
use Rattle.std.specs.Prelude.{◌++◌, ℕ, List, [], ◌∷◌}
use Rattle.sp_base.specs.SpTcp.{hello, frame, frames, shows, IsOversize}
use Rattle.sp_base.specs.SpIpc.{marked, marked_all, ipc_mark, ipc_shows, IsIpcBad}
use Rattle.sp_base.specs.declared.addr.Scheme.{Scheme}
use Rattle.sp_base.specs.declared.addr.Scheme.TheVariants as schemes
use Rattle.sp_base.specs.declared.framing.Framing.{Framing}
use Rattle.sp_base.specs.declared.framing.Framing.TheVariants as framings

-- how messages are framed on a link of this scheme: over IPC as of IPC, otherwise as of TCP
abbrev pub framing_for : Scheme → Framing
framing_for schemes.Tcp = framings.Tcp
framing_for schemes.Ws = framings.Tcp
framing_for schemes.Inproc = framings.Tcp
framing_for schemes.Ipc = framings.Ipc

-- the scheme whose links are framed so
abbrev pub scheme_under : Framing → Scheme
scheme_under framings.Tcp = schemes.Tcp
scheme_under framings.Ipc = schemes.Ipc

-- the bytes before a size
abbrev pub mark_of : Framing → List ℕ
mark_of framings.Tcp = []
mark_of framings.Ipc = ipc_mark

-- a message as it is written
abbrev pub stream_frame : Framing → List ℕ → List ℕ
stream_frame framings.Tcp body = frame body
stream_frame framings.Ipc body = marked ipc_mark body

abbrev pub stream_frames : Framing → List (List ℕ) → List ℕ
stream_frames framings.Tcp bodies = frames bodies
stream_frames framings.Ipc bodies = marked_all ipc_mark bodies

-- the text of a role with these bodies
abbrev pub stream_text : Framing → ℕ → List (List ℕ) → List ℕ
stream_text framing role bodies = hello role ++ stream_frames framing bodies

-- what s shows
abbrev pub stream_shows : Framing → ℕ → ℕ → List ℕ → List (List ℕ)
stream_shows framings.Tcp role max s = shows role max s
stream_shows framings.Ipc role max s = ipc_shows role max s

-- the bytes show messages, and then what is not allowed
abbrev pub IsStreamBad : Framing → ℕ → ℕ → List ℕ → Type 0
IsStreamBad framings.Tcp role max s = IsOversize role max s
IsStreamBad framings.Ipc role max s = IsIpcBad role max s

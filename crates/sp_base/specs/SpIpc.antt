-- SP over IPC (nng_ipc(7)): as SP over TCP, with a byte before each size. The same with any bytes there, since SP over
-- TCP has none.
use Rattle.std.specs.Prelude.{◌≡◌, ◌≤◌, ◌<◌, ◌+◌, ◌&&◌, ◌⊎◌, ◌++◌, ℕ, zero, suc, Bool, List, [], ◌∷◌, length, take, drop, if◌then◌else◌}
use Rattle.std.specs.List.{flat_map}
use Rattle.sp_base.specs.Outside.{IsPrefix}
use Rattle.sp_base.specs.SpTcp.{hello, frame, Fit, size_of, begins, starts, greets}

-- ---- with these bytes before each size

-- these bytes, the size of a message in 64 bits, and that many bytes
unfoldable pub marked : List ℕ → List ℕ → List ℕ
marked mark body = mark ++ frame body

unfoldable pub marked_all : List ℕ → List (List ℕ) → List ℕ
marked_all mark bodies = flat_map (marked mark) bodies

-- the text of a role with these bodies
abbrev pub marked_text : List ℕ → ℕ → List (List ℕ) → List ℕ
marked_text mark role bodies = hello role ++ marked_all mark bodies

-- a whole message of at most max bytes is at the front
abbrev pub marked_begins : List ℕ → ℕ → List ℕ → Bool
marked_begins mark max s = starts mark s && begins max (drop (length mark) s)

-- the bodies of the whole messages from the front on, at most k of them
unfoldable pub marked_bodies_in : List ℕ → ℕ → ℕ → List ℕ → List (List ℕ)
marked_bodies_in mark max zero s = []
marked_bodies_in mark max (suc k) s =
    let t = drop (length mark) s in
    if marked_begins mark max s then take (size_of t) (drop 8 t) ∷ marked_bodies_in mark max k (drop (8 + size_of t) t) else []

-- what s shows: the bodies of its whole messages after the greeting, up to the first that is bad or cut short
unfoldable pub marked_shows : List ℕ → ℕ → ℕ → List ℕ → List (List ℕ)
marked_shows mark role max s = if greets role s then marked_bodies_in mark max (length s) (drop 8 s) else []

-- the longest list of bodies that fit and whose text is a prefix of s; empty where there is none
pub record IsLongestMarked (mark : List ℕ) (role max : ℕ) (s : List ℕ) (bodies : List (List ℕ)) : Type 0 where
  pub fit : Fit max bodies
  pub shown : IsPrefix (marked_text mark role bodies) s ⊎ (bodies ≡ [])
  pub longest : (others : List (List ℕ)) → Fit max others → IsPrefix (marked_text mark role others) s → IsPrefix others bodies

-- ---- with the byte 01

abbrev pub ipc_mark : List ℕ
ipc_mark = 1 ∷ []

-- the greeting, and then for each body the byte 01 and its frame
abbrev pub ipc_text : ℕ → List (List ℕ) → List ℕ
ipc_text role bodies = marked_text ipc_mark role bodies

abbrev pub ipc_shows : ℕ → ℕ → List ℕ → List (List ℕ)
ipc_shows role max s = marked_shows ipc_mark role max s

-- a byte other than 01 where a message is to begin, or a size above max after 01
abbrev pub IsBadNext : ℕ → List ℕ → Type 0
IsBadNext max rest = ((b : ℕ) × (tail : List ℕ) × (rest ≡ b ∷ tail) × (b ≡ 1 → ⊥)) ⊎ ((tail : List ℕ) × (rest ≡ 1 ∷ tail) × (8 ≤ length tail) × (max < size_of tail))

-- the bytes show these messages, and then one of those
abbrev pub IsIpcBad : ℕ → ℕ → List ℕ → Type 0
IsIpcBad role max s = (rest : List ℕ) × (s ≡ ipc_text role (ipc_shows role max s) ++ rest) × IsBadNext max rest

-- ---- what a reader of the stream finds after whole messages

-- less than a whole message, and not a size above max
abbrev pub IsPart : ℕ → List ℕ → Type 0
IsPart max s = (length s < 8) ⊎ ((8 ≤ length s) × (size_of s ≤ max) × (length s < 8 + size_of s))

-- a size above max
abbrev pub IsTooLong : ℕ → List ℕ → Type 0
IsTooLong max s = (8 ≤ length s) × (max < size_of s)

-- less than a whole message, and nothing that is not allowed
abbrev pub IsMarkedPart : List ℕ → ℕ → List ℕ → Type 0
IsMarkedPart mark max s = ((rest : List ℕ) × (s ++ rest ≡ mark) × (0 < length rest)) ⊎ ((rest : List ℕ) × (s ≡ mark ++ rest) × IsPart max rest)

-- other bytes than the mark's, or a size above max after them
abbrev pub IsMarkedBad : List ℕ → ℕ → List ℕ → Type 0
IsMarkedBad mark max s = (¬ IsPrefix s mark × ¬ IsPrefix mark s) ⊎ ((rest : List ℕ) × (s ≡ mark ++ rest) × IsTooLong max rest)

-- Frames with the bytes before their sizes. SP over TCP has none there.
use Rattle.std.specs.Prelude.{◌≡◌, ◌≤◌, ◌+◌, ◌++◌, ℕ, List, length}
use Rattle.sp_base.specs.SpIpc.{marked, IsMarkedPart, IsMarkedBad}
use Rattle.sp_tcp.specs.declared.reader.Prefix.{Prefix}
use Rattle.sp_tcp.specs.declared.reader.Prefix.TheVariants as f

-- the number of bytes before a body
abbrev pub head_of : List ℕ → ℕ
head_of mark = length mark + 8

-- a mark has at most 8 bytes
abbrev pub IsMark : List ℕ → Type 0
IsMark mark = length mark ≤ 8

-- what is at the front
abbrev pub MarkedPrefixIs : List ℕ → ℕ → List ℕ → Prefix → Type 0
MarkedPrefixIs mark max s (f.Message body) = (length body.now ≤ max) × ((rest : List ℕ) × (s ≡ marked mark body.now ++ rest))
MarkedPrefixIs mark max s f.Part = IsMarkedPart mark max s
MarkedPrefixIs mark max s f.Oversize = IsMarkedBad mark max s

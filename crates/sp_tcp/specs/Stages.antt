-- What is gathered for one write.
use Rattle.std.specs.Prelude.{◌-◌, ◌++◌, ℕ, List, length, take, drop}
use Rattle.sp_tcp.specs.Views.{WriteStageView}

-- as much of a piece as there is room for, past its first bytes
abbrev pub added : WriteStageView → ℕ → List ℕ → WriteStageView
added s skip piece = record s { bytes = s.bytes ++ take (s.most - length s.bytes) (drop skip piece) }

-- as much of a text as there is room for, past its first bytes, and only that
abbrev pub gathered : WriteStageView → ℕ → List ℕ → WriteStageView
gathered s skip text = record s { bytes = take s.most (drop skip text) }

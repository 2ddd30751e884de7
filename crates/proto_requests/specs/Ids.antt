-- Ids of requests and of surveys, the first words of their messages.
use Rattle.std.specs.Prelude.{◌+◌, ◌^◌, ◌%◌, ℕ, List, [], take, drop}
use Rattle.sp_history.specs.declared.parts.Item.{Item}

-- the id after it: 31 bits that wrap around, below the top bit, which is set
abbrev pub number_after : ℕ → ℕ
number_after id = (id % 2 ^ 31 + 1) % 2 ^ 31 + 2 ^ 31

-- a raw frame as it is kept: its first word is the header
abbrev pub raw_item : ℕ → List ℕ → Item
raw_item p b = record { pipe = p; words = []; message = record { header = take 4 b; body = drop 4 b } }

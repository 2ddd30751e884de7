-- The hop count of pair version 1 (nng_pair(7)): the last byte of a message's first word, whose other bytes are zero.
use Rattle.std.specs.Prelude.{ℕ, ◌+◌, ◌==◌, ◌&&◌, nat_le, if◌then◌else◌, List, [], ◌∷◌, Option, Some, None}

-- the word with this count
abbrev pub hop_word : ℕ → List ℕ
hop_word n = 0 ∷ 0 ∷ 0 ∷ n ∷ []

-- the count of a frame, if it has one
abbrev pub hops_of : List ℕ → Option ℕ
hops_of (a ∷ b ∷ c ∷ n ∷ rest) = if (a == 0) && (b == 0) && (c == 0) then Some n else None
hops_of _ = None

-- the count with which a raw message that has this header goes out: one more, if the header is only a word with a count
-- of at most 254
abbrev pub next_hops : List ℕ → Option ℕ
next_hops (a ∷ b ∷ c ∷ n ∷ []) = if (a == 0) && (b == 0) && (c == 0) && nat_le n 254 then Some (n + 1) else None
next_hops _ = None

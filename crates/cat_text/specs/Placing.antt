-- Texts that are written into existing places.
use Rattle.std.specs.Prelude.{◌≡◌, ℕ, ◌==◌, ◌&&◌, nat_le, if◌then◌else◌, List, ◌++◌, length, take}

-- the piece is from `at` to `end`, and what is before it stays
pub record Puts (piece : List ℕ) (at end : ℕ) (old new : List ℕ) : Type 0 where
  pub same_length : length new ≡ length old
  pub text : take end new ≡ take at old ++ piece

-- what follows the backslash of a byte between quotes: - where the byte is printed as itself, x where two digits follow
abbrev pub letter : ℕ → ℕ
letter b = if b == 34 then 34 else if b == 92 then 92 else if b == 10 then 110 else if b == 13 then 114 else if b == 9 then 116 else if nat_le 32 b && nat_le b 126 then 45 else 120

abbrev pub first : ℕ → ℕ → ℕ
first b l = if l == 45 then b else 92

abbrev pub width : ℕ → ℕ
width l = if l == 45 then 1 else if l == 120 then 4 else 2

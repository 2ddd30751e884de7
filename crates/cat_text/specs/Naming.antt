-- The line that names a wrong word.
use Rattle.std.specs.Prelude.{ℕ, ◌<◌, ◌≤◌, List, [], ◌∷◌, ◌++◌, codes}
use Rattle.std.specs.List.{flat_map}
use Rattle.cat_text.specs.Printing.{quoted, in_quotes}

-- the word is at its end, as the format Quoted prints it, with the line feed of that format
abbrev pub naming : List ℕ → List ℕ
naming word = codes "nngcat: see nngcat --help; can't go on with " ++ in_quotes quoted word

-- what the format Quoted prints, except its line feed
abbrev pub between_quotes : List ℕ → List ℕ
between_quotes word = 34 ∷ flat_map quoted word ++ 34 ∷ []

-- the same without the line feed at its end
abbrev pub naming_line : List ℕ → List ℕ
naming_line word = codes "nngcat: see nngcat --help; can't go on with " ++ between_quotes word

abbrev pub IsBytes : List ℕ → Type 0
IsBytes [] = Unit {0}
IsBytes (b ∷ bytes) = (b < 256) × IsBytes bytes

-- each byte is one of those that a terminal shows, from 20 to 7e
abbrev pub IsQuiet : List ℕ → Type 0
IsQuiet [] = Unit {0}
IsQuiet (b ∷ bytes) = ((32 ≤ b) × (b ≤ 126)) × IsQuiet bytes

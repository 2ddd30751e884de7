-- The header lines of a head, by their names.
use Rattle.std.specs.Prelude.{ℕ, Bool, true, false, cond, ◌==◌, List, [], ◌∷◌, ◌++◌, map, bytes_eq, Option, None, Some}
use Rattle.std.specs.Char.{to_ascii_lowercase}
use Rattle.std.specs.List.{list_any}
use Rattle.httparse.specs.Ascii.{comma}
use Rattle.httparse.specs.Grammar.{Field, trim_ows}
use Rattle.httparse.specs.Spans.{name_and_value}

-- a name, and a value without the spaces and tabs around it
abbrev pub Lines : Type 0
Lines = List (List ℕ × List ℕ)

abbrev pub lines_of : List Field → Lines
lines_of fields = map name_and_value fields

-- equal except for the case of ASCII letters
unfoldable pub same_word : List ℕ → List ℕ → Bool
same_word a b = bytes_eq (map to_ascii_lowercase a) (map to_ascii_lowercase b)

-- the values of the lines with this name, in any case
abbrev pub values : List ℕ → Lines → List (List ℕ)
values name [] = []
values name (l ∷ ls) = cond (same_word l.0 name) (l.1 ∷ values name ls) (values name ls)

abbrev pub has_line : List ℕ → Lines → Bool
has_line name lines = list_any (λ l. same_word l.0 name) lines

-- the one value, if there is exactly one
abbrev pub sole : List (List ℕ) → Option (List ℕ)
sole [] = None
sole (v ∷ []) = Some v
sole (v ∷ w ∷ vs) = None

abbrev pub is_text : Option (List ℕ) → List ℕ → Bool
is_text None text = false
is_text (Some v) text = bytes_eq v text

-- the parts between commas, the first of which has begun
abbrev pub parts_from : List ℕ → List ℕ → List (List ℕ)
parts_from part [] = part ∷ []
parts_from part (b ∷ bs) = cond (b == comma) (part ∷ parts_from [] bs) (parts_from (part ++ b ∷ []) bs)

-- the parts between commas, without the spaces and tabs around each
unfoldable pub tokens : List ℕ → List (List ℕ)
tokens v = map trim_ows (parts_from [] v)

-- equal, or equal except for the case of ASCII letters
abbrev pub same_token : Bool → List ℕ → List ℕ → Bool
same_token exact a b = cond exact (bytes_eq a b) (same_word a b)

-- a value has this token
abbrev pub has_token : Bool → List ℕ → List ℕ → Bool
has_token exact token v = list_any (λ t. same_token exact t token) (tokens v)

-- one of the values has this word as a token, in any case; or exactly this text
abbrev pub has_word : List ℕ → List (List ℕ) → Bool
has_word word vs = list_any (has_token false word) vs

abbrev pub has_text : List ℕ → List (List ℕ) → Bool
has_text text vs = list_any (has_token true text) vs

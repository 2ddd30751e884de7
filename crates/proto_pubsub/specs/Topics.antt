-- How a context's topics are found.
use Rattle.std.specs.Prelude.{◌≡◌, ◌↔◌, ◌≤◌, ◌&&◌, ℕ, Bool, true, List, Vec, length, take, nat_le}
use Rattle.std.specs.List.{All, list_any}
use Rattle.std.specs.Ordering.{is_eq, nat_cmp}
use Rattle.std.specs.Cmp.Lexicographic.{slice_cmp}
use Rattle.sp_history.specs.Lists.{has}
use Rattle.sp_history.specs.Kept.{is_wanted_by}
use Rattle.sp_history.specs.Legal.{has_topic}

-- one of the keys has these bytes
abbrev pub is_known : {Z : Type 0} → List (Vec ℕ Z) → List ℕ → Bool
is_known ks b = list_any (λ k. is_eq (slice_cmp nat_cmp b k.items)) ks

-- the first n bytes of the body are a key
abbrev pub is_prefix : {Z : Type 0} → List (Vec ℕ Z) → List ℕ → ℕ → Bool
is_prefix ks body n = nat_le n (length body) && is_known ks (take n body)

-- the keys are the topics of this list, and their lengths are among these
abbrev pub IsIndex : {Z : Type 0} → List (Vec ℕ Z) → List ℕ → List (List ℕ) → Type 0
IsIndex ks lengths ts =
    ((b : List ℕ) → is_known ks b ≡ has_topic ts b) × ((b : List ℕ) → has_topic ts b ≡ true → has lengths (length b) ≡ true)

-- no topic has more than 1,024 bytes
abbrev pub AreShort : List (List ℕ) → Type 0
AreShort ts = All (λ t. length t ≤ 1024) ts

-- a topic is a prefix of the body exactly where a prefix of the body, of at most 1,024 bytes, is a topic
abbrev pub IsWantedByPrefix : List (List ℕ) → List ℕ → Type 0
IsWantedByPrefix ts body = (is_wanted_by ts body ≡ true) ↔ ((n : ℕ) × (n ≤ length body) × (n ≤ 1024) × (has_topic ts (take n body) ≡ true))

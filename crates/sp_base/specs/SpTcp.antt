-- SP over TCP (the nanomsg document "TCP mapping for scalability protocols"): the texts of a link, and what they say.
use Rattle.std.specs.Prelude.{◌≡◌, ◌≤◌, ◌<◌, ◌+◌, ◌&&◌, ◌⊎◌, ◌++◌, ◌==◌, ℕ, zero, suc, Bool, true, false, List, [], ◌∷◌, length, take, drop, nat_le, if◌then◌else◌, slice_index}
use Rattle.std.specs.List.{flat_map, AllByRecursion}
use Rattle.sp_base.specs.Outside.{IsPrefix}
use Rattle.std.specs.Int.{w16, w64, to_be_bytes, from_be_bytes}

-- the greeting of a role: 00 53 50 00, its number in 16 bits, 00 00
abbrev pub hello : ℕ → List ℕ
hello role = 0 ∷ 83 ∷ 80 ∷ 0 ∷ (to_be_bytes w16 role ++ 0 ∷ 0 ∷ [])

-- a message: its size in 64 bits, and that many bytes
unfoldable pub frame : List ℕ → List ℕ
frame body = to_be_bytes w64 (length body) ++ body

unfoldable pub frames : List (List ℕ) → List ℕ
frames bodies = flat_map frame bodies

-- the text of a role with these bodies
abbrev pub text : ℕ → List (List ℕ) → List ℕ
text role bodies = hello role ++ frames bodies

-- each body has at most max bytes
abbrev pub Fit : ℕ → List (List ℕ) → Type 0
Fit max bodies = AllByRecursion (λ b. length b ≤ max) bodies

abbrev pub IsBytes : List ℕ → Type 0
IsBytes s = (i : ℕ) → slice_index s i < 256

-- the number in the first 8 bytes
abbrev pub size_of : List ℕ → ℕ
size_of s = from_be_bytes w64 (take 8 s)

-- a whole message of at most max bytes is at the front
abbrev pub begins : ℕ → List ℕ → Bool
begins max s = nat_le 8 (length s) && (nat_le (size_of s) max && nat_le (8 + size_of s) (length s))

-- the bodies of the whole messages from the front on, at most k of them
unfoldable pub bodies_in : ℕ → ℕ → List ℕ → List (List ℕ)
bodies_in max zero s = []
bodies_in max (suc k) s = if begins max s then take (size_of s) (drop 8 s) ∷ bodies_in max k (drop (8 + size_of s) s) else []

-- s begins with these bytes, as a test
abbrev pub starts : List ℕ → List ℕ → Bool
starts [] s = true
starts (b ∷ prefix) [] = false
starts (b ∷ prefix) (x ∷ s) = b == x && starts prefix s

-- s begins with the greeting
abbrev pub greets : ℕ → List ℕ → Bool
greets role s = starts (hello role) s

-- what s shows: the bodies of its whole messages after the greeting, up to the first that is longer than max or cut
-- short
unfoldable pub shows : ℕ → ℕ → List ℕ → List (List ℕ)
shows role max s = if greets role s then bodies_in max (length s) (drop 8 s) else []

-- the longest list of bodies that fit and whose text is a prefix of s; empty where there is none
pub record IsLongest (role max : ℕ) (s : List ℕ) (bodies : List (List ℕ)) : Type 0 where
  pub fit : Fit max bodies
  pub shown : IsPrefix (text role bodies) s ⊎ (bodies ≡ [])
  pub longest : (others : List (List ℕ)) → Fit max others → IsPrefix (text role others) s → IsPrefix others bodies

-- the bytes show these messages and then a size above max
abbrev pub IsOversize : ℕ → ℕ → List ℕ → Type 0
IsOversize role max s = (rest : List ℕ) × (s ≡ text role (shows role max s) ++ rest) × (8 ≤ length rest) × (max < size_of rest)

-- what came is not the greeting of the role, nor a prefix of it
abbrev pub IsBadGreeting : ℕ → List ℕ → Type 0
IsBadGreeting role s = ¬ IsPrefix s (hello role) × ¬ IsPrefix (hello role) s

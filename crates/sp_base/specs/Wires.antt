-- What a wire shows.
use Rattle.std.specs.Prelude.{◌++◌, ℕ, Bool, List, [], ◌∷◌, length, Option, Some, None}
use Rattle.sp_base.specs.declared.addr.Scheme.{Scheme}
use Rattle.sp_base.specs.declared.addr.Scheme.TheVariants as schemes

abbrev pub scheme_number : Scheme → ℕ
scheme_number schemes.Tcp = 0
scheme_number schemes.Ws = 1
scheme_number schemes.Inproc = 2
scheme_number schemes.Ipc = 3

-- what a wire runs over: a link's place, the most bytes of a body, the number of the link's scheme, how often the link
-- had had nothing to read or had taken nothing when the wire was made, and where told the role numbers of the own
-- greeting and the peer's; the two lanes of a pair, each by the numbers that no other lane has; or nothing that has
-- a name
pub data WireName : Type 0 where
  OverLink : (place max scheme spent : ℕ) (own peer : Option ℕ) → WireName
  OverLanes : (out inward : List ℕ) → WireName
  Nameless : WireName

abbrev pub number_of : Option ℕ → List ℕ
number_of None = 0 ∷ []
number_of (Some n) = 1 ∷ n ∷ []

-- a wire's name as numbers, as a history keeps it
abbrev pub numbers_of : WireName → List ℕ
numbers_of (OverLink place max scheme spent own peer) = 0 ∷ place ∷ max ∷ scheme ∷ spent ∷ (number_of own ++ number_of peer)
numbers_of (OverLanes out inward) = 1 ∷ length out ∷ (out ++ inward)
numbers_of Nameless = 2 ∷ []

-- name: no call changes it. came: the bodies that were pulled, outs: the texts that were put, where told. waits: how
-- many of these are not wholly written. is_ready: room was found for one more. The counts: how often Failed, Full,
-- NotYet of a pull, NotYet of a flush and Refused were returned. is_open: calls other than shut are lawful. drains: a
-- flush is lawful after shut. ended and malformed: a pull returned that
pub record WireView : Type 0 where
  pub name : WireName
  pub came : Option (List (List ℕ))
  pub outs : Option (List (List ℕ))
  pub waits : ℕ
  pub is_ready : Bool
  pub faults : ℕ
  pub fulls : ℕ
  pub idles : ℕ
  pub stalls : ℕ
  pub refusals : ℕ
  pub is_open : Bool
  pub drains : Bool
  pub ended : Bool
  pub malformed : Bool

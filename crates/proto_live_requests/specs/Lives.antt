-- The live requests of a req, and how one is found by its context and by its id.
use Rattle.std.specs.Prelude.{◌≡◌, ℕ, Bool, true, false, is_some, List, length, Option, Some, None}
use Rattle.proto_requests.specs.Backlogs.{IsIndexed}
use Rattle.proto_requests.specs.Numbers.{is_known}
use Rattle.proto_requests.specs.Spots.{held}
use Rattle.proto_requests.specs.declared.spots.Spot.{Spot}
use Rattle.proto_live_requests.specs.declared.live.Live.{Live}

-- the live requests, in the order of their begins, and how many more there is room for
pub record LivesView : Type 0 where
  pub items : List Live
  pub room : ℕ

-- numbers are known by the contexts and by the ids of these requests, and no two share one
pub record AreFound (cs : List (ℕ × ℕ)) (ids : List (ℕ × ℕ)) (xs : List Live) : Type 0 where
  pub by_ctx : IsIndexed (λ (x : Live). x.ctx) (is_known cs) xs
  pub by_id : IsIndexed (λ (x : Live). x.id) (is_known ids) xs

-- the same, where the flag says so
abbrev pub AreIndexed : Bool → List (ℕ × ℕ) → List (ℕ × ℕ) → List Live → Type 0
AreIndexed indexed cs ids xs = indexed ≡ true → AreFound cs ids xs

-- it keeps a reply
abbrev pub is_answered : Option Live → Bool
is_answered None = false
is_answered (Some x) = is_some x.reply

-- they are known by their contexts and ids, where the flag says so, and this is the number of live requests
pub record AreKept (indexed : Bool) (cs ids : List (ℕ × ℕ)) (alive : ℕ) (ss : List (Spot Live)) : Type 0 where
  pub by_number : AreIndexed indexed cs ids (held ss)
  pub number : alive ≡ length (held ss)

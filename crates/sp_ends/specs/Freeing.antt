-- The fate of dialers whose links come back, and of those that are dialed.
use Rattle.std.specs.Prelude.{◌≡◌, ◌≤◌, ◌<◌, ◌+◌, ◌*◌, ◌⊎◌, ℕ, ⊤, List, [], ◌∷◌, Some, None, zero, suc}
use Rattle.std.specs.List.{AllByRecursion}
use Rattle.std.specs.FinMap.{get}
use Rattle.sp_base.specs.Views.{NetView}
use Rattle.sp_history.specs.Past.{now}
use Rattle.sp_ends.specs.declared.dialer.Dialer.{Dialer}
use Rattle.sp_ends.specs.DialMoments.{IsDueAt}
use Rattle.sp_ends.specs.DialerSteps.{IsSameDialer, IsFree, IsUnderWay, IsFreed}

-- the dialers are the same, one by one
abbrev pub AreSameDialers : List Dialer → List Dialer → Type 0
AreSameDialers [] [] = ⊤
AreSameDialers (d ∷ ds) (e ∷ es) = IsSameDialer d e × AreSameDialers ds es
AreSameDialers _ _ = ⊥

-- the dialers are freed, one by one
abbrev pub AreFreed : ℕ → ℕ → List Dialer → List Dialer → Type 0
AreFreed now place [] [] = ⊤
AreFreed now place (d ∷ ds) (e ∷ es) = IsFreed now place d e × AreFreed now place ds es
AreFreed now place _ _ = ⊥

-- ---- Links that come back

-- its link isn't back, if it was not before
abbrev pub KeepsLink : NetView → NetView → Dialer → Type 0
KeepsLink old new d = (place : ℕ) → d.place ≡ Some place → get old.back place ≡ None → get new.back place ≡ None

-- its link is back, and it is free
abbrev pub WasFreed : ℕ → NetView → Dialer → Dialer → Type 0
WasFreed now new d e = (place : ℕ) × (d.place ≡ Some place) × (get new.back place ≡ None → ⊥) × IsFree now e

-- the dialer is the same, unless its link came back
abbrev pub FreesOne : ℕ → NetView → NetView → Dialer → Dialer → Type 0
FreesOne now old new d e = ((e ≡ d) × KeepsLink old new d) ⊎ WasFreed now new d e

-- the dialers are freed where their links came back, one by one
abbrev pub FreesAll : ℕ → NetView → NetView → List Dialer → List Dialer → Type 0
FreesAll now old new [] [] = ⊤
FreesAll now old new (d ∷ ds) (e ∷ es) = FreesOne now old new d e × FreesAll now old new ds es
FreesAll now old new _ _ = ⊥

-- a net that got links back, and handed out others
pub record GotBack (old new : NetView) : Type 0 where
  pub opened : old.opened ≤ new.opened
  pub stays : (place : ℕ) → get new.back place ≡ None → get old.back place ≡ None
  pub others : (place : ℕ) → new.opened ≤ place → get new.back place ≡ get old.back place

-- links came back, and their dialers are free
pub record Frees (now : ℕ) (old new : NetView) (ds es : List Dialer) : Type 0 where
  pub net : GotBack old new
  pub dialers : FreesAll now old new ds es

-- ---- Dialing

-- it has the link that it got, or is free, or a connection of it is under way
abbrev pub HasRedialed : ℕ → NetView → NetView → Dialer → Type 0
HasRedialed now old new e =
    (IsFree now e ⊎ IsUnderWay now e) ⊎ ((place : ℕ) × (e.place ≡ Some place) × (old.opened ≤ place) × (place < new.opened) × (get old.back place ≡ None → get new.back place ≡ None))

-- it has tried, and the others are the same, unless their links came back
abbrev pub RedialsOne : ℕ → ℕ → NetView → NetView → List Dialer → List Dialer → Type 0
RedialsOne i now old new [] [] = ⊤
RedialsOne zero now old new (d ∷ ds) (e ∷ es) = HasRedialed now old new e × FreesAll now old new ds es
RedialsOne (suc i) now old new (d ∷ ds) (e ∷ es) = FreesOne now old new d e × RedialsOne i now old new ds es
RedialsOne _ now old new _ _ = ⊥

pub record Redials (i now : ℕ) (old new : NetView) (ds es : List Dialer) : Type 0 where
  pub net : GotBack old new
  pub dialers : RedialsOne i now old new ds es

-- some dialer has the link with this place
abbrev pub HasLink : ℕ → List Dialer → Type 0
HasLink place [] = ⊥
HasLink place (d ∷ ds) = (d.place ≡ Some place) ⊎ HasLink place ds

-- each link that was handed out from this place on is a dialer's, or is back
abbrev pub KnowsLinks : ℕ → NetView → List Dialer → Type 0
KnowsLinks first net ds = (place : ℕ) → first ≤ place → place < net.opened → HasLink place ds ⊎ (get net.back place ≡ None → ⊥)

-- the listeners brought at most 16 links each; every other link that was handed out is a dialer's, or is back
abbrev pub KnowsDialed : ℕ → NetView → NetView → List Dialer → Type 0
KnowsDialed listeners old new ds = (first : ℕ) × (first ≤ old.opened + 16 * listeners) × KnowsLinks first new ds

-- it has no link, and may dial
abbrev pub IsDue : ℕ → Dialer → Type 0
IsDue now d = (d.place ≡ None) × IsDueAt d.next now

-- it is the same, unless its link came back; or it was due, and was dialed
abbrev pub TurnsOne : ℕ → NetView → NetView → Dialer → Dialer → Type 0
TurnsOne now old new d e = FreesOne now old new d e ⊎ (IsDue now d × HasRedialed now old new e)

abbrev pub TurnsAll : ℕ → NetView → NetView → List Dialer → List Dialer → Type 0
TurnsAll now old new [] [] = ⊤
TurnsAll now old new (d ∷ ds) (e ∷ es) = TurnsOne now old new d e × TurnsAll now old new ds es
TurnsAll now old new _ _ = ⊥

-- all dialers after a turn of the ends
pub record Turns (now : ℕ) (old new : NetView) (ds es : List Dialer) : Type 0 where
  pub net : GotBack old new
  pub dialers : TurnsAll now old new ds es

-- none is due, except those with a connection under way
abbrev pub AreWaiting : ℕ → List Dialer → Type 0
AreWaiting now ds = AllByRecursion (λ d. IsDue now d → IsUnderWay now d) ds

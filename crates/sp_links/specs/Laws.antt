-- What holds of openings, whatever follows what came.
use Rattle.std.specs.Prelude.{◌≡◌, ◌++◌, List, ℕ}
use Rattle.sp_base.specs.declared.role.Role.{Role}
use Rattle.sp_links.specs.declared.way.Way.{Way}
use Rattle.sp_links.specs.Openings.{IsGood, IsBad, Owes}

module _ (role : Role) (way : Way) where
  -- what is right stays right
  abbrev pub StaysGood : Type 0
  StaysGood = (came more : List ℕ) → IsGood role way came → IsGood role way (came ++ more)

  -- what is wrong stays wrong
  abbrev pub StaysBad : Type 0
  StaysBad = (came more : List ℕ) → IsBad role way came → IsBad role way (came ++ more)

  -- nothing is both right and wrong
  abbrev pub IsNeverBoth : Type 0
  IsNeverBoth = (came : List ℕ) → IsGood role way came → IsBad role way came → ⊥

  -- only one text is owed
  abbrev pub OwesOne : Type 0
  OwesOne = (came a b : List ℕ) → Owes role way came a → Owes role way came b → a ≡ b

  -- what is owed for the peer's part stays owed, and nothing is added to it
  abbrev pub OwesNoMore : Type 0
  OwesNoMore = (came more owed : List ℕ) → IsGood role way came → Owes role way (came ++ more) owed → Owes role way came owed

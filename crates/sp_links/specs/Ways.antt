-- How links begin: what is written and what has to come before they carry messages.
use Rattle.std.specs.Prelude.{◌≡◌, ◌⊎◌, ◌≤◌, ℕ, ⊤, List, Some}
use Rattle.sp_base.specs.Outside.{IsPrefix, Told}
use Rattle.sp_base.specs.SpTcp.{hello, IsBadGreeting}
use Rattle.sp_base.specs.Views.{LinkView}
use Rattle.sp_base.specs.Roles.{role_number, role_peer}
use Rattle.sp_base.specs.declared.role.Role.{Role}
use Rattle.sp_base.specs.declared.addr.Scheme.{Scheme}
use Rattle.sp_base.specs.declared.addr.Scheme.TheVariants as schemes

-- the ways in which links of a run begin. For each: whether a link of this scheme may begin in this way; whether what
-- came begins with the peer's part, and that is right; whether it is wrong, whatever follows; and what has to be
-- written once it came
pub record Ways : Type 1 where
  pub Way : Type 0
  pub IsOf : Scheme → Way → Type 0
  pub IsGood : Way → List ℕ → Type 0
  pub IsBad : Way → List ℕ → Type 0
  pub Owes : Way → List ℕ → List ℕ → Type 0

-- the number of the peer's role
abbrev pub peer_number : Role → ℕ
peer_number role = role_number (role_peer role)

-- only over TCP: the own greeting is owed from the start, and the peer's is expected
abbrev pub greetings : Role → Ways
greetings role =
    record { Way = ⊤; IsOf = λ scheme way. scheme ≡ schemes.Tcp; IsGood = λ way came. IsPrefix (hello (peer_number role)) came; IsBad = λ way came. IsBadGreeting (peer_number role) came; Owes = λ way came owed. owed ≡ hello (role_number role) }

module _ (ways : Ways) (way : ways.Way) (link : LinkView) where
  -- where the link is told, this holds of what came and what was written
  abbrev pub Telling : (List ℕ → List ℕ → Type 0) → Type 0
  Telling Fact = Told link.came (λ came. Told link.written (λ written. Fact came written))

  -- complete: what came is good, and all that is owed for it is written
  abbrev pub IsComplete : Type 0
  IsComplete = (came written : List ℕ) × (link.came ≡ Some came) × (link.written ≡ Some written) × ways.IsGood way came × ways.Owes way came written

  -- what came is wrong
  abbrev pub IsSpoilt : Type 0
  IsSpoilt = Told link.came (ways.IsBad way)

  -- for a link that was given up, or not done, before it carried messages: a part of what was owed is missing only
  -- where the link once took nothing
  abbrev pub WroteOrStalled : Type 0
  WroteOrStalled = Telling (λ came written. (owed : List ℕ) → ways.Owes way came owed → IsPrefix owed written ⊎ (1 ≤ link.stalls))

  -- for a link that carries messages: what came is good, and all that was owed for it was written first
  abbrev pub HasOpened : Type 0
  HasOpened = Telling (λ came written. ways.IsGood way came × ((owed : List ℕ) → ways.Owes way came owed → IsPrefix owed written))

-- the link began in one of the ways of its scheme, and this holds of it
abbrev pub BeganSo : (ways : Ways) → LinkView → (ways.Way → Type 0) → Type 0
BeganSo ways link Fact = (way : ways.Way) × ways.IsOf link.scheme way × Fact way

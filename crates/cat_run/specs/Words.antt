-- What a run returns for words that have no plan.
use Rattle.std.specs.Prelude.{◌≡◌, ◌⊎◌, ℕ, List}
use Rattle.cat_text.specs.Plans.{IsPlanned, IsUsage}
use Rattle.cat_play.specs.declared.status.Status.{Status}
use Rattle.cat_play.specs.declared.status.Status.TheVariants as status

-- Exactly wrong words are named, at the first place from which no list of words with a plan goes on. The only other
-- result for them is out of memory
pub record StatusOfWords (s : Status) (words : List (List ℕ)) : Type 0 where
  pub usage : (at : ℕ) → s ≡ status.Usage at → IsUsage words at
  pub wrong : (IsPlanned words → ⊥) → ((at : ℕ) × (s ≡ status.Usage at)) ⊎ (s ≡ status.NoMemory)

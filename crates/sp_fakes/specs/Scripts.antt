-- What the steps of a link give, and the result of a write on it.
use Rattle.std.specs.Prelude.{◌≡◌, ◌≤◌, ◌<◌, ◌++◌, ◌⊎◌, ℕ, zero, suc, Bool, true, false, List, [], ◌∷◌, length, take, drop, min}
use Rattle.sp_base.specs.declared.outside.LinkRead.{LinkRead}
use Rattle.sp_base.specs.declared.outside.LinkRead.TheVariants as reads
use Rattle.sp_base.specs.declared.outside.LinkWrite.{LinkWrite}
use Rattle.sp_base.specs.declared.outside.LinkWrite.TheVariants as writes
use Rattle.sp_msg.specs.Marks.{one_more}
use Rattle.sp_fakes.specs.Calls.{Calls}
use Rattle.sp_fakes.specs.declared.link.LinkStep.{LinkStep}
use Rattle.sp_fakes.specs.declared.link.LinkStep.TheVariants as steps

-- the bytes of a step
abbrev pub step_bytes : LinkStep → List ℕ
step_bytes (steps.Bytes b) = b
step_bytes steps.NotYet = []
step_bytes (steps.After n) = []
step_bytes steps.End = []
step_bytes steps.Fail = []

-- the bytes of the first `at` steps, and the first `offset` bytes of the next one
abbrev pub given : List LinkStep → ℕ → ℕ → List ℕ
given [] at offset = []
given (step ∷ rest) zero offset = take offset (step_bytes step)
given (step ∷ rest) (suc at) offset = step_bytes step ++ given rest at offset

-- the steps, without the first `offset` bytes of the first one
abbrev pub cut : ℕ → List LinkStep → List LinkStep
cut offset [] = []
cut offset (steps.Bytes b ∷ rest) = steps.Bytes (drop offset b) ∷ rest
cut offset (steps.NotYet ∷ rest) = steps.NotYet ∷ rest
cut offset (steps.After n ∷ rest) = steps.After n ∷ rest
cut offset (steps.End ∷ rest) = steps.End ∷ rest
cut offset (steps.Fail ∷ rest) = steps.Fail ∷ rest

-- what is left of a script
abbrev pub left_at : List LinkStep → ℕ → ℕ → List LinkStep
left_at script at offset = cut offset (drop at script)

-- a step that has nothing more to give, where `written` bytes were written
abbrev pub IsSpent : LinkStep → ℕ → ℕ → Type 0
IsSpent (steps.Bytes b) offset written = length b ≤ offset
IsSpent (steps.After n) offset written = n ≤ written
IsSpent steps.NotYet offset written = ⊥
IsSpent steps.End offset written = ⊥
IsSpent steps.Fail offset written = ⊥

-- and a step that has more to give
abbrev pub HasLeft : LinkStep → ℕ → ℕ → Type 0
HasLeft (steps.Bytes b) offset written = offset < length b
HasLeft (steps.After n) offset written = written < n
HasLeft steps.NotYet offset written = Unit {0}
HasLeft steps.End offset written = Unit {0}
HasLeft steps.Fail offset written = Unit {0}

-- what a read gives, by the steps that are left, and the steps left after it. Bytes come in pieces of at most the
-- buffer's length; a step without bytes is skipped, and so is a wait for bytes that were written; the end stays, and
-- after the last step nothing is there, forever.
abbrev pub GivesNext : ℕ → List LinkStep → LinkRead → List ℕ → List LinkStep → Type 0
GivesNext written [] result buf left = (result ≡ reads.NotYet) × (left ≡ [])
GivesNext written (steps.Bytes [] ∷ rest) result buf left = GivesNext written rest result buf left
GivesNext written (steps.Bytes (b ∷ bs) ∷ rest) result buf left =
    let n : ℕ = min (length (b ∷ bs)) (length buf) in
    (result ≡ reads.Got n) × (take n buf ≡ take n (b ∷ bs)) × (left ≡ steps.Bytes (drop n (b ∷ bs)) ∷ rest)
GivesNext written (steps.NotYet ∷ rest) result buf left = (result ≡ reads.NotYet) × (left ≡ rest)
GivesNext written (steps.After n ∷ rest) result buf left =
    ((n ≤ written) × GivesNext written rest result buf left) ⊎ ((written < n) × (result ≡ reads.NotYet) × (left ≡ steps.After n ∷ rest))
GivesNext written (steps.End ∷ rest) result buf left = (result ≡ reads.Ended) × (left ≡ steps.End ∷ rest)
GivesNext written (steps.Fail ∷ rest) result buf left = (result ≡ reads.Failed) × (left ≡ rest)

-- a link whose end was read is at an end
abbrev pub stands_at_end : Bool → List LinkStep → ℕ → Bool
stands_at_end false script at = true
stands_at_end true [] at = false
stands_at_end true (steps.End ∷ rest) zero = true
stands_at_end true (steps.Bytes b ∷ rest) zero = false
stands_at_end true (steps.NotYet ∷ rest) zero = false
stands_at_end true (steps.After n ∷ rest) zero = false
stands_at_end true (steps.Fail ∷ rest) zero = false
stands_at_end true (step ∷ rest) (suc at) = stands_at_end true rest at

-- what is left of the steps, the maximum number of bytes that a write takes, and the writes with those of them that
-- fail
pub record LinkScript : Type 0 where
  pub left : List LinkStep
  pub most : ℕ
  pub writes : Calls

-- a fault of a read is one that its script has
abbrev pub faults_read : LinkRead → ℕ → ℕ
faults_read (reads.Got n) faults = faults
faults_read reads.NotYet faults = faults
faults_read reads.Ended faults = faults
faults_read reads.Failed faults = one_more faults

-- a read changes only what is left of the steps
pub record ReadBy (written : ℕ) (result : LinkRead) (buf : List ℕ) (old new : LinkScript) : Type 0 where
  pub gives : GivesNext written old.left result buf new.left
  pub most : new.most ≡ old.most
  pub writes : new.writes ≡ old.writes

-- a write fails if it is listed, or there is no memory for it; nothing is taken exactly where no write takes anything
abbrev pub WrittenBy : LinkWrite → Bool → ℕ → ℕ → Type 0
WrittenBy (writes.Took n) listed most size = (listed ≡ false) × (n ≡ min size most)
WrittenBy writes.NotYet listed most size = (listed ≡ false) × (most ≡ 0)
WrittenBy writes.Failed listed most size = (listed ≡ true) ⊎ (0 < most)

abbrev pub faults_written : LinkWrite → ℕ → ℕ
faults_written (writes.Took n) faults = faults
faults_written writes.NotYet faults = faults
faults_written writes.Failed faults = one_more faults

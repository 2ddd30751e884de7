-- What each result means, as the contracts of the calls say it.
use Rattle.std.specs.Prelude.{◌≡◌, ℕ, true, ◌+◌, ◌-◌, ◌^◌, ◌<◌, slice_index, slice_set}
use Rattle.sp_base.specs.declared.OpName.{OpName}
use Rattle.aio_word.specs.declared.phase.Phase.{Phase}
use Rattle.aio_word.specs.declared.phase.Phase.TheVariants.{Pending}
use Rattle.aio_word.specs.declared.rule.WordsView.{WordsView}
use Rattle.aio_word.specs.declared.results.Decided.{Decided}
use Rattle.aio_word.specs.declared.results.Decided.TheVariants.{Mine, Other}
use Rattle.aio_word.specs.declared.results.Raced.{Raced}
use Rattle.aio_word.specs.declared.results.Raced.TheVariants as raced
use Rattle.aio_word.specs.declared.results.Polled.{Polled}
use Rattle.aio_word.specs.declared.results.Polled.TheVariants as polled
use Rattle.aio_word.specs.Word.{is_decided}
use Rattle.aio_word.specs.Views.{saw}
use Rattle.aio_word.specs.Results.{CoreSaw, CoreTook, CallTook, CallEnded, CallStale, of_op}

-- the next generation of the slot has begun
abbrev pub BeganAt : WordsView → OpName → WordsView → Type 0
BeganAt v op w = (op.generation ≡ slice_index v.generations op.slot + 1) × (op.generation < 2 ^ 40) × (w ≡ record v { generations = slice_set v.generations op.slot op.generation })

-- the name of the slot's next operation
abbrev pub IsNextName : WordsView → OpName → Type 0
IsNextName v op = (op.generation ≡ slice_index v.generations op.slot + 1) × (op.generation < 2 ^ 40)

-- the slot has had its last generation
abbrev pub IsWorn : WordsView → ℕ → Type 0
IsWorn v slot = slice_index v.generations slot ≡ 2 ^ 40 - 1

abbrev pub MatchDecided : Decided → WordsView → OpName → Phase → WordsView → Type 0
MatchDecided Mine v op to w = CoreTook v op to w
MatchDecided (Other phase by) v op to w = (is_decided phase ≡ true) × CoreSaw v (of_op op phase by) w

-- a name that a word can show
abbrev pub IsOpen : ℕ → OpName → Type 0
IsOpen slots op = (op.slot < slots) × (0 < op.generation)

abbrev pub MatchRaced : Raced → WordsView → ℕ → OpName → Phase → WordsView → Type 0
MatchRaced raced.Won v slots op to w = IsOpen slots op × CallTook v op to w
MatchRaced (raced.Ended phase by) v slots op to w = IsOpen slots op × CallEnded v op phase by w
MatchRaced raced.Stale v slots op to w = CallStale v slots op w

abbrev pub MatchPolled : Polled → WordsView → ℕ → OpName → WordsView → Type 0
MatchPolled polled.Pending v slots op w = IsOpen slots op × (w ≡ saw v (of_op op Pending 0))
MatchPolled (polled.Ended phase by) v slots op w = IsOpen slots op × CallEnded v op phase by w
MatchPolled polled.Stale v slots op w = CallStale v slots op w

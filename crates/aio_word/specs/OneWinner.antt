-- What is true of the words and of all seats at every moment, between any two steps of any threads.
use Rattle.std.specs.Prelude.{◌≡◌, ◌≢◌, ◌⊎◌, ◌↔◌, ℕ, ◌<◌, ◌≤◌, true, false, List, length, slice_index}
use mathlib.Core.Option.{some}
use lib.ListN.{get_elem?}
use Rattle.aio_word.specs.declared.phase.Phase.TheVariants.{Idle}
use Rattle.aio_word.specs.declared.rule.ShownOperation.{ShownOperation}
use Rattle.aio_word.specs.declared.rule.JoinedWins.{JoinedWins}
use Rattle.aio_word.specs.declared.rule.SeatRole.TheVariants.{Core, Caller, Spent}
use Rattle.aio_word.specs.declared.rule.WordsView.{WordsView}
use Rattle.aio_word.specs.Word.{generation_of, phase_of, by_of, is_decided}
use Rattle.aio_word.specs.Views.{shown, times, Stands}
use Rattle.aio_word.specs.Rule.{Lawful, owns}

abbrev pub HasView : List WordsView → WordsView → Type 0
HasView views v = (j : ℕ) × (get_elem? views j ≡ some v)

abbrev pub HasCore : List WordsView → WordsView → Type 0
HasCore views c = HasView views c × (c.role ≡ Core)

-- these are the wins of the number k, in its own seat, or in the core's where that seat was joined
abbrev pub HasWins : List WordsView → ℕ → List ShownOperation → Type 0
HasWins views k wins =
    (v : WordsView) × HasView views v
    × (((v.role ≡ Caller) × (v.number ≡ k) × (v.wins ≡ wins))
    ⊎ ((v.role ≡ Core) × Stands (let x : JoinedWins = record { number = k; wins = wins } in x) v.kept))

abbrev pub IsSame : ShownOperation → ShownOperation → Type 0
IsSame e d = (d.slot ≡ e.slot) × (d.generation ≡ e.generation)

-- an operation that was begun, according to the core's view
abbrev pub WasBegun : ℕ → WordsView → ShownOperation → Type 0
WasBegun n c e = (e.slot < n) × (0 < e.generation) × (e.generation ≤ slice_index c.generations e.slot)

pub record OneWinner (n : ℕ) (words : List ℕ) (views : List WordsView) : Type 0 where
  pub wide : length words ≡ n
  -- there is one core's view, and each number from 1 to `made` has its wins in a view
  pub core : (c : WordsView) × HasCore views c
  pub one_core : (c d : WordsView) → HasCore views c → HasCore views d → c ≡ d
  pub all_wins : (c : WordsView) → HasCore views c → (k : ℕ) → 0 < k → k ≤ c.made → (wins : List ShownOperation) × HasWins views k wins
  -- the word's generation is the core's. It is idle exactly at generation 0
  pub generations : (c : WordsView) → HasCore views c → (length c.generations ≡ n) × ((i : ℕ) → i < n → generation_of (slice_index words i) ≡ slice_index c.generations i)
  pub idle : (i : ℕ) → i < n → (phase_of (slice_index words i) ≡ Idle) ↔ (generation_of (slice_index words i) ≡ 0)
  -- idle, pending and the core's ends name 0, the others a caller
  pub lawful : (i : ℕ) → i < n → Lawful (phase_of (slice_index words i)) (by_of (slice_index words i))
  -- idle or pending: no ends and no wins have the operation
  pub open_ends : (c : WordsView) → HasCore views c → (i : ℕ) → i < n → is_decided (phase_of (slice_index words i)) ≡ false → times i (generation_of (slice_index words i)) c.ends ≡ 0
  pub open_wins : (k : ℕ) (wins : List ShownOperation) → HasWins views k wins → (i : ℕ) → i < n → is_decided (phase_of (slice_index words i)) ≡ false → times i (generation_of (slice_index words i)) wins ≡ 0
  -- decided by the core: the ends have it with this phase, once
  pub core_ends : (c : WordsView) → HasCore views c → (i : ℕ) → i < n → is_decided (phase_of (slice_index words i)) ≡ true → by_of (slice_index words i) ≡ 0
      → (times i (generation_of (slice_index words i)) c.ends ≡ 1) × Stands (shown i (slice_index words i)) c.ends
  -- decided: it is once in the wins of the one who decided it, and in no other's
  pub now_wins : (k : ℕ) (wins : List ShownOperation) → HasWins views k wins → (i : ℕ) → i < n → is_decided (phase_of (slice_index words i)) ≡ true
      → (times i (generation_of (slice_index words i)) wins ≡ owns (by_of (slice_index words i)) k) × (by_of (slice_index words i) ≡ k → Stands (shown i (slice_index words i)) wins)
  -- the ends have an operation at most once, and the word's own only as the word shows it
  pub once : (c : WordsView) → HasCore views c → (i g : ℕ) → times i g c.ends ≤ 1
  pub now_ends : (c : WordsView) → HasCore views c → (i : ℕ) → i < n → (e : ShownOperation) → Stands e c.ends → IsSame (shown i (slice_index words i)) e → e ≡ shown i (slice_index words i)
  -- each earlier generation is in the ends once
  pub past : (c : WordsView) → HasCore views c → (i g : ℕ) → i < n → 0 < g → g < slice_index c.generations i → times i g c.ends ≡ 1
  -- where an end names a caller, it is once in that caller's wins; no other's have it
  pub past_wins : (c : WordsView) → HasCore views c → (k : ℕ) (wins : List ShownOperation) → HasWins views k wins → (e : ShownOperation) → Stands e c.ends
      → (times e.slot e.generation wins ≡ owns e.by k) × (e.by ≡ k → Stands e wins)
  pub agree : (c : WordsView) → HasCore views c → (k : ℕ) (wins : List ShownOperation) → HasWins views k wins → (e d : ShownOperation) → Stands e c.ends → Stands d wins → IsSame e d → d ≡ e
  -- nothing else is in ends or wins
  pub only_ends : (c : WordsView) → HasCore views c → (e : ShownOperation) → Stands e c.ends → WasBegun n c e × (is_decided e.phase ≡ true) × Lawful e.phase e.by
  pub only_wins : (c : WordsView) → HasCore views c → (k : ℕ) (wins : List ShownOperation) → HasWins views k wins → (e : ShownOperation) → Stands e wins → WasBegun n c e × (is_decided e.phase ≡ true) × Lawful e.phase e.by × (e.by ≡ k) × (0 < k)
  -- no operation is in the wins of two
  pub apart : (k l : ℕ) (wins others : List ShownOperation) → HasWins views k wins → HasWins views l others → (e d : ShownOperation) → Stands e wins → Stands d others → IsSame e d → k ≡ l
  -- no number above `made` is named, by a word or an end
  pub numbers : (c : WordsView) → HasCore views c → (i : ℕ) → i < n → by_of (slice_index words i) ≤ c.made
  pub end_numbers : (c : WordsView) → HasCore views c → (e : ShownOperation) → Stands e c.ends → e.by ≤ c.made
  -- a read that was decided is what the word shows, or what the ends have
  pub reads : (c : WordsView) → HasCore views c → (v : WordsView) → HasView views v → v.role ≢ Spent → (e : ShownOperation) → Stands e v.reads → is_decided e.phase ≡ true
      → WasBegun n c e × ((e ≡ shown e.slot (slice_index words e.slot)) ⊎ Stands e c.ends)

-- there was a moment at which all this held of this many words, and at which a seat had this view
abbrev pub IsKnown : ℕ → WordsView → Type 0
IsKnown slots v = (words : List ℕ) × (views : List WordsView) × OneWinner slots words views × HasView views v

-- the same for a caller's view
abbrev pub IsKnownCaller : ℕ → WordsView → Type 0
IsKnownCaller slots v = (v.role ≡ Caller) × IsKnown slots v

-- the same for the core's view
abbrev pub IsKnownCore : ℕ → WordsView → Type 0
IsKnownCore slots v = (v.role ≡ Core) × IsKnown slots v

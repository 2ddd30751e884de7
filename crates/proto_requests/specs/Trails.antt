-- The words of a backtrace.
use Rattle.std.specs.Prelude.{◌≡◌, ℕ, ◌++◌, List, [], ◌∷◌}
use Rattle.sp_msg.specs.Views.{MessageView}
use Rattle.sp_history.specs.Lists.{word}
use Rattle.sp_history.specs.Backtrace.{back}
use Rattle.sp_history.specs.declared.parts.Back.{Back}
use Rattle.sp_history.specs.declared.parts.Back.TheVariants as found
use Rattle.proto_requests.specs.declared.trail.Trail.{Trail}
use Rattle.proto_requests.specs.declared.trail.Trail.TheVariants as trails

abbrev pub trail_of : Back → Trail
trail_of (found.Found words rest) = trails.Whole
trail_of found.TooFar = trails.TooFar
trail_of found.Short = trails.Short

-- the words, each in 4 bytes
abbrev pub bytes_of : List ℕ → List ℕ
bytes_of [] = []
bytes_of (w ∷ ws) = word w ++ bytes_of ws

-- the words of a whole backtrace go from the body to the list
abbrev pub Moves : ℕ → MessageView → MessageView → List ℕ → List ℕ → Type 0
Moves hops old new ws vs =
    (words rest : List ℕ) → back hops old.body ≡ found.Found words rest → (new ≡ record old { body = rest }) × (bytes_of vs ≡ bytes_of ws ++ words)

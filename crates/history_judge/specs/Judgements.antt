-- The meaning of a verdict.
use Rattle.std.specs.Prelude.{ℕ, List, [], ◌∷◌, Option, Some, None}
use Rattle.turn_lock.specs.declared.turn.Turn.{Turn}
use Rattle.sp_history.specs.declared.entry.Entry.{Entry}
use Rattle.sp_history.specs.declared.entry.Entry.TheVariants.{Full}
use Rattle.sp_history.specs.declared.setting.Setting.{Setting}
use Rattle.sp_history.specs.Legal.{LegalFrom}
use Rattle.sp_history.specs.Settled.{SettledFrom}
use Rattle.history_judge_rules.specs.declared.faults.Fault.{Fault}
use Rattle.history_judge.specs.declared.judgement.Judgement.{Judgement}
use Rattle.history_judge.specs.declared.judgement.Judgement.TheVariants.{Right, Illegal, Unsettled}

-- the meaning of the verdict, where these are the facts that the history is legal and that it is settled
abbrev pub JudgesAs : Judgement → Type 0 → Type 0 → Type 0
JudgesAs Right L S = L × S
JudgesAs (Illegal f) L S = L → ⊥
JudgesAs (Unsettled f) L S = L × (S → ⊥)

-- for a history that continues this past
abbrev pub JudgesFrom : Judgement → Setting → List Entry → List (Turn Entry) → Type 0
JudgesFrom v z past turns = JudgesAs v (LegalFrom z past turns) (SettledFrom z past turns)

-- the meaning of the verdict on a history
abbrev pub Judges : Judgement → Setting → List (Turn Entry) → Type 0
Judges v z history = JudgesFrom v z [] history

-- the pipes that were found full, for the entries of a turn, the newest first
abbrev pub full_pipes : List Entry → List ℕ
full_pipes [] = []
full_pipes (Full p ∷ turn) = p ∷ full_pipes turn
full_pipes (_ ∷ turn) = full_pipes turn

-- the verdict on a turn and on the turns after it
abbrev pub verdict_of : Option Fault → Option Fault → Judgement → Judgement
verdict_of (Some f) u rest = Illegal f
verdict_of None (Some f) (Illegal g) = Illegal g
verdict_of None (Some f) _ = Unsettled f
verdict_of None None rest = rest

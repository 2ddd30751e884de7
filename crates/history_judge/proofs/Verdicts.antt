-- The verdict on a turn and on the turns after it.
use Rattle.std.proofs.Common.{Option, Some, None}
use Rattle.history_judge_rules.specs.declared.faults.Fault.{Fault}
use Rattle.history_judge.specs.declared.judgement.Judgement.{Judgement}
use Rattle.history_judge.specs.declared.judgement.Judgement.TheVariants.{Right, Illegal, Unsettled}
use Rattle.history_judge_rules.specs.Faults.{Finds}
use Rattle.history_judge.specs.Judgements.{JudgesAs, verdict_of}

pub judged : (L S LS SS : Type 0) (illegal left : Option Fault) (rest : Judgement) → Finds illegal L → Finds left S → JudgesAs rest LS SS → JudgesAs (verdict_of illegal left rest) (L × LS) (S × SS)
judged L S LS SS (Some f) left rest a b c = λ h. a h.0
judged L S LS SS None None Right a b c = ((a, c.0), (b, c.1))
judged L S LS SS None None (Illegal g) a b c = λ h. c h.1
judged L S LS SS None None (Unsettled g) a b c = ((a, c.0), λ h. c.1 h.1)
judged L S LS SS None (Some f) Right a b c = ((a, c.0), λ h. b h.0)
judged L S LS SS None (Some f) (Illegal g) a b c = λ h. c h.1
judged L S LS SS None (Some f) (Unsettled g) a b c = ((a, c.0), λ h. b h.0)

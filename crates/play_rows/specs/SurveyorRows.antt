-- Example records of a surveyor: each with the rules that it breaks, none where it is a play.
use Rattle.std.specs.Prelude.{◌≡◌, List, [], ◌∷◌, ◌++◌, Some, None, codes}
use Rattle.sp_base.specs.declared.role.Role.TheVariants.{Surveyor}
use Rattle.turn_lock.specs.declared.turn.Turn.{Turn}
use Rattle.sp_history.specs.declared.entry.Entry.{Entry}
use Rattle.sp_history.specs.declared.entry.RecordedAct.TheVariants.{Recv, Send}
use Rattle.sp_history.specs.declared.entry.Completion.TheVariants.{Received, Sent}
use Rattle.sp_history.specs.declared.entry.Cause.TheVariants.{SurveyOver}
use Rattle.sp_history.specs.declared.entry.Why.TheVariants as whys
use Rattle.sp_history.specs.declared.entry.Ending.TheVariants.{Won, Gone}
use Rattle.sp_history.specs.declared.entry.Entry.TheVariants.{Up, Down, Frame, Out, Quiet, Clear, Begin, End, Took, Tick, Close}
use Rattle.sp_history.specs.Frames.{message}
use Rattle.cat_play.specs.Rules.{broken}
use Rattle.cat_play.specs.Rules as rules
use Rattle.play_rows.specs.Rows.{socket, bare, turn, op, unnamed, gives}

-- two responses in time, then the survey is over while a receive waits, and counts
abbrev pub survey : List (Turn Entry)
survey =
    turn (Tick 0 [] ∷ [])
    ∷ turn (Up 1 1 1048576 unnamed ∷ [])
    ∷ turn (Clear 1 ∷ Quiet 1 ∷ [])
    ∷ turn (Begin (op 0 1) 1 0 (Send (message [] (codes "s"))) None ∷ Out 1 (128 ∷ 0 ∷ 0 ∷ 0 ∷ codes "s") ∷ End (op 0 1) (Won Sent) ∷ [])
    ∷ turn (Tick 1 [] ∷ [])
    ∷ turn (Clear 1 ∷ Frame 1 (128 ∷ 0 ∷ 0 ∷ 0 ∷ codes "a") ∷ Frame 1 (128 ∷ 0 ∷ 0 ∷ 0 ∷ codes "b") ∷ Quiet 1 ∷ [])
    ∷ turn (Took (op 0 1) 1 ∷ [])
    ∷ turn (Begin (op 0 2) 1 0 Recv None ∷ End (op 0 2) (Won (Received (message [] (codes "a")))) ∷ [])
    ∷ turn (Tick 2 [] ∷ [])
    ∷ turn (Clear 1 ∷ Quiet 1 ∷ [])
    ∷ turn (Took (op 0 2) 1 ∷ [])
    ∷ turn (Begin (op 0 3) 1 0 Recv None ∷ End (op 0 3) (Won (Received (message [] (codes "b")))) ∷ [])
    ∷ turn (Tick 3 [] ∷ [])
    ∷ turn (Clear 1 ∷ Quiet 1 ∷ [])
    ∷ turn (Took (op 0 3) 1 ∷ [])
    ∷ turn (Begin (op 0 4) 1 0 Recv None ∷ [])
    ∷ turn (Tick 1000 [] ∷ End (op 0 4) (Gone SurveyOver 0) ∷ [])
    ∷ turn (Clear 1 ∷ Quiet 1 ∷ [])
    ∷ turn (Took (op 0 4) 1 ∷ [])
    ∷ turn (Tick 1001 [] ∷ [])
    ∷ turn (Clear 1 ∷ Quiet 1 ∷ [])
    ∷ turn (Clear 1 ∷ Down 1 whys.Closed ∷ Close (record { begun = 4; won = 3; gone = 1; frames = 2; outs = 1; fulls = 0 }) ∷ [])
    ∷ []

-- the survey is over by the tick in which a response is collected; the next send comes a round later
abbrev pub found_over : List (Turn Entry)
found_over =
    turn (Tick 0 [] ∷ [])
    ∷ turn (Up 1 1 1048576 unnamed ∷ [])
    ∷ turn (Clear 1 ∷ Quiet 1 ∷ [])
    ∷ turn (Begin (op 0 1) 1 0 (Send (message [] (codes "s"))) None ∷ Out 1 (128 ∷ 0 ∷ 0 ∷ 0 ∷ codes "s") ∷ End (op 0 1) (Won Sent) ∷ [])
    ∷ turn (Tick 999 [] ∷ [])
    ∷ turn (Clear 1 ∷ Frame 1 (128 ∷ 0 ∷ 0 ∷ 0 ∷ codes "a") ∷ Quiet 1 ∷ [])
    ∷ turn (Took (op 0 1) 1 ∷ [])
    ∷ turn (Begin (op 0 2) 1 0 Recv None ∷ End (op 0 2) (Won (Received (message [] (codes "a")))) ∷ [])
    ∷ turn (Tick 1000 [] ∷ [])
    ∷ turn (Clear 1 ∷ Quiet 1 ∷ [])
    ∷ turn (Took (op 0 2) 1 ∷ [])
    ∷ turn []
    ∷ turn (Tick 1001 [] ∷ [])
    ∷ turn (Clear 1 ∷ Quiet 1 ∷ [])
    ∷ turn (Begin (op 0 3) 1 0 (Send (message [] (codes "s"))) None ∷ Out 1 (128 ∷ 0 ∷ 0 ∷ 1 ∷ codes "s") ∷ End (op 0 3) (Won Sent) ∷ [])
    ∷ []

-- it waits for a pipe, and a survey of a second without answers is over
abbrev pub nobody : List (Turn Entry)
nobody =
    turn (Tick 0 [] ∷ [])
    ∷ turn []
    ∷ turn (Tick 1 [] ∷ [])
    ∷ turn (Up 1 1 1048576 unnamed ∷ [])
    ∷ turn (Clear 1 ∷ Quiet 1 ∷ [])
    ∷ turn (Begin (op 0 1) 1 0 (Send (message [] (codes "s"))) None ∷ Out 1 (128 ∷ 0 ∷ 0 ∷ 0 ∷ codes "s") ∷ End (op 0 1) (Won Sent) ∷ [])
    ∷ turn (Tick 1001 [] ∷ [])
    ∷ turn (Clear 1 ∷ Quiet 1 ∷ [])
    ∷ turn (Took (op 0 1) 1 ∷ [])
    ∷ turn (Tick 1002 [] ∷ [])
    ∷ turn (Clear 1 ∷ Quiet 1 ∷ [])
    ∷ turn (Clear 1 ∷ Down 1 whys.Closed ∷ Close (record { begun = 1; won = 1; gone = 0; frames = 0; outs = 1; fulls = 0 }) ∷ [])
    ∷ []

-- it sends while the survey is live
abbrev pub sends_on : List (Turn Entry)
sends_on =
    turn (Tick 0 [] ∷ [])
    ∷ turn (Up 1 1 1048576 unnamed ∷ [])
    ∷ turn (Clear 1 ∷ Quiet 1 ∷ [])
    ∷ turn (Begin (op 0 1) 1 0 (Send (message [] (codes "s"))) None ∷ Out 1 (128 ∷ 0 ∷ 0 ∷ 0 ∷ codes "s") ∷ End (op 0 1) (Won Sent) ∷ [])
    ∷ turn (Tick 1 [] ∷ [])
    ∷ turn (Clear 1 ∷ Quiet 1 ∷ [])
    ∷ turn (Took (op 0 1) 1 ∷ [])
    ∷ turn (Begin (op 0 2) 1 0 (Send (message [] (codes "s"))) None ∷ Out 1 (128 ∷ 0 ∷ 0 ∷ 1 ∷ codes "s") ∷ End (op 0 2) (Won Sent) ∷ [])
    ∷ []

-- the first survey doesn't wait for a pipe
abbrev pub no_pipe : List (Turn Entry)
no_pipe =
    turn (Tick 0 [] ∷ [])
    ∷ turn []
    ∷ turn (Begin (op 0 1) 1 0 (Send (message [] (codes "s"))) None ∷ End (op 0 1) (Won Sent) ∷ [])
    ∷ []

-- two rounds after a survey was found over nothing is begun
abbrev pub idles : List (Turn Entry)
idles =
    turn (Tick 0 [] ∷ [])
    ∷ turn (Up 1 1 1048576 unnamed ∷ [])
    ∷ turn (Clear 1 ∷ Quiet 1 ∷ [])
    ∷ turn (Begin (op 0 1) 1 0 (Send (message [] (codes "s"))) None ∷ Out 1 (128 ∷ 0 ∷ 0 ∷ 0 ∷ codes "s") ∷ End (op 0 1) (Won Sent) ∷ [])
    ∷ turn (Tick 1000 [] ∷ [])
    ∷ turn (Clear 1 ∷ Quiet 1 ∷ [])
    ∷ turn (Took (op 0 1) 1 ∷ [])
    ∷ turn (Tick 1001 [] ∷ [])
    ∷ turn (Clear 1 ∷ Quiet 1 ∷ [])
    ∷ turn (Tick 1002 [] ∷ [])
    ∷ turn (Clear 1 ∷ Quiet 1 ∷ [])
    ∷ []

-- its survey is live, and no receive is begun
abbrev pub rests : List (Turn Entry)
rests =
    turn (Tick 0 [] ∷ [])
    ∷ turn (Up 1 1 1048576 unnamed ∷ [])
    ∷ turn (Clear 1 ∷ Quiet 1 ∷ [])
    ∷ turn (Begin (op 0 1) 1 0 (Send (message [] (codes "s"))) None ∷ Out 1 (128 ∷ 0 ∷ 0 ∷ 0 ∷ codes "s") ∷ End (op 0 1) (Won Sent) ∷ [])
    ∷ turn (Tick 1 [] ∷ [])
    ∷ turn (Clear 1 ∷ Quiet 1 ∷ [])
    ∷ turn (Took (op 0 1) 1 ∷ [])
    ∷ turn (Tick 2 [] ∷ [])
    ∷ turn (Clear 1 ∷ Quiet 1 ∷ [])
    ∷ []

-- another text
abbrev pub another_text : List (Turn Entry)
another_text =
    turn (Tick 0 [] ∷ [])
    ∷ turn (Up 1 1 1048576 unnamed ∷ [])
    ∷ turn (Clear 1 ∷ Quiet 1 ∷ [])
    ∷ turn (Begin (op 0 1) 1 0 (Send (message [] (codes "t"))) None ∷ Out 1 (128 ∷ 0 ∷ 0 ∷ 0 ∷ codes "t") ∷ End (op 0 1) (Won Sent) ∷ [])
    ∷ []

-- the receive that ended with the survey stays uncollected
abbrev pub leaves : List (Turn Entry)
leaves =
    turn (Tick 0 [] ∷ [])
    ∷ turn (Up 1 1 1048576 unnamed ∷ [])
    ∷ turn (Clear 1 ∷ Quiet 1 ∷ [])
    ∷ turn (Begin (op 0 1) 1 0 (Send (message [] (codes "s"))) None ∷ Out 1 (128 ∷ 0 ∷ 0 ∷ 0 ∷ codes "s") ∷ End (op 0 1) (Won Sent) ∷ [])
    ∷ turn (Tick 1 [] ∷ [])
    ∷ turn (Clear 1 ∷ Quiet 1 ∷ [])
    ∷ turn (Took (op 0 1) 1 ∷ [])
    ∷ turn (Begin (op 0 2) 1 0 Recv None ∷ [])
    ∷ turn (Tick 1000 [] ∷ End (op 0 2) (Gone SurveyOver 0) ∷ [])
    ∷ turn (Clear 1 ∷ Quiet 1 ∷ [])
    ∷ turn (Tick 1001 [] ∷ [])
    ∷ turn (Clear 1 ∷ Quiet 1 ∷ [])
    ∷ turn (Tick 1002 [] ∷ [])
    ∷ turn (Clear 1 ∷ Quiet 1 ∷ [])
    ∷ []

-- the rules that they break, and what the plays count and print
pub record SurveyorRows : Type 0 where
  pub survey_breaks : broken (socket Surveyor) (record (bare Surveyor) { body = Some (codes "s"); count = Some 1 }) survey ≡ []
  pub survey_gives : gives (socket Surveyor) (record (bare Surveyor) { body = Some (codes "s"); count = Some 1 }) survey ≡ (1, (codes "a" ++ 10 ∷ []) ++ (codes "b" ++ 10 ∷ []))
  pub found_over_breaks : broken (socket Surveyor) (record (bare Surveyor) { body = Some (codes "s"); count = Some 2 }) found_over ≡ []
  pub found_over_gives : gives (socket Surveyor) (record (bare Surveyor) { body = Some (codes "s"); count = Some 2 }) found_over ≡ (1, codes "a" ++ 10 ∷ [])
  pub nobody_breaks : broken (socket Surveyor) (record (bare Surveyor) { body = Some (codes "s"); count = Some 1 }) nobody ≡ []
  pub nobody_gives : gives (socket Surveyor) (record (bare Surveyor) { body = Some (codes "s"); count = Some 1 }) nobody ≡ (1, [])
  pub sends_on_breaks : broken (socket Surveyor) (record (bare Surveyor) { body = Some (codes "s") }) sends_on ≡ rules.Verbs ∷ []
  pub no_pipe_breaks : broken (socket Surveyor) (record (bare Surveyor) { body = Some (codes "s") }) no_pipe ≡ rules.Starts ∷ []
  pub idles_breaks : broken (socket Surveyor) (record (bare Surveyor) { body = Some (codes "s"); count = Some 2 }) idles ≡ rules.Rounds ∷ []
  pub rests_breaks : broken (socket Surveyor) (record (bare Surveyor) { body = Some (codes "s") }) rests ≡ rules.Rounds ∷ []
  pub another_text_breaks : broken (socket Surveyor) (record (bare Surveyor) { body = Some (codes "s") }) another_text ≡ rules.Data ∷ []
  pub leaves_breaks : broken (socket Surveyor) (record (bare Surveyor) { body = Some (codes "s") }) leaves ≡ rules.Collected ∷ []

-- Example records of a respondent: each with the rules that it breaks, none where it is a play.
use Rattle.std.specs.Prelude.{◌≡◌, List, [], ◌∷◌, ◌++◌, Some, None, codes}
use Rattle.sp_base.specs.declared.role.Role.TheVariants.{Respondent}
use Rattle.turn_lock.specs.declared.turn.Turn.{Turn}
use Rattle.sp_history.specs.declared.entry.Entry.{Entry}
use Rattle.sp_history.specs.declared.entry.RecordedAct.TheVariants.{Recv, Send}
use Rattle.sp_history.specs.declared.entry.Completion.TheVariants.{Received, Sent}
use Rattle.sp_history.specs.declared.entry.Why.TheVariants as whys
use Rattle.sp_history.specs.declared.entry.Ending.TheVariants.{Won}
use Rattle.sp_history.specs.declared.entry.ContextChange.TheVariants.{Open}
use Rattle.sp_history.specs.declared.entry.Entry.TheVariants.{Up, Down, Frame, Out, Quiet, Clear, Begin, End, Took, Tick, Ctx, Close}
use Rattle.sp_history.specs.Frames.{message}
use Rattle.cat_play.specs.Rules.{broken}
use Rattle.cat_play.specs.Rules as rules
use Rattle.play_rows.specs.Rows.{socket, bare, turn, op, unnamed, gives}

-- a survey is answered on its pipe
abbrev pub answers : List (Turn Entry)
answers =
    turn (Tick 0 [] ∷ [])
    ∷ turn (Up 1 1 1048576 unnamed ∷ [])
    ∷ turn (Clear 1 ∷ Frame 1 (128 ∷ 0 ∷ 0 ∷ 5 ∷ codes "q") ∷ [])
    ∷ turn (Begin (op 0 1) 1 0 Recv None ∷ End (op 0 1) (Won (Received (message [] (codes "q")))) ∷ [])
    ∷ turn (Tick 1 [] ∷ [])
    ∷ turn (Clear 1 ∷ Quiet 1 ∷ [])
    ∷ turn (Took (op 0 1) 1 ∷ [])
    ∷ turn (Begin (op 0 2) 1 0 (Send (message [] (codes "OK"))) None ∷ Out 1 (128 ∷ 0 ∷ 0 ∷ 5 ∷ codes "OK") ∷ End (op 0 2) (Won Sent) ∷ [])
    ∷ turn (Tick 2 [] ∷ [])
    ∷ turn (Clear 1 ∷ Quiet 1 ∷ [])
    ∷ turn (Took (op 0 2) 1 ∷ [])
    ∷ turn (Tick 3 [] ∷ [])
    ∷ turn (Clear 1 ∷ Quiet 1 ∷ [])
    ∷ turn (Clear 1 ∷ Down 1 whys.Closed ∷ Close (record { begun = 2; won = 2; gone = 0; frames = 1; outs = 1; fulls = 0 }) ∷ [])
    ∷ []

-- without data each survey counts
abbrev pub receives : List (Turn Entry)
receives =
    turn (Tick 0 [] ∷ [])
    ∷ turn (Up 1 1 1048576 unnamed ∷ [])
    ∷ turn (Clear 1 ∷ Frame 1 (128 ∷ 0 ∷ 0 ∷ 5 ∷ codes "q") ∷ [])
    ∷ turn (Begin (op 0 1) 1 0 Recv None ∷ End (op 0 1) (Won (Received (message [] (codes "q")))) ∷ [])
    ∷ turn (Tick 1 [] ∷ [])
    ∷ turn (Clear 1 ∷ Quiet 1 ∷ [])
    ∷ turn (Took (op 0 1) 1 ∷ [])
    ∷ []

-- the interval delays the second reply, not the receive
abbrev pub interval : List (Turn Entry)
interval =
    turn (Tick 0 [] ∷ [])
    ∷ turn (Up 1 1 1048576 unnamed ∷ [])
    ∷ turn (Clear 1 ∷ Frame 1 (128 ∷ 0 ∷ 0 ∷ 5 ∷ codes "q") ∷ [])
    ∷ turn (Begin (op 0 1) 1 0 Recv None ∷ End (op 0 1) (Won (Received (message [] (codes "q")))) ∷ [])
    ∷ turn (Tick 1 [] ∷ [])
    ∷ turn (Clear 1 ∷ Frame 1 (128 ∷ 0 ∷ 0 ∷ 6 ∷ codes "q") ∷ [])
    ∷ turn (Took (op 0 1) 1 ∷ [])
    ∷ turn (Begin (op 0 2) 1 0 (Send (message [] (codes "o"))) None ∷ Out 1 (128 ∷ 0 ∷ 0 ∷ 5 ∷ codes "o") ∷ End (op 0 2) (Won Sent) ∷ [])
    ∷ turn (Tick 2 [] ∷ [])
    ∷ turn (Clear 1 ∷ [])
    ∷ turn (Took (op 0 2) 1 ∷ [])
    ∷ turn (Begin (op 0 3) 1 0 Recv None ∷ End (op 0 3) (Won (Received (message [] (codes "q")))) ∷ [])
    ∷ turn (Tick 3 [] ∷ [])
    ∷ turn (Clear 1 ∷ Quiet 1 ∷ [])
    ∷ turn (Took (op 0 3) 1 ∷ [])
    ∷ turn (Tick 1000 [] ∷ [])
    ∷ turn (Clear 1 ∷ Quiet 1 ∷ [])
    ∷ turn (Tick 1001 [] ∷ [])
    ∷ turn (Clear 1 ∷ Quiet 1 ∷ [])
    ∷ turn (Begin (op 0 4) 1 0 (Send (message [] (codes "o"))) None ∷ Out 1 (128 ∷ 0 ∷ 0 ∷ 6 ∷ codes "o") ∷ End (op 0 4) (Won Sent) ∷ [])
    ∷ []

-- it receives instead of answering
abbrev pub no_answer : List (Turn Entry)
no_answer =
    turn (Tick 0 [] ∷ [])
    ∷ turn (Up 1 1 1048576 unnamed ∷ [])
    ∷ turn (Clear 1 ∷ Frame 1 (128 ∷ 0 ∷ 0 ∷ 5 ∷ codes "q") ∷ [])
    ∷ turn (Begin (op 0 1) 1 0 Recv None ∷ End (op 0 1) (Won (Received (message [] (codes "q")))) ∷ [])
    ∷ turn (Tick 1 [] ∷ [])
    ∷ turn (Clear 1 ∷ Quiet 1 ∷ [])
    ∷ turn (Took (op 0 1) 1 ∷ [])
    ∷ turn (Begin (op 0 2) 1 0 Recv None ∷ [])
    ∷ []

-- the second reply comes before the interval has passed
abbrev pub too_soon : List (Turn Entry)
too_soon =
    turn (Tick 0 [] ∷ [])
    ∷ turn (Up 1 1 1048576 unnamed ∷ [])
    ∷ turn (Clear 1 ∷ Frame 1 (128 ∷ 0 ∷ 0 ∷ 5 ∷ codes "q") ∷ [])
    ∷ turn (Begin (op 0 1) 1 0 Recv None ∷ End (op 0 1) (Won (Received (message [] (codes "q")))) ∷ [])
    ∷ turn (Tick 1 [] ∷ [])
    ∷ turn (Clear 1 ∷ Frame 1 (128 ∷ 0 ∷ 0 ∷ 6 ∷ codes "q") ∷ [])
    ∷ turn (Took (op 0 1) 1 ∷ [])
    ∷ turn (Begin (op 0 2) 1 0 (Send (message [] (codes "o"))) None ∷ Out 1 (128 ∷ 0 ∷ 0 ∷ 5 ∷ codes "o") ∷ End (op 0 2) (Won Sent) ∷ [])
    ∷ turn (Tick 2 [] ∷ [])
    ∷ turn (Clear 1 ∷ [])
    ∷ turn (Took (op 0 2) 1 ∷ [])
    ∷ turn (Begin (op 0 3) 1 0 Recv None ∷ End (op 0 3) (Won (Received (message [] (codes "q")))) ∷ [])
    ∷ turn (Tick 3 [] ∷ [])
    ∷ turn (Clear 1 ∷ Quiet 1 ∷ [])
    ∷ turn (Took (op 0 3) 1 ∷ [])
    ∷ turn (Begin (op 0 4) 1 0 (Send (message [] (codes "o"))) None ∷ Out 1 (128 ∷ 0 ∷ 0 ∷ 6 ∷ codes "o") ∷ End (op 0 4) (Won Sent) ∷ [])
    ∷ []

-- another reply
abbrev pub another_reply : List (Turn Entry)
another_reply =
    turn (Tick 0 [] ∷ [])
    ∷ turn (Up 1 1 1048576 unnamed ∷ [])
    ∷ turn (Clear 1 ∷ Frame 1 (128 ∷ 0 ∷ 0 ∷ 5 ∷ codes "q") ∷ [])
    ∷ turn (Begin (op 0 1) 1 0 Recv None ∷ End (op 0 1) (Won (Received (message [] (codes "q")))) ∷ [])
    ∷ turn (Tick 1 [] ∷ [])
    ∷ turn (Clear 1 ∷ Quiet 1 ∷ [])
    ∷ turn (Took (op 0 1) 1 ∷ [])
    ∷ turn (Begin (op 0 2) 1 0 (Send (message [] (codes "q"))) None ∷ Out 1 (128 ∷ 0 ∷ 0 ∷ 5 ∷ codes "q") ∷ End (op 0 2) (Won Sent) ∷ [])
    ∷ []

-- idle, with a request to answer
abbrev pub idles : List (Turn Entry)
idles =
    turn (Tick 0 [] ∷ [])
    ∷ turn (Up 1 1 1048576 unnamed ∷ [])
    ∷ turn (Clear 1 ∷ Frame 1 (128 ∷ 0 ∷ 0 ∷ 5 ∷ codes "q") ∷ [])
    ∷ turn (Begin (op 0 1) 1 0 Recv None ∷ End (op 0 1) (Won (Received (message [] (codes "q")))) ∷ [])
    ∷ turn (Tick 1 [] ∷ [])
    ∷ turn (Clear 1 ∷ Quiet 1 ∷ [])
    ∷ turn (Took (op 0 1) 1 ∷ [])
    ∷ turn (Tick 2 [] ∷ [])
    ∷ turn (Clear 1 ∷ Quiet 1 ∷ [])
    ∷ []

-- two receives at once
abbrev pub two_at_once : List (Turn Entry)
two_at_once =
    turn (Tick 0 [] ∷ [])
    ∷ turn (Ctx 1 Open ∷ [])
    ∷ turn (Begin (op 0 1) 1 0 Recv None ∷ [])
    ∷ turn (Begin (op 1 1) 1 1 Recv None ∷ [])
    ∷ []

-- the rules that they break, and what the plays count and print
pub record RespondentRows : Type 0 where
  pub answers_breaks : broken (socket Respondent) (record (bare Respondent) { body = Some (codes "OK"); count = Some 1 }) answers ≡ []
  pub answers_gives : gives (socket Respondent) (record (bare Respondent) { body = Some (codes "OK"); count = Some 1 }) answers ≡ (1, codes "q" ++ 10 ∷ [])
  pub receives_breaks : broken (socket Respondent) (record (bare Respondent) { count = Some 1 }) receives ≡ []
  pub receives_gives : gives (socket Respondent) (record (bare Respondent) { count = Some 1 }) receives ≡ (1, codes "q" ++ 10 ∷ [])
  pub interval_breaks : broken (socket Respondent) (record (bare Respondent) { body = Some (codes "o"); interval = Some 1 }) interval ≡ []
  pub interval_gives : gives (socket Respondent) (record (bare Respondent) { body = Some (codes "o"); interval = Some 1 }) interval ≡ (1, (codes "q" ++ 10 ∷ []) ++ (codes "q" ++ 10 ∷ []))
  pub no_answer_breaks : broken (socket Respondent) (record (bare Respondent) { body = Some (codes "OK") }) no_answer ≡ rules.Verbs ∷ []
  pub too_soon_breaks : broken (socket Respondent) (record (bare Respondent) { body = Some (codes "o"); interval = Some 1 }) too_soon ≡ rules.Spaced ∷ []
  pub another_reply_breaks : broken (socket Respondent) (record (bare Respondent) { body = Some (codes "OK") }) another_reply ≡ rules.Data ∷ []
  pub idles_breaks : broken (socket Respondent) (record (bare Respondent) { body = Some (codes "OK") }) idles ≡ rules.Rounds ∷ []
  pub two_at_once_breaks : broken (socket Respondent) (bare Respondent) two_at_once ≡ rules.Topics ∷ rules.Alternate ∷ []

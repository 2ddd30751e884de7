-- Example records of a rep: each with the rules that it breaks, none where it is a play.
use Rattle.std.specs.Prelude.{◌≡◌, List, [], ◌∷◌, ◌++◌, Some, None, codes}
use Rattle.sp_base.specs.declared.role.Role.TheVariants.{Rep}
use Rattle.turn_lock.specs.declared.turn.Turn.{Turn}
use Rattle.sp_history.specs.declared.entry.Entry.{Entry}
use Rattle.sp_history.specs.declared.entry.RecordedAct.TheVariants.{Recv, Send}
use Rattle.sp_history.specs.declared.entry.Completion.TheVariants.{Received, Sent}
use Rattle.sp_history.specs.declared.entry.Why.TheVariants as whys
use Rattle.sp_history.specs.declared.entry.Ending.TheVariants.{Won}
use Rattle.sp_history.specs.declared.entry.Entry.TheVariants.{Up, Down, Frame, Out, Quiet, Clear, Begin, End, Took, Tick, Close}
use Rattle.sp_history.specs.Frames.{message}
use Rattle.cat_play.specs.Rules.{broken}
use Rattle.cat_play.specs.Rules as rules
use Rattle.play_rows.specs.Rows.{socket, bare, turn, op, unnamed, gives}

-- a request is answered on its pipe, and the reply counts
abbrev pub answers : List (Turn Entry)
answers =
    turn (Tick 0 [] ∷ [])
    ∷ turn (Up 1 1 1048576 unnamed ∷ [])
    ∷ turn (Clear 1 ∷ Frame 1 (128 ∷ 0 ∷ 0 ∷ 1 ∷ codes "a") ∷ [])
    ∷ turn (Begin (op 0 1) 1 0 Recv None ∷ End (op 0 1) (Won (Received (message [] (codes "a")))) ∷ [])
    ∷ turn (Tick 1 [] ∷ [])
    ∷ turn (Clear 1 ∷ Quiet 1 ∷ [])
    ∷ turn (Took (op 0 1) 1 ∷ [])
    ∷ turn (Begin (op 0 2) 1 0 (Send (message [] (codes "OK"))) None ∷ Out 1 (128 ∷ 0 ∷ 0 ∷ 1 ∷ codes "OK") ∷ End (op 0 2) (Won Sent) ∷ [])
    ∷ turn (Tick 2 [] ∷ [])
    ∷ turn (Clear 1 ∷ Quiet 1 ∷ [])
    ∷ turn (Took (op 0 2) 1 ∷ [])
    ∷ turn (Tick 3 [] ∷ [])
    ∷ turn (Clear 1 ∷ Quiet 1 ∷ [])
    ∷ turn (Clear 1 ∷ Down 1 whys.Closed ∷ Close (record { begun = 2; won = 2; gone = 0; frames = 1; outs = 1; fulls = 0 }) ∷ [])
    ∷ []

-- without data each request counts
abbrev pub receives : List (Turn Entry)
receives =
    turn (Tick 0 [] ∷ [])
    ∷ turn (Up 1 1 1048576 unnamed ∷ [])
    ∷ turn (Clear 1 ∷ Frame 1 (128 ∷ 0 ∷ 0 ∷ 1 ∷ codes "a") ∷ [])
    ∷ turn (Begin (op 0 1) 1 0 Recv None ∷ End (op 0 1) (Won (Received (message [] (codes "a")))) ∷ [])
    ∷ turn (Tick 1 [] ∷ [])
    ∷ turn (Clear 1 ∷ Quiet 1 ∷ [])
    ∷ turn (Took (op 0 1) 1 ∷ [])
    ∷ turn (Begin (op 0 2) 1 0 Recv None ∷ [])
    ∷ []

-- the pipe of the request is down: the reply is sent without going out, and counts
abbrev pub nowhere : List (Turn Entry)
nowhere =
    turn (Tick 0 [] ∷ [])
    ∷ turn (Up 1 1 1048576 unnamed ∷ [])
    ∷ turn (Clear 1 ∷ Frame 1 (128 ∷ 0 ∷ 0 ∷ 1 ∷ codes "a") ∷ [])
    ∷ turn (Begin (op 0 1) 1 0 Recv None ∷ End (op 0 1) (Won (Received (message [] (codes "a")))) ∷ [])
    ∷ turn (Tick 1 [] ∷ [])
    ∷ turn (Clear 1 ∷ Down 1 whys.Ended ∷ [])
    ∷ turn (Took (op 0 1) 1 ∷ [])
    ∷ turn (Begin (op 0 2) 1 0 (Send (message [] (codes "OK"))) None ∷ End (op 0 2) (Won Sent) ∷ [])
    ∷ turn (Tick 2 [] ∷ [])
    ∷ turn []
    ∷ turn (Took (op 0 2) 1 ∷ [])
    ∷ []

-- it receives instead of answering
abbrev pub no_answer : List (Turn Entry)
no_answer =
    turn (Tick 0 [] ∷ [])
    ∷ turn (Up 1 1 1048576 unnamed ∷ [])
    ∷ turn (Clear 1 ∷ Frame 1 (128 ∷ 0 ∷ 0 ∷ 1 ∷ codes "a") ∷ [])
    ∷ turn (Begin (op 0 1) 1 0 Recv None ∷ End (op 0 1) (Won (Received (message [] (codes "a")))) ∷ [])
    ∷ turn (Tick 1 [] ∷ [])
    ∷ turn (Clear 1 ∷ Quiet 1 ∷ [])
    ∷ turn (Took (op 0 1) 1 ∷ [])
    ∷ turn (Begin (op 0 2) 1 0 Recv None ∷ [])
    ∷ []

-- without data it answers
abbrev pub answers_nothing : List (Turn Entry)
answers_nothing =
    turn (Tick 0 [] ∷ [])
    ∷ turn (Up 1 1 1048576 unnamed ∷ [])
    ∷ turn (Clear 1 ∷ Frame 1 (128 ∷ 0 ∷ 0 ∷ 1 ∷ codes "a") ∷ [])
    ∷ turn (Begin (op 0 1) 1 0 Recv None ∷ End (op 0 1) (Won (Received (message [] (codes "a")))) ∷ [])
    ∷ turn (Tick 1 [] ∷ [])
    ∷ turn (Clear 1 ∷ Quiet 1 ∷ [])
    ∷ turn (Took (op 0 1) 1 ∷ [])
    ∷ turn (Begin (op 0 2) 1 0 (Send (message [] [])) None ∷ Out 1 (128 ∷ 0 ∷ 0 ∷ 1 ∷ []) ∷ End (op 0 2) (Won Sent) ∷ [])
    ∷ []

-- another reply
abbrev pub another_reply : List (Turn Entry)
another_reply =
    turn (Tick 0 [] ∷ [])
    ∷ turn (Up 1 1 1048576 unnamed ∷ [])
    ∷ turn (Clear 1 ∷ Frame 1 (128 ∷ 0 ∷ 0 ∷ 1 ∷ codes "a") ∷ [])
    ∷ turn (Begin (op 0 1) 1 0 Recv None ∷ End (op 0 1) (Won (Received (message [] (codes "a")))) ∷ [])
    ∷ turn (Tick 1 [] ∷ [])
    ∷ turn (Clear 1 ∷ Quiet 1 ∷ [])
    ∷ turn (Took (op 0 1) 1 ∷ [])
    ∷ turn (Begin (op 0 2) 1 0 (Send (message [] (codes "a"))) None ∷ Out 1 (128 ∷ 0 ∷ 0 ∷ 1 ∷ codes "a") ∷ End (op 0 2) (Won Sent) ∷ [])
    ∷ []

-- idle
abbrev pub idles : List (Turn Entry)
idles =
    turn (Tick 0 [] ∷ [])
    ∷ turn []
    ∷ turn (Tick 1 [] ∷ [])
    ∷ []

-- the pipe, whose frames are wanted again, isn't read
abbrev pub skips_a_serve : List (Turn Entry)
skips_a_serve =
    turn (Tick 0 [] ∷ [])
    ∷ turn (Up 1 1 1048576 unnamed ∷ [])
    ∷ turn (Clear 1 ∷ Quiet 1 ∷ [])
    ∷ turn (Begin (op 0 1) 1 0 Recv None ∷ [])
    ∷ turn (Tick 1 [] ∷ [])
    ∷ turn (Tick 2 [] ∷ [])
    ∷ []

-- the rules that they break, and what the plays count and print
pub record RepRows : Type 0 where
  pub answers_breaks : broken (socket Rep) (record (bare Rep) { body = Some (codes "OK"); count = Some 1 }) answers ≡ []
  pub answers_gives : gives (socket Rep) (record (bare Rep) { body = Some (codes "OK"); count = Some 1 }) answers ≡ (1, codes "a" ++ 10 ∷ [])
  pub receives_breaks : broken (socket Rep) (record (bare Rep) { count = Some 2 }) receives ≡ []
  pub receives_gives : gives (socket Rep) (record (bare Rep) { count = Some 2 }) receives ≡ (1, codes "a" ++ 10 ∷ [])
  pub nowhere_breaks : broken (socket Rep) (record (bare Rep) { body = Some (codes "OK"); count = Some 1 }) nowhere ≡ []
  pub nowhere_gives : gives (socket Rep) (record (bare Rep) { body = Some (codes "OK"); count = Some 1 }) nowhere ≡ (1, codes "a" ++ 10 ∷ [])
  pub no_answer_breaks : broken (socket Rep) (record (bare Rep) { body = Some (codes "OK") }) no_answer ≡ rules.Verbs ∷ []
  pub answers_nothing_breaks : broken (socket Rep) (bare Rep) answers_nothing ≡ rules.Verbs ∷ rules.Data ∷ []
  pub another_reply_breaks : broken (socket Rep) (record (bare Rep) { body = Some (codes "OK") }) another_reply ≡ rules.Data ∷ []
  pub idles_breaks : broken (socket Rep) (record (bare Rep) { body = Some (codes "OK") }) idles ≡ rules.Rounds ∷ []
  pub skips_a_serve_breaks : broken (socket Rep) (bare Rep) skips_a_serve ≡ rules.Swept ∷ []

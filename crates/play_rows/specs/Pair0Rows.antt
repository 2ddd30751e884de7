-- Example records of a pair: each with the rules that it breaks, none where it is a play.
use Rattle.std.specs.Prelude.{◌≡◌, List, [], ◌∷◌, ◌++◌, Some, None, codes}
use Rattle.sp_base.specs.declared.role.Role.TheVariants.{Pair0}
use Rattle.turn_lock.specs.declared.turn.Turn.{Turn}
use Rattle.sp_history.specs.declared.entry.Entry.{Entry}
use Rattle.sp_history.specs.declared.entry.RecordedAct.TheVariants.{Recv, Send}
use Rattle.sp_history.specs.declared.entry.Completion.TheVariants.{Received, Sent}
use Rattle.sp_history.specs.declared.entry.Why.TheVariants as whys
use Rattle.sp_history.specs.declared.entry.Ending.TheVariants.{Won}
use Rattle.sp_history.specs.declared.entry.Entry.TheVariants.{Up, Down, Frame, Out, Quiet, Clear, Begin, End, Took, Tick, Close}
use Rattle.sp_history.specs.Frames.{message}
use Rattle.cat_play.specs.Rules.{broken}
use Rattle.cat_play.specs.Rules as rules
use Rattle.play_rows.specs.Rows.{socket, bare, turn, op, unnamed, gives}

-- with data it sends, and what comes is never received
abbrev pub sends : List (Turn Entry)
sends =
    turn (Tick 0 [] ∷ [])
    ∷ turn (Up 1 1 1048576 unnamed ∷ [])
    ∷ turn (Clear 1 ∷ Frame 1 (codes "x") ∷ [])
    ∷ turn (Begin (op 0 1) 1 0 (Send (message [] (codes "a"))) None ∷ Out 1 (codes "a") ∷ End (op 0 1) (Won Sent) ∷ [])
    ∷ turn (Tick 1 [] ∷ [])
    ∷ turn (Clear 1 ∷ [])
    ∷ turn (Took (op 0 1) 1 ∷ [])
    ∷ turn (Tick 2 [] ∷ [])
    ∷ turn (Clear 1 ∷ [])
    ∷ turn (Clear 1 ∷ Down 1 whys.Closed ∷ Close (record { begun = 1; won = 1; gone = 0; frames = 1; outs = 1; fulls = 0 }) ∷ [])
    ∷ []

-- without data it receives
abbrev pub receives : List (Turn Entry)
receives =
    turn (Tick 0 [] ∷ [])
    ∷ turn (Up 1 1 1048576 unnamed ∷ [])
    ∷ turn (Clear 1 ∷ Frame 1 (codes "x") ∷ [])
    ∷ turn (Begin (op 0 1) 1 0 Recv None ∷ End (op 0 1) (Won (Received (message [] (codes "x")))) ∷ [])
    ∷ turn (Tick 1 [] ∷ [])
    ∷ turn (Clear 1 ∷ Quiet 1 ∷ [])
    ∷ turn (Took (op 0 1) 1 ∷ [])
    ∷ []

-- its first send waits for the pipe as an operation
abbrev pub waits : List (Turn Entry)
waits =
    turn (Tick 0 [] ∷ [])
    ∷ turn []
    ∷ turn (Begin (op 0 1) 1 0 (Send (message [] (codes "a"))) None ∷ [])
    ∷ turn (Tick 1 [] ∷ [])
    ∷ turn []
    ∷ turn []
    ∷ turn (Tick 2 [] ∷ [])
    ∷ turn (Up 1 1 1048576 unnamed ∷ Out 1 (codes "a") ∷ End (op 0 1) (Won Sent) ∷ [])
    ∷ turn (Clear 1 ∷ Quiet 1 ∷ [])
    ∷ turn (Took (op 0 1) 1 ∷ [])
    ∷ turn (Begin (op 0 2) 1 0 (Send (message [] (codes "a"))) None ∷ Out 1 (codes "a") ∷ End (op 0 2) (Won Sent) ∷ [])
    ∷ []

-- with data it receives
abbrev pub answers : List (Turn Entry)
answers =
    turn (Tick 0 [] ∷ [])
    ∷ turn []
    ∷ turn (Begin (op 0 1) 1 0 Recv None ∷ [])
    ∷ []

-- without data it sends
abbrev pub speaks : List (Turn Entry)
speaks =
    turn (Tick 0 [] ∷ [])
    ∷ turn []
    ∷ turn (Begin (op 0 1) 1 0 (Send (message [] (codes "a"))) None ∷ [])
    ∷ []

-- idle
abbrev pub idles : List (Turn Entry)
idles =
    turn (Tick 0 [] ∷ [])
    ∷ turn []
    ∷ turn (Tick 1 [] ∷ [])
    ∷ []

-- another text
abbrev pub another_text : List (Turn Entry)
another_text =
    turn (Tick 0 [] ∷ [])
    ∷ turn []
    ∷ turn (Begin (op 0 1) 1 0 (Send (message [] (codes "b"))) None ∷ [])
    ∷ []

-- a wrong deadline: that of the other kind
abbrev pub other_deadline : List (Turn Entry)
other_deadline =
    turn (Tick 0 [] ∷ [])
    ∷ turn []
    ∷ turn (Begin (op 0 1) 1 0 (Send (message [] (codes "a"))) (Some 1000) ∷ [])
    ∷ []

-- the rules that they break, and what the plays count and print
pub record Pair0Rows : Type 0 where
  pub sends_breaks : broken (socket Pair0) (record (bare Pair0) { body = Some (codes "a"); count = Some 1 }) sends ≡ []
  pub sends_gives : gives (socket Pair0) (record (bare Pair0) { body = Some (codes "a"); count = Some 1 }) sends ≡ (1, [])
  pub receives_breaks : broken (socket Pair0) (record (bare Pair0) { count = Some 1 }) receives ≡ []
  pub receives_gives : gives (socket Pair0) (record (bare Pair0) { count = Some 1 }) receives ≡ (1, codes "x" ++ 10 ∷ [])
  pub waits_breaks : broken (socket Pair0) (record (bare Pair0) { body = Some (codes "a") }) waits ≡ []
  pub waits_gives : gives (socket Pair0) (record (bare Pair0) { body = Some (codes "a") }) waits ≡ (1, [])
  pub answers_breaks : broken (socket Pair0) (record (bare Pair0) { body = Some (codes "a") }) answers ≡ rules.Verbs ∷ []
  pub speaks_breaks : broken (socket Pair0) (bare Pair0) speaks ≡ rules.Verbs ∷ rules.Data ∷ []
  pub idles_breaks : broken (socket Pair0) (bare Pair0) idles ≡ rules.Rounds ∷ []
  pub another_text_breaks : broken (socket Pair0) (record (bare Pair0) { body = Some (codes "a") }) another_text ≡ rules.Data ∷ []
  pub other_deadline_breaks : broken (socket Pair0) (record (bare Pair0) { body = Some (codes "a"); recv_timeout = Some 1; send_timeout = Some 2 }) other_deadline ≡ rules.Deadlines ∷ []

-- Example records of a bus: each with the rules that it breaks, none where it is a play.
use Rattle.std.specs.Prelude.{◌≡◌, List, [], ◌∷◌, ◌++◌, Some, None, codes}
use Rattle.sp_base.specs.declared.role.Role.TheVariants.{Bus}
use Rattle.turn_lock.specs.declared.turn.Turn.{Turn}
use Rattle.sp_history.specs.declared.entry.Entry.{Entry}
use Rattle.sp_history.specs.declared.entry.RecordedAct.TheVariants.{Recv, Send}
use Rattle.sp_history.specs.declared.entry.Completion.TheVariants.{Received, Sent}
use Rattle.sp_history.specs.declared.entry.Why.TheVariants as whys
use Rattle.sp_history.specs.declared.entry.Ending.TheVariants.{Won}
use Rattle.sp_history.specs.declared.entry.Entry.TheVariants.{Up, Down, Frame, Out, Quiet, Clear, Begin, End, Took, Tick, Close}
use Rattle.sp_history.specs.Frames.{message}
use Rattle.cat_play.specs.Rules.{broken}
use Rattle.cat_play.specs.Rules as rules
use Rattle.play_rows.specs.Rows.{socket, bare, turn, op, unnamed, gives}

-- two sends, an interval apart
abbrev pub interval : List (Turn Entry)
interval =
    turn (Tick 0 [] ∷ [])
    ∷ turn (Up 1 1 1048576 unnamed ∷ [])
    ∷ turn (Clear 1 ∷ Quiet 1 ∷ [])
    ∷ turn (Begin (op 0 1) 1 0 (Send (message [] (codes "m"))) None ∷ Out 1 (codes "m") ∷ End (op 0 1) (Won Sent) ∷ [])
    ∷ turn (Tick 1 [] ∷ [])
    ∷ turn (Clear 1 ∷ Quiet 1 ∷ [])
    ∷ turn (Took (op 0 1) 1 ∷ [])
    ∷ turn (Tick 999 [] ∷ [])
    ∷ turn (Clear 1 ∷ Quiet 1 ∷ [])
    ∷ turn (Tick 1000 [] ∷ [])
    ∷ turn (Clear 1 ∷ Quiet 1 ∷ [])
    ∷ turn (Begin (op 0 2) 1 0 (Send (message [] (codes "m"))) None ∷ Out 1 (codes "m") ∷ End (op 0 2) (Won Sent) ∷ [])
    ∷ turn (Tick 1001 [] ∷ [])
    ∷ turn (Clear 1 ∷ Quiet 1 ∷ [])
    ∷ turn (Took (op 0 2) 1 ∷ [])
    ∷ turn (Tick 1002 [] ∷ [])
    ∷ turn (Clear 1 ∷ Quiet 1 ∷ [])
    ∷ turn (Clear 1 ∷ Down 1 whys.Closed ∷ Close (record { begun = 2; won = 2; gone = 0; frames = 0; outs = 2; fulls = 0 }) ∷ [])
    ∷ []

-- without data it receives
abbrev pub receives : List (Turn Entry)
receives =
    turn (Tick 0 [] ∷ [])
    ∷ turn (Up 1 1 1048576 unnamed ∷ [])
    ∷ turn (Clear 1 ∷ Frame 1 (codes "x") ∷ Quiet 1 ∷ [])
    ∷ turn (Begin (op 0 1) 1 0 Recv None ∷ End (op 0 1) (Won (Received (message [] (codes "x")))) ∷ [])
    ∷ turn (Tick 1 [] ∷ [])
    ∷ turn (Clear 1 ∷ Quiet 1 ∷ [])
    ∷ turn (Took (op 0 1) 1 ∷ [])
    ∷ []

-- it waits for a pipe
abbrev pub waits : List (Turn Entry)
waits =
    turn (Tick 0 [] ∷ [])
    ∷ turn []
    ∷ turn (Tick 1 [] ∷ [])
    ∷ turn []
    ∷ turn (Tick 2 [] ∷ [])
    ∷ turn []
    ∷ []

-- the first send doesn't wait for a pipe
abbrev pub no_pipe : List (Turn Entry)
no_pipe =
    turn (Tick 0 [] ∷ [])
    ∷ turn []
    ∷ turn (Begin (op 0 1) 1 0 (Send (message [] (codes "m"))) None ∷ End (op 0 1) (Won Sent) ∷ [])
    ∷ []

-- the second send is a tick early
abbrev pub too_soon : List (Turn Entry)
too_soon =
    turn (Tick 0 [] ∷ [])
    ∷ turn (Up 1 1 1048576 unnamed ∷ [])
    ∷ turn (Clear 1 ∷ Quiet 1 ∷ [])
    ∷ turn (Begin (op 0 1) 1 0 (Send (message [] (codes "m"))) None ∷ Out 1 (codes "m") ∷ End (op 0 1) (Won Sent) ∷ [])
    ∷ turn (Tick 999 [] ∷ [])
    ∷ turn (Clear 1 ∷ Quiet 1 ∷ [])
    ∷ turn (Took (op 0 1) 1 ∷ [])
    ∷ turn (Begin (op 0 2) 1 0 (Send (message [] (codes "m"))) None ∷ Out 1 (codes "m") ∷ End (op 0 2) (Won Sent) ∷ [])
    ∷ []

-- with data it receives
abbrev pub answers : List (Turn Entry)
answers =
    turn (Tick 0 [] ∷ [])
    ∷ turn (Up 1 1 1048576 unnamed ∷ [])
    ∷ turn (Clear 1 ∷ Quiet 1 ∷ [])
    ∷ turn (Begin (op 0 1) 1 0 Recv None ∷ [])
    ∷ []

-- idle
abbrev pub idles : List (Turn Entry)
idles =
    turn (Tick 0 [] ∷ [])
    ∷ turn []
    ∷ turn (Tick 1 [] ∷ [])
    ∷ []

-- the pipe isn't read
abbrev pub skips_a_serve : List (Turn Entry)
skips_a_serve =
    turn (Tick 0 [] ∷ [])
    ∷ turn (Up 1 1 1048576 unnamed ∷ [])
    ∷ turn (Clear 1 ∷ Quiet 1 ∷ [])
    ∷ turn (Begin (op 0 1) 1 0 Recv None ∷ [])
    ∷ turn (Tick 1 [] ∷ [])
    ∷ turn (Tick 2 [] ∷ [])
    ∷ []

-- the rules that they break, and what the plays count and print
pub record BusRows : Type 0 where
  pub interval_breaks : broken (socket Bus) (record (bare Bus) { body = Some (codes "m"); count = Some 2; interval = Some 1 }) interval ≡ []
  pub interval_gives : gives (socket Bus) (record (bare Bus) { body = Some (codes "m"); count = Some 2; interval = Some 1 }) interval ≡ (2, [])
  pub receives_breaks : broken (socket Bus) (record (bare Bus) { count = Some 1 }) receives ≡ []
  pub receives_gives : gives (socket Bus) (record (bare Bus) { count = Some 1 }) receives ≡ (1, codes "x" ++ 10 ∷ [])
  pub waits_breaks : broken (socket Bus) (record (bare Bus) { body = Some (codes "m") }) waits ≡ []
  pub waits_gives : gives (socket Bus) (record (bare Bus) { body = Some (codes "m") }) waits ≡ (0, [])
  pub no_pipe_breaks : broken (socket Bus) (record (bare Bus) { body = Some (codes "m") }) no_pipe ≡ rules.Starts ∷ []
  pub too_soon_breaks : broken (socket Bus) (record (bare Bus) { body = Some (codes "m"); interval = Some 1 }) too_soon ≡ rules.Spaced ∷ []
  pub answers_breaks : broken (socket Bus) (record (bare Bus) { body = Some (codes "m") }) answers ≡ rules.Verbs ∷ []
  pub idles_breaks : broken (socket Bus) (bare Bus) idles ≡ rules.Rounds ∷ []
  pub skips_a_serve_breaks : broken (socket Bus) (bare Bus) skips_a_serve ≡ rules.Swept ∷ []

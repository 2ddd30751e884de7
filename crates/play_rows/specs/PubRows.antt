-- Example records of a pub: each with the rules that it breaks, none where it is a play.
use Rattle.std.specs.Prelude.{◌≡◌, List, [], ◌∷◌, Some, None, codes}
use Rattle.sp_base.specs.declared.role.Role.TheVariants.{Pub}
use Rattle.turn_lock.specs.declared.turn.Turn.{Turn}
use Rattle.sp_history.specs.declared.entry.Entry.{Entry}
use Rattle.sp_history.specs.declared.entry.RecordedAct.TheVariants.{Send}
use Rattle.sp_history.specs.declared.entry.Completion.TheVariants.{Sent}
use Rattle.sp_history.specs.declared.entry.Why.TheVariants as whys
use Rattle.sp_history.specs.declared.entry.Ending.TheVariants.{Won}
use Rattle.sp_history.specs.declared.entry.Entry.TheVariants.{Up, Down, Out, Full, Quiet, Clear, Begin, End, Took, Tick, Close}
use Rattle.sp_history.specs.Frames.{message}
use Rattle.cat_play.specs.Rules.{broken}
use Rattle.cat_play.specs.Rules as rules
use Rattle.play_rows.specs.Rows.{socket, bare, turn, op, unnamed, gives}

-- it waits until a pipe is up, and sends once
abbrev pub waits : List (Turn Entry)
waits =
    turn (Tick 0 [] ∷ [])
    ∷ turn []
    ∷ turn (Tick 1 [] ∷ [])
    ∷ turn (Up 1 1 1048576 unnamed ∷ [])
    ∷ turn (Clear 1 ∷ Quiet 1 ∷ [])
    ∷ turn (Begin (op 0 1) 1 0 (Send (message [] (codes "m"))) None ∷ Out 1 (codes "m") ∷ End (op 0 1) (Won Sent) ∷ [])
    ∷ turn (Tick 2 [] ∷ [])
    ∷ turn (Clear 1 ∷ Quiet 1 ∷ [])
    ∷ turn (Took (op 0 1) 1 ∷ [])
    ∷ turn (Tick 3 [] ∷ [])
    ∷ turn (Clear 1 ∷ Quiet 1 ∷ [])
    ∷ turn (Clear 1 ∷ Down 1 whys.Closed ∷ Close (record { begun = 1; won = 1; gone = 0; frames = 0; outs = 1; fulls = 0 }) ∷ [])
    ∷ []

-- a full pipe is skipped, and the send counts
abbrev pub full : List (Turn Entry)
full =
    turn (Tick 0 [] ∷ [])
    ∷ turn (Up 1 1 1048576 unnamed ∷ [])
    ∷ turn (Clear 1 ∷ Quiet 1 ∷ [])
    ∷ turn (Begin (op 0 1) 1 0 (Send (message [] (codes "m"))) None ∷ Full 1 ∷ End (op 0 1) (Won Sent) ∷ [])
    ∷ turn (Tick 1 [] ∷ [])
    ∷ turn (Clear 1 ∷ Quiet 1 ∷ [])
    ∷ turn (Took (op 0 1) 1 ∷ [])
    ∷ []

-- a later send doesn't wait for a pipe
abbrev pub later : List (Turn Entry)
later =
    turn (Tick 0 [] ∷ [])
    ∷ turn (Up 1 1 1048576 unnamed ∷ [])
    ∷ turn (Clear 1 ∷ Quiet 1 ∷ [])
    ∷ turn (Begin (op 0 1) 1 0 (Send (message [] (codes "m"))) None ∷ Out 1 (codes "m") ∷ End (op 0 1) (Won Sent) ∷ [])
    ∷ turn (Tick 1 [] ∷ [])
    ∷ turn (Clear 1 ∷ Down 1 whys.Ended ∷ [])
    ∷ turn (Took (op 0 1) 1 ∷ [])
    ∷ turn (Begin (op 0 2) 1 0 (Send (message [] (codes "m"))) None ∷ End (op 0 2) (Won Sent) ∷ [])
    ∷ turn (Tick 2 [] ∷ [])
    ∷ turn []
    ∷ turn (Took (op 0 2) 1 ∷ [])
    ∷ []

-- the pipe that was up goes down as the turn of the first send begins
abbrev pub falls_away : List (Turn Entry)
falls_away =
    turn (Tick 0 [] ∷ [])
    ∷ turn (Up 1 1 1048576 unnamed ∷ [])
    ∷ turn (Clear 1 ∷ Quiet 1 ∷ [])
    ∷ turn (Down 1 whys.Failed ∷ Begin (op 0 1) 1 0 (Send (message [] (codes "m"))) None ∷ End (op 0 1) (Won Sent) ∷ [])
    ∷ turn (Tick 1 [] ∷ [])
    ∷ turn []
    ∷ turn (Took (op 0 1) 1 ∷ [])
    ∷ []

-- the first send doesn't wait for a pipe
abbrev pub no_pipe : List (Turn Entry)
no_pipe =
    turn (Tick 0 [] ∷ [])
    ∷ turn []
    ∷ turn (Begin (op 0 1) 1 0 (Send (message [] (codes "m"))) None ∷ End (op 0 1) (Won Sent) ∷ [])
    ∷ []

-- a pipe is up, and nothing is begun
abbrev pub idles : List (Turn Entry)
idles =
    turn (Tick 0 [] ∷ [])
    ∷ turn (Up 1 1 1048576 unnamed ∷ [])
    ∷ turn (Clear 1 ∷ Quiet 1 ∷ [])
    ∷ turn (Tick 1 [] ∷ [])
    ∷ turn (Clear 1 ∷ Quiet 1 ∷ [])
    ∷ []

-- another text
abbrev pub another_text : List (Turn Entry)
another_text =
    turn (Tick 0 [] ∷ [])
    ∷ turn (Up 1 1 1048576 unnamed ∷ [])
    ∷ turn (Clear 1 ∷ Quiet 1 ∷ [])
    ∷ turn (Begin (op 0 1) 1 0 (Send (message [] (codes "mm"))) None ∷ Out 1 (codes "mm") ∷ End (op 0 1) (Won Sent) ∷ [])
    ∷ []

-- the send stays uncollected
abbrev pub leaves : List (Turn Entry)
leaves =
    turn (Tick 0 [] ∷ [])
    ∷ turn (Up 1 1 1048576 unnamed ∷ [])
    ∷ turn (Clear 1 ∷ Quiet 1 ∷ [])
    ∷ turn (Begin (op 0 1) 1 0 (Send (message [] (codes "m"))) None ∷ Out 1 (codes "m") ∷ End (op 0 1) (Won Sent) ∷ [])
    ∷ turn (Tick 1 [] ∷ [])
    ∷ turn (Clear 1 ∷ Quiet 1 ∷ [])
    ∷ turn (Tick 2 [] ∷ [])
    ∷ turn (Clear 1 ∷ Quiet 1 ∷ [])
    ∷ []

-- the pipe's frames aren't read
abbrev pub skips_a_serve : List (Turn Entry)
skips_a_serve =
    turn (Tick 0 [] ∷ [])
    ∷ turn (Up 1 1 1048576 unnamed ∷ [])
    ∷ turn (Clear 1 ∷ Quiet 1 ∷ [])
    ∷ turn (Begin (op 0 1) 1 0 (Send (message [] (codes "m"))) None ∷ Out 1 (codes "m") ∷ End (op 0 1) (Won Sent) ∷ [])
    ∷ turn (Tick 1 [] ∷ [])
    ∷ turn (Took (op 0 1) 1 ∷ [])
    ∷ turn (Begin (op 0 2) 1 0 (Send (message [] (codes "m"))) None ∷ Out 1 (codes "m") ∷ End (op 0 2) (Won Sent) ∷ [])
    ∷ turn (Tick 2 [] ∷ [])
    ∷ []

-- the rules that they break, and what the plays count and print
pub record PubRows : Type 0 where
  pub waits_breaks : broken (socket Pub) (record (bare Pub) { body = Some (codes "m"); count = Some 1 }) waits ≡ []
  pub waits_gives : gives (socket Pub) (record (bare Pub) { body = Some (codes "m"); count = Some 1 }) waits ≡ (1, [])
  pub full_breaks : broken (socket Pub) (record (bare Pub) { body = Some (codes "m"); count = Some 1 }) full ≡ []
  pub full_gives : gives (socket Pub) (record (bare Pub) { body = Some (codes "m"); count = Some 1 }) full ≡ (1, [])
  pub later_breaks : broken (socket Pub) (record (bare Pub) { body = Some (codes "m") }) later ≡ []
  pub later_gives : gives (socket Pub) (record (bare Pub) { body = Some (codes "m") }) later ≡ (2, [])
  pub falls_away_breaks : broken (socket Pub) (record (bare Pub) { body = Some (codes "m"); count = Some 1 }) falls_away ≡ []
  pub falls_away_gives : gives (socket Pub) (record (bare Pub) { body = Some (codes "m"); count = Some 1 }) falls_away ≡ (1, [])
  pub no_pipe_breaks : broken (socket Pub) (record (bare Pub) { body = Some (codes "m"); count = Some 1 }) no_pipe ≡ rules.Starts ∷ []
  pub idles_breaks : broken (socket Pub) (record (bare Pub) { body = Some (codes "m") }) idles ≡ rules.Rounds ∷ []
  pub another_text_breaks : broken (socket Pub) (record (bare Pub) { body = Some (codes "m") }) another_text ≡ rules.Data ∷ []
  pub leaves_breaks : broken (socket Pub) (record (bare Pub) { body = Some (codes "m") }) leaves ≡ rules.Collected ∷ []
  pub skips_a_serve_breaks : broken (socket Pub) (record (bare Pub) { body = Some (codes "m") }) skips_a_serve ≡ rules.Swept ∷ []

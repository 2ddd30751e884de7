-- Example records of a push: each with the rules that it breaks, none where it is a play.
use Rattle.std.specs.Prelude.{◌≡◌, List, [], ◌∷◌, Some, None, codes}
use Rattle.sp_base.specs.declared.role.Role.TheVariants.{Push}
use Rattle.turn_lock.specs.declared.turn.Turn.{Turn}
use Rattle.sp_history.specs.declared.entry.Entry.{Entry}
use Rattle.sp_history.specs.declared.entry.RecordedAct.TheVariants.{Send}
use Rattle.sp_history.specs.declared.entry.Completion.TheVariants.{Sent}
use Rattle.sp_history.specs.declared.entry.Cause.TheVariants.{TimedOut}
use Rattle.sp_history.specs.declared.entry.Why.TheVariants as whys
use Rattle.sp_history.specs.declared.entry.Ending.TheVariants.{Won, Gone}
use Rattle.sp_history.specs.declared.entry.Entry.TheVariants.{Up, Down, Out, Quiet, Clear, Begin, End, Took, Tick, Close}
use Rattle.sp_history.specs.Frames.{message}
use Rattle.cat_play.specs.Rules.{broken}
use Rattle.cat_play.specs.Rules as rules
use Rattle.play_rows.specs.Rows.{socket, bare, turn, op, unnamed, gives}

-- the text goes out twice
abbrev pub twice : List (Turn Entry)
twice =
    turn (Tick 0 [] ∷ [])
    ∷ turn (Up 1 1 1048576 unnamed ∷ [])
    ∷ turn (Clear 1 ∷ Quiet 1 ∷ [])
    ∷ turn (Begin (op 0 1) 1 0 (Send (message [] (codes "hi"))) None ∷ Out 1 (codes "hi") ∷ End (op 0 1) (Won Sent) ∷ [])
    ∷ turn (Tick 1 [] ∷ [])
    ∷ turn (Clear 1 ∷ Quiet 1 ∷ [])
    ∷ turn (Took (op 0 1) 1 ∷ [])
    ∷ turn (Begin (op 0 2) 1 0 (Send (message [] (codes "hi"))) None ∷ Out 1 (codes "hi") ∷ End (op 0 2) (Won Sent) ∷ [])
    ∷ turn (Tick 2 [] ∷ [])
    ∷ turn (Clear 1 ∷ Quiet 1 ∷ [])
    ∷ turn (Took (op 0 2) 1 ∷ [])
    ∷ turn (Tick 3 [] ∷ [])
    ∷ turn (Clear 1 ∷ Quiet 1 ∷ [])
    ∷ turn (Clear 1 ∷ Down 1 whys.Closed ∷ Close (record { begun = 2; won = 2; gone = 0; frames = 0; outs = 2; fulls = 0 }) ∷ [])
    ∷ []

-- the send is begun at once, waits for a pipe, and goes out when one comes up
abbrev pub waits : List (Turn Entry)
waits =
    turn (Tick 0 [] ∷ [])
    ∷ turn []
    ∷ turn (Begin (op 0 1) 1 0 (Send (message [] (codes "hi"))) None ∷ [])
    ∷ turn (Tick 1 [] ∷ [])
    ∷ turn (Up 1 1 1048576 unnamed ∷ Out 1 (codes "hi") ∷ End (op 0 1) (Won Sent) ∷ [])
    ∷ turn (Clear 1 ∷ Quiet 1 ∷ [])
    ∷ turn (Took (op 0 1) 1 ∷ [])
    ∷ turn (Tick 2 [] ∷ [])
    ∷ turn (Clear 1 ∷ Quiet 1 ∷ [])
    ∷ turn (Clear 1 ∷ Down 1 whys.Closed ∷ Close (record { begun = 1; won = 1; gone = 0; frames = 0; outs = 1; fulls = 0 }) ∷ [])
    ∷ []

-- the send times out
abbrev pub times_out : List (Turn Entry)
times_out =
    turn (Tick 3 [] ∷ [])
    ∷ turn []
    ∷ turn (Begin (op 0 1) 1 0 (Send (message [] (codes "hi"))) (Some 3) ∷ [])
    ∷ turn (Tick 4 (op 0 1 ∷ []) ∷ [])
    ∷ turn []
    ∷ turn (End (op 0 1) (Gone TimedOut 1) ∷ Took (op 0 1) 1 ∷ [])
    ∷ turn (Tick 5 [] ∷ [])
    ∷ turn []
    ∷ turn (Close (record { begun = 1; won = 0; gone = 1; frames = 0; outs = 0; fulls = 0 }) ∷ [])
    ∷ []

-- the second send waits for the interval
abbrev pub interval : List (Turn Entry)
interval =
    turn (Tick 0 [] ∷ [])
    ∷ turn (Up 1 1 1048576 unnamed ∷ [])
    ∷ turn (Clear 1 ∷ Quiet 1 ∷ [])
    ∷ turn (Begin (op 0 1) 1 0 (Send (message [] (codes "h"))) None ∷ Out 1 (codes "h") ∷ End (op 0 1) (Won Sent) ∷ [])
    ∷ turn (Tick 500 [] ∷ [])
    ∷ turn (Clear 1 ∷ Quiet 1 ∷ [])
    ∷ turn (Took (op 0 1) 1 ∷ [])
    ∷ turn (Tick 999 [] ∷ [])
    ∷ turn (Clear 1 ∷ Quiet 1 ∷ [])
    ∷ turn (Tick 1000 [] ∷ [])
    ∷ turn (Clear 1 ∷ Quiet 1 ∷ [])
    ∷ turn (Begin (op 0 2) 1 0 (Send (message [] (codes "h"))) None ∷ Out 1 (codes "h") ∷ End (op 0 2) (Won Sent) ∷ [])
    ∷ []

-- another text is sent
abbrev pub another_text : List (Turn Entry)
another_text =
    turn (Tick 0 [] ∷ [])
    ∷ turn (Up 1 1 1048576 unnamed ∷ [])
    ∷ turn (Clear 1 ∷ Quiet 1 ∷ [])
    ∷ turn (Begin (op 0 1) 1 0 (Send (message [] (codes "ih"))) None ∷ Out 1 (codes "ih") ∷ End (op 0 1) (Won Sent) ∷ [])
    ∷ []

-- a header is left on the message
abbrev pub header : List (Turn Entry)
header =
    turn (Tick 0 [] ∷ [])
    ∷ turn (Up 1 1 1048576 unnamed ∷ [])
    ∷ turn (Clear 1 ∷ Quiet 1 ∷ [])
    ∷ turn (Begin (op 0 1) 1 0 (Send (message (0 ∷ []) (codes "hi"))) None ∷ Out 1 (codes "hi") ∷ End (op 0 1) (Won Sent) ∷ [])
    ∷ []

-- the second send doesn't wait for the interval
abbrev pub too_soon : List (Turn Entry)
too_soon =
    turn (Tick 0 [] ∷ [])
    ∷ turn (Up 1 1 1048576 unnamed ∷ [])
    ∷ turn (Clear 1 ∷ Quiet 1 ∷ [])
    ∷ turn (Begin (op 0 1) 1 0 (Send (message [] (codes "h"))) None ∷ Out 1 (codes "h") ∷ End (op 0 1) (Won Sent) ∷ [])
    ∷ turn (Tick 999 [] ∷ [])
    ∷ turn (Clear 1 ∷ Quiet 1 ∷ [])
    ∷ turn (Took (op 0 1) 1 ∷ [])
    ∷ turn (Begin (op 0 2) 1 0 (Send (message [] (codes "h"))) None ∷ Out 1 (codes "h") ∷ End (op 0 2) (Won Sent) ∷ [])
    ∷ []

-- it still waits when the interval has passed
abbrev pub too_late : List (Turn Entry)
too_late =
    turn (Tick 0 [] ∷ [])
    ∷ turn (Up 1 1 1048576 unnamed ∷ [])
    ∷ turn (Clear 1 ∷ Quiet 1 ∷ [])
    ∷ turn (Begin (op 0 1) 1 0 (Send (message [] (codes "h"))) None ∷ Out 1 (codes "h") ∷ End (op 0 1) (Won Sent) ∷ [])
    ∷ turn (Tick 500 [] ∷ [])
    ∷ turn (Clear 1 ∷ Quiet 1 ∷ [])
    ∷ turn (Took (op 0 1) 1 ∷ [])
    ∷ turn (Tick 1000 [] ∷ [])
    ∷ turn (Clear 1 ∷ Quiet 1 ∷ [])
    ∷ turn (Tick 1001 [] ∷ [])
    ∷ turn (Clear 1 ∷ Quiet 1 ∷ [])
    ∷ []

-- no deadline, though the plan has one
abbrev pub no_deadline : List (Turn Entry)
no_deadline =
    turn (Tick 0 [] ∷ [])
    ∷ turn []
    ∷ turn (Begin (op 0 1) 1 0 (Send (message [] (codes "h"))) None ∷ [])
    ∷ []

-- a send follows one that timed out
abbrev pub goes_on : List (Turn Entry)
goes_on =
    turn (Tick 0 [] ∷ [])
    ∷ turn []
    ∷ turn (Begin (op 0 1) 1 0 (Send (message [] (codes "h"))) (Some 0) ∷ [])
    ∷ turn (Tick 1 (op 0 1 ∷ []) ∷ [])
    ∷ turn []
    ∷ turn (End (op 0 1) (Gone TimedOut 1) ∷ Took (op 0 1) 1 ∷ [])
    ∷ turn (Begin (op 0 2) 1 0 (Send (message [] (codes "h"))) (Some 1) ∷ [])
    ∷ []

-- the rules that they break, and what the plays count and print
pub record PushRows : Type 0 where
  pub twice_breaks : broken (socket Push) (record (bare Push) { body = Some (codes "hi"); count = Some 2 }) twice ≡ []
  pub twice_gives : gives (socket Push) (record (bare Push) { body = Some (codes "hi"); count = Some 2 }) twice ≡ (2, [])
  pub waits_breaks : broken (socket Push) (record (bare Push) { body = Some (codes "hi"); count = Some 1 }) waits ≡ []
  pub waits_gives : gives (socket Push) (record (bare Push) { body = Some (codes "hi"); count = Some 1 }) waits ≡ (1, [])
  pub times_out_breaks : broken (socket Push) (record (bare Push) { body = Some (codes "hi"); send_timeout = Some 0 }) times_out ≡ []
  pub times_out_gives : gives (socket Push) (record (bare Push) { body = Some (codes "hi"); send_timeout = Some 0 }) times_out ≡ (0, [])
  pub interval_breaks : broken (socket Push) (record (bare Push) { body = Some (codes "h"); count = Some 2; interval = Some 1 }) interval ≡ []
  pub interval_gives : gives (socket Push) (record (bare Push) { body = Some (codes "h"); count = Some 2; interval = Some 1 }) interval ≡ (1, [])
  pub another_text_breaks : broken (socket Push) (record (bare Push) { body = Some (codes "hi") }) another_text ≡ rules.Data ∷ []
  pub header_breaks : broken (socket Push) (record (bare Push) { body = Some (codes "hi") }) header ≡ rules.Data ∷ []
  pub too_soon_breaks : broken (socket Push) (record (bare Push) { body = Some (codes "h"); count = Some 2; interval = Some 1 }) too_soon ≡ rules.Spaced ∷ []
  pub too_late_breaks : broken (socket Push) (record (bare Push) { body = Some (codes "h"); count = Some 2; interval = Some 1 }) too_late ≡ rules.Rounds ∷ []
  pub no_deadline_breaks : broken (socket Push) (record (bare Push) { body = Some (codes "h"); send_timeout = Some 1 }) no_deadline ≡ rules.Deadlines ∷ []
  pub goes_on_breaks : broken (socket Push) (record (bare Push) { body = Some (codes "h"); send_timeout = Some 0 }) goes_on ≡ rules.Verbs ∷ []

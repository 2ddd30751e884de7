-- Example records of a pull: each with the rules that it breaks, none where it is a play.
use Rattle.std.specs.Prelude.{◌≡◌, true, false, List, [], ◌∷◌, ◌++◌, Some, None, codes}
use Rattle.sp_base.specs.declared.role.Role.TheVariants.{Pull}
use Rattle.turn_lock.specs.declared.turn.Turn.{Turn}
use Rattle.sp_history.specs.declared.entry.Entry.{Entry}
use Rattle.sp_history.specs.declared.entry.RecordedAct.TheVariants.{Recv}
use Rattle.sp_history.specs.declared.entry.Completion.TheVariants.{Received}
use Rattle.sp_history.specs.declared.entry.Cause.TheVariants.{Cancelled, TimedOut}
use Rattle.sp_history.specs.declared.entry.Cause.TheVariants as causes
use Rattle.sp_history.specs.declared.entry.Why.TheVariants as whys
use Rattle.sp_history.specs.declared.entry.Ending.TheVariants.{Won, Gone}
use Rattle.sp_history.specs.declared.entry.Entry.TheVariants.{Up, Down, Frame, Quiet, Clear, Taken, Begin, End, Took, Tick, Close}
use Rattle.sp_history.specs.Frames.{message}
use Rattle.sp_history.specs.Past.{past_of}
use Rattle.cat_play.specs.Rules.{broken}
use Rattle.cat_play.specs.Scripts.{ends_received}
use Rattle.cat_play.specs.Rules as rules
use Rattle.play_rows.specs.Rows.{socket, bare, turn, op, unnamed, gives}

-- a message comes in the first round, is received and collected, and the count is reached
abbrev pub one : List (Turn Entry)
one =
    turn (Tick 0 [] ∷ [])
    ∷ turn (Up 1 1 1048576 unnamed ∷ [])
    ∷ turn (Clear 1 ∷ Frame 1 (codes "hello") ∷ [])
    ∷ turn (Begin (op 0 1) 1 0 Recv None ∷ End (op 0 1) (Won (Received (message [] (codes "hello")))) ∷ [])
    ∷ turn (Tick 1 [] ∷ [])
    ∷ turn (Clear 1 ∷ Quiet 1 ∷ [])
    ∷ turn (Took (op 0 1) 1 ∷ [])
    ∷ turn (Tick 2 [] ∷ [])
    ∷ turn (Clear 1 ∷ Quiet 1 ∷ [])
    ∷ turn (Clear 1 ∷ Down 1 whys.Closed ∷ Close (record { begun = 1; won = 1; gone = 0; frames = 1; outs = 0; fulls = 0 }) ∷ [])
    ∷ turn (Taken 1 ∷ [])
    ∷ []

-- the receive waits for a link, round after round
abbrev pub waits : List (Turn Entry)
waits =
    turn (Tick 0 [] ∷ [])
    ∷ turn []
    ∷ turn (Begin (op 0 1) 1 0 Recv None ∷ [])
    ∷ turn (Tick 1 [] ∷ [])
    ∷ turn []
    ∷ turn []
    ∷ turn (Tick 2 [] ∷ [])
    ∷ turn (Up 1 1 1048576 unnamed ∷ [])
    ∷ turn (Clear 1 ∷ Frame 1 (codes "a") ∷ End (op 0 1) (Won (Received (message [] (codes "a")))) ∷ Quiet 1 ∷ [])
    ∷ turn (Took (op 0 1) 1 ∷ [])
    ∷ turn (Tick 3 [] ∷ [])
    ∷ turn (Clear 1 ∷ Quiet 1 ∷ [])
    ∷ turn (Clear 1 ∷ Down 1 whys.Closed ∷ Close (record { begun = 1; won = 1; gone = 0; frames = 1; outs = 0; fulls = 0 }) ∷ [])
    ∷ []

-- the receive times out, and the play is over
abbrev pub times_out : List (Turn Entry)
times_out =
    turn (Tick 0 [] ∷ [])
    ∷ turn []
    ∷ turn (Begin (op 0 1) 1 0 Recv (Some 0) ∷ [])
    ∷ turn (Tick 1 (op 0 1 ∷ []) ∷ [])
    ∷ turn []
    ∷ turn (End (op 0 1) (Gone TimedOut 1) ∷ Took (op 0 1) 1 ∷ [])
    ∷ turn (Tick 2 [] ∷ [])
    ∷ turn []
    ∷ turn (Close (record { begun = 1; won = 0; gone = 1; frames = 0; outs = 0; fulls = 0 }) ∷ [])
    ∷ []

-- the run is called off, and what was under way is collected after the close
abbrev pub called_off : List (Turn Entry)
called_off =
    turn (Tick 7 [] ∷ [])
    ∷ turn []
    ∷ turn (Begin (op 0 1) 1 0 Recv None ∷ [])
    ∷ turn (End (op 0 1) (Gone causes.Closed 0) ∷ Close (record { begun = 1; won = 0; gone = 1; frames = 0; outs = 0; fulls = 0 }) ∷ [])
    ∷ turn (Took (op 0 1) 1 ∷ [])
    ∷ []

-- the run is called off over a message that was received: collected after the close, it counts and prints nothing
abbrev pub collected_late : List (Turn Entry)
collected_late =
    turn (Tick 0 [] ∷ [])
    ∷ turn (Up 1 1 1048576 unnamed ∷ [])
    ∷ turn (Clear 1 ∷ Frame 1 (codes "a") ∷ [])
    ∷ turn (Begin (op 0 1) 1 0 Recv None ∷ End (op 0 1) (Won (Received (message [] (codes "a")))) ∷ [])
    ∷ turn (Clear 1 ∷ Down 1 whys.Closed ∷ Close (record { begun = 1; won = 1; gone = 0; frames = 1; outs = 0; fulls = 0 }) ∷ [])
    ∷ turn (Took (op 0 1) 1 ∷ [])
    ∷ turn (Taken 1 ∷ [])
    ∷ []

-- a deadline is never above 2^64 - 1
abbrev pub last_deadline : List (Turn Entry)
last_deadline =
    turn (Tick 18446744073709551615 [] ∷ [])
    ∷ turn []
    ∷ turn (Begin (op 0 1) 1 0 Recv (Some 18446744073709551615) ∷ [])
    ∷ []

-- a turn has two ticks, with no serve between them
abbrev pub two_ticks : List (Turn Entry)
two_ticks =
    turn (Tick 0 [] ∷ [])
    ∷ turn []
    ∷ turn (Begin (op 0 1) 1 0 Recv None ∷ [])
    ∷ turn (Tick 1 [] ∷ Tick 2 [] ∷ [])
    ∷ []

-- no pipe is up, and there is no turn between two ticks
abbrev pub no_turn : List (Turn Entry)
no_turn =
    turn (Tick 0 [] ∷ [])
    ∷ turn []
    ∷ turn (Begin (op 0 1) 1 0 Recv None ∷ [])
    ∷ turn (Tick 1 [] ∷ [])
    ∷ turn (Tick 2 [] ∷ [])
    ∷ []

-- nothing is begun
abbrev pub idles : List (Turn Entry)
idles =
    turn (Tick 0 [] ∷ [])
    ∷ turn []
    ∷ turn (Tick 1 [] ∷ [])
    ∷ turn []
    ∷ turn (Close (record { begun = 0; won = 0; gone = 0; frames = 0; outs = 0; fulls = 0 }) ∷ [])
    ∷ []

-- an operation that ended stays uncollected for two rounds
abbrev pub leaves : List (Turn Entry)
leaves =
    turn (Tick 0 [] ∷ [])
    ∷ turn (Up 1 1 1048576 unnamed ∷ [])
    ∷ turn (Clear 1 ∷ Frame 1 (codes "a") ∷ [])
    ∷ turn (Begin (op 0 1) 1 0 Recv None ∷ End (op 0 1) (Won (Received (message [] (codes "a")))) ∷ [])
    ∷ turn (Tick 1 [] ∷ [])
    ∷ turn (Clear 1 ∷ Quiet 1 ∷ [])
    ∷ turn (Tick 2 [] ∷ [])
    ∷ turn (Clear 1 ∷ Quiet 1 ∷ [])
    ∷ turn (Took (op 0 1) 1 ∷ [])
    ∷ []

-- the pipe isn't read in the second round
abbrev pub skips_a_serve : List (Turn Entry)
skips_a_serve =
    turn (Tick 0 [] ∷ [])
    ∷ turn (Up 1 1 1048576 unnamed ∷ [])
    ∷ turn (Clear 1 ∷ Quiet 1 ∷ [])
    ∷ turn (Begin (op 0 1) 1 0 Recv None ∷ [])
    ∷ turn (Tick 1 [] ∷ [])
    ∷ turn []
    ∷ turn (Tick 2 [] ∷ [])
    ∷ turn (Clear 1 ∷ Quiet 1 ∷ [])
    ∷ []

-- a second receive is begun while one is pending
abbrev pub two_at_once : List (Turn Entry)
two_at_once =
    turn (Tick 0 [] ∷ [])
    ∷ turn []
    ∷ turn (Begin (op 0 1) 1 0 Recv None ∷ [])
    ∷ turn (Begin (op 1 1) 1 0 Recv None ∷ [])
    ∷ []

-- a receive is begun after the count is reached
abbrev pub goes_on : List (Turn Entry)
goes_on =
    turn (Tick 0 [] ∷ [])
    ∷ turn (Up 1 1 1048576 unnamed ∷ [])
    ∷ turn (Clear 1 ∷ Frame 1 (codes "a") ∷ [])
    ∷ turn (Begin (op 0 1) 1 0 Recv None ∷ End (op 0 1) (Won (Received (message [] (codes "a")))) ∷ [])
    ∷ turn (Tick 1 [] ∷ [])
    ∷ turn (Clear 1 ∷ Quiet 1 ∷ [])
    ∷ turn (Took (op 0 1) 1 ∷ [])
    ∷ turn (Begin (op 0 2) 1 0 Recv None ∷ [])
    ∷ []

-- the deadline counts milliseconds instead of seconds
abbrev pub short_deadline : List (Turn Entry)
short_deadline =
    turn (Tick 5 [] ∷ [])
    ∷ turn []
    ∷ turn (Begin (op 0 1) 1 0 Recv (Some 6) ∷ [])
    ∷ []

-- the receive is cancelled
abbrev pub cancels : List (Turn Entry)
cancels =
    turn (Tick 0 [] ∷ [])
    ∷ turn []
    ∷ turn (Begin (op 0 1) 1 0 Recv None ∷ [])
    ∷ turn (End (op 0 1) (Gone Cancelled 1) ∷ Took (op 0 1) 1 ∷ [])
    ∷ []

-- the run ends at a message that was collected
abbrev pub ends_there : List (Turn Entry)
ends_there =
    turn (Tick 0 [] ∷ [])
    ∷ turn (Up 1 1 1048576 unnamed ∷ [])
    ∷ turn (Clear 1 ∷ Frame 1 (codes "a") ∷ [])
    ∷ turn (Begin (op 0 1) 1 0 Recv None ∷ End (op 0 1) (Won (Received (message [] (codes "a")))) ∷ [])
    ∷ turn (Took (op 0 1) 1 ∷ [])
    ∷ turn (Clear 1 ∷ Down 1 whys.Closed ∷ Close (record { begun = 1; won = 1; gone = 0; frames = 1; outs = 0; fulls = 0 }) ∷ [])
    ∷ turn (Taken 1 ∷ [])
    ∷ []

-- the rules that they break, and what the plays count and print
pub record PullRows : Type 0 where
  pub one_breaks : broken (socket Pull) (record (bare Pull) { count = Some 1 }) one ≡ []
  pub one_gives : gives (socket Pull) (record (bare Pull) { count = Some 1 }) one ≡ (1, codes "hello" ++ 10 ∷ [])
  pub waits_breaks : broken (socket Pull) (record (bare Pull) { count = Some 1 }) waits ≡ []
  pub waits_gives : gives (socket Pull) (record (bare Pull) { count = Some 1 }) waits ≡ (1, codes "a" ++ 10 ∷ [])
  pub times_out_breaks : broken (socket Pull) (record (bare Pull) { count = Some 1; recv_timeout = Some 0 }) times_out ≡ []
  pub times_out_gives : gives (socket Pull) (record (bare Pull) { count = Some 1; recv_timeout = Some 0 }) times_out ≡ (0, [])
  pub called_off_breaks : broken (socket Pull) (bare Pull) called_off ≡ []
  pub called_off_gives : gives (socket Pull) (bare Pull) called_off ≡ (0, [])
  pub collected_late_breaks : broken (socket Pull) (record (bare Pull) { count = Some 1 }) collected_late ≡ []
  pub collected_late_gives : gives (socket Pull) (record (bare Pull) { count = Some 1 }) collected_late ≡ (0, [])
  pub last_deadline_breaks : broken (socket Pull) (record (bare Pull) { recv_timeout = Some 86400 }) last_deadline ≡ []
  pub last_deadline_gives : gives (socket Pull) (record (bare Pull) { recv_timeout = Some 86400 }) last_deadline ≡ (0, [])
  pub two_ticks_breaks : broken (socket Pull) (bare Pull) two_ticks ≡ rules.Swept ∷ []
  pub no_turn_breaks : broken (socket Pull) (bare Pull) no_turn ≡ rules.Swept ∷ []
  pub idles_breaks : broken (socket Pull) (record (bare Pull) { count = Some 1 }) idles ≡ rules.Rounds ∷ []
  pub leaves_breaks : broken (socket Pull) (bare Pull) leaves ≡ rules.Collected ∷ []
  pub skips_a_serve_breaks : broken (socket Pull) (bare Pull) skips_a_serve ≡ rules.Swept ∷ []
  pub two_at_once_breaks : broken (socket Pull) (bare Pull) two_at_once ≡ rules.Alternate ∷ []
  pub goes_on_breaks : broken (socket Pull) (record (bare Pull) { count = Some 1 }) goes_on ≡ rules.Verbs ∷ []
  pub short_deadline_breaks : broken (socket Pull) (record (bare Pull) { recv_timeout = Some 1 }) short_deadline ≡ rules.Deadlines ∷ []
  pub cancels_breaks : broken (socket Pull) (bare Pull) cancels ≡ rules.Uncancelled ∷ []
  -- where the output failed: a record ends at the message that was collected last; a later tick, a later begin, or a
  -- collecting after the close is too late
  pub fails_there : ends_received (past_of ends_there) ≡ true
  pub ticks_after : ends_received (past_of one) ≡ false
  pub begins_after : ends_received (past_of goes_on) ≡ false
  pub collects_after : ends_received (past_of collected_late) ≡ false
  pub collects_none : ends_received (past_of cancels) ≡ false

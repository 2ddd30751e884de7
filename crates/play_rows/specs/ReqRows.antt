-- Example records of a req: each with the rules that it breaks, none where it is a play.
use Rattle.std.specs.Prelude.{◌≡◌, List, [], ◌∷◌, ◌++◌, Some, None, codes}
use Rattle.sp_base.specs.declared.role.Role.TheVariants.{Req}
use Rattle.turn_lock.specs.declared.turn.Turn.{Turn}
use Rattle.sp_history.specs.declared.entry.Entry.{Entry}
use Rattle.sp_history.specs.declared.entry.RecordedAct.TheVariants.{Recv, Send}
use Rattle.sp_history.specs.declared.entry.Completion.TheVariants.{Received, Sent}
use Rattle.sp_history.specs.declared.entry.Cause.TheVariants.{TimedOut}
use Rattle.sp_history.specs.declared.entry.Why.TheVariants as whys
use Rattle.sp_history.specs.declared.entry.Ending.TheVariants.{Won, Gone}
use Rattle.sp_history.specs.declared.entry.Entry.TheVariants.{Up, Down, Frame, Out, Quiet, Clear, Begin, End, Took, Tick, Close}
use Rattle.sp_history.specs.Frames.{message}
use Rattle.cat_play.specs.Rules.{broken}
use Rattle.cat_play.specs.Rules as rules
use Rattle.play_rows.specs.Rows.{socket, bare, turn, op, unnamed, gives}

-- a request goes out, its reply is received, and counts
abbrev pub asks : List (Turn Entry)
asks =
    turn (Tick 0 [] ∷ [])
    ∷ turn (Up 1 1 1048576 unnamed ∷ [])
    ∷ turn (Clear 1 ∷ Quiet 1 ∷ [])
    ∷ turn (Begin (op 0 1) 1 0 (Send (message [] (codes "ping"))) None ∷ Out 1 (128 ∷ 0 ∷ 0 ∷ 0 ∷ codes "ping") ∷ End (op 0 1) (Won Sent) ∷ [])
    ∷ turn (Tick 1 [] ∷ [])
    ∷ turn (Clear 1 ∷ Frame 1 (128 ∷ 0 ∷ 0 ∷ 0 ∷ codes "pong") ∷ Quiet 1 ∷ [])
    ∷ turn (Took (op 0 1) 1 ∷ [])
    ∷ turn (Begin (op 0 2) 1 0 Recv None ∷ End (op 0 2) (Won (Received (message [] (codes "pong")))) ∷ [])
    ∷ turn (Tick 2 [] ∷ [])
    ∷ turn (Clear 1 ∷ Quiet 1 ∷ [])
    ∷ turn (Took (op 0 2) 1 ∷ [])
    ∷ turn (Tick 3 [] ∷ [])
    ∷ turn (Clear 1 ∷ Quiet 1 ∷ [])
    ∷ turn (Clear 1 ∷ Down 1 whys.Closed ∷ Close (record { begun = 2; won = 2; gone = 0; frames = 1; outs = 1; fulls = 0 }) ∷ [])
    ∷ []

-- a second request follows the reply
abbrev pub asks_twice : List (Turn Entry)
asks_twice =
    turn (Tick 0 [] ∷ [])
    ∷ turn (Up 1 1 1048576 unnamed ∷ [])
    ∷ turn (Clear 1 ∷ Quiet 1 ∷ [])
    ∷ turn (Begin (op 0 1) 1 0 (Send (message [] (codes "a"))) None ∷ Out 1 (128 ∷ 0 ∷ 0 ∷ 0 ∷ codes "a") ∷ End (op 0 1) (Won Sent) ∷ [])
    ∷ turn (Tick 1 [] ∷ [])
    ∷ turn (Clear 1 ∷ Quiet 1 ∷ [])
    ∷ turn (Took (op 0 1) 1 ∷ [])
    ∷ turn (Begin (op 0 2) 1 0 Recv None ∷ [])
    ∷ turn (Tick 2 [] ∷ [])
    ∷ turn (Clear 1 ∷ Frame 1 (128 ∷ 0 ∷ 0 ∷ 0 ∷ codes "x") ∷ End (op 0 2) (Won (Received (message [] (codes "x")))) ∷ Quiet 1 ∷ [])
    ∷ turn (Took (op 0 2) 1 ∷ [])
    ∷ turn (Begin (op 0 3) 1 0 (Send (message [] (codes "a"))) None ∷ Out 1 (128 ∷ 0 ∷ 0 ∷ 1 ∷ codes "a") ∷ End (op 0 3) (Won Sent) ∷ [])
    ∷ []

-- the reply doesn't come in time
abbrev pub times_out : List (Turn Entry)
times_out =
    turn (Tick 0 [] ∷ [])
    ∷ turn (Up 1 1 1048576 unnamed ∷ [])
    ∷ turn (Clear 1 ∷ Quiet 1 ∷ [])
    ∷ turn (Begin (op 0 1) 1 0 (Send (message [] (codes "a"))) None ∷ Out 1 (128 ∷ 0 ∷ 0 ∷ 0 ∷ codes "a") ∷ End (op 0 1) (Won Sent) ∷ [])
    ∷ turn (Tick 1 [] ∷ [])
    ∷ turn (Clear 1 ∷ Quiet 1 ∷ [])
    ∷ turn (Took (op 0 1) 1 ∷ [])
    ∷ turn (Begin (op 0 2) 1 0 Recv (Some 1) ∷ [])
    ∷ turn (Tick 2 (op 0 2 ∷ []) ∷ [])
    ∷ turn (Clear 1 ∷ Quiet 1 ∷ [])
    ∷ turn (End (op 0 2) (Gone TimedOut 1) ∷ Took (op 0 2) 1 ∷ [])
    ∷ turn (Tick 3 [] ∷ [])
    ∷ turn (Clear 1 ∷ Quiet 1 ∷ [])
    ∷ turn (Clear 1 ∷ Down 1 whys.Closed ∷ Close (record { begun = 2; won = 1; gone = 1; frames = 0; outs = 1; fulls = 0 }) ∷ [])
    ∷ []

-- it sends again instead of receiving
abbrev pub asks_on : List (Turn Entry)
asks_on =
    turn (Tick 0 [] ∷ [])
    ∷ turn (Up 1 1 1048576 unnamed ∷ [])
    ∷ turn (Clear 1 ∷ Quiet 1 ∷ [])
    ∷ turn (Begin (op 0 1) 1 0 (Send (message [] (codes "a"))) None ∷ Out 1 (128 ∷ 0 ∷ 0 ∷ 0 ∷ codes "a") ∷ End (op 0 1) (Won Sent) ∷ [])
    ∷ turn (Tick 1 [] ∷ [])
    ∷ turn (Clear 1 ∷ Quiet 1 ∷ [])
    ∷ turn (Took (op 0 1) 1 ∷ [])
    ∷ turn (Begin (op 0 2) 1 0 (Send (message [] (codes "a"))) None ∷ Out 1 (128 ∷ 0 ∷ 0 ∷ 1 ∷ codes "a") ∷ End (op 0 2) (Won Sent) ∷ [])
    ∷ []

-- the reply isn't asked for
abbrev pub idles : List (Turn Entry)
idles =
    turn (Tick 0 [] ∷ [])
    ∷ turn (Up 1 1 1048576 unnamed ∷ [])
    ∷ turn (Clear 1 ∷ Quiet 1 ∷ [])
    ∷ turn (Begin (op 0 1) 1 0 (Send (message [] (codes "a"))) None ∷ Out 1 (128 ∷ 0 ∷ 0 ∷ 0 ∷ codes "a") ∷ End (op 0 1) (Won Sent) ∷ [])
    ∷ turn (Tick 1 [] ∷ [])
    ∷ turn (Clear 1 ∷ Quiet 1 ∷ [])
    ∷ turn (Took (op 0 1) 1 ∷ [])
    ∷ turn (Tick 2 [] ∷ [])
    ∷ turn (Clear 1 ∷ Quiet 1 ∷ [])
    ∷ []

-- another text
abbrev pub another_text : List (Turn Entry)
another_text =
    turn (Tick 0 [] ∷ [])
    ∷ turn []
    ∷ turn (Begin (op 0 1) 1 0 (Send (message [] (codes "b"))) None ∷ [])
    ∷ []

-- the reply stays uncollected
abbrev pub leaves : List (Turn Entry)
leaves =
    turn (Tick 0 [] ∷ [])
    ∷ turn (Up 1 1 1048576 unnamed ∷ [])
    ∷ turn (Clear 1 ∷ Quiet 1 ∷ [])
    ∷ turn (Begin (op 0 1) 1 0 (Send (message [] (codes "a"))) None ∷ Out 1 (128 ∷ 0 ∷ 0 ∷ 0 ∷ codes "a") ∷ End (op 0 1) (Won Sent) ∷ [])
    ∷ turn (Tick 1 [] ∷ [])
    ∷ turn (Clear 1 ∷ Frame 1 (128 ∷ 0 ∷ 0 ∷ 0 ∷ codes "x") ∷ Quiet 1 ∷ [])
    ∷ turn (Took (op 0 1) 1 ∷ [])
    ∷ turn (Begin (op 0 2) 1 0 Recv None ∷ End (op 0 2) (Won (Received (message [] (codes "x")))) ∷ [])
    ∷ turn (Tick 2 [] ∷ [])
    ∷ turn (Clear 1 ∷ Quiet 1 ∷ [])
    ∷ turn (Tick 3 [] ∷ [])
    ∷ turn (Clear 1 ∷ Quiet 1 ∷ [])
    ∷ []

-- the receive has the send's deadline
abbrev pub other_deadline : List (Turn Entry)
other_deadline =
    turn (Tick 0 [] ∷ [])
    ∷ turn (Up 1 1 1048576 unnamed ∷ [])
    ∷ turn (Clear 1 ∷ Quiet 1 ∷ [])
    ∷ turn (Begin (op 0 1) 1 0 (Send (message [] (codes "a"))) (Some 1000) ∷ Out 1 (128 ∷ 0 ∷ 0 ∷ 0 ∷ codes "a") ∷ End (op 0 1) (Won Sent) ∷ [])
    ∷ turn (Tick 1 [] ∷ [])
    ∷ turn (Clear 1 ∷ Quiet 1 ∷ [])
    ∷ turn (Took (op 0 1) 1 ∷ [])
    ∷ turn (Begin (op 0 2) 1 0 Recv (Some 1001) ∷ [])
    ∷ []

-- the rules that they break, and what the plays count and print
pub record ReqRows : Type 0 where
  pub asks_breaks : broken (socket Req) (record (bare Req) { body = Some (codes "ping"); count = Some 1 }) asks ≡ []
  pub asks_gives : gives (socket Req) (record (bare Req) { body = Some (codes "ping"); count = Some 1 }) asks ≡ (1, codes "pong" ++ 10 ∷ [])
  pub asks_twice_breaks : broken (socket Req) (record (bare Req) { body = Some (codes "a"); count = Some 2 }) asks_twice ≡ []
  pub asks_twice_gives : gives (socket Req) (record (bare Req) { body = Some (codes "a"); count = Some 2 }) asks_twice ≡ (1, codes "x" ++ 10 ∷ [])
  pub times_out_breaks : broken (socket Req) (record (bare Req) { body = Some (codes "a"); recv_timeout = Some 0 }) times_out ≡ []
  pub times_out_gives : gives (socket Req) (record (bare Req) { body = Some (codes "a"); recv_timeout = Some 0 }) times_out ≡ (0, [])
  pub asks_on_breaks : broken (socket Req) (record (bare Req) { body = Some (codes "a") }) asks_on ≡ rules.Verbs ∷ []
  pub idles_breaks : broken (socket Req) (record (bare Req) { body = Some (codes "a") }) idles ≡ rules.Rounds ∷ []
  pub another_text_breaks : broken (socket Req) (record (bare Req) { body = Some (codes "a") }) another_text ≡ rules.Data ∷ []
  pub leaves_breaks : broken (socket Req) (record (bare Req) { body = Some (codes "a") }) leaves ≡ rules.Collected ∷ []
  pub other_deadline_breaks : broken (socket Req) (record (bare Req) { body = Some (codes "a"); send_timeout = Some 1 }) other_deadline ≡ rules.Deadlines ∷ []

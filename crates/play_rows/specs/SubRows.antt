-- Example records of a sub: each with the rules that it breaks, none where it is a play.
use Rattle.std.specs.Prelude.{◌≡◌, List, [], ◌∷◌, ◌++◌, Some, None, codes}
use Rattle.sp_base.specs.declared.role.Role.TheVariants.{Sub}
use Rattle.turn_lock.specs.declared.turn.Turn.{Turn}
use Rattle.sp_history.specs.declared.entry.Entry.{Entry}
use Rattle.sp_history.specs.declared.entry.RecordedAct.TheVariants.{Recv}
use Rattle.sp_history.specs.declared.entry.Completion.TheVariants.{Received}
use Rattle.sp_history.specs.declared.entry.Why.TheVariants as whys
use Rattle.sp_history.specs.declared.entry.Ending.TheVariants.{Won}
use Rattle.sp_history.specs.declared.entry.Switch.TheVariants.{On}
use Rattle.sp_history.specs.declared.entry.ContextChange.TheVariants.{Open}
use Rattle.sp_history.specs.declared.entry.Entry.TheVariants.{Up, Down, Frame, Quiet, Clear, Begin, End, Took, Tick, Ctx, Topic, Close}
use Rattle.sp_history.specs.Frames.{message}
use Rattle.cat_play.specs.Rules.{broken}
use Rattle.cat_play.specs.Rules as rules
use Rattle.play_rows.specs.Rows.{socket, bare, turn, op, unnamed, gives}

-- what no topic matches isn't printed
abbrev pub topic : List (Turn Entry)
topic =
    turn (Topic 0 (codes "ab") On ∷ [])
    ∷ turn (Tick 0 [] ∷ [])
    ∷ turn (Up 1 1 1048576 unnamed ∷ [])
    ∷ turn (Clear 1 ∷ Frame 1 (codes "a") ∷ Frame 1 (codes "abc") ∷ Quiet 1 ∷ [])
    ∷ turn (Begin (op 0 1) 1 0 Recv None ∷ End (op 0 1) (Won (Received (message [] (codes "abc")))) ∷ [])
    ∷ turn (Tick 1 [] ∷ [])
    ∷ turn (Clear 1 ∷ Quiet 1 ∷ [])
    ∷ turn (Took (op 0 1) 1 ∷ [])
    ∷ turn (Tick 2 [] ∷ [])
    ∷ turn (Clear 1 ∷ Quiet 1 ∷ [])
    ∷ turn (Clear 1 ∷ Down 1 whys.Closed ∷ Close (record { begun = 1; won = 1; gone = 0; frames = 2; outs = 0; fulls = 0 }) ∷ [])
    ∷ []

-- the empty topic
abbrev pub all : List (Turn Entry)
all =
    turn (Topic 0 [] On ∷ [])
    ∷ turn (Tick 0 [] ∷ [])
    ∷ turn (Up 1 1 1048576 unnamed ∷ [])
    ∷ turn (Clear 1 ∷ Frame 1 (codes "a") ∷ Quiet 1 ∷ [])
    ∷ turn (Begin (op 0 1) 1 0 Recv None ∷ End (op 0 1) (Won (Received (message [] (codes "a")))) ∷ [])
    ∷ turn (Tick 1 [] ∷ [])
    ∷ turn (Clear 1 ∷ Quiet 1 ∷ [])
    ∷ turn (Took (op 0 1) 1 ∷ [])
    ∷ []

-- two topics
abbrev pub two : List (Turn Entry)
two =
    turn (Topic 0 (codes "a") On ∷ [])
    ∷ turn (Topic 0 (codes "b") On ∷ [])
    ∷ turn (Tick 0 [] ∷ [])
    ∷ turn []
    ∷ turn (Begin (op 0 1) 1 0 Recv None ∷ [])
    ∷ turn (Tick 1 [] ∷ [])
    ∷ turn []
    ∷ []

-- the plan's topic is missing
abbrev pub no_topic : List (Turn Entry)
no_topic =
    turn (Tick 0 [] ∷ [])
    ∷ turn []
    ∷ turn (Begin (op 0 1) 1 0 Recv None ∷ [])
    ∷ []

-- a further topic is there
abbrev pub more_topics : List (Turn Entry)
more_topics =
    turn (Topic 0 (codes "ab") On ∷ [])
    ∷ turn (Topic 0 (codes "a") On ∷ [])
    ∷ turn (Tick 0 [] ∷ [])
    ∷ turn (Up 1 1 1048576 unnamed ∷ [])
    ∷ turn (Clear 1 ∷ Frame 1 (codes "a") ∷ Quiet 1 ∷ [])
    ∷ turn (Begin (op 0 1) 1 0 Recv None ∷ End (op 0 1) (Won (Received (message [] (codes "a")))) ∷ [])
    ∷ []

-- the topic comes after the first receive
abbrev pub late_topic : List (Turn Entry)
late_topic =
    turn (Tick 0 [] ∷ [])
    ∷ turn []
    ∷ turn (Begin (op 0 1) 1 0 Recv None ∷ [])
    ∷ turn (Topic 0 (codes "a") On ∷ [])
    ∷ []

-- another context receives
abbrev pub context : List (Turn Entry)
context =
    turn (Topic 0 [] On ∷ [])
    ∷ turn (Tick 0 [] ∷ [])
    ∷ turn (Ctx 1 Open ∷ [])
    ∷ turn (Begin (op 0 1) 1 1 Recv None ∷ [])
    ∷ []

-- idle
abbrev pub idles : List (Turn Entry)
idles =
    turn (Topic 0 [] On ∷ [])
    ∷ turn (Tick 0 [] ∷ [])
    ∷ turn []
    ∷ turn (Tick 1 [] ∷ [])
    ∷ []

-- the deadline is a second late
abbrev pub long_deadline : List (Turn Entry)
long_deadline =
    turn (Topic 0 [] On ∷ [])
    ∷ turn (Tick 10 [] ∷ [])
    ∷ turn []
    ∷ turn (Begin (op 0 1) 1 0 Recv (Some 3010) ∷ [])
    ∷ []

-- the rules that they break, and what the plays count and print
pub record SubRows : Type 0 where
  pub topic_breaks : broken (socket Sub) (record (bare Sub) { count = Some 1; topics = (codes "ab") ∷ [] }) topic ≡ []
  pub topic_gives : gives (socket Sub) (record (bare Sub) { count = Some 1; topics = (codes "ab") ∷ [] }) topic ≡ (1, codes "abc" ++ 10 ∷ [])
  pub all_breaks : broken (socket Sub) (record (bare Sub) { count = Some 1; topics = [] ∷ [] }) all ≡ []
  pub all_gives : gives (socket Sub) (record (bare Sub) { count = Some 1; topics = [] ∷ [] }) all ≡ (1, codes "a" ++ 10 ∷ [])
  pub two_breaks : broken (socket Sub) (record (bare Sub) { topics = (codes "a") ∷ (codes "b") ∷ [] }) two ≡ []
  pub two_gives : gives (socket Sub) (record (bare Sub) { topics = (codes "a") ∷ (codes "b") ∷ [] }) two ≡ (0, [])
  pub no_topic_breaks : broken (socket Sub) (record (bare Sub) { topics = (codes "a") ∷ [] }) no_topic ≡ rules.Topics ∷ []
  pub more_topics_breaks : broken (socket Sub) (record (bare Sub) { count = Some 1; topics = (codes "ab") ∷ [] }) more_topics ≡ rules.Topics ∷ []
  pub late_topic_breaks : broken (socket Sub) (record (bare Sub) { topics = (codes "a") ∷ [] }) late_topic ≡ rules.Topics ∷ []
  pub context_breaks : broken (socket Sub) (record (bare Sub) { topics = [] ∷ [] }) context ≡ rules.Topics ∷ rules.Alternate ∷ []
  pub idles_breaks : broken (socket Sub) (record (bare Sub) { topics = [] ∷ [] }) idles ≡ rules.Rounds ∷ []
  pub long_deadline_breaks : broken (socket Sub) (record (bare Sub) { recv_timeout = Some 2; topics = [] ∷ [] }) long_deadline ≡ rules.Deadlines ∷ []

-- Further example records: each with the rules that it breaks, none where it is a play.
use Rattle.std.specs.Prelude.{◌≡◌, ℕ, zero, suc, List, [], ◌∷◌, ◌++◌, Some, None, codes}
use Rattle.sp_base.specs.declared.role.Role.TheVariants.{Bus, Pull, Push, Sub}
use Rattle.turn_lock.specs.declared.turn.Turn.{Turn}
use Rattle.sp_history.specs.declared.entry.Entry.{Entry}
use Rattle.sp_history.specs.declared.entry.RecordedAct.TheVariants.{Recv, Send}
use Rattle.sp_history.specs.declared.entry.Completion.TheVariants.{Received, Sent}
use Rattle.sp_history.specs.declared.entry.Switch.TheVariants.{On, Off}
use Rattle.sp_history.specs.declared.entry.Why.TheVariants as whys
use Rattle.sp_history.specs.declared.entry.Ending.TheVariants.{Won}
use Rattle.sp_history.specs.declared.entry.Entry.TheVariants.{Up, Down, Frame, Out, Quiet, Clear, Begin, End, Took, Tick, Topic}
use Rattle.sp_history.specs.Frames.{message}
use Rattle.cat_play.specs.Rules.{broken}
use Rattle.cat_play.specs.Rules as rules
use Rattle.play_rows.specs.Rows.{socket, bare, turn, op, unnamed}

-- ---- Topics of a sub

-- the context has one of two topics at the receive
abbrev pub one_of_two : List (Turn Entry)
one_of_two =
    turn (Topic 0 (codes "a") On ∷ [])
    ∷ turn (Tick 0 [] ∷ [])
    ∷ turn []
    ∷ turn (Begin (op 0 1) 1 0 Recv None ∷ [])
    ∷ []

-- the topic is added again after the receive was begun
abbrev pub puts_on_later : List (Turn Entry)
puts_on_later =
    turn (Topic 0 (codes "a") On ∷ [])
    ∷ turn (Tick 0 [] ∷ [])
    ∷ turn []
    ∷ turn (Begin (op 0 1) 1 0 Recv None ∷ [])
    ∷ turn (Topic 0 (codes "a") On ∷ [])
    ∷ []

-- it is also added for another context
abbrev pub another_context : List (Turn Entry)
another_context =
    turn (Topic 0 (codes "a") On ∷ [])
    ∷ turn (Topic 1 (codes "a") On ∷ [])
    ∷ turn (Tick 0 [] ∷ [])
    ∷ turn []
    ∷ turn (Begin (op 0 1) 1 0 Recv None ∷ [])
    ∷ []

-- it is removed, and added again
abbrev pub takes_off : List (Turn Entry)
takes_off =
    turn (Topic 0 (codes "a") On ∷ [])
    ∷ turn (Topic 0 (codes "a") Off ∷ [])
    ∷ turn (Topic 0 (codes "a") On ∷ [])
    ∷ turn (Tick 0 [] ∷ [])
    ∷ turn []
    ∷ turn (Begin (op 0 1) 1 0 Recv None ∷ [])
    ∷ []

-- ---- The pipe of a first send

-- the pipe comes up in the turn of the send
abbrev pub comes_in_its_turn : List (Turn Entry)
comes_in_its_turn =
    turn (Tick 0 [] ∷ [])
    ∷ turn []
    ∷ turn (Up 1 1 1048576 unnamed ∷ Begin (op 0 1) 1 0 (Send (message [] (codes "m"))) None ∷ Out 1 (codes "m") ∷ End (op 0 1) (Won Sent) ∷ [])
    ∷ []

-- it goes down in that turn, before the send is begun
abbrev pub goes_in_its_turn : List (Turn Entry)
goes_in_its_turn =
    turn (Tick 0 [] ∷ [])
    ∷ turn (Up 1 1 1048576 unnamed ∷ [])
    ∷ turn (Clear 1 ∷ Quiet 1 ∷ [])
    ∷ turn (Down 1 whys.Ended ∷ Begin (op 0 1) 1 0 (Send (message [] (codes "m"))) None ∷ End (op 0 1) (Won Sent) ∷ [])
    ∷ []

-- ---- How far a pipe is read

-- n frames
abbrev pub many : ℕ → List Entry
many zero = []
many (suc n) = Frame 1 (codes "x") ∷ many n

-- a pipe of a push gives n frames in the turn between two ticks
abbrev pub gives_many : ℕ → List (Turn Entry)
gives_many n =
    turn (Tick 0 [] ∷ [])
    ∷ turn (Up 1 1 1048576 unnamed ∷ [])
    ∷ turn (Clear 1 ∷ many n)
    ∷ turn (Begin (op 0 1) 1 0 (Send (message [] (codes "m"))) None ∷ Out 1 (codes "m") ∷ End (op 0 1) (Won Sent) ∷ [])
    ∷ turn (Tick 1 [] ∷ [])
    ∷ []

-- ---- Slots and names

-- n sends, none of which is collected
abbrev pub sends : ℕ → List (Turn Entry)
sends zero = []
sends (suc n) =
    turn (Begin (op n 1) 1 0 (Send (message [] (codes "m"))) None ∷ Out 1 (codes "m") ∷ End (op n 1) (Won Sent) ∷ []) ∷ sends n

-- after them another operation is collected, and nothing is begun
abbrev pub rests_after : ℕ → List (Turn Entry)
rests_after n =
    (turn (Tick 0 [] ∷ []) ∷ turn (Up 1 1 1048576 unnamed ∷ []) ∷ turn (Clear 1 ∷ Quiet 1 ∷ []) ∷ []) ++ sends n ++ turn (Took (op 16 1) 1 ∷ []) ∷ turn (Tick 1 [] ∷ []) ∷ []

-- an operation is collected other than the one that was begun
abbrev pub collects_another : List (Turn Entry)
collects_another =
    turn (Tick 0 [] ∷ [])
    ∷ turn (Up 1 1 1048576 unnamed ∷ [])
    ∷ turn (Clear 1 ∷ Frame 1 (codes "a") ∷ [])
    ∷ turn (Begin (op 0 1) 1 0 Recv None ∷ End (op 0 1) (Won (Received (message [] (codes "a")))) ∷ [])
    ∷ turn (Took (op 1 1) 1 ∷ [])
    ∷ []

-- the rules that they break
pub record MoreRows : Type 0 where
  pub one_of_two_breaks : broken (socket Sub) (record (bare Sub) { topics = codes "a" ∷ codes "b" ∷ [] }) one_of_two ≡ rules.Topics ∷ []
  pub the_one_breaks : broken (socket Sub) (record (bare Sub) { topics = codes "a" ∷ [] }) one_of_two ≡ []
  pub puts_on_later_breaks : broken (socket Sub) (record (bare Sub) { topics = codes "a" ∷ [] }) puts_on_later ≡ rules.Topics ∷ []
  pub another_context_breaks : broken (socket Sub) (record (bare Sub) { topics = codes "a" ∷ [] }) another_context ≡ rules.Topics ∷ []
  pub takes_off_breaks : broken (socket Sub) (record (bare Sub) { topics = codes "a" ∷ [] }) takes_off ≡ rules.Topics ∷ []
  pub comes_breaks : broken (socket Bus) (record (bare Bus) { body = Some (codes "m") }) comes_in_its_turn ≡ rules.Starts ∷ []
  pub goes_breaks : broken (socket Bus) (record (bare Bus) { body = Some (codes "m") }) goes_in_its_turn ≡ []
  pub frames_63_break : broken (socket Push) (record (bare Push) { body = Some (codes "m") }) (gives_many 63) ≡ rules.Swept ∷ []
  pub frames_64_break : broken (socket Push) (record (bare Push) { body = Some (codes "m") }) (gives_many 64) ≡ []
  pub held_15_breaks : broken (socket Push) (record (bare Push) { body = Some (codes "m") }) (rests_after 15) ≡ rules.Alternate ∷ rules.Rounds ∷ []
  pub held_16_breaks : broken (socket Push) (record (bare Push) { body = Some (codes "m") }) (rests_after 16) ≡ rules.Alternate ∷ []
  pub collects_another_breaks : broken (socket Pull) (bare Pull) collects_another ≡ rules.Alternate ∷ []

-- What giving and sending lead to, within a turn.
use Rattle.sp_base.specs.declared.OpName.{OpName}
use Rattle.sp_core.specs.KeptWords.{KeepsReads}
use Rattle.sp_core.specs.FloodedPipes.{AnsweredAt, SpreadTo, Spreads}
use Rattle.sp_core.specs.Cores.{words_of}
use Rattle.sp_core.specs.Immediate.{IsGiven}
use Rattle.sp_core.specs.Looking.{reads_of}
use Rattle.core_state.specs.Pipes.{IsPipeAt, IsReadyAt}
use Rattle.sp_core.specs.Moving.{Later}
use Rattle.sp_core.specs.Owning.{Owns}
use Rattle.sp_core.specs.declared.owner.Core.{Core}
use Rattle.sp_history.specs.Lists.{has}
use Rattle.sp_history.specs.Moments.{Moment, also, past}
use Rattle.sp_history.specs.Past.{up}
use Rattle.sp_history.specs.Sends.{targets}
use Rattle.sp_history.specs.declared.entry.Ending.{Ending}
use Rattle.sp_history.specs.declared.entry.Entry.TheVariants.{End}
use Rattle.sp_history.specs.declared.entry.RecordedMessage.{RecordedMessage as Text}
use Rattle.sp_history.specs.declared.parts.Begun.{Begun}
use Rattle.sp_history.specs.declared.parts.LiveRequest.{LiveRequest}
use Rattle.sp_msg.specs.Views.{WireView}
use Rattle.sp_proto.specs.Machines.{CanAgain, CanFlood, CanGive, CanSend}
use Rattle.std.specs.Prelude.{List, [], length, true, ℕ, ◌<◌, ◌≡◌, ◌≤◌}

-- the receive has this message, or a caller has ended it
abbrev pub EndsReceive : {P W : Type 0} → (P → Moment → Type 0) → (P → ℕ) → (W → WireView) → OpName → Core P W → Core P W → Type 0
EndsReceive ties room shown op old new =
    (t : Moment) (s : Begun) (m : Text) → Owns ties room shown [] old t → CanGive t op s m → (ending : Ending) × IsGiven t.z.callers m ending × Owns ties room shown [] new (also t (End op ending))

-- the send may go out on the pipe
abbrev pub MaySend : {P W : Type 0} → (P → Moment → Type 0) → (P → ℕ) → (W → WireView) → OpName → ℕ → Core P W → Type 0
MaySend ties room shown op pipe old =
    (t : Moment) × (s : Begun) × (b : List ℕ) × Owns ties room shown [] old t × CanSend t op pipe s b

-- the send may go out on the pipe at this place, which has room
abbrev pub MaySendAt : {P W : Type 0} → (P → Moment → Type 0) → (P → ℕ) → (W → WireView) → OpName → ℕ → ℕ → Core P W → Type 0
MaySendAt ties room shown op pipe i old =
    (t : Moment) × (s : Begun) × (b : List ℕ) × Owns ties room shown [] old t × CanSend t op pipe s b × IsPipeAt old.pipes i pipe × IsReadyAt shown old.pipes i

-- the request may go out again on the pipe at this place, which has room
abbrev pub MaySendAgainAt : {P W : Type 0} → (P → Moment → Type 0) → (P → ℕ) → (W → WireView) → ℕ → ℕ → ℕ → Core P W → Type 0
MaySendAgainAt ties room shown c pipe i old =
    (t : Moment) × (r : LiveRequest) × Owns ties room shown [] old t × CanAgain t c pipe r × IsPipeAt old.pipes i pipe × IsReadyAt shown old.pipes i

-- the request went out again or there was no memory for its copy, and less is left to be done
pub record SendsAgainAt {P W : Type 0} (ties : P → Moment → Type 0) (room measure : P → ℕ) (shown : W → WireView) (c pipe i : ℕ) (old new : Core P W) : Type 0 where
  pub later : (t : Moment) (r : LiveRequest) → Owns ties room shown [] old t → CanAgain t c pipe r → IsPipeAt old.pipes i pipe → (u : Moment) × Later t u × Owns ties room shown [] new u
  pub left : measure new.proto < measure old.proto
  pub words : words_of new ≡ words_of old
  pub reads : reads_of new ≡ reads_of old

-- the send may go out on many pipes, with a copy for each
abbrev pub MayFlood : {P W : Type 0} → (P → Moment → Type 0) → (P → ℕ) → (W → WireView) → (P → OpName → ℕ) → OpName → Core P W → Type 0
MayFlood ties room shown copies op old =
    (t : Moment) × (s : Begun) × (b : List ℕ) × Owns ties room shown [] old t × CanFlood t op s b × (length (up (past t)) ≤ copies old.proto op)

-- the send was won, with a copy for each pipe
abbrev pub MaySpread : {P W : Type 0} → (P → Moment → Type 0) → (P → ℕ) → (W → WireView) → (P → OpName → ℕ) → OpName → Core P W → Type 0
MaySpread ties room shown copies op old =
    (t : Moment) × (s : Begun) × (b : List ℕ) × Spreads ties room shown old t op s b × (length (up (past t)) ≤ copies old.proto op)

-- each pipe that the send may go to has answered
abbrev pub SpreadsAll : {P W : Type 0} → (P → Moment → Type 0) → (P → ℕ) → (W → WireView) → OpName → Core P W → Core P W → Type 0
SpreadsAll ties room shown op old new =
    KeepsReads old new ((t : Moment) (s : Begun) (b : List ℕ) → Spreads ties room shown old t op s b → (u : Moment) × SpreadTo t u s b [] × Spreads ties room shown new u op s b)

-- a copy is left for the pipe at this place
abbrev pub MaySpreadAt : {P W : Type 0} → (P → Moment → Type 0) → (P → ℕ) → (W → WireView) → (P → OpName → ℕ) → OpName → ℕ → ℕ → Core P W → Type 0
MaySpreadAt ties room shown copies op p i old =
    (t : Moment) × (s : Begun) × (b : List ℕ) × Spreads ties room shown old t op s b × IsPipeAt old.pipes i p × (0 < copies old.proto op)

-- the pipe at this place has answered, if the send may go there
abbrev pub SpreadsAt : {P W : Type 0} → (P → Moment → Type 0) → (P → ℕ) → (W → WireView) → OpName → ℕ → ℕ → Core P W → Core P W → Type 0
SpreadsAt ties room shown op p i old new =
    KeepsReads old new ((t : Moment) (s : Begun) (b : List ℕ) → Spreads ties room shown old t op s b → IsPipeAt old.pipes i p → (u : Moment) × AnsweredAt t u s b p × Spreads ties room shown new u op s b)

-- the send may go to the pipe at this place, which has room
abbrev pub MayPutCopy : {P W : Type 0} → (P → Moment → Type 0) → (P → ℕ) → (W → WireView) → (P → OpName → ℕ) → OpName → ℕ → ℕ → Core P W → Type 0
MayPutCopy ties room shown copies op p i old =
    (t : Moment) × (s : Begun) × (b : List ℕ) × Spreads ties room shown old t op s b × (has (targets t.z (past t) s) p ≡ true) × IsPipeAt old.pipes i p × IsReadyAt shown old.pipes i × (0 < copies old.proto op)

-- the copy was put on the pipe at this place
abbrev pub PutsCopy : {P W : Type 0} → (P → Moment → Type 0) → (P → ℕ) → (W → WireView) → OpName → ℕ → ℕ → Core P W → Core P W → Type 0
PutsCopy ties room shown op p i old new =
    KeepsReads old new ((t : Moment) (s : Begun) (b : List ℕ) → Spreads ties room shown old t op s b → has (targets t.z (past t) s) p ≡ true → IsPipeAt old.pipes i p → (u : Moment) × AnsweredAt t u s b p × Spreads ties room shown new u op s b)

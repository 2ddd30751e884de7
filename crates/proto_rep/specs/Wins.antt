-- What a rep does when an operation is won, as each machine must, and the message of a reply that goes nowhere.
use Rattle.std.specs.Prelude.{◌≡◌, true, ℕ, List, Option, Some, None, MatchOption}
use Rattle.std.specs.Option.{option_map}
use Rattle.sp_base.specs.declared.OpName.{OpName}
use Rattle.sp_msg.specs.Views.{MessageView, wire_text}
use Rattle.sp_history.specs.declared.entry.Entry.TheVariants.{End, Out}
use Rattle.sp_history.specs.declared.entry.Ending.TheVariants.{Won}
use Rattle.sp_history.specs.declared.entry.Completion.TheVariants.{Received, Sent}
use Rattle.sp_history.specs.declared.entry.RecordedMessage.{RecordedMessage as Text}
use Rattle.sp_history.specs.declared.parts.Begun.{Begun}
use Rattle.sp_history.specs.Setting.{floods}
use Rattle.sp_history.specs.Past.{pending}
use Rattle.sp_history.specs.Moments.{Moment, Lawful, past, also}
use Rattle.sp_proto.specs.Kinds.{text_of}
use Rattle.sp_proto.specs.Machines.{CanGive, CanSend, CanDrop, Served}
use Rattle.proto_rep.specs.declared.rep.Reply.{Reply}
use Rattle.proto_rep.specs.Reps.{Ties, offers_left, places_left}

-- one offer fewer, and one place more
abbrev pub HasServed : Reply → Reply → Type 0
HasServed old new = Served (offers_left old) (offers_left new) (places_left old) (places_left new)

-- the receive gets the message that it was offered
abbrev pub WinsReceive : Reply → Reply → OpName → Option ℕ → Option MessageView → Type 0
WinsReceive old new op out result =
    (t : Moment) (s : Begun) (m : Text) → out ≡ None → Lawful t → Ties old t → CanGive t op s m → (option_map text_of result ≡ Some m) × Ties new (also t (End op (Won (Received m)))) × HasServed old new

abbrev pub WinsFlood : Reply → Reply → OpName → Option ℕ → Type 0
WinsFlood old new op out =
    (t : Moment) (s : Begun) → out ≡ None → Lawful (also t (End op (Won Sent))) → Ties old t → pending (past t) op ≡ Some s → floods t.z.role ≡ true → Ties new (also t (End op (Won Sent))) × HasServed old new

-- the reply goes nowhere
abbrev pub WinsNowhere : Reply → Reply → OpName → Option ℕ → Type 0
WinsNowhere old new op out =
    (t : Moment) (s : Begun) → out ≡ None → Lawful t → Ties old t → CanDrop t op s → Ties new (also t (End op (Won Sent))) × HasServed old new

-- the reply goes out on the pipe
abbrev pub WinsOut : Reply → Reply → OpName → Option ℕ → Option MessageView → Type 0
WinsOut old new op out result =
    (t : Moment) (p : ℕ) (s : Begun) (b : List ℕ) → out ≡ Some p → Lawful t → Ties old t → CanSend t op p s b → MatchOption result ⊥ (λ m. wire_text m ≡ b) × Ties new (also (also t (Out p b)) (End op (Won Sent))) × HasServed old new

-- a reply that goes nowhere has no message
abbrev pub HasNoMessage : Reply → OpName → Option ℕ → Option MessageView → Type 0
HasNoMessage old op out result = (t : Moment) (s : Begun) → out ≡ None → Ties old t → CanDrop t op s → result ≡ None

-- The next call of a play, what counts, and when it is over.
use Rattle.std.specs.Prelude.{ℕ, ◌+◌, nat_le, Bool, true, false, not, ◌&&◌, ◌||◌, if◌then◌else◌, List, [], ◌∷◌, ◌++◌, Option, Some, None, is_some}
use Rattle.std.specs.List.{flat_map}
use Rattle.sp_base.specs.declared.OpName.{OpName}
use Rattle.sp_base.specs.declared.role.Role.{Role}
use Rattle.sp_base.specs.declared.role.Role.TheVariants.{Pair0, Pair1, Pub, Sub, Req, Rep, Push, Pull, Surveyor, Respondent, Bus}
use Rattle.sp_history.specs.declared.entry.RecordedAct.{RecordedAct}
use Rattle.sp_history.specs.declared.entry.RecordedAct.TheVariants.{Recv, Send}
use Rattle.sp_history.specs.declared.entry.Completion.TheVariants.{Received, Sent}
use Rattle.sp_history.specs.declared.entry.Cause.TheVariants.{TimedOut, SurveyOver}
use Rattle.sp_history.specs.declared.entry.Ending.{Ending}
use Rattle.sp_history.specs.declared.entry.Ending.TheVariants.{Won, Gone}
use Rattle.sp_history.specs.declared.entry.Entry.{Entry}
use Rattle.sp_history.specs.declared.entry.Entry.TheVariants.{Begin, End, Took, Tick}
use Rattle.sp_history.specs.declared.setting.Setting.{Setting}
use Rattle.sp_history.specs.Lists.{same_op}
use Rattle.sp_history.specs.Past.{now, is_closed}
use Rattle.sp_history.specs.Legal.{is_state}
use Rattle.sp_history.specs.Found.{act_of, end_of}
use Rattle.cat_play.specs.Plans.{Play}
use Rattle.cat_text.specs.Printing.{print}

-- ---- What is in a record

-- the entries before the close
abbrev pub open_part : List Entry → List Entry
open_part [] = []
open_part (e ∷ past) = if is_closed (e ∷ past) then open_part past else e ∷ past

-- there was a tick
abbrev pub has_ticked : List Entry → Bool
has_ticked [] = false
has_ticked (Tick t due ∷ past) = true
has_ticked (_ ∷ past) = has_ticked past

-- an operation was begun
abbrev pub has_begun : List Entry → Bool
has_begun [] = false
has_begun (Begin op k c act d ∷ past) = true
has_begun (_ ∷ past) = has_begun past

-- the operation that was begun last, until it is collected
abbrev pub under_way : List Entry → Option OpName
under_way [] = None
under_way (Begin op k c act d ∷ past) = Some op
under_way (Took op k ∷ past) = None
under_way (_ ∷ past) = under_way past

-- how the operation ended that was collected last
abbrev pub last_result : List Entry → Option Ending
last_result [] = None
last_result (Took op k ∷ past) = end_of past op
last_result (_ ∷ past) = last_result past

-- the tick at which the last send was begun
abbrev pub last_send : List Entry → Option ℕ
last_send [] = None
last_send (Begin op k c (Send m) d ∷ past) = Some (now past)
last_send (_ ∷ past) = last_send past

-- ---- The next call

-- no request or survey of context 0 is live, so that a receive of a surveyor is refused
abbrev pub asks_anew : Setting → List Entry → Bool
asks_anew z past = is_state z past 0 Recv

-- The table of plays: whether the next call is a receive. The flags say whether the plan has data, and whether a receive
-- is refused; then the result that was collected last. A pull or sub receives, a push or pub sends, a pair (of version 0
-- or 1) or bus sends its data, or receives where it has none. A req sends, and receives after each send. A surveyor sends where no survey is
-- live, and receives while one is. A rep or respondent receives, and with data sends after each receive
abbrev pub receives_next : Role → Bool → Bool → Option Ending → Bool
receives_next Pull has_data refused last = true
receives_next Sub has_data refused last = true
receives_next Push has_data refused last = false
receives_next Pub has_data refused last = false
receives_next Pair0 has_data refused last = not has_data
receives_next Pair1 has_data refused last = not has_data
receives_next Bus has_data refused last = not has_data
receives_next Req has_data refused (Some (Won Sent)) = true
receives_next Req has_data refused last = false
receives_next Surveyor has_data refused last = not refused
receives_next Rep has_data refused (Some (Won (Received m))) = not has_data
receives_next Rep has_data refused last = true
receives_next Respondent has_data refused (Some (Won (Received m))) = not has_data
receives_next Respondent has_data refused last = true

-- the same after this past
abbrev pub is_receive_next : Setting → Play → List Entry → Bool
is_receive_next z play past = receives_next play.role (is_some play.body) (asks_anew z past) (last_result past)

-- ---- What counts

-- The table of what counts, at its collecting. The flags say whether the plan has data, and whether no survey is live
-- after it: a message that was received; a send of a play that only sends; the reply of a req; a survey that is found
-- over; for a rep or respondent a message, or with data the reply to it
abbrev pub counts_for : Role → Bool → Bool → Option Ending → Bool
counts_for Surveyor has_data over (Some (Won r)) = over
counts_for Surveyor has_data over (Some (Gone SurveyOver by)) = true
counts_for Surveyor has_data over last = false
counts_for Req has_data over (Some (Won (Received m))) = true
counts_for Req has_data over last = false
counts_for role has_data over (Some (Won (Received m))) = not has_data
counts_for role has_data over (Some (Won Sent)) = has_data
counts_for role has_data over last = false

-- the last entry, which collects the operation, counts
abbrev pub is_counted : Setting → Play → List Entry → Bool
is_counted z play past = counts_for play.role (is_some play.body) (asks_anew z past) (last_result past)

-- how many items counted: `counted` of the part before the close
abbrev pub count_in : Setting → Play → List Entry → ℕ
count_in z play [] = 0
count_in z play (Took op k ∷ past) =
    if is_counted z play (Took op k ∷ past) then count_in z play past + 1 else count_in z play past
count_in z play (_ ∷ past) = count_in z play past

abbrev pub counted : Setting → Play → List Entry → ℕ
counted z play past = count_in z play (open_part past)

-- ---- What is printed

-- the text of the message, if one was received
abbrev pub text_of : Play → Option Ending → List (List ℕ)
text_of play (Some (Won (Received m))) = print play.format m.body ∷ []
text_of play _ = []

-- the texts of the messages that were collected, in the order of collecting
abbrev pub texts_in : Play → List Entry → List (List ℕ)
texts_in play [] = []
texts_in play (Took op k ∷ past) = texts_in play past ++ text_of play (end_of past op)
texts_in play (_ ∷ past) = texts_in play past

abbrev pub texts : Play → List Entry → List (List ℕ)
texts play past = texts_in play (open_part past)

-- one text after another
abbrev pub joined : List (List ℕ) → List ℕ
joined ts = flat_map (λ t. t) ts

abbrev pub printed : Play → List Entry → List ℕ
printed play past = joined (texts play past)

-- ---- When a play is over

-- the count is reached
abbrev pub has_reached : Option ℕ → ℕ → Bool
has_reached None n = false
has_reached (Some count) n = nat_le count n

-- the operation timed out
abbrev pub is_timed_out : Option Ending → Bool
is_timed_out (Some (Gone TimedOut by)) = true
is_timed_out _ = false

-- the act is a receive, or a send, as the flag says
abbrev pub is_kind : Bool → Option RecordedAct → Bool
is_kind receives None = false
is_kind receives (Some Recv) = receives
is_kind receives (Some (Send m)) = not receives

-- a receive (or, where the flag is false, a send) timed out, and was collected
abbrev pub timed_out_in : Bool → List Entry → Bool
timed_out_in receives [] = false
timed_out_in receives (Took op k ∷ past) =
    is_kind receives (act_of past op) && is_timed_out (end_of past op) || timed_out_in receives past
timed_out_in receives (_ ∷ past) = timed_out_in receives past

abbrev pub timed_out : Bool → List Entry → Bool
timed_out receives past = timed_out_in receives (open_part past)

-- the count is reached, or an operation timed out
abbrev pub over : Setting → Play → List Entry → Bool
over z play past = has_reached play.count (counted z play past) || timed_out true past || timed_out false past

-- ---- The last receive

-- a receive got a message
abbrev pub is_received : Option Ending → Bool
is_received (Some (Won (Received m))) = true
is_received _ = false

-- what was collected last is a receive that got a message, before the close, and after it nothing was begun and no
-- tick came
abbrev pub ends_received : List Entry → Bool
ends_received [] = false
ends_received (Begin op k c act d ∷ past) = false
ends_received (Tick t due ∷ past) = false
ends_received (Took op k ∷ past) = not (is_closed past) && is_received (end_of past op)
ends_received (_ ∷ past) = ends_received past

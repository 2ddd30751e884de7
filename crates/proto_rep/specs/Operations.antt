-- The operations of a rep that wait.
use Rattle.std.specs.Prelude.{◌≡◌, ◌≤◌, find, ◌+◌, ◌-◌, ◌==◌, ◌&&◌, ℕ, Bool, false, not, min, List, map, filter, length, Option, Some, None, is_some}
use Rattle.sp_base.specs.declared.OpName.{OpName}
use Rattle.sp_history.specs.declared.entry.RecordedAct.{RecordedAct}
use Rattle.sp_history.specs.declared.entry.RecordedAct.TheVariants.{Recv, Send}
use Rattle.sp_history.specs.declared.parts.Begun.{Begun}
use Rattle.sp_history.specs.Lists.{same_op}
use Rattle.sp_proto.specs.Kinds.{text_of}
use Rattle.sp_proto.specs.declared.Offer.{Offer}
use Rattle.sp_proto.specs.declared.Offer.TheVariants as offers
use Rattle.proto_requests.specs.FirstFound.{without_found}
use Rattle.proto_requests.specs.Ports.{PortView}
use Rattle.proto_rep.specs.Replies.{isnt_full, key_of, target_of, way_of, way_offer}
use Rattle.proto_rep.specs.declared.replies.PendingReply.{PendingReply}
use Rattle.proto_rep.specs.declared.replies.WaitingReply.{WaitingReply}
use Rattle.proto_rep.specs.declared.operations.Recipient.{Recipient}
use Rattle.proto_rep.specs.declared.operations.ReplyOperation.{ReplyOperation}
use Rattle.proto_rep.specs.declared.operations.RepOperations.{RepOperations}

abbrev pub act_of : Option PendingReply → RecordedAct
act_of None = Recv
act_of (Some r) = Send (text_of r.message)

abbrev pub begun_of : ReplyOperation → Begun
begun_of w = record { op = w.op; ctx = w.ctx; act = act_of w.answer }

abbrev pub is_for : OpName → ReplyOperation → Bool
is_for op w = same_op w.op op

-- without the first of this name
abbrev pub without_first : OpName → List ReplyOperation → List ReplyOperation
without_first op ws = without_found (is_for op) ws

abbrev pub is_receive : ReplyOperation → Bool
is_receive w = not (is_some w.answer)

abbrev pub is_reply : ReplyOperation → Bool
is_reply w = is_some w.answer

abbrev pub receives_on : ℕ → ReplyOperation → Bool
receives_on c w = is_receive w && (w.ctx == c)

abbrev pub of_recipient : Recipient → ReplyOperation
of_recipient x = record { op = x.op; ctx = x.ctx; answer = None }

abbrev pub of_reply : WaitingReply → ReplyOperation
of_reply x = record { op = x.op; ctx = x.ctx; answer = Some x.answer }

-- ---- Replies that can leave

abbrev pub can_go : Bool → List PortView → Option PendingReply → Bool
can_go raw xs None = false
can_go raw xs (Some r) = isnt_full (way_of raw xs r)

-- a reply whose pipe isn't up and full
abbrev pub is_ready : Bool → List PortView → ReplyOperation → Bool
is_ready raw xs w = can_go raw xs w.answer

abbrev pub answer_offer : Bool → List PortView → OpName → Option PendingReply → Offer
answer_offer raw xs op None = offers.Idle
answer_offer raw xs op (Some r) = way_offer op (way_of raw xs r)

abbrev pub can_go_to : Bool → List PortView → ℕ → Option PendingReply → Bool
can_go_to raw xs k None = false
can_go_to raw xs k (Some r) = (key_of (target_of raw r) == k) && isnt_full (way_of raw xs r)

-- a reply to the pipe of this key, where that isn't up and full
abbrev pub is_ready_to : Bool → List PortView → ℕ → ReplyOperation → Bool
is_ready_to raw xs k w = can_go_to raw xs k w.answer

abbrev pub send_offer : Bool → List PortView → Option ReplyOperation → Offer
send_offer raw xs None = offers.Idle
send_offer raw xs (Some w) = answer_offer raw xs w.op w.answer

-- no reply can leave, or it is the first of those to its pipe
abbrev pub IsFirstSend : Bool → List PortView → List ReplyOperation → Option ReplyOperation → Type 0
IsFirstSend raw xs ws None = find (is_ready raw xs) ws ≡ None
IsFirstSend raw xs ws (Some w) = (k : ℕ) × (find (is_ready_to raw xs k) ws ≡ Some w)

-- such a reply is offered
abbrev pub SendsFirst : Bool → List PortView → List ReplyOperation → Offer → Type 0
SendsFirst raw xs ws x = (o : Option ReplyOperation) × IsFirstSend raw xs ws o × (x ≡ send_offer raw xs o)

-- ---- How many

-- how many wait
abbrev pub count : RepOperations → ℕ
count o = length o.receives.items + length o.replies.items

-- how many there is room for
abbrev pub places : RepOperations → ℕ
places o = min (o.receives.room + length o.receives.items) (o.replies.room + length o.replies.items)

-- how many more can begin
abbrev pub room : RepOperations → ℕ
room o = places o - count o

-- exactly these wait, in the order of their begins
pub record Holds (o : RepOperations) (ws : List ReplyOperation) : Type 0 where
  pub receives : map of_recipient o.receives.items ≡ filter is_receive ws
  pub replies : map of_reply o.replies.items ≡ filter is_reply ws
  pub fits : count o ≤ places o

-- The operations that are pending.
use Rattle.std.specs.Prelude.{◌≡◌, ◌≤◌, ◌+◌, ◌-◌, ℕ, min, Bool, not, if◌then◌else◌, List, [], ◌∷◌, map, filter, Option, Some, None}
use Rattle.std.specs.Option.{option_map}
use Rattle.std.specs.VecDeque.{deque_len, deque_capacity}
use Rattle.sp_base.specs.declared.OpName.{OpName}
use Rattle.sp_msg.specs.Views.{MessageView}
use Rattle.sp_history.specs.declared.parts.Begun.{Begun}
use Rattle.sp_history.specs.Lists.{head_of, same_op}
use Rattle.sp_history.specs.Legal.{is_recv}
use Rattle.sp_history.specs.Sends.{lacks_hops}
use Rattle.sp_history.specs.Past.{without_begun}
use Rattle.sp_history.specs.Once.{AreApart}
use Rattle.sp_proto.specs.Kinds.{act_of}
use Rattle.sp_proto.specs.Machines.{Served}
use Rattle.proto_shared.specs.declared.pending.Pending.{Pending}
use Rattle.proto_shared.specs.declared.pending.Waiting.{Waiting}

abbrev pub begun_of : Waiting → Begun
begun_of w = record { op = w.op; ctx = w.ctx; act = act_of w.message }

abbrev pub is_for : OpName → Waiting → Bool
is_for op w = same_op w.op op

-- a send whose header has no hop count to go on with: nng_pair(7)
abbrev pub is_uncounted : Begun → Bool
is_uncounted s = lacks_hops s.act

-- without the first of this name
abbrev pub without_first : OpName → List Waiting → List Waiting
without_first op [] = []
without_first op (w ∷ ws) = if is_for op w then ws else w ∷ without_first op ws

abbrev pub is_receive : Begun → Bool
is_receive s = is_recv s.act

abbrev pub is_send : Begun → Bool
is_send s = not (is_recv s.act)

-- how many operations are pending
abbrev pub count : Pending → ℕ
count m = deque_len m.receives + deque_len m.sends

-- how many operations can be pending
abbrev pub places : Pending → ℕ
places m = min (deque_capacity m.receives) (deque_capacity m.sends)

-- how many more operations can begin
abbrev pub room : Pending → ℕ
room m = places m - count m

-- these operations are pending, in the order of their begins
pub record Holds (m : Pending) (ss : List Begun) : Type 0 where
  pub receives : map begun_of m.receives.items ≡ filter is_receive ss
  pub sends : map begun_of m.sends.items ≡ filter is_send ss
  pub apart : AreApart ss
  pub fits : count m ≤ places m

-- this one of these operations is no longer pending
abbrev pub Ends : Pending → Pending → List Begun → OpName → Type 0
Ends old new ss op = Holds new (without_begun ss op) × Served (count old) (count new) (room old) (room new)

-- the name of the first of these operations
abbrev pub first_name : List Begun → Option OpName
first_name ss = option_map (λ (s : Begun). s.op) (head_of ss)

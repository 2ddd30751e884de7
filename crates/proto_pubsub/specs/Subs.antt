-- The history that a sub stands for.
use Rattle.std.specs.Prelude.{◌≡◌, ℕ, ◌≤◌, ◌-◌, ◌||◌, Bool, true, false, not, nat_lt, if◌then◌else◌, List, [], ◌∷◌, length, map, take, find, Option, Some, None}
use Rattle.std.specs.List.{list_any}
use Rattle.std.specs.VecDeque.{deque_len, deque_capacity}
use Rattle.sp_base.specs.declared.OpName.{OpName}
use Rattle.sp_base.specs.declared.role.Role.TheVariants as role
use Rattle.sp_msg.specs.Views.{MessageView}
use Rattle.sp_history.specs.declared.entry.RecordedAct.TheVariants.{Recv}
use Rattle.sp_history.specs.declared.parts.Begun.{Begun}
use Rattle.sp_history.specs.declared.parts.Item.{Item}
use Rattle.sp_history.specs.declared.entry.Entry.{Entry}
use Rattle.sp_history.specs.declared.setting.Setting.{Setting}
use Rattle.sp_history.specs.declared.setting.Options.{Options}
use Rattle.sp_history.specs.Lists.{has, is_nil, same_op}
use Rattle.sp_history.specs.Kept.{pool, takes}
use Rattle.sp_history.specs.Past.{ctxs}
use Rattle.sp_history.specs.Moments.{Moment}
use Rattle.sp_proto.specs.Kinds.{Kind}
use Rattle.sp_proto.specs.Readings.{MomentReading, reading}
use Rattle.proto_pubsub.specs.SubContexts.{SubContextView, is_of_context, AreOrdered}
use Rattle.proto_pubsub.specs.declared.subscribe.Subscribe.{Subscribe}
use Rattle.proto_pubsub.specs.declared.subscribe.WaitingReceive.{WaitingReceive}

abbrev pub sub_kind : Bool → Options → Kind
sub_kind raw options = record { role = role.Sub; raw = raw; options = options }

-- how many more receives can wait
abbrev pub places_left : Subscribe → ℕ
places_left m = deque_capacity m.waiting - deque_len m.waiting

-- a message that is kept, as it is given
abbrev pub view_of : Item → MessageView
view_of i = record { header = i.message.header; body = i.message.body }

-- a context with these places, with what is kept for it and its topics
abbrev pub context_at : ℕ → (ℕ → List Item) → (ℕ → List (List ℕ)) → ℕ → SubContextView
context_at places is ts c = record { ctx = c; topics = ts c; places = places; kept = map view_of (is c) }

abbrev pub begun_of : WaitingReceive → Begun
begun_of w = record { op = w.op; ctx = w.ctx; act = Recv }

abbrev pub is_for : OpName → WaitingReceive → Bool
is_for op w = same_op w.op op

-- without the first of this name
abbrev pub without_first : OpName → List WaitingReceive → List WaitingReceive
without_first op [] = []
without_first op (w ∷ ws) = if is_for op w then ws else w ∷ without_first op ws

-- something is kept
abbrev pub is_kept : Option SubContextView → Bool
is_kept None = false
is_kept (Some x) = not (is_nil x.kept)

-- something is kept for the context
abbrev pub keeps_at : List SubContextView → ℕ → Bool
keeps_at xs c = is_kept (find (is_of_context c) xs)

-- something is kept for the receive
abbrev pub is_ready : List SubContextView → WaitingReceive → Bool
is_ready xs w = keeps_at xs w.ctx

-- none of the elements before the place passes the test
abbrev pub NoneBefore : {A : Type 0} → (A → Bool) → ℕ → List A → Type 0
NoneBefore P n xs = (n ≤ length xs) × (list_any P (take n xs) ≡ false)

-- The sub has this kind, has these contexts by rising number, each with memory for `queue` messages, with what is kept
-- for each and with its topics, and these receives wait; nothing is kept for those before the mark
pub record Shows (m : Subscribe) (k : Kind) (is : ℕ → List Item) (ts : ℕ → List (List ℕ)) (cs : List ℕ) (ss : List Begun) : Type 0 where
  pub kind : k ≡ sub_kind m.raw m.options
  pub contexts : m.contexts.items ≡ map (context_at m.options.queue is ts) cs
  pub order : AreOrdered cs
  pub pending : map begun_of m.waiting.items ≡ ss
  pub looked : NoneBefore (is_ready m.contexts.items) m.looked m.waiting.items

-- it shows what it reads of a moment
abbrev pub Stands : Subscribe → MomentReading → Type 0
Stands m r = Shows m r.kind r.pool r.topics r.ctxs r.pend

abbrev pub Ties : Subscribe → Moment → Type 0
Ties m t = Stands m (reading t)

-- the open context keeps the frame by its topics, or raw, and its queue isn't full, or discards its oldest
pub record NeedsCopy (z : Setting) (past : List Entry) (c p : ℕ) (body : List ℕ) : Type 0 where
  pub is_open : has (ctxs past) c ≡ true
  pub takes : takes z past c p body ≡ true
  pub place : (nat_lt (length (pool z past c)) z.options.queue || z.options.prefer_new) ≡ true

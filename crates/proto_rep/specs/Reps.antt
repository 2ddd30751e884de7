-- The history that a rep stands for.
use Rattle.std.specs.Prelude.{◌≡◌, ◌≤◌, ◌+◌, ◌==◌, ℕ, Bool, true, false, not, ⊤, if◌then◌else◌, List, [], ◌∷◌, ◌++◌, map, find, drop, Option, Some, None, is_some}
use Rattle.std.specs.List.{list_any}
use Rattle.std.specs.Option.{option_map}
use Rattle.sp_base.specs.declared.OpName.{OpName}
use Rattle.sp_base.specs.declared.role.Role.{Role}
use Rattle.sp_base.specs.declared.role.Role.TheVariants as role
use Rattle.sp_msg.specs.Views.{MessageView}
use Rattle.sp_history.specs.declared.parts.Begun.{Begun}
use Rattle.sp_history.specs.declared.parts.Item.{Item}
use Rattle.sp_history.specs.declared.parts.Origin.{Origin}
use Rattle.sp_history.specs.declared.setting.Options.{Options}
use Rattle.sp_history.specs.Lists.{has}
use Rattle.sp_history.specs.Backtrace.{back}
use Rattle.sp_history.specs.declared.parts.Back.TheVariants.{TooFar}
use Rattle.sp_history.specs.Once.{AreApart}
use Rattle.sp_history.specs.Moments.{Moment}
use Rattle.sp_proto.specs.Kinds.{Kind, text_of}
use Rattle.sp_proto.specs.Readings.{MomentReading, reading}
use Rattle.sp_proto.specs.declared.Verb.{Verb}
use Rattle.sp_proto.specs.declared.Verb.TheVariants as verbs
use Rattle.proto_requests.specs.Ports.{Knows, free_count}
use Rattle.proto_rep.specs.declared.rep.Reply.{Reply}
use Rattle.proto_rep.specs.declared.rep.KeptRequest.{KeptRequest}
use Rattle.proto_rep.specs.declared.rep.Source.{Source}
use Rattle.proto_rep.specs.Places.{ReplyContext}
use Rattle.proto_rep.specs.declared.replies.PendingReply.{PendingReply}
use Rattle.proto_rep.specs.declared.operations.ReplyOperation.{ReplyOperation}
use Rattle.proto_rep.specs.Replies.{AreStuck}
use Rattle.proto_rep.specs.Operations.{Holds, begun_of, count, receives_on, room}
use Rattle.proto_rep.specs.declared.rep.ReplyRole.{ReplyRole}
use Rattle.proto_rep.specs.declared.rep.ReplyRole.TheVariants as sides

abbrev pub role_of : ReplyRole → Role
role_of sides.Rep = role.Rep
role_of sides.Respondent = role.Respondent

-- a rep or a respondent, cooked or raw
abbrev pub reply_kind : Role → Bool → Options → Kind
reply_kind r raw options = record { role = r; raw = raw; options = options }

-- how many more operations can wait
abbrev pub places_left : Reply → ℕ
places_left m = room m.waiting

-- each pipe that is free may be offered once more, and each operation
abbrev pub offers_left : Reply → ℕ
offers_left m = free_count m.ports.items + count m.waiting

-- a frame whose backtrace has more words than are read
abbrev pub CameTooFar : Reply → List ℕ → Type 0
CameTooFar m b = back m.options.ttl b ≡ TooFar

abbrev pub item_of : KeptRequest → Item
item_of k = record { pipe = k.pipe; words = k.words; message = text_of k.message }

abbrev pub origin_of : Source → Origin
origin_of s = record { pipe = s.pipe; words = s.words }

-- ---- Contexts

abbrev pub ctx_of : ReplyContext → ℕ
ctx_of x = x.ctx

abbrev pub is_of_context : ℕ → ReplyContext → Bool
is_of_context c x = x.ctx == c

abbrev pub origin_in : Option ReplyContext → Option Origin
origin_in None = None
origin_in (Some x) = option_map origin_of x.stored

-- what is stored with the context
abbrev pub origin_at : ℕ → List ReplyContext → Option Origin
origin_at c xs = origin_in (find (is_of_context c) xs)

-- ---- Operations

abbrev pub state_at : List ReplyOperation → List ReplyContext → ℕ → Verb → Bool
state_at ws xs c verbs.Recv = list_any (receives_on c) ws
state_at ws xs c verbs.Send = not (is_some (origin_at c xs))

abbrev pub words_of : Option Source → List ℕ
words_of None = []
words_of (Some s) = s.words

abbrev pub out_text : Bool → PendingReply → List ℕ
out_text true r = drop 4 r.message.header ++ r.message.body
out_text false r = words_of r.source ++ r.message.body

-- the oldest request is given, and, cooked, stored with the context
abbrev pub Given : ℕ → Option MessageView → Reply → Reply → Option KeptRequest → Type 0
Given c r m n None = (r ≡ None) × (m.kept.items ≡ []) × (n.places ≡ m.places)
Given c r m n (Some k) =
    (r ≡ Some k.message) × (m.kept.items ≡ k ∷ n.kept.items) × (map ctx_of n.places.items ≡ map ctx_of m.places.items)
    × (m.raw ≡ true → n.places ≡ m.places)
    × (m.raw ≡ false → has (map ctx_of m.places.items) c ≡ true → (d : ℕ) → origin_at d n.places.items ≡ (if c == d then Some (record { pipe = k.pipe; words = k.words }) else origin_at d m.places.items))

abbrev pub Gives : ℕ → Option MessageView → Reply → Reply → Type 0
Gives c r m n = (k : Option KeptRequest) × Given c r m n k

-- ---- What it stands for

-- each send has the request that it answers
abbrev pub Routed : (OpName → Option Origin) → List ReplyOperation → Type 0
Routed routes [] = ⊤
Routed routes (w ∷ ws) = ((r : PendingReply) → w.answer ≡ Some r → option_map origin_of r.source ≡ routes w.op) × Routed routes ws

-- each operation is of one of these contexts
abbrev pub AreOfContexts : List ℕ → List Begun → Type 0
AreOfContexts cs [] = ⊤
AreOfContexts cs (s ∷ ss) = (has cs s.ctx ≡ true) × AreOfContexts cs ss

-- The machine has this kind; knows these pipes as up and which of them are full; keeps these items; has these
-- operations pending, the oldest first, each on an open context; and has stored, with each context and with each
-- pending send, this request. None of the replies that are passed over can leave.
pub record Shows (m : Reply) (k : Kind) (us : List ℕ) (last : ℕ) (full : ℕ → Bool) (is : List Item) (ss : List Begun) (cs : List ℕ) (st : ℕ → Option Origin) (routes : OpName → Option Origin) : Type 0 where
  pub kind : k ≡ reply_kind (role_of m.role) m.raw m.options
  pub most : m.options.ttl ≤ 15
  pub pipes : Knows m.ports.items us last full
  pub items : map item_of m.kept.items ≡ is
  pub waits : List ReplyOperation
  pub holds : Holds m.waiting waits
  pub pending : map begun_of waits ≡ ss
  pub apart : AreApart ss
  pub contexts : map ctx_of m.places.items ≡ cs
  pub of_contexts : AreOfContexts cs ss
  pub stored : (c : ℕ) → origin_at c m.places.items ≡ st c
  pub routed : Routed routes waits
  pub stuck : AreStuck m.raw m.ports.items m.waiting.replies

-- it shows what it reads of a moment
abbrev pub Stands : Reply → MomentReading → Type 0
Stands m r = Shows m r.kind r.up r.ups r.full (r.pool 0) r.pend r.ctxs r.stored r.route

abbrev pub Ties : Reply → Moment → Type 0
Ties m t = Stands m (reading t)

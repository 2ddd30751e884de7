-- The history that a req stands for.
use Rattle.std.specs.Prelude.{◌≡◌, ◌≢◌, ◌≤◌, ◌<◌, ◌+◌, ◌*◌, ◌^◌, ◌==◌, ◌&&◌, ◌||◌, ℕ, zero, suc, Bool, true, false, not, ⊤, nat_le, if◌then◌else◌, List, [], ◌∷◌, ◌++◌, length, map, find, drop, Option, Some, None, is_some}
use Rattle.std.specs.List.{list_any, list_all}
use Rattle.sp_base.specs.declared.OpName.{OpName}
use Rattle.sp_base.specs.declared.role.Role.TheVariants as role
use Rattle.sp_msg.specs.Views.{MessageView, wire_text}
use Rattle.sp_history.specs.declared.parts.Begun.{Begun}
use Rattle.sp_history.specs.declared.parts.Item.{Item}
use Rattle.sp_history.specs.declared.parts.Orphan.{Orphan}
use Rattle.sp_history.specs.declared.parts.Requests.{Requests}
use Rattle.sp_history.specs.declared.parts.LastOut.{LastOut}
use Rattle.sp_history.specs.declared.setting.Options.{Options}
use Rattle.sp_history.specs.Lists.{has, same_op, is_nil, first_word, head_of, word}
use Rattle.sp_history.specs.Past.{up}
use Rattle.sp_history.specs.Requests.{is_orphan, next_number}
use Rattle.sp_history.specs.Legal.{was_superseded}
use Rattle.sp_history.specs.Once.{AreApart, AreDistinct}
use Rattle.sp_history.specs.Settled.{has_full}
use Rattle.sp_history.specs.Moments.{Moment, past}
use Rattle.sp_proto.specs.Kinds.{Kind, act_of}
use Rattle.sp_proto.specs.Readings.{MomentReading, reading, out_last}
use Rattle.sp_proto.specs.declared.Offer.{Offer}
use Rattle.sp_proto.specs.declared.Offer.TheVariants as offers
use Rattle.sp_proto.specs.declared.Verb.{Verb}
use Rattle.sp_proto.specs.declared.Verb.TheVariants as verbs
use Rattle.sp_proto.specs.declared.Verdict.{Verdict}
use Rattle.sp_proto.specs.declared.Verdict.TheVariants as verdict
use Rattle.proto_requests.specs.Ports.{PortView, Knows, is_pipe, free_count, or_else, where_is, next_port, next_number as next_pipe}
use Rattle.proto_requests.specs.declared.ports.Destination.{Destination}
use Rattle.proto_requests.specs.declared.ports.Destination.TheVariants as ways
use Rattle.proto_live_requests.specs.Dues.{AreSeen, StaySeen}
use Rattle.proto_requests.specs.Hints.{HintsView, covers}
use Rattle.std.specs.Option.{option_map}
use Rattle.proto_reqrep.specs.declared.req.Request.{Request as Machine}
use Rattle.proto_live_requests.specs.declared.live.Live.{Live}
use Rattle.proto_live_requests.specs.declared.live.KeptReply.{KeptReply}
use Rattle.proto_reqrep.specs.declared.req.Asking.{Asking}
use Rattle.proto_live_requests.specs.ReqContexts.{ReqContextView}
use Rattle.proto_live_requests.specs.LiveRequests.{context_number, dry_at, item_of, request_of, live_ctx, live_id, is_live_on, without_live, keeps_reply, reply_in, OnePerContext, AreSound}
use Rattle.proto_requests.specs.FirstFound.{without_found}
use Rattle.proto_requests.specs.Ids.{number_after, raw_item}

abbrev pub req_kind : Bool → Options → Kind
req_kind raw options = record { role = role.Req; raw = raw; options = options }

-- ---- Operations

abbrev pub begun_of : Asking → Begun
begun_of w = record { op = w.op; ctx = w.ctx; act = act_of w.message }

abbrev pub is_asked : OpName → Asking → Bool
is_asked op w = same_op w.op op

abbrev pub is_sending : Asking → Bool
is_sending w = is_some w.message

-- a receive on the context
abbrev pub is_receiving_on : ℕ → Asking → Bool
is_receiving_on c w = not (is_sending w) && (w.ctx == c)

-- without the operation of this name
abbrev pub without_first : OpName → List Asking → List Asking
without_first op ws = without_found (is_asked op) ws

-- its request has ended, if it belongs to this context
abbrev pub orphaned : ℕ → Asking → Asking
orphaned c w = record { op = w.op; ctx = w.ctx; message = w.message; is_orphan = w.is_orphan || (c == w.ctx) }

-- it has this name, and its request has ended
abbrev pub is_left : OpName → Asking → Bool
is_left op w = w.is_orphan && same_op w.op op

-- ---- Ids

abbrev pub free_number : ℕ → List Live → ℕ → ℕ
free_number zero xs id = id
free_number (suc tries) xs id = if list_any (λ (x : Live). x.id == id) xs then free_number tries xs (number_after id) else id

-- ---- What can be done

-- a message can be given to a receive of the context
abbrev pub is_given : Bool → List KeptReply → List Live → ℕ → Bool
is_given true ks xs c = not (is_nil ks)
is_given false ks xs c = list_any (keeps_reply c) xs

-- its pipe is down, or it went out too long ago
abbrev pub is_late : ℕ → ℕ → List PortView → LastOut → Bool
is_late resend t ps o = not (list_any (is_pipe o.pipe) ps) || nat_le (o.when + resend) t

abbrev pub is_late_in : ℕ → ℕ → List PortView → Option LastOut → Bool
is_late_in resend t ps None = false
is_late_in resend t ps (Some o) = is_late resend t ps o

-- the live request may go out again
abbrev pub is_due : ℕ → ℕ → List PortView → List ReqContextView → Live → Bool
is_due resend t ps ss x = not (is_some x.reply) && (is_late_in resend t ps x.last_out && not (dry_at x.ctx ss))

-- a receive for which a reply is kept
abbrev pub answers : List Live → Asking → Bool
answers xs w = not (is_sending w) && list_any (keeps_reply w.ctx) xs

-- the first receive on the context, if a reply is kept for it
abbrev pub ready_on : List Live → List Asking → ℕ → Option OpName
ready_on xs ws c = if list_any (keeps_reply c) xs then option_map (λ (w : Asking). w.op) (find (is_receiving_on c) ws) else None

-- it is the first receive on its context, and a reply is kept for it
abbrev pub IsReply : List Live → List Asking → OpName → Type 0
IsReply xs ws op = (w : Asking) × (find (is_receiving_on w.ctx) ws ≡ Some w) × (w.op ≡ op) × (list_any (keeps_reply w.ctx) xs ≡ true)

-- its context is not among those that are to be looked at
abbrev pub is_missed : HintsView ℕ → List Live → Asking → Bool
is_missed h xs w = answers xs w && not (covers h w.ctx)

-- the contexts of receives for which a reply is kept are to be looked at
abbrev pub AreReady : HintsView ℕ → List Live → List Asking → Type 0
AreReady h xs ws = list_any (is_missed h xs) ws ≡ false

-- its last Out is late
abbrev pub late_in : Machine → LastOut → Bool
late_in m o = is_late m.options.resend m.tick m.ports.items o

abbrev pub dry_in : Machine → ℕ → Bool
dry_in m c = dry_at c m.contexts.items

-- the live request may go out again
abbrev pub due_in : Machine → Live → Bool
due_in m x = is_due m.options.resend m.tick m.ports.items m.contexts.items x

-- none may go out again
abbrev pub NoneDue : Machine → Type 0
NoneDue m = list_any (due_in m) m.live.items ≡ false

-- the contexts of its receives for which a reply is kept are among these
abbrev pub ReadyAmong : Machine → HintsView ℕ → Type 0
ReadyAmong m h = AreReady h m.live.items m.waiting.items

-- the request of the context, which waits for a reply since this Out
abbrev pub is_due_out : Machine → Option LastOut → ℕ → Bool
is_due_out m None c = false
is_due_out m (Some o) c = late_in m o && not (dry_in m c)

-- the request of the context may go out again
abbrev pub IsDueOn : Machine → ℕ → Type 0
IsDueOn m c = (x : Live) × (find (is_live_on c) m.live.items ≡ Some x) × (due_in m x ≡ true)

-- each request that waits for a reply is looked at when it is due, where no pipe's number is above this one
abbrev pub IsSeen : Machine → ℕ → Type 0
IsSeen m last = AreSeen m.dues (late_in m) (dry_in m) last m.live.items

abbrev pub IsCalm : Machine → ℕ → Type 0
IsCalm m last = IsSeen m last × ReadyAmong m m.ready

-- a receive that can be given a message
abbrev pub gets : Machine → Asking → Bool
gets m w = not (is_sending w) && is_given m.raw m.kept.items m.live.items w.ctx

-- it is the first receive on its context, and can be given a message
abbrev pub IsGift : Machine → OpName → Type 0
IsGift m op = (w : Asking) × (find (is_receiving_on w.ctx) m.waiting.items ≡ Some w) × (w.op ≡ op) × (is_given m.raw m.kept.items m.live.items w.ctx ≡ true)

-- what can go out on the pipe: the first send, or a request that may go out again
abbrev pub IsOut : Machine → ℕ → Offer → Type 0
IsOut m p offers.Idle = (find is_sending m.waiting.items ≡ None) × NoneDue m
IsOut m p (offers.Send op q) = (w : Asking) × (find is_sending m.waiting.items ≡ Some w) × (w.op ≡ op) × (p ≡ q)
IsOut m p (offers.Again c q) = IsDueOn m c × (p ≡ q)
IsOut m p (offers.Give op) = ⊥
IsOut m p (offers.Flood op) = ⊥
IsOut m p (offers.Drop op) = ⊥
IsOut m p (offers.Finish op cause) = ⊥

-- the state doesn't allow it: a receive needs a live request, and no other receive
abbrev pub ask_state : List Asking → List Live → ℕ → Verb → Bool
ask_state ws xs c verbs.Recv = not (list_any (is_live_on c) xs) || list_any (is_receiving_on c) ws
ask_state ws xs c verbs.Send = false

abbrev pub due_count : (Live → Bool) → List Live → ℕ
due_count due [] = 0
due_count due (x ∷ xs) = if due x then due_count due xs + 1 else due_count due xs

abbrev pub is_raw : Machine → Bool
is_raw m = m.raw

-- how many more operations can wait
abbrev pub places_left : Machine → ℕ
places_left m = m.waiting.room

-- each pipe that is free may take one more of all requests, when it goes down
abbrev pub work_left : Machine → ℕ
work_left m =
    free_count m.ports.items * (length m.live.items + 1) + due_count (is_due m.options.resend m.tick m.ports.items m.contexts.items) m.live.items + length m.waiting.items

-- ---- What calls do

-- the id of a new request
abbrev pub new_id : ℕ → Option ℕ → List Live → ℕ
new_id dice last xs = free_number (length xs) xs (next_number dice last)

abbrev pub IsNew : Machine → ℕ → List ℕ → Live → Type 0
IsNew m c body x =
    (x.ctx ≡ c) × (x.id ≡ new_id m.options.dice m.last_id (without_live c m.live.items)) × (x.copy.header ≡ []) × (x.copy.body ≡ body) × (x.birth ≡ m.tick)
    × (x.last_out ≡ None) × (x.reply ≡ None) × (x.id < 2 ^ 32)

-- a new request of the context takes the place of the live one
abbrev pub Asks : ℕ → List ℕ → Machine → Machine → Type 0
Asks c body m n =
    (x : Live) × IsNew m c body x × (length (without_live c m.live.items) < 2 ^ 31) × (n.live.items ≡ without_live c m.live.items ++ x ∷ [])
    × (n.waiting.items ≡ map (orphaned c) m.waiting.items) × (n.last_id ≡ Some x.id)
    × (n.raw ≡ m.raw) × (n.options ≡ m.options) × (n.tick ≡ m.tick) × (n.ports ≡ m.ports) × (n.kept ≡ m.kept) × (n.last_pipe ≡ m.last_pipe) × (n.contexts ≡ m.contexts) × (n.ready ≡ m.ready)
    × (OnePerContext m.live.items → StaySeen m.dues n.dues m.live.items)

-- none begins
abbrev pub AsksNot : Machine → Machine → Type 0
AsksNot m n = (n.live.items ≡ m.live.items) × (OnePerContext m.live.items → StaySeen m.dues n.dues m.live.items) × (n ≡ record m { live = n.live; dues = n.dues })

-- raw, a receive gets the oldest message
abbrev pub GivesRaw : Option MessageView → Machine → Machine → Type 0
GivesRaw r m n = (r ≡ option_map (λ (k : KeptReply). k.message) (head_of m.kept.items)) × (n.kept.items ≡ drop 1 m.kept.items) × (n.live ≡ m.live)

-- a receive of the context gets the reply to its request, which is answered by it
abbrev pub GivesReply : ℕ → Option MessageView → Machine → Machine → Type 0
GivesReply c r m n = (r ≡ reply_in (find (is_live_on c) m.live.items)) × (n.live.items ≡ without_live c m.live.items) × (n.kept ≡ m.kept)

-- it goes out now, on this pipe
abbrev pub sent_now : Machine → ℕ → LastOut
sent_now m p = record { pipe = p; when = m.tick }

-- what goes out for the request of the context: its id, followed by this body
abbrev pub IsLed : List Live → ℕ → List ℕ → MessageView → Type 0
IsLed xs c body r = (x : Live) → find (is_live_on c) xs ≡ Some x → wire_text r ≡ word x.id ++ body

-- a raw frame is kept
abbrev pub KeepsRaw : Verdict → ℕ → List ℕ → List KeptReply → List KeptReply → Type 0
KeepsRaw verdict.Fine p b old new = (first_word b ≢ None) × (map item_of new ≡ map item_of old ++ raw_item p b ∷ [])
KeepsRaw verdict.Malformed p b old new = (first_word b ≡ None) × (new ≡ old)
KeepsRaw verdict.NoMemory p b old new = (first_word b ≢ None) × (new ≡ old)
KeepsRaw (verdict.Dry c) p b old new = ⊥

-- ---- What it stands for

-- the operation, whose request is live: if it is a send, the request was begun with its message, and did not go out yet
abbrev pub IsOf : Live → Option MessageView → Type 0
IsOf x None = ⊤
IsOf x (Some m) = (x.copy.body ≡ m.body) × (x.last_out ≡ None)

abbrev pub HasLive : List Live → Asking → Type 0
HasLive xs w = (x : Live) × (find (is_live_on w.ctx) xs ≡ Some x) × IsOf x w.message

-- each operation whose request didn't end has a live one
abbrev pub HaveLive : List Live → List Asking → Type 0
HaveLive xs [] = ⊤
HaveLive xs (w ∷ ws) = (w.is_orphan ≡ false → HasLive xs w) × HaveLive xs ws

-- a send on the context
abbrev pub is_sending_on : ℕ → Asking → Bool
is_sending_on c w = is_sending w && (w.ctx == c)

-- after a receive no other receive of its context is pending, and after an operation of a live request no other send
abbrev pub AreSingle : List Asking → Type 0
AreSingle [] = ⊤
AreSingle (w ∷ ws) =
    (is_sending w ≡ false → list_any (is_receiving_on w.ctx) ws ≡ false) × (w.is_orphan ≡ false → list_any (is_sending_on w.ctx) ws ≡ false) × AreSingle ws

-- its request was replaced or given up
abbrev pub is_superseded : Orphan → Bool
is_superseded o = was_superseded (Some o.how)

-- the pipes that had room when they were last asked, were not asked yet, or are to be tried again
abbrev pub roomy_of : Machine → List ℕ
roomy_of m = m.roomy.keys

-- the first of the numbers after this one, or else the first of all
abbrev pub next_of : ℕ → List ℕ → Option ℕ
next_of last us = next_pipe (λ q. true) last us

-- the pipe is up, and was not found full in this turn
abbrev pub has_room : Moment → ℕ → Bool
has_room t q = has (up (past t)) q && not (has_full t.turn q)

-- the number, if it passes the test
abbrev pub passing : (ℕ → Bool) → Option ℕ → Option ℕ
passing P None = None
passing P (Some q) = if P q then Some q else None

-- it is the next of the roomy pipes after that of the last Out, in the round of their numbers, if that one is up and
-- was not found full in this turn; else the next of all that are up and were not found full in this turn
abbrev pub IsNextPipe : List ℕ → Moment → ℕ → Type 0
IsNextPipe roomy t p = or_else (passing (has_room t) (next_of (out_last (past t)) roomy)) (next_pipe (λ q. not (has_full t.turn q)) (out_last (past t)) (up (past t))) ≡ Some p

abbrev pub way_of : Destination → Option ℕ
way_of (ways.To p) = Some p
way_of ways.Full = None
way_of ways.Nowhere = None

-- the next of the roomy pipes, if it can be taken
abbrev pub roomy_port : Machine → Option ℕ
roomy_port m = way_of (where_is m.ports.items (next_of m.last_pipe (roomy_of m)))

-- it, or else the next of all that can be taken
abbrev pub chosen_port : Machine → Option ℕ
chosen_port m = or_else (roomy_port m) (option_map (λ (x : PortView). x.pipe) (next_port m.last_pipe m.ports.items))

-- its settings, the time, and the pipe of the last Out
pub record SetTo (raw : Bool) (options : Options) (tick : ℕ) (last : ℕ) (k : Kind) (t : ℕ) (out : ℕ) : Type 0 where
  pub kind : k ≡ req_kind raw options
  -- an Out is never due again at once
  pub resend : 1 ≤ options.resend
  pub moment : tick ≡ t
  pub outs : last ≡ out

-- the live requests, with different ids and contexts; the pending operations, the oldest first, and those of them that
-- no longer have a request
pub record Asked (raw : Bool) (xs : List Live) (id : Option ℕ) (ws : List Asking) (ss : List Begun) (rs : Requests) : Type 0 where
  pub live : map request_of xs ≡ rs.live
  pub last_id : id ≡ rs.last_id
  pub ids : AreDistinct (map live_id xs)
  pub places : AreDistinct (map live_ctx xs)
  pub sound : AreSound xs
  pub pending : map begun_of ws ≡ ss
  pub apart : AreApart ss
  pub orphans : (op : OpName) → is_orphan rs op ≡ list_any (is_left op) ws
  pub causes : list_all is_superseded rs.orphans ≡ true
  pub single : raw ≡ false → AreSingle ws
  pub owned : raw ≡ false → HaveLive xs ws

-- the open contexts, those of the live requests among them, and those that are dry
pub record Opened (xs : List Live) (all : List ReqContextView) (cs : List ℕ) (dry : ℕ → Bool) : Type 0 where
  pub of_contexts : (c : ℕ) → has (map live_ctx xs) c ≡ true → has cs c ≡ true
  pub contexts : map context_number all ≡ cs
  pub dryness : (c : ℕ) → has cs c ≡ true → dry_at c all ≡ dry c

-- raw, what it keeps
abbrev pub Keeps : Bool → List KeptReply → List Item → Type 0
Keeps raw ks is = raw ≡ true → map item_of ks ≡ is

-- it stands for what the reading of a moment says
abbrev pub Stands : Machine → MomentReading → Type 0
Stands m r =
    SetTo m.raw m.options m.tick m.last_pipe r.kind r.now r.out_last
    × Knows m.ports.items r.up r.ups r.full
    × Keeps m.raw m.kept.items (r.pool 0)
    × Asked m.raw m.live.items m.last_id m.waiting.items r.pend r.requests
    × Opened m.live.items m.contexts.items r.ctxs r.dry
    × IsCalm m r.ups

abbrev pub Ties : Machine → Moment → Type 0
Ties m t = Stands m (reading t)

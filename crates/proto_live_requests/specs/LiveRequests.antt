-- The live requests and the open contexts of a req, and their changes.
use Rattle.std.specs.Prelude.{◌≡◌, ◌<◌, ◌^◌, ◌==◌, ◌&&◌, ◌||◌, ℕ, Bool, true, false, not, ⊤, nat_le, if◌then◌else◌, List, [], ◌∷◌, map, find, Option, Some, None, is_some}
use Rattle.std.specs.List.{list_any}
use Rattle.sp_msg.specs.Views.{MessageView}
use Rattle.sp_history.specs.declared.parts.Item.{Item}
use Rattle.sp_history.specs.declared.parts.LiveRequest.{LiveRequest}
use Rattle.sp_history.specs.declared.parts.LastOut.{LastOut}
use Rattle.sp_history.specs.Once.{AreDistinct}
use Rattle.sp_proto.specs.Kinds.{text_of}
use Rattle.proto_live_requests.specs.Dues.{DuesView, AreSeen, IsLater, awaited, is_at}
use Rattle.proto_live_requests.specs.Outs.{is_sent}
use Rattle.proto_live_requests.specs.declared.outs.SentOut.{SentOut}
use Rattle.proto_requests.specs.Hints.{HintsView, covers, covers_by}
use Rattle.proto_live_requests.specs.declared.live.Live.{Live}
use Rattle.proto_live_requests.specs.declared.live.KeptReply.{KeptReply}
use Rattle.proto_live_requests.specs.ReqContexts.{ReqContextView}
use Rattle.proto_requests.specs.FirstFound.{without_found, with_found}

-- ---- Contexts

abbrev pub context_number : ReqContextView → ℕ
context_number s = s.ctx

-- there was no memory for a copy for the context
abbrev pub dry_at : ℕ → List ReqContextView → Bool
dry_at c xs = list_any (λ (s : ReqContextView). (s.ctx == c) && s.is_dry) xs

abbrev pub dried : ℕ → ReqContextView → ReqContextView
dried c s = record { ctx = s.ctx; is_dry = s.is_dry || (s.ctx == c) }

abbrev pub wetted : ReqContextView → ReqContextView
wetted s = record { ctx = s.ctx; is_dry = false }

-- ---- Live requests

abbrev pub item_of : KeptReply → Item
item_of k = record { pipe = k.pipe; words = []; message = text_of k.message }

abbrev pub items_of : Option KeptReply → List Item
items_of None = []
items_of (Some k) = item_of k ∷ []

abbrev pub request_of : Live → LiveRequest
request_of x = record { ctx = x.ctx; id = x.id; body = x.copy.body; birth = x.birth; last_out = x.last_out; replies = items_of x.reply }

abbrev pub live_ctx : Live → ℕ
live_ctx x = x.ctx

abbrev pub live_id : Live → ℕ
live_id x = x.id

abbrev pub is_live_on : ℕ → Live → Bool
is_live_on c x = x.ctx == c

abbrev pub without_live : ℕ → List Live → List Live
without_live c xs = without_found (is_live_on c) xs

abbrev pub keeps_reply : ℕ → Live → Bool
keeps_reply c x = (x.ctx == c) && is_some x.reply

abbrev pub message_in : Option KeptReply → Option MessageView
message_in None = None
message_in (Some k) = Some k.message

abbrev pub reply_in : Option Live → Option MessageView
reply_in None = None
reply_in (Some x) = message_in x.reply

-- a reply with this id is kept for it
abbrev pub waits_for : ℕ → Live → Bool
waits_for id x = (x.id == id) && is_some x.last_out && not (is_some x.reply)

abbrev pub with_kept : KeptReply → Live → Live
with_kept k x = record { ctx = x.ctx; id = x.id; copy = x.copy; birth = x.birth; last_out = x.last_out; reply = Some k }

-- the first that waits for it keeps the reply
abbrev pub with_reply : ℕ → KeptReply → List Live → List Live
with_reply id k xs = with_found (waits_for id) (with_kept k) xs

-- it went out like this
abbrev pub sent_at : LastOut → Live → Live
sent_at o x = record { ctx = x.ctx; id = x.id; copy = x.copy; birth = x.birth; last_out = Some o; reply = x.reply }

-- the request of the context went out like this
abbrev pub with_out : ℕ → LastOut → List Live → List Live
with_out c o xs = with_found (is_live_on c) (sent_at o) xs

-- how the request of the context went out, if it waits for a reply
abbrev pub out_of : List Live → ℕ → Option LastOut
out_of xs c = awaited (find (is_live_on c) xs)

-- no two requests are of one context
abbrev pub OnePerContext : List Live → Type 0
OnePerContext xs = AreDistinct (map live_ctx xs)

abbrev pub out_on : ℕ → LastOut → Live → Option LastOut
out_on c o x = if x.ctx == c then Some o else x.last_out

abbrev pub with_out_on : ℕ → LastOut → Live → Live
with_out_on c o x = record { ctx = x.ctx; id = x.id; copy = x.copy; birth = x.birth; last_out = out_on c o x; reply = x.reply }

-- each live request: what goes out again has no header, its id is one of 32 bits, and it keeps no reply before it went
-- out
abbrev pub AreSound : List Live → Type 0
AreSound [] = ⊤
AreSound (x ∷ xs) = (x.copy.header ≡ []) × (x.id < 2 ^ 32) × (x.last_out ≡ None → x.reply ≡ None) × AreSound xs

-- ---- Live requests that are looked at

-- its request waits for a reply since it went out like this
abbrev pub is_awaited : List Live → SentOut → Bool
is_awaited xs e = is_at e (out_of xs e.ctx)

-- what waits for a reply since it went out like this is still among them
abbrev pub KeepAwaited : List Live → HintsView SentOut → HintsView SentOut → Type 0
KeepAwaited xs old new = (c : ℕ) (o : LastOut) → out_of xs c ≡ Some o → covers_by old (is_sent c o) ≡ true → covers_by new (is_sent c o) ≡ true

-- the contexts of live requests that were looked at still are
abbrev pub StayAmongLive : List Live → HintsView ℕ → HintsView ℕ → Type 0
StayAmongLive xs old new = (q : ℕ) → list_any (is_live_on q) xs ≡ true → covers old q ≡ true → covers new q ≡ true

-- of what is past and was among the Outs, each that waits for a reply is looked at
abbrev pub LookAtPast : (LastOut → Bool) → List Live → HintsView SentOut → HintsView ℕ → Type 0
LookAtPast past xs outs due = (c : ℕ) (o : LastOut) → outs.whole ≡ true → past o ≡ true → out_of xs c ≡ Some o → covers_by outs (is_sent c o) ≡ true → covers due c ≡ true

-- where more is late, by this, and other contexts are dry, each request that waits for a reply is still looked at when
-- it is due
abbrev pub SeeLater : DuesView → DuesView → (LastOut → Type 0) → ((ℕ → Bool) → ℕ → Bool) → List Live → Type 0
SeeLater old new T next xs = OnePerContext xs → (late later : LastOut → Bool) (dry : ℕ → Bool) (last : ℕ) → IsLater late later T → AreSeen old late dry last xs → AreSeen new later (next dry) last xs

-- the request of the context goes out like this, and is looked at when it is due
abbrev pub NotesOut : DuesView → DuesView → List Live → ℕ → LastOut → Type 0
NotesOut old new xs c o = (late : LastOut → Bool) (dry : ℕ → Bool) (last : ℕ) → late o ≡ false → nat_le o.pipe last ≡ true → AreSeen old late dry last xs → AreSeen new late dry last (with_out c o xs)

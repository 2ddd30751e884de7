-- The live requests that are looked at when they are due.
use Rattle.std.specs.Prelude.{◌≡◌, ◌⊎◌, ◌+◌, ℕ, ◌==◌, ◌&&◌, ◌||◌, nat_le, Bool, true, false, not, if◌then◌else◌, List, Option, Some, None, is_some}
use Rattle.std.specs.List.{list_any}
use Rattle.sp_history.specs.declared.parts.LastOut.{LastOut}
use Rattle.proto_requests.specs.Hints.{HintsView, covers, covers_by}
use Rattle.proto_live_requests.specs.declared.live.Live.{Live}
use Rattle.proto_live_requests.specs.declared.outs.SentOut.{SentOut}
use Rattle.proto_live_requests.specs.Outs.{is_sent}

-- the contexts of requests that may be due, those of requests that were due when there was no memory, and what went out
pub record DuesView : Type 0 where
  pub due : HintsView ℕ
  pub dry : HintsView ℕ
  pub outs : HintsView SentOut

-- its pipe came up, and the context is looked at: if the request is late, before the next request goes out again, or
-- after the tick where the context is dry; otherwise once it is late
abbrev pub is_seen : DuesView → (LastOut → Bool) → (ℕ → Bool) → ℕ → ℕ → LastOut → Bool
is_seen v late dry last c o = nat_le o.pipe last && (if late o then dry c || covers v.due c else covers_by v.outs (is_sent c o))

abbrev pub is_unseen_out : DuesView → (LastOut → Bool) → (ℕ → Bool) → ℕ → ℕ → Option LastOut → Bool
is_unseen_out v late dry last c None = false
is_unseen_out v late dry last c (Some o) = not (is_seen v late dry last c o)

-- the request waits for a reply, and is not looked at when it is due
abbrev pub is_unseen : DuesView → (LastOut → Bool) → (ℕ → Bool) → ℕ → Live → Bool
is_unseen v late dry last x = not (is_some x.reply) && is_unseen_out v late dry last x.ctx x.last_out

-- each request that waits for a reply is looked at when it is due, and each dry context after the tick
abbrev pub AreSeen : DuesView → (LastOut → Bool) → (ℕ → Bool) → ℕ → List Live → Type 0
AreSeen v late dry last xs = (list_any (is_unseen v late dry last) xs ≡ false) × ((q : ℕ) → dry q ≡ true → covers v.dry q ≡ true)

-- this stays true
abbrev pub StaySeen : DuesView → DuesView → List Live → Type 0
StaySeen old new xs = (late : LastOut → Bool) (dry : ℕ → Bool) (last : ℕ) → AreSeen old late dry last xs → AreSeen new late dry last xs

-- how it went out, if it waits for a reply
abbrev pub awaited : Option Live → Option LastOut
awaited None = None
awaited (Some x) = if is_some x.reply then None else x.last_out

-- it went out like this
abbrev pub is_at : SentOut → Option LastOut → Bool
is_at e None = false
is_at e (Some o) = (e.pipe == o.pipe) && (e.when == o.when)

-- it belongs to the context, and waits for a reply since it went out like this
abbrev pub waits_so : ℕ → LastOut → Live → Bool
waits_so c o x = (x.ctx == c) && is_at (record { ctx = c; pipe = o.pipe; when = o.when }) (awaited (Some x))

-- what is late stays late
abbrev pub StayLate : (LastOut → Bool) → (LastOut → Bool) → Type 0
StayLate late later = (o : LastOut) → late o ≡ true → later o ≡ true

-- it went out at least `resend` milliseconds ago
abbrev pub is_past : ℕ → ℕ → LastOut → Bool
is_past resend now o = nat_le (o.when + resend) now

-- what is late now is what was late, and that for which this is true
abbrev pub IsLater : (LastOut → Bool) → (LastOut → Bool) → (LastOut → Type 0) → Type 0
IsLater late later T = StayLate late later × ((o : LastOut) → later o ≡ true → (late o ≡ true) ⊎ T o) × ((o : LastOut) → T o → later o ≡ true)

-- the context is dry now; each request is still looked at when it is due
abbrev pub NotesDry : DuesView → DuesView → ℕ → Type 0
NotesDry old new c = (late : LastOut → Bool) (dry now : ℕ → Bool) (last : ℕ) (xs : List Live) → ((q : ℕ) → (q == c) ≡ false → now q ≡ dry q) → (dry c ≡ true → now c ≡ true) → AreSeen old late dry last xs → AreSeen new late now last xs

-- of those for which this is true, each that is among these is looked at
abbrev pub LookAtAll : (LastOut → Bool) → List SentOut → HintsView ℕ → Type 0
LookAtAll so es due = (c : ℕ) (o : LastOut) → so o ≡ true → list_any (is_sent c o) es ≡ true → covers due c ≡ true

-- What went out, in the order of its time and by its pipes.
use Rattle.std.specs.Prelude.{◌≡◌, ◌≤◌, ◌+◌, ℕ, ◌==◌, ◌&&◌, Bool, true, false, if◌then◌else◌, List, length}
use Rattle.std.specs.List.{list_any}
use Rattle.sp_history.specs.declared.parts.LastOut.{LastOut}
use Rattle.proto_requests.specs.Hints.{HintsView, covers_by}
use Rattle.proto_live_requests.specs.declared.outs.SentOut.{SentOut}

-- it went out like this for the context
abbrev pub is_sent : ℕ → LastOut → SentOut → Bool
is_sent c o e = (e.ctx == c) && ((e.pipe == o.pipe) && (e.when == o.when))

-- when and on which pipe it went out
abbrev pub out_in : SentOut → LastOut
out_in e = record { pipe = e.pipe; when = e.when }

-- the two are the same
abbrev pub is_entry : SentOut → SentOut → Bool
is_entry e f = is_sent e.ctx (out_in e) f

-- when, on which pipe and for which context, as in the order of time
abbrev pub timed : ℕ × ℕ × ℕ → SentOut
timed k = record { ctx = k.2; pipe = k.1; when = k.0 }

-- on which pipe, for which context and when, as in the order of pipes
abbrev pub piped : ℕ × ℕ × ℕ → SentOut
piped k = record { ctx = k.1; pipe = k.0; when = k.2 }

-- both sets have the same entries
abbrev pub AreSame : List SentOut → List SentOut → Type 0
AreSame xs ys = (c : ℕ) (o : LastOut) → list_any (is_sent c o) xs ≡ list_any (is_sent c o) ys

-- the entry is now among them, or is not, and the others are the same
abbrev pub IsSet : Bool → SentOut → List SentOut → List SentOut → Type 0
IsSet is_in e old new = (c : ℕ) (o : LastOut) → list_any (is_sent c o) new ≡ (if is_sent c o e then is_in else list_any (is_sent c o) old)

-- one that went out on the pipe for the context is gone, and no other one
pub record IsOneLess (p c : ℕ) (old new : List SentOut) : Type 0 where
  pub gone : SentOut
  pub on : gone.pipe ≡ p
  pub of : gone.ctx ≡ c
  pub others : IsSet false gone old new
  pub fewer : length new + 1 ≡ length old

-- none went out on the pipe
abbrev pub NoneOn : ℕ → List SentOut → Type 0
NoneOn p es = (c : ℕ) (o : LastOut) → o.pipe ≡ p → list_any (is_sent c o) es ≡ false

-- none went out before this
abbrev pub AreSince : ℕ → List SentOut → Type 0
AreSince t es = (c : ℕ) (o : LastOut) → list_any (is_sent c o) es ≡ true → t ≤ o.when

-- from the first pipe on nothing went out on one before the second, which is not before the first
abbrev pub AreFrom : ℕ → ℕ → List SentOut → Type 0
AreFrom p q es = (p ≤ q) × ((c : ℕ) (o : LastOut) → p ≤ o.pipe → list_any (is_sent c o) es ≡ true → q ≤ o.pipe)

-- what went out stays among them
abbrev pub StaySent : HintsView SentOut → HintsView SentOut → Type 0
StaySent old new = (c : ℕ) (o : LastOut) → covers_by old (is_sent c o) ≡ true → covers_by new (is_sent c o) ≡ true

-- each for which this isn't true is still among them
abbrev pub KeepOthers : (LastOut → Bool) → HintsView SentOut → HintsView SentOut → Type 0
KeepOthers so old new = (c : ℕ) (o : LastOut) → so o ≡ false → covers_by old (is_sent c o) ≡ true → covers_by new (is_sent c o) ≡ true

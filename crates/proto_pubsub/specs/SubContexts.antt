-- A context of a sub, and its changes.
use Rattle.std.specs.Prelude.{◌≡◌, ℕ, ⊤, ◌<◌, ◌==◌, ◌||◌, ◌&&◌, Bool, true, false, not, nat_lt, if◌then◌else◌, List, [], ◌∷◌, ◌++◌, length, map, drop, filter, Option, Some, None, Result, Ok, Err}
use Rattle.sp_msg.specs.Views.{MessageView}
use Rattle.sp_history.specs.declared.setting.Options.{Options}
use Rattle.sp_history.specs.Lists.{same_bytes, head_of}
use Rattle.sp_history.specs.Kept.{is_wanted_by}
use Rattle.sp_history.specs.Legal.{has_topic}

-- a context, its topics, how many messages it has memory for, and what is kept for it, the oldest first
pub record SubContextView : Type 0 where
  pub ctx : ℕ
  pub topics : List (List ℕ)
  pub places : ℕ
  pub kept : List MessageView

-- the new message is last; a full queue discards it, or the oldest
abbrev pub added : Bool → ℕ → MessageView → List MessageView → List MessageView
added prefer_new most m ms = if nat_lt (length ms) most then ms ++ m ∷ [] else if prefer_new then drop 1 ms ++ m ∷ [] else ms

-- the context keeps the frame, where a topic matches it, or raw
abbrev pub kept_in : Bool → Options → MessageView → SubContextView → SubContextView
kept_in raw options m x =
    if raw || is_wanted_by x.topics m.body then record { ctx = x.ctx; topics = x.topics; places = x.places; kept = added options.prefer_new x.places m x.kept } else x

-- the context keeps a frame with this body: a topic matches it, and the queue isn't full, or discards its oldest
abbrev pub takes_frame : Bool → Options → List ℕ → SubContextView → Bool
takes_frame raw options body x = (raw || is_wanted_by x.topics body) && (nat_lt (length x.kept) x.places || options.prefer_new)

-- the message is last; in a full queue it replaces the oldest
abbrev pub with_message : MessageView → SubContextView → SubContextView
with_message m x =
    record { ctx = x.ctx; topics = x.topics; places = x.places; kept = if nat_lt (length x.kept) x.places then x.kept ++ m ∷ [] else drop 1 x.kept ++ m ∷ [] }

-- a new context
abbrev pub fresh_context : ℕ → ℕ → SubContextView
fresh_context places c = record { ctx = c; topics = []; places = places; kept = [] }

-- the oldest message is gone
abbrev pub given_from : SubContextView → SubContextView
given_from x = record { ctx = x.ctx; topics = x.topics; places = x.places; kept = drop 1 x.kept }

-- nothing is kept
abbrev pub emptied : SubContextView → SubContextView
emptied x = record { ctx = x.ctx; topics = x.topics; places = x.places; kept = [] }

-- one more topic
abbrev pub with_topic : List ℕ → SubContextView → SubContextView
with_topic t x = record { ctx = x.ctx; topics = x.topics ++ t ∷ []; places = x.places; kept = x.kept }

abbrev pub topics_without : List ℕ → List (List ℕ) → List (List ℕ)
topics_without t ts = filter (λ u. not (same_bytes u t)) ts

-- one topic fewer, and only the messages that the others match
abbrev pub without_topic : List ℕ → SubContextView → SubContextView
without_topic t x =
    record { ctx = x.ctx; topics = topics_without t x.topics; places = x.places; kept = filter (λ m. is_wanted_by (topics_without t x.topics) m.body) x.kept }

-- one topic is added or removed
abbrev pub switched : Bool → List ℕ → SubContextView → SubContextView
switched true t x = with_topic t x
switched false t x = without_topic t x

-- the context has this number
abbrev pub is_of_context : ℕ → SubContextView → Bool
is_of_context c x = x.ctx == c

abbrev pub ctx_of : SubContextView → ℕ
ctx_of x = x.ctx

-- each number is above this one
abbrev pub AreOver : ℕ → List ℕ → Type 0
AreOver n [] = ⊤
AreOver n (c ∷ cs) = (n < c) × AreOver n cs

-- each number is below those after it
abbrev pub AreOrdered : List ℕ → Type 0
AreOrdered [] = ⊤
AreOrdered (c ∷ cs) = AreOver c cs × AreOrdered cs

-- the contexts are in the order of their numbers
abbrev pub InOrder : List SubContextView → Type 0
InOrder xs = AreOrdered (map ctx_of xs)

-- its oldest message
abbrev pub first_in : Option SubContextView → Option MessageView
first_in None = None
first_in (Some x) = head_of x.kept

-- the first that passes the test is changed
abbrev pub with_found : (SubContextView → Bool) → (SubContextView → SubContextView) → List SubContextView → List SubContextView
with_found P f [] = []
with_found P f (x ∷ xs) = if P x then f x ∷ xs else x ∷ with_found P f xs

-- whether that changes something; out of memory nothing changes
abbrev pub Switches : {E : Type 0} → Result Bool E → SubContextView → SubContextView → List ℕ → Bool → Type 0
Switches (Ok true) old new t on = (has_topic old.topics t ≡ not on) × (new ≡ switched on t old)
Switches (Ok false) old new t on = (has_topic old.topics t ≡ on) × (new ≡ old)
Switches (Err e) old new t on = (on ≡ true) × (new ≡ old)

-- the same for one among several
abbrev pub SwitchesOne : {E : Type 0} → Result Bool E → SubContextView → ℕ → List SubContextView → List SubContextView → List ℕ → Bool → Type 0
SwitchesOne (Ok true) x c old new t on =
    (has_topic x.topics t ≡ not on) × (new ≡ with_found (is_of_context c) (switched on t) old)
SwitchesOne (Ok false) x c old new t on = (has_topic x.topics t ≡ on) × (new ≡ old)
SwitchesOne (Err e) x c old new t on = (on ≡ true) × (new ≡ old)

abbrev pub SwitchesIn : {E : Type 0} → Result Bool E → Option SubContextView → ℕ → List SubContextView → List SubContextView → List ℕ → Bool → Type 0
SwitchesIn r None c old new t on = (new ≡ old) × (r ≡ Ok false)
SwitchesIn r (Some x) c old new t on = SwitchesOne r x c old new t on

-- the frame was kept up to this context, which needed a copy of it, and there was no memory for one
pub record StopsAt (needs : SubContextView → Bool) (f : SubContextView → SubContextView) (c : ℕ) (old new : List SubContextView) : Type 0 where
  pub done : List SubContextView
  pub at : SubContextView
  pub rest : List SubContextView
  pub before : old ≡ done ++ at ∷ rest
  pub here : at.ctx ≡ c
  pub needed : needs at ≡ true
  pub after : new ≡ map f done ++ at ∷ rest

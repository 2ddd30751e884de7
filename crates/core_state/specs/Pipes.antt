-- How the pipes match a history.
use Rattle.std.specs.Prelude.{◌≡◌, ◌≢◌, ℕ, ◌+◌, ◌<◌, ◌≤◌, nat_lt, Bool, true, false, ⊤, if◌then◌else◌, List, map, length, set, slice_index_or, [], ◌∷◌, ◌++◌, Option, Some, None, is_some}
use Rattle.std.specs.List.{All}
use Rattle.std.specs.VecDeque.{deque_capacity}
use Rattle.sp_msg.specs.Views.{WireView}
use Rattle.sp_history.specs.declared.entry.Entry.{Entry}
use Rattle.sp_history.specs.declared.entry.Why.TheVariants as whys
use Rattle.sp_history.specs.declared.entry.Entry.TheVariants.{Full, Down, Stall, Clear, Taken, Frame, Quiet}
use Rattle.sp_history.specs.declared.setting.Setting.{Setting}
use Rattle.sp_history.specs.Lists.{has, head_of}
use Rattle.sp_history.specs.Past.{up, ups, untaken, limit_of}
use Rattle.sp_history.specs.Once.{AreDistinct}
use Rattle.sp_history.specs.Moments.{Moment, Lawful, past, also}
use Rattle.core_state.specs.Busy.{is_busy}
use Rattle.core_state.specs.declared.pipes.PipePlace.{PipePlace}
use Rattle.core_state.specs.declared.pipes.DownPipe.{DownPipe}
use Rattle.core_state.specs.declared.pipes.Pipes.{Pipes}
use Rattle.core_state.specs.declared.pipes.Asked.{Asked}
use Rattle.core_state.specs.declared.pipes.Asked.TheVariants as asked
use Rattle.core_state.specs.declared.pipes.Flushed.{Flushed}
use Rattle.core_state.specs.declared.pipes.Flushed.TheVariants as flushed
use Rattle.core_state.specs.Wires.{IsUpWire, IsDownWire}
use Rattle.core_state.specs.declared.pipes.Pulled.{Pulled}
use Rattle.core_state.specs.declared.pipes.Pulled.TheVariants as pulled

-- a pipe that is up, with its wire and its marks
pub record UpPipe (W : Type 0) : Type 0 where
  pub id : ℕ
  pub wire : W
  pub busy : Bool
  pub listed : Bool

abbrev pub ids : {W : Type 0} → List (UpPipe W) → List ℕ
ids pipes = map (λ x. x.id) pipes

abbrev pub down_ids : {W : Type 0} → List (DownPipe W) → List ℕ
down_ids pipes = map (λ x. x.id) pipes

-- ---- Places

-- the numbers of places
abbrev pub numbers : {W : Type 0} → List (PipePlace W) → List ℕ
numbers places = map (λ x. x.id) places

-- its number is below this one
abbrev pub is_below : {W : Type 0} → ℕ → PipePlace W → Bool
is_below p x = nat_lt x.id p

-- the pipe of the place, with this wire
abbrev pub up_pipe : {W : Type 0} → PipePlace W → W → UpPipe W
up_pipe x w = record { id = x.id; wire = w; busy = x.busy; listed = x.listed }

-- the pipe with this wire, if there is one, before the others
abbrev pub before_others : {W : Type 0} → PipePlace W → Option W → List (UpPipe W) → List (UpPipe W)
before_others x None rest = rest
before_others x (Some w) rest = up_pipe x w ∷ rest

-- the pipes of places that are not empty
abbrev pub held : {W : Type 0} → List (PipePlace W) → List (UpPipe W)
held [] = []
held (x ∷ xs) = before_others x x.wire (held xs)

-- the pipes that are up
abbrev pub up_pipes : {W : Type 0} → Pipes W → List (UpPipe W)
up_pipes l = held l.places.items

-- each number is below those after it
abbrev pub IsRising : List ℕ → Type 0
IsRising [] = ⊤
IsRising (x ∷ xs) = ((y : ℕ) → has xs y ≡ true → x < y) × IsRising xs

-- the pipe of this place came up with its receive limit
abbrev pub HasLimit : {W : Type 0} → List Entry → PipePlace W → Type 0
HasLimit past x = limit_of past x.id ≡ Some x.limit

-- ---- Marks

-- the pipe is marked as busy exactly where it is, and as listed exactly where this list has it; a busy one is listed
abbrev pub IsMarked : {W : Type 0} → (ℕ → Bool) → List ℕ → UpPipe W → Type 0
IsMarked busy listed x = (x.busy ≡ busy x.id) × (x.listed ≡ has listed x.id) × (x.busy ≡ true → x.listed ≡ true)

-- how many of these pipes are not listed
abbrev pub unlisted : {W : Type 0} → List (UpPipe W) → ℕ
unlisted [] = 0
unlisted (x ∷ xs) = if x.listed then unlisted xs else unlisted xs + 1

-- These pipes are marked, and the list has each number once, none above the last one. There is room on it for those that
-- are not listed, and it has no more numbers, with them, than pipes came up
abbrev pub AreMarked : {W : Type 0} → (ℕ → Bool) → ℕ → List (UpPipe W) → List ℕ → ℕ → Type 0
AreMarked busy last pipes listed capacity =
    All (IsMarked busy listed) pipes × AreDistinct listed × ((q : ℕ) → has listed q ≡ true → q ≤ last) × (unlisted pipes + length listed ≤ capacity) × (unlisted pipes + length listed ≤ last)

-- the list with the number, where it isn't there
abbrev pub listed_on : Bool → ℕ → List ℕ → List ℕ
listed_on true p listed = listed
listed_on false p listed = listed ++ p ∷ []

-- ---- Pipes and the history

-- these pipes are up, and these are down and not taken, each with a wire that shows its history; the number of the next
-- pipe is above those of all places, and each place has the receive limit of its pipe
pub record PipesCarry {W : Type 0} (shown : W → WireView) (l : Pipes W) (z : Setting) (past : List Entry) : Type 0 where
  pub up_is : ids (up_pipes l) ≡ up past
  pub up_wires : All (λ x. IsUpWire past x.id (shown x.wire)) (up_pipes l)
  pub down_is : down_ids l.down.items ≡ untaken past
  pub down_wires : All (λ x. IsDownWire z past x.id x.why (shown x.wire)) l.down.items
  pub in_order : IsRising (numbers l.places.items ++ (ups past + 1) ∷ [])
  pub limits : All (HasLimit past) l.places.items
  pub count_is : l.count ≡ length (up_pipes l)
  pub down_room : length (up_pipes l) + length l.down.items ≤ deque_capacity l.down
  pub few : length (up_pipes l) + length l.down.items ≤ 4096
  pub marks : AreMarked (λ p. is_busy past p) (ups past) (up_pipes l) l.busy.items (deque_capacity l.busy)

abbrev pub PipesStand : {W : Type 0} → (W → WireView) → Pipes W → Moment → Type 0
PipesStand shown l t = PipesCarry shown l t.z (past t)

-- the pipe is up and has this place
pub record IsPipeAt {W : Type 0} (l : Pipes W) (i p : ℕ) : Type 0 where
  pub inside : i < length l.places.items
  pub is : (x : PipePlace W) → x ≡ slice_index_or l.places.items i x → (x.id ≡ p) × (is_some x.wire ≡ true)

-- a pipe has this place
pub record HasPlace {W : Type 0} (l : Pipes W) (i : ℕ) : Type 0 where
  pub inside : i < length l.places.items
  pub is_up : (x : PipePlace W) → x ≡ slice_index_or l.places.items i x → is_some x.wire ≡ true
  pub counted : 0 < l.count

-- the wire at this place has room for a message
abbrev pub IsReadyAt : {W : Type 0} → (W → WireView) → Pipes W → ℕ → Type 0
IsReadyAt shown l i = (x : PipePlace _) (w : _) → x ≡ slice_index_or l.places.items i x → x.wire ≡ Some w → (shown w).is_ready ≡ true

-- the result of asking the pipe for room
abbrev pub AskedAs : {W : Type 0} → (W → WireView) → Asked → ℕ → ℕ → Moment → Pipes W → Type 0
AskedAs shown asked.Yes i p t l = PipesStand shown l t × IsPipeAt l i p × IsReadyAt shown l i
AskedAs shown asked.Full i p t l = PipesStand shown l (also t (Full p))
AskedAs shown (asked.Down why) i p t l = (why ≢ whys.Closed) × PipesStand shown l (also t (Down p why))

-- the result of flushing the pipe
abbrev pub FlushedTo : {W : Type 0} → (W → WireView) → Flushed → ℕ → ℕ → Moment → Pipes W → Type 0
FlushedTo shown flushed.Clear i p t l = PipesStand shown l (also t (Clear p)) × IsPipeAt l i p
FlushedTo shown flushed.Stall i p t l = PipesStand shown l (also t (Stall p)) × IsPipeAt l i p
FlushedTo shown (flushed.Down why) i p t l = (why ≢ whys.Closed) × PipesStand shown l (also t (Down p why))

-- the result of pulling from the pipe
abbrev pub PulledTo : {W : Type 0} → (W → WireView) → Pulled → ℕ → ℕ → Moment → Pipes W → Type 0
PulledTo shown (pulled.Frame m) i p t l = (m.header ≡ []) × PipesStand shown l (also t (Frame p m.body)) × IsPipeAt l i p
PulledTo shown pulled.Quiet i p t l = PipesStand shown l (also t (Quiet p))
PulledTo shown (pulled.Down why) i p t l = (why ≢ whys.Closed) × PipesStand shown l (also t (Down p why))

-- the first of those that are down was taken, if there was one
abbrev pub TakenAs : {W : Type 0} → (W → WireView) → Option (DownPipe W) → Moment → Pipes W → Type 0
TakenAs shown None t l = (untaken (past t) ≡ []) × PipesStand shown l t
TakenAs shown (Some f) t l = (head_of (untaken (past t)) ≡ Some f.id) × IsDownWire t.z (past t) f.id f.why (shown f.wire) × PipesStand shown l (also t (Taken f.id))

-- there is room for one more pipe, and for all that are up and this one to go down
pub record HasRoom {W : Type 0} (l : Pipes W) : Type 0 where
  pub places : length l.places.items < deque_capacity l.places
  pub down : l.count + length l.down.items < deque_capacity l.down
  pub few : l.count + length l.down.items < 4096
  pub listed : l.count + length l.busy.items < deque_capacity l.busy

-- the list of busy pipes stays as it is, where it has this one
abbrev pub KeepsListed : {W : Type 0} → ℕ → Pipes W → Pipes W → Type 0
KeepsListed p old new = has old.busy.items p ≡ true → new.busy.items ≡ old.busy.items

-- there is room on the list for the pipe at this place
abbrev pub HasRoomOn : {W : Type 0} → ℕ → Pipes W → Type 0
HasRoomOn i l = (x : PipePlace _) → x ≡ slice_index_or l.places.items i x → x.listed ≡ false → length l.busy.items < deque_capacity l.busy

-- the pipe at this place is marked as busy, and is on the list
pub record MarksPlace {W : Type 0} (i : ℕ) (old new : Pipes W) : Type 0 where
  pub places : (x : PipePlace W) → x ≡ slice_index_or old.places.items i x → new.places.items ≡ set old.places.items i (record x { busy = true; listed = true })
  pub list : (x : PipePlace W) → x ≡ slice_index_or old.places.items i x → new.busy.items ≡ listed_on x.listed x.id old.busy.items
  pub room : deque_capacity new.busy ≡ deque_capacity old.busy
  pub down : new.down ≡ old.down
  pub count : new.count ≡ old.count

-- it is marked as not busy
pub record UnmarksPlace {W : Type 0} (i : ℕ) (old new : Pipes W) : Type 0 where
  pub places : (x : PipePlace W) → x ≡ slice_index_or old.places.items i x → new.places.items ≡ set old.places.items i (record x { busy = false })
  pub list : new.busy ≡ old.busy
  pub down : new.down ≡ old.down
  pub count : new.count ≡ old.count

-- the first number of the list, which goes on with `rest`: where its pipe is up and busy, it is now the last, and this is
-- its place; else it has left the list
abbrev pub TurnedTo : {W : Type 0} → Option (ℕ × ℕ) → ℕ → List ℕ → Moment → Pipes W → Type 0
TurnedTo None p rest t l = (l.busy.items ≡ rest) × (has (up (past t)) p ≡ true → is_busy (past t) p ≡ false)
TurnedTo (Some f) p rest t l = (f.1 ≡ p) × IsPipeAt l f.0 f.1 × (l.busy.items ≡ rest ++ f.1 ∷ []) × (is_busy (past t) f.1 ≡ true)

-- the first number of the list is taken
pub record TakesNext {W : Type 0} (shown : W → WireView) (r : Option (ℕ × ℕ)) (t : Moment) (old new : Pipes W) : Type 0 where
  pub stands : PipesStand shown new t
  pub first : ℕ
  pub rest : List ℕ
  pub was : old.busy.items ≡ first ∷ rest
  pub turned : TurnedTo r first rest t new

abbrev pub NextBusy : {W : Type 0} → (W → WireView) → Option (ℕ × ℕ) → Pipes W → Pipes W → Type 0
NextBusy shown r old new = (t : Moment) → Lawful t → PipesStand shown old t → TakesNext shown r t old new

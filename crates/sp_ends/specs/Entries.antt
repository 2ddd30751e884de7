-- Rules of a history's entries, and turns that leave something unchanged.
use Rattle.std.specs.Prelude.{◌≡◌, Bool, true, false, ◌&&◌, IsTrue, List, [], ◌∷◌, ◌++◌}
use Rattle.std.specs.List.{list_all}
use Rattle.turn_lock.specs.declared.turn.Turn.{Turn}
use Rattle.sp_history.specs.declared.entry.Entry.{Entry}
use Rattle.sp_history.specs.declared.entry.Entry.TheVariants.{Begin, Took, Tick, Ctx, Topic, Close, Up, Met, NoUp, Taken}
use Rattle.sp_history.specs.Changes.{none_of}

-- the rule holds of each entry, after those before it
abbrev pub each : (List Entry → Entry → Bool) → List Entry → Bool
each rule [] = true
each rule (e ∷ past) = rule past e && each rule past

-- the turn has a tick
abbrev pub is_tick : Entry → Bool
is_tick (Tick t due) = true
is_tick _ = false

-- the entry is of an operation, the clock, a topic, a context or the close
abbrev pub moves_calls : Entry → Bool
moves_calls (Begin op k c act d) = true
moves_calls (Took op k) = true
moves_calls (Tick t due) = true
moves_calls (Topic c t switch) = true
moves_calls (Ctx c gate) = true
moves_calls (Close totals) = true
moves_calls _ = false

-- by the entry a link is handed out, comes up, is missed or is taken, or the moment comes
abbrev pub moves_ends : Entry → Bool
moves_ends (Up p place limit name) = true
moves_ends (Met place) = true
moves_ends (NoUp place miss) = true
moves_ends (Taken p) = true
moves_ends (Tick t due) = true
moves_ends _ = false

-- the history has further turns, and none of their entries is one of these
abbrev pub AddsNone : (Entry → Bool) → List (Turn Entry) → List (Turn Entry) → Type 0
AddsNone moves h h' = (turns : List (Turn Entry)) × (h' ≡ h ++ turns) × IsTrue (list_all (λ (t : Turn Entry). none_of moves t.entries) turns)

-- Settling entries move no play and no link.
use Rattle.std.proofs.Common.{◌≡◌, refl, List, [], ◌∷◌, ◌++◌, Bool, true, false}
use Rattle.std.specs.Prelude.{not, ◌&&◌}
use Rattle.sp_history.specs.declared.entry.Entry.{Entry}
use Rattle.sp_history.specs.declared.entry.Entry.TheVariants.{Down, Out, Full, End, Dry}
use Rattle.sp_history.specs.Changes.{none_of}
use Rattle.sp_core.specs.Moving.{IsSettling, AreSettling}
use Rattle.sp_ends.specs.Entries.{moves_calls, moves_ends}

pub none_settling : (f : Entry → Bool) → ((e : Entry) → IsSettling e → f e ≡ false) → (es : List Entry) → AreSettling es → none_of f es ≡ true
none_settling f step [] h = refl
none_settling f step (e ∷ es) (s, h) = rw (step e s) (none_settling f step es h)

play_step : (e : Entry) → IsSettling e → moves_calls e ≡ false
play_step (Down p why) h = refl
play_step (Out p b) h = refl
play_step (Full p) h = refl
play_step (End op ending) h = refl
play_step (Dry c) h = refl
play_step _ h = elim h [ ]

pub settling_silent : (es : List Entry) → AreSettling es → none_of moves_calls es ≡ true
settling_silent = none_settling moves_calls play_step

pub ends_step : (e : Entry) → IsSettling e → moves_ends e ≡ false
ends_step (Down p why) h = refl
ends_step (Out p b) h = refl
ends_step (Full p) h = refl
ends_step (End op ending) h = refl
ends_step (Dry c) h = refl
ends_step _ h = elim h [ ]

pub settling_linkless : (es : List Entry) → AreSettling es → none_of moves_ends es ≡ true
settling_linkless = none_settling moves_ends ends_step

-- none before, none in the middle and none after
pub none_around : (f : Entry → Bool) (early : List Entry) (e : Entry) (late : List Entry) → none_of f early ≡ true → f e ≡ false → none_of f late ≡ true → none_of f (early ++ e ∷ late) ≡ true
none_around f [] e late a b c = rw (b, c) refl
none_around f (x ∷ early) e late a b c = go (f x) a (none_around f early e late)
  where
    go : (y : Bool) → (not y && none_of f early) ≡ true → (none_of f early ≡ true → f e ≡ false → none_of f late ≡ true → none_of f (early ++ e ∷ late) ≡ true) → (not y && none_of f (early ++ e ∷ late)) ≡ true
    go true h again = cc
    go false h again = again h b c

-- What later entries leave unchanged.
use Rattle.std.proofs.Common.{◌≡◌, refl, ap, sym, ◌∙◌, subst, List, [], ◌∷◌, ◌++◌, ℕ, ◌+◌, ◌≤◌, Bool, true, false, cond, arith, length, Some, inl, inr, length-append}
use Rattle.std.specs.Prelude.{◌==◌, not, ◌||◌, ◌⊎◌, IsTrue, filter}
use Rattle.std.specs.List.{list_any, list_all}
use Rattle.std.proofs.lemmas.Bool.Decides.{nat_tests}
use Rattle.turn_lock.specs.declared.turn.Turn.{Turn}
use Rattle.sp_history.specs.declared.entry.Entry.{Entry}
use Rattle.sp_history.specs.declared.entry.Entry.TheVariants.{Up, Met, NoUp, Down, Taken, Tick, Frame, Quiet}
use Rattle.sp_history.specs.declared.setting.Setting.{Setting}
use Rattle.sp_history.specs.Changes.{none_of}
use Rattle.sp_history.specs.Lists.{has, without}
use Rattle.sp_history.specs.Legal.{AreAllowed, last_is_malformed}
use Rattle.sp_history.specs.Past.{onto, past_from, past_of, up, ups, untaken, frames, quiets}
use Rattle.sp_history.specs.Swept.{is_quiet, frame_count}
use Rattle.sp_history.specs.Found.{ticks}
use Rattle.sp_ends.specs.Entries.{each}
use Rattle.sp_ends.specs.LinkRecords.{place_of, Each}
use Rattle.sp_ends.specs.LinkCounts.{is_idle_turn, idle_turns}
use Rattle.sp_ends.proofs.LinkPlaces.{left_of, right_of, has_append}

-- ---- Histories

pub past_of_more : (past : List Entry) (h turns : List (Turn Entry)) → past_from past (h ++ turns) ≡ past_from (past_from past h) turns
past_of_more past [] turns = refl
past_of_more past (t ∷ h) turns = past_of_more (onto t.entries past) h turns

abbrev pub NoneIn : (Entry → Bool) → List (Turn Entry) → Type 0
NoneIn moves turns = IsTrue (list_all (λ (t : Turn Entry). none_of moves t.entries) turns)

is_none : (b : Bool) → not b ≡ true → b ≡ false
is_none true h = cc
is_none false h = refl

-- ---- Values

module _ {A : Type 0} (moves : Entry → Bool) (f : List Entry → A) (step : (e : Entry) (past : List Entry) → moves e ≡ false → f (e ∷ past) ≡ f past) where
  pub entries_leave : (entries past : List Entry) → none_of moves entries ≡ true → f (onto entries past) ≡ f past
  entries_leave [] past h = refl
  entries_leave (e ∷ entries) past h = entries_leave entries (e ∷ past) (right_of _ _ h) ∙ step e past (is_none (moves e) (left_of _ _ h))

  pub turns_leave : (turns : List (Turn Entry)) (past : List Entry) → NoneIn moves turns → f (past_from past turns) ≡ f past
  turns_leave [] past h = refl
  turns_leave (t ∷ turns) past h = turns_leave turns (onto t.entries past) (right_of _ _ h) ∙ entries_leave t.entries past (left_of _ _ h)

-- ---- Facts

module _ (moves : Entry → Bool) (Fact : List Entry → Type 0) (step : (e : Entry) (past : List Entry) → moves e ≡ false → Fact past → Fact (e ∷ past)) where
  pub entries_keep : (entries past : List Entry) → none_of moves entries ≡ true → Fact past → Fact (onto entries past)
  entries_keep [] past h x = x
  entries_keep (e ∷ entries) past h x = entries_keep entries (e ∷ past) (right_of _ _ h) (step e past (is_none (moves e) (left_of _ _ h)) x)

  pub turns_keep : (turns : List (Turn Entry)) (past : List Entry) → NoneIn moves turns → Fact past → Fact (past_from past turns)
  turns_keep [] past h x = x
  turns_keep (t ∷ turns) past h x = turns_keep turns (onto t.entries past) (right_of _ _ h) (entries_keep t.entries past (left_of _ _ h) x)

-- ---- Which entries move links

-- by the entry a link is handed out, comes up, is missed or is taken
abbrev pub moves_links : Entry → Bool
moves_links (Up p place limit name) = true
moves_links (Met place) = true
moves_links (NoUp place miss) = true
moves_links (Taken p) = true
moves_links _ = false

-- ---- Pipes that are down

pub has_other : (xs : List ℕ) (q p : ℕ) → (q == p) ≡ false → has (without xs q) p ≡ has xs p
has_other [] q p n = refl
has_other (m ∷ xs) q p n = go (m == q) refl (has_other xs q p n)
  where
    unlike : m ≡ q → (m == p) ≡ false
    unlike same = subst (λ (k : ℕ). (k == p) ≡ false) (sym same) n

    go : (out : Bool) → (m == q) ≡ out → has (without xs q) p ≡ has xs p → has (cond (not out) (m ∷ without xs q) (without xs q)) p ≡ has (m ∷ xs) p
    go true e same = let alike : m ≡ q = grind (arith, nat_tests) in same ∙ rw (unlike alike) refl
    go false e same = ap (λ (b : Bool). (m == p) || b) same

-- a pipe that is not taken yet, up or down
abbrev pub IsHeld : List Entry → ℕ → Type 0
IsHeld past p = IsTrue (has (up past) p) ⊎ IsTrue (has (untaken past) p)

pub or_true : (a : Bool) → (a || true) ≡ true
or_true true = refl
or_true false = refl

pub grown : (xs : List ℕ) (q p : ℕ) → has xs p ≡ true → has (xs ++ q ∷ []) p ≡ true
grown xs q p h = has_append xs (q ∷ []) p ∙ rw h refl

grown_by : (xs : List ℕ) (q p : ℕ) → (q == p) ≡ true → has (xs ++ q ∷ []) p ≡ true
grown_by xs q p h = has_append xs (q ∷ []) p ∙ (rw h (or_true (has xs p)))

pub held_on : (p : ℕ) (e : Entry) (past : List Entry) → moves_links e ≡ false → IsHeld past p → IsHeld (e ∷ past) p
held_on p (Up q place limit name) past h x = cc
held_on p (Taken q) past h x = cc
held_on p (Down q why) past h (inl x) = go (q == p) refl
  where
    go : (b : Bool) → (q == p) ≡ b → IsHeld (Down q why ∷ past) p
    go true e = inr (grown_by (untaken past) q p e)
    go false e = inl (has_other (up past) q p e ∙ x)
held_on p (Down q why) past h (inr x) = inr (grown (untaken past) q p x)
held_on p _ past h x = x

-- a pipe that came up has one of the numbers so far
pub numbered : (z : Setting) (past : List Entry) (p place : ℕ) → AreAllowed z past → place_of past p ≡ Some place → p ≤ ups past
numbered z [] p place a h = cc
numbered z (Up q other limit name ∷ past) p place a h = go (q == p) refl h (numbered z past p place a.1)
  where
    first : q ≡ ups past + 1
    first = a.0.1.itself.0

    go : (b : Bool) → (q == p) ≡ b → cond b (Some other) (place_of past p) ≡ Some place → (place_of past p ≡ Some place → p ≤ ups past) → p ≤ ups past + 1
    go true e n before = let same : q ≡ p = grind (arith, nat_tests) in omega (arith, first)
    go false e n before = let l = before n in omega arith
numbered z (_ ∷ past) p place a h = numbered z past p place a.1 h

-- ---- Frames

frames_grow : (p : ℕ) (entries past : List Entry) → length (frames past p) ≤ length (frames (onto entries past) p)
frames_grow p [] past = omega arith
frames_grow p (Frame q b ∷ entries) past = go (q == p) (frames_grow p entries (Frame q b ∷ past))
  where
    go : (t : Bool) → length (cond t (frames past p ++ b ∷ []) (frames past p)) ≤ length (frames (onto entries (Frame q b ∷ past)) p) → length (frames past p) ≤ length (frames (onto entries (Frame q b ∷ past)) p)
    go true l = omega (arith, l, length-append (frames past p) (b ∷ []))
    go false l = l
frames_grow p (e ∷ entries) past = frames_grow p entries (e ∷ past)

frames_grow_in : (p : ℕ) (turns : List (Turn Entry)) (past : List Entry) → length (frames past p) ≤ length (frames (past_from past turns) p)
frames_grow_in p [] past = omega arith
frames_grow_in p (t ∷ turns) past =
    let a = frames_grow p t.entries past in let b = frames_grow_in p turns (onto t.entries past) in omega arith

malformed_next : (z : Setting) (p : ℕ) (entries past : List Entry) → length (frames (onto entries past) p) ≤ length (frames past p) → last_is_malformed z (onto entries past) p ≡ last_is_malformed z past p
malformed_next z p [] past h = refl
malformed_next z p (Frame q b ∷ entries) past h = go (q == p) refl (frames_grow p entries (Frame q b ∷ past)) (malformed_next z p entries (Frame q b ∷ past))
  where
    Later : List (List ℕ) → Type 0
    Later fs = length fs ≤ length (frames (onto entries (Frame q b ∷ past)) p)

    go : (t : Bool) → (q == p) ≡ t → Later (cond t (frames past p ++ b ∷ []) (frames past p)) → (length (frames (onto entries (Frame q b ∷ past)) p) ≤ length (frames (Frame q b ∷ past) p) → last_is_malformed z (onto entries (Frame q b ∷ past)) p ≡ last_is_malformed z (Frame q b ∷ past) p)
        → last_is_malformed z (onto entries (Frame q b ∷ past)) p ≡ last_is_malformed z past p
    go true e l before = absurd (omega (arith, l, h, length-append (frames past p) (b ∷ [])))
    go false e l before =
        let same : frames (Frame q b ∷ past) p ≡ frames past p = rw e refl in
        let is : last_is_malformed z (Frame q b ∷ past) p ≡ last_is_malformed z past p = rw e refl in before (subst (λ (fs : List (List ℕ)). length (frames (onto entries (Frame q b ∷ past)) p) ≤ length fs) (sym same) h) ∙ is
malformed_next z p (e ∷ entries) past h = malformed_next z p entries (e ∷ past) h

-- where no frame came, the last one is the same
pub malformed_same : (z : Setting) (p : ℕ) (turns : List (Turn Entry)) (past : List Entry) → frames (past_from past turns) p ≡ frames past p → last_is_malformed z (past_from past turns) p ≡ last_is_malformed z past p
malformed_same z p turns past h = go turns past (let l : length (frames (past_from past turns) p) ≡ length (frames past p) = ap length h in omega arith)
  where
    go : (turns : List (Turn Entry)) (past : List Entry) → length (frames (past_from past turns) p) ≤ length (frames past p) → last_is_malformed z (past_from past turns) p ≡ last_is_malformed z past p
    go [] past l = refl
    go (t ∷ turns) past l =
        let a = frames_grow p t.entries past in
        let b = frames_grow_in p turns (onto t.entries past) in go turns (onto t.entries past) (omega arith) ∙ malformed_next z p t.entries past (omega arith)

-- ---- Quiet turns

quiet_entries : (p : ℕ) (entries past : List Entry) → quiets past p ≤ quiets (onto entries past) p
quiet_entries p [] past = omega arith
quiet_entries p (Quiet q ∷ entries) past = go (q == p) (quiet_entries p entries (Quiet q ∷ past))
  where
    go : (t : Bool) → cond t (quiets past p + 1) (quiets past p) ≤ quiets (onto entries (Quiet q ∷ past)) p → quiets past p ≤ quiets (onto entries (Quiet q ∷ past)) p
    go true l = omega arith
    go false l = l
quiet_entries p (e ∷ entries) past = quiet_entries p entries (e ∷ past)

one_quiet : (p : ℕ) (entries past : List Entry) → list_any (is_quiet p) entries ≡ true → quiets past p + 1 ≤ quiets (onto entries past) p
one_quiet p [] past h = cc
one_quiet p (Quiet q ∷ entries) past h = go (q == p) refl h (quiet_entries p entries (Quiet q ∷ past)) (one_quiet p entries (Quiet q ∷ past))
  where
    go : (t : Bool) → (q == p) ≡ t → (t || list_any (is_quiet p) entries) ≡ true → cond t (quiets past p + 1) (quiets past p) ≤ quiets (onto entries (Quiet q ∷ past)) p → (list_any (is_quiet p) entries ≡ true → cond (q == p) (quiets past p + 1) (quiets past p) + 1 ≤ quiets (onto entries (Quiet q ∷ past)) p) → quiets past p + 1 ≤ quiets (onto entries (Quiet q ∷ past)) p
    go true e n l before = l
    go false e n l before = let b : cond (q == p) (quiets past p + 1) (quiets past p) + 1 ≤ quiets (onto entries (Quiet q ∷ past)) p = before n in rw e at b
one_quiet p (e ∷ entries) past h = one_quiet p entries (e ∷ past) h

pub idle_more : (p : ℕ) (turns : List (Turn Entry)) (past : List Entry) → idle_turns turns p + quiets past p ≤ quiets (past_from past turns) p
idle_more p [] past = omega arith
idle_more p (t ∷ turns) past = go (is_idle_turn p t) refl (idle_more p turns (onto t.entries past)) (quiet_entries p t.entries past)
  where
    go : (b : Bool) → is_idle_turn p t ≡ b → idle_turns turns p + quiets (onto t.entries past) p ≤ quiets (past_from (onto t.entries past) turns) p → quiets past p ≤ quiets (onto t.entries past) p → length (cond b (t ∷ filter (is_idle_turn p) turns) (filter (is_idle_turn p) turns)) + quiets past p ≤ quiets (past_from (onto t.entries past) turns) p
    go true e l m = let one = one_quiet p t.entries past (left_of _ (frame_count t.entries p == 0) e) in omega (arith, one, l)
    go false e l m = omega (arith, l, m)

filter_append : (p : ℕ) (h turns : List (Turn Entry)) → idle_turns (h ++ turns) p ≡ idle_turns h p + idle_turns turns p
filter_append p [] turns = omega arith
filter_append p (t ∷ h) turns = go (is_idle_turn p t) (filter_append p h turns)
  where
    go : (b : Bool) → idle_turns (h ++ turns) p ≡ idle_turns h p + idle_turns turns p → length (cond b (t ∷ filter (is_idle_turn p) (h ++ turns)) (filter (is_idle_turn p) (h ++ turns))) ≡ length (cond b (t ∷ filter (is_idle_turn p) h) (filter (is_idle_turn p) h)) + idle_turns turns p
    go true e = omega (arith, e)
    go false e = e

-- where the pipe was found empty no more often, no further turn is idle
pub idle_same : (p : ℕ) (h turns : List (Turn Entry)) → quiets (past_of (h ++ turns)) p ≡ quiets (past_of h) p → idle_turns (h ++ turns) p ≡ idle_turns h p
idle_same p h turns e =
    let a = idle_more p turns (past_of h) in
    let b = filter_append p h turns in
    let c : quiets (past_from (past_of h) turns) p ≡ quiets (past_of h) p = ap (λ (past : List Entry). quiets past p) (sym (past_of_more [] h turns)) ∙ e in omega arith

-- ---- Ticks

ticks_next : (e : Entry) (past : List Entry) → length (ticks past) ≤ length (ticks (e ∷ past))
ticks_next (Tick t due) past = omega (arith, length-append (ticks past) (t ∷ []))
ticks_next _ past = omega arith

ticks_onto : (entries past : List Entry) → length (ticks past) ≤ length (ticks (onto entries past))
ticks_onto [] past = omega arith
ticks_onto (e ∷ entries) past =
    let a = ticks_next e past in let b = ticks_onto entries (e ∷ past) in omega arith

pub ticks_grow : (turns : List (Turn Entry)) (past : List Entry) → length (ticks past) ≤ length (ticks (past_from past turns))
ticks_grow [] past = omega arith
ticks_grow (t ∷ turns) past =
    let a = ticks_onto t.entries past in let b = ticks_grow turns (onto t.entries past) in omega arith

-- ---- Rules

pub each_goes_on : (moves : Entry → Bool) (rule : List Entry → Entry → Bool) (free : (past : List Entry) (e : Entry) → moves e ≡ false → rule past e ≡ true) (turns : List (Turn Entry)) (past : List Entry) → NoneIn moves turns → IsTrue (each rule past) → IsTrue (each rule (past_from past turns))
each_goes_on moves rule free turns past none x =
    turns_keep moves (λ (p : List Entry). IsTrue (each rule p)) (λ e p h y. rw (free p e h) y) turns past none x

pub all_goes_on : (moves : Entry → Bool) (Rule : List Entry → Entry → Type 0) (free : (past : List Entry) (e : Entry) → moves e ≡ false → Rule past e) (turns : List (Turn Entry)) (past : List Entry) → NoneIn moves turns → Each Rule past → Each Rule (past_from past turns)
all_goes_on moves Rule free turns past none x =
    turns_keep moves (λ (p : List Entry). Each Rule p) (λ e p h y. (free p e h, y)) turns past none x

pub each_mapped : (Rule Other : List Entry → Entry → Type 0) → ((past : List Entry) (e : Entry) → Rule past e → Other past e) → (past : List Entry) → Each Rule past → Each Other past
each_mapped Rule Other f [] x = tt
each_mapped Rule Other f (e ∷ past) x = (f past e x.0, each_mapped Rule Other f past x.1)

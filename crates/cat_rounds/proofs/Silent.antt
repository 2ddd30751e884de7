-- What turns without an entry that a rule concerns leave of a play.
use Rattle.std.proofs.Common.{◌≡◌, refl, ap, sym, ◌∙◌, subst, List, [], ◌∷◌, ◌++◌, Bool, true, false, append_assoc}
use Rattle.std.specs.Prelude.{◌&&◌, ◌||◌, reverse, IsTrue}
use Rattle.std.specs.List.{list_all}
use Rattle.turn_lock.specs.declared.turn.Turn.{Turn}
use Rattle.sp_base.specs.declared.OpName.{OpName}
use Rattle.sp_history.specs.declared.entry.Entry.{Entry}
use Rattle.sp_history.specs.declared.entry.Entry.TheVariants.{Begin, Took, Tick, Close}
use Rattle.sp_history.specs.declared.setting.Setting.{Setting}
use Rattle.sp_history.specs.Changes.{none_of}
use Rattle.sp_history.specs.Once.{took_count}
use Rattle.sp_history.specs.Past.{onto, past_of, is_closed, now, caller_of}
use Rattle.sp_history.specs.Swept.{IsSwept}
use Rattle.sp_history.proofs.Appending.{past_of-append}
use Rattle.cat_play.specs.Plans.{Play}
use Rattle.cat_play.specs.Scripts.{has_ticked, last_send}
use Rattle.cat_play.specs.Playing.{PlaysSoFar, was_swept, is_swept, has_tick, past_under}
use Rattle.sp_ends.specs.Entries.{is_tick}
use Rattle.sp_ends.specs.Entries.{moves_calls, AddsNone}
use Rattle.cat_play.proofs.Stepping.{stays, goes_on, under_is, reverse_more}
use Rattle.cat_play.proofs.OneEntryTurns.{silent_turn, silent_tick, none_any}

-- ---- Turns one by one

pub append_nil : {A : Type 0} (xs : List A) → xs ++ [] ≡ xs
append_nil [] = refl
append_nil (x ∷ xs) = ap (λ ys. x ∷ ys) (append_nil xs)

first_of : (a b : Bool) → (a && b) ≡ true → a ≡ true
first_of true b h = refl
first_of false b h = cc

rest_of : (a b : Bool) → (a && b) ≡ true → b ≡ true
rest_of true b h = h
rest_of false b h = cc

-- what each such turn keeps, all of them keep
pub keeps_all : (moves : Entry → Bool) (P : List (Turn Entry) → Type 0) → ((h : List (Turn Entry)) (t : Turn Entry) → none_of moves t.entries ≡ true → P h → P (h ++ t ∷ []))
    → (h h' : List (Turn Entry)) → AddsNone moves h h' → P h → P h'
keeps_all moves P step h h' (turns, is, none) p = subst P (sym is) (go h turns none p)
  where
    go : (g turns : List (Turn Entry)) → IsTrue (list_all (λ (t : Turn Entry). none_of moves t.entries) turns) → P g → P (g ++ turns)
    go g [] none p = subst P (sym (append_nil g)) p
    go g (t ∷ turns) none p =
        subst P (append_assoc g (t ∷ []) turns) (go (g ++ t ∷ []) turns (rest_of (none_of moves t.entries) _ none) (step g t (first_of (none_of moves t.entries) _ none) p))

-- no further turn, one turn, and more after more
pub adds_nothing : (moves : Entry → Bool) (h : List (Turn Entry)) → AddsNone moves h h
adds_nothing moves h = ([], sym (append_nil h), refl)

pub adds_one : (moves : Entry → Bool) (h : List (Turn Entry)) (t : Turn Entry) → none_of moves t.entries ≡ true → AddsNone moves h (h ++ t ∷ [])
adds_one moves h t none = (t ∷ [], refl, rw none refl)

pub adds_then : (moves : Entry → Bool) (a b c : List (Turn Entry)) → AddsNone moves a b → AddsNone moves b c → AddsNone moves a c
adds_then moves a b c (xs, is, none) (ys, also, none_too) =
    (xs ++ ys, also ∙ (ap (λ h. h ++ ys) is ∙ append_assoc a xs ys), all_append xs ys none none_too)
  where
    all_append : (xs ys : List (Turn Entry)) → IsTrue (list_all (λ (t : Turn Entry). none_of moves t.entries) xs) → IsTrue (list_all (λ (t : Turn Entry). none_of moves t.entries) ys)
        → IsTrue (list_all (λ (t : Turn Entry). none_of moves t.entries) (xs ++ ys))
    all_append [] ys n m = m
    all_append (x ∷ xs) ys n m =
        rw (first_of (none_of moves x.entries) _ n) (all_append xs ys (rest_of (none_of moves x.entries) _ n) m)

-- ---- What silent entries leave

last_send_step : (e : Entry) (past : List Entry) → moves_calls e ≡ false → last_send (e ∷ past) ≡ last_send past
last_send_step (Begin op k c act d) past h = cc
last_send_step _ past h = refl

pub last_send_stays : (entries past : List Entry) → none_of moves_calls entries ≡ true → last_send (onto entries past) ≡ last_send past
last_send_stays = stays last_send last_send_step

ticked_step : (e : Entry) (past : List Entry) → moves_calls e ≡ false → has_ticked (e ∷ past) ≡ has_ticked past
ticked_step (Tick t due) past h = cc
ticked_step _ past h = refl

pub ticked_stays : (entries past : List Entry) → none_of moves_calls entries ≡ true → has_ticked (onto entries past) ≡ has_ticked past
ticked_stays = stays has_ticked ticked_step

now_step : (e : Entry) (past : List Entry) → moves_calls e ≡ false → now (e ∷ past) ≡ now past
now_step (Tick t due) past h = cc
now_step _ past h = refl

pub now_stays : (entries past : List Entry) → none_of moves_calls entries ≡ true → now (onto entries past) ≡ now past
now_stays = stays now now_step

closed_step : (e : Entry) (past : List Entry) → moves_calls e ≡ false → is_closed (e ∷ past) ≡ is_closed past
closed_step (Close totals) past h = cc
closed_step _ past h = refl

pub closed_stays : (entries past : List Entry) → none_of moves_calls entries ≡ true → is_closed (onto entries past) ≡ is_closed past
closed_stays = stays is_closed closed_step

caller_step : (op : OpName) (e : Entry) (past : List Entry) → moves_calls e ≡ false → caller_of (e ∷ past) op ≡ caller_of past op
caller_step op (Begin other k c act d) past h = cc
caller_step op _ past h = refl

pub caller_stays : (op : OpName) (entries past : List Entry) → none_of moves_calls entries ≡ true → caller_of (onto entries past) op ≡ caller_of past op
caller_stays op = stays (λ past. caller_of past op) (caller_step op)

took_step : (op : OpName) (e : Entry) (past : List Entry) → moves_calls e ≡ false → took_count (e ∷ past) op ≡ took_count past op
took_step op (Took other k) past h = cc
took_step op _ past h = refl

pub took_stays : (op : OpName) (entries past : List Entry) → none_of moves_calls entries ≡ true → took_count (onto entries past) op ≡ took_count past op
took_stays op = stays (λ past. took_count past op) (took_step op)

-- ---- One turn

pub so_far_stays : (z : Setting) (play : Play) (h : List (Turn Entry)) (t : Turn Entry) → is_closed (past_of h) ≡ false → none_of moves_calls t.entries ≡ true → PlaysSoFar z play h → PlaysSoFar z play (h ++ t ∷ [])
so_far_stays z play h t open_ none was = goes_on z play h t open_ was (silent_turn z play h t none)

no_tick_in : (t : Turn Entry) → none_of moves_calls t.entries ≡ true → has_tick t ≡ false
no_tick_in t none = none_any is_tick silent_tick t.entries none

or_true : (b : Bool) → (b || true) ≡ true
or_true true = refl
or_true false = refl

-- since the last tick each pipe was read
pub swept_stays : (z : Setting) (h : List (Turn Entry)) (t : Turn Entry) → has_tick t ≡ false → was_swept z (reverse h) ≡ true → was_swept z (reverse (h ++ t ∷ [])) ≡ true
swept_stays z h t none was = rw (reverse_more h t, none, was) (or_true (is_swept z (past_under (reverse h)) t))

pub serve_sweeps : (z : Setting) (h : List (Turn Entry)) (t : Turn Entry) → has_tick t ≡ false → IsSwept z (past_of h) t → was_swept z (reverse (h ++ t ∷ [])) ≡ true
serve_sweeps z h t none swept = rw (reverse_more h t, none, under_is h, swept) refl

-- where there was a tick
abbrev pub WasServed : Setting → List (Turn Entry) → Type 0
WasServed z h = has_ticked (past_of h) ≡ true → was_swept z (reverse h) ≡ true

pub served_stays : (z : Setting) (h : List (Turn Entry)) (t : Turn Entry) → none_of moves_calls t.entries ≡ true → WasServed z h → WasServed z (h ++ t ∷ [])
served_stays z h t none was ticked =
    swept_stays z h t (no_tick_in t none) (was (sym (ap has_ticked (past_of-append h t) ∙ ticked_stays t.entries (past_of h) none) ∙ ticked))

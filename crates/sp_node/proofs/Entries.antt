-- What entries leave of a history, and turns one by one.
use Rattle.std.proofs.Common.{◌≡◌, refl, ap, sym, subst, List, [], ◌∷◌, ◌++◌, Bool, true, false, append_assoc}
use Rattle.std.specs.Prelude.{◌&&◌, not, IsTrue}
use Rattle.std.specs.List.{list_all}
use Rattle.turn_lock.specs.declared.turn.Turn.{Turn}
use Rattle.sp_base.specs.declared.OpName.{OpName}
use Rattle.sp_history.specs.declared.entry.Entry.{Entry}
use Rattle.sp_history.specs.declared.entry.Entry.TheVariants.{Begin, Took, Tick, Close, Down, Out, Full, End, Dry}
use Rattle.sp_history.specs.declared.setting.Setting.{Setting}
use Rattle.sp_history.specs.Changes.{none_of}
use Rattle.sp_history.specs.Once.{took_count}
use Rattle.sp_history.specs.Past.{onto, is_closed, now, caller_of}
use Rattle.sp_core.specs.Moving.{IsSettling, AreSettling}
use Rattle.sp_socket.specs.Singles.{SingleView, TookOne, IsSound}
use Rattle.sp_ends.specs.Entries.{AddsNone, moves_calls}
use Rattle.sp_ends.proofs.LaterEntries.{entries_leave}

-- ---- Turns one by one

pub append_nil : {A : Type 0} (xs : List A) → xs ++ [] ≡ xs
append_nil [] = refl
append_nil (x ∷ xs) = ap (λ ys. x ∷ ys) (append_nil xs)

first_of : (a b : Bool) → (a && b) ≡ true → a ≡ true
first_of true b h = refl
first_of false b h = cc

rest_of : (a b : Bool) → (a && b) ≡ true → b ≡ true
rest_of true b h = h
rest_of false b h = cc

-- what each such turn keeps, all of them keep
pub keeps_all : (moves : Entry → Bool) (P : List (Turn Entry) → Type 0) → ((h : List (Turn Entry)) (t : Turn Entry) → none_of moves t.entries ≡ true → P h → P (h ++ t ∷ []))
    → (h h' : List (Turn Entry)) → AddsNone moves h h' → P h → P h'
keeps_all moves P step h h' (turns, is, none) p = subst P (sym is) (go h turns none p)
  where
    go : (g turns : List (Turn Entry)) → IsTrue (list_all (λ (t : Turn Entry). none_of moves t.entries) turns) → P g → P (g ++ turns)
    go g [] none p = subst P (sym (append_nil g)) p
    go g (t ∷ turns) none p =
        subst P (append_assoc g (t ∷ []) turns) (go (g ++ t ∷ []) turns (rest_of (none_of moves t.entries) _ none) (step g t (first_of (none_of moves t.entries) _ none) p))

pub adds_one : (moves : Entry → Bool) (h : List (Turn Entry)) (t : Turn Entry) → none_of moves t.entries ≡ true → AddsNone moves h (h ++ t ∷ [])
adds_one moves h t none = (t ∷ [], refl, rw none refl)

-- ---- What settling records

pub none_settling : (f : Entry → Bool) → ((e : Entry) → IsSettling e → f e ≡ false) → (es : List Entry) → AreSettling es → none_of f es ≡ true
none_settling f step [] h = refl
none_settling f step (e ∷ es) (s, h) = rw (step e s) (none_settling f step es h)

call_step : (e : Entry) → IsSettling e → moves_calls e ≡ false
call_step (Down p why) h = refl
call_step (Out p b) h = refl
call_step (Full p) h = refl
call_step (End op ending) h = refl
call_step (Dry c) h = refl
call_step _ h = elim h [ ]

pub settling_silent : (es : List Entry) → AreSettling es → none_of moves_calls es ≡ true
settling_silent = none_settling moves_calls call_step

-- none before, none in the middle and none after
pub none_around : (f : Entry → Bool) (early : List Entry) (e : Entry) (late : List Entry) → none_of f early ≡ true → f e ≡ false → none_of f late ≡ true → none_of f (early ++ e ∷ late) ≡ true
none_around f [] e late a b c = rw (b, c) refl
none_around f (x ∷ early) e late a b c = go (f x) a (none_around f early e late)
  where
    go : (y : Bool) → (not y && none_of f early) ≡ true → (none_of f early ≡ true → f e ≡ false → none_of f late ≡ true → none_of f (early ++ e ∷ late) ≡ true) → (not y && none_of f (early ++ e ∷ late)) ≡ true
    go true h again = cc
    go false h again = again h b c

-- ---- What entries leave that are of no call

now_step : (e : Entry) (past : List Entry) → moves_calls e ≡ false → now (e ∷ past) ≡ now past
now_step (Tick t due) past h = cc
now_step _ past h = refl

pub now_stays : (entries past : List Entry) → none_of moves_calls entries ≡ true → now (onto entries past) ≡ now past
now_stays = entries_leave moves_calls now now_step

closed_step : (e : Entry) (past : List Entry) → moves_calls e ≡ false → is_closed (e ∷ past) ≡ is_closed past
closed_step (Close totals) past h = cc
closed_step _ past h = refl

pub closed_stays : (entries past : List Entry) → none_of moves_calls entries ≡ true → is_closed (onto entries past) ≡ is_closed past
closed_stays = entries_leave moves_calls is_closed closed_step

caller_step : (op : OpName) (e : Entry) (past : List Entry) → moves_calls e ≡ false → caller_of (e ∷ past) op ≡ caller_of past op
caller_step op (Begin other k c act d) past h = cc
caller_step op _ past h = refl

pub caller_stays : (op : OpName) (entries past : List Entry) → none_of moves_calls entries ≡ true → caller_of (onto entries past) op ≡ caller_of past op
caller_stays op = entries_leave moves_calls (λ past. caller_of past op) (caller_step op)

took_step : (op : OpName) (e : Entry) (past : List Entry) → moves_calls e ≡ false → took_count (e ∷ past) op ≡ took_count past op
took_step op (Took other k) past h = cc
took_step op _ past h = refl

pub took_stays : (op : OpName) (entries past : List Entry) → none_of moves_calls entries ≡ true → took_count (onto entries past) op ≡ took_count past op
took_stays op = entries_leave moves_calls (λ past. took_count past op) (took_step op)

-- ---- A turn of a single caller

-- what is said of the history and the setting, is said of the socket
pub at_new : {says : Setting → List (Turn Entry) → Turn Entry → Type 0} (s s' : SingleView) (took : TookOne says s s') (P : Setting → List (Turn Entry) → Type 0) → P s.setting (s.seen ++ took.turn ∷ []) → P s'.setting s'.seen
at_new s s' took P p = subst (λ (z : Setting). P z s'.seen) (sym took.setting) (subst (λ (h : List (Turn Entry)). P s.setting h) (sym took.seen) p)

pub sound_new : {says : Setting → List (Turn Entry) → Turn Entry → Type 0} (s s' : SingleView) (took : TookOne says s s') → IsSound s'
sound_new s s' took = record { legal = took.legal; settled = took.settled }

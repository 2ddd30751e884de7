-- What is found in a past, and words of the laws about it.
use Rattle.std.specs.Prelude.{◌≡◌, ℕ, zero, suc, ◌-◌, ◌^◌, ◌≤◌, nat_le, nat_lt, Bool, true, false, not, ◌||◌, ⊤, if◌then◌else◌, List, [], ◌∷◌, ◌++◌, Option, Some, None}
use Rattle.std.specs.List.{list_all}
use Rattle.sp_base.specs.declared.OpName.{OpName}
use Rattle.sp_history.specs.declared.entry.RecordedAct.{RecordedAct}
use Rattle.sp_history.specs.declared.entry.RecordedAct.TheVariants.{Send}
use Rattle.sp_history.specs.declared.entry.Ending.{Ending}
use Rattle.sp_history.specs.declared.entry.Entry.{Entry}
use Rattle.sp_history.specs.declared.entry.Entry.TheVariants.{Out, Begin, End, Took, Tick, Ctx, Close}
use Rattle.sp_history.specs.declared.parts.LastOut.{LastOut}
use Rattle.sp_history.specs.declared.parts.LiveRequest.{LiveRequest}
use Rattle.sp_history.specs.declared.setting.Setting.{Setting}
use Rattle.sp_history.specs.Lists.{same_op}
use Rattle.sp_history.specs.Past.{frames, outs, fulls, quiets, stalls, name_of, limit_of, last_frame, down_for, caller_of, begins}
use Rattle.sp_history.specs.Once.{took_count}
use Rattle.sp_history.specs.Legal.{is_free}

-- ---- Entries

abbrev pub is_out : Entry → Bool
is_out (Out p b) = true
is_out _ = false

abbrev pub is_begin : Entry → Bool
is_begin (Begin op k c act d) = true
is_begin _ = false

abbrev pub begins_send : Entry → Bool
begins_send (Begin op k c (Send m) d) = true
begins_send _ = false

-- the entry collects the operation
abbrev pub collects : OpName → Entry → Bool
collects op (Took other k) = same_op other op
collects op _ = false

-- the entries with which a survey begins or ends
abbrev pub moves_surveys : Entry → Bool
moves_surveys (Begin op k c (Send m) d) = true
moves_surveys (Tick t due) = true
moves_surveys (Ctx c gate) = true
moves_surveys (Close totals) = true
moves_surveys _ = false

-- ---- Operations

-- what the operation was begun to do
abbrev pub act_of : List Entry → OpName → Option RecordedAct
act_of [] op = None
act_of (Begin other k c act d ∷ past) op = if same_op other op then Some act else act_of past op
act_of (_ ∷ past) op = act_of past op

-- how it ended
abbrev pub end_of : List Entry → OpName → Option Ending
end_of [] op = None
end_of (End other ending ∷ past) op = if same_op other op then Some ending else end_of past op
end_of (_ ∷ past) op = end_of past op

-- the caller began it, and it was not collected
abbrev pub IsOpenOf : ℕ → OpName → List Entry → Type 0
IsOpenOf k op past = (caller_of past op ≡ Some k) × (took_count past op ≡ 0)

-- the numbers below n, in order
abbrev pub below : ℕ → List ℕ
below zero = []
below (suc n) = below n ++ n ∷ []

-- the slot has no operation to give: one is pending or uncollected, or its generations are used up
abbrev pub is_taken : List Entry → ℕ → Bool
is_taken past slot = not (is_free past slot) || not (nat_lt (begins past slot) (2 ^ 40 - 1))

-- no slot has, so that a begin is refused
abbrev pub has_no_slot : Setting → List Entry → Bool
has_no_slot z past = list_all (is_taken past) (below z.slots)

-- ---- Time

-- the ticks, in order
abbrev pub ticks : List Entry → List ℕ
ticks [] = []
ticks (Tick t due ∷ past) = ticks past ++ t ∷ []
ticks (_ ∷ past) = ticks past

-- the last tick, or 0
abbrev pub last_tick : List Entry → ℕ
last_tick [] = 0
last_tick (Tick t due ∷ past) = t
last_tick (_ ∷ past) = last_tick past

-- what is before the last tick
abbrev pub before_last_tick : List Entry → List Entry
before_last_tick [] = []
before_last_tick (Tick t due ∷ past) = past
before_last_tick (_ ∷ past) = before_last_tick past

-- no number of the list is less
abbrev pub IsLeast : ℕ → List ℕ → Type 0
IsLeast x [] = ⊤
IsLeast x (y ∷ ys) = (x ≤ y) × IsLeast x ys

-- each is at least as great as those before it
abbrev pub AreOrdered : List ℕ → Type 0
AreOrdered [] = ⊤
AreOrdered (x ∷ xs) = IsLeast x xs × AreOrdered xs

-- ---- Pipes

-- two pasts say the same about a pipe
pub record SameOfPipe (p : ℕ) (past more : List Entry) : Type 0 where
  pub frames : frames more p ≡ frames past p
  pub outs : outs more p ≡ outs past p
  pub fulls : fulls more p ≡ fulls past p
  pub quiets : quiets more p ≡ quiets past p
  pub stalls : stalls more p ≡ stalls past p
  pub name : name_of more p ≡ name_of past p
  pub limit : limit_of more p ≡ limit_of past p
  pub last : last_frame more p ≡ last_frame past p
  pub cause : down_for more p ≡ down_for past p

-- ---- Requests

-- the Out came by this time, if there was one
abbrev pub is_by : ℕ → Option LastOut → Bool
is_by t None = true
is_by t (Some o) = nat_le o.when t

-- the request's last Out came by this time
abbrev pub is_out_by : ℕ → LiveRequest → Bool
is_out_by t r = is_by t r.last_out

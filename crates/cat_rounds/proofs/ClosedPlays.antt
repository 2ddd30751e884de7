-- What the close, and the turns after it, leave of a play.
use Rattle.std.proofs.Common.{◌≡◌, inl, inr, refl, ap, sym, ◌∙◌, List, [], ◌∷◌, ◌++◌, ℕ, Bool, true, false, append_assoc}
use Rattle.std.specs.List.{list_any}
use Rattle.turn_lock.specs.declared.turn.Turn.{Turn}
use Rattle.sp_base.specs.declared.OpName.{OpName}
use Rattle.sp_history.specs.declared.entry.Ending.{Ending}
use Rattle.sp_history.specs.declared.entry.Ending.TheVariants.{Gone}
use Rattle.sp_history.specs.declared.entry.Why.{Why}
use Rattle.sp_history.specs.declared.entry.Why.TheVariants as whys
use Rattle.sp_history.specs.declared.entry.Entry.{Entry}
use Rattle.sp_history.specs.declared.entry.Entry.TheVariants.{Down, Stall, Clear, Begin, End, Tick, Close}
use Rattle.sp_history.specs.declared.entry.Totals.{Totals}
use Rattle.sp_history.specs.declared.parts.Begun.{Begun}
use Rattle.sp_history.specs.declared.setting.Setting.{Setting}
use Rattle.sp_history.specs.Changes.{none_of}
use Rattle.sp_history.specs.Past.{onto, past_of, pend, up, is_closed}
use Rattle.sp_history.proofs.Appending.{onto-more, past_of-append}
use Rattle.sp_core.specs.Closing.{AreEndsOf, GoesDownAs, AreDownsOf, ClosesSo, ClosedBy}
use Rattle.cat_play.specs.Plans.{Play}
use Rattle.cat_play.specs.Scripts.{open_part, counted, texts, texts_in, count_in, timed_out, timed_out_in}
use Rattle.sp_ends.specs.Entries.{is_tick}
use Rattle.cat_play.specs.Playing.{is_send, PlaysSoFar}
use Rattle.sp_ends.specs.Entries.{AddsNone, moves_calls, moves_ends}
use Rattle.cat_play.specs.Steps.{until_close}
use Rattle.cat_play.proofs.Stepping.{goes_on, none_first, none_rest, open_after, open_onto, open_is}
use Rattle.cat_play.proofs.Staying.{counted_stays, texts_stay}
use Rattle.cat_play.proofs.OneEntryTurns.{until_silent}
use Rattle.cat_play.proofs.CloseTurns.{closing_turn, goes_on_closed}
use Rattle.cat_rounds.specs.PlayerSteps.{begins_or_ticks}
use Rattle.cat_rounds.proofs.Silent.{append_nil, closed_stays, keeps_all}
use Rattle.cat_rounds.proofs.PlaysStay.{timed_stays}

-- ---- The entries of a close

none_both : (f : Entry → Bool) (a b : List Entry) → none_of f a ≡ true → none_of f b ≡ true → none_of f (a ++ b) ≡ true
none_both f [] b h k = k
none_both f (e ∷ a) b h k = rw (none_first f e a h) (none_both f a b (none_rest f e a h) k)

none_ends : (f : Entry → Bool) → ((op : OpName) (x : Ending) → f (End op x) ≡ false) → (callers : ℕ) (ss : List Begun) (es : List Entry) → AreEndsOf callers ss es → none_of f es ≡ true
none_ends f step callers [] es is = rw is refl
none_ends f step callers (s ∷ ss) es (cause, by, rest, is, may, more) =
    rw (is, step s.op (Gone cause by)) (none_ends f step callers ss rest more)

none_down : (f : Entry → Bool) → ((p : ℕ) → f (Stall p) ≡ false) → ((p : ℕ) → f (Clear p) ≡ false) → ((p : ℕ) (why : Why) → f (Down p why) ≡ false) → (p : ℕ) (es : List Entry) → GoesDownAs p es → none_of f es ≡ true
none_down f stall clear down p es (inl is) = rw (is, stall p, down p whys.Closed) refl
none_down f stall clear down p es (inr (inl is)) = rw (is, clear p, down p whys.Closed) refl
none_down f stall clear down p es (inr (inr (why, other, is))) = rw (is, down p why) refl

none_downs : (f : Entry → Bool) → ((p : ℕ) → f (Stall p) ≡ false) → ((p : ℕ) → f (Clear p) ≡ false) → ((p : ℕ) (why : Why) → f (Down p why) ≡ false) → (ps : List ℕ) (es : List Entry) → AreDownsOf ps es → none_of f es ≡ true
none_downs f stall clear down [] es is = rw is refl
none_downs f stall clear down (p ∷ ps) es (downs, rest, is, went_down, more) =
    rw is (none_both f downs rest (none_down f stall clear down p downs went_down) (none_downs f stall clear down ps rest more))

-- what comes before its Close
pub close_stands : (callers : ℕ) (past : List Entry) (t : Turn Entry) (c : ClosesSo callers past t) → t.entries ≡ (c.ends ++ c.down_entries) ++ Close c.totals ∷ []
close_stands callers past t c = c.entries ∙ sym (append_assoc c.ends c.down_entries (Close c.totals ∷ []))

pub none_before_close : (f : Entry → Bool) → ((op : OpName) (x : Ending) → f (End op x) ≡ false) → ((p : ℕ) → f (Stall p) ≡ false) → ((p : ℕ) → f (Clear p) ≡ false) → ((p : ℕ) (why : Why) → f (Down p why) ≡ false)
    → (callers : ℕ) (past : List Entry) (t : Turn Entry) (c : ClosesSo callers past t) → none_of f (c.ends ++ c.down_entries) ≡ true
none_before_close f end stall clear down callers past t c =
    none_both f c.ends c.down_entries (none_ends f end callers (pend past) c.ends c.ended) (none_downs f stall clear down (up past) c.down_entries c.gone_down)

pub silent_before_close : (callers : ℕ) (past : List Entry) (t : Turn Entry) (c : ClosesSo callers past t) → none_of moves_calls (c.ends ++ c.down_entries) ≡ true
silent_before_close = none_before_close moves_calls (λ op x. refl) (λ p. refl) (λ p. refl) (λ p why. refl)

-- none of them moves a link
pub close_linkless : (callers : ℕ) (past : List Entry) (t : Turn Entry) → ClosesSo callers past t → none_of moves_ends t.entries ≡ true
close_linkless callers past t c =
    rw (close_stands callers past t c) (none_both moves_ends (c.ends ++ c.down_entries) (Close c.totals ∷ []) (none_before_close moves_ends (λ op x. refl) (λ p. refl) (λ p. refl) (λ p why. refl) callers past t c) refl)

-- ---- Closed stays closed

pub closed_more : (e : Entry) (past : List Entry) → is_closed past ≡ true → is_closed (e ∷ past) ≡ true
closed_more (Close totals) past h = refl
closed_more _ past h = h

pub closed_onto : (es past : List Entry) → is_closed past ≡ true → is_closed (onto es past) ≡ true
closed_onto [] past h = h
closed_onto (e ∷ es) past h = closed_onto es (e ∷ past) (closed_more e past h)

-- the past after the close
pub past_closed : (callers : ℕ) (h : List (Turn Entry)) (t : Turn Entry) (c : ClosesSo callers (past_of h) t) → past_of (h ++ t ∷ []) ≡ Close c.totals ∷ onto (c.ends ++ c.down_entries) (past_of h)
past_closed callers h t c =
    past_of-append h t ∙ (ap (λ es. onto es (past_of h)) (close_stands callers (past_of h) t c) ∙ onto-more (c.ends ++ c.down_entries) (Close c.totals) (past_of h))

pub closes : (callers : ℕ) (h : List (Turn Entry)) (t : Turn Entry) → ClosesSo callers (past_of h) t → is_closed (past_of (h ++ t ∷ [])) ≡ true
closes callers h t c = ap is_closed (past_closed callers h t c)

-- ---- The turns after it

not_any : (f g : Entry → Bool) → ((e : Entry) → f e ≡ false → g e ≡ false) → (es : List Entry) → none_of f es ≡ true → list_any g es ≡ false
not_any f g step [] h = refl
not_any f g step (e ∷ es) h =
    rw (step e (none_first f e es h)) (not_any f g step es (none_rest f e es h))

no_tick : (e : Entry) → begins_or_ticks e ≡ false → is_tick e ≡ false
no_tick (Tick t due) h = cc
no_tick _ h = refl

no_send : (e : Entry) → begins_or_ticks e ≡ false → is_send e ≡ false
no_send (Begin op k c act d) h = cc
no_send _ h = refl

-- a closed history, with what held before its close
record IsBehind (z : Setting) (play : Play) (base h : List (Turn Entry)) : Type 0 where
  so_far : PlaysSoFar z play h
  closed : is_closed (past_of h) ≡ true
  same : open_part (past_of h) ≡ open_part (past_of base)

behind_more : (z : Setting) (play : Play) (base h : List (Turn Entry)) (t : Turn Entry) → none_of begins_or_ticks t.entries ≡ true → IsBehind z play base h → IsBehind z play base (h ++ t ∷ [])
behind_more z play base h t none b =
    record {
      so_far = goes_on_closed z play h t b.closed b.so_far (not_any begins_or_ticks is_tick no_tick t.entries none) (not_any begins_or_ticks is_send no_send t.entries none);
      closed = ap is_closed (past_of-append h t) ∙ closed_onto t.entries (past_of h) b.closed;
      same = ap open_part (past_of-append h t) ∙ (open_after t.entries (past_of h) b.closed ∙ b.same);
    }

-- ---- The whole

-- the play of a closed history is that of the one before
pub record IsClosedPlay (z : Setting) (play : Play) (h h' : List (Turn Entry)) : Type 0 where
  pub so_far : PlaysSoFar z play h'
  pub texts_are : texts play (past_of h') ≡ texts play (past_of h)
  pub counts : counted z play (past_of h') ≡ counted z play (past_of h)
  pub timed : (receives : Bool) → timed_out receives (past_of h') ≡ timed_out receives (past_of h)
  pub closed : is_closed (past_of h') ≡ true

pub closing_play : (z : Setting) (play : Play) (totals : Totals) (callers : ℕ) (h : List (Turn Entry)) (t : Turn Entry) (h' : List (Turn Entry)) → is_closed (past_of h) ≡ false → PlaysSoFar z play h → ClosedBy totals callers h t → AddsNone begins_or_ticks (h ++ t ∷ []) h'
    → IsClosedPlay z play h h'
closing_play z play totals callers h t h' open_ was by more =
    record {
      so_far = behind.so_far;
      texts_are = ap (texts_in play) opens ∙ texts_stay play entries (past_of h) open_ none;
      counts = ap (count_in z play) opens ∙ counted_stays z play entries (past_of h) open_ none;
      timed = λ receives. ap (timed_out_in receives) opens ∙ timed_stays receives entries (past_of h) open_ none;
      closed = behind.closed;
    }
  where
    c : ClosesSo callers (past_of h) t
    c = by.first open_

    entries : List Entry
    entries = c.ends ++ c.down_entries

    stands : t.entries ≡ entries ++ Close c.totals ∷ []
    stands = close_stands callers (past_of h) t c

    none : none_of moves_calls entries ≡ true
    none = silent_before_close callers (past_of h) t c

    base : List (Turn Entry)
    base = h ++ t ∷ []

    first : PlaysSoFar z play base
    first = goes_on z play h t open_ was (closing_turn z play h t entries c.totals stands none)

    behind : IsBehind z play base h'
    behind = keeps_all begins_or_ticks (λ g. IsBehind z play base g) (behind_more z play base) base h' more (record { so_far = first; closed = closes callers h t c; same = refl })

    -- the part before the close
    until : until_close t.entries ≡ entries
    until = ap until_close stands ∙ (until_silent entries (Close c.totals ∷ []) none ∙ append_nil entries)

    opens : open_part (past_of h') ≡ open_part (onto entries (past_of h))
    opens =
        behind.same ∙ (ap open_part (past_of-append h t) ∙ (open_onto t.entries (past_of h) open_ ∙ (ap (λ es. onto es (past_of h)) until ∙ sym (open_is (onto entries (past_of h)) (closed_stays entries (past_of h) none ∙ open_)))))

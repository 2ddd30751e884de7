-- Where all was written before the close, each pipe that the close took down had all written.
use Rattle.std.proofs.Common.{◌≡◌, inl, inr, refl, ap, sym, ◌∙◌, subst, List, [], ◌∷◌, ◌++◌, ℕ, Bool, true, false, Some}
use Rattle.std.specs.Prelude.{◌==◌, ◌||◌, ◌⊎◌, if◌then◌else◌}
use Rattle.turn_lock.specs.declared.turn.Turn.{Turn}
use Rattle.sp_base.specs.declared.OpName.{OpName}
use Rattle.sp_history.specs.declared.entry.Ending.{Ending}
use Rattle.sp_history.specs.declared.entry.Ending.TheVariants.{Gone}
use Rattle.sp_history.specs.declared.entry.Why.{Why}
use Rattle.sp_history.specs.declared.entry.Why.TheVariants as whys
use Rattle.sp_history.specs.declared.entry.Entry.{Entry}
use Rattle.sp_history.specs.declared.entry.Entry.TheVariants.{Down, Clear, Out, End, Close}
use Rattle.sp_history.specs.declared.entry.Totals.{Totals}
use Rattle.sp_history.specs.declared.parts.Begun.{Begun}
use Rattle.sp_history.specs.declared.setting.Setting.{Setting}
use Rattle.sp_history.specs.Lists.{has}
use Rattle.sp_history.specs.Past.{onto, past_from, past_of, up, pend, is_closed, is_cleared, down_for}
use Rattle.sp_history.specs.Legal.{is_closing, comes_after_close, Follows, LegalFrom, Legal}
use Rattle.sp_history.proofs.Appending.{onto-append}
use Rattle.sp_core.specs.Closing.{AreEndsOf, GoesDownAs, AreDownsOf, ClosesSo, ClosedBy}
use Rattle.sp_ends.specs.LeftLinks.{ClosedCleared}
use Rattle.sp_ends.specs.Entries.{AddsNone}
use Rattle.cat_rounds.specs.RunRounds.{AreCleared}
use Rattle.cat_rounds.proofs.ClosedPlays.{closed_more, closed_onto, closes, past_closed}

or_true : (b : Bool) → (b || true) ≡ true
or_true true = refl
or_true false = refl

-- ---- No pipe is down for the close before it

not_for_close : (why : Why) (q : ℕ) (past : List Entry) → is_closing (Down q why ∷ past) ≡ false → (Some why ≡ Some whys.Closed → ⊥) × (is_closing past ≡ false)
not_for_close whys.Ended q past h = (λ e. cc, h)
not_for_close whys.Failed q past h = (λ e. cc, h)
not_for_close whys.Malformed q past h = (λ e. cc, h)
not_for_close whys.Refusal q past h = (λ e. cc, h)
not_for_close whys.Closed q past h = cc
not_for_close whys.NoMemory q past h = (λ e. cc, h)

none_closed : (past : List Entry) (p : ℕ) → is_closed past ≡ false → is_closing past ≡ false → down_for past p ≡ Some whys.Closed → ⊥
none_closed [] p open_ calm down = cc
none_closed (Down q why ∷ past) p open_ calm down =
    let c = not_for_close why q past calm in go (q == p) c.0 (none_closed past p open_ c.1) down
  where
    go : (b : Bool) → (Some why ≡ Some whys.Closed → ⊥) → (down_for past p ≡ Some whys.Closed → ⊥) → (if b then Some why else down_for past p) ≡ Some whys.Closed → ⊥
    go true other later d = other d
    go false other later d = later d
none_closed (Close totals ∷ past) p open_ calm down = cc
none_closed (e ∷ past) p open_ calm down = none_closed past p open_ calm down

calm_between : (z : Setting) (past : List Entry) (h : List (Turn Entry)) → LegalFrom z past h → is_closing past ≡ false → is_closing (past_from past h) ≡ false
calm_between z past [] legal calm = calm
calm_between z past (t ∷ h) (turn, later) calm =
    calm_between z (onto t.entries past) h later turn.whole.calm.closed_all

-- ---- The entries of the close

ends_keep : {A : Type 0} (f : List Entry → A) → ((op : OpName) (x : Ending) (past : List Entry) → f (End op x ∷ past) ≡ f past) → (callers : ℕ) (ss : List Begun) (es past : List Entry) → AreEndsOf callers ss es → f (onto es past) ≡ f past
ends_keep f step callers [] es past is = rw is refl
ends_keep f step callers (s ∷ ss) es past (cause, by, rest, is, may, more) =
    rw is (ends_keep f step callers ss rest (End s.op (Gone cause by) ∷ past) more ∙ step s.op (Gone cause by) past)

down_here : (past : List Entry) (p : ℕ) (why : Why) (b : Bool) → (if b then Some why else down_for past p) ≡ Some whys.Closed → (b ≡ true) ⊎ (down_for past p ≡ Some whys.Closed)
down_here past p why true h = inl refl
down_here past p why false h = inr h

one_down : (q : ℕ) (es : List Entry) → GoesDownAs q es → (past : List Entry) (p : ℕ) → down_for (onto es past) p ≡ Some whys.Closed → ((q == p) ≡ true) ⊎ (down_for past p ≡ Some whys.Closed)
one_down q es (inl is) past p down =
    down_here past p whys.Closed (q == p) (subst (λ (es : List Entry). down_for (onto es past) p ≡ Some whys.Closed) is down)
one_down q es (inr (inl is)) past p down =
    down_here past p whys.Closed (q == p) (subst (λ (es : List Entry). down_for (onto es past) p ≡ Some whys.Closed) is down)
one_down q es (inr (inr (why, other, is))) past p down =
    down_here past p why (q == p) (subst (λ (es : List Entry). down_for (onto es past) p ≡ Some whys.Closed) is down)

-- a pipe that went down with them was one of these, or was down before
all_down : (ps : List ℕ) (es : List Entry) → AreDownsOf ps es → (past : List Entry) (p : ℕ) → down_for (onto es past) p ≡ Some whys.Closed → (has ps p ≡ true) ⊎ (down_for past p ≡ Some whys.Closed)
all_down [] es is past p down =
    inr (subst (λ (es : List Entry). down_for (onto es past) p ≡ Some whys.Closed) is down)
all_down (q ∷ ps) es (downs, rest, is, went_down, more) past p down =
    later (all_down ps rest more (onto downs past) p (sym (ap (λ (x : List Entry). down_for x p) (onto-append downs rest past)) ∙ subst (λ (es : List Entry). down_for (onto es past) p ≡ Some whys.Closed) is down))
  where
    here : ((q == p) ≡ true) ⊎ (down_for past p ≡ Some whys.Closed) → (has (q ∷ ps) p ≡ true) ⊎ (down_for past p ≡ Some whys.Closed)
    here (inl e) = inl (rw e refl)
    here (inr d) = inr d

    later : (has ps p ≡ true) ⊎ (down_for (onto downs past) p ≡ Some whys.Closed) → (has (q ∷ ps) p ≡ true) ⊎ (down_for past p ≡ Some whys.Closed)
    later (inl e) = inl (rw e (or_true (q == p)))
    later (inr d) = here (one_down q downs went_down past p d)

one_cleared : (q : ℕ) (es : List Entry) → GoesDownAs q es → (past : List Entry) (p : ℕ) → is_cleared past p ≡ true → is_cleared (onto es past) p ≡ true
one_cleared q es (inl is) past p h = rw is h
one_cleared q es (inr (inl is)) past p h = rw (is, h) (or_true (q == p))
one_cleared q es (inr (inr (why, other, is))) past p h = rw is h

all_cleared : (ps : List ℕ) (es : List Entry) → AreDownsOf ps es → (past : List Entry) (p : ℕ) → is_cleared past p ≡ true → is_cleared (onto es past) p ≡ true
all_cleared [] es is past p h = rw is h
all_cleared (q ∷ ps) es (downs, rest, is, went_down, more) past p h =
    rw (is, onto-append downs rest past) (all_cleared ps rest more (onto downs past) p (one_cleared q downs went_down past p h))

-- ---- The turns after it

same_onto : {A : Type 0} (f : List Entry → A) → ((e : Entry) (past : List Entry) → comes_after_close e ≡ true → f (e ∷ past) ≡ f past) → (z : Setting) (k : ℕ) (past es : List Entry) → is_closed past ≡ true → Follows z k past es → f (onto es past) ≡ f past
same_onto f step z k past [] closed legal = refl
same_onto f step z k past (e ∷ es) closed (may, later) =
    same_onto f step z k (e ∷ past) es (closed_more e past closed) later ∙ step e past (may.after_close closed)

same_behind : {A : Type 0} (f : List Entry → A) → ((e : Entry) (past : List Entry) → comes_after_close e ≡ true → f (e ∷ past) ≡ f past) → (z : Setting) (past : List Entry) (h : List (Turn Entry)) → is_closed past ≡ true → LegalFrom z past h
    → f (past_from past h) ≡ f past
same_behind f step z past [] closed legal = refl
same_behind f step z past (t ∷ h) closed (turn, later) =
    same_behind f step z (onto t.entries past) h (closed_onto t.entries past closed) later ∙ same_onto f step z t.number past t.entries closed turn.entries

down_step : (p : ℕ) (e : Entry) (past : List Entry) → comes_after_close e ≡ true → down_for (e ∷ past) p ≡ down_for past p
down_step p (Down q why) past h = cc
down_step p _ past h = refl

cleared_step : (p : ℕ) (e : Entry) (past : List Entry) → comes_after_close e ≡ true → is_cleared (e ∷ past) p ≡ is_cleared past p
cleared_step p (Clear q) past h = cc
cleared_step p (Out q b) past h = cc
cleared_step p _ past h = refl

legal_later : (z : Setting) (past : List Entry) (h turns : List (Turn Entry)) → LegalFrom z past (h ++ turns) → LegalFrom z (past_from past h) turns
legal_later z past [] turns legal = legal
legal_later z past (t ∷ h) turns (turn, later) = legal_later z (onto t.entries past) h turns later

past_later : (past : List Entry) (h turns : List (Turn Entry)) → past_from past (h ++ turns) ≡ past_from (past_from past h) turns
past_later past [] turns = refl
past_later past (t ∷ h) turns = past_later (onto t.entries past) h turns

-- ---- The whole

at_close : (z : Setting) (callers : ℕ) (h : List (Turn Entry)) (t : Turn Entry) → Legal z h → is_closed (past_of h) ≡ false → AreCleared (past_of h) → ClosesSo callers (past_of h) t → (p : ℕ) → down_for (past_of (h ++ t ∷ [])) p ≡ Some whys.Closed
    → is_cleared (past_of (h ++ t ∷ [])) p ≡ true
at_close z callers h t legal open_ cleared c p down =
    subst (λ (past : List Entry). is_cleared past p ≡ true) (sym is) (all_cleared (up (past_of h)) c.down_entries c.gone_down before p (go (all_down (up (past_of h)) c.down_entries c.gone_down before p (subst (λ (past : List Entry). down_for past p ≡ Some whys.Closed) is down))))
  where
    before : List Entry
    before = onto c.ends (past_of h)

    is : past_of (h ++ t ∷ []) ≡ Close c.totals ∷ onto c.down_entries before
    is =
        past_closed callers h t c ∙ ap (λ (past : List Entry). Close c.totals ∷ past) (onto-append c.ends c.down_entries (past_of h))

    was_cleared : is_cleared before p ≡ is_cleared (past_of h) p
    was_cleared =
        ends_keep (λ past. is_cleared past p) (λ op x past. refl) callers (pend (past_of h)) c.ends (past_of h) c.ended

    was_down : down_for before p ≡ down_for (past_of h) p
    was_down =
        ends_keep (λ past. down_for past p) (λ op x past. refl) callers (pend (past_of h)) c.ends (past_of h) c.ended

    go : (has (up (past_of h)) p ≡ true) ⊎ (down_for before p ≡ Some whys.Closed) → is_cleared before p ≡ true
    go (inl is_up) = was_cleared ∙ cleared p is_up
    go (inr d) =
        elim (none_closed (past_of h) p open_ (calm_between z [] h legal refl) (sym was_down ∙ d)) [ ]

pub closed_cleared : (z : Setting) (totals : Totals) (callers : ℕ) (moves : Entry → Bool) (h : List (Turn Entry)) (t : Turn Entry) (h' : List (Turn Entry)) → Legal z h → is_closed (past_of h) ≡ false → AreCleared (past_of h) → ClosedBy totals callers h t
    → AddsNone moves (h ++ t ∷ []) h' → Legal z h' → ClosedCleared (past_of h')
closed_cleared z totals callers moves h t h' legal open_ cleared by (turns, is, none) legal' p down =
    same_cleared ∙ at_close z callers h t legal open_ cleared c p (sym same_down ∙ down)
  where
    c : ClosesSo callers (past_of h) t
    c = by.first open_

    base : List (Turn Entry)
    base = h ++ t ∷ []

    past_is : past_of h' ≡ past_from (past_of base) turns
    past_is = ap past_of is ∙ past_later [] base turns

    later : LegalFrom z (past_of base) turns
    later = legal_later z [] base turns (subst (λ (g : List (Turn Entry)). Legal z g) is legal')

    same_cleared : is_cleared (past_of h') p ≡ is_cleared (past_of base) p
    same_cleared =
        ap (λ (past : List Entry). is_cleared past p) past_is ∙ same_behind (λ past. is_cleared past p) (cleared_step p) z (past_of base) turns (closes callers h t c) later

    same_down : down_for (past_of h') p ≡ down_for (past_of base) p
    same_down =
        ap (λ (past : List Entry). down_for past p) past_is ∙ same_behind (λ past. down_for past p) (down_step p) z (past_of base) turns (closes callers h t c) later

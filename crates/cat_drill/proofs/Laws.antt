-- What holds at the end of a drill's history.
use Rattle.std.proofs.Common.{◌≡◌, refl, ap, sym, ◌∙◌, subst, List, [], ◌∷◌, ◌++◌, ℕ, ◌+◌, ◌≤◌, Bool, true, false, cond, arith, rules, length, map, Option, Some}
use Rattle.std.specs.Prelude.{◌==◌, find, not}
use Rattle.std.proofs.lemmas.Bool.Decides.{nat_tests}
use Rattle.std.proofs.lemmas.List.{append-nil}
use Rattle.turn_lock.specs.declared.turn.Turn.{Turn}
use Rattle.sp_base.specs.declared.OpName.{OpName}
use Rattle.sp_base.specs.declared.role.Role.TheVariants.{Pull}
use Rattle.sp_history.specs.declared.entry.RecordedAct.TheVariants.{Recv, Send}
use Rattle.sp_history.specs.declared.entry.Completion.TheVariants.{Received, Sent}
use Rattle.sp_history.specs.declared.entry.Ending.TheVariants.{Won, Gone}
use Rattle.sp_history.specs.declared.entry.Entry.{Entry}
use Rattle.sp_history.specs.declared.entry.Entry.TheVariants.{Up, Frame, Unkept, Begin, End, Close}
use Rattle.sp_history.specs.declared.entry.Totals.{Totals}
use Rattle.sp_history.specs.declared.entry.RecordedMessage.{RecordedMessage}
use Rattle.sp_history.specs.declared.setting.Setting.{Setting}
use Rattle.sp_history.specs.declared.parts.Begun.{Begun}
use Rattle.sp_history.specs.Frames.{message, malformed}
use Rattle.sp_history.specs.Past.{is_of, pend, pending, without_begun, is_closed, counts, totals, up_to_most, onto, past_of, past_from, frames, name_of, ups}
use Rattle.sp_history.specs.Legal.{is_recv, comes_after_close, Allowed, Follows, LegalFrom, Legal}
use Rattle.sp_history.specs.Given.{given, arrived, frame_total, as_pull}
use Rattle.sp_history.specs.declared.entry.WireNumbers.{WireNumbers}
use Rattle.sp_core.specs.Standing.{HasFirst}
use Rattle.sp_core.specs.Closing.{closed_totals}
use Rattle.sp_history.proofs.OnceHolds.{has_value}
use Rattle.sp_history.proofs.Giving.{pull_gives}

-- ---- Along a legal history

module _ (z : Setting) (Q : List Entry → Type 0) (step : (k : ℕ) (before : List Entry) (e : Entry) → Q before → Allowed z k before e → Q (e ∷ before)) where
  along_turn : (k : ℕ) (before entries : List Entry) → Q before → Follows z k before entries → Q (onto entries before)
  along_turn k before [] q f = q
  along_turn k before (e ∷ entries) q f = along_turn k (e ∷ before) entries (step k before e q f.0) f.1

  pub along : (before : List Entry) (history : List (Turn Entry)) → Q before → LegalFrom z before history → Q (past_from before history)
  along before [] q l = q
  along before (t ∷ history) q l = along (onto t.entries before) history (along_turn t.number before t.entries q l.0.entries) l.1

-- ---- Two parts of a history

pub past_both : (past : List Entry) (h g : List (Turn Entry)) → past_from past (h ++ g) ≡ past_from (past_from past h) g
past_both past [] g = refl
past_both past (t ∷ h) g = past_both (onto t.entries past) h g

pub legal_prefix : (z : Setting) (past : List Entry) (h g : List (Turn Entry)) → LegalFrom z past (h ++ g) → LegalFrom z past h
legal_prefix z past [] g l = tt
legal_prefix z past (t ∷ h) g l = (l.0, legal_prefix z (onto t.entries past) h g l.1)

pub legal_rest : (z : Setting) (past : List Entry) (h g : List (Turn Entry)) → LegalFrom z past (h ++ g) → LegalFrom z (past_from past h) g
legal_rest z past [] g l = l
legal_rest z past (t ∷ h) g l = legal_rest z (onto t.entries past) h g l.1

-- ---- Nothing is given and nothing comes after the close

pub record Stays (past before : List Entry) : Type 0 where
  pub closed : is_closed before ≡ true
  pub given_is : given before ≡ given past
  pub frames_are : frame_total before ≡ frame_total past

stays_step : (z : Setting) (past : List Entry) (k : ℕ) (before : List Entry) (e : Entry) → Stays past before → Allowed z k before e → Stays past (e ∷ before)
stays_step z past k before e h a = go e (a.after_close h.closed) h
  where
    go : (e : Entry) → comes_after_close e ≡ true → Stays past before → Stays past (e ∷ before)
    go (Frame p b) c h = cc
    go (End op ending) c h = cc
    go (Close t) c h = cc
    go _ c h = record { closed = h.closed; given_is = h.given_is; frames_are = h.frames_are }

pub stays : (z : Setting) (past : List Entry) (turns : List (Turn Entry)) → is_closed past ≡ true → LegalFrom z past turns → Stays past (past_from past turns)
stays z past turns c l = along z (Stays past) (stays_step z past) past turns (record { closed = c; given_is = refl; frames_are = refl }) l

-- ---- A pull sends nothing, so what it has won is what it has given

abbrev AreReceives : List Begun → Type 0
AreReceives [] = Unit {0}
AreReceives (s ∷ ss) = (is_recv s.act ≡ true) × AreReceives ss

receives_more : (ss : List Begun) (s : Begun) → AreReceives ss → is_recv s.act ≡ true → AreReceives (ss ++ s ∷ [])
receives_more [] s h r = (r, tt)
receives_more (x ∷ ss) s h r = (h.0, receives_more ss s h.1 r)

receives_less : (ss : List Begun) (op : OpName) → AreReceives ss → AreReceives (without_begun ss op)
receives_less [] op h = tt
receives_less (s ∷ ss) op h = go (is_of op s) (receives_less ss op h.1)
  where
    go : (b : Bool) → AreReceives (without_begun ss op) → AreReceives (cond (not b) (s ∷ without_begun ss op) (without_begun ss op))
    go true r = r
    go false r = (h.0, r)

receives_found : (ss : List Begun) (op : OpName) (s : Begun) → AreReceives ss → find (is_of op) ss ≡ Some s → is_recv s.act ≡ true
receives_found [] op s h f = cc
receives_found (x ∷ ss) op s h f = go (is_of op x) f (λ e. receives_found ss op s h.1 e)
  where
    go : (b : Bool) → cond b (Some x) (find (is_of op) ss) ≡ Some s → (find (is_of op) ss ≡ Some s → is_recv s.act ≡ true) → is_recv s.act ≡ true
    go true e again = let same : x ≡ s = search (e, rules) in subst (λ (y : Begun). is_recv y.act ≡ true) same h.0
    go false e again = again e

-- the totals of the last close
abbrev TotalsBy : List Entry → Totals → Type 0
TotalsBy before t = (t.won ≡ up_to_most (length (given before))) × (t.frames ≡ up_to_most (frame_total before))

pub record Tallied (before : List Entry) : Type 0 where
  pub receives : AreReceives (pend before)
  pub won : (counts before).won ≡ length (given before)
  pub frames_are : (counts before).frames ≡ frame_total before

length_more : {A : Type 0} (xs : List A) (x : A) → length (xs ++ x ∷ []) ≡ length xs + 1
length_more [] x = refl
length_more (y ∷ xs) x = omega (arith, length_more xs x)

sends_none : (k : ℕ) (z : Setting) (before : List Entry) (op : OpName) (caller c : ℕ) (m : RecordedMessage) (d : Option ℕ) → z.role ≡ Pull → Allowed z k before (Begin op caller c (Send m) d) → ⊥
sends_none k z before op caller c m d role a = let does = a.itself.role_does in search (role, does, rules)

tallied_step : (z : Setting) → z.role ≡ Pull → (k : ℕ) (before : List Entry) (e : Entry) → Tallied before → Allowed z k before e → Tallied (e ∷ before)
tallied_step z role k before (Begin op caller c Recv d) h a = record { receives = receives_more (pend before) _ h.receives refl; won = h.won; frames_are = h.frames_are }
tallied_step z role k before (Begin op caller c (Send m) d) h a = absurd (sends_none k z before op caller c m d role a)
tallied_step z role k before (End op (Won (Received m))) h a = record { receives = receives_less (pend before) op h.receives; won = omega (arith, h.won, length_more (given before) m); frames_are = h.frames_are }
tallied_step z role k before (End op (Won Sent)) h a =
    let found = has_value (pending before op) _ a.itself in
    let r = receives_found (pend before) op found.0 h.receives found.1 in
    let no = found.2.0 in
    absurd (never (is_recv found.0.act) r no)
  where
    never : (b : Bool) → b ≡ true → not b ≡ true → ⊥
    never true r n = cc
    never false r n = cc
tallied_step z role k before (End op (Gone cause by)) h a = record { receives = receives_less (pend before) op h.receives; won = h.won; frames_are = h.frames_are }
tallied_step z role k before (Frame p b) h a = record { receives = h.receives; won = h.won; frames_are = omega (arith, h.frames_are) }
tallied_step z role k before _ h a = record { receives = h.receives; won = h.won; frames_are = h.frames_are }

pub record Summed (before : List Entry) : Type 0 where
  pub tally : Tallied before
  pub closes : (t : Totals) → closed_totals before ≡ Some t → TotalsBy before t × (is_closed before ≡ true)

summed_closes : (z : Setting) (k : ℕ) (before : List Entry) (e : Entry) → Summed before → Allowed z k before e → (t : Totals) → closed_totals (e ∷ before) ≡ Some t → TotalsBy (e ∷ before) t × (is_closed (e ∷ before) ≡ true)
summed_closes z k before (Close u) h a t same =
    let is : u ≡ t = search (same, rules) in
    let made : u ≡ totals before = a.itself.2 in
    ((ap (λ (x : Totals). x.won) (sym is ∙ made) ∙ ap up_to_most h.tally.won, ap (λ (x : Totals). x.frames) (sym is ∙ made) ∙ ap up_to_most h.tally.frames_are), refl)
summed_closes z k before (Frame p b) h a t same = let no : false ≡ true = a.after_close (h.closes t same).1 in cc
summed_closes z k before (End op ending) h a t same = let no : false ≡ true = a.after_close (h.closes t same).1 in cc
summed_closes z k before _ h a t same = h.closes t same

summed_step : (z : Setting) → z.role ≡ Pull → (k : ℕ) (before : List Entry) (e : Entry) → Summed before → Allowed z k before e → Summed (e ∷ before)
summed_step z role k before e h a = record { tally = tallied_step z role k before e h.tally a; closes = summed_closes z k before e h a }

none_closed : (t : Totals) → closed_totals [] ≡ Some t → TotalsBy [] t × (is_closed [] ≡ true)
none_closed t h = cc

pub summed : (z : Setting) (history : List (Turn Entry)) → z.role ≡ Pull → Legal z history → Summed (past_of history)
summed z history role l = along z Summed (summed_step z role) [] history (record { tally = record { receives = tt; won = refl; frames_are = refl }; closes = none_closed }) l

-- ---- Where the number of messages given is that of the frames from one pipe and from all, these are the frames

arrived_most : (z : Setting) (past : List Entry) → length (arrived z past) ≤ frame_total past
arrived_most z [] = omega arith
arrived_most z (Unkept p ∷ Frame q b ∷ past) = omega (arith, arrived_most z past)
arrived_most z (Frame q b ∷ past) = go (malformed z past q b) (arrived_most z past)
  where
    go : (c : Bool) → length (arrived z past) ≤ frame_total past → length (cond c (arrived z past) (arrived z past ++ message [] b ∷ [])) ≤ frame_total past + 1
    go true h = omega (arith, h)
    go false h = omega (arith, h, length_more (arrived z past) (message [] b))
arrived_most z (_ ∷ past) = arrived_most z past

frames_most : (past : List Entry) (p : ℕ) → length (frames past p) ≤ frame_total past
frames_most [] p = omega arith
frames_most (Frame q b ∷ past) p = go (q == p) (frames_most past p)
  where
    go : (c : Bool) → length (frames past p) ≤ frame_total past → length (cond c (frames past p ++ b ∷ []) (frames past p)) ≤ frame_total past + 1
    go true h = omega (arith, h, length_more (frames past p) b)
    go false h = omega (arith, h)
frames_most (_ ∷ past) p = frames_most past p

body_of : RecordedMessage → List ℕ
body_of m = m.body

bodies_more : (ms : List RecordedMessage) (b : List ℕ) → map (λ (m : RecordedMessage). m.body) (ms ++ message [] b ∷ []) ≡ map (λ (m : RecordedMessage). m.body) ms ++ b ∷ []
bodies_more [] b = refl
bodies_more (m ∷ ms) b = ap (λ (xs : List (List ℕ)). m.body ∷ xs) (bodies_more ms b)

are_frames : (z : Setting) (past : List Entry) (p : ℕ) → length (arrived z past) ≡ frame_total past → length (frames past p) ≡ frame_total past → map (λ (m : RecordedMessage). m.body) (arrived z past) ≡ frames past p
are_frames z [] p a f = refl
are_frames z (Unkept u ∷ Frame q b ∷ past) p a f = absurd (omega (arith, a, arrived_most z past))
are_frames z (Frame q b ∷ past) p a f = go (malformed z past q b) (q == p) a f (arrived_most z past) (frames_most past p) (are_frames z past p)
  where
    go : (c d : Bool) → length (cond c (arrived z past) (arrived z past ++ message [] b ∷ [])) ≡ frame_total past + 1 → length (cond d (frames past p ++ b ∷ []) (frames past p)) ≡ frame_total past + 1
        → length (arrived z past) ≤ frame_total past → length (frames past p) ≤ frame_total past
        → (length (arrived z past) ≡ frame_total past → length (frames past p) ≡ frame_total past → map (λ (m : RecordedMessage). m.body) (arrived z past) ≡ frames past p)
        → map (λ (m : RecordedMessage). m.body) (cond c (arrived z past) (arrived z past ++ message [] b ∷ [])) ≡ cond d (frames past p ++ b ∷ []) (frames past p)
    go true d a f am fm again = absurd (omega (arith, a, am))
    go false false a f am fm again = absurd (omega (arith, f, fm))
    go false true a f am fm again =
        bodies_more (arrived z past) b
        ∙ ap (λ (xs : List (List ℕ)). xs ++ b ∷ []) (again (omega (arith, a, length_more (arrived z past) (message [] b))) (omega (arith, f, length_more (frames past p) b)))
are_frames z (_ ∷ past) p a f = are_frames z past p a f

length_both : {A : Type 0} (xs ys : List A) → length (xs ++ ys) ≡ length xs + length ys
length_both [] ys = omega arith
length_both (x ∷ xs) ys = omega (arith, length_both xs ys)

none_left : {A : Type 0} (xs : List A) → length xs ≡ 0 → xs ≡ []
none_left [] h = refl
none_left (x ∷ xs) h = absurd (omega (arith, h))

pub gives_frames : (y : Setting) (h : List (Turn Entry)) (p n : ℕ) → Legal (as_pull y) h → length (given (past_of h)) ≡ n → frame_total (past_of h) ≡ n → length (frames (past_of h) p) ≡ n → map (λ (m : RecordedMessage). m.body) (given (past_of h)) ≡ frames (past_of h) p
gives_frames y h p n l g t f =
    let o = pull_gives y h l in
    let both = length_both (given (past_of h)) o.rest in
    let am = arrived_most (as_pull y) (past_of h) in
    let sizes = ap length o.in_order in
    let none : o.rest ≡ [] = none_left o.rest (omega (arith, g, t, both, am, sizes)) in
    let all : given (past_of h) ≡ arrived (as_pull y) (past_of h) = sym (append-nil (given (past_of h))) ∙ ap (λ (xs : List RecordedMessage). given (past_of h) ++ xs) (sym none) ∙ o.in_order in
    ap (map (λ (m : RecordedMessage). m.body)) all ∙ are_frames (as_pull y) (past_of h) p (sym (ap length all) ∙ g ∙ sym t) (f ∙ sym t)

-- ---- The name of a pipe stays

record Named (p : ℕ) (name : List ℕ) (before : List Entry) : Type 0 where
  is : name_of before p ≡ Some name
  known : p ≤ ups before

later_pipe : (p q n : ℕ) → p ≤ n → q ≡ n + 1 → (q == p) ≡ false
later_pipe p q n low is = grind (arith, nat_tests, low, is)

named_step : (z : Setting) (p : ℕ) (name : List ℕ) (k : ℕ) (before : List Entry) (e : Entry) → Named p name before → Allowed z k before e → Named p name (e ∷ before)
named_step z p name k before (Up q place limit n) h a = record { is = rw (later_pipe p q (ups before) h.known a.itself.0) h.is; known = omega (arith, h.known) }
named_step z p name k before _ h a = record { is = h.is; known = h.known }

pub still_named : (z : Setting) (h g : List (Turn Entry)) (p : ℕ) (name : List ℕ) → Legal z (h ++ g) → name_of (past_of h) p ≡ Some name → p ≤ ups (past_of h) → name_of (past_of (h ++ g)) p ≡ Some name
still_named z h g p name l is known =
    rw (past_both [] h g) (along z (Named p name) (named_step z p name) (past_of h) g (record { is = is; known = known }) (legal_rest z [] h g l)).is

-- ---- The end

-- the socket was closed with these totals, and nothing was given since
pub totals_given : (y : Setting) (h g : List (Turn Entry)) (t : Totals) → Legal (as_pull y) (h ++ g) → closed_totals (past_of h) ≡ Some t
    → (t.won ≡ up_to_most (length (given (past_of (h ++ g))))) × (t.frames ≡ up_to_most (frame_total (past_of (h ++ g)))) × (is_closed (past_of (h ++ g)) ≡ true)
totals_given y h g t l c =
    let s = (summed (as_pull y) h refl (legal_prefix (as_pull y) [] h g l)).closes t c in
    let r = stays (as_pull y) (past_of h) g s.1 (legal_rest (as_pull y) [] h g l) in
    let e = past_both [] h g in
    (s.0.0 ∙ ap (λ (ms : List RecordedMessage). up_to_most (length ms)) (sym (ap given e ∙ r.given_is)), s.0.1 ∙ ap up_to_most (sym (ap frame_total e ∙ r.frames_are)), ap is_closed e ∙ r.closed)

under_most : (n m : ℕ) → n ≡ up_to_most m → n ≤ 1000000 → m ≡ n
under_most n m h low = omega (arith, h, low)

-- a drill that has given as many as its one lane had gives them all
pub gives_all : (y : Setting) (h g : List (Turn Entry)) (p n : ℕ) (t : Totals) (came : List (List ℕ)) → Legal (as_pull y) (h ++ g) → closed_totals (past_of h) ≡ Some t → t.won ≡ n → t.frames ≡ n → n ≤ 1000000
    → came ≡ frames (past_of (h ++ g)) p → length came ≡ n → map (λ (m : RecordedMessage). m.body) (given (past_of (h ++ g))) ≡ came
gives_all y h g p n t came l c won fs low is size =
    let s = totals_given y h g t l c in
    gives_frames y (h ++ g) p n l (under_most n _ (sym won ∙ s.0) low) (under_most n _ (sym fs ∙ s.1) low) (ap length (sym is) ∙ size) ∙ sym is

-- ---- How a pipe comes up

same_pipe : (p : ℕ) → (p == p) ≡ true
same_pipe p = grind (arith, nat_tests)

-- after the turn in which the pipe came up it has its name
pub attached_named : (z : Setting) (h : List (Turn Entry)) (t : Turn Entry) (p place limit : ℕ) (name : WireNumbers) → Legal z (h ++ t ∷ []) → p ≡ ups (past_of h) + 1 → HasFirst (Up p place limit name) t → (name_of (past_of (h ++ t ∷ [])) p ≡ Some name.numbers) × (p ≤ ups (past_of (h ++ t ∷ [])))
attached_named z h t p place limit name l is f =
    let turn = (legal_rest z [] h (t ∷ []) l).0 in
    let follows = (subst (λ (es : List Entry). Follows z t.number (past_of h) es) f.entries turn.entries).1 in
    let up : Named p name.numbers (Up p place limit name ∷ past_of h) = record { is = rw (same_pipe p) refl; known = omega (arith, is) } in
    let n = along_turn z (Named p name.numbers) (named_step z p name.numbers) t.number (Up p place limit name ∷ past_of h) f.late up follows in
    let e : past_of (h ++ t ∷ []) ≡ onto f.late (Up p place limit name ∷ past_of h) = past_both [] h (t ∷ []) ∙ ap (λ (es : List Entry). onto es (past_of h)) f.entries in
    (ap (λ (x : List Entry). name_of x p) e ∙ n.is, subst (λ (x : List Entry). p ≤ ups x) (sym e) n.known)
